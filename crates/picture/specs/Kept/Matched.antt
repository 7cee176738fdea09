-- What the reader of a text finds from place to place, and that it finds all there is to find.
use Rattle.std.specs.Prelude.{ℕ, ◌+◌, ◌≤◌, ◌<◌, ◌≡◌, Bool, true, ◌&&◌, eqb, ltb, length, get_or, take, drop, Option, MatchOption}
use mathlib.Core.List.{List, ◌++◌, flat_map}
use Rattle.common.specs.Bits.{bit}
use Rattle.common.specs.Lists.{up_to, filter}
use Rattle.sets.specs.Kept.Sets.{lowered, elements}
use Rattle.decimal.specs.Decimal.{decimal}
use Rattle.decimal.specs.Meaning.{NoDigitFirst}
use Rattle.plan.specs.Groups.{Grouping, group_count, members}
use Rattle.picture.specs.declared.matching.Label.{Label}
use Rattle.picture.specs.declared.matching.Nodes.{Nodes}
use Rattle.picture.specs.declared.matching.Number.{Number}
use Rattle.picture.specs.declared.matching.Row.{Row}
use Rattle.picture.specs.declared.matching.Counts.{Counts}
use Rattle.picture.specs.Picture.{Picture, edges_by}
use Rattle.picture.specs.Text.{last_line, line_start, labels, text_of}
use Rattle.picture.specs.Kept.Rows.{label_start, label_end, arrow, node_of, edges_of}
use Rattle.picture.specs.Reading.{drawable}
use Rattle.picture.specs.Kept.Shown.{Shown}

-- the text is no picture's
abbrev pub NoPicture : List ℕ → Type 0
NoPicture text = (p : Picture) (rel : ℕ → ℕ → Bool) → p.edges ≡ edges_by rel (group_count p.groups)
    → drawable p ≡ true → text_of p ≡ text → ⊥

-- a piece stands at a place of the text, and ends at another
pub record Spans (text : List ℕ) (at : ℕ) (piece : List ℕ) (end : ℕ) : Type 0 where
  pub stands : drop at text ≡ piece ++ drop end text
  pub place : end ≡ at + length piece
  pub inside : end ≤ length text

-- number i, below n and above all of a set, is written at a place, and what is behind it
pub record Numbered (text : List ℕ) (at s n i : ℕ) (rest : List ℕ) : Type 0 where
  pub below : i < n
  pub above : lowered s i ≡ 0
  pub ends : NoDigitFirst rest
  pub stands : drop at text ≡ decimal i ++ rest

-- such a number that was read at a place
pub record NumberRead (text : List ℕ) (at s n : ℕ) (r : Number) : Type 0 where
  pub below : r.value < n
  pub above : lowered s r.value ≡ 0
  pub spans : Spans text at (decimal r.value) r.end
  pub only : (i : ℕ) (rest : List ℕ) → Numbered text at s n i rest → r.value ≡ i

-- the number is read where one is so written
abbrev pub NumberFound : List ℕ → ℕ → ℕ → ℕ → Option Number → Type 0
NumberFound text at s n r =
    MatchOption r ((i : ℕ) (rest : List ℕ) → Numbered text at s n i rest → ⊥) (NumberRead text at s n)

-- the numbers below n that are so, as a label at a place, and what is behind it
pub record Labelled (text : List ℕ) (at : ℕ) (q : ℕ → Bool) (n : ℕ) (rest : List ℕ) : Type 0 where
  pub few : n ≤ 32
  pub some : 0 < length (filter q (up_to n))
  pub stands : drop at text ≡ labels 34 (filter q (up_to n)) ++ label_end ++ rest

-- a label that was read at a place, with some machines
pub record LabelRead (text : List ℕ) (at : ℕ) (r : Label) : Type 0 where
  pub few : (i : ℕ) → bit r.machines i ≡ true → i < 32
  pub some : 0 < length (elements r.machines)
  pub spans : Spans text at (labels 34 (elements r.machines) ++ label_end) r.end
  pub only : (q : ℕ → Bool) (n : ℕ) (rest : List ℕ) → Labelled text at q n rest
      → elements r.machines ≡ filter q (up_to n)

-- the label is read where there is one
abbrev pub LabelFound : List ℕ → ℕ → Option Label → Type 0
LabelFound text at r =
    MatchOption r ((q : ℕ → Bool) (n : ℕ) (rest : List ℕ) → Labelled text at q n rest → ⊥) (LabelRead text at)

-- the same of the whole line of node k

pub record LineLabelled (text : List ℕ) (at k : ℕ) (q : ℕ → Bool) (n : ℕ) (rest : List ℕ) : Type 0 where
  pub few : n ≤ 32
  pub some : 0 < length (filter q (up_to n))
  pub stands : drop at text ≡ node_of k (filter q (up_to n)) ++ rest

pub record NodeRead (text : List ℕ) (at k : ℕ) (r : Label) : Type 0 where
  pub few : (i : ℕ) → bit r.machines i ≡ true → i < 32
  pub some : 0 < length (elements r.machines)
  pub spans : Spans text at (node_of k (elements r.machines)) r.end
  pub only : (q : ℕ → Bool) (n : ℕ) (rest : List ℕ) → LineLabelled text at k q n rest
      → elements r.machines ≡ filter q (up_to n)

abbrev pub NodeFound : List ℕ → ℕ → ℕ → Option Label → Type 0
NodeFound text at k r =
    MatchOption r ((q : ℕ → Bool) (n : ℕ) (rest : List ℕ) → LineLabelled text at k q n rest → ⊥) (NodeRead text at k)

-- of the machines that were seen, those whose number is j
unfoldable pub labelled : List ℕ → ℕ → ℕ → List ℕ
labelled numbers seen j = filter (λ i. bit seen i && eqb (get_or numbers i 0) j) (up_to 64)

-- the nodes of the first k groups stand at place 17
pub record NodesStand (text numbers : List ℕ) (seen k end : ℕ) : Type 0 where
  pub few : (i : ℕ) → bit seen i ≡ true → i < 32
  pub below : (i : ℕ) → bit seen i ≡ true → get_or numbers i 0 < k
  pub some : (j : ℕ) → j < k → 0 < length (labelled numbers seen j)
  pub spans : Spans text 17 (flat_map (λ j. node_of j (labelled numbers seen j)) (up_to k)) end

-- a grouping whose nodes begin the text, and what is behind them
pub record Grouped (text : List ℕ) (groups : Grouping) (rest : List ℕ) : Type 0 where
  pub few-machines : length groups ≤ 32
  pub few : group_count groups ≤ 32
  pub some : (k : ℕ) → k < group_count groups → 0 < length (members groups k)
  pub stands : drop 17 text ≡ flat_map (λ j. node_of j (members groups j)) (up_to (group_count groups)) ++ rest
  pub closed : (k : ℕ) (more : List ℕ) → k ≤ 32 → rest ≡ line_start k ++ label_start ++ more → ⊥

-- the nodes that were read
pub record NodesRead (text numbers : List ℕ) (r : Nodes) : Type 0 where
  pub count : r.count ≤ 32
  pub stand : NodesStand text numbers r.seen r.count r.end
  pub only : (groups : Grouping) (rest : List ℕ) → Grouped text groups rest → (r.count ≡ group_count groups)
      × ((j : ℕ) → j < r.count → labelled numbers r.seen j ≡ members groups j)
      × (drop r.end text ≡ rest)

-- they are read where they are a grouping's
abbrev pub NodesFound : List ℕ → List ℕ → Option Nodes → Type 0
NodesFound text numbers r =
    MatchOption r ((groups : Grouping) (rest : List ℕ) → Grouped text groups rest → ⊥) (NodesRead text numbers)

-- the set has the numbers below n, some, and no other
pub record Below (s n : ℕ) : Type 0 where
  pub some : 0 < n
  pub bits : (i : ℕ) → bit s i ≡ ltb i n
  pub only : (m : ℕ) → 0 < m → m ≤ 64 → ((i : ℕ) → bit s i ≡ ltb i m) → n ≡ m

-- n is told where there is such an n
abbrev pub Gapless : ℕ → Option ℕ → Type 0
Gapless s r = MatchOption r ((m : ℕ) → 0 < m → m ≤ 64 → ((i : ℕ) → bit s i ≡ ltb i m) → ⊥) (Below s)

-- the edges from group a to the groups below n that are so, at a place, and what is behind them
pub record Joined (text : List ℕ) (at a n : ℕ) (q : ℕ → Bool) (rest : List ℕ) : Type 0 where
  pub stands : drop at text ≡ edges_of a (filter q (up_to n)) ++ rest
  pub closed : (more : List ℕ) → rest ≡ line_start a ++ arrow ++ more → ⊥

-- the edges that were read
pub record RowRead (text : List ℕ) (at a n : ℕ) (r : Row) : Type 0 where
  pub below : (k : ℕ) → bit r.targets k ≡ true → k < n
  pub spans : Spans text at (edges_of a (elements r.targets)) r.end
  pub only : (q : ℕ → Bool) (rest : List ℕ) → Joined text at a n q rest → elements r.targets ≡ filter q (up_to n)

-- they are read where they are so
abbrev pub RowFound : List ℕ → ℕ → ℕ → ℕ → Option Row → Type 0
RowFound text at a n r =
    MatchOption r ((q : ℕ → Bool) (rest : List ℕ) → Joined text at a n q rest → ⊥) (RowRead text at a n)

-- the edges from the groups below k
pub record EdgesStand (text : List ℕ) (at n : ℕ) (targets : List ℕ) (k end : ℕ) : Type 0 where
  pub below : (a j : ℕ) → a < k → bit (get_or targets a 0) j ≡ true → j < n
  pub spans : Spans text at (flat_map (λ a. edges_of a (elements (get_or targets a 0))) (up_to k)) end

-- the edges of all groups stand at a place, and then the last line
abbrev pub Drawn : List ℕ → ℕ → ℕ → (ℕ → ℕ → Bool) → Type 0
Drawn text at n rel = drop at text ≡ flat_map (λ a. edges_of a (filter (rel a) (up_to n))) (up_to n) ++ last_line

-- the edges that were read, up to a place
pub record EdgesRead (text : List ℕ) (at n : ℕ) (targets : List ℕ) (end : ℕ) : Type 0 where
  pub stand : EdgesStand text at n targets n end
  pub only : (rel : ℕ → ℕ → Bool) → Drawn text at n rel → drop end text ≡ last_line

-- they are read where they are so
abbrev pub EdgesFound : List ℕ → ℕ → ℕ → List ℕ → Option ℕ → Type 0
EdgesFound text at n targets r = MatchOption r ((rel : ℕ → ℕ → Bool) → Drawn text at n rel → ⊥) (EdgesRead text at n targets)

-- the machines and groups of a text that was read
pub record TextRead (text numbers targets : List ℕ) (r : Counts) : Type 0 where
  pub few-machines : r.machines ≤ 32
  pub few-groups : r.groups ≤ 32
  pub shown : Shown text (take r.machines numbers) (take r.groups targets)

-- it is read where it is a picture's
abbrev pub TextFound : List ℕ → List ℕ → List ℕ → Option Counts → Type 0
TextFound text numbers targets r = MatchOption r (NoPicture text) (TextRead text numbers targets)
