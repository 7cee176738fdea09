-- A picture whose text it is: what reading the text has to find. A text that is none's is refused.
-- Assumes nothing.
use Prim.Native.Nat.{ℕ, ◌+◌, ◌≤◌, ◌<◌}
use mathlib.Core.Path.{◌≡◌, refl, sym, ap, ap₂, subst, ◌∙◌}
use mathlib.Core.List.{List, [], ◌++◌, flat_map, append_assoc, Memᴰ}
use mathlib.Core.Bool.{Bool, true, false, ◌&&◌}
use native.Mathlib.Omega.{arith}
use borrow.Author.Tests.{lt-ltb, ltb-true, eq-eqb}
use lib.Dec.{eqb, ltb}
use lib.ListN.{length, get_or, drop, length-drop}
use Rattle.common.specs.Bits.{bit}
use Rattle.common.specs.Lists.{up_to, filter}
use Rattle.common.proofs.Bools.{bool-ext, true-false, and_intro}
use Rattle.common.proofs.Members.{up_to-below}
use Rattle.common.proofs.Sums.{flat_map-cong}
use Rattle.decimal.specs.Decimal.{starts_with}
use Rattle.decimal.proofs.Standing.{starts-length}
use Rattle.plan.specs.Groups.{Grouping, group_of, group_count, members}
use Rattle.plan.proofs.Groups.{highest-group}
use Rattle.plan.proofs.Named.{group-below-count}
use Rattle.plan.proofs.ModeDigits.{member_below, is_member}
use Rattle.picture.specs.declared.matching.Nodes.{Nodes}
use Rattle.picture.specs.Picture.{Picture, edges_by}
use Rattle.picture.specs.Text.{first_line, last_line, line_start, node_line, edge_line, text_of}
use Rattle.picture.specs.Reading.{drawable}
use Rattle.picture.specs.Kept.Matched.{NoPicture, labelled}
use Rattle.picture.specs.Kept.Rows.{label_start, node_of, edges_of}
use Rattle.picture.specs.Kept.Matched.{Grouped, NodesRead, Below, Drawn, EdgesRead, TextRead}
use Rattle.picture.proofs.Apart.{no-line-opens}
use Rattle.picture.proofs.DrawableMeans.{Drawable, drawable-means, few-groups, group-used}
use Rattle.picture.proofs.Seen.{is-labelled, labelled-seen}
use Rattle.picture.proofs.ShownText.{edges-rows, node-line, Matches, matches-few, matches-shown}
use Rattle.picture.proofs.Spanning.{starts-there, behind}

pub record Candidate (text : List ℕ) (p : Picture) (rel : ℕ → ℕ → Bool) : Type 0 where
  pub edges_are : p.edges ≡ edges_by rel (group_count p.groups)
  pub is-drawable : drawable p ≡ true
  pub text-is : text_of p ≡ text

pub no-picture : {text : List ℕ} → ((p : Picture) (rel : ℕ → ℕ → Bool) → Candidate text p rel → ⊥) → NoPicture text
no-picture never p rel e d t = never p rel (record { edges_are = e; is-drawable = d; text-is = t })

module _ {text : List ℕ} {p : Picture} {rel : ℕ → ℕ → Bool} (c : Candidate text p rel) where
  abbrev count : ℕ
  count = group_count p.groups

  means : Drawable p
  means = (drawable-means p).0 c.is-drawable

  -- the edges and the last line
  abbrev tail : List ℕ
  tail = flat_map (λ a. edges_of a (filter (rel a) (up_to (group_count p.groups)))) (up_to (group_count p.groups)) ++ last_line

  parts : drop 0 text
      ≡ first_line ++ (flat_map (λ j. node_of j (members p.groups j)) (up_to (group_count p.groups)) ++ tail)
  unfolding text_of
  parts =
      let nodes = flat_map-cong (node_line p.groups) (λ j. node_of j (members p.groups j)) (up_to count) (λ j j-in.
      node-line p.groups j) in
      let edges = ap (flat_map edge_line) c.edges_are ∙ edges-rows rel count in
      sym c.text-is ∙ ap₂ (λ a b. first_line ++ a ++ b ++ last_line) nodes edges
      ∙ ap (λ l. first_line ++ l)
      (append_assoc (flat_map (λ j. node_of j (members p.groups j)) (up_to count))
      (flat_map (λ a. edges_of a (filter (rel a) (up_to count))) (up_to count)) last_line)

  candidate-first : starts_with first_line (drop 0 text) ≡ true
  candidate-first = starts-there first_line _ parts

  groups-within : count ≤ length p.groups
  groups-within =
      let none : ¬ (length p.groups < count) = λ l.
      let (i, i-below, high) = highest-group p.groups (length p.groups) l in
      omega (arith, means.numbers-below i i-below) in
      omega arith

  grouped : Grouped text p.groups tail
  grouped =
      let few = few-groups p means in
      record {
        few-machines = means.few;
        few = few;
        some = group-used p means;
        stands = behind text 0 first_line parts;
        closed = λ k more l e.
            no-line-opens k 91 _ (omega arith) (λ a. a) (λ a. filter (rel a) (up_to count)) (up_to count)
            (λ a a_in. (let h = up_to-below count a_in in omega arith, λ same x. omega arith))
            (e ∙ append_assoc (line_start k) label_start more);
      }

  module _ {numbers : List ℕ} {r : Nodes} (nodes : NodesRead text numbers r) where
    same_count : r.count ≡ count
    same_count = (nodes.only p.groups tail grouped).0

    same-label : (j : ℕ) → j < r.count → labelled numbers r.seen j ≡ members p.groups j
    same-label = (nodes.only p.groups tail grouped).1

    -- the machines that were seen are those of the picture
    seen_are : (i : ℕ) → bit r.seen i ≡ ltb i (length p.groups)
    seen_are i =
        let stand = nodes.stand in
        bool-ext
        (λ t.
        let few = stand.few i t in
        let own = is-labelled numbers r.seen (omega arith) t in
        let there = subst (λ is. Memᴰ i is) (same-label (get_or numbers i 0) (stand.below i t)) own in
        lt-ltb i _ (member_below p.groups (get_or numbers i 0) there))
        (λ t.
        let l = ltb-true i (length p.groups) t in
        let k = group_of p.groups i in
        let h : k < r.count = omega (arith, same_count, group-below-count p.groups i l) in
        let there = subst (λ is. Memᴰ i is) (sym (same-label k h)) (is_member p.groups k l refl) in
        labelled-seen numbers r.seen k there)

    candidate-gapless : ((m : ℕ) → 0 < m → m ≤ 64 → ((i : ℕ) → bit r.seen i ≡ ltb i m) → ⊥) → ⊥
    candidate-gapless none = let few = means.few in none (length p.groups) means.some (omega arith) seen_are

    candidate-machines : {n : ℕ} → Below r.seen n → n < r.count → ⊥
    candidate-machines gapless l =
        let few = means.few in
        let n = gapless.only (length p.groups) means.some (omega arith) seen_are in
        omega (arith, same_count, groups-within)

    candidate-drawn : Drawn text r.end r.count rel
    candidate-drawn =
        (nodes.only p.groups tail grouped).2
        ∙ ap (λ n. flat_map (λ a. edges_of a (filter (rel a) (up_to n))) (up_to n) ++ last_line) (sym same_count)

    candidate-ends : {targets : List ℕ} {end : ℕ} → EdgesRead text r.end r.count targets end
        → starts_with last_line (drop end text) && eqb (end + 2) (length text) ≡ false → ⊥
    candidate-ends {end = end} edges f =
        let there = edges.only rel candidate-drawn in
        let size : end + 2 ≡ length text = omega (arith, ap length there, length-drop end text) in
        true-false (and_intro (starts-there last_line [] there) (eq-eqb _ _ size)) f

-- A text that is read, and one that is refused where reading it stops

pub text-found : {text numbers targets : List ℕ} {seen n count end last : ℕ}
    → Matches text numbers targets seen n count end last
    → TextRead text numbers targets (record { machines = n; groups = count })
text-found m =
    let few = matches-few m in
    let more = m.no_more in
    record { few-machines = few; few-groups = omega arith; shown = matches-shown m }

module _ (text : List ℕ) {opens : Bool} (o : opens ≡ starts_with first_line (drop 0 text)) where
  pub first-refused : opens ≡ false → NoPicture text
  first-refused f = no-picture (λ p rel c. true-false (o ∙ candidate-first c) f)

  pub first-long : opens ≡ true → 17 ≤ length text
  first-long t = starts-length first_line text (sym o ∙ t)

pub nodes-refused : {text : List ℕ} → ((groups : Grouping) (rest : List ℕ) → Grouped text groups rest → ⊥) → NoPicture text
nodes-refused none = no-picture (λ p rel c. none _ _ (grouped c))

module _ {text numbers : List ℕ} {r : Nodes} (nodes : NodesRead text numbers r) where
  pub nodes-inside : r.end ≤ length text
  nodes-inside = nodes.stand.spans.inside

  pub gaps-refused : ((m : ℕ) → 0 < m → m ≤ 64 → ((i : ℕ) → bit r.seen i ≡ ltb i m) → ⊥) → NoPicture text
  gaps-refused none = no-picture (λ p rel c. candidate-gapless c nodes none)

  -- a machine that was seen is of some group
  pub nodes-some : {n : ℕ} → Below r.seen n → 0 < r.count
  nodes-some {n} gapless = omega (arith, nodes.stand.below 0 (gapless.bits 0 ∙ lt-ltb 0 n gapless.some))

  pub machines-refused : {n : ℕ} → Below r.seen n → n < r.count → NoPicture text
  machines-refused gapless l = no-picture (λ p rel c. candidate-machines c nodes gapless l)

  pub edges-refused : ((rel : ℕ → ℕ → Bool) → Drawn text r.end r.count rel → ⊥) → NoPicture text
  edges-refused none = no-picture (λ p rel c. none rel (candidate-drawn c nodes))

  module _ {targets : List ℕ} {end : ℕ} (edges : EdgesRead text r.end r.count targets end) where
    pub edges-inside : end ≤ length text
    edges-inside = edges.stand.spans.inside

    pub end_refused : {closes : Bool}
        → closes ≡ (starts_with last_line (drop end text) && eqb (end + 2) (length text)) → closes ≡ false → NoPicture text
    end_refused is f = no-picture (λ p rel c. candidate-ends c nodes edges (sym is ∙ f))
