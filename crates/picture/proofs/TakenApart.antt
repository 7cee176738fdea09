-- The text of a picture, taken apart, gives the picture again.
-- Assumes nothing; of a picture that a sheet can have.
use Prim.Native.Nat.{ℕ, ◌≤◌, ◌<◌}
use mathlib.Core.Path.{◌≡◌, refl, sym, ap, ap₂, subst, ◌∙◌}
use mathlib.Core.List.{List, [], ◌∷◌, ◌++◌, map, flat_map, Memᴰ}
use mathlib.Core.Bool.{Bool, true, ◌||◌}
use native.Mathlib.Omega.{arith}
use borrow.Author.Tests.{lt-ltb}
use lib.Dec.{ltb}
use lib.ListN.{length}
use lib.Seq.{ext_get_or}
use Rattle.common.specs.Lists.{up_to, any}
use Rattle.common.proofs.Lists.{all-intro, filter-all}
use Rattle.common.proofs.Members.{up_to-below, length-up_to, length-map-up_to, get_or-map-up_to}
use Rattle.plan.specs.Groups.{group_of, group_count, members}
use Rattle.plan.proofs.Named.{group-below-count}
use Rattle.decimal.specs.Decimal.{is_digit}
use Rattle.picture.specs.Picture.{Picture, edges_by}
use Rattle.picture.specs.Text.{first_line, node_line, edge_line, text_of}
use Rattle.picture.specs.Reading.{Said, said_nothing, said_after, taken_apart, drawable}
use Rattle.picture.proofs.Edges.{leads, edges_by-members, edges-tell, edges_by-cong}
use Rattle.picture.proofs.Saying.{said-append, said-then}
use Rattle.picture.proofs.SayingNodes.{Numbered, nodes-break, said-nodes}
use Rattle.picture.proofs.SayingEdges.{Joined, edges-break, said-edges}
use Rattle.picture.proofs.DrawableMeans.{drawable-means, few-groups, group-used}

module _ (p : Picture) where
  abbrev count : ℕ
  count = group_count p.groups

  abbrev nodes : List ℕ
  nodes = flat_map (node_line p.groups) (up_to count)

  abbrev edges : List ℕ
  edges = flat_map edge_line p.edges

  -- the first line and the last say nothing
  text-said : said_after 0 (text_of p) said_nothing ≡ said_after 0 edges (said_after 0 nodes said_nothing)
  unfolding text_of said_after is_digit
  text-said =
      said-then (first_line ++ nodes ++ edges) 125 (10 ∷ []) said_nothing refl
      ∙ said-append 0 (first_line ++ nodes) edges said_nothing (edges-break p.edges)
      ∙ ap (said_after 0 edges) (said-append 0 first_line nodes said_nothing (nodes-break p.groups count))

  module _ (rel : ℕ → ℕ → Bool) (from : p.edges ≡ edges_by rel count) (few : length p.groups ≤ 32) (low : count ≤ 32)
      (used : (k : ℕ) → k < count → 0 < length (members p.groups k)) where
    abbrev before : Said
    before = said_after 0 nodes said_nothing

    numbers : Numbered p.groups count before
    numbers = said-nodes p.groups count (omega arith) (omega arith) used

    abbrev after : Said
    after = said_after 0 (text_of p) said_nothing

    joints : Joined before p.edges after
    joints =
        subst (Joined before p.edges) (sym text-said)
        (said-edges p.edges before numbers.still
        (λ e m.
        let (source, target, t) = (edges_by-members rel count e).0 (subst (Memᴰ e) from m) in
        (omega arith, omega arith)))

    all-machines : after.machines ≡ length p.groups
    all-machines =
        let n = length p.groups in
        let known : ℕ → Bool = λ i. ltb (group_of p.groups i) count in
        joints.machines
        ∙ numbers.counted
        ∙ ap length
        (filter-all known (up_to n)
        (all-intro known (up_to n) (λ i m. lt-ltb _ _ (group-below-count p.groups i (up_to-below n m)))))
        ∙ length-up_to n

    groups-back : map after.group (up_to after.machines) ≡ p.groups
    groups-back =
        ext_get_or 0 _ p.groups (length-map-up_to after.group after.machines ∙ all-machines)
        (λ i h.
        let l : i < after.machines = rw length-map-up_to at h in
        let k : i < length p.groups = omega (arith, all-machines) in
        get_or-map-up_to after.group 0 l
        ∙ joints.group i
        ∙ numbers.numbered i k (group-below-count p.groups i k))

    joined_back : (a k : ℕ) → a < count → k < count → after.joined a k ≡ rel a k
    joined_back a k h l =
        joints.joined a k
        ∙ ap (λ b. b || any (leads a k) p.edges) (numbers.none a k)
        ∙ ap (any (leads a k)) from
        ∙ edges-tell rel count a k h l

    edges-back : edges_by after.joined (group_count (map after.group (up_to after.machines))) ≡ p.edges
    edges-back =
        ap (λ groups. edges_by after.joined (group_count groups)) groups-back
        ∙ edges_by-cong after.joined rel count joined_back
        ∙ sym from

    pub picture-back : taken_apart (text_of p) ≡ p
    unfolding taken_apart
    picture-back = ap₂ (λ groups edges. record { groups = groups; edges = edges }) groups-back edges-back

pub taken-apart : (p : Picture) (rel : ℕ → ℕ → Bool) → p.edges ≡ edges_by rel (group_count p.groups)
    → drawable p ≡ true → taken_apart (text_of p) ≡ p
taken-apart p rel from h =
    let d = (drawable-means p).0 h in
    picture-back p rel from d.few (few-groups p d) (group-used p d)
