-- How the code keeps needs and groups: sets of machines, as numbers. A list of sets has one for each machine.
use Rattle.std.specs.Prelude.{ℕ, ◌≤◌, ◌<◌, ◌≡◌, List, Bool, true, cond, not, ◌&&◌, ◌||◌, length, get_or, eqb, ltb}
use Rattle.common.specs.Bits.{bit}
use Rattle.common.specs.Lists.{up_to, any, find}
use Rattle.common.specs.Graph.{Graph, distances}
use Rattle.sets.specs.Kept.Sets.{less, elements}
use Rattle.search.specs.Kept.Search.{graph_of, Holds, Reached}
use Rattle.sheet.specs.Model.{Move}
use Rattle.plan.specs.Needs.{names}
use Rattle.plan.specs.Groups.{together}

-- s holds the machines below 64 that move v names
pub record NamedIn (v : Move) (s : ℕ) : Type 0 where
  pub bits : (j : ℕ) → j < 64 → bit s j ≡ names v j

-- for each of n machines, those that it reaches
pub record ReachSets (next : List ℕ) (n : ℕ) (reach : List ℕ) : Type 0 where
  pub each : (i : ℕ) → i < n → Reached (graph_of next) i (get_or reach i 0)

-- s holds those that i reaches and that reach i
pub record Mutual (reach : List ℕ) (i s : ℕ) : Type 0 where
  pub bits : (j : ℕ) → bit s j ≡ (bit (get_or reach i 0) j && bit (get_or reach j 0) i)

pub record MutualSets (reach : List ℕ) (n : ℕ) (groups : List ℕ) : Type 0 where
  pub each : (i : ℕ) → i < n → Mutual reach i (get_or groups i 0)

-- s holds what the members of a group need, less the group
pub record Outside (next : List ℕ) (group s : ℕ) : Type 0 where
  pub bits : (j : ℕ) → bit s j ≡ (any (λ i. bit (get_or next i 0) j) (elements group) && not (bit group j))

pub record OutsideSets (next groups : List ℕ) (n : ℕ) (outside : List ℕ) : Type 0 where
  pub each : (i : ℕ) → i < n → Outside next (get_or groups i 0) (get_or outside i 0)

-- machine i has no number, and those that its group needs outside have one
unfoldable pub is_ready_by : ℕ → ℕ → ℕ → Bool
is_ready_by outside numbered i = not (bit numbered i) && eqb (less outside numbered) 0

-- of the groups that are ready for a number, the one with the smallest machine; empty if there is none
unfoldable pub next_group : List ℕ → List ℕ → ℕ → ℕ → ℕ
next_group groups outside numbered n =
    let i = find (λ j. is_ready_by (get_or outside j 0) numbered j) (up_to n) n in
    cond (ltb i n) (get_or groups i 0) 0

-- the sets are those of the graph g of needs of n machines: each machine's group, and what that needs outside
pub record Grouped (g : Graph) (n : ℕ) (groups outside : List ℕ) : Type 0 where
  pub size : length g ≡ n
  pub next : List ℕ
  pub holds : Holds g next
  pub group : (i : ℕ) → i < n → (j : ℕ) → bit (get_or groups i 0) j ≡ together g (distances g) i j
  pub needs : OutsideSets next groups n outside

-- Which groups need a group: by numbers for the machines

-- the machines in a set have numbers below 32
pub record GroupsBelow (numbers : List ℕ) (machines : ℕ) : Type 0 where
  pub below : (j : ℕ) → bit machines j ≡ true → get_or numbers j 0 < 32

-- one of the machines in a set is of group a
unfoldable pub some_of : List ℕ → ℕ → ℕ → Bool
some_of numbers machines a = any (λ j. eqb (get_or numbers j 0) a) (elements machines)

-- k comes to the sets of the groups of some machines
pub record PutInto (before numbers : List ℕ) (machines k : ℕ) (after : List ℕ) : Type 0 where
  pub bits : (a b : ℕ) → bit (get_or after a 0) b ≡ (bit (get_or before a 0) b || eqb k b && some_of numbers machines a)

-- numbers below 32 for n machines, and the sets of machines that each of them needs
pub record NumberedNeeds (next numbers : List ℕ) (n : ℕ) : Type 0 where
  pub sets : length next ≡ 64
  pub bytes : length numbers ≡ 64
  pub few : n ≤ 32
  pub inside : (i j : ℕ) → bit (get_or next i 0) j ≡ true → j < n
  pub below : (i : ℕ) → i < n → get_or numbers i 0 < 32

-- of the machines before i, one of group k needs one of group a
unfoldable pub some_needs : List ℕ → List ℕ → ℕ → ℕ → ℕ → Bool
some_needs next numbers i a k = any (λ j. eqb (get_or numbers j 0) k && some_of numbers (get_or next j 0) a) (up_to i)

-- for each group, the set of the other groups that need it
pub record TargetSets (next numbers : List ℕ) (n : ℕ) (sets : List ℕ) : Type 0 where
  pub bits : (a k : ℕ) → bit (get_or sets a 0) k ≡ (not (eqb a k) && some_needs next numbers n a k)
