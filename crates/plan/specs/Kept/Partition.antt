-- How the code keeps the groups of given numbers.
use Rattle.std.specs.Prelude.{ℕ, ◌≤◌, ◌<◌, ◌≡◌, List, map, Bool, true, not, ◌&&◌, ◌||◌, length, get_or, eqb, ltb}
use Rattle.common.specs.Bits.{bit}
use Rattle.common.specs.Lists.{up_to, any, filter, pad}
use Rattle.sheet.specs.declared.index.Sheet.{Sheet}
use Rattle.sheet.specs.Model.{Move, Model, machine_count}
use Rattle.sheet.specs.Valid.{Valid}
use Rattle.plan.specs.declared.partition.Groups.{Groups}
use Rattle.plan.specs.Groups.{Grouping, group_of, group_count, moves_of, names_group, named_outside}
use Rattle.plan.specs.Modes.{weight}
use Rattle.plan.specs.Kept.Sizes.{capped, capped_sizes}

-- a number below 32 for each machine of a sheet
pub record Numbers (x : Sheet) (numbers : List ℕ) : Type 0 where
  pub one_each : length numbers ≡ x.machines
  pub below : (i : ℕ) → i < length numbers → get_or numbers i 0 < 32

-- a valid sheet, and a number below 32 for each of its machines
pub record Numbered (m : Model) (numbers : List ℕ) : Type 0 where
  pub valid : Valid m
  pub one_each : length numbers ≡ machine_count m
  pub below : (i : ℕ) → i < length numbers → get_or numbers i 0 < 32

-- the weight of each machine in its group
unfoldable pub capped_weights : Model → Grouping → List ℕ
capped_weights m groups = pad 32 (map (λ i. capped (weight m groups (group_of groups i) i)) (up_to (length groups)))

-- s holds the groups below 64 that move v names
pub record NamesIn (groups : Grouping) (v : Move) (s : ℕ) : Type 0 where
  pub bits : (a : ℕ) → a < 64 → bit s a ≡ names_group groups a v

-- and those outside its own group
pub record OutsideIn (groups : Grouping) (v : Move) (own s : ℕ) : Type 0 where
  pub bits : (a : ℕ) → a < 64 → bit s a ≡ (names_group groups a v && not (eqb own a))

-- those of a move that counts; none where its byte is 0
pub record OutsideNamed (groups : Grouping) (v : Move) (own counts s : ℕ) : Type 0 where
  pub bits : (a : ℕ) → a < 64 → bit s a ≡ (not (eqb counts 0) && (names_group groups a v && not (eqb own a)))

-- s adds to a known set the groups outside its own that move v names, if it counts
pub record AddsNamed (groups : Grouping) (v : Move) (own : ℕ) (counts : Bool) (known s : ℕ) : Type 0 where
  pub bits : (a : ℕ) → a < 64
      → (bit known a || bit s a) ≡ (bit known a || (counts && (names_group groups a v && not (eqb own a))))

-- the moves of group k that count, by a byte for each move
unfoldable pub counted_moves : Model → Grouping → List ℕ → ℕ → List ℕ
counted_moves m groups counted k = filter (λ v. not (eqb (get_or counted v 0) 0)) (moves_of m groups k)

-- for each group, the set of the outside groups that its counted moves name
pub record NamedSets (m : Model) (groups : Grouping) (counted sets : List ℕ) : Type 0 where
  pub bits : (k a : ℕ) → k < 32
      → bit (get_or sets k 0) a ≡ any (eqb a) (named_outside m groups k (counted_moves m groups counted k))

-- for each group, the set of its machines
pub record MemberSets (groups : Grouping) (sets : List ℕ) : Type 0 where
  pub bits : (k i : ℕ) → k < 32 → bit (get_or sets k 0) i ≡ (ltb i (length groups) && eqb (group_of groups i) k)

-- for each of at most 32 groups, the set of the outside groups that its moves name
pub record OthersNamed (m : Model) (groups : Grouping) (sets : List ℕ) : Type 0 where
  pub long : length sets ≡ 32
  pub few : group_count groups ≤ 32
  pub bits : (k a : ℕ) → k < 32 → bit (get_or sets k 0) a ≡ any (eqb a) (named_outside m groups k (moves_of m groups k))

-- the groups of a sheet, all moves counting
pub record Partitioned (m : Model) (groups : Grouping) (r : Groups) : Type 0 where
  pub count : r.count ≡ group_count groups
  pub numbers : r.numbers ≡ pad 32 groups
  pub sizes : r.sizes ≡ capped_sizes m groups
  pub weights : r.weights ≡ capped_weights m groups
  pub named : (k a : ℕ) → k < 32
      → bit (get_or r.named k 0) a ≡ any (eqb a) (named_outside m groups k (moves_of m groups k))

-- for each group, the set of the other groups whose moves name it
pub record NeededBy (m : Model) (groups : Grouping) (sets : List ℕ) : Type 0 where
  pub bits : (a k : ℕ) → bit (get_or sets a 0) k ≡ any (eqb a) (named_outside m groups k (moves_of m groups k))
  pub inside : (a k : ℕ) → bit (get_or sets a 0) k ≡ true → k < group_count groups
