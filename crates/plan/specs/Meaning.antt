-- Demand 2, stated: what the computed groups, routes, entries and bound mean. The statements use no search and no table, and
-- none of the tests that the computation is made of.
use Rattle.std.specs.Prelude.{ℕ, zero, suc, ◌+◌, ◌*◌, ◌≤◌, ◌<◌, ◌≡◌, ◌↔◌, true, length, get_or}
use mathlib.Core.List.{List, [], ◌∷◌, map, Memᴰ}
use Rattle.common.specs.Bits.{bit}
use Rattle.common.specs.Lists.{up_to, sum}
use Rattle.sheet.specs.Model.{Guard, Model, machine_count, mode_count, is_live_mode, move_count, move_at}
use Rattle.plan.specs.Needs.{Needs, Reaches}
use Rattle.plan.specs.Groups.{Grouping, group_of, group_count, members}
use Rattle.plan.specs.Modes.{Fits, size, mode_number, mode_in}
use Rattle.plan.specs.Table.{Entry}

-- The groups of a sheet: mutual reach, no more and no less, and lower numbers for what is needed.
pub record GroupsRight (m : Model) (groups : Grouping) : Type 0 where
  pub numbers-all : length groups ≡ machine_count m
  pub exactly : (i j : ℕ) → i < machine_count m → j < machine_count m
      → (group_of groups i ≡ group_of groups j) ↔ (Reaches m i j × Reaches m j i)
  -- numbers run from 0 without gaps
  pub below-count : (i : ℕ) → i < machine_count m → group_of groups i < group_count groups
  pub gapless : (k : ℕ) → k < group_count groups → (i : ℕ) × (i < machine_count m) × (group_of groups i ≡ k)
  pub needs-first : (i j : ℕ) → i < machine_count m → j < machine_count m → Needs m i j
      → group_of groups j ≤ group_of groups i
  -- when number k is given, the group that takes it holds a machine as small as any in a group that could take it
  pub smallest-next : (k j : ℕ) → k < group_count groups → j < machine_count m → k ≤ group_of groups j
      → ((a b : ℕ) → a < machine_count m → b < machine_count m → group_of groups a ≡ group_of groups j → Needs m a b
      → (group_of groups b ≡ group_of groups j → ⊥) → group_of groups b < k)
      → (i : ℕ) × (group_of groups i ≡ k) × (i ≤ j)

module _ (m : Model) (groups : Grouping) where
  -- machine i is one of group k
  abbrev pub Belongs : ℕ → ℕ → Type 0
  Belongs i k = (i < machine_count m) × (group_of groups i ≡ k)

  -- move v is one of group k
  abbrev pub MoveOf : ℕ → ℕ → Type 0
  MoveOf v k = (v < move_count m) × (group_of groups (move_at m v).machine ≡ k)

  -- g is a need of move v, on a machine of group a
  abbrev pub NeedOn : ℕ → ℕ → Guard → Type 0
  NeedOn v a g = Memᴰ g (move_at m v).guards × (group_of groups g.machine ≡ a)

  -- move v names group a, and that is not its own
  abbrev pub NamesOutside : ℕ → ℕ → Type 0
  NamesOutside v a = (a ≡ group_of groups (move_at m v).machine → ⊥) × ((g : Guard) × NeedOn v a g)

  -- group mode p of group k is live: all its machine modes are
  abbrev pub Live : ℕ → ℕ → Type 0
  Live k p = (i : ℕ) → Belongs i k → is_live_mode m i (mode_in m groups k p i) ≡ true

  -- in group mode q of group a all that move v needs of a holds at once
  abbrev pub Meets : ℕ → ℕ → ℕ → Type 0
  Meets v a q = (g : Guard) → NeedOn v a g → bit g.mask (mode_in m groups a q g.machine) ≡ true

  -- Inside group k, move v leads from the live group mode p, which has its from mode and meets its needs within k, to q, where
  -- its machine is in the to mode and every other as before.
  pub record Step (k v p q : ℕ) : Type 0 where
    pub own : MoveOf v k
    pub present : p < size m groups k
    pub wanted : q < size m groups k
    pub live : Live k p
    pub was : mode_in m groups k p (move_at m v).machine ≡ (move_at m v).from
    pub needs-hold : Meets v k p
    pub is-now : mode_in m groups k q (move_at m v).machine ≡ (move_at m v).to
    pub others : (i : ℕ) → Belongs i k → (i ≡ (move_at m v).machine → ⊥)
        → mode_in m groups k q i ≡ mode_in m groups k p i

  -- Routes and usable moves, each by the other: a route is made of usable moves, and usable asks for routes in lower groups.
  mutual
    -- d moves lead from group mode p to q of group k
    pub data Route : ℕ → ℕ → ℕ → ℕ → Type 0 where
      here : {k p : ℕ} → Route k zero p p
      move : {k d p q : ℕ} (v r : ℕ) → Usable v → Step k v p r → Route k d r q → Route k (suc d) p q

    -- from each live mode p of an outside group a that v names, `steps` a p moves lead to the mode `to` a p, where all that v
    -- needs of a holds at once
    pub data Usable : ℕ → Type 0 where
      always : {v : ℕ} (to steps : ℕ → ℕ → ℕ)
          → ((a p : ℕ) → NamesOutside v a → p < size m groups a → Live a p
          → (to a p < size m groups a) × Meets v a (to a p))
          → ((a p : ℕ) → NamesOutside v a → p < size m groups a → Live a p → Route a (steps a p) p (to a p))
          → Usable v

  -- a chain of d moves, and none shorter
  abbrev pub ShortestRoute : ℕ → ℕ → ℕ → ℕ → Type 0
  ShortestRoute k d p q = Route k d p q × ((c : ℕ) → Route k c p q → d ≤ c)

  -- move v starts a chain of d more moves from p to q
  abbrev pub Starts : ℕ → ℕ → ℕ → ℕ → ℕ → Type 0
  Starts k d p q v = Usable v × ((r : ℕ) × Step k v p r × Route k d r q)

  -- An entry is right: its distance is that of a shortest chain, its move starts one, and it says none only where none is.
  pub record EntryRight (k p q : ℕ) (e : Entry) : Type 0 where
    -- distance d other than 255 exactly if there is a chain of d moves and none shorter
    pub shortest : (d : ℕ) → (d ≡ 255 → ⊥) → (e.distance ≡ d) ↔ ShortestRoute k d p q
    -- 255, 255 exactly if there is no chain
    pub none : ((e.distance ≡ 255) × (e.move ≡ 255)) ↔ ((d : ℕ) → Route k d p q → ⊥)
    -- the first move starts a shortest chain, and is the lowest-numbered that does
    pub first : (d : ℕ) → e.distance ≡ suc d → (suc d ≡ 255 → ⊥) → Starts k d p q e.move
    pub lowest : (d : ℕ) → e.distance ≡ suc d → (suc d ≡ 255 → ⊥) → (v : ℕ) → Starts k d p q v → e.move ≤ v
    -- 0, 254 from a mode to itself
    pub itself : p ≡ q → (e.distance ≡ 0) × (e.move ≡ 254)

  -- A bound is right: L is the length of a longest shortest route, costs follow the rule of L and the named groups' costs, and
  -- the bound adds them up.
  pub record BoundRight (bound : ℕ) : Type 0 where
    pub longest : ℕ → ℕ
    pub none-longer : (k d p q : ℕ) → k < group_count groups → p < size m groups k → q < size m groups k
        → ShortestRoute k d p q → d ≤ longest k
    pub one-as-long : (k : ℕ) → k < group_count groups
        → (p : ℕ) × (q : ℕ) × (p < size m groups k) × (q < size m groups k) × ShortestRoute k (longest k) p q
    -- the outside groups that the usable moves of k name, each once
    pub named : ℕ → List ℕ
    pub named-exactly : (k a : ℕ) → k < group_count groups
        → Memᴰ a (named k) ↔ ((v : ℕ) × MoveOf v k × Usable v × NamesOutside v a)
    pub named-once : (k i : ℕ) → suc i < length (named k) → get_or (named k) i 0 < get_or (named k) (suc i) 0
    pub cost : ℕ → ℕ
    pub cost-is : (k : ℕ) → k < group_count groups → cost k ≡ longest k * (1 + sum (map cost (named k)))
    pub sum-of-costs : bound ≡ sum (map cost (up_to (group_count groups)))

-- the modes of some machines as one number: the first machine's mode, and the rest's number times its mode count
unfoldable pub as_one : Model → List ℕ → List ℕ → ℕ
as_one m modes [] = 0
as_one m modes (i ∷ is) = get_or modes i 0 + mode_count m i * as_one m modes is

-- A group mode's number and its machines' modes translate both ways, within range.
pub record ModesRight (m : Model) (groups : Grouping) (k : ℕ) : Type 0 where
  -- the machines of the group, rising
  pub members-exactly : (i : ℕ) → Memᴰ i (members groups k) ↔ Belongs m groups i k
  pub members-rise : (n : ℕ) → suc n < length (members groups k)
      → get_or (members groups k) n 0 < get_or (members groups k) (suc n) 0
  -- smaller machines weigh less
  pub number_is : (modes : List ℕ) → mode_number m groups k modes ≡ as_one m modes (members groups k)
  pub number-below : (modes : List ℕ) → Fits m modes → mode_number m groups k modes < size m groups k
  pub mode-below : (p i : ℕ) → Belongs m groups i k → mode_in m groups k p i < mode_count m i
  pub there_and_back : (modes : List ℕ) (i : ℕ) → Fits m modes → Belongs m groups i k
      → mode_in m groups k (mode_number m groups k modes) i ≡ get_or modes i 0
  pub back-and-there : (p : ℕ) → p < size m groups k
      → mode_number m groups k (map (mode_in m groups k p) (up_to (machine_count m))) ≡ p
