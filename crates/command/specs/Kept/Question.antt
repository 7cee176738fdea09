-- How the code keeps one question: what its goal allows, the groups that the plan numbers, and the mode that each is in.
use Rattle.std.specs.Prelude.{ℕ, ◌+◌, ◌/◌, ◌≤◌, ◌<◌, ◌≡◌, ◌↔◌, Bool, true, false, not, ◌&&◌, ◌||◌, length, get_or, eqb, ltb}
use mathlib.Core.List.{List, Memᴰ}
use Rattle.common.specs.Bits.{bit, beyond}
use Rattle.common.specs.Lists.{up_to, any, pad}
use Rattle.common.specs.Reply.{clear}
use Rattle.sheet.specs.Record.{part}
use Rattle.sheet.specs.Model.{Move, Model, machine_count, mode_count}
use Rattle.sheet.specs.declared.index.Sheet.{Sheet}
use Rattle.sheet.specs.Kept.Indexed.{Indexes}
pub use Rattle.sheet.specs.Kept.Indexed.{Listed}
use Rattle.sheet.specs.Valid.{Valid}
use Rattle.plan.specs.declared.partition.Groups.{Groups}
use Rattle.plan.specs.Groups.{Grouping, group_of, group_count, named_outside}
use Rattle.plan.specs.Modes.{size}
use Rattle.plan.specs.Kept.ModeSets.{ModesHeld}
use Rattle.plan.specs.Bytes.{table_at}
use Rattle.plan.specs.Table.{Entry}
use Rattle.plan.specs.Reading.{groups_in, entry_at, well_shaped}
use Rattle.plan.specs.Kept.Outline.{Outlined}
use Rattle.plan.specs.Kept.Partition.{MemberSets}
use Rattle.plan.specs.Kept.Showing.{Lives}
pub use Rattle.plan.specs.Kept.Showing.{NamedBy}
use Rattle.plan.specs.Reading.{counted, every_move}
use Rattle.command.specs.State.{mode_of, state_faults}
use Rattle.command.specs.Goal.{Masks, any_mode, met, allowed}
use Rattle.command.specs.Ancestors.{upstream_in}
use Rattle.command.specs.Attainable.{present, live_group, dead_end}
use Rattle.command.specs.Next.{target_of}

-- what a goal allows each machine of its modes, and nothing beyond them
pub record Allows (m : Model) (masks : Masks) (array : List ℕ) : Type 0 where
  pub each : (i mode : ℕ) → i < machine_count m → mode < mode_count m i
      → bit (get_or array i 0) mode ≡ bit (get_or masks i any_mode) mode
  pub within : (i : ℕ) → i < machine_count m → beyond (mode_count m i) (get_or array i 0) ≡ false

-- a sheet that passes, a plan in shape for it, and what is kept of both: the sheet's index x, the groups g, and the starts of their
-- records
pub record Opened (m : Model) (file plan : List ℕ) (x : Sheet) (g : Groups) (starts : List ℕ) : Type 0 where
  pub indexes : Indexes file x m
  pub shaped : well_shaped m plan ≡ true
  pub outlined : Outlined m plan g starts
  pub long : length starts ≡ 33

-- a state that passes 13, for a plan in shape, by the plan's numbers
pub record Placed (m : Model) (plan state numbers : List ℕ) : Type 0 where
  pub valid : Valid m
  pub shaped : well_shaped m plan ≡ true
  pub passes : clear (state_faults m state) ≡ true
  pub numbered : numbers ≡ groups_in m plan

-- how many machines a state is for
abbrev pub machines_in : List ℕ → ℕ
machines_in state = length state / 2

-- The facts of a question, in one array: of each of n machines its group and its weight, of each group its size and the
-- mode that it is in.
unfoldable pub numbers_in : List ℕ → ℕ → List ℕ
numbers_in facts n = part facts 0 n

unfoldable pub weights_in : List ℕ → List ℕ
weights_in facts = part facts 32 32

unfoldable pub sizes_in : List ℕ → List ℕ
sizes_in facts = part facts 64 32

unfoldable pub size_in : List ℕ → ℕ → ℕ
size_in facts k = get_or facts (64 + k) 0

unfoldable pub present_in : List ℕ → ℕ → ℕ
present_in facts k = get_or facts (96 + k) 0

-- a question about a state, under a plan: its facts, the group modes in which each machine is in mode 0 with the live modes of each
-- group behind them, and where the tables begin
pub record Kept (m : Model) (plan state facts zeros starts : List ℕ) : Type 0 where
  pub long : length facts ≡ 128
  pub starts-long : length starts ≡ 33
  pub sets-long : length zeros ≡ 64
  pub placed : Placed m plan state (numbers_in facts (machine_count m))
  pub held : ModesHeld m (groups_in m plan) (weights_in facts) zeros
  pub lives : Lives m (groups_in m plan) (group_count (groups_in m plan)) zeros
  pub sizes : (k : ℕ) → k < group_count (groups_in m plan) → size_in facts k ≡ size m (groups_in m plan) k
  pub present-modes : (k : ℕ) → k < group_count (groups_in m plan) → present_in facts k ≡ present m plan state k
  pub starts-at : (k : ℕ) → k < group_count (groups_in m plan) → get_or starts k 0 ≡ table_at m (groups_in m plan) k

-- a set of groups of the plan
abbrev pub GroupsOnly : Model → List ℕ → ℕ → Type 0
GroupsOnly m plan s = (k : ℕ) → bit s k ≡ true → k < group_count (groups_in m plan)

module _ (m : Model) (plan state : List ℕ) where
  -- s holds the groups that a goal leaves unmet
  pub record UnmetSet (masks : Masks) (s : ℕ) : Type 0 where
    pub bits : (k : ℕ) → k < 64 → bit s k ≡ not (met (groups_in m plan) masks state k)

  -- s holds the groups that are not live
  pub record FailedSet (s : ℕ) : Type 0 where
    pub bits : (k : ℕ) → k < 64 → bit s k ≡ not (live_group m plan state k)

  -- of some groups, s holds those that may be stranded
  pub record StrandedSet (masks : Masks) (among s : ℕ) : Type 0 where
    pub bits : (k : ℕ) → bit s k ≡ (bit among k && dead_end m plan state masks k)

-- what 16 and 18 look for: of group k and those upstream of it, those that are not live; of those upstream, the stranded
pub record Hindered (m : Model) (plan : List ℕ) (counts : ℕ → Bool) (state : List ℕ) (masks : Masks) (k dead lost : ℕ) : Type 0 where
  pub dead-bits : (a : ℕ) → bit dead a ≡ ((eqb a k || upstream_in m plan counts k a) && not (live_group m plan state a))
  pub lost-bits : (a : ℕ) → bit lost a ≡ (upstream_in m plan counts k a && dead_end m plan state masks a)

-- neither can apply to any of some groups
pub record Unhindered (m : Model) (plan : List ℕ) (counts : ℕ → Bool) (state : List ℕ) (masks : Masks) (groups : ℕ) : Type 0 where
  pub none : (k : ℕ) → bit groups k ≡ true → Hindered m plan counts state masks k 0 0

-- of the groups upstream of some groups, s holds those that may be stranded
pub record StrandedAbove (m : Model) (plan : List ℕ) (counts : ℕ → Bool) (state : List ℕ) (masks : Masks) (groups s : ℕ) : Type 0 where
  pub bits : (k a : ℕ) → bit groups k ≡ true → upstream_in m plan counts k a ≡ true → bit s a ≡ dead_end m plan state masks a

-- a counted move of group c names group a
abbrev pub Names : Model → List ℕ → (ℕ → Bool) → ℕ → ℕ → Type 0
Names m plan counts c a = Memᴰ a (named_outside m (groups_in m plan) c (counted m plan counts c))

-- s holds the groups upstream of group k
pub record UpstreamSet (m : Model) (plan : List ℕ) (counts : ℕ → Bool) (k s : ℕ) : Type 0 where
  pub bits : (a : ℕ) → bit s a ≡ upstream_in m plan counts k a

-- s holds the groups that are upstream of one of some groups, all of them groups of the plan
pub record UpstreamOfSome (m : Model) (plan : List ℕ) (counts : ℕ → Bool) (groups s : ℕ) : Type 0 where
  pub bits : GroupsOnly m plan groups → (a : ℕ) → bit s a ≡ any (λ k. bit groups k && upstream_in m plan counts k a) (up_to 32)

-- The marks s of what is upstream of some groups, when a pass down the group numbers has been at number j.
pub record MarkedFrom (m : Model) (plan : List ℕ) (counts : ℕ → Bool) (groups j s : ℕ) : Type 0 where
  -- from j up they are final
  pub final : (a : ℕ) → j ≤ a → (bit s a ≡ true) ↔ ((b : ℕ) × (bit groups b ≡ true) × (upstream_in m plan counts b a ≡ true))
  -- below j so far those are marked that a group from j up names, if that is one of the groups or marked
  pub so_far : (a : ℕ) → a < j → (bit s a ≡ true)
      ↔ ((c : ℕ) × (j ≤ c) × (bit s c || bit groups c ≡ true) × Names m plan counts c a)

-- of the modes of group k, s holds those that a goal allows
pub record AllowedSet (m : Model) (plan : List ℕ) (masks : Masks) (k s : ℕ) : Type 0 where
  pub bits : (q : ℕ) → bit s q ≡ (ltb q (size m (groups_in m plan) k) && allowed m (groups_in m plan) masks k q)

-- for each of some groups, the set of its modes that a goal allows
pub record AllowedSets (m : Model) (plan : List ℕ) (masks : Masks) (among : ℕ) (sets : List ℕ) : Type 0 where
  pub each : (k : ℕ) → bit among k ≡ true → AllowedSet m plan masks k (get_or sets k 0)

-- s holds the groups below 64 on which a need of a move fails
pub record HeldUp (groups : Grouping) (state : List ℕ) (v : Move) (s : ℕ) : Type 0 where
  pub bits : (a : ℕ) → a < 64
      → bit s a ≡ any (λ g. eqb (group_of groups g.machine) a && not (bit g.mask (mode_of state g.machine))) v.guards

-- and none of these is the move's own
pub record OnlyOutside (groups : Grouping) (state : List ℕ) (v : Move) (s : ℕ) : Type 0 where
  pub held : HeldUp groups state v s
  pub not_own : bit s (group_of groups v.machine) ≡ false

-- the plan's entry from the present mode of group k to its target
unfoldable pub entry_toward : Model → List ℕ → List ℕ → Masks → ℕ → Entry
entry_toward m plan state masks k = entry_at m plan k (present m plan state k) (target_of m plan state masks k)

-- a question, with the groups that its goal leaves unmet and what it allows of each
pub record Leaves (m : Model) (plan state : List ℕ) (goal : Masks) (starts facts zeros numbers wanted : List ℕ) (unmet : ℕ)
    : Type 0 where
  pub kept : Kept m plan state facts zeros starts
  pub numbered : numbers ≡ groups_in m plan
  pub unmet-groups : UnmetSet m plan state goal unmet
  pub only : GroupsOnly m plan unmet
  pub allows : AllowedSets m plan goal unmet wanted

-- and what 16 and 18 are judged by: the groups that each names, those that are not live, and those upstream that may be stranded
pub record Posed (m : Model) (counts : ℕ → Bool) (plan state : List ℕ) (goal : Masks)
    (starts facts zeros numbers named wanted : List ℕ) (unmet failed lost : ℕ) : Type 0 where
  pub leaves : Leaves m plan state goal starts facts zeros numbers wanted unmet
  pub naming : NamedBy m plan counts named
  pub not_live : FailedSet m plan state failed
  pub stranding : StrandedAbove m plan counts state goal unmet lost

-- a sheet's moves beside it, and of the groups upstream of an unmet one if every move counts, what is allowed of each
pub record Uncertain (m : Model) (file plan state : List ℕ) (goal : Masks) (places starts facts zeros numbers wanted : List ℕ)
    (unmet failed above : ℕ) : Type 0 where
  pub leaves : Leaves m plan state goal starts facts zeros numbers wanted unmet
  pub listed : Listed m file places
  pub not_live : FailedSet m plan state failed
  pub upper : UpstreamOfSome m plan every_move unmet above
  pub allows-above : AllowedSets m plan goal above wanted

-- a question, with what its goal allows each machine and the groups that it leaves unmet
pub record KeptGoal (m : Model) (file plan state : List ℕ) (goal : Masks)
    (places starts facts zeros named machines live masks : List ℕ) (left : ℕ) : Type 0 where
  pub kept : Kept m plan state facts zeros starts
  pub listed : Listed m file places
  pub naming : NamedBy m plan every_move named
  pub members : MemberSets (groups_in m plan) machines
  pub lives : live ≡ pad 32 m.live
  pub allows : Allows m goal masks
  pub leaves : UnmetSet m plan state goal left
