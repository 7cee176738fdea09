-- Planning and the plan's length: the replies, with 9 to 12 of "Why a call is turned down".
use Rattle.std.specs.Prelude.{ℕ, ◌*◌, List, [], ◌∷◌, ◌++◌, map, Bool, not, ◌||◌, length, replicate, eqb, ltb}
use Rattle.common.specs.Lists.{up_to, any, find, sum}
use Rattle.common.specs.Reply.{Reply, given, refused, Fault, fault, unless, and_then}
use Rattle.sheet.specs.Model.{Model}
use Rattle.sheet.specs.Parse.{parse}
use Rattle.plan.specs.Groups.{Grouping, group_count, groups_of, smallest_member}
use Rattle.plan.specs.Modes.{size}
use Rattle.plan.specs.Routes.{routes_upto}
use Rattle.plan.specs.Bound.{plan_bound}
use Rattle.plan.specs.Bytes.{bytes_of, plan_length}

module _ (m : Model) (groups : Grouping) where
  -- 9: a group of more than 64 modes; the lowest-numbered such group
  unfoldable pub large : ℕ → Bool
  large k = ltb 64 (size m groups k)

  unfoldable pub large_group : Bool
  large_group = any large (up_to (group_count groups))

  unfoldable pub large_place : ℕ
  large_place = smallest_member groups (find large (up_to (group_count groups)) 0)

  -- 10: the tables have more than 16,384 entries together
  unfoldable pub large_plan : Bool
  large_plan = ltb 16384 (sum (map (λ k. size m groups k * size m groups k) (up_to (group_count groups))))

  -- 11: the bound does not fit 16 bits
  unfoldable pub large_bound : Bool
  large_bound = ltb 65535 (plan_bound m groups (routes_upto m groups (group_count groups)))

  -- 9 and 10, in this order
  unfoldable pub size_faults : List Fault
  size_faults = fault 9 large_place large_group ∷ fault 10 0 large_plan ∷ []

  -- 12: the plan buffer has another length, or the scratch is below 512 bytes
  unfoldable pub wrong_buffer : ℕ → ℕ → Bool
  wrong_buffer buffer scratch = not (eqb buffer (plan_length m groups)) || ltb scratch 512

-- the plan of a sheet
unfoldable pub own_plan : Model → List ℕ
own_plan m =
    let groups = groups_of m in
    bytes_of m groups (routes_upto m groups (group_count groups))

-- the reply of the plan's length: tests 1 to 8 and 21, 9, 10
unfoldable pub length_reply : List ℕ → Reply ℕ
length_reply sheet =
    and_then (parse sheet) (λ d.
    let groups = groups_of d.model in
    unless (size_faults d.model groups) (given (plan_length d.model groups)))

-- the reply of planning, with the lengths of the lent plan buffer and scratch: tests 1 to 8 and 21, 9 to 12
unfoldable pub plan_reply : List ℕ → ℕ → ℕ → Reply (List ℕ)
plan_reply sheet buffer scratch =
    and_then (parse sheet) (λ d.
    let groups = groups_of d.model in
    unless
    (size_faults d.model groups
    ++ (fault 11 0 (large_bound d.model groups) ∷ fault 12 0 (wrong_buffer d.model groups buffer scratch) ∷ []))
    (given (own_plan d.model)))

-- what planning leaves in the lent plan buffer, and in the lent scratch
abbrev pub buffer_after : Reply (List ℕ) → List ℕ → List ℕ
buffer_after (given plan) buffer = plan
buffer_after (refused number place) buffer = buffer

abbrev pub scratch_after : Reply (List ℕ) → List ℕ → List ℕ
scratch_after (given plan) scratch = replicate (length scratch) 0
scratch_after (refused number place) scratch = scratch
