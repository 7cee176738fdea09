-- What judging keeps of the records read so far, counts and arrays with zeros behind what there is, and how it judges by that.
use Rattle.std.specs.Prelude.{ℕ, ◌-◌, ◌^◌, ◌≤◌, ◌≡◌, Bool, true, false, not, cond, ◌&&◌, ◌||◌, List, [], ◌∷◌, map, length, get_or, eqb, ltb, leb, Result, Ok, Err}
use Rattle.common.specs.Bits.{bit, beyond}
use Rattle.common.specs.Lists.{any, pad, up_to}
use Rattle.common.specs.Reply.{Reply, given, refused, Fault, fault}
use Rattle.sheet.specs.declared.index.Sheet.{Sheet}
use Rattle.sheet.specs.declared.refusal.Cause.{Cause}
use Rattle.sheet.specs.Refusal.{number_of}
use Rattle.sheet.specs.Model.{Move, Model, machine_count, move_count, guard_at, move_of, is_same_move}
use Rattle.sheet.specs.Amend.{Draft, amendment_of}
use Rattle.sheet.specs.Faults.{wrong_move_length, bad_move, bad_guards, machine_faults, end_faults, late_faults, unamendable}

-- nothing found
abbrev pub fine : Reply Unit
fine = given tt

-- what judging the record at a place finds, in document 01's terms
abbrev pub judged_of : Result Unit Cause → ℕ → Reply Unit
judged_of (Ok u) at = fine
judged_of (Err cause) at = refused (number_of cause) at

-- the set of the first n modes, the largest that a machine of n modes has
unfoldable pub top_of : ℕ → ℕ
top_of n = 2 ^ n - 1

-- 6 by the live modes alone
unfoldable pub dead_move : List ℕ → Move → Bool
dead_move live v =
    eqb v.from v.to
    || not (bit (get_or live v.machine 0) v.from) || not (bit (get_or live v.machine 0) v.to)

-- 7 by the tops
unfoldable pub wrong_guard : List ℕ → Move → ℕ → Bool
wrong_guard tops v n =
    eqb (guard_at v n).machine v.machine
    || ltb 0 n && leb (guard_at v n).machine (guard_at v (n - 1)).machine
    || eqb (guard_at v n).mask 0
    || ltb (get_or tops (guard_at v n).machine 0) (guard_at v n).mask

unfoldable pub wrong_guards : List ℕ → Move → Bool
wrong_guards tops v = any (wrong_guard tops v) (up_to (length v.guards))

-- the causes of a move's body that the machines tell, behind its length
unfoldable pub body_faults : Model → ℕ → List ℕ → List Fault
body_faults m at body =
    fault 6 at (bad_move m.modes m.live (move_of body))
    ∷ fault 7 at (bad_guards m.modes (move_of body))
    ∷ fault 8 at (eqb (move_of body).command 0)
    ∷ []

-- the causes of a move but for a command that an earlier move has
unfoldable pub own_move_faults : Model → ℕ → List ℕ → List Fault
own_move_faults m at body =
    fault 2 at (wrong_move_length (length body))
    ∷ fault 4 at (eqb (machine_count m) 0 || leb 250 (move_count m))
    ∷ body_faults m at body

-- and those of a replacement and a withdrawal but for what they amend
unfoldable pub own_replace_faults : Model → ℕ → List ℕ → List Fault
own_replace_faults m at body = fault 2 at (wrong_move_length (length body)) ∷ body_faults m at body

unfoldable pub own_withdraw_faults : ℕ → List ℕ → List Fault
own_withdraw_faults at body = fault 2 at (not (eqb (length body) 3)) ∷ []

-- the causes of a record that its own bytes, the machines and the counts tell
unfoldable pub own_faults : Model → ℕ → ℕ → List ℕ → List Fault
own_faults m at kind body =
    cond (eqb kind 1) (machine_faults m at body)
    (cond (eqb kind 2) (own_move_faults m at body)
    (cond (eqb kind 3) (end_faults m at body)
    (cond (eqb kind 4) (own_replace_faults m at body)
    (cond (eqb kind 5) (own_withdraw_faults at body)
    (fault 2 at true ∷ [])))))

-- and those that the moves and amendments before it tell
unfoldable pub later_faults : Draft → ℕ → ℕ → List ℕ → List Fault
later_faults x at kind body =
    cond (eqb kind 2) (fault 8 at (any (is_same_move (move_of body)) x.sent.moves) ∷ late_faults x at)
    (cond (eqb kind 4 || eqb kind 5) (fault 21 at (unamendable x (amendment_of kind body)) ∷ [])
    [])

-- how many machines and moves there are
pub record Counts : Type 0 where
  pub machines : ℕ
  pub moves : ℕ

-- those of an index
abbrev pub counts_of : Sheet → Counts
counts_of sheet = record { machines = sheet.machines; moves = sheet.moves }

-- the counts of a model
pub record Counted (m : Model) (counts : Counts) : Type 0 where
  pub machines-are : machine_count m ≡ counts.machines
  pub moves-are : move_count m ≡ counts.moves

-- the counts and arrays that stand for the machines of a model
pub record Held (m : Model) (counts : Counts) (tops live : List ℕ) : Type 0 where
  pub counted : Counted m counts
  pub live-are : length m.live ≡ counts.machines
  pub tops-in : tops ≡ pad 256 (map top_of m.modes)
  pub live-in : live ≡ pad 32 m.live
  pub few-machines : counts.machines ≤ 32
  pub few-moves : counts.moves ≤ 250
  pub few-modes : (i : ℕ) → get_or m.modes i 0 ≤ 8
  pub live-within : (i : ℕ) → beyond (get_or m.modes i 0) (get_or m.live i 0) ≡ false
