-- "Why a call is turned down", 2, 4 to 8 and 21: the causes that one whole record can have, lowest number first.
use Rattle.std.specs.Prelude.{ℕ, ◌-◌, ◌%◌, List, [], ◌∷◌, ◌++◌, Bool, true, cond, not, ◌&&◌, ◌||◌, length, get_or, eqb, ltb, leb}
use Rattle.common.specs.Lists.{up_to, any}
use Rattle.common.specs.Bits.{bit, beyond}
use Rattle.common.specs.Reply.{Fault, fault}
use Rattle.sheet.specs.Record.{byte}
use Rattle.sheet.specs.Model.{Move, Model, machine_count, move_count, guard_at, move_of, is_same_move}
use Rattle.sheet.specs.Amend.{Amendment, named, amendment_of, Draft}

-- 2 for a move: its machine, modes and command, then 0 to 8 needs of two bytes
unfoldable pub wrong_move_length : ℕ → Bool
wrong_move_length n = ltb n 4 || ltb 20 n || eqb (n % 2) 1

-- 5: no mode or more than 8, no live mode, or a live mode that the machine does not have
unfoldable pub bad_machine : ℕ → ℕ → Bool
bad_machine modes live = eqb modes 0 || ltb 8 modes || eqb live 0 || beyond modes live

-- 6: a mode that the machine does not have (an absent one has none), a move to where it starts, or a mode that is not live
unfoldable pub bad_move : List ℕ → List ℕ → Move → Bool
bad_move modes live v =
    leb (get_or modes v.machine 0) v.from || leb (get_or modes v.machine 0) v.to
    || eqb v.from v.to
    || not (bit (get_or live v.machine 0) v.from) || not (bit (get_or live v.machine 0) v.to)

-- 7 for need n: of no machine, of the mover itself or not above the need before; allowing no mode, or one that is not there
unfoldable pub bad_guard : List ℕ → Move → ℕ → Bool
bad_guard modes v n =
    eqb (get_or modes (guard_at v n).machine 0) 0
    || eqb (guard_at v n).machine v.machine
    || ltb 0 n && leb (guard_at v n).machine (guard_at v (n - 1)).machine
    || eqb (guard_at v n).mask 0
    || beyond (get_or modes (guard_at v n).machine 0) (guard_at v n).mask

unfoldable pub bad_guards : List ℕ → Move → Bool
bad_guards modes v = any (bad_guard modes v) (up_to (length v.guards))

-- 8: no command, or an earlier move once more
unfoldable pub bad_command : List Move → Move → Bool
bad_command earlier v = eqb v.command 0 || any (is_same_move v) earlier

-- the causes of a machine, a move and an end after what has been read, the record beginning at a place
unfoldable pub machine_faults : Model → ℕ → List ℕ → List Fault
machine_faults m at body =
    fault 2 at (not (eqb (length body) 2))
    ∷ fault 4 at (ltb 0 (move_count m) || leb 32 (machine_count m))
    ∷ fault 5 at (bad_machine (byte body 0) (byte body 1))
    ∷ []

unfoldable pub move_faults : Model → ℕ → List ℕ → List Fault
move_faults m at body =
    fault 2 at (wrong_move_length (length body))
    ∷ fault 4 at (eqb (machine_count m) 0 || leb 250 (move_count m))
    ∷ fault 6 at (bad_move m.modes m.live (move_of body))
    ∷ fault 7 at (bad_guards m.modes (move_of body))
    ∷ fault 8 at (bad_command m.moves (move_of body))
    ∷ []

unfoldable pub end_faults : Model → ℕ → List ℕ → List Fault
end_faults m at body =
    fault 2 at (not (eqb (length body) 0))
    ∷ fault 4 at (eqb (machine_count m) 0)
    ∷ []

-- 21: no standing move that the amendment names, or a 65th amendment
unfoldable pub unamendable : Draft → Amendment → Bool
unamendable x a = not (any (is_same_move (named a)) x.standing) || leb 64 x.amended

-- an amendment that replaces a move, judged as a move but for where it stands and for what was sent before
unfoldable pub replace_faults : Draft → ℕ → List ℕ → List Fault
replace_faults x at body =
    fault 2 at (wrong_move_length (length body))
    ∷ fault 6 at (bad_move x.sent.modes x.sent.live (move_of body))
    ∷ fault 7 at (bad_guards x.sent.modes (move_of body))
    ∷ fault 8 at (eqb (move_of body).command 0)
    ∷ fault 21 at (unamendable x (amendment_of 4 body))
    ∷ []

-- and one that withdraws a move: machine, from mode and command
unfoldable pub withdraw_faults : Draft → ℕ → List ℕ → List Fault
withdraw_faults x at body =
    fault 2 at (not (eqb (length body) 3))
    ∷ fault 21 at (unamendable x (amendment_of 5 body))
    ∷ []

-- 21 for a move behind an amendment
unfoldable pub late_faults : Draft → ℕ → List Fault
late_faults x at = fault 21 at (ltb 0 x.amended) ∷ []

-- kind 1 is a machine, 2 a move, 3 the end, 4 and 5 are amendments; another kind is unknown
unfoldable pub faults_of : Draft → ℕ → ℕ → List ℕ → List Fault
faults_of x at kind body =
    cond (eqb kind 1) (machine_faults x.sent at body)
    (cond (eqb kind 2) (move_faults x.sent at body ++ late_faults x at)
    (cond (eqb kind 3) (end_faults x.sent at body)
    (cond (eqb kind 4) (replace_faults x at body)
    (cond (eqb kind 5) (withdraw_faults x at body)
    (fault 2 at true ∷ [])))))
