-- Each turn reads one record more: a machine, of six bytes, or a move or an amendment, of at most twenty-four.
-- Assumes nothing.
use Prim.Native.Nat.{ℕ, ◌+◌, ◌*◌, ◌≤◌}
use mathlib.Core.Path.{◌≡◌}
use mathlib.Core.Logic.{◌⊎◌, ⊎_elim}
use mathlib.Core.List.{List}
use native.Mathlib.Omega.{arith}
use lib.ListN.{length}
use Rattle.common.specs.Reply.{given}
use Rattle.common.proofs.Snoc.{length-snoc}
use Rattle.sheet.specs.Record.{whole}
use Rattle.sheet.specs.Record.{byte, record_at, part}
use Rattle.sheet.specs.Model.{machine_count, move_count, move_of, with_machine, with_move}
use Rattle.sheet.specs.Amend.{Draft}
use Rattle.sheet.specs.Parse.{Progress, extended, more, turn_at}
use Rattle.sheet.proofs.Records.{whole-at, part_length}
use Rattle.sheet.proofs.Turns.{goes_on}
use Rattle.sheet.proofs.Fits.{MoveSize}
use Rattle.sheet.proofs.Drafts.{Passing, machine, move, amendment, passing}
use Rattle.sheet.proofs.Drafts.{reads-machine, reads-move, reads-amendment}

-- the records of a draft, and how many bytes they take at most
abbrev pub records : Draft → ℕ
records x = machine_count x.sent + move_count x.sent + x.amended

abbrev pub reach : Draft → ℕ
reach x = 6 * machine_count x.sent + 24 * move_count x.sent + 24 * x.amended

-- one record more
pub record Grown (x y : Draft) (at next : ℕ) : Type 0 where
  pub one_more : records y ≡ records x + 1
  pub bytes_read : next + reach x ≤ at + reach y

pub amendment-short : {kind n : ℕ} → (kind ≡ 4 → MoveSize n) → (kind ≡ 5 → n ≡ 3) → (kind ≡ 4) ⊎ (kind ≡ 5) → n ≤ 20
amendment-short four five k = ⊎_elim (λ e. omega (arith, (four e).short)) (λ e. omega (arith, five e)) k

module _ (d : Progress) (at next kind : ℕ) (body : List ℕ) (behind : next ≡ at + 4 + length body) where
  pub grown : Passing d.draft kind body → Grown d.draft (extended d kind at body).draft at next
  unfolding with_machine with_move
  grown (machine k p) =
      rw (k, reads-machine d at body)
      (let n = length-snoc d.draft.sent.modes (byte body 0) in
      record { one_more = omega arith; bytes_read = omega (arith, p.two_are_bytes) })
  grown (move k p none) =
      rw (k, reads-move d at body)
      (let n = length-snoc d.draft.sent.moves (move_of body) in
      record { one_more = omega arith; bytes_read = omega (arith, p.size.short) })
  grown (amendment k p) =
      rw (reads-amendment d at body kind k)
      (let n = amendment-short p.size.0 p.size.1 k in
      record { one_more = omega arith; bytes_read = omega arith })

pub grown-turn : (s : List ℕ) (at : ℕ) (d : Progress) (kind start len next : ℕ) (e : Progress)
    → record_at s at ≡ whole kind start len → turn_at s at d kind start len ≡ given (more next e)
    → Grown d.draft e.draft at next
grown-turn s at d kind start len next e w q =
    let g = goes_on s at d kind start len q in
    let h = whole-at s at w in
    let body = part s start len in
    let k = part_length s start len h.within in
    rw (← g.reads)
    (grown d at next kind body (omega (arith, h.starts, g.goes-behind))
    (passing d.draft at kind body g.clear g.no_end))
