-- The refusals of drawing and reading: their numbers are not 0, and the place is one of the sheet, or 0.
-- Assumes nothing.
use Prim.Native.Nat.{ℕ}
use mathlib.Core.Path.{◌≡◌}
use mathlib.Core.Logic.{⊎_elim}
use mathlib.Core.List.{List}
use native.Mathlib.Omega.{arith}
use Rattle.common.specs.Reply.{refused}
use Rattle.common.proofs.Reply.{and_then-refused, refused-ways, caused-each}
use Rattle.sheet.proofs.Place.{Near, refusal-near, fitted-near}
use Rattle.picture.specs.Graph.{graph_reply, read_as, read_reply}

pub draw-near : (s : List ℕ) (room : ℕ) {n p : ℕ} → graph_reply s room ≡ refused n p → Near n p
unfolding graph_reply
draw-near s room e =
    ⊎_elim (λ unread. refusal-near s unread) (λ (d, read, full). fitted-near _ room full) (and_then-refused _ _ e)

pub read-near : (text : List ℕ) (room : ℕ) {n p : ℕ} → read_reply text room ≡ refused n p → Near n p
unfolding read_reply read_as
read-near text room e =
    ⊎_elim
    (λ cause. caused-each Near (omega arith) cause)
    (λ (c, full). fitted-near _ room full)
    (refused-ways _ _ e)
