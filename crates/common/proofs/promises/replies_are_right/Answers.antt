use Prim.Native.Nat.{ℕ}
use Rattle.common.proofs.Guarantees.{replies-right}
use Rattle.common.proofs.promises.replies_are_right.Goals as goal

pub returns : goal.returns
returns c = replies-right ℕ ℕ
