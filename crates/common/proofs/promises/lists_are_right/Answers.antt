use Prim.Native.Nat.{ℕ}
use Rattle.common.proofs.Guarantees.{lists-right}
use Rattle.common.proofs.promises.lists_are_right.Goals as goal

pub returns : goal.returns
returns c = lists-right ℕ
