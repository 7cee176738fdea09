use Prim.Native.Nat.{ℕ}
use mathlib.Core.List.{List}
use Rattle.command.proofs.AllowedGroups.{SetsUpto}
use Rattle.command.proofs.goal.allowed_sets.Given as goal

abbrev pub invariant-loop-k : goal.invariant-loop-k
invariant-loop-k l = (plan state starts : List ℕ) → SetsUpto l.question plan state starts l.masks l.members l.among l.r l.k-iterator.rest
