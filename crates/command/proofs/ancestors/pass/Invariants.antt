use Rattle.command.proofs.Marks.{Pass}
use Rattle.command.proofs.ancestors.pass.Given as goal

abbrev pub invariant-loop-j : goal.invariant-loop-j
invariant-loop-j l = Pass l.named l.groups l.marks l.top l.j l.r
