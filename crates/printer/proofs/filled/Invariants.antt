use Rattle.std.proofs.Common.{length, ◌-◌, ◌≤◌}
use Rattle.printer.proofs.filled.Given as goal

abbrev pub invariant-loop-n : goal.invariant-loop-n
invariant-loop-n g l = l.n ≤ length l.buffer

-- the room that is left
abbrev pub decreases-loop-n : goal.decreases-loop-n
decreases-loop-n g l = length l.initial.buffer - l.n
