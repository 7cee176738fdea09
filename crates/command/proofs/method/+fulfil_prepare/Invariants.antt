use Rattle.std.proofs.Common.{◌+◌, ◌*◌}
use Rattle.sheet.specs.Record.{byte}
use Rattle.plan.specs.Groups.{group_of}
use Rattle.command.specs.Kept.Question.{machines_in, numbers_in}
use Rattle.command.proofs.method.+fulfil_prepare.Given as goal

-- fulfilling: by the group
abbrev pub decreases-fulfil : goal.decreases-fulfil
decreases-fulfil l = 2 * l.group.0 + 1

-- preparing: by the group of the move
abbrev pub decreases-prepare : goal.decreases-prepare
decreases-prepare l = 2 * group_of (numbers_in l.question.now.facts.now (machines_in l.question.now.state.now)) (byte l.b.now 0)
