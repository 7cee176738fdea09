use Rattle.command.proofs.WishedGoal.{below-byte, wished-inside, wished-past}
use Rattle.command.proofs.goal.mask_of.Goals as goal

pub returns-then-i-goal : goal.returns-then-i-goal
returns-then-i-goal c = search wished-inside

pub overflow_cast-result : goal.overflow_cast-result
overflow_cast-result c = search below-byte

pub returns : goal.returns
returns c = search wished-past
