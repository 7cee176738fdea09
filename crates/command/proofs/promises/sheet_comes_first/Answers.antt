use Rattle.command.proofs.TurnedDown.{sheet-before}
use Rattle.command.proofs.promises.sheet_comes_first.Goals as goal

pub returns : goal.returns
returns c = sheet-before
