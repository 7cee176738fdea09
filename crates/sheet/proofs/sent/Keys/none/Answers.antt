use Rattle.sheet.proofs.Slots.{sent-nothing}
use Rattle.sheet.proofs.sent.Keys.none.Goals as goal

pub returns : goal.returns
returns c = sent-nothing
