use Rattle.sheet.proofs.WritingBytes.{two-written}
use Rattle.sheet.proofs.writing.put_two.Goals as goal

pub returns : goal.returns
returns c = two-written _ _ _ c.requires
