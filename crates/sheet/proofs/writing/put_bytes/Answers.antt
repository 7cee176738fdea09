use Rattle.sheet.proofs.WritingBytes.{copied-to-none, copied-to-next, copied-to-end}
use Rattle.sheet.proofs.writing.put_bytes.Goals as goal

pub loop-i-init : goal.loop-i-init
loop-i-init c = search copied-to-none

pub loop-i-preserved : goal.loop-i-preserved
loop-i-preserved c = search copied-to-next

pub returns : goal.returns
returns c = search copied-to-end
