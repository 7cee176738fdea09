use Rattle.sheet.proofs.WritingBytes.{header-written}
use Rattle.sheet.proofs.writing.put_header.Goals as goal

pub returns : goal.returns
returns c = search header-written
