use Rattle.sheet.proofs.WritingBytes.{CopiedTo}
use Rattle.sheet.proofs.writing.put_bytes.Given as goal

abbrev pub invariant-loop-i : goal.invariant-loop-i
invariant-loop-i l = CopiedTo l.initial.buffer l.at l.bytes l.i l.buffer
