use mathlib.Core.Path.{◌∙◌}
use Rattle.clean.proofs.Writing.{record-put}
use Rattle.clean.proofs.cleaning.put_record.Goals as goal

pub returns : goal.returns
returns c = let room = c.requires in let r = record-put _ _ _ _ (c.put_header.ensures ∙ rw c.from.ensures) c.put_bytes.ensures room in record { end = r.0; written = r.1 }
