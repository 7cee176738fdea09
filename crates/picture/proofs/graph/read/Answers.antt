use Rattle.picture.proofs.ReadShown.{not-read, other_text}
use Rattle.picture.proofs.graph.read.Goals as goal

pub returns-in_default : goal.returns-in_default
returns-in_default c = let r = not-read _ _ (other_text _ c.in_default.ensures.other) in record { reply = rw c.at.ensures r.0; written = r.1 }
