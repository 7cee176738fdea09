use Rattle.decimal.specs.Decimal.{digit}
use Rattle.decimal.proofs.Putting.{put_byte}
use Rattle.decimal.proofs.put_digit.Goals as goal

pub returns : goal.returns
unfolding digit
returns c = let r = put_byte _ _ _ c.requires in record { end = r.0; written = r.1 }
