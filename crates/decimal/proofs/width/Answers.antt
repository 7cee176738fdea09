use mathlib.Core.Path.{sym, ap}
use native.Mathlib.Omega.{arith}
use lib.ListN.{length}
use Rattle.decimal.proofs.Putting.{one-digit, two-digits-are}
use Rattle.decimal.proofs.width.Goals as goal

pub returns-then-n-lt10 : goal.returns-then-n-lt10
returns-then-n-lt10 c = record {
  length = sym (ap length (one-digit _ c.if-n-lt10.true));
  short = omega arith;
}

pub returns : goal.returns
returns c = record {
  length = sym (ap length (two-digits-are _ c.if-n-lt10.false c.requires));
  short = omega arith;
}
