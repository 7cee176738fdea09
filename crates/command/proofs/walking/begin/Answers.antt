use mathlib.Core.Path.{refl}
use Rattle.sheet.proofs.Passing.{passed-on}
use Rattle.command.proofs.Starting.{told-bytes, front-told, front-refused}
use Rattle.command.proofs.walking.begin.Goals as goal

pub begin_with-requires : goal.begin_with-requires
begin_with-requires c = told-bytes _ c.plan_length.ensures c.in_ok-bytes.was

pub returns : goal.returns
returns c =
    let told = c.plan_length.ensures in
    let begun = c.begin_with.ensures in
    record {
      reply = rw (front-told _ told c.in_ok-bytes.was _ _) begun.reply;
      written = rw (front-told _ told c.in_ok-bytes.was _ _) begun.written;
      left = rw (front-told _ told c.in_ok-bytes.was _ _) begun.left;
    }

pub returns-in_err-bytes : goal.returns-in_err-bytes
returns-in_err-bytes c =
    let told = c.plan_length.ensures in
    record {
      reply = rw (passed-on c.from_residual.ensures.1) (rw (front-refused _ told c.in_err-bytes.was _ _) refl);
      written = rw (front-refused _ told c.in_err-bytes.was _ _) refl;
      left = rw (front-refused _ told c.in_err-bytes.was _ _) refl;
    }
