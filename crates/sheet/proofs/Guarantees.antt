-- What reading a sheet promises, from the laws of the parse and of the index.
-- Assumes nothing.
use Prim.Native.Nat.{◌<◌}
use mathlib.Core.Path.{refl, sym, ap, ◌∙◌}
use mathlib.Core.List.Memᴰ
use mathlib.Core.List.{[], ◌++◌, flat_map, append-nil}
use native.Mathlib.Omega.{arith}
use Rattle.sheet.specs.Record.{record_of}
use Rattle.sheet.specs.Model.{Model, machine_count}
use Rattle.sheet.specs.Amend.{none}
use Rattle.sheet.specs.Valid.{Valid}
use Rattle.sheet.specs.Write.{machine_records, move_records, amended_bytes, sheet_bytes}
use Rattle.sheet.specs.Meaning.{AcceptedValid, Amended, AcceptedWhole, ValidAccepted, RefusedListed, IndexAnswers}
use Rattle.sheet.proofs.Parsed.{parse-valid, parse-has-machine}
use Rattle.sheet.proofs.Accepted.{file-accepted}
use Rattle.sheet.proofs.Exact.{parse-exact}
use Rattle.sheet.proofs.SheetBytes.{file-is-bytes}
use Rattle.sheet.proofs.Place.{refusal-number, refusal-place}
use Rattle.sheet.proofs.Answers.{machines-in, moves-in, modes-in, live-in, machine-in, from_in, to_in, command-in}
use Rattle.sheet.proofs.Answers.{guard-count-in, guard-machine-in, guard-mask-in}

pub accepted-valid : AcceptedValid
accepted-valid s d q = (parse-valid s q, parse-has-machine s q)

pub accepted-whole : AcceptedWhole
accepted-whole s d bytes q = parse-exact s bytes q

pub valid-accepted : ValidAccepted
valid-accepted s m file =
    let a = file.acts in
    let r = file-accepted file.sent file.valid a file.few file.replacements-valid file.has-machine in
    record {
      parsed = r.0;
      accepted = rw file.bytes r.1;
      same = r.2 ∙ rw (file.same-modes, file.same_live);
      bytes = λ commands new.
          rw file.bytes
          (file-is-bytes file.sent file.valid a commands
          (λ v i. (file.replacements-valid v i, new v i)));
    }

-- a sheet without amendments is such a file
unfoldable pub clean-file : (m : Model) → Valid m → 0 < machine_count m → Amended (sheet_bytes m) m
unfolding sheet_bytes amended_bytes flat_map
clean-file m ok some =
    record {
      sent = m;
      changes = [];
      bytes = ap (λ l. l ++ record_of 3 []) (sym (append-nil (machine_records m ++ move_records m)));
      valid = ok;
      has-machine = some;
      few = omega arith;
      replacements-valid = λ v i. absurd (Memᴰ.not-nil i);
      same-modes = refl;
      same_live = refl;
      acts = none;
    }

pub refused-listed : RefusedListed
refused-listed s n p q = (refusal-number s q, refusal-place s q)

pub index-answers : IndexAnswers
index-answers s d q =
    record {
      machines = machines-in d;
      moves = moves-in d;
      modes = modes-in d;
      live = live-in d;
      machine = machine-in s q;
      from = from_in s q;
      to = to_in s q;
      command = command-in s q;
      guards = guard-count-in s q;
      guard-machine = λ v n h. guard-machine-in s q v h n;
      guard-mask = λ v n h. guard-mask-in s q v h n;
    }
