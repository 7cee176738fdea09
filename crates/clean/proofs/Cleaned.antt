-- The clean sheet of a sheet that passes: it passes, says the same, and is its own clean sheet.
-- Assumes nothing.
use Prim.Native.Nat.{ℕ, ◌≤◌, ◌<◌}
use mathlib.Core.Path.{◌≡◌, refl, sym, ap, subst, ◌∙◌}
use mathlib.Core.Logic.{⊎_elim}
use mathlib.Core.List.Memᴰ
use mathlib.Core.List.{List, [], ◌++◌}
use native.Mathlib.Omega.{arith}
use lib.ListN.{length, length-append}
use Rattle.common.specs.Reply.{given, refused, and_then, fitted}
use Rattle.common.proofs.Output.{WithinRoom, too_long, short-enough, fitted-is, fitted-fits, output-left}
use Rattle.common.proofs.Reply.{and_then-given, and_then-refused}
use Rattle.sheet.specs.Record.{byte, record_of}
use Rattle.sheet.specs.Model.{Model, machine_count, move_count, move_at}
use Rattle.sheet.specs.Valid.{Valid}
use Rattle.sheet.specs.Parse.{Parsed, parse}
use Rattle.sheet.specs.Write.{machine_body, move_body, machine_records, move_records, sheet_bytes}
use Rattle.sheet.specs.Meaning.{Amended, ReadBack}
use Rattle.sheet.proofs.Accepted.{body-size}
use Rattle.sheet.proofs.Answers.{command-in}
use Rattle.sheet.proofs.Bodies.{length-machine_body}
use Rattle.sheet.proofs.Guarantees.{clean-file, valid-accepted}
use Rattle.sheet.proofs.Parsed.{parse-valid, parse-has-machine}
use Rattle.sheet.proofs.Pieces.{pieces-short}
use Rattle.sheet.proofs.Place.{Near, refusal-near, fitted-near}
use Rattle.sheet.proofs.Written.{length-record_of}
use Rattle.clean.specs.Clean.{clean_reply}
use Rattle.clean.specs.Cleaned.{CleanRight, CleansRight}
use Rattle.clean.proofs.Sheets.{clean-unread}

-- six bytes a machine, at most 24 a move, and the end
sheet-short : (m : Model) → Valid m → length (sheet_bytes m) ≤ 6196
unfolding sheet_bytes
sheet-short m ok =
    let machines = pieces-short (λ i. record_of 1 (machine_body m i)) 6 (machine_count m) (λ i h.
    omega (arith, length-record_of 1 (machine_body m i), length-machine_body m i)) in
    let moves = pieces-short (λ v. record_of 2 (move_body (move_at m v))) 24 (move_count m) (λ v h.
    omega (arith, length-record_of 2 (move_body (move_at m v)), (body-size (ok.moves-valid v h)).short)) in
    omega (
      arith,
      machines,
      moves,
      ok.few-machines,
      ok.few-moves,
      length-append (machine_records m ++ move_records m) (record_of 3 []),
      length-append (machine_records m) (move_records m),
      length-record_of 3 [],
    )

module _ (s : List ℕ) {d : Parsed} (q : parse s ≡ given d) where
  abbrev clean : List ℕ
  clean = sheet_bytes d.model

  clean_of : (room : ℕ) → clean_reply s room ≡ fitted clean room
  unfolding clean_reply and_then
  clean_of room = rw q

  valid : Valid d.model
  valid = parse-valid s q

  abbrev file : Amended clean d.model
  file = clean-file d.model valid (parse-has-machine s q)

  back : ReadBack clean d.model file
  back = valid-accepted clean d.model file

  command-small : ((i : ℕ) → byte s i < 256) → (v : ℕ) → v < move_count d.model → (move_at d.model v).command < 256
  command-small bytes v h = rw (← command-in s q v h) (bytes _)

  clean-bytes : ((i : ℕ) → byte s i < 256) → (i : ℕ) → byte clean i < 256
  unfolding clean-file
  clean-bytes bytes = back.bytes (command-small bytes) (λ v i. absurd (Memᴰ.not-nil i))

  unamended : file.changes ≡ []
  unfolding clean-file
  unamended = refl

module _ (s : List ℕ) (room : ℕ) where
  own-clean : {d : Parsed} (q : parse s ≡ given d) → length (clean s q) ≤ room
      → clean_reply (clean s q) room ≡ given (clean s q)
  own-clean q fits =
      let b = back s q in
      clean_of (clean s q) b.accepted room ∙ ap (λ m. fitted (sheet_bytes m) room) b.same
      ∙ short-enough (clean s q) room fits

  clean-right : (d : Parsed) (out : List ℕ) → parse s ≡ given d → clean_reply s room ≡ given out
      → CleanRight s room d out
  clean-right d out q e =
      let g = sym (clean_of s q room) ∙ e in
      let same = fitted-is (clean s q) room g in
      let fits : length (clean s q) ≤ room = omega (arith, fitted-fits (clean s q) room out g, ap length same) in
      let b = back s q in
      subst (CleanRight s room d) same (record {
        short = sheet-short d.model (valid s q);
        fits = fits;
        bytes = clean-bytes s q;
        parsed = b.parsed;
        passes = b.accepted;
        same = b.same;
        file = file s q;
        unamended = unamended s q;
        own = own-clean q fits;
      })

  clean-fits : WithinRoom (clean_reply s room) room
  unfolding clean_reply
  clean-fits out e =
      let (d, parses, fits) = and_then-given (parse s) _ e in
      fitted-fits (sheet_bytes d.model) room out fits

pub cleans-right : CleansRight
cleans-right s room =
    record {
      turned_down = λ n p e. clean-unread s room e;
      right = clean-right s room;
      no_room = λ d q. (
        clean s q,
        λ enough h. clean_of s q enough ∙ short-enough (clean s q) enough h,
        λ h. clean_of s q room ∙ too_long (clean s q) room h,
      );
      left = λ before e. rw (← e) (output-left before _ (clean-fits s (length before)));
    }

-- For the calls of C: a refusal is near, a clean sheet is short, and it is read as the same model

pub clean-near : (s : List ℕ) (room : ℕ) {n p : ℕ} → clean_reply s room ≡ refused n p → Near n p
unfolding clean_reply
clean-near s room e =
    ⊎_elim (λ unread. refusal-near s unread) (λ (d, read, full). fitted-near _ room full) (and_then-refused _ _ e)

-- a sheet and its clean one, read
pub record ReadAlike (s clean : List ℕ) : Type 0 where
  pub sheet-read : Parsed
  pub clean-read : Parsed
  pub sheet-parses : parse s ≡ given sheet-read
  pub clean-parses : parse clean ≡ given clean-read
  pub same : sheet-read.model ≡ clean-read.model
  pub short : length clean ≤ 6196

pub read_alike : (s : List ℕ) (room : ℕ) {out : List ℕ} → clean_reply s room ≡ given out → ReadAlike s out
unfolding clean_reply
read_alike s room {out} e =
    let (d, parses, fits) = and_then-given (parse s) _ e in
    let c = clean-right s room d out parses e in
    record {
      sheet-read = d;
      clean-read = c.parsed;
      sheet-parses = parses;
      clean-parses = c.passes;
      same = sym c.same;
      short = c.short;
    }
