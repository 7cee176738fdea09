-- Reading a sheet record by record: counts and arrays hold what has been read.
-- Assumes nothing.
use Prim.Native.Nat.{ℕ, ◌+◌, ◌-◌, ◌<◌}
use mathlib.Core.Path.{◌≡◌, refl, sym, ap, ◌∙◌}
use mathlib.Core.List.{List, []}
use native.Mathlib.Nat.{not-suc-le-zero}
use native.Mathlib.Omega.{arith}
use mir.Val.{Fits}
use mir.Syntax.{w8}
use lib.ListN.{replicate}
use Rattle.std.specs.Prelude.{Option, None}
use Rattle.common.specs.Lists.{pad}
use Rattle.common.specs.Reply.{given, refused}
use Rattle.sheet.specs.declared.record.Record.{Record}
use Rattle.sheet.specs.declared.index.Sheet.{Sheet}
use Rattle.sheet.specs.Kept.Held.{Counts}
use Rattle.sheet.specs.declared.refusal.Cause.{Cause}
use Rattle.sheet.specs.declared.refusal.Refusal.{Refusal}
use Rattle.sheet.specs.Refusal.{number_of, refusal}
use Rattle.sheet.specs.Record.{byte, record_at}
use Rattle.sheet.specs.Parse.{Parsed, Progress, nothing, outset, finished, more, ended, turn_of, parse_from, parse}
use Rattle.sheet.specs.Index.{index_of, index_reply}
use Rattle.sheet.specs.Kept.Held.{counts_of}
use Rattle.sheet.proofs.Holding.{held-nothing}
use Rattle.sheet.specs.Kept.Scanned.{Scanned}
use Rattle.sheet.specs.Kept.Sent.{Sent}
use Rattle.sheet.proofs.Keyed.{keyed-nothing}
use Rattle.sheet.proofs.Turns.{parse-cut, turn-next, turn-ended, turn-refused}

pub scan-start : (s : List ℕ) {sheet : Sheet} {tops pairs commands owners : List ℕ} → ((i : ℕ) → Fits w8 (byte s i))
    → (sheet ≡ index_of nothing) × (tops ≡ replicate 256 0) → Sent [] pairs commands owners
    → Scanned s (counts_of sheet) sheet.modes sheet.live tops pairs commands owners sheet.places 0
unfolding parse index_of pad
scan-start s b e k =
    rw (e.0, e.1) (record {
      read = outset;
      drafted = record { held = held-nothing; modes-in = refl; keyed = keyed-nothing k };
      untouched = refl;
      unamended = refl;
      places-in = refl;
      places-are = refl;
      stand = refl;
      positive = λ v h. absurd (not-suc-le-zero h);
      started = λ k. absurd (not-suc-le-zero k);
      near = omega arith;
      bytes = b;
      leads = refl;
    })

-- the index that counts and arrays make
abbrev pub index_kept : Counts → List ℕ → List ℕ → List ℕ → Sheet
index_kept counts modes lives places =
    record {
      machines = counts.machines;
      moves = counts.moves;
      modes = modes;
      live = lives;
      places = places;
    }

-- what is left of the file, from a place on, decides the reply
module _ (s : List ℕ) (n at : ℕ) (d : Progress) (leads : parse s ≡ parse_from n s at d) (some : 0 < n) where
  pub leads-on : {next : ℕ} {e : Progress} (k : ℕ) → n - 1 ≡ k → turn_of s at d (record_at s at) ≡ given (more next e)
      → parse s ≡ parse_from k s next e
  leads-on {next} {e} k l t = leads ∙ turn-next s at d n some t ∙ ap (λ i. parse_from i s next e) l

  pub leads-to-end : {e : Progress} → turn_of s at d (record_at s at) ≡ given (ended e) → parse s ≡ given (finished e)
  leads-to-end t = leads ∙ turn-ended s at d n some t

  pub leads-to-refusal : {number place : ℕ} → turn_of s at d (record_at s at) ≡ refused number place
      → parse s ≡ refused number place
  leads-to-refusal t = leads ∙ turn-refused s at d n some t

  pub leads-to-cut : {r : Option Record} → r ≡ record_at s at → r ≡ None → parse s ≡ refused 1 at
  leads-to-cut e w = leads ∙ parse-cut s at d n some (sym e ∙ w)

module _ (s : List ℕ) {counts : Counts} {modes lives tops pairs commands owners places : List ℕ} {at : ℕ}
    (h : Scanned s counts modes lives tops pairs commands owners places at) where
  pub index_is : index_kept counts modes lives places ≡ index_of (finished h.read)
  unfolding index_of
  index_is =
      let n = h.drafted.held.counted in
      rw (
        h.untouched,
        n.machines-are,
        n.moves-are,
        ← h.drafted.modes-in,
        ← h.drafted.held.live-in,
        ← h.places-in,
      )

  -- how many records there may yet be
  abbrev pub left : ℕ
  left = 347 - (counts.machines + counts.moves)

  pub one_left : 0 < left
  one_left = omega (arith, h.drafted.held.few-machines, h.drafted.held.few-moves)

  -- a record that is cut short
  pub scan-cut : {r : Option Record} → r ≡ record_at s at → r ≡ None → parse s ≡ refused 1 at
  scan-cut e w = leads-to-cut s left at h.read h.leads one_left e w

-- the reply to a faulty file, from what parsing it finds
pub reading-refused : (s : List ℕ) (r : Refusal) {cause : Cause} {place : ℕ} → r ≡ refusal cause place
    → parse s ≡ refused (number_of cause) place → refused (number_of r.cause) r.place ≡ index_reply (parse s)
reading-refused s r e p = rw e (sym (ap index_reply p))

-- and to a sheet that passes
module _ (s : List ℕ) {d : Parsed} (p : parse s ≡ given d) {x : Sheet} (is : x ≡ index_of d) where
  pub reading-given : given x ≡ index_reply (parse s)
  reading-given = ap given is ∙ sym (ap index_reply p)
