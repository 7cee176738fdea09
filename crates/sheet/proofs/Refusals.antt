-- Which files are refused, with which number and at which place: reading comes to every record that stands behind right
-- ones, and the first that is not right decides.
-- Assumes nothing.
use Prim.Native.Nat.{ℕ, zero, suc, ◌+◌, ◌-◌, ◌≤◌, ◌<◌}
use mathlib.Core.Path.{◌≡◌, refl, sym, ap, ◌∙◌}
use mathlib.Core.Logic.{inl, inr, ⊎_elim}
use mathlib.Core.List.{List}
use native.Mathlib.Omega.{arith}
use borrow.Author.Tests.{ltb-true, ltb-false}
use lib.Dec.{ltb}
use lib.ListN.{length}
use Rattle.common.specs.Reply.{given, refused}
use Rattle.common.proofs.Bools.{by_cases}
use Rattle.common.proofs.Reply.{Clear, given-not-refused}
use Rattle.sheet.specs.Record.{byte, word, part}
use Rattle.sheet.specs.Model.{Move}
use Rattle.sheet.specs.Amend.{Amendment, Acts, Draft, empty_draft, draft_machine, draft_move, draft_amended}
use Rattle.sheet.specs.Faults.{faults_of}
use Rattle.sheet.specs.Faulty.{Kind, written, Known, machine, bodied, end, withdrawal, Faulty, RecordRight}
use Rattle.sheet.specs.Faulty.{Amending, replacement, Front, nothing, move, amendment}
use Rattle.sheet.specs.Faulty.{TurnedAway, by-record, behind-end, RefusedExactly}
use Rattle.sheet.specs.Parse.{Progress, outset, finished, extended, turn_of, parse}
use Rattle.sheet.proofs.Records.{whole_here}
use Rattle.sheet.proofs.Turns.{turn-refused, parse-next, parse-ended, turn-passes, turn-ends, turn-behind}
use Rattle.sheet.proofs.Series.{Comes}
use Rattle.sheet.proofs.Drafts.{ValidDraft, reads-machine, reads-move, reads-amendment}
use Rattle.sheet.proofs.Counts.{records, grown-turn}
use Rattle.sheet.proofs.Parsed.{Sound, sound-start, sound-turn}
use Rattle.sheet.proofs.Amended.{acts-amend}
use Rattle.sheet.proofs.Causes.{no_bytes, machine-bytes}
use Rattle.sheet.proofs.Amendable.{amending-kind, amending-late, amending-reads}
use Rattle.sheet.proofs.Faulty.{judged, right-clear, faulty-turn}

-- reading comes to a place, and not to the end of its 347 turns
pub record Reached (s : List ℕ) (at : ℕ) (x : Draft) : Type 0 where
  pub left : ℕ
  pub comes : Comes s left at x
  pub counted : left + records comes.before.draft ≡ 347
  pub sound : Sound s at comes.before

module _ {s : List ℕ} {at : ℕ} {x : Draft} (c : Reached s at x) where
  abbrev d : Progress
  d = c.comes.before

  abbrev kind : ℕ
  kind = word s (at + 2)

  abbrev len : ℕ
  len = word s at

  abbrev body : List ℕ
  body = part s (at + 4) len

  turns-left : 0 < c.left
  turns-left =
      let ok = c.sound.valid.sent in
      omega (arith, c.counted, c.sound.few, ok.few-machines, ok.few-moves)

  pub reached-valid : ValidDraft x
  reached-valid = rw (← c.comes.has-read) c.sound.valid

  -- a faulty record refuses
  pub faulty-refuses : {n : ℕ} → Faulty s at x n → parse s ≡ refused n at
  faulty-refuses {n} w =
      let here : Faulty s at d.draft n = rw c.comes.has-read w in
      c.comes.goes ∙ turn-refused s at d _ turns-left (faulty-turn s at d c.sound.valid.sent here)

  module _ (r : RecordRight s at x) where
    clear : Clear (faults_of d.draft at kind body)
    clear = rw c.comes.has-read (right-clear s at x reached-valid.sent r)

    -- a right record that is no end leads on
    pub leads-on : (Kind s at 3 → ⊥) → {e : Draft} → (extended d kind at body).draft ≡ e → Reached s (at + 4 + len) e
    leads-on more reads =
        let w = whole_here s at r.whole in
        let q = turn-passes s at d kind (at + 4) len clear more in
        let grown = grown-turn s at d kind (at + 4) len _ _ w q in
        record {
          left = c.left - 1;
          comes =
              record {
                before = extended d kind at body;
                has-read = reads;
                goes = c.comes.goes ∙ parse-next s at d _ turns-left w q;
              };
          counted = omega (arith, turns-left, c.counted, grown.one_more);
          sound = sound-turn s at d kind (at + 4) len _ _ w q c.sound;
        }

    -- behind a right end: bytes refuse, and without them the sheet is given
    module _ (k : Kind s at 3) where
      no_body : at + 4 + len ≡ at + 4
      no_body = omega (arith, no_bytes s at r.known k)

      pub end-refuses : at + 4 < length s → parse s ≡ refused 3 (at + 4)
      end-refuses h =
          c.comes.goes
          ∙ turn-refused s at d _ turns-left
          (ap (turn_of s at d) (whole_here s at r.whole)
          ∙ turn-behind s at d kind (at + 4) len clear k (omega (arith, no_body)) ∙ ap (refused 3) no_body)

      pub end-given : length s ≤ at + 4 → parse s ≡ given (finished d)
      end-given h =
          c.comes.goes
          ∙ parse-ended s at d _ turns-left (whole_here s at r.whole)
          (turn-ends s at d kind (at + 4) len clear k (omega arith))

  -- what reading makes of a machine, a move and an amendment
  machine-read : Known s at → Kind s at 1
      → (extended d kind at body).draft ≡ draft_machine x (byte s (at + 4)) (byte s (at + 5))
  machine-read known k =
      let b = machine-bytes s at known k in
      rw (k, reads-machine d at body, c.comes.has-read, b.0, b.1)

  move_read : Kind s at 2 → (extended d kind at body).draft ≡ draft_move x (written s at)
  move_read k = rw (k, reads-move d at body, c.comes.has-read)

  amendment-read : Known s at → {a : Amendment} {after : List Move} → Amending s at a → Acts a x.standing after
      → (extended d kind at body).draft ≡ draft_amended x after
  amendment-read known {a} h acts =
      let reads = reads-amendment d at body kind (amending-kind s at h) in
      let stands = acts-amend x.standing a acts reached-valid.standing.moves-distinct in
      rw (reads, c.comes.has-read, amending-reads s at known h, stands)

module _ (s : List ℕ) where
  reached-first : Reached s 0 empty_draft
  unfolding parse
  reached-first =
      record {
        left = 347;
        comes = record { before = outset; has-read = refl; goes = refl };
        counted = omega arith;
        sound = sound-start s;
      }

  pub front-reached : {at : ℕ} {x : Draft} → Front s at x → Reached s at x
  front-reached nothing = reached-first
  front-reached (machine f r k) =
      let c = front-reached f in
      leads-on c r (λ e. omega arith) (machine-read c r.known k)
  front-reached (move f r k) =
      let c = front-reached f in
      leads-on c r (λ e. omega arith) (move_read c k)
  front-reached (amendment {at} a f r h acts) =
      let c = front-reached f in
      leads-on c r (λ e. omega (arith, amending-late s at h)) (amendment-read c r.known h acts)

  module _ {n p : ℕ} (q : parse s ≡ refused n p) where
    refused-here : {k i : ℕ} → parse s ≡ refused k i → (k ≡ n) × (i ≡ p)
    refused-here e = (cc, cc)

    -- by how far the file goes on behind a place: each record takes some of it
    abbrev Away : ℕ → ℕ → Draft → Type 0
    Away more at x = Front s at x → length s < more + at → TurnedAway s n p

    module _ (more at : ℕ) (x : Draft) (later : (next : ℕ) (e : Draft) → Away more next e) (f : Front s at x)
        (r : RecordRight s at x) (h : length s < suc more + at) where
      amended : {a : Amendment} → Amending s at a → TurnedAway s n p
      amended {a} k = later _ _ (amendment a f r k (r.amendable.acts a k).1) (omega arith)

      away-right : Known s at → TurnedAway s n p
      away-right (machine k e) = later _ _ (machine f r k) (omega arith)
      away-right (bodied (inl k) j l e) = later _ _ (move f r k) (omega arith)
      away-right (bodied (inr k) j l e) = amended (replacement k)
      away-right (withdrawal k e) = amended (withdrawal k)
      away-right (end k e) =
          let c = front-reached f in
          by_cases (ltb (at + 4) (length s))
          (λ t.
          let i = refused-here (end-refuses c r k (ltb-true _ _ t)) in
          behind-end at x f r k (sym i.0) (sym i.1) (omega (arith, ltb-true (at + 4) (length s) t, i.1)))
          (λ t. absurd (given-not-refused (sym (end-given c r k (ltb-false _ _ t)) ∙ q)))

    away : (more at : ℕ) (x : Draft) → Away more at x
    away zero at x f h = absurd (let z : ⊥ = omega (arith, (front-reached f).sound.inside) in z)
    away (suc more) at x f h =
        let c = front-reached f in
        ⊎_elim
        (λ w.
        let i = refused-here (faulty-refuses c w.1) in
        rw (← i.0, ← i.1) (by-record x f w.1))
        (λ r. away-right more at x (λ next e. away more next e) f r h r.known)
        (judged s at x (reached-valid c).sent)

  turned-away : {n p : ℕ} → TurnedAway s n p → parse s ≡ refused n p
  turned-away (by-record x f w) = faulty-refuses (front-reached f) w
  turned-away (behind-end at x f r k a b h) = end-refuses (front-reached f) r k (omega arith) ∙ rw (a, b)

pub refused-exactly : RefusedExactly
refused-exactly s n p = (λ q. away s q (length s + 1) 0 _ nothing (omega arith), turned-away s)
