-- What a sheet that was read guarantees: its model is valid, it has a machine, and each move stands in the file where
-- the index says.
-- Assumes nothing.
use Prim.Native.Nat.{ℕ, ◌%◌, ◌≤◌, ◌<◌}
use mathlib.Core.Path.{◌≡◌, refl, sym, subst}
use mathlib.Core.List.{List, [], ◌∷◌, ◌++◌}
use mathlib.Core.Bool.{true}
use native.Mathlib.Nat.{not-suc-le-zero}
use native.Mathlib.Omega.{arith}
use borrow.Author.Tests.{eqb-true, eqb-false, not-false}
use lib.Dec.{eqb}
use lib.ListN.{length, get_or, get_or-append}
use lib.Seq.{get_or_at}
use Rattle.common.specs.Lists.{any}
use Rattle.common.specs.Reply.{given}
use Rattle.common.proofs.Reply.{Clear}
use Rattle.common.proofs.Snoc.{length-snoc, snoc-each}
use Rattle.sheet.specs.Record.{whole}
use Rattle.sheet.specs.Record.{record_at, part, body_at}
use Rattle.sheet.specs.Model.{Move, absent_move, machine_count, move_count, move_at, move_of, is_same_move}
use Rattle.sheet.specs.Amend.{Amendment, replace, amendment_of, named, instead, standing_at, exchanged, amend, Draft}
use Rattle.sheet.specs.Faults.{faults_of, end_faults}
use Rattle.sheet.specs.Valid.{Valid}
use Rattle.sheet.specs.Parse.{Parsed, Progress, outset, finished, extended, ended, turn_of, parse}
use Rattle.sheet.proofs.Records.{whole-at, body-part, part_length}
use Rattle.sheet.proofs.Turns.{goes_on, ends, turn-whole}
use Rattle.sheet.proofs.Stops.{Stop, at-end, Stopped, Keeps, reading-stops}
use Rattle.sheet.proofs.Fits.{MoveSize}
use Rattle.sheet.proofs.Amended.{named-inside, amended-paired, amended-each}
use Rattle.sheet.proofs.Drafts.{Passing, machine, move, amendment, passing, ValidDraft, draft-empty, draft-turn}
use Rattle.sheet.proofs.Drafts.{replaces, reads-machine, reads-move, reads-amendment}
use Rattle.sheet.proofs.Counts.{reach, grown-turn}

-- a move stands in a file: it is what the body of the record at a place writes
pub record Stands (s : List ℕ) (at : ℕ) (v : Move) : Type 0 where
  pub long : 4 ≤ length (body_at s at)
  pub short : length (body_at s at) ≤ 20
  pub even : length (body_at s at) % 2 ≡ 0
  pub read : move_of (body_at s at) ≡ v

-- each move stands where its record is said to begin
pub record Placed (s : List ℕ) (moves : List Move) (places : List ℕ) : Type 0 where
  pub paired : length places ≡ length moves
  pub stands : (v : ℕ) → v < length moves → Stands s (get_or places v 0) (get_or moves v absent_move)

module _ (s : List ℕ) (moves : List Move) (places : List ℕ) (at : ℕ) (p : Placed s moves places) where
  pub placed-move : (v : Move) → Stands s at v → Placed s (moves ++ (v ∷ [])) (places ++ (at ∷ []))
  placed-move v new =
      let e = p.paired in
      record {
        paired = omega (arith, length-snoc places at, length-snoc moves v);
        stands =
            snoc-each moves v absent_move (λ i x. Stands s (get_or (places ++ (at ∷ [])) i 0) x)
            (λ i h. rw (get_or-append places (at ∷ []) 0 i (omega arith)) (p.stands i h))
            (rw (get_or_at places at [] 0 (length moves) e) new);
      }

  pub placed-amended : (a : Amendment) → any (is_same_move (named a)) moves ≡ true
      → ((v : Move) → a ≡ replace v → Stands s at (named a))
      → Placed s (amend moves a) (exchanged (standing_at moves a) (instead a at) places)
  unfolding amend
  placed-amended a some new =
      let x = standing_at moves a in
      let inside = named-inside moves a some in
      record {
        paired = amended-paired moves places absent_move 0 (named a) at x inside p.paired a;
        stands =
            amended-each moves places absent_move 0 (named a) at x inside p.paired a (λ v place. Stands s place v)
            p.stands new;
      }

-- what holds between two records
pub record Sound (s : List ℕ) (at : ℕ) (d : Progress) : Type 0 where
  pub inside : at ≤ length s
  pub near : at ≤ reach d.draft
  pub valid : ValidDraft d.draft
  pub few : d.draft.amended ≤ 64
  pub placed : Placed s d.draft.standing d.places

pub sound-start : (s : List ℕ) → Sound s 0 outset
sound-start s =
    record {
      inside = omega arith;
      near = omega arith;
      valid = draft-empty;
      few = omega arith;
      placed = record { paired = refl; stands = λ v h. absurd (not-suc-le-zero h) };
    }

pub move-stands : (s : List ℕ) (at : ℕ) {kind start len : ℕ} → record_at s at ≡ whole kind start len
    → MoveSize (length (part s start len)) → Stands s at (move_of (part s start len))
move-stands s at w c =
    let b = body-part s at (sym w) refl in
    record { long = rw (← b) c.long; short = rw (← b) c.short; even = rw (← b) c.even; read = rw (← b) }

module _ (s : List ℕ) (at : ℕ) (d : Progress) (kind start len : ℕ) (w : record_at s at ≡ whole kind start len) where
  abbrev body : List ℕ
  body = part s start len

  placed_on : Passing d.draft kind body → Placed s d.draft.standing d.places
      → Placed s (extended d kind at body).draft.standing (extended d kind at body).places
  placed_on (machine k c) p = rw (k, reads-machine d at body) p
  placed_on (move k c none) p =
      rw (k, reads-move d at body)
      (placed-move s d.draft.standing d.places at p (move_of body) (move-stands s at w c.size))
  placed_on (amendment k c) p =
      let a = amendment_of kind body in
      rw (reads-amendment d at body kind k)
      (placed-amended s d.draft.standing d.places at p a c.some
      (λ v e.
      let r = replaces kind body e in
      rw (e, ← r.1) (move-stands s at w (c.size.0 r.0))))

  few_on : Passing d.draft kind body → d.draft.amended ≤ 64 → (extended d kind at body).draft.amended ≤ 64
  few_on (machine k c) h = rw (k, reads-machine d at body) h
  few_on (move k c none) h = rw (k, reads-move d at body) h
  few_on (amendment k c) h = rw (reads-amendment d at body kind k) (omega (arith, c.room))

pub sound-turn : (s : List ℕ) → Keeps s (Sound s)
sound-turn s at d kind start len next e w q h =
    let g = goes_on s at d kind start len q in
    let p = passing d.draft at kind (part s start len) g.clear g.no_end in
    record {
      inside = omega (arith, whole-at s at w);
      near = omega (arith, (grown-turn s at d kind start len next e w q).bytes_read, h.near);
      valid = draft-turn s at d kind start len q h.valid;
      few = rw (← g.reads) (few_on s at d kind start len w p h.few);
      placed = rw (← g.reads) (placed_on s at d kind start len w p h.placed);
    }

-- no record begins past the longest sheet's end record
pub sound-small : (s : List ℕ) (at : ℕ) (d : Progress) → Sound s at d → at ≤ 7728
sound-small s at d h = omega (arith, h.near, h.few, h.valid.sent.few-machines, h.valid.sent.few-moves)

-- where reading ends
pub record Read (s : List ℕ) (d : Parsed) : Type 0 where
  pub valid : Valid d.model
  pub has-machine : 0 < machine_count d.model
  pub small : length s ≤ 7732
  pub placed : Placed s d.model.moves d.places

pub end-passes : (x : Draft) (at kind : ℕ) (body : List ℕ) → eqb kind 3 ≡ true → Clear (faults_of x at kind body)
    → (length body ≡ 0) × (0 < machine_count x.sent)
unfolding faults_of end_faults
end-passes x at kind body e c =
    let h : Clear (end_faults x.sent at body) = rw (eqb-true kind 3 e) at c in
    (eqb-true _ _ (not-false _ h.0), omega (arith, eqb-false (machine_count x.sent) 0 h.1.0))

pub end_read : (s : List ℕ) (at : ℕ) (d : Progress) {e : Progress} → Sound s at d
    → turn_of s at d (record_at s at) ≡ given (ended e) → Read s (finished e)
end_read s at d h q =
    let w = turn-whole s at d (record_at s at) q in
    let k = ends s at d w.kind w.start w.len w.turn in
    let c = end-passes d.draft at w.kind (part s w.start w.len) k.is-end k.clear in
    let i = whole-at s at w.whole in
    let l = part_length s w.start w.len i.within in
    rw (← k.keeps)
    (record {
      valid = h.valid.standing;
      has-machine = c.1;
      small = omega (arith, k.nothing-behind, i.starts, c.0, sound-small s at d h);
      placed = h.placed;
    })

pub stopped-read : (s : List ℕ) (d : Parsed) → Stopped s (Sound s) (given d) → Read s d
stopped-read s d r = go r.stop
  where
    go : Stop s r.place r.before (given d) → Read s d
    go (at-end q e) = subst (Read s) e (end_read s r.place r.before r.kept q)

module _ (s : List ℕ) {d : Parsed} (q : parse s ≡ given d) where
  pub parse-read : Read s d
  unfolding parse
  parse-read =
      let r = reading-stops s (Sound s) (sound-turn s) 347 0 outset (sound-start s) in
      stopped-read s d (subst (Stopped s (Sound s)) q r)

  pub parse-valid : Valid d.model
  parse-valid = parse-read.valid

  pub parse-has-machine : 0 < machine_count d.model
  parse-has-machine = parse-read.has-machine

  pub parse-places : length d.places ≡ move_count d.model
  parse-places = parse-read.placed.paired

  pub parse-stands : (v : ℕ) → v < move_count d.model → Stands s (get_or d.places v 0) (move_at d.model v)
  parse-stands = parse-read.placed.stands
