-- What a record that passes does to a draft: the step of every induction over a sheet.
-- Assumes nothing.
use Prim.Native.Nat.{ℕ, ◌≤◌}
use mathlib.Core.Path.{◌≡◌, refl, sym, ap, subst}
use mathlib.Core.Logic.{◌⊎◌, inl, inr, ⊎_elim}
use mathlib.Core.List.{List, [], ◌∷◌, ◌++◌}
use mathlib.Core.Bool.{false}
use native.Mathlib.Omega.{arith}
use borrow.Author.Tests.{eqb-true, ltb-false}
use lib.Dec.{eqb}
use lib.ListN.{length}
use Rattle.common.specs.Reply.{given}
use Rattle.common.proofs.Bools.{by_cases, true-false}
use Rattle.common.proofs.Reply.{Clear, clear-left, clear-right}
use Rattle.common.proofs.Snoc.{length-snoc}
use Rattle.sheet.specs.Record.{byte, part}
use Rattle.sheet.specs.Model.{Move, move_count, move_of, with_machine, with_move, with_moves}
use Rattle.sheet.specs.Amend.{replace, amendment_of, amend}
use Rattle.sheet.specs.Amend.{Draft, empty_draft, draft_machine, draft_move, draft_amended, amended_model}
use Rattle.sheet.specs.Faults.{move_faults, late_faults, faults_of}
use Rattle.sheet.specs.Valid.{ValidMove, Valid}
use Rattle.sheet.specs.Parse.{Progress, amended_by, extended, more, turn_at}
use Rattle.sheet.proofs.Fits.{MachinePasses, MovePasses, AmendmentPasses}
use Rattle.sheet.proofs.Fits.{machine-passes, move-passes, replace-passes, withdraw-passes}
use Rattle.sheet.proofs.Turns.{goes_on}
use Rattle.sheet.proofs.Valid.{valid-empty, with-machine, with-move}
use Rattle.sheet.proofs.Amended.{named-inside, amended-count, valid-amended}

-- a whole record that is neither faulty nor the end
pub data Passing (x : Draft) (kind : ℕ) (body : List ℕ) : Type 0 where
  machine : kind ≡ 1 → MachinePasses x.sent body → Passing x kind body
  move : kind ≡ 2 → MovePasses x.sent body → x.amended ≡ 0 → Passing x kind body
  amendment : (kind ≡ 4) ⊎ (kind ≡ 5) → AmendmentPasses x kind body → Passing x kind body

pub passing : (x : Draft) (at kind : ℕ) (body : List ℕ) → Clear (faults_of x at kind body) → eqb kind 3 ≡ false
    → Passing x kind body
unfolding faults_of late_faults
passing x at kind body c e =
    by_cases (eqb kind 1) (λ t. machine (eqb-true _ _ t) (machine-passes x.sent at body (rw t at c))) (λ f.
    by_cases (eqb kind 2)
    (λ t.
    let g = rw (f, t) at c in
    let late = clear-right (move_faults x.sent at body) (late_faults x at) g in
    move (eqb-true _ _ t) (move-passes x.sent at body (clear-left (move_faults x.sent at body) (late_faults x at) g))
    (omega (arith, ltb-false 0 x.amended late.0))) (λ g.
    by_cases (eqb kind 4)
    (λ t.
    let k = eqb-true kind 4 t in
    amendment (inl k) (rw k (replace-passes x at body (rw (f, g, e, t) at c)))) (λ h.
    by_cases (eqb kind 5)
    (λ t.
    let k = eqb-true kind 5 t in
    amendment (inr k) (rw k (withdraw-passes x at body (rw (f, g, e, h, t) at c)))) (λ k.
    absurd (true-false refl (let w = rw (f, g, e, h, k) at c in w.0))))))

-- what holds of a draft between two records: what was sent is valid, and so is what stands
pub record ValidDraft (x : Draft) : Type 0 where
  pub sent : Valid x.sent
  pub standing : Valid (amended_model x)
  pub fewer : length x.standing ≤ move_count x.sent
  pub untouched : x.amended ≡ 0 → x.standing ≡ x.sent.moves
  pub quiet : move_count x.sent ≡ 0 → x.amended ≡ 0

pub draft-empty : ValidDraft empty_draft
draft-empty = record { sent = valid-empty; standing = valid-empty; fewer = omega arith; untouched = λ e. refl; quiet = λ e. refl }

-- an amendment that replaces puts in its place the move of its body
pub replaces : (kind : ℕ) (body : List ℕ) {v : Move} → amendment_of kind body ≡ replace v → (kind ≡ 4) × (move_of body ≡ v)
unfolding amendment_of
replaces kind body {v} e =
    by_cases (eqb kind 4)
    (λ t. let q = rw t at e in (eqb-true _ _ t, cc))
    (λ f. let q = rw f at e in absurd (let z : ◌≡◌ {A = ℕ} 0 1 = cc in let n : ⊥ = omega arith in n))

module _ (x : Draft) (ok : ValidDraft x) where
  pub draft-machine : (body : List ℕ) → MachinePasses x.sent body
      → ValidDraft (draft_machine x (byte body 0) (byte body 1))
  unfolding with_machine
  draft-machine body p =
      let new = with-machine x.sent (byte body 0) (byte body 1) ok.sent p.no-move-yet p.room p.valid in
      let none : x.sent.moves ≡ x.standing = sym (ok.untouched (ok.quiet p.no-move-yet)) in
      record {
        sent = new;
        standing = subst (λ vs. Valid (with_moves (with_machine x.sent (byte body 0) (byte body 1)) vs)) none new;
        fewer = ok.fewer;
        untouched = ok.untouched;
        quiet = ok.quiet;
      }

  pub draft-move : (body : List ℕ) → MovePasses x.sent body → x.amended ≡ 0 → ValidDraft (draft_move x (move_of body))
  unfolding with_move
  draft-move body p none =
      let v = move_of body in
      let same : x.standing ++ (v ∷ []) ≡ x.sent.moves ++ (v ∷ []) = ap (λ l. l ++ (v ∷ [])) (ok.untouched none) in
      let new = with-move x.sent v ok.sent p.room p.valid p.command in
      record {
        sent = new;
        standing = subst (λ vs. Valid (with_moves x.sent vs)) (sym same) new;
        fewer = omega (arith, ok.fewer, length-snoc x.standing v, length-snoc x.sent.moves v);
        untouched = λ e. same;
        quiet = λ e. none;
      }

  pub draft-amended : (kind : ℕ) (body : List ℕ) → AmendmentPasses x kind body
      → ValidDraft (draft_amended x (amend x.standing (amendment_of kind body)))
  draft-amended kind body p =
      let a = amendment_of kind body in
      record {
        sent = ok.sent;
        standing =
            valid-amended x.sent x.standing a ok.standing p.some
            (λ v e. let r = replaces kind body e in subst (ValidMove x.sent) r.1 (p.valid r.0));
        fewer = omega (arith, ok.fewer, amended-count x.sent x.standing a ok.standing p.some);
        untouched = λ e. absurd (let f : ⊥ = omega arith in f);
        quiet = λ e.
            absurd (let f : ⊥ = omega (arith, ok.fewer, named-inside x.standing a p.some) in f);
      }

-- what has been read, with one more record, by its kind
abbrev pub with_machine_read : Progress → List ℕ → Progress
with_machine_read d body = record { draft = draft_machine d.draft (byte body 0) (byte body 1); places = d.places }

abbrev pub with_move_read : Progress → ℕ → List ℕ → Progress
with_move_read d at body = record { draft = draft_move d.draft (move_of body); places = d.places ++ (at ∷ []) }

module _ (d : Progress) (at : ℕ) (body : List ℕ) where
  pub reads-machine : extended d 1 at body ≡ with_machine_read d body
  unfolding extended
  reads-machine = refl

  pub reads-move : extended d 2 at body ≡ with_move_read d at body
  unfolding extended
  reads-move = refl

  pub reads-amendment : (kind : ℕ) → (kind ≡ 4) ⊎ (kind ≡ 5) → extended d kind at body ≡ amended_by d at (amendment_of kind body)
  unfolding extended
  reads-amendment kind h = ⊎_elim (λ k. rw k) (λ k. rw k) h

pub draft-turn : (s : List ℕ) (at : ℕ) (d : Progress) (kind start len : ℕ) {next : ℕ} {e : Progress}
    → turn_at s at d kind start len ≡ given (more next e) → ValidDraft d.draft → ValidDraft e.draft
draft-turn s at d kind start len {e = e} q ok =
    let g = goes_on s at d kind start len q in
    subst (λ y. ValidDraft y.draft) g.reads
    (go (passing d.draft at kind (part s start len) g.clear g.no_end))
  where
    go : Passing d.draft kind (part s start len) → ValidDraft (extended d kind at (part s start len)).draft
    go (machine k p) = rw (k, reads-machine d at (part s start len)) (draft-machine d.draft ok _ p)
    go (move k p none) = rw (k, reads-move d at (part s start len)) (draft-move d.draft ok _ p none)
    go (amendment k p) =
        rw (reads-amendment d at (part s start len) kind k) (draft-amended d.draft ok kind (part s start len) p)
