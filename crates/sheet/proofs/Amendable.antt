-- The test of 21 is false exactly if its words hold of the record: no move stands behind an amendment, there are at most
-- 64 of those, and each acts.
-- Assumes nothing.
use Prim.Native.Nat.{ℕ, ◌+◌, ◌≤◌, ◌<◌}
use mathlib.Core.Path.{◌≡◌, sym, ◌∙◌}
use mathlib.Core.Logic.{◌↔◌, ◌⊎◌, inl, inr}
use mathlib.Core.List.{List}
use mathlib.Core.Bool.{false}
use native.Mathlib.Omega.{arith}
use borrow.Author.Tests.{ltb-false, eqb-true, lt-leb, le-ltb, ne_eqb}
use lib.Dec.{eqb, ltb}
use Rattle.common.proofs.Bools.{by_cases, or-false-intro, not-of-true, cond-false}
use Rattle.common.proofs.When.{and-known, and-when-false}
use Rattle.sheet.specs.Record.{word, part}
use Rattle.sheet.specs.Model.{Move}
use Rattle.sheet.specs.Amend.{Amendment, amendment_of, amend, Acts, Draft}
use Rattle.sheet.specs.Faults.{unamendable}
use Rattle.sheet.specs.Faulty.{Kind, Known, Amending, replacement, withdrawal, Amendable}
use Rattle.sheet.proofs.Fits.{amendable}
use Rattle.sheet.proofs.Amended.{amend-acts, acts-some}
use Rattle.sheet.proofs.Row.{barred}
use Rattle.sheet.proofs.Causes.{is-either, byte-here, three-bytes}

-- an amendment that has room and acts
record Fitting (x : Draft) (a : Amendment) : Type 0 where
  room : x.amended < 64
  acts : (after : List Move) × Acts a x.standing after

fitting-means : (x : Draft) (a : Amendment) → (unamendable x a ≡ false) ↔ Fitting x a
unfolding unamendable
fitting-means x a = (
  λ h.
      let p = amendable x a h in
      record { room = p.1; acts = (amend x.standing a, amend-acts x.standing a p.0) },
  λ p. or-false-intro (not-of-true (acts-some x.standing a p.acts.1)) (lt-leb 64 x.amended p.room),
)

module _ (s : List ℕ) (at : ℕ) where
  abbrev kind : ℕ
  kind = word s (at + 2)

  abbrev body : List ℕ
  body = part s (at + 4) (word s at)

  -- which amendment a record is
  pub amending-kind : {a : Amendment} → Amending s at a → Kind s at 4 ⊎ Kind s at 5
  amending-kind (replacement k) = inl k
  amending-kind (withdrawal k) = inr k

  pub amending-late : {a : Amendment} → Amending s at a → 4 ≤ kind
  amending-late (replacement k) = omega arith
  amending-late (withdrawal k) = omega arith

  amending-some : Kind s at 4 ⊎ Kind s at 5 → (a : Amendment) × Amending s at a
  amending-some (inl k) = (_, replacement k)
  amending-some (inr k) = (_, withdrawal k)

  pub amending-reads : Known s at → {a : Amendment} → Amending s at a → amendment_of kind body ≡ a
  unfolding amendment_of
  amending-reads known (replacement k) = rw k
  amending-reads known (withdrawal k) =
      let n = three-bytes s at known k in
      rw (k, byte-here s at 0 (omega arith), byte-here s at 1 (omega arith), byte-here s at 2 (omega arith))

  module _ (x : Draft) (known : Known s at) where
    fits-here : barred x kind body ≡ false → (a : Amendment) → Amending s at a → Fitting x a
    unfolding barred
    fits-here h a c =
        let no_move = ne_eqb kind 2 (λ e. omega (arith, amending-late c)) in
        let f : unamendable x (amendment_of kind body) ≡ false =
        and-known ((is-either kind 4 5).1 (amending-kind c)) (sym (cond-false _ _ no_move) ∙ h) in
        (fitting-means x a).0 (rw (amending-reads known c) at f)

    amendable-of : barred x kind body ≡ false → Amendable s at x
    unfolding barred
    amendable-of h =
        record {
          early = λ k. let g : ltb 0 x.amended ≡ false = rw k at h in omega (arith, ltb-false 0 x.amended g);
          room = λ a c. (fits-here h a c).room;
          acts = λ a c. (fits-here h a c).acts;
        }

    amendable-passes : Amendable s at x → barred x kind body ≡ false
    unfolding barred
    amendable-passes p =
        by_cases (eqb kind 2)
        (λ t. rw t (le-ltb 0 x.amended (omega (arith, p.early (eqb-true kind 2 t)))))
        (λ f.
        rw f
        (and-when-false _ _ (λ t.
        let (a, c) = amending-some ((is-either kind 4 5).0 t) in
        rw (amending-reads known c)
        ((fitting-means x a).1 (record { room = p.room a c; acts = p.acts a c })))))

    pub amendable-means : (barred x kind body ≡ false) ↔ Amendable s at x
    amendable-means = (amendable-of, amendable-passes)
