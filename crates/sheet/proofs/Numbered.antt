-- The kinds of records by their numbers.
-- Assumes nothing.
use Prim.Native.Nat.{ℕ}
use mathlib.Core.Path.{◌≡◌, refl, sym, ap, subst, ◌∙◌}
use mathlib.Core.Bool.{cond}
use lib.Dec.{eqb}
use Rattle.std.specs.Prelude.{Result, Ok, Err}
use Rattle.sheet.specs.declared.kind.Kind.{Kind}
use Rattle.sheet.specs.declared.kind.UnknownKind.{UnknownKind}
use Rattle.sheet.specs.declared.kind.Kind.TheVariants.{Machine, Move, End, Replacement, Withdrawal, Numbers, Table, Bound}
use Rattle.sheet.specs.Kept.Kinds.{kind_number, NamesKind}

-- the kind of a number that has one
kind_at : ℕ → Kind
kind_at n =
    cond (eqb n 1) Machine
    (cond (eqb n 2) Move
    (cond (eqb n 3) End
    (cond (eqb n 4) Replacement
    (cond (eqb n 5) Withdrawal
    (cond (eqb n 16) Numbers
    (cond (eqb n 17) Table Bound))))))

kind_back : (kind : Kind) → kind_at (kind_number kind) ≡ kind
unfolding kind_at
kind_back Machine = refl
kind_back Move = refl
kind_back End = refl
kind_back Replacement = refl
kind_back Withdrawal = refl
kind_back Numbers = refl
kind_back Table = refl
kind_back Bound = refl

-- kinds that differ have numbers that do
pub kinds-differ : {kind other : Kind} → (kind ≡ other → ⊥) → kind_number kind ≡ kind_number other → ⊥
kinds-differ {kind} {other} d e = d (sym (kind_back kind) ∙ ap kind_at e ∙ kind_back other)

module _ {number : ℕ} {r : Result Kind UnknownKind} (names : NamesKind number r) where
  pub kind-named : {kind : Kind} → r ≡ Ok kind → number ≡ kind_number kind
  kind-named e = sym (subst (NamesKind number) e names)

  pub kind-unknown : {u : UnknownKind} → r ≡ Err u → (kind : Kind) → number ≡ kind_number kind → ⊥
  kind-unknown e kind p = subst (NamesKind number) e names kind (sym p)

  pub kind-other : {kind other : Kind} → r ≡ Ok kind → (kind ≡ other → ⊥) → number ≡ kind_number other → ⊥
  kind-other e d p = kinds-differ d (sym (kind-named e) ∙ p)
