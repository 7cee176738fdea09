-- A goal that is not covered has one number and one place: no other is due to it.
-- Assumes nothing.
use Prim.Native.Nat.{ℕ, ◌<◌}
use mathlib.Core.Path.{◌≡◌, sym, subst, ◌∙◌}
use mathlib.Core.List.{List}
use mathlib.Core.Bool.{Bool}
use native.Mathlib.Omega.{arith}
use Rattle.common.proofs.Bools.{true-false}
use Rattle.sheet.specs.Model.{Model}
use Rattle.command.specs.Goal.{Masks}
use Rattle.command.specs.Uncovered.{Smallest, AllLive, NotLive, DeadEnd, Because, by-16, by-17, by-18, Passes, Uncovered}

module _ (m : Model) (plan : List ℕ) (counts : ℕ → Bool) (state : List ℕ) (masks : Masks) where
  smallest-one : {group p q : ℕ} → Smallest m plan group p → Smallest m plan group q → p ≡ q
  smallest-one {group} {p} {q} a b = omega (arith, a.least q b.present b.member, b.least p a.present a.member)

  live-contradicts : {k p : ℕ} → AllLive m plan counts state masks k → NotLive m plan counts state masks k p → ⊥
  live-contradicts live n = true-false (live n.group n.below n.concerned) n.not_live

  -- the highest group that is not live, or that may be stranded, is one alone
  not-live-above : {k p q : ℕ} (a : NotLive m plan counts state masks k p) (b : NotLive m plan counts state masks k q)
      → ¬ (a.group < b.group)
  not-live-above a b l = true-false (a.higher-live b.group l b.below b.concerned) b.not_live

  dead-end-above : {k p q : ℕ} (a : DeadEnd m plan counts state masks k p) (b : DeadEnd m plan counts state masks k q)
      → ¬ (a.group < b.group)
  dead-end-above a b l =
      b.stranded ((a.higher-none b.group l b.below b.is-upstream).attains-from b.mode b.within b.comes-there)

  not-live-one : {k p q : ℕ} → NotLive m plan counts state masks k p → NotLive m plan counts state masks k q → p ≡ q
  not-live-one {k} {p} {q} a b =
      let same : a.group ≡ b.group = omega (arith, not-live-above a b, not-live-above b a) in
      smallest-one (subst (λ g. Smallest m plan g p) same a.place_is) b.place_is

  dead-end-one : {k p q : ℕ} → DeadEnd m plan counts state masks k p → DeadEnd m plan counts state masks k q → p ≡ q
  dead-end-one {k} {p} {q} a b =
      let same : a.group ≡ b.group = omega (arith, dead-end-above a b, dead-end-above b a) in
      smallest-one (subst (λ g. Smallest m plan g p) same a.place_is) b.place_is

  -- a group has one cause
  because-one : {k n p i q : ℕ} → Because m plan counts state masks k n p → Because m plan counts state masks k i q → (n ≡ i) × (p ≡ q)
  because-one (by-16 e a) (by-16 f b) = (e ∙ sym f, not-live-one a b)
  because-one (by-16 e a) (by-17 f live none s) = absurd (live-contradicts live a)
  because-one (by-16 e a) (by-18 f live some b) = absurd (live-contradicts live a)
  because-one (by-17 e live none s) (by-16 f b) = absurd (live-contradicts live b)
  because-one (by-17 e live none s) (by-17 f other more t) = (e ∙ sym f, smallest-one s t)
  because-one (by-17 e live none s) (by-18 f other some b) = absurd (none some)
  because-one (by-18 e live some a) (by-16 f b) = absurd (live-contradicts live b)
  because-one (by-18 e live some a) (by-17 f other none s) = absurd (none some)
  because-one (by-18 e live some a) (by-18 f other more b) = (e ∙ sym f, dead-end-one a b)

  -- and a group that passes has none
  passes-contradicts : {k n p : ℕ} → Passes m plan counts state masks k → Because m plan counts state masks k n p → ⊥
  passes-contradicts s (by-16 e a) = live-contradicts s.live a
  passes-contradicts s (by-17 e live none t) = none s.attains
  passes-contradicts s (by-18 e live some a) =
      a.stranded ((s.no-dead-end a.group a.below a.is-upstream).attains-from a.mode a.within a.comes-there)

  refuses-above : {n p i q : ℕ} (a : Uncovered m plan counts state masks n p) (b : Uncovered m plan counts state masks i q)
      → ¬ (a.group < b.group)
  refuses-above a b l = passes-contradicts (a.higher-pass b.group l b.below b.unmet) b.because

  pub uncovered-one : {n p i q : ℕ} → Uncovered m plan counts state masks n p → Uncovered m plan counts state masks i q
      → (n ≡ i) × (p ≡ q)
  uncovered-one {n} {p} a b =
      let same : a.group ≡ b.group = omega (arith, refuses-above a b, refuses-above b a) in
      because-one (subst (λ g. Because m plan counts state masks g n p) same a.because) b.because
