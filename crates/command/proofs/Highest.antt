-- "The highest-numbered group with a property", and the cause that stands at it.
-- Assumes nothing.
use Prim.Native.Nat.{ℕ, zero, suc, ◌<◌}
use mathlib.Core.Path.{◌≡◌, refl, sym, ap, ◌∙◌}
use mathlib.Core.Logic.{◌⊎◌, inl, inr, ⊎_elim}
use mathlib.Core.List.Memᴰ
use mathlib.Core.List.{List, flat_map, Memᴰ}
use mathlib.Core.Bool.{Bool, true, false, not}
use native.Mathlib.Nat.{not-suc-le-zero, eq-or-lt_of_le, le_of_suc-le-suc}
use native.Mathlib.Omega.{arith}
use borrow.Author.Tests.{ltb-true, lt-ltb, le-ltb}
use Rattle.common.specs.Lists.{find}
use Rattle.common.specs.Reply.{Reply, Fault, fault, clear, unless}
use Rattle.common.proofs.Bools.{by_cases, true-false, not-of-true, not_of_false}
use Rattle.common.proofs.Clear.{unless-append-clear, unless-append-decides}
use Rattle.sheet.specs.Model.{Model}
use Rattle.plan.specs.Groups.{group_count, smallest_member}
use Rattle.common.specs.Lists.{down_to}
use Rattle.command.specs.Attainable.{groups, highest, fault_of}

-- n - 1, .. 1, 0 are the numbers below n
pub down_to-mem : {i : ℕ} (n : ℕ) → i < n → Memᴰ i (down_to n)
unfolding down_to
down_to-mem zero h = absurd (not-suc-le-zero h)
down_to-mem (suc n) h =
    ⊎_elim (λ e. Memᴰ.head e) (λ l. Memᴰ.tail (down_to-mem n l)) (eq-or-lt_of_le (le_of_suc-le-suc h))

pub down_to-below : {i : ℕ} (n : ℕ) → Memᴰ i (down_to n) → i < n
unfolding down_to
down_to-below zero l = absurd (Memᴰ.not-nil l)
down_to-below (suc n) l =
    ⊎_elim (λ e. omega arith) (λ t. omega (arith, down_to-below n t)) (Memᴰ.cases_cons l)

-- a has the property, and no number above it and below n has
pub record Highest (p : ℕ → Bool) (n a : ℕ) : Type 0 where
  pub below : a < n
  pub has : p a ≡ true
  pub none_above : (b : ℕ) → a < b → b < n → p b ≡ false

-- no number below n has it
abbrev pub None : (ℕ → Bool) → ℕ → Type 0
None p n = (a : ℕ) → a < n → p a ≡ false

-- the first from the top is the highest, or there is none
pub find-down : (p : ℕ → Bool) (n d : ℕ) → Highest p n (find p (down_to n) d) ⊎ ((find p (down_to n) d ≡ d) × None p n)
unfolding down_to find
find-down p zero d = inr (refl, λ a h. absurd (not-suc-le-zero h))
find-down p (suc n) d =
    by_cases (p n)
    (λ t. rw t (inl (record {
      below = omega arith;
      has = t;
      none_above = λ b l h. absurd (let f : ⊥ = omega arith in f);
    })))
    (λ f. rw f (⊎_elim
    (λ r. inl (record {
      below = omega (arith, r.below);
      has = r.has;
      none_above = λ b l h. ⊎_elim (λ e. ap p e ∙ f) (λ k. r.none_above b l k) (eq-or-lt_of_le (le_of_suc-le-suc h));
    }))
    (λ r. inr (r.0, λ a h. ⊎_elim (λ e. ap p e ∙ f) (λ k. r.1 a k) (eq-or-lt_of_le (le_of_suc-le-suc h))))
    (find-down p n d)))

-- the highest below n + 1, if it is not n, is the highest below n
pub highest-lower : (p : ℕ → Bool) {n a : ℕ} → (a ≡ n → ⊥) → Highest p (suc n) a → Highest p n a
highest-lower p other h =
    record {
      below = omega (arith, h.below);
      has = h.has;
      none_above = λ b l k. h.none_above b l (omega arith);
    }

-- there is but one
highest-same : (p : ℕ → Bool) {n a b : ℕ} → Highest p n a → Highest p n b → a ≡ b
highest-same p {a = a} {b = b} h k =
    let up : ¬ (a < b) = λ l. true-false k.has (h.none_above b l k.below) in
    let down : ¬ (b < a) = λ l. true-false h.has (k.none_above a l h.below) in
    omega arith

-- causes listed from the highest number down: those of the highest number that has one decide
pub unless-highest : {A : Type 0} (f : ℕ → List Fault) (n : ℕ) {a : ℕ} (r : Reply A)
    → Highest (λ k. not (clear (f k))) n a → unless (flat_map f (down_to n)) r ≡ unless (f a) r
unfolding down_to flat_map
unless-highest f zero r h = absurd (not-suc-le-zero h.below)
unless-highest f (suc n) {a} r h =
    by_cases (clear (f n))
    (λ t.
    let other : a ≡ n → ⊥ = λ e. true-false h.has (not-of-true (ap (λ k. clear (f k)) e ∙ t)) in
    unless-append-clear (f n) (flat_map f (down_to n)) r t
    ∙ unless-highest f n r (highest-lower (λ k. not (clear (f k))) other h))
    (λ c.
    let top : ¬ (a < n) = λ l. true-false (not_of_false c) (h.none_above n l (omega arith)) in
    let e : a ≡ n = omega (arith, h.below) in
    unless-append-decides (f n) (flat_map f (down_to n)) r c ∙ ap (λ k. unless (f k) r) (sym e))

-- The cause of the groups with a property
module _ (m : Model) (plan : List ℕ) (number : ℕ) (p : ℕ → Bool) where
  abbrev count : ℕ
  count = group_count (groups m plan)

  -- there is such a group: the cause stands at the smallest machine of the highest
  pub fault-at : {a : ℕ} → Highest p (group_count (groups m plan)) a
      → fault_of m plan number p ≡ fault number (smallest_member (groups m plan) a) true
  unfolding fault_of highest
  fault-at {a} h =
      ⊎_elim
      (λ r.
      let e : find p (down_to count) count ≡ a = highest-same p r h in
      rw e (ap (fault number (smallest_member (groups m plan) a)) (lt-ltb a count h.below)))
      (λ r. absurd (true-false h.has (r.1 _ h.below)))
      (find-down p count count)

  -- it applies: it stands at the smallest machine of the highest-numbered group with the property
  pub fault-place : (fault_of m plan number p).applies ≡ true
      → (a : ℕ) × Highest p (group_count (groups m plan)) a
      × ((fault_of m plan number p).place ≡ smallest_member (groups m plan) a)
  unfolding fault_of highest
  fault-place t =
      ⊎_elim
      (λ r. (_, r, refl))
      (λ r. absurd (let f : ⊥ = omega (arith, r.0, ltb-true (find p (down_to count) count) count t) in f))
      (find-down p count count)

  -- it does not apply exactly if no group has the property
  pub fault-none : (fault_of m plan number p).applies ≡ false → None p (group_count (groups m plan))
  unfolding fault_of highest
  fault-none f =
      ⊎_elim
      (λ r. absurd (true-false (lt-ltb _ _ r.below) f))
      (λ r. r.1)
      (find-down p count count)

  pub none-fault : None p (group_count (groups m plan)) → (fault_of m plan number p).applies ≡ false
  unfolding fault_of highest
  none-fault h =
      ⊎_elim
      (λ r. absurd (true-false r.has (h _ r.below)))
      (λ r. le-ltb (find p (down_to count) count) count (omega (arith, r.0)))
      (find-down p count count)
