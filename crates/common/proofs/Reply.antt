-- Laws of `unless` and `and_then`: what a reply tells of its causes, whatever would have been given without them.
-- Assumes nothing.
use Prim.Native.Nat.{ℕ, ◌≤◌}
use mathlib.Core.Path.{◌≡◌, refl, sym, ap, ◌∙◌}
use mathlib.Core.Logic.{◌⊎◌, inl, inr, ⊎_elim, ⊎_map}
use mathlib.Core.List.Memᴰ
use mathlib.Core.List.{List, [], ◌∷◌, ◌++◌, map, Memᴰ}
use mathlib.Core.Bool.{Bool, true, false, cond, ◌&&◌}
use native.Mathlib.Omega.{arith}
use borrow.Author.Tests.{ltb-true}
use lib.Dec.{ltb}
use Rattle.common.specs.Lists.{all}
use Rattle.common.specs.Reply.{Reply, given, refused, Fault, unless, and_then}
use Rattle.common.proofs.Bools.{by_cases, true-false, and_left, and_right}
use Rattle.common.proofs.Lists.{all-at}

-- a statement of each member of a list: of a written list, `h.0` is the first one's, `h.1.0` the second's ..
abbrev pub Each : {A : Type 0} → (A → Type 0) → List A → Type 0
Each P [] = Unit {0}
Each P (x ∷ xs) = P x × Each P xs

pub each_at : {A : Type 0} (P : A → Type 0) {x : A} {xs : List A} → Each P xs → Memᴰ x xs → P x
each_at P h (Memᴰ.head e) = rw e h.0
each_at P h (Memᴰ.tail m) = each_at P h.1 m

abbrev pub Silent : Fault → Type 0
Silent f = f.applies ≡ false

-- no cause applies
abbrev pub Clear : List Fault → Type 0
Clear fs = Each Silent fs

pub given-not-refused : {A : Type 0} {a : A} {n p : ℕ} → given a ≡ refused n p → ⊥
given-not-refused e = let z : ◌≡◌ {A = ℕ} 0 1 = cc in omega arith

-- some cause applies, and has this number and place
pub record CausedBy (fs : List Fault) (n p : ℕ) : Type 0 where
  pub cause : Fault
  pub listed : Memᴰ cause fs
  pub applies : cause.applies ≡ true
  pub number : cause.number ≡ n
  pub place : cause.place ≡ p

pub caused-later : (f : Fault) {fs : List Fault} {n p : ℕ} → CausedBy fs n p → CausedBy (f ∷ fs) n p
caused-later f c =
    record {
      cause = c.cause;
      listed = Memᴰ.tail c.listed;
      applies = c.applies;
      number = c.number;
      place = c.place;
    }

-- what is true of each cause is true of the one that refuses
pub caused-each : (P : ℕ → ℕ → Type 0) {fs : List Fault} {n p : ℕ} → Each (λ f. P f.number f.place) fs
    → CausedBy fs n p → P n p
caused-each P h c = rw (← c.number, ← c.place) (each_at (λ f. P f.number f.place) h c.listed)

module _ {A : Type 0} where
  pub unless-clear : (fs : List Fault) (r : Reply A) → Clear fs → unless fs r ≡ r
  unfolding unless
  unless-clear [] r h = refl
  unless-clear (f ∷ fs) r h = rw h.0 (unless-clear fs r h.1)

  pub unless-first : (f : Fault) (fs : List Fault) (r : Reply A) → f.applies ≡ true
      → unless (f ∷ fs) r ≡ refused f.number f.place
  unfolding unless
  unless-first f fs r t = rw t

  pub unless-later : (f : Fault) (fs : List Fault) (r : Reply A) → Silent f → unless (f ∷ fs) r ≡ unless fs r
  unfolding unless
  unless-later f fs r n = rw n

  -- what is given has passed every cause
  pub given-clear : (fs : List Fault) (r : Reply A) {a : A} → unless fs r ≡ given a → Clear fs
  given-clear [] r e = tt
  given-clear (f ∷ fs) r e =
      by_cases f.applies
      (λ t. absurd (given-not-refused (sym e ∙ unless-first f fs r t)))
      (λ n. (n, given-clear fs r (sym (unless-later f fs r n) ∙ e)))

  pub given_stays : (fs : List Fault) (r : Reply A) {a : A} → unless fs r ≡ given a → r ≡ given a
  given_stays fs r e = sym (unless-clear fs r (given-clear fs r e)) ∙ e

  -- a refusal is by a cause that applies, or there was no cause and the reply was that refusal
  pub refused-ways : (fs : List Fault) (r : Reply A) {n p : ℕ} → unless fs r ≡ refused n p
      → CausedBy fs n p ⊎ (Clear fs × (r ≡ refused n p))
  unfolding unless
  refused-ways [] r e = inr (tt, e)
  refused-ways (f ∷ fs) r e =
      by_cases f.applies
      (λ t. let q = sym (unless-first f fs r t) ∙ e in
      inl (record { cause = f; listed = Memᴰ.head refl; applies = t; number = cc; place = cc }))
      (λ n. ⊎_map (caused-later f) (λ c. ((n, c.0), c.1)) (refused-ways fs r (sym (unless-later f fs r n) ∙ e)))

  pub refused-cause : (fs : List Fault) (a : A) {n p : ℕ} → unless fs (given a) ≡ refused n p → CausedBy fs n p
  refused-cause fs a e = ⊎_elim (λ c. c) (λ c. absurd (given-not-refused c.1)) (refused-ways fs (given a) e)

-- causes one behind the other
pub clear-left : (fs gs : List Fault) → Clear (fs ++ gs) → Clear fs
clear-left [] gs h = tt
clear-left (f ∷ fs) gs h = (h.0, clear-left fs gs h.1)

pub clear-right : (fs gs : List Fault) → Clear (fs ++ gs) → Clear gs
clear-right [] gs h = h
clear-right (f ∷ fs) gs h = clear-right fs gs h.1

pub clear_both : (fs gs : List Fault) → Clear fs → Clear gs → Clear (fs ++ gs)
clear_both [] gs h k = k
clear_both (f ∷ fs) gs h k = (h.0, clear_both fs gs h.1 k)

pub unless-append : {A : Type 0} (fs gs : List Fault) (r : Reply A) → unless (fs ++ gs) r ≡ unless fs (unless gs r)
unfolding unless
unless-append [] gs r = refl
unless-append (f ∷ fs) gs r = ap (λ l. cond f.applies (refused f.number f.place) l) (unless-append fs gs r)

-- a cause refuses whatever there is to give
pub refused-anyway : {A B : Type 0} (fs : List Fault) (a : A) (r : Reply B) {n p : ℕ}
    → unless fs (given a) ≡ refused n p → unless fs r ≡ refused n p
unfolding unless
refused-anyway [] a r e = absurd (given-not-refused e)
refused-anyway (f ∷ fs) a r {n} {p} e =
    by_cases f.applies
    (λ t. let q = sym (unless-first f fs (given a) t) ∙ e in
    let i : f.number ≡ n = cc in
    let j : f.place ≡ p = cc in
    unless-first f fs r t ∙ cc)
    (λ n. unless-later f fs r n ∙ refused-anyway fs a r (sym (unless-later f fs (given a) n) ∙ e))

-- numbers that rise
unfoldable pub rising : List ℕ → Bool
rising [] = true
rising (x ∷ xs) = all (ltb x) xs && rising xs

abbrev pub numbers : List Fault → List ℕ
numbers fs = map (λ f. f.number) fs

-- where the numbers of the causes rise, the lowest that applies refuses
pub lowest-first : {A : Type 0} (fs : List Fault) (r : Reply A) {n p : ℕ} → rising (numbers fs) ≡ true
    → unless fs r ≡ refused n p → {g : Fault} → Memᴰ g fs → g.applies ≡ true → n ≤ g.number
unfolding rising
lowest-first [] r h e m k = absurd (Memᴰ.not-nil m)
lowest-first (f ∷ fs) r {n} h e {g} m k =
    by_cases f.applies
    (λ t.
    let q : f.number ≡ n = cc (sym (unless-first f fs r t) ∙ e) in
    ⊎_elim
    (λ i. omega (arith, ap (λ x. x.number) i))
    (λ i. omega (arith, ltb-true f.number g.number (all-at (ltb f.number) (and_left _ _ h) (Memᴰ.map _ i))))
    (Memᴰ.cases_cons m))
    (λ t.
    let above : Bool = all (ltb f.number) (numbers fs) in
    ⊎_elim
    (λ i. absurd (true-false k (ap (λ x. x.applies) i ∙ t)))
    (λ i. lowest-first fs r (and_right above _ h) (sym (unless-later f fs r t) ∙ e) i k)
    (Memᴰ.cases_cons m))

-- of the causes that apply, the one that stands first refuses
pub first-refuses : {A : Type 0} (before : List Fault) (f : Fault) (after : List Fault) (r : Reply A) → Clear before
    → f.applies ≡ true → unless (before ++ f ∷ after) r ≡ refused f.number f.place
first-refuses [] f after r h t = unless-first f after r t
first-refuses (b ∷ before) f after r h t = unless-later b _ r h.0 ∙ first-refuses before f after r h.1 t

-- What goes on was given

module _ {A B : Type 0} where
  pub and_then-given : (r : Reply A) (f : A → Reply B) {b : B} → and_then r f ≡ given b
      → (a : A) × (r ≡ given a) × (f a ≡ given b)
  unfolding and_then
  and_then-given (given a) f e = (a, refl, e)
  and_then-given (refused n p) f e = absurd (given-not-refused (sym e))

  pub and_then-refused : (r : Reply A) (f : A → Reply B) {n p : ℕ} → and_then r f ≡ refused n p
      → (r ≡ refused n p) ⊎ ((a : A) × (r ≡ given a) × (f a ≡ refused n p))
  unfolding and_then
  and_then-refused (given a) f e = inr (a, refl, e)
  and_then-refused (refused k q) f e = inl (cc)
