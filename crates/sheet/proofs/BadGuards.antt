-- A move judged by 7, need by need and test by test.
-- Assumes nothing.
use Prim.Native.Nat.{ℕ, ◌+◌, ◌-◌, ◌*◌, ◌/◌, ◌^◌, ◌≤◌, ◌<◌}
use mathlib.Core.Path.{◌≡◌, refl, sym, ap, ◌∙◌}
use mathlib.Core.Bool.{Bool, true, false, ◌&&◌, ◌||◌}
use mathlib.Core.List.{List, [], ◌∷◌, map}
use native.Mathlib.Omega.{arith}
use native.Mathlib.Numerals.{add-one}
use borrow.Author.Tests.{ltb-true, ltb-false, eqb-true, eqb-false, eq-eqb, ne_eqb}
use lib.Dec.{eqb, ltb, leb}
use lib.Pow.{pow_pos}
use lib.ListN.{length, get_or, get_or-map}
use Rattle.common.specs.Lists.{up_to, any, pad}
use Rattle.common.specs.Bits.{beyond}
use Rattle.common.proofs.Bits.{beyond-small, small-beyond}
use Rattle.common.proofs.Pad.{get_or-pad}
use Rattle.common.proofs.Bools.{by_cases, true-of-not-false, or_left, or_right}
use Rattle.common.proofs.Members.{get_or-map-up_to, up_to-mem}
use Rattle.common.proofs.Lists.{any_append, any-intro, any-cong}
use Rattle.sheet.specs.Record.{byte}
use Rattle.sheet.specs.Model.{Guard, guard, Move, guard_at, move_of}
use Rattle.sheet.specs.Faults.{bad_guard, bad_guards}
use Rattle.sheet.specs.Kept.Held.{top_of, wrong_guard, wrong_guards}
use Rattle.sheet.proofs.Guards.{guard-count, guard-here}

module _ (body : List ℕ) (n : ℕ) (here : 2 * n + 5 < length body) where
  pub guard-before : 0 < n → (guard_at (move_of body) (n - 1)).machine ≡ byte body (2 + 2 * n)
  unfolding move_of
  guard-before h =
      ap (λ (g : Guard). g.machine)
      (get_or-map-up_to (λ k. guard (byte body (4 + 2 * k)) (byte body (5 + 2 * k))) _ (omega arith))
      ∙ ap (byte body) (omega arith)

-- 7 for a need, from the bytes of its body
unfoldable pub guard_test : List ℕ → ℕ → ℕ → ℕ → ℕ → ℕ → Bool
guard_test tops own n machine before mask =
    eqb machine own || ltb 0 n && leb machine before || eqb mask 0 || ltb (get_or tops machine 0) mask

pub wrong-guard-is : (tops body : List ℕ) (n : ℕ) → 2 * n + 5 < length body
    → wrong_guard tops (move_of body) n
    ≡ guard_test tops (byte body 0) n (byte body (4 + 2 * n)) (byte body (2 + 2 * n)) (byte body (5 + 2 * n))
unfolding wrong_guard guard_test move_of
wrong-guard-is tops body n h =
    rw (guard-here body n h)
    (by_cases (ltb 0 n)
    (λ t. rw (guard-before body n h (ltb-true 0 n t)))
    (λ f. rw f))

-- 7 for a need, by what the tests find
module _ (tops body : List ℕ) (n : ℕ) {i top : ℕ} (here : 2 * n + 5 < length body)
    (e : i ≡ byte body (4 + 2 * n)) (k : top ≡ byte tops i) where
  start : wrong_guard tops (move_of body) n
      ≡ (eqb (byte body (4 + 2 * n)) (byte body 0)
      || ltb 0 n && leb (byte body (4 + 2 * n)) (byte body (2 + 2 * n))
      || eqb (byte body (5 + 2 * n)) 0 || ltb top (byte body (5 + 2 * n)))
  unfolding guard_test
  start = wrong-guard-is tops body n here ∙ rw (← e, ← k)

  pub wrong-guard-own : byte body (4 + 2 * n) ≡ byte body 0 → true ≡ wrong_guard tops (move_of body) n
  wrong-guard-own q = sym (start ∙ rw (eq-eqb _ _ q))

  module _ {t : Bool} (foreign : byte body (4 + 2 * n) ≡ byte body 0 → ⊥)
      (rising : t ≡ (ltb 0 n && leb (byte body (4 + 2 * n)) (byte body (2 + 2 * n)))) where
    later : wrong_guard tops (move_of body) n ≡ (t || eqb (byte body (5 + 2 * n)) 0 || ltb top (byte body (5 + 2 * n)))
    later = start ∙ rw (← rising, ne_eqb _ _ foreign)

    pub wrong-guard-falls : t ≡ true → true ≡ wrong_guard tops (move_of body) n
    wrong-guard-falls q = sym (later ∙ rw q)

    pub wrong-guard-empty : t ≡ false → byte body (5 + 2 * n) ≡ 0 → true ≡ wrong_guard tops (move_of body) n
    wrong-guard-empty q z = sym (later ∙ rw (q, z))

    pub wrong-guard-rest : t ≡ false → (byte body (5 + 2 * n) ≡ 0 → ⊥)
        → ltb top (byte body (5 + 2 * n)) ≡ wrong_guard tops (move_of body) n
    wrong-guard-rest q z = sym (later ∙ rw (q, ne_eqb _ _ z))

-- 7 for a move, need by need
module _ (tops body : List ℕ) where
  pub guards_none : any (wrong_guard tops (move_of body)) (up_to 0) ≡ false
  unfolding any up_to
  guards_none = refl

  pub guards_more : (n : ℕ) {r : Bool} → any (wrong_guard tops (move_of body)) (up_to n) ≡ false
      → r ≡ wrong_guard tops (move_of body) n → r ≡ false → any (wrong_guard tops (move_of body)) (up_to (n + 1)) ≡ false
  unfolding any up_to
  guards_more n h e q =
      rw add-one
      (any_append (wrong_guard tops (move_of body)) (up_to n) (n ∷ []) ∙ rw (h, ← e, q))

  pub guards-some : {n count : ℕ} {r : Bool} → n < count → count ≡ (length body - 4) / 2
      → r ≡ wrong_guard tops (move_of body) n → r ≡ true → true ≡ wrong_guards tops (move_of body)
  unfolding wrong_guards
  guards-some h k e q =
      rw (guard-count body) (sym (any-intro (wrong_guard tops (move_of body)) (up_to-mem (omega arith)) (sym e ∙ q)))

  pub guards-all : {n count : ℕ} → any (wrong_guard tops (move_of body)) (up_to n) ≡ false → n ≤ count → count ≤ n
      → count ≡ (length body - 4) / 2 → false ≡ wrong_guards tops (move_of body)
  unfolding wrong_guards
  guards-all {n} h a b k =
      let e : n ≡ (length body - 4) / 2 = omega arith in
      sym (ap (λ j. any (wrong_guard tops (move_of body)) (up_to j)) (guard-count body ∙ sym e) ∙ h)

-- above the first n modes: one at or past n
pub top-beyond : (n mask : ℕ) → ltb (top_of n) mask ≡ beyond n mask
unfolding top_of
top-beyond n mask =
    by_cases (ltb (2 ^ n - 1) mask)
    (λ t. t ∙ sym (true-of-not-false (λ f. omega (arith, beyond-small n mask f, ltb-true (2 ^ n - 1) mask t))))
    (λ f. f ∙ sym (small-beyond n mask (omega (arith, pow_pos n, ltb-false (2 ^ n - 1) mask f))))

-- a machine without modes is absent: a need of it is empty or beyond them
absent : (z a b e y : Bool) → (z ≡ true → e ≡ false → y ≡ true) → (a || b || e || y) ≡ (z || a || b || e || y)
absent false a b e y f = refl
absent true a b true y f = or_left y (or_right (a || b) refl)
absent true a b false y f = or_right (a || b || false) (f refl refl)

absent-beyond : (n mask : ℕ) → n ≡ 0 → (mask ≡ 0 → ⊥) → beyond n mask ≡ true
absent-beyond n mask e z = true-of-not-false (λ f. z (omega (arith, rw e at (beyond-small n mask f))))

module _ (modes : List ℕ) (v : Move) (n : ℕ) where
  top-at : (i : ℕ) → get_or (pad 256 (map top_of modes)) i 0 ≡ top_of (get_or modes i 0)
  unfolding top_of
  top-at i = get_or-pad 256 (map top_of modes) i ∙ get_or-map top_of modes i 0

  by-tops : wrong_guard (pad 256 (map top_of modes)) v n ≡ bad_guard modes v n
  unfolding wrong_guard bad_guard
  by-tops =
      let machine : ℕ = (guard_at v n).machine in
      let mask : ℕ = (guard_at v n).mask in
      let count : ℕ = get_or modes machine 0 in
      rw (top-at, top-beyond)
      (absent (eqb count 0) (eqb machine v.machine) (ltb 0 n && leb machine (guard_at v (n - 1)).machine)
      (eqb mask 0) (beyond count mask) (λ z e. absent-beyond count mask (eqb-true count 0 z) (eqb-false mask 0 e)))

pub guards-by-tops : (modes : List ℕ) (v : Move) → wrong_guards (pad 256 (map top_of modes)) v ≡ bad_guards modes v
unfolding wrong_guards bad_guards
guards-by-tops modes v =
    any-cong (wrong_guard (pad 256 (map top_of modes)) v) (bad_guard modes v) (up_to (length v.guards))
    (λ n _. by-tops modes v n)
