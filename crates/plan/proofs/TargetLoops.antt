-- The loops that gather, for each group, the other groups that need it.
-- Assumes nothing.
use Prim.Native.Nat.{ℕ, ◌+◌, ◌^◌, ◌<◌}
use mathlib.Core.Path.{◌≡◌, refl, sym, ap, ◌∙◌}
use mathlib.Core.List.{List}
use mathlib.Core.Bool.{Bool, true, false, not, ◌&&◌, ◌||◌, and-false, or-false}
use native.Mathlib.Omega.{arith}
use native.Mathlib.Numerals.{add-one}
use borrow.Author.Tests.{eqb-true, eqb-false}
use lib.Dec.{eqb}
use lib.ListN.{length, get_or, set, replicate, length-set}
use lib.Seq.{get_or-set_same, get_or-set_other}
use Rattle.common.specs.Bits.{bit}
use Rattle.common.specs.Lists.{up_to, any}
use Rattle.common.proofs.Bools.{by_cases, true-false}
use Rattle.common.proofs.Pad.{get_or-zeros}
use Rattle.common.proofs.Snoc.{any_snoc}
use Rattle.sets.specs.Kept.Sets.{alone, union, less, least}
use Rattle.sets.proofs.Joined.{bit-joined}
use Rattle.sets.proofs.Laws.{bit-none, bit-alone, bit-less, less-from}
use Rattle.sets.proofs.Members.{least-member, elements-none, taken-elements, taken-fits}
use Rattle.plan.specs.Kept.MachineSets.{GroupsBelow, some_of, PutInto, NumberedNeeds, some_needs, TargetSets}

-- `put_into`: the machines of `rest` are still to come

module _ (before numbers : List ℕ) (machines k : ℕ) where
  pub record PutUpto (rest : ℕ) (out : List ℕ) : Type 0 where
    pub fits : rest < 2 ^ 64
    pub long : length out ≡ 32
    pub below : GroupsBelow numbers rest
    pub bits : (a b : ℕ) → (bit (get_or out a 0) b || eqb k b && some_of numbers rest a)
        ≡ (bit (get_or before a 0) b || eqb k b && some_of numbers machines a)

  pub put-none : machines < 2 ^ 64 → length before ≡ 32 → GroupsBelow numbers machines → PutUpto machines before
  put-none h long below = record { fits = h; long = long; below = below; bits = λ a b. refl }

  module _ {rest j g : ℕ} {out : List ℕ} (u : PutUpto rest out) (some : rest ≡ 0 → ⊥) (e : j ≡ least rest)
      (eg : g ≡ get_or numbers j 0) where
    pub put-fits : g < 32
    put-fits = rw (eg, e) (u.below.below (least rest) (least-member u.fits some))

    pub put_next : {b s t : ℕ} → s ≡ union (get_or out g 0) (alone b) → b ≡ k → t ≡ less rest (alone j)
        → PutUpto t (set out g s)
    unfolding some_of any
    put_next {s = s} {t} es eb et =
        record {
          fits = taken-fits u.fits some e et;
          long = length-set out g s ∙ u.long;
          below = record { below = λ i h. u.below.below i (less-from rest (alone j) i (rw et at h)) };
          bits = λ a b. same a b ∙ u.bits a b;
        }
      where
        order : (x p q r : Bool) → ((x || p && q) || q && r) ≡ (x || q && (p || r))
        order true p q r = refl
        order false true true r = refl
        order false true false r = refl
        order false false q r = refl

        same : (a b : ℕ) → (bit (get_or (set out g s) a 0) b || eqb k b && some_of numbers t a)
            ≡ (bit (get_or out a 0) b || eqb k b && some_of numbers rest a)
        same a b =
            rw (es, eb, bit-joined out g (alone k) a b (omega (arith, put-fits, u.long)), bit-alone)
            (rw (taken-elements u.fits some e et, ← eg) (order (bit (get_or out a 0) b) (eqb g a) (eqb k b) _))

  pub put-end : {rest : ℕ} {out : List ℕ} → PutUpto rest out → rest ≡ 0 → PutInto before numbers machines k out
  unfolding some_of any
  put-end {out = out} u z =
      record {
        bits = λ a b.
            let none : (eqb k b && some_of numbers 0 a) ≡ false = rw (elements-none, and-false) in
            sym (or-false _) ∙ ap (λ x. bit (get_or out a 0) b || x) (sym none) ∙ rw z at (u.bits a b);
      }

-- `targets`: the needs of the machines before i

module _ (next numbers : List ℕ) (n : ℕ) where
  pub record TargetsUpto (i : ℕ) (r : List ℕ) : Type 0 where
    pub long : length r ≡ 32
    pub bits : (a k : ℕ) → bit (get_or r a 0) k ≡ (not (eqb a k) && some_needs next numbers i a k)

  pub targets-none : {r : List ℕ} → r ≡ replicate 32 0 → TargetsUpto 0 r
  unfolding some_needs any up_to
  targets-none e =
      rw e
      (record { long = refl; bits = λ a k. rw (get_or-zeros, bit-none, and-false) refl })

  pub target_fits : {i k : ℕ} → NumberedNeeds next numbers n → i < n → k ≡ get_or numbers i 0 → k < 32
  target_fits h l e = rw e (h.below _ l)

  pub targets-below : NumberedNeeds next numbers n → (i : ℕ) → GroupsBelow numbers (get_or next i 0)
  targets-below h i = record { below = λ j t. h.below j (h.inside i j t) }

  pub targets_next : {i k t : ℕ} {r mid : List ℕ} → TargetsUpto i r → i < n → k < 32 → k ≡ get_or numbers i 0
      → length mid ≡ length r → PutInto r numbers (get_or next i 0) k mid → t ≡ less (get_or mid k 0) (alone k)
      → TargetsUpto (i + 1) (set mid k t)
  unfolding some_needs up_to
  targets_next {i} {k} {t} {r} {mid} u h small e size p et =
      record {
        long = length-set mid k t ∙ size ∙ u.long;
        bits = λ a b.
            rw (add-one i, any_snoc, ← e)
            (by_cases (eqb k a) (own a b) (other a b));
      }
    where
      some : ℕ → Bool
      some a = some_of numbers (get_or next i 0) a

      all : (a b : ℕ) → bit (get_or mid a 0) b ≡ ((not (eqb a b) && some_needs next numbers i a b) || eqb k b && some a)
      all a b = p.bits a b ∙ ap (λ x. x || eqb k b && some a) (u.bits a b)

      own-order : (x y q : Bool) → ((not x && y || x && q) && not x) ≡ (not x && (y || x && q))
      own-order true y q = and-false (false || q)
      own-order false true q = refl
      own-order false false q = refl

      own : (a b : ℕ) → eqb k a ≡ true
          → bit (get_or (set mid k t) a 0) b ≡ (not (eqb a b) && (some_needs next numbers i a b || eqb k b && some a))
      own a b y =
          let s : k ≡ a = eqb-true k a y in
          rw (← s, get_or-set_same mid k t 0 (omega (arith, size, u.long)), et, bit-less, bit-alone, all k b)
          (own-order (eqb k b) (some_needs next numbers i k b) (some k))

      other-order : (x y q : Bool) (z : Bool) → (z ≡ true → x ≡ false)
          → (not x && y || z && q) ≡ (not x && (y || z && q))
      other-order true y q true f = absurd (true-false refl (f refl))
      other-order true y q false f = refl
      other-order false y q z f = refl

      other : (a b : ℕ) → eqb k a ≡ false
          → bit (get_or (set mid k t) a 0) b ≡ (not (eqb a b) && (some_needs next numbers i a b || eqb k b && some a))
      other a b f =
          let d = eqb-false k a f in
          rw (get_or-set_other mid k a t 0 (λ s. d (sym s)), all a b)
          (other-order (eqb a b) _ (some a) (eqb k b) (λ y. by_cases (eqb a b)
          (λ z. absurd (d (eqb-true k b y ∙ sym (eqb-true a b z)))) (λ z. z)))

  pub targets-end : {i : ℕ} {r : List ℕ} → TargetsUpto i r → i ≡ n → TargetSets next numbers n r
  targets-end u e = record { bits = λ a k. rw (← e) (u.bits a k) }
