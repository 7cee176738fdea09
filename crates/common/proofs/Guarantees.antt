-- What the words of this crate mean, from their laws.
-- Assumes nothing.
use Prim.Native.Nat.{ℕ, suc, ◌<◌}
use mathlib.Core.Path.{◌≡◌, refl, sym, ap, ◌∙◌}
use mathlib.Core.Logic.{◌⊎◌, inl, inr}
use mathlib.Core.List.{List, [], ◌∷◌, Memᴰ}
use mathlib.Core.Bool.{true, false}
use native.Mathlib.Nat.{mul-one}
use native.Mathlib.Omega.{arith}
use borrow.Author.Tests.{not-true}
use lib.ListN.{length, get_or, take, drop, get_or-eq_default}
use lib.Seq.{length-take-le, get_or-take, split_at}
use Rattle.common.specs.Lists.{filter, sum, product, maximum}
use Rattle.common.specs.Reply.{Fault, clear, unless, and_then}
use Rattle.common.specs.Meaning.{ListsRight, BitsRight, DistancesRight, RepliesRight}
use Rattle.common.proofs.Bools.{not_of_false}
use Rattle.common.proofs.Members.{mem_index, length-up_to, get_or-up_to}
use Rattle.common.proofs.Lists.{all-at, all-intro, any-intro, any_some, any-fails}
use Rattle.common.proofs.Lists.{filter-mem, filter-from, filter-holds, filter-append}
use Rattle.common.proofs.Search.{position-is, position-none, find_first, find_none}
use Rattle.common.proofs.Sums.{sum-append, product-append, maximum-above, maximum-mem}
use Rattle.common.proofs.Pad.{length-pad-max, get_or-pad}
use Rattle.common.proofs.Bits.{beyond-small, small-beyond, worths-make}
use Rattle.common.proofs.Graph.{distance-shortest, distance-below, connected-chain, chain-connected}
use Rattle.common.proofs.Reply.{Clear, unless-clear, first-refuses}
use Rattle.common.proofs.Clear.{clear-each}

zero-or-among : (xs : List ℕ) → (maximum xs ≡ 0) ⊎ Memᴰ (maximum xs) xs
unfolding maximum
zero-or-among [] = inl refl
zero-or-among (x ∷ xs) = inr (maximum-mem x xs)

pub lists-right : (A : Type 0) → ListsRight A
unfolding filter sum product
lists-right A =
    record {
      up_to-length = length-up_to;
      up_to-at = λ n i d h. get_or-up_to d h;
      all-exactly = λ p xs. (λ h x m. all-at p h m, all-intro p xs);
      any-exactly = λ p xs. (any_some p xs, λ r. any-intro p r.1 r.2);
      filter-members = λ p xs x. (λ m. (filter-from p xs m, filter-holds p xs m), λ r. filter-mem p r.0 r.1);
      filter-one = λ p x. refl;
      filter-both = filter-append;
      position-least = position-is;
      position-none = λ p xs h. position-none p xs (any-fails p xs h);
      find-least = λ p xs i d h t before.
          find_first p xs d ∙ ap (λ k. get_or xs k d) (position-is p xs i d h t before);
      find_none = λ p xs d h. find_none p xs d (any-fails p xs h);
      sum-none = refl;
      sum_one = λ n. omega arith;
      sum_both = sum-append;
      product-none = refl;
      product-one = mul-one;
      product-both = product-append;
      maximum-above = λ xs n m. maximum-above m;
      maximum-among = zero-or-among;
      pad-length = length-pad-max;
      pad-at = λ n xs i h. get_or-pad n xs i;
      pad-behind = λ n xs i h. get_or-pad n xs i ∙ get_or-eq_default xs 0 h;
    }

pub bits-right : BitsRight
bits-right = record { worths = worths-make; none-beyond = λ n s. (beyond-small n s, small-beyond n s) }

pub distances-right : DistancesRight
distances-right =
    record {
      connected-exactly = λ g p q h. (connected-chain g p q, λ r. chain-connected g p q h r.1);
      shortest = λ g p q t. distance-shortest g p q (distance-below g p q t);
    }

-- no cause applies, said of each member
module _ (fs : List Fault) where
  clear-silent : clear fs ≡ true → (f : Fault) → Memᴰ f fs → f.applies ≡ false
  unfolding clear
  clear-silent h f m = not-true _ (all-at _ h m)

  silent-clear : ((f : Fault) → Memᴰ f fs → f.applies ≡ false) → clear fs ≡ true
  unfolding clear
  silent-clear h = all-intro _ fs (λ f m. not_of_false (h f m))

  silent-each : ((f : Fault) → Memᴰ f fs → f.applies ≡ false) → Clear fs
  silent-each h = clear-each fs (silent-clear h)

  silent-before : (n : ℕ) (d : Fault) → n < length fs → ((i : ℕ) → i < n → (get_or fs i d).applies ≡ false)
      → (f : Fault) → Memᴰ f (take n fs) → f.applies ≡ false
  silent-before n d h before f m =
      let j = mem_index d m in
      let early : j.0 < n = omega (arith, length-take-le n fs (omega arith)) in
      ap (λ x. x.applies) (sym (sym (get_or-take n fs j.0 d early) ∙ j.2)) ∙ before j.0 early

pub replies-right : (A B : Type 0) → RepliesRight A B
unfolding and_then
replies-right A B =
    record {
      clear-exactly = λ fs. (clear-silent fs, silent-clear fs);
      unless-none = λ fs r h. unless-clear fs r (silent-each fs h);
      unless-first = λ fs r n d h t before.
          ap (λ l. unless l r) (split_at fs n d h)
          ∙ first-refuses (take n fs) (get_or fs n d) (drop (suc n) fs) r
          (silent-each (take n fs) (silent-before fs n d h before)) t;
      goes_on = λ a f. refl;
      stays = λ n p f. refl;
    }
