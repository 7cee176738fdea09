-- The keys of the moves so far in their table, and with one more move.
-- Assumes nothing.
use Prim.Native.Nat.{ℕ, ◌<◌}
use mathlib.Core.Path.{◌≡◌, refl, sym, subst, ◌∙◌}
use mathlib.Core.Bool.{Bool, true, false, not}
use mathlib.Core.Logic.{⊎_elim}
use mathlib.Core.List.Memᴰ
use mathlib.Core.List.{List, [], ◌∷◌, ◌++◌, map, map-append}
use native.Mathlib.Omega.{arith}
use lib.ListN.{length, get_or}
use Rattle.common.specs.Lists.{any}
use Rattle.common.proofs.Bools.{true-false}
use Rattle.common.proofs.Lists.{any_none}
use Rattle.common.proofs.Members.{mem-get_or}
use Rattle.common.proofs.Snoc.{snoc-each}
use Rattle.sheet.specs.Model.{Move, absent_move, is_same_move}
use Rattle.sheet.specs.Kept.Sent.{key_of, Small, Sent, Added, Keyed}
use Rattle.sheet.proofs.Keys.{key-repeats}
use Rattle.sheet.proofs.Same.{same-swaps}

pub keyed-nothing : {pairs commands owners : List ℕ} → Sent [] pairs commands owners → Keyed [] pairs commands owners
keyed-nothing h =
    record {
      small = λ v i. absurd (Memᴰ.not-nil i);
      apart = λ i j l k. let no : ⊥ = omega arith in absurd no;
      table = h;
    }

-- one more move
module _ (vs : List Move) {pairs commands owners : List ℕ} (h : Keyed vs pairs commands owners) (v : Move) {new : Bool}
    {pairs' commands' owners' : List ℕ} (tells : Small v)
    (a : Added (map key_of vs) (key_of v) new pairs' commands' owners') where
  pub moved_before : any (is_same_move v) vs ≡ not new
  moved_before = sym (key-repeats vs v h.small tells) ∙ a.earlier

  module _ (y : new ≡ true) where
    not_same : (i : ℕ) → i < length vs → is_same_move v (get_or vs i absent_move) ≡ false
    not_same i l = any_none (is_same_move v) (rw y at moved_before) (mem-get_or vs i absent_move l)

    -- a move is the same as one of the longer list only if it is that one
    still-apart : (i j : ℕ) → i < length (vs ++ (v ∷ [])) → j < length (vs ++ (v ∷ []))
        → is_same_move (get_or (vs ++ (v ∷ [])) i absent_move) (get_or (vs ++ (v ∷ [])) j absent_move) ≡ true → i ≡ j
    still-apart i j l k =
        snoc-each vs v absent_move (λ i x. is_same_move x (get_or (vs ++ (v ∷ [])) j absent_move) ≡ true → i ≡ j)
        (λ i l.
        snoc-each vs v absent_move (λ j x. is_same_move (get_or vs i absent_move) x ≡ true → i ≡ j)
        (λ j k. h.apart i j l k)
        (λ t. absurd (true-false (same-swaps v (get_or vs i absent_move) ∙ t) (not_same i l))) j k)
        (snoc-each vs v absent_move (λ j x. is_same_move v x ≡ true → length vs ≡ j)
        (λ j k t. absurd (true-false t (not_same j k))) (λ t. refl) j k) i l

    pub keyed-more : Keyed (vs ++ (v ∷ [])) pairs' commands' owners'
    keyed-more =
        record {
          small = λ w i.
              ⊎_elim (λ l. h.small w l) (λ r. subst Small (sym (Memᴰ.eq_of_singleton r)) tells)
              (Memᴰ.append_cases vs i);
          apart = still-apart;
          table = rw (map-append key_of vs (v ∷ [])) (a.sent y);
        }
