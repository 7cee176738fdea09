-- A piece of a list and the place where it stands; pieces of pieces; the pieces that a `flat_map` writes.
-- Assumes nothing.
use Prim.Native.Nat.{ℕ, zero, suc, ◌+◌, ◌≤◌, ◌<◌}
use mathlib.Core.Path.{◌≡◌, refl, sym, ap, ◌∙◌}
use mathlib.Core.Logic.{⊎_elim}
use mathlib.Core.List.{List, [], ◌++◌, map, flat_map, append_assoc, append-nil}
use native.Mathlib.Nat.{not-suc-le-zero, eq-or-lt_of_le, le_of_suc-le-suc}
use native.Mathlib.Omega.{arith}
use lib.ListN.{length, get_or, take, drop, length-append, get_or-append}
use lib.Seq.{get_or-append-add, take-append_seam, drop_at}
use Rattle.common.specs.Lists.{up_to, sum}
use Rattle.common.proofs.Sums.{length-flat_map, flat_map-up_to-suc}

pub record Stands {A : Type 0} (s : List A) (at : ℕ) (piece : List A) : Type 0 where
  pub before : List A
  pub after : List A
  pub whole : s ≡ before ++ (piece ++ after)
  pub place : length before ≡ at

module _ {A : Type 0} where
  pub between : (xs piece ys : List A) → Stands (xs ++ piece ++ ys) (length xs) piece
  between xs piece ys = record { before = xs; after = ys; whole = append_assoc xs piece ys; place = refl }

  pub stands-whole : (s : List A) → Stands s 0 s
  stands-whole s = record { before = []; after = []; whole = sym (append-nil s); place = refl }

  -- the same piece at the same place, said otherwise
  pub stands-moved : {s piece : List A} {i j : ℕ} → Stands s i piece → i ≡ j → Stands s j piece
  stands-moved w e = rw e at w

  pub stands-left : {s : List A} {at : ℕ} (xs ys : List A) → Stands s at (xs ++ ys) → Stands s at xs
  stands-left xs ys w =
      record {
        before = w.before;
        after = ys ++ w.after;
        whole = w.whole ∙ ap (λ l. w.before ++ l) (append_assoc xs ys w.after);
        place = w.place;
      }

  pub stands-right : {s : List A} {at : ℕ} (xs ys : List A) → Stands s at (xs ++ ys) → Stands s (at + length xs) ys
  stands-right xs ys w =
      record {
        before = w.before ++ xs;
        after = w.after;
        whole =
            w.whole ∙ ap (λ l. w.before ++ l) (append_assoc xs ys w.after)
            ∙ sym (append_assoc w.before xs (ys ++ w.after));
        place = omega (arith, length-append w.before xs, w.place);
      }

  pub stands-fits : {s : List A} {at : ℕ} {piece : List A} → Stands s at piece → at + length piece ≤ length s
  stands-fits {s} {at} {piece} w =
      omega (
        arith,
        w.place,
        ap length w.whole,
        length-append w.before (piece ++ w.after),
        length-append piece w.after,
      )

  -- element i of the piece
  pub stands_at : {s : List A} {at : ℕ} {piece : List A} → Stands s at piece → (i j : ℕ) (d : A) → i < length piece
      → j ≡ at + i → get_or s j d ≡ get_or piece i d
  stands_at {s} {at} {piece} w i j d h e =
      let k : j ≡ length w.before + i = omega (arith, w.place) in
      rw (k, w.whole) (get_or-append-add w.before _ i d ∙ get_or-append piece w.after d i h)

  pub stands-taken : {s : List A} {at : ℕ} {piece : List A} → Stands s at piece
      → take (length piece) (drop at s) ≡ piece
  stands-taken {s} {at} {piece} w =
      rw (w.whole, drop_at w.before (piece ++ w.after) at w.place) (take-append_seam piece w.after)

  -- of the pieces f 0, f 1, .. f (n - 1), one behind the other, f k stands behind those before it
  pub stands-flat_map : {s : List A} {at : ℕ} (f : ℕ → List A) (n k : ℕ) → k < n → Stands s at (flat_map f (up_to n))
      → Stands s (at + sum (map (λ a. length (f a)) (up_to k))) (f k)
  stands-flat_map f zero k h w = absurd (not-suc-le-zero h)
  stands-flat_map {at = at} f (suc n) k h w =
      let v = rw (flat_map-up_to-suc f n) at w in
      ⊎_elim
      (λ e. rw e (stands-moved (stands-right (flat_map f (up_to n)) (f n) v) (omega (arith, length-flat_map f (up_to n)))))
      (λ l. stands-flat_map f n k l (stands-left (flat_map f (up_to n)) (f n) v))
      (eq-or-lt_of_le (le_of_suc-le-suc h))
