-- Pieces that stand in a text one behind the other.
-- Assumes nothing.
use Prim.Native.Nat.{ℕ, suc, ◌+◌, ◌-◌, ◌≤◌, ◌<◌}
use mathlib.Core.Path.{◌≡◌, refl, sym, ap, ◌∙◌}
use mathlib.Core.List.{List, [], ◌∷◌, ◌++◌, flat_map, append_assoc, append-nil}
use mathlib.Core.Bool.{true}
use native.Mathlib.Nat.{add-zero}
use native.Mathlib.Numerals.{add-one}
use native.Mathlib.Omega.{arith}
use lib.ListN.{length, get_or, drop, length-append, length-drop, drop_of_length-le}
use lib.Seq.{get_or-drop, drop-cons, drop-drop, drop-length, drop-append_seam}
use Rattle.common.specs.Lists.{up_to}
use Rattle.common.proofs.Sums.{flat_map-up_to-suc, flat_map-up_to-add}
use Rattle.decimal.specs.Decimal.{starts_with, decimal, read_number}
use Rattle.decimal.proofs.Exact.{starts-own, starts-rest, read-stands}
use Rattle.picture.specs.Kept.Matched.{Spans}

pub starts-there : (bytes more : List ℕ) {text : List ℕ} → text ≡ bytes ++ more → starts_with bytes text ≡ true
starts-there bytes more e = rw e (starts-own bytes more)

-- Places

module _ (text : List ℕ) (at : ℕ) where
  -- what stands behind a piece
  pub behind : (piece : List ℕ) {rest : List ℕ} → drop at text ≡ piece ++ rest → drop (at + length piece) text ≡ rest
  behind piece {rest} e =
      sym (drop-drop (length piece) at text) ∙ ap (drop (length piece)) e ∙ drop-append_seam piece rest

  pub byte-there : {b : ℕ} {rest : List ℕ} → drop at text ≡ b ∷ rest → get_or text at 0 ≡ b
  byte-there {b} e =
      ap (λ k. get_or text k 0) (sym (add-zero at)) ∙ sym (get_or-drop at text 0 0) ∙ ap (λ l. get_or l 0 0) e

  pub byte_inside : {b : ℕ} → get_or text at 0 ≡ b → 0 < b → at < length text
  byte_inside e l =
      let n : ¬ (length text ≤ at) = λ h.
      let none = sym (get_or-drop at text 0 0) ∙ ap (λ l. get_or l 0 0) (drop_of_length-le text h) in
      omega (arith, none, ap (λ k. get_or text k 0) (add-zero at)) in
      omega arith

module _ {text : List ℕ} where
  pub spans-none : {at : ℕ} → at ≤ length text → Spans text at [] at
  spans-none l = record { stands = refl; place = omega arith; inside = l }

  pub spans-then : {at mid end : ℕ} {first second : List ℕ} → Spans text at first mid → Spans text mid second end
      → Spans text at (first ++ second) end
  spans-then {first = first} {second = second} p q =
      record {
        stands = p.stands ∙ ap (λ l. first ++ l) q.stands ∙ sym (append_assoc first second _);
        place = omega (arith, p.place, q.place, length-append first second);
        inside = q.inside;
      }

  pub spans-bytes : {at : ℕ} (bytes : List ℕ) → at ≤ length text → starts_with bytes (drop at text) ≡ true
      → Spans text at bytes (at + length bytes)
  spans-bytes {at} bytes l t =
      let e = starts-rest bytes (drop at text) t in
      record {
        stands = e ∙ ap (λ r. bytes ++ r) (drop-drop (length bytes) at text);
        place = refl;
        inside = omega (arith, ap length e, length-append bytes (drop (length bytes) (drop at text)), length-drop at text);
      }

  pub spans-byte : {at b : ℕ} → get_or text at 0 ≡ b → 0 < b → Spans text at (b ∷ []) (at + 1)
  spans-byte {at} e l =
      let h = byte_inside text at e l in
      record {
        stands = rw (add-one at) (drop-cons text at 0 h ∙ ap (λ x. x ∷ drop (suc at) text) e);
        place = refl;
        inside = omega arith;
      }

  -- what stands behind a piece that was found
  pub spans-rest : {at end : ℕ} {piece rest : List ℕ} → Spans text at piece end → drop at text ≡ piece ++ rest
      → drop end text ≡ rest
  spans-rest {at} {piece = piece} s e = ap (λ k. drop k text) s.place ∙ behind text at piece e

  pub spans-whole : {piece : List ℕ} → Spans text 0 piece (length text) → piece ≡ text
  spans-whole {piece} s = sym (s.stands ∙ ap (λ l. piece ++ l) (drop-length text) ∙ append-nil piece)

  -- a number that was read
  pub spans-number : {at i : ℕ} → at ≤ length text → i ≡ read_number (drop at text) → i < 100
      → Spans text at (decimal i) (at + length (decimal i))
  spans-number {at} {i} l e h =
      let same : i ≡ read_number (drop at text) = omega arith in
      spans-bytes (decimal i) l (rw same (read-stands (drop at text) (omega arith)))

-- A piece for each number below n, found up to k

module _ {text : List ℕ} (f : ℕ → List ℕ) (n k : ℕ) (rest : List ℕ) {start at : ℕ}
    (s : Spans text start (flat_map f (up_to k)) at) (e : drop start text ≡ flat_map f (up_to n) ++ rest) where
  pub pieces-next : k < n → drop at text ≡ f k ++ (flat_map (λ j. f (suc k + j)) (up_to (n - suc k)) ++ rest)
  pieces-next l =
      let more = flat_map (λ j. f (suc k + j)) (up_to (n - suc k)) in
      let m : n ≡ suc k + (n - suc k) = omega arith in
      let split : flat_map f (up_to n) ≡ flat_map f (up_to k) ++ f k ++ more =
      ap (λ i. flat_map f (up_to i)) m ∙ flat_map-up_to-add f (suc k) (n - suc k)
      ∙ ap (λ l. l ++ more) (flat_map-up_to-suc f k) in
      spans-rest s
      (e ∙ ap (λ l. l ++ rest) split ∙ append_assoc (flat_map f (up_to k) ++ f k) more rest
      ∙ append_assoc (flat_map f (up_to k)) (f k) (more ++ rest))

  pub pieces_end : k ≡ n → drop at text ≡ rest
  pieces_end m = spans-rest s (e ∙ ap (λ i. flat_map f (up_to i) ++ rest) (sym m))
