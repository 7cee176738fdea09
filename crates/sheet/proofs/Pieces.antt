-- A piece for each number, counted and written one after the other.
-- Assumes nothing.
use Prim.Native.Nat.{ℕ, zero, suc, ◌+◌, ◌*◌, ◌≤◌, ◌<◌, zero-le}
use mathlib.Core.Path.{◌≡◌, refl, ap, ◌∙◌}
use mathlib.Core.List.{List, [], ◌++◌, flat_map}
use native.Mathlib.Nat.{le_antisymm, suc-mul, zero-add}
use native.Mathlib.Numerals.{add-one}
use native.Mathlib.Omega.{arith}
use lib.ListN.{length, drop, length-append}
use Rattle.common.specs.Lists.{up_to}
use Rattle.common.specs.Reply.{given, fitted, length_of, output_after}
use Rattle.common.proofs.Output.{fitted-left}
use Rattle.common.proofs.Sums.{sum-up, length-flat_map, flat_map-up_to-suc}
use Rattle.sheet.specs.Kept.Written.{written}
use Rattle.sheet.proofs.Overwriting.{written_none, written-more}

-- A call that writes a piece at a place, and gives the place behind it.
abbrev pub Puts : List ℕ → ℕ → List ℕ → ℕ → List ℕ → Type 0
Puts s at piece end out = (end ≡ at + length piece) × (out ≡ written at piece s)

pub puts_none : (s : List ℕ) (at : ℕ) → Puts s at [] at s
puts_none s at = (omega arith, written_none at s)

-- a second piece behind the first
pub puts_then : (s : List ℕ) (at : ℕ) (first second : List ℕ) {front out : List ℕ} {mid end : ℕ} → at ≤ length s
    → Puts s at first mid front → Puts front mid second end out → Puts s at (first ++ second) end out
puts_then s at first second room p q =
    let longer = written-more at first s room second p.0 in
    (omega (arith, length-append first second, p.0, q.0), q.1 ∙ rw p.1 longer)

module _ (own : ℕ → List ℕ) where
  -- the pieces of the first j numbers
  abbrev pub pieces_upto : ℕ → List ℕ
  pieces_upto j = flat_map own (up_to j)

  pieces_none : pieces_upto 0 ≡ []
  unfolding up_to flat_map
  pieces_none = refl

  pieces-next : (j : ℕ) → pieces_upto (j + 1) ≡ pieces_upto j ++ own j
  pieces-next j = rw (add-one j) (flat_map-up_to-suc own j)

  pub length-next : (j : ℕ) → length (pieces_upto (j + 1)) ≡ length (pieces_upto j) + length (own j)
  length-next j = ap length (pieces-next j) ∙ length-append (pieces_upto j) (own j)

  pub length_up : {j : ℕ} (n : ℕ) → j ≤ n → length (pieces_upto j) ≤ length (pieces_upto n)
  length_up {j} n h =
      omega (
        arith,
        length-flat_map own (up_to j),
        length-flat_map own (up_to n),
        sum-up (λ i. length (own i)) n h,
      )

  -- n pieces, none longer than c
  pub pieces-short : (c n : ℕ) → ((i : ℕ) → i < n → length (own i) ≤ c) → length (pieces_upto n) ≤ n * c
  pieces-short c zero h = omega (arith, ap length pieces_none)
  pieces-short c (suc n) h =
      omega (
        arith,
        suc-mul n c,
        pieces-short c n (λ i l. h i (omega arith)),
        h n (omega arith),
        rw add-one at (length-next n),
      )

  module _ (n : ℕ) where
    pub record CountedUpto (r j : ℕ) : Type 0 where
      pub inside : j ≤ n
      pub counted : r ≡ length (pieces_upto j)

    pub counted_none : CountedUpto 0 0
    counted_none = record { inside = zero-le; counted = omega (arith, ap length pieces_none) }

    pub counted_next : {r j len : ℕ} → CountedUpto r j → j < n → len ≡ length (own j) → CountedUpto (r + len) (j + 1)
    counted_next {j = j} u l e =
        record { inside = omega arith; counted = omega (arith, u.counted, e, length-next j) }

    pub counted-end : {r j : ℕ} → CountedUpto r j → n ≤ j → r ≡ length (pieces_upto n)
    counted-end u h = rw (le_antisymm h u.inside) u.counted

    module _ (s : List ℕ) (at : ℕ) where
      pub record PutUpto (end j : ℕ) (out : List ℕ) : Type 0 where
        pub inside : j ≤ n
        pub size : length out ≡ length s
        pub puts : Puts s at (pieces_upto j) end out

      pub put-start : PutUpto at 0 s
      put-start = record { inside = zero-le; size = refl; puts = rw pieces_none (puts_none s at) }

      module _ (room : at + length (pieces_upto n) ≤ length s) {end j : ℕ} {out : List ℕ} (u : PutUpto end j out)
          (l : j < n) where
        pub put-more : {end' : ℕ} {out' : List ℕ} → length out' ≡ length out → Puts out end (own j) end' out'
            → PutUpto end' (j + 1) out'
        put-more size p =
            record {
              inside = omega arith;
              size = size ∙ u.size;
              puts = rw (pieces-next j) (puts_then s at _ _ (omega arith) u.puts p);
            }

        -- there is room for one more piece
        pub put-room : end + length (own j) ≤ length out
        put-room =
            let h : j + 1 ≤ n = omega arith in
            omega (arith, room, u.size, u.puts.0, length-next j, length_up n h)

      pub put-end : {end j : ℕ} {out : List ℕ} → PutUpto end j out → n ≤ j → Puts s at (pieces_upto n) end out
      put-end u h = rw (le_antisymm h u.inside) u.puts

-- 12 of a call that writes a list at the front
pub fitted-written : (bytes before : List ℕ) {n end : ℕ} {out : List ℕ} → n ≡ length bytes
    → length bytes ≤ length before → Puts before 0 bytes end out
    → (given n ≡ length_of (fitted bytes (length before))) × (out ≡ output_after (fitted bytes (length before)) before)
unfolding written
fitted-written bytes before e h p =
    fitted-left bytes before e h (p.1 ∙ ap (λ k. bytes ++ drop k before) (zero-add (length bytes)))
