-- The rows of a picture's groups, counted and written one after the other.
-- Assumes nothing.
use Prim.Native.Nat.{ℕ, ◌+◌, ◌*◌, ◌≤◌, ◌<◌}
use mathlib.Core.Path.{◌≡◌}
use mathlib.Core.List.{List}
use native.Mathlib.Omega.{arith}
use lib.ListN.{length, get_or}
use Rattle.sheet.proofs.Pieces.{Puts, CountedUpto, counted_none, counted_next, counted-end}
use Rattle.sheet.proofs.Pieces.{PutUpto, put-start, put-more, put-room, put-end}
use Rattle.picture.specs.Kept.Rows.{rows_upto, rows_of}

module _ (row : ℕ → ℕ → List ℕ) (sets : List ℕ) where
  -- the row of group j
  abbrev own : ℕ → List ℕ
  own j = row (get_or sets j 0) j

  pub record RowsCounted (r j : ℕ) : Type 0 where
    pub pieces : CountedUpto own (length sets) r j
    pub short : r ≤ 1024 * j

  pub rows-counted-none : RowsCounted 0 0
  rows-counted-none = record { pieces = counted_none own (length sets); short = omega arith }

  pub rows-counted-next : {r j len : ℕ} → RowsCounted r j → j < length sets → len ≡ length (own j) → len ≤ 1024
      → RowsCounted (r + len) (j + 1)
  rows-counted-next u l e few =
      record { pieces = counted_next own (length sets) u.pieces l e; short = omega (arith, u.short) }

  pub rows-counted : {r j : ℕ} → length sets ≤ 32 → RowsCounted r j → length sets ≤ j
      → (r ≤ 32768) × (r ≡ length (rows_of row sets))
  unfolding rows_upto
  rows-counted few u h =
      (omega (arith, u.short, u.pieces.inside), counted-end own (length sets) u.pieces h)

  module _ (s : List ℕ) (at : ℕ) where
    pub record RowsUpto (end j : ℕ) (out : List ℕ) : Type 0 where
      pub pieces : PutUpto own (length sets) s at end j out

    pub rows_start : RowsUpto at 0 s
    rows_start = record { pieces = put-start own (length sets) s at }

    module _ (room : at + length (rows_of row sets) ≤ length s) {end j : ℕ} {out : List ℕ} (u : RowsUpto end j out)
        (l : j < length sets) where
      pub rows_more : {end' : ℕ} {out' : List ℕ} → length out' ≡ length out → Puts out end (own j) end' out'
          → RowsUpto end' (j + 1) out'
      unfolding rows_upto
      rows_more size p = record { pieces = put-more own (length sets) s at room u.pieces l size p }

      -- there is room for one more row
      pub rows-room : end + length (own j) ≤ length out
      unfolding rows_upto
      rows-room = put-room own (length sets) s at room u.pieces l

    pub rows_end : {end j : ℕ} {out : List ℕ} → RowsUpto end j out → length sets ≤ j
        → Puts s at (rows_of row sets) end out
    unfolding rows_upto
    rows_end u h = put-end own (length sets) s at u.pieces h
