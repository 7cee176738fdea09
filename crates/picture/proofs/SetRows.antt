-- The rows of a set, written member by member: what is written, and what of the row stands behind it.
-- Assumes nothing.
use Prim.Native.Nat.{ℕ, ◌+◌, ◌^◌, ◌≤◌, ◌<◌}
use mathlib.Core.Path.{◌≡◌, refl, sym, ap, ◌∙◌}
use mathlib.Core.List.{List, [], ◌∷◌, ◌++◌, flat_map, append_assoc, append-nil}
use native.Mathlib.Omega.{arith}
use lib.ListN.{length, length-append}
use Rattle.decimal.specs.Decimal.{decimal}
use Rattle.sets.specs.Kept.Sets.{alone, less, least, elements}
use Rattle.sets.proofs.Members.{elements-none, taken-elements, taken-fits}
use Rattle.sheet.proofs.Pieces.{Puts, puts_none, puts_then}
use Rattle.picture.specs.Picture.{edge}
use Rattle.picture.specs.Text.{labels, edge_line}
use Rattle.picture.specs.Kept.Rows.{edges_of, edge_row, pair_row}

-- What a row is, at the least member i of a set, where t is what is left of the set

module _ {rest i t : ℕ} (fits : rest < 2 ^ 64) (some : rest ≡ 0 → ⊥) (e : i ≡ least rest)
    (d : t ≡ less rest (alone i)) where
  labels_next : (before : ℕ) → labels before (elements rest) ≡ (before ∷ decimal i) ++ labels 32 (elements t)
  unfolding labels
  labels_next before = rw (taken-elements fits some e d) refl

  edges-next : (a : ℕ) → edge_row rest a ≡ edge_line (edge a i) ++ edge_row t a
  unfolding edges_of flat_map
  edges-next a = rw (taken-elements fits some e d) refl

  pairs_next : (a : ℕ) → pair_row rest a ≡ (a ∷ i ∷ []) ++ pair_row t a
  unfolding pair_row flat_map
  pairs_next a = rw (taken-elements fits some e d) refl

module _ (s : List ℕ) (at : ℕ) (whole : List ℕ) where
  -- the row is written at a place but for what the members of `rest` have in it
  pub record Begun (behind : List ℕ) (rest end : ℕ) (out : List ℕ) : Type 0 where
    pub fits : rest < 2 ^ 64
    pub front : List ℕ
    pub splits : whole ≡ front ++ behind
    pub size : length out ≡ length s
    pub puts : Puts s at front end out

  begun-none : {set : ℕ} → set < 2 ^ 64 → Begun whole set at s
  begun-none h = record { fits = h; front = []; splits = refl; size = refl; puts = puts_none s at }

  begun-end : {behind : List ℕ} {rest end : ℕ} {out : List ℕ} → Begun behind rest end out → behind ≡ []
      → Puts s at whole end out
  begun-end b e = rw (b.splits, e, append-nil b.front) b.puts

  module _ (room : at + length whole ≤ length s) {behind : List ℕ} {rest end : ℕ} {out : List ℕ}
      (b : Begun behind rest end out) (piece later : List ℕ) (next : behind ≡ piece ++ later) where
    begun-room : end + length piece ≤ length out
    begun-room =
        omega (
          arith,
          b.size,
          b.puts.0,
          ap length b.splits,
          length-append b.front behind,
          ap length next,
          length-append piece later,
        )

    begun_more : {t end' : ℕ} {out' : List ℕ} → t < 2 ^ 64 → length out' ≡ length out → Puts out end piece end' out'
        → Begun later t end' out'
    begun_more h size p =
        record {
          fits = h;
          front = b.front ++ piece;
          splits = b.splits ∙ ap (λ l. b.front ++ l) next ∙ sym (append_assoc b.front piece later);
          size = size ∙ b.size;
          puts = puts_then s at _ _ (omega arith) b.puts p;
        }

module _ (s : List ℕ) (at set : ℕ) where
  -- The machines of a label

  abbrev pub LabelsBegun : ℕ → ℕ → ℕ → List ℕ → Type 0
  LabelsBegun before rest end out = Begun s at (labels 34 (elements set)) (labels before (elements rest)) rest end out

  pub labels-start : set < 2 ^ 64 → LabelsBegun 34 set at s
  labels-start h = begun-none s at _ h

  pub labels-end : (before : ℕ) {rest end : ℕ} {out : List ℕ} → LabelsBegun before rest end out → rest ≡ 0
      → Puts s at (labels 34 (elements set)) end out
  unfolding labels
  labels-end before b z = begun-end s at _ b (rw (z, elements-none) refl)

  module _ (room : at + length (labels 34 (elements set)) ≤ length s) (before : ℕ) {rest i end : ℕ} {out : List ℕ}
      (b : LabelsBegun before rest end out) (some : rest ≡ 0 → ⊥) (e : i ≡ least rest) where
    pub labels-room : end + length (before ∷ decimal i) ≤ length out
    labels-room =
        begun-room s at _ room b (before ∷ decimal i) (labels 32 (elements (less rest (alone i))))
        (labels_next b.fits some e refl before)

    pub labels-more : {t end' : ℕ} {out' : List ℕ} → t ≡ less rest (alone i) → length out' ≡ length out
        → Puts out end (before ∷ decimal i) end' out' → LabelsBegun 32 t end' out'
    labels-more d = begun_more s at _ room b _ _ (labels_next b.fits some e d before) (taken-fits b.fits some e d)

  -- The edges from a group

  module _ (a : ℕ) where
    abbrev pub EdgesBegun : ℕ → ℕ → List ℕ → Type 0
    EdgesBegun rest end out = Begun s at (edge_row set a) (edge_row rest a) rest end out

    pub edges-start : set < 2 ^ 64 → EdgesBegun set at s
    edges-start h = begun-none s at _ h

    pub edges-end : {rest end : ℕ} {out : List ℕ} → EdgesBegun rest end out → rest ≡ 0
        → Puts s at (edge_row set a) end out
    unfolding edges_of flat_map
    edges-end b z = begun-end s at _ b (rw (z, elements-none) refl)

    module _ (room : at + length (edge_row set a) ≤ length s) {rest i end : ℕ} {out : List ℕ}
        (b : EdgesBegun rest end out) (some : rest ≡ 0 → ⊥) (e : i ≡ least rest) where
      pub edges_room : end + length (edge_line (edge a i)) ≤ length out
      edges_room =
          begun-room s at _ room b (edge_line (edge a i)) (edge_row (less rest (alone i)) a)
          (edges-next b.fits some e refl a)

      pub edges_more : {t end' : ℕ} {out' : List ℕ} → t ≡ less rest (alone i) → length out' ≡ length out
          → Puts out end (edge_line (edge a i)) end' out' → EdgesBegun t end' out'
      edges_more {t} d =
          begun_more s at _ room b (edge_line (edge a i)) (edge_row t a) (edges-next b.fits some e d a)
          (taken-fits b.fits some e d)

    -- The same in bytes

    abbrev pub PairsBegun : ℕ → ℕ → List ℕ → Type 0
    PairsBegun rest end out = Begun s at (pair_row set a) (pair_row rest a) rest end out

    pub pairs_start : set < 2 ^ 64 → PairsBegun set at s
    pairs_start h = begun-none s at _ h

    pub pairs_end : {rest end : ℕ} {out : List ℕ} → PairsBegun rest end out → rest ≡ 0
        → Puts s at (pair_row set a) end out
    unfolding pair_row flat_map
    pairs_end b z = begun-end s at _ b (rw (z, elements-none) refl)

    module _ (room : at + length (pair_row set a) ≤ length s) {rest i end : ℕ} {out : List ℕ}
        (b : PairsBegun rest end out) (some : rest ≡ 0 → ⊥) (e : i ≡ least rest) where
      pub pairs-room : end + 2 ≤ length out
      pairs-room = begun-room s at _ room b (a ∷ i ∷ []) _ (pairs_next b.fits some e refl a)

      pub pairs-more : {t end' : ℕ} {out' : List ℕ} → t ≡ less rest (alone i) → length out' ≡ length out
          → Puts out end (a ∷ i ∷ []) end' out' → PairsBegun t end' out'
      pairs-more d = begun_more s at _ room b _ _ (pairs_next b.fits some e d a) (taken-fits b.fits some e d)
