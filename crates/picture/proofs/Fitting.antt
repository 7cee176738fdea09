-- What the calls write, and what they reply: the text of a picture, and its bytes.
-- Assumes nothing.
use Prim.Native.Nat.{ℕ, ◌+◌, ◌≤◌}
use mathlib.Core.Path.{◌≡◌, ap, ◌∙◌}
use mathlib.Core.List.{List, [], ◌∷◌, ◌++◌}
use native.Mathlib.Omega.{arith}
use lib.ListN.{length, length-append}
use Rattle.sheet.proofs.Pieces.{Puts, puts_then}
use Rattle.picture.specs.Picture.{picture_bytes}
use Rattle.picture.specs.Text.{first_line, last_line}
use Rattle.picture.specs.Kept.Rows.{node_row, edge_row, pair_row, rows_of, text_rows}
use Rattle.picture.specs.Kept.Shown.{Shows, shown}
use Rattle.picture.proofs.TextRows.{bytes-rows}

-- The text

module _ (members targets : List ℕ) where
  abbrev nodes : List ℕ
  nodes = rows_of node_row members

  abbrev edges : List ℕ
  edges = rows_of edge_row targets

  pub text-length : length (text_rows members targets) ≡ 19 + length nodes + length edges
  unfolding text_rows
  text-length =
      omega (
        arith,
        length-append (first_line ++ nodes ++ edges) last_line,
        length-append (first_line ++ nodes) edges,
        length-append first_line nodes,
      )

  pub text-put : (s : List ℕ) {i j k end : ℕ} {s1 s2 s3 out : List ℕ} → Puts s 0 first_line i s1
      → Puts s1 i nodes j s2 → Puts s2 j edges k s3 → Puts s3 k last_line end out
      → Puts s 0 (text_rows members targets) end out
  unfolding text_rows
  text-put s p q r t =
      let room : 0 ≤ length s = omega arith in
      puts_then s 0 _ _ room (puts_then s 0 _ _ room (puts_then s 0 _ _ room p q) r) t

-- The bytes

module _ {numbers targets : List ℕ} (h : Shows numbers targets) where
  abbrev pairs : List ℕ
  pairs = rows_of pair_row targets

  pub bytes-length : length (picture_bytes (shown numbers targets)) ≡ 1 + length numbers + length pairs
  bytes-length = ap length (bytes-rows h) ∙ omega (arith, length-append numbers pairs)

  pub bytes-put : (s : List ℕ) {mid end : ℕ} {s1 s2 out : List ℕ} → Puts s 0 (length numbers ∷ []) 1 s1
      → Puts s1 1 numbers mid s2 → Puts s2 mid pairs end out → Puts s 0 (picture_bytes (shown numbers targets)) end out
  bytes-put s p q r =
      let room : 0 ≤ length s = omega arith in
      rw (bytes-rows h) (puts_then s 0 _ _ room (puts_then s 0 _ _ room p q) r)
