-- The lines of a text, written piece by piece, and how long they are.
-- Assumes nothing.
use Prim.Native.Nat.{ℕ, ◌+◌, ◌≤◌}
use mathlib.Core.Path.{◌≡◌, ◌∙◌}
use mathlib.Core.List.{List, [], ◌∷◌, ◌++◌, append_assoc}
use native.Mathlib.Omega.{arith}
use native.Mathlib.Numerals.{add-one}
use lib.ListN.{length, set, take, length-append}
use lib.Seq.{sets-eq}
use Rattle.decimal.specs.Decimal.{decimal}
use Rattle.sets.specs.Kept.Sets.{elements}
use Rattle.sheet.specs.Kept.Written.{written}
use Rattle.sheet.proofs.Pieces.{Puts, puts_then}
use Rattle.picture.specs.Picture.{edge}
use Rattle.picture.specs.Text.{line_start, labels, edge_line}
use Rattle.picture.specs.Kept.Rows.{label_start, label_end, node_of, node_row}

pub name-length : (k : ℕ) → length (line_start k) ≡ 3 + length (decimal k)
unfolding line_start
name-length k = omega arith

pub edge-length : (a k : ℕ) → length (edge_line (edge a k)) ≡ 10 + length (decimal a) + length (decimal k)
unfolding edge_line line_start
edge-length a k =
    let arrow : List ℕ = 32 ∷ 45 ∷ 62 ∷ 32 ∷ 103 ∷ decimal k in
    omega (
      arith,
      length-append (line_start a ++ arrow) (59 ∷ 10 ∷ []),
      length-append (line_start a) arrow,
    )

-- the line of a node, whatever its machines
pub node-length : (k : ℕ) (machines : List ℕ) → length (node_of k machines) ≡ 15 + length (decimal k) + length (labels 34 machines)
unfolding node_of line_start
node-length k machines =
    omega (
      arith,
      length-append (line_start k ++ label_start ++ labels 34 machines) label_end,
      length-append (line_start k ++ label_start) (labels 34 machines),
      length-append (line_start k) label_start,
    )

pub pair-written : (s : List ℕ) (at a k : ℕ) → at + 2 ≤ length s
    → set (set s at a) (at + 1) k ≡ written at (a ∷ k ∷ []) s
unfolding written
pair-written s at a k h = rw (add-one at) (sets-eq (a ∷ k ∷ []) s at h ∙ append_assoc (take at s) _ _)

module _ (s : List ℕ) (at : ℕ) (room : at ≤ length s) where
  pub number_put : (b n : ℕ) {end : ℕ} {front out : List ℕ} → Puts s at (b ∷ []) (at + 1) front
      → Puts front (at + 1) (decimal n) end out → Puts s at (b ∷ decimal n) end out
  number_put b n p q = puts_then s at _ _ room p q

  pub name-put : (k : ℕ) {mid end : ℕ} {front out : List ℕ} → Puts s at (32 ∷ 32 ∷ []) mid front
      → Puts front mid (103 ∷ decimal k) end out → Puts s at (line_start k) end out
  unfolding line_start
  name-put k p q = puts_then s at _ _ room p q

  pub edge-put : (a k : ℕ) {name arrow mid end : ℕ} {s1 s2 s3 out : List ℕ} → Puts s at (line_start a) name s1
      → Puts s1 name (32 ∷ 45 ∷ 62 ∷ 32 ∷ []) arrow s2 → Puts s2 arrow (103 ∷ decimal k) mid s3
      → Puts s3 mid (59 ∷ 10 ∷ []) end out → Puts s at (edge_line (edge a k)) end out
  unfolding edge_line
  edge-put a k p q r t =
      let front = puts_then s at _ _ room (puts_then s at _ _ room p q) r in
      puts_then s at _ _ room (rw (append_assoc (line_start a) (32 ∷ 45 ∷ 62 ∷ 32 ∷ []) (103 ∷ decimal k)) at front) t

  pub node-put : (set k : ℕ) {name label mid end : ℕ} {s1 s2 s3 out : List ℕ} → Puts s at (line_start k) name s1
      → Puts s1 name (32 ∷ 91 ∷ 108 ∷ 97 ∷ 98 ∷ 101 ∷ 108 ∷ 61 ∷ []) label s2
      → Puts s2 label (labels 34 (elements set)) mid s3 → Puts s3 mid (34 ∷ 93 ∷ 59 ∷ 10 ∷ []) end out
      → Puts s at (node_row set k) end out
  unfolding node_of
  node-put set k p q r t =
      puts_then s at _ _ room (puts_then s at _ _ room (puts_then s at _ _ room p q) r) t
