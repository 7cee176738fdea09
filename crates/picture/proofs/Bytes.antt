-- A picture in bytes: what stands where.
-- Assumes nothing.
use Prim.Native.Nat.{ℕ, ◌+◌, ◌*◌, ◌<◌}
use mathlib.Core.Path.{◌≡◌, refl, ap, ◌∙◌}
use mathlib.Core.List.{List, [], ◌∷◌, ◌++◌, flat_map}
use native.Mathlib.Omega.{arith}
use lib.ListN.{length, get_or, length-append, get_or-append}
use lib.Seq.{get_or-append-add}
use Rattle.common.proofs.Sums.{length-twos, get_or-twos}
use Rattle.sheet.specs.Record.{byte}
use Rattle.sheet.specs.Model.{Model, machine_count}
use Rattle.plan.specs.Groups.{group_of}
use Rattle.plan.proofs.Groups.{groups-of-any}
use Rattle.picture.specs.Picture.{Edge, Picture, picture_of, picture_bytes}
use Rattle.picture.specs.Drawn.{no_edge, BytesRight}

abbrev edge_bytes : Edge → List ℕ
edge_bytes e = e.source ∷ e.target ∷ []

edge-bytes : (es : List Edge) (i : ℕ)
    → (byte (flat_map edge_bytes es) (2 * i) ≡ (get_or es i no_edge).source)
    × (byte (flat_map edge_bytes es) (1 + 2 * i) ≡ (get_or es i no_edge).target)
edge-bytes es i = get_or-twos (λ e. e.source) (λ e. e.target) no_edge refl refl es i

module _ (p : Picture) where
  -- the machine count and the groups
  abbrev front : List ℕ
  front = length p.groups ∷ p.groups

  abbrev back : List ℕ
  back = flat_map edge_bytes p.edges

  group-byte : (i : ℕ) → i < length p.groups → byte (picture_bytes p) (1 + i) ≡ group_of p.groups i
  unfolding picture_bytes
  group-byte i h =
      get_or-append-add (length p.groups ∷ []) (p.groups ++ back) i 0 ∙ get_or-append p.groups back 0 i h

  back-byte : (j i : ℕ) → j ≡ length front + i → byte (picture_bytes p) j ≡ byte back i
  unfolding picture_bytes
  back-byte j i e = ap (byte (front ++ back)) e ∙ get_or-append-add front back i 0

  pub bytes-length : length (picture_bytes p) ≡ 1 + length p.groups + 2 * length p.edges
  unfolding picture_bytes
  bytes-length = omega (arith, length-append p.groups back, length-twos (λ e. e.source) (λ e. e.target) p.edges)

pub bytes-right : (m : Model) → BytesRight m (picture_bytes (picture_of m))
unfolding picture_of picture_bytes
bytes-right m =
    let p = picture_of m in
    let all-machines = (groups-of-any m).numbers-all in
    record {
      machines = all-machines;
      groups = λ i h. group-byte p i (omega arith);
      sources = λ i h. back-byte p (1 + machine_count m + 2 * i) (2 * i) (omega arith) ∙ (edge-bytes p.edges i).0;
      targets = λ i h. back-byte p (2 + machine_count m + 2 * i) (1 + 2 * i) (omega arith) ∙ (edge-bytes p.edges i).1;
      no_more = omega (arith, bytes-length p);
    }
