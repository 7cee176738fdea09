-- The bodies of a sheet as they are written: their lengths, the move that a body gives back, and the body that a move
-- gives back.
-- Assumes nothing.
use Prim.Native.Nat.{ℕ, zero, suc, ◌+◌, ◌*◌, ◌/◌, ◌%◌, ◌≤◌, ◌<◌}
use mathlib.Core.Path.{◌≡◌, refl, sym, ap, ap₂, ◌∙◌}
use mathlib.Core.List.{List, [], ◌∷◌, map, flat_map}
use native.Mathlib.Omega.{arith}
use borrow.Author.Tests.{eqb-true, eqb-false}
use lib.Dec.{eqb}
use lib.ListN.{length, get_or}
use lib.Seq.{get_or-append-add, ext_get_or}
use Rattle.common.proofs.Bools.{by_cases}
use Rattle.common.specs.Lists.{up_to}
use Rattle.common.proofs.Members.{length-map-up_to, get_or-map-up_to}
use Rattle.common.proofs.Sums.{length-twos, get_or-twos}
use Rattle.sheet.specs.Record.{byte}
use Rattle.sheet.specs.Model.{Guard, Move, Model, guard, absent_guard, guard_at, move_of}
use Rattle.sheet.specs.Write.{machine_body, guard_bytes, move_body}
use Rattle.sheet.proofs.Fits.{MoveSize}
use Rattle.sheet.proofs.Guards.{guard-count, guard-here}

pub length-machine_body : (m : Model) (i : ℕ) → length (machine_body m i) ≡ 2
unfolding machine_body
length-machine_body m i = refl

-- the needs, two bytes each, at twice their number
guard-bytes : (gs : List Guard) (n : ℕ)
    → (byte (flat_map guard_bytes gs) (2 * n) ≡ (get_or gs n absent_guard).machine)
    × (byte (flat_map guard_bytes gs) (1 + 2 * n) ≡ (get_or gs n absent_guard).mask)
guard-bytes gs n = get_or-twos (λ g. g.machine) (λ g. g.mask) absent_guard refl refl gs n

module _ (v : Move) where
  pub length-move_body : length (move_body v) ≡ 4 + 2 * length v.guards
  unfolding move_body
  length-move_body = omega (arith, length-twos (λ g. g.machine) (λ g. g.mask) v.guards)

  -- behind the first four bytes stand the needs
  pub byte-behind : (i : ℕ) → byte (move_body v) (4 + i) ≡ byte (flat_map guard_bytes v.guards) i
  unfolding move_body
  byte-behind i = get_or-append-add (v.machine ∷ v.from ∷ v.to ∷ v.command ∷ []) (flat_map guard_bytes v.guards) i 0

  pub guard-back : (n : ℕ) → n < length v.guards → guard_at (move_of (move_body v)) n ≡ guard_at v n
  guard-back n h =
      let r = guard-bytes v.guards n in
      let e : 5 + 2 * n ≡ 4 + (1 + 2 * n) = omega arith in
      guard-here (move_body v) n (omega (arith, length-move_body))
      ∙ ap₂ guard (byte-behind (2 * n) ∙ r.0) (ap (byte (move_body v)) e ∙ byte-behind (1 + 2 * n) ∙ r.1)

  pub guards-back : (move_of (move_body v)).guards ≡ v.guards
  guards-back =
      let e : length (move_of (move_body v)).guards ≡ length v.guards =
      guard-count (move_body v) ∙ omega (arith, length-move_body) in
      ext_get_or absent_guard _ _ e (λ n h. guard-back n (omega arith))

  pub move-back : move_of (move_body v) ≡ v
  unfolding move_of move_body
  move-back =
      ap (λ (gs : List Guard).
      record { machine = v.machine; from = v.from; to = v.to; command = v.command; guards = gs })
      guards-back

-- And back: what was read from a body writes that body

bytes_back : (body : List ℕ) (n : ℕ) → length body ≡ n → map (byte body) (up_to n) ≡ body
bytes_back body n e =
    let m = length-map-up_to (byte body) n in
    ext_get_or 0 _ body (m ∙ sym e) (λ i h. get_or-map-up_to (byte body) 0 (omega arith))

pub machine-body-back : (body : List ℕ) → length body ≡ 2 → byte body 0 ∷ byte body 1 ∷ [] ≡ body
unfolding up_to
machine-body-back body e = bytes_back body 2 e

pub withdraw-body-back : (body : List ℕ) → length body ≡ 3 → byte body 0 ∷ byte body 1 ∷ byte body 2 ∷ [] ≡ body
unfolding up_to
withdraw-body-back body e = bytes_back body 3 e

module _ (body : List ℕ) (size : MoveSize (length body)) where
  long : 4 ≤ length body
  long = size.long

  even : length body % 2 ≡ 0
  even = size.even

  guard-byte : (i : ℕ) → 4 + i < length body → byte (flat_map guard_bytes (move_of body).guards) i ≡ byte body (4 + i)
  guard-byte i h =
      let n : ℕ = i / 2 in
      let bytes : List ℕ = flat_map guard_bytes (move_of body).guards in
      let g = guard-here body n (omega arith) in
      let r = guard-bytes (move_of body).guards n in
      by_cases (eqb (i % 2) 0)
      (λ t.
      let e : i ≡ 2 * n = omega (arith, eqb-true (i % 2) 0 t) in
      ap (byte bytes) e ∙ r.0 ∙ ap (λ x. x.machine) g ∙ ap (byte body) (omega arith))
      (λ f.
      let e : i ≡ 1 + 2 * n = omega (arith, eqb-false (i % 2) 0 f) in
      ap (byte bytes) e ∙ r.1 ∙ ap (λ x. x.mask) g ∙ ap (byte body) (omega arith))

  move-byte : (i : ℕ) → i < length body → byte (move_body (move_of body)) i ≡ byte body i
  unfolding move_body move_of
  move-byte zero h = refl
  move-byte (suc zero) h = refl
  move-byte (suc (suc zero)) h = refl
  move-byte (suc (suc (suc zero))) h = refl
  move-byte (suc (suc (suc (suc i)))) h =
      let e : 4 + i ≡ suc (suc (suc (suc i))) = omega arith in
      guard-byte i (omega arith) ∙ ap (byte body) e

  pub move-body-back : move_body (move_of body) ≡ body
  move-body-back =
      let e : length (move_body (move_of body)) ≡ length body =
      omega (arith, length-move_body (move_of body), guard-count body) in
      ext_get_or 0 _ body e (λ i h. move-byte i (omega arith))
