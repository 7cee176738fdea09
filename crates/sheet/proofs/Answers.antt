-- Each answer of the index over the file is a field of the model.
-- Assumes nothing.
use Prim.Native.Nat.{ℕ, ◌+◌, ◌-◌, ◌*◌, ◌/◌, ◌<◌}
use mathlib.Core.Path.{◌≡◌, refl, sym, ap, ◌∙◌}
use mathlib.Core.List.{List}
use native.Mathlib.Omega.{arith}
use lib.ListN.{length, get_or}
use Rattle.common.specs.Reply.{given}
use Rattle.common.proofs.Pad.{get_or-pad}
use Rattle.sheet.specs.Record.{byte, word, body_at}
use Rattle.sheet.specs.Model.{machine_count, move_count, mode_count, move_at, guard, guard_at, move_of}
use Rattle.sheet.specs.Parse.{Parsed, parse}
use Rattle.sheet.specs.Index.{index_of, modes_in, live_in, move_byte, guard_count_in}
use Rattle.sheet.proofs.Records.{body-word, body-byte}
use Rattle.sheet.proofs.Guards.{guard-count, guard-here}
use Rattle.sheet.proofs.Parsed.{Stands, parse-stands}

module _ (d : Parsed) where
  pub machines-in : (index_of d).machines ≡ machine_count d.model
  unfolding index_of
  machines-in = refl

  pub moves-in : (index_of d).moves ≡ move_count d.model
  unfolding index_of
  moves-in = refl

  pub modes-in : (i : ℕ) → modes_in (index_of d) i ≡ mode_count d.model i
  unfolding index_of
  modes-in i = get_or-pad 32 d.model.modes i

  pub live-in : (i : ℕ) → live_in (index_of d) i ≡ get_or d.model.live i 0
  unfolding index_of
  live-in i = get_or-pad 32 d.model.live i

  pub place_in : (v : ℕ) → get_or (index_of d).places v 0 ≡ get_or d.places v 0
  unfolding index_of
  place_in v = get_or-pad 250 d.places v

module _ (s : List ℕ) {d : Parsed} (q : parse s ≡ given d) (v : ℕ) (h : v < move_count d.model) where
  abbrev place : ℕ
  place = get_or d.places v 0

  abbrev stands : Stands s place (move_at d.model v)
  stands = parse-stands s q v h

  some : 0 < length (body_at s place)
  some = omega (arith, stands.long)

  -- byte n of the body, in the file and in the record
  pub byte-in : (n : ℕ) → n < length (body_at s place) → move_byte s (index_of d) v n ≡ byte (body_at s place) n
  byte-in n k = ap (λ x. byte s (x + 4 + n)) (place_in d v) ∙ body-byte s place some n k

  pub machine-in : move_byte s (index_of d) v 0 ≡ (move_at d.model v).machine
  unfolding move_of
  machine-in = byte-in 0 (omega (arith, stands.long)) ∙ ap (λ x. x.machine) stands.read

  pub from_in : move_byte s (index_of d) v 1 ≡ (move_at d.model v).from
  unfolding move_of
  from_in = byte-in 1 (omega (arith, stands.long)) ∙ ap (λ x. x.from) stands.read

  pub to_in : move_byte s (index_of d) v 2 ≡ (move_at d.model v).to
  unfolding move_of
  to_in = byte-in 2 (omega (arith, stands.long)) ∙ ap (λ x. x.to) stands.read

  pub command-in : move_byte s (index_of d) v 3 ≡ (move_at d.model v).command
  unfolding move_of
  command-in = byte-in 3 (omega (arith, stands.long)) ∙ ap (λ x. x.command) stands.read

  pub guards-fill : length (move_at d.model v).guards ≡ (length (body_at s place) - 4) / 2
  guards-fill = sym (ap (λ x. length x.guards) stands.read) ∙ guard-count (body_at s place)

  pub guard-count-in : guard_count_in s (index_of d) v ≡ length (move_at d.model v).guards
  unfolding guard_count_in
  guard-count-in =
      ap (λ x. (word s x - 4) / 2) (place_in d v) ∙ ap (λ n. (n - 4) / 2) (body-word s place some) ∙ sym guards-fill

  module _ (n : ℕ) (k : n < length (move_at d.model v).guards) where
    pub guard-in : guard_at (move_at d.model v) n ≡
        guard (byte (body_at s place) (4 + 2 * n)) (byte (body_at s place) (5 + 2 * n))
    guard-in =
        sym (ap (λ x. guard_at x n) stands.read) ∙ guard-here (body_at s place) n (omega (arith, guards-fill))

    pub guard-machine-in : move_byte s (index_of d) v (4 + 2 * n) ≡ (guard_at (move_at d.model v) n).machine
    guard-machine-in = byte-in (4 + 2 * n) (omega (arith, guards-fill)) ∙ sym (ap (λ g. g.machine) guard-in)

    pub guard-mask-in : move_byte s (index_of d) v (5 + 2 * n) ≡ (guard_at (move_at d.model v) n).mask
    guard-mask-in = byte-in (5 + 2 * n) (omega (arith, guards-fill)) ∙ sym (ap (λ g. g.mask) guard-in)
