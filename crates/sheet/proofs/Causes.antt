-- A test of the row, of 2 or of 4 to 8, is false exactly if the words of its number hold of the record. For 21 see
-- `Amendable`.
-- Assumes nothing.
use Prim.Native.Nat.{ℕ, ◌+◌, ◌-◌, ◌*◌, ◌/◌, ◌≤◌, ◌<◌}
use mathlib.Core.Path.{◌≡◌, refl, sym, ap, ◌∙◌}
use mathlib.Core.Logic.{◌↔◌, ◌⊎◌, inl, inr, ⊎_elim, ⊎_map}
use mathlib.Core.List.{List}
use mathlib.Core.Bool.{Bool, true, false, not, ◌&&◌, ◌||◌}
use native.Mathlib.Omega.{arith}
use borrow.Author.Tests.{ltb-false, leb-false, eqb-true, eqb-false, not-false, lt-leb, le-ltb, eq-eqb, ne_eqb}
use lib.Dec.{eqb, ltb, leb}
use lib.ListN.{length}
use Rattle.common.proofs.Bools.{by_cases, true-false, or-false-intro, or_cases, or_left, or_right}
use Rattle.common.proofs.When.{and-known, and-when-false}
use Rattle.sheet.specs.Record.{byte, word, part}
use Rattle.sheet.specs.Model.{Move, Model, machine_count, move_count}
use Rattle.sheet.specs.Amend.{Draft}
use Rattle.sheet.specs.Faults.{wrong_move_length, bad_machine, bad_move, bad_guards}
use Rattle.sheet.specs.Valid.{Valid}
use Rattle.sheet.specs.Faulty.{ModesRight, NeedsRight, CommandFits, Kind, written, Whole, Bodied, MachineRight}
use Rattle.sheet.specs.Faulty.{Known, machine, bodied, end, withdrawal}
use Rattle.sheet.specs.Faulty.{replacement, InPlace, move, amendment}
use Rattle.sheet.proofs.Records.{part_length, part-byte}
use Rattle.sheet.proofs.Fits.{parts, machine-fits, modes-fit, needs-fit, command-fits, length-fits}
use Rattle.sheet.proofs.Passes.{machine-not-bad, modes-pass, needs-pass, command-passes, length-not-wrong}
use Rattle.sheet.proofs.Row.{unknown_kind, out_of_place, bad_command_of, by_kind}

-- a test of kinds
pub is-kind : (kind i : ℕ) → (eqb kind i ≡ true) ↔ (kind ≡ i)
is-kind kind i = (eqb-true kind i, eq-eqb kind i)

pub is-either : (kind i j : ℕ) → (eqb kind i || eqb kind j ≡ true) ↔ ((kind ≡ i) ⊎ (kind ≡ j))
is-either kind i j = (
  λ t. ⊎_map (eqb-true kind i) (eqb-true kind j) (or_cases (eqb kind i) _ t),
  λ k. ⊎_elim (λ a. or_left _ (eq-eqb kind i a)) (λ b. or_right (eqb kind i) (eq-eqb kind j b)) k,
)

-- a test of those kinds alone
when-means : {K W : Type 0} {a t : Bool} → (a ≡ true) ↔ K → (K → (t ≡ false) ↔ W) → (a && t ≡ false) ↔ (K → W)
when-means kind e = (
  λ f k. (e k).0 (and-known (kind.1 k) f),
  λ h. and-when-false _ _ (λ p. let k = kind.0 p in (e k).1 (h k)),
)

module _ (s : List ℕ) (at : ℕ) where
  abbrev kind : ℕ
  kind = word s (at + 2)

  abbrev len : ℕ
  len = word s at

  abbrev body : List ℕ
  body = part s (at + 4) len

  -- 2
  sized_of : Bodied s at → wrong_move_length len ≡ false → Known s at
  sized_of k h = let n = length-fits len h in bodied k ((len - 4) / 2) (omega arith) (omega arith)

  known_of : unknown_kind kind len ≡ false → Known s at
  unfolding unknown_kind
  known_of h =
      by_kind kind
      (λ k. machine k (eqb-true _ _ (not-false _ (rw k at h))))
      (λ k. sized_of (inl k) (rw k at h))
      (λ k. end k (eqb-true _ _ (not-false _ (rw k at h))))
      (λ k. sized_of (inr k) (rw k at h))
      (λ k. withdrawal k (eqb-true _ _ (not-false _ (rw k at h))))
      (λ a b c d e. absurd (true-false refl (rw (a, b, c, d, e) at h)))

  sized-passes : (n : ℕ) → n ≤ 8 → wrong_move_length (4 + 2 * n) ≡ false
  sized-passes n h =
      length-not-wrong (4 + 2 * n) (record { long = omega arith; short = omega arith; even = omega arith })

  known-passes : Known s at → unknown_kind kind len ≡ false
  unfolding unknown_kind
  known-passes (machine k e) = rw (k, e)
  known-passes (bodied (inl k) n h e) = rw (k, e) (sized-passes n h)
  known-passes (bodied (inr k) n h e) = rw (k, e) (sized-passes n h)
  known-passes (end k e) = rw (k, e)
  known-passes (withdrawal k e) = rw (k, e)

  pub known-means : Whole s at → (unknown_kind kind (length body) ≡ false) ↔ Known s at
  known-means w = rw (part_length s (at + 4) len w) (known_of, known-passes)

  -- how many bytes a body has, and that they are the file's
  pub byte-here : (i : ℕ) → i < len → byte body i ≡ byte s (at + (4 + i))
  byte-here i h = part-byte s (at + 4) len i h ∙ ap (byte s) (omega arith)

  module _ (known : Known s at) where
    bytes-told : {i n : ℕ} → unknown_kind i len ≡ not (eqb len n) → Kind s at i → len ≡ n
    bytes-told e k = eqb-true _ _ (not-false _ (sym e ∙ rw k at (known-passes known)))

    two_are_bytes : Kind s at 1 → len ≡ 2
    unfolding unknown_kind
    two_are_bytes = bytes-told refl

    pub no_bytes : Kind s at 3 → len ≡ 0
    unfolding unknown_kind
    no_bytes = bytes-told refl

    pub three-bytes : Kind s at 5 → len ≡ 3
    unfolding unknown_kind
    three-bytes = bytes-told refl

    pub machine-bytes : Kind s at 1 → (byte body 0 ≡ byte s (at + 4)) × (byte body 1 ≡ byte s (at + 5))
    machine-bytes k = let n = two_are_bytes k in (byte-here 0 (omega arith), byte-here 1 (omega arith))

    -- 5
    pub machine-means : (eqb kind 1 && bad_machine (byte body 0) (byte body 1) ≡ false)
        ↔ (Kind s at 1 → MachineRight s at)
    machine-means =
        when-means (is-kind kind 1)
        (λ k. let b = machine-bytes k in rw (b.0, b.1) (machine-fits _ _, machine-not-bad _ _))

  module _ (x : Draft) where
    abbrev m : Model
    m = x.sent

    abbrev v : Move
    v = written s at

    -- 4
    placed_of : out_of_place m kind ≡ false → InPlace s at x
    unfolding out_of_place
    placed_of h =
        by_kind kind
        (λ k.
        let g = rw k at h in
        let a : ltb 0 (move_count m) ≡ false = search parts in
        let b : leb 32 (machine_count m) ≡ false = search parts in
        machine k (omega (arith, ltb-false)) (leb-false _ _ b))
        (λ k.
        let g = rw k at h in
        let a : eqb (machine_count m) 0 ≡ false = search parts in
        let b : leb 250 (move_count m) ≡ false = search parts in
        move k (omega (arith, eqb-false (machine_count m) 0 a)) (leb-false _ _ b))
        (λ k. end k (omega (arith, eqb-false (machine_count m) 0 (rw k at h))))
        (λ k. amendment _ (replacement k))
        (λ k. amendment _ (withdrawal k))
        (λ a b c d e. absurd (true-false refl (rw (a, b, c, d, e) at h)))

    placed-passes : InPlace s at x → out_of_place m kind ≡ false
    unfolding out_of_place
    placed-passes (machine k e h) =
        rw k (or-false-intro (le-ltb 0 (move_count m) (omega arith)) (lt-leb 32 (machine_count m) h))
    placed-passes (move k h l) =
        rw k (or-false-intro (ne_eqb (machine_count m) 0 (λ e. omega arith)) (lt-leb 250 (move_count m) l))
    placed-passes (end k h) = rw k (ne_eqb (machine_count m) 0 (λ e. omega arith))
    placed-passes (amendment a (replacement k)) = rw k
    placed-passes (amendment a (withdrawal k)) = rw k

    pub placed-means : (out_of_place m kind ≡ false) ↔ InPlace s at x
    placed-means = (placed_of, placed-passes)

    -- 6, 7 and 8; 7 where each machine has a mode
    pub modes-mean : ((eqb kind 2 || eqb kind 4) && bad_move m.modes m.live v ≡ false)
        ↔ (Bodied s at → ModesRight m v)
    modes-mean = when-means (is-either kind 2 4) (λ k. (modes-fit m v, modes-pass m v))

    pub needs-mean : Valid m
        → ((eqb kind 2 || eqb kind 4) && bad_guards m.modes v ≡ false) ↔ (Bodied s at → NeedsRight m v)
    needs-mean ok =
        when-means (is-either kind 2 4)
        (λ k. (needs-fit m v, needs-pass m v (λ i h. (ok.machines-valid i h).has-mode)))

    command-of : bad_command_of m kind v ≡ false → CommandFits s at x
    unfolding bad_command_of
    command-of h =
        by_cases (eqb kind 2)
        (λ t. let right = command-fits m v (rw t at h) in record { some = right.some; new = λ k. right })
        (λ f. record { some = eqb-false _ _ (rw f at h); new = λ k. absurd (eqb-false kind 2 f k) })

    command-fit-passes : CommandFits s at x → bad_command_of m kind v ≡ false
    unfolding bad_command_of
    command-fit-passes h =
        by_cases (eqb kind 2)
        (λ t. rw t (command-passes m v (h.new (eqb-true kind 2 t))))
        (λ f. rw f (ne_eqb v.command 0 h.some))

    pub command-means : ((eqb kind 2 || eqb kind 4) && bad_command_of m kind v ≡ false)
        ↔ (Bodied s at → CommandFits s at x)
    command-means = when-means (is-either kind 2 4) (λ k. (command-of, command-fit-passes))
