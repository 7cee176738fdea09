-- Every refusal of a sheet has a number from 1 to 8, or 21, and a place within the file, or just behind it, at most 7,732.
-- Assumes nothing.
use Prim.Native.Nat.{ℕ, ◌≤◌, ◌<◌}
use mathlib.Core.Path.{◌≡◌, refl, subst}
use mathlib.Core.Logic.{◌⊎◌, inl, inr, ⊎_elim}
use mathlib.Core.List.{List}
use native.Mathlib.Omega.{arith}
use lib.Dec.{eqb}
use lib.ListN.{length}
use Rattle.std.specs.Prelude.{Option, Some, None}
use Rattle.common.specs.Reply.{refused, fitted}
use Rattle.common.proofs.Bools.{by_cases}
use Rattle.common.proofs.Reply.{Each, caused-each, refused-cause}
use Rattle.sheet.specs.declared.record.Record.{Record}
use Rattle.sheet.specs.Record.{record_at, part}
use Rattle.sheet.specs.Amend.{Draft}
use Rattle.sheet.specs.Faults.{faults_of, machine_faults, move_faults, late_faults, end_faults, replace_faults, withdraw_faults}
use Rattle.sheet.specs.Parse.{Progress, outset, turn_of, parse}
use Rattle.sheet.proofs.Records.{whole-at, part_length}
use Rattle.sheet.proofs.Turns.{refuses}
use Rattle.sheet.proofs.Stops.{Stop, at-fault, none_left, Stopped, reading-stops}
use Rattle.sheet.proofs.Parsed.{Sound, sound-start, sound-turn, sound-small, end-passes}

-- the numbers that a sheet is refused by
abbrev pub Numbered : ℕ → Type 0
Numbered n = ((1 ≤ n) × (n ≤ 8)) ⊎ (n ≡ 21)

-- a refusal's number is one of them, and its place in the file or just behind it
pub record Listed (s : List ℕ) (n p : ℕ) : Type 0 where
  pub number : Numbered n
  pub inside : p ≤ length s
  pub near : p ≤ 7732

-- what every refusal of every call has: a number that is not 0, and a place of two bytes
pub record Near (n p : ℕ) : Type 0 where
  pub some : 0 < n
  pub near : p ≤ 65535

-- 12, of a call that writes a list
pub fitted-near : (out : List ℕ) (room : ℕ) {n p : ℕ} → fitted out room ≡ refused n p → Near n p
unfolding fitted
fitted-near out room e = caused-each Near (omega arith) (refused-cause _ _ e)

-- each cause of a record has a number from 2 to 8, or 21, and the record's place
module _ (s : List ℕ) (at : ℕ) (h : at ≤ length s) (l : at ≤ 7728) where
  listed : (n : ℕ) → Numbered n → Listed s n at
  listed n k = record { number = k; inside = h; near = omega arith }

  low : (n : ℕ) → 1 ≤ n → n ≤ 8 → Listed s n at
  low n a b = listed n (inl (a, b))

  pub faults-listed : (x : Draft) (kind : ℕ) (body : List ℕ)
      → Each (λ f. Listed s f.number f.place) (faults_of x at kind body)
  unfolding faults_of machine_faults move_faults late_faults end_faults replace_faults withdraw_faults
  faults-listed x kind body =
      let two = low 2 (omega arith) (omega arith) in
      let four = low 4 (omega arith) (omega arith) in
      let five = low 5 (omega arith) (omega arith) in
      let six = low 6 (omega arith) (omega arith) in
      let seven = low 7 (omega arith) (omega arith) in
      let eight = low 8 (omega arith) (omega arith) in
      let last = listed 21 (inr refl) in
      by_cases (eqb kind 1) (λ t. rw t (two, (four, (five, tt)))) (λ f.
      by_cases (eqb kind 2) (λ t. rw (f, t) (two, (four, (six, (seven, (eight, (last, tt))))))) (λ g.
      by_cases (eqb kind 3) (λ t. rw (f, g, t) (two, (four, tt))) (λ k.
      by_cases (eqb kind 4) (λ t. rw (f, g, k, t) (two, (six, (seven, (eight, (last, tt)))))) (λ i.
      by_cases (eqb kind 5) (λ t. rw (f, g, k, i, t) (two, (last, tt))) (λ j. rw (f, g, k, i, j) (two, tt))))))

pub turn-listed : (s : List ℕ) (at : ℕ) (d : Progress) (r : Option Record) {k p : ℕ} → at ≤ length s → at ≤ 7728
    → record_at s at ≡ r → turn_of s at d r ≡ refused k p → Listed s k p
turn-listed s at d None {k} {p} h l w q =
    let a : ◌≡◌ {A = ℕ} 1 k = cc in
    let b : at ≡ p = cc in
    rw (← a, ← b) (low s at h l 1 (omega arith) (omega arith))
turn-listed s at d (Some y) h l w q =
    ⊎_elim
    (caused-each (Listed s) (faults-listed s at h l d.draft y.kind (part s y.start y.len)))
    (λ b.
    let x = whole-at s at w in
    let n = part_length s y.start y.len x.within in
    let e = end-passes d.draft at y.kind (part s y.start y.len) b.is-end b.clear in
    caused-each (Listed s) (
      record {
        number = inl (omega arith, omega arith);
        inside = omega (arith, x.starts, x.within, e.0);
        near = omega (arith, x.starts, e.0);
      },
      tt,
    )
    b.caused)
    (refuses s at d y.kind y.start y.len q)

pub stopped-listed : (s : List ℕ) (k p : ℕ) → Stopped s (Sound s) (refused k p) → Listed s k p
stopped-listed s k p r = go k p r.stop
  where
    go : (k p : ℕ) → Stop s r.place r.before (refused k p) → Listed s k p
    go k p (at-fault q) =
        turn-listed s r.place r.before (record_at s r.place) r.kept.inside
        (sound-small s r.place r.before r.kept) refl q
    go k p none_left =
        low s r.place r.kept.inside (sound-small s r.place r.before r.kept) 4 (omega arith) (omega arith)

module _ (s : List ℕ) {n p : ℕ} (q : parse s ≡ refused n p) where
  pub parse-listed : Listed s n p
  unfolding parse
  parse-listed =
      let r = reading-stops s (Sound s) (sound-turn s) 347 0 outset (sound-start s) in
      stopped-listed s n p (subst (Stopped s (Sound s)) q r)

  pub refusal-number : Numbered n
  refusal-number = parse-listed.number

  pub refusal-place : p ≤ length s
  refusal-place = parse-listed.inside

  pub refusal-near : Near n p
  refusal-near =
      record {
        some = ⊎_elim (λ k. omega arith) (λ k. omega arith) refusal-number;
        near = omega (arith, parse-listed.near);
      }
