-- One turn of `parse_from`, by what the record at its place leads to; what a turn that goes on, ends or refuses says.
-- Assumes nothing.
use Prim.Native.Nat.{ℕ, zero, suc, ◌+◌, ◌-◌, ◌≤◌, ◌<◌}
use mathlib.Core.Path.{◌≡◌, refl, sym, ap, ◌∙◌}
use mathlib.Core.Logic.{◌⊎◌, inl, inr, ⊎_elim}
use mathlib.Core.List.{List, [], ◌∷◌}
use mathlib.Core.Bool.{true, false}
use native.Mathlib.Nat.{not-suc-le-zero}
use native.Mathlib.Numerals.{sub-one}
use native.Mathlib.Omega.{arith}
use borrow.Author.Tests.{ltb-false, lt-ltb, le-ltb, eq-eqb, ne_eqb}
use lib.ListN.{length}
use lib.Dec.{eqb, ltb}
use Rattle.std.specs.Prelude.{Option, Some, None}
use Rattle.common.specs.Reply.{Reply, given, refused, Fault, fault}
use Rattle.common.proofs.Reply.{Clear, CausedBy, given-not-refused}
use Rattle.common.proofs.Reply.{given-clear, given_stays, refused-ways, refused-cause}
use Rattle.common.proofs.Reply.{unless-clear, unless-first}
use Rattle.common.proofs.Bools.{by_cases}
use Rattle.sheet.specs.declared.record.Record.{Record}
use Rattle.sheet.specs.Record.{whole}
use Rattle.sheet.specs.Record.{record_at, part}
use Rattle.sheet.specs.Faults.{faults_of}
use Rattle.sheet.specs.Parse.{Progress, finished, extended, Turn, more, ended, turn_at, turn_of, parse_from}

module _ (s : List ℕ) (at : ℕ) (d : Progress) where
  -- the turns, by what begins at the place
  pub turn-next : (n : ℕ) {next : ℕ} {e : Progress} → 0 < n → turn_of s at d (record_at s at) ≡ given (more next e)
      → parse_from n s at d ≡ parse_from (n - 1) s next e
  unfolding parse_from
  turn-next zero h q = absurd (not-suc-le-zero h)
  turn-next (suc n) h q = rw sub-one (rw (q, parse_from))

  pub turn-ended : (n : ℕ) {e : Progress} → 0 < n → turn_of s at d (record_at s at) ≡ given (ended e)
      → parse_from n s at d ≡ given (finished e)
  unfolding parse_from
  turn-ended zero h q = absurd (not-suc-le-zero h)
  turn-ended (suc n) h q = rw (q, parse_from)

  pub turn-refused : (n : ℕ) {k p : ℕ} → 0 < n → turn_of s at d (record_at s at) ≡ refused k p
      → parse_from n s at d ≡ refused k p
  unfolding parse_from
  turn-refused zero h q = absurd (not-suc-le-zero h)
  turn-refused (suc n) h q = rw (q, parse_from)

  pub parse-cut : (n : ℕ) → 0 < n → record_at s at ≡ None → parse_from n s at d ≡ refused 1 at
  parse-cut n h w = turn-refused n h (ap (turn_of s at d) w)

  -- a whole record
  module _ (n : ℕ) {kind start len : ℕ} (h : 0 < n) (w : record_at s at ≡ whole kind start len) where
    pub parse-next : {next : ℕ} {e : Progress} → turn_at s at d kind start len ≡ given (more next e)
        → parse_from n s at d ≡ parse_from (n - 1) s next e
    parse-next q = turn-next n h (ap (turn_of s at d) w ∙ q)

    pub parse-ended : {e : Progress} → turn_at s at d kind start len ≡ given (ended e) → parse_from n s at d ≡ given (finished e)
    parse-ended q = turn-ended n h (ap (turn_of s at d) w ∙ q)

-- what is given comes of a whole record
pub record WholeTurn (s : List ℕ) (at : ℕ) (d : Progress) (r : Option Record) (t : Reply Turn) : Type 0 where
  pub kind : ℕ
  pub start : ℕ
  pub len : ℕ
  pub whole : r ≡ whole kind start len
  pub turn : turn_at s at d kind start len ≡ t

pub turn-whole : (s : List ℕ) (at : ℕ) (d : Progress) (r : Option Record) {t : Turn} → turn_of s at d r ≡ given t
    → WholeTurn s at d r (given t)
turn-whole s at d (Some x) q = record { kind = x.kind; start = x.start; len = x.len; whole = refl; turn = q }
turn-whole s at d None q = absurd (given-not-refused (sym q))

pub more-not-ended : {next : ℕ} {d e : Progress} → given (more next d) ≡ given (ended e) → ⊥
more-not-ended q = let z : ◌≡◌ {A = ℕ} 0 1 = cc in omega arith

-- 3, where the end record ends
abbrev pub bytes_behind : List ℕ → ℕ → List Fault
bytes_behind s end = fault 3 end (ltb end (length s)) ∷ []

-- a turn that goes on, ends or refuses
module _ (s : List ℕ) (at : ℕ) (d : Progress) (kind start len : ℕ) where
  abbrev faults : List Fault
  faults = faults_of d.draft at kind (part s start len)

  pub record GoesOn (next : ℕ) (e : Progress) : Type 0 where
    pub clear : Clear faults
    pub no_end : eqb kind 3 ≡ false
    pub goes-behind : start + len ≡ next
    pub reads : extended d kind at (part s start len) ≡ e

  pub record Ends (e : Progress) : Type 0 where
    pub clear : Clear faults
    pub is-end : eqb kind 3 ≡ true
    pub nothing-behind : length s ≤ start + len
    pub keeps : d ≡ e

  pub goes_on : {next : ℕ} {e : Progress} → turn_at s at d kind start len ≡ given (more next e) → GoesOn next e
  unfolding turn_at
  goes_on q =
      let g = given_stays faults _ q in
      by_cases (eqb kind 3)
      (λ t. absurd (more-not-ended (sym (given_stays (bytes_behind s (start + len)) _ (rw t at g)))))
      (λ f.
      let m = rw f at g in
      record { clear = given-clear faults _ q; no_end = f; goes-behind = cc; reads = cc })

  pub ends : {e : Progress} → turn_at s at d kind start len ≡ given (ended e) → Ends e
  unfolding turn_at
  ends q =
      let g = given_stays faults _ q in
      by_cases (eqb kind 3)
      (λ t.
      let m = rw t at g in
      let k = given_stays (bytes_behind s (start + len)) _ m in
      record {
        clear = given-clear faults _ q;
        is-end = t;
        nothing-behind = ltb-false _ _ (given-clear (bytes_behind s (start + len)) _ m).0;
        keeps = cc;
      })
      (λ f. absurd (more-not-ended (rw f at g)))

  -- 3 is judged where no other cause applies, behind an end record
  pub record Behind (k p : ℕ) : Type 0 where
    pub clear : Clear faults
    pub is-end : eqb kind 3 ≡ true
    pub caused : CausedBy (bytes_behind s (start + len)) k p

  pub refuses : {k p : ℕ} → turn_at s at d kind start len ≡ refused k p → CausedBy faults k p ⊎ Behind k p
  unfolding turn_at
  refuses q =
      ⊎_elim inl
      (λ c.
      by_cases (eqb kind 3)
      (λ t.
      let caused = refused-cause (bytes_behind s (start + len)) _ (rw t at c.1) in
      inr (record { clear = c.0; is-end = t; caused = caused }))
      (λ f. absurd (given-not-refused (rw f at c.1))))
      (refused-ways faults _ q)

  module _ (c : Clear faults) where
    pub turn-passes : (kind ≡ 3 → ⊥)
        → turn_at s at d kind start len ≡ given (more (start + len) (extended d kind at (part s start len)))
    unfolding turn_at
    turn-passes h = unless-clear faults _ c ∙ rw (ne_eqb kind 3 h)

    pub turn-ends : kind ≡ 3 → length s ≤ start + len → turn_at s at d kind start len ≡ given (ended d)
    unfolding turn_at
    turn-ends e h =
        unless-clear faults _ c
        ∙ rw (eq-eqb kind 3 e) (unless-clear (bytes_behind s (start + len)) _ (le-ltb (start + len) (length s) h, tt))

    pub turn-behind : kind ≡ 3 → start + len < length s → turn_at s at d kind start len ≡ refused 3 (start + len)
    unfolding turn_at
    turn-behind e h =
        unless-clear faults _ c ∙ rw (eq-eqb kind 3 e) (unless-first _ _ _ (lt-ltb (start + len) (length s) h))
