-- How reading stops, and the induction over a sheet: what every turn keeps holds where reading stops.
-- Assumes nothing.
use Prim.Native.Nat.{ℕ, zero, suc}
use mathlib.Core.Path.{◌≡◌, refl}
use mathlib.Core.List.{List}
use native.Mathlib.Numerals.{sub-one}
use native.Mathlib.Omega.{arith}
use Rattle.common.specs.Reply.{Reply, given, refused}
use Rattle.sheet.specs.Record.{whole}
use Rattle.sheet.specs.Record.{record_at}
use Rattle.sheet.specs.Parse.{Parsed, Progress, finished, Turn, more, ended, turn_at, turn_of, parse_from}
use Rattle.sheet.proofs.Turns.{turn-next, turn-ended, turn-refused, turn-whole}

-- reading stops at a record, with a reply
pub data Stop (s : List ℕ) (at : ℕ) (d : Progress) : Reply Parsed → Type 0 where
  at-end : {e : Progress} {x : Parsed} → turn_of s at d (record_at s at) ≡ given (ended e) → finished e ≡ x
      → Stop s at d (given x)
  at-fault : {k p : ℕ} → turn_of s at d (record_at s at) ≡ refused k p → Stop s at d (refused k p)
  none_left : Stop s at d (refused 4 at)

-- a statement of a place and what has been read before it, which every turn that goes on keeps
abbrev pub Keeps : List ℕ → (ℕ → Progress → Type 0) → Type 0
Keeps s P =
    (at : ℕ) (d : Progress) (kind start len next : ℕ) (e : Progress) → record_at s at ≡ whole kind start len
    → turn_at s at d kind start len ≡ given (more next e) → P at d → P next e

pub record Stopped (s : List ℕ) (P : ℕ → Progress → Type 0) (r : Reply Parsed) : Type 0 where
  pub place : ℕ
  pub before : Progress
  pub kept : P place before
  pub stop : Stop s place before r

module _ (s : List ℕ) (P : ℕ → Progress → Type 0) (keeps : Keeps s P) where
  pub turn-stops : (n at : ℕ) (d : Progress) → P at d
      → ((next : ℕ) (e : Progress) → P next e → Stopped s P (parse_from n s next e))
      → (t : Reply Turn) → turn_of s at d (record_at s at) ≡ t → Stopped s P (parse_from (suc n) s at d)
  turn-stops n at d h later (given (more next e)) q =
      let w = turn-whole s at d (record_at s at) q in
      rw (turn-next s at d (suc n) (omega arith) q, sub-one)
      (later next e (keeps at d _ _ _ _ _ w.whole w.turn h))
  turn-stops n at d h later (given (ended e)) q =
      rw (turn-ended s at d (suc n) (omega arith) q) (record { place = at; before = d; kept = h; stop = at-end q refl })
  turn-stops n at d h later (refused k p) q =
      rw (turn-refused s at d (suc n) (omega arith) q) (record { place = at; before = d; kept = h; stop = at-fault q })

  pub reading-stops : (n at : ℕ) (d : Progress) → P at d → Stopped s P (parse_from n s at d)
  unfolding parse_from
  reading-stops zero at d h = record { place = at; before = d; kept = h; stop = none_left }
  reading-stops (suc n) at d h =
      turn-stops n at d h (λ next e k. reading-stops n next e k) (turn_of s at d (record_at s at)) refl
