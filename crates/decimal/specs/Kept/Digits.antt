-- What the reader of a number has seen of it.
use Rattle.std.specs.Prelude.{ℕ, ◌+◌, ◌<◌, ◌≡◌, true, false, List, get_or, Option, MatchOption}
use Rattle.decimal.specs.Decimal.{digit, is_digit}

-- the first digit of a number stands at a place, and nothing goes on behind a 0
pub record Starts (text : List ℕ) (at first : ℕ) : Type 0 where
  pub begins : is_digit (get_or text at 0) ≡ true
  pub small : first < 10
  pub value : get_or text at 0 ≡ digit first
  pub ends : first ≡ 0 → is_digit (get_or text (at + 1) 0) ≡ false

-- a number below 65,536 is read as itself; 65,536 stands for none
abbrev pub ReadAs : ℕ → Option ℕ → Type 0
ReadAs n r = MatchOption r (n ≡ 65536) (λ k. (k < 65536) × (k ≡ n))
