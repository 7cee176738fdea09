-- What is written is read back, has no leading zero, and nothing else is read.
use Rattle.std.specs.Prelude.{ℕ, ◌≤◌, ◌<◌, ◌≡◌, ◌↔◌, length, get_or}
use mathlib.Core.List.{List, ◌++◌, Memᴰ}
use Rattle.decimal.specs.Decimal.{decimal, leading_number, read_number}

-- the text does not begin with one of 0 to 9
abbrev pub NoDigitFirst : List ℕ → Type 0
NoDigitFirst rest = 0 < length rest → 48 ≤ get_or rest 0 0 → get_or rest 0 0 ≤ 57 → ⊥

-- the number stands at the beginning of the text, and no digit behind it
abbrev pub Begins : ℕ → List ℕ → Type 0
Begins n text = (rest : List ℕ) × (text ≡ decimal n ++ rest) × NoDigitFirst rest

pub record DecimalRight : Type 0 where
  pub digits-only : (n b : ℕ) → n < 100000 → Memᴰ b (decimal n) → (48 ≤ b) × (b ≤ 57)
  pub some-digit : (n : ℕ) → 0 < length (decimal n)
  -- the one that begins with a zero is 0
  pub no-leading-zero : (n : ℕ) → n < 100000 → get_or (decimal n) 0 0 ≡ 48 → n ≡ 0
  -- in any text, up to where its digits end
  pub reads-back : (n : ℕ) (rest : List ℕ) → n < 65536 → NoDigitFirst rest → leading_number (decimal n ++ rest) ≡ n
  -- read exactly: what is written so, and nothing else
  pub exactly : (n : ℕ) (text : List ℕ) → n < 65536 → (read_number text ≡ n) ↔ Begins n text
  pub none : (text : List ℕ) → read_number text ≤ 65536
