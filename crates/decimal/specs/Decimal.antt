-- Decimal numbers in a text of bytes: written without leading zeros, and read.
use Rattle.std.specs.Prelude.{ℕ, zero, suc, ◌+◌, ◌*◌, ◌-◌, ◌/◌, ◌%◌, min, List, [], ◌∷◌, ◌++◌, Bool, true, false, cond, not, ◌&&◌, length, get_or, eqb, ltb, leb}

-- the byte of a digit
unfoldable pub digit : ℕ → ℕ
digit d = 48 + d

-- at most so many digits of a number, the last ones
unfoldable pub digits : ℕ → ℕ → List ℕ
digits zero n = []
digits (suc most) n =
    let longer = digits most (n / 10) ++ (digit (n % 10) ∷ []) in
    cond (ltb n 10) (digit n ∷ []) longer

-- a number of at most five digits
unfoldable pub decimal : ℕ → List ℕ
decimal n = digits 5 n

-- 0 to 9
unfoldable pub is_digit : ℕ → Bool
is_digit b = leb 48 b && ltb b 58

-- the number of the digits that begin a text, behind those of a number before them; 65,536 for any larger one
unfoldable pub number_after : ℕ → List ℕ → ℕ
number_after before [] = before
number_after before (b ∷ rest) =
    let longer = number_after (min (10 * before + (b - 48)) 65536) rest in
    cond (is_digit b) longer before

-- the number that begins a text, 0 where none does
unfoldable pub leading_number : List ℕ → ℕ
leading_number text = number_after 0 text

-- the text begins with the bytes
unfoldable pub starts_with : List ℕ → List ℕ → Bool
starts_with [] text = true
starts_with (x ∷ xs) [] = false
starts_with (x ∷ xs) (y ∷ ys) = eqb x y && starts_with xs ys

-- the text begins with the number as it is written, and no digit stands behind it
unfoldable pub is_written : ℕ → List ℕ → Bool
is_written n text = starts_with (decimal n) text && not (is_digit (get_or text (length (decimal n)) 0))

-- the number below 65,536 that is so written, 65,536 where none is
unfoldable pub read_number : List ℕ → ℕ
read_number text =
    let n = leading_number text in
    cond (is_written n text) n 65536
