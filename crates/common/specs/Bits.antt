-- A byte as a set of modes: bit m, worth 2 ^ m, stands for mode m.
use Rattle.std.specs.Prelude.{ℕ, ◌/◌, ◌%◌, ◌^◌, Bool, not, eqb}

-- mode m is in the set
unfoldable pub bit : ℕ → ℕ → Bool
bit mask m = eqb (mask / 2 ^ m % 2) 1

-- the set holds a mode at or past n
unfoldable pub beyond : ℕ → ℕ → Bool
beyond n mask = not (eqb (mask / 2 ^ n) 0)
