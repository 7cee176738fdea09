-- A piece written over a part of a list.
use Rattle.std.specs.Prelude.{ℕ, ◌+◌, List, ◌++◌, length, take, drop}

-- the list with the piece from a place on
unfoldable pub written : ℕ → List ℕ → List ℕ → List ℕ
written at piece s = take at s ++ (piece ++ drop (at + length piece) s)
