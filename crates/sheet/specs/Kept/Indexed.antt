-- What functions over an index rest on: that it is the index of the file beside it.
use Rattle.std.specs.Prelude.{ℕ, ◌≤◌, ◌<◌, ◌≡◌, List, length, get_or}
use Rattle.common.specs.Reply.{given}
use Rattle.sheet.specs.declared.index.Sheet.{Sheet}
use Rattle.sheet.specs.Record.{body_at}
use Rattle.sheet.specs.Model.{Model, move_count, move_at, move_of}
use Rattle.sheet.specs.Parse.{Parsed, parse}
use Rattle.sheet.specs.Index.{index_of}

-- x is the index of the file s, a sheet that passes, and m is what it says
pub record Indexes (s : List ℕ) (x : Sheet) (m : Model) : Type 0 where
  pub parsed : Parsed
  pub passes : parse s ≡ given parsed
  pub index : x ≡ index_of parsed
  pub model : m ≡ parsed.model

abbrev pub Indexed : List ℕ → Sheet → Type 0
Indexed s x = (m : Model) × Indexes s x m

-- where the records of a sheet's moves begin
pub record Listed (m : Model) (file places : List ℕ) : Type 0 where
  pub one_each : length places ≡ move_count m
  pub long : (v : ℕ) → v < move_count m → 4 ≤ length (body_at file (get_or places v 0))
  pub each : (v : ℕ) → v < move_count m → move_of (body_at file (get_or places v 0)) ≡ move_at m v
