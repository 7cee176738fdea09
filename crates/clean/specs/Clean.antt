-- Request L8: the clean sheet, which says without amendments what an amended one says.
use Rattle.std.specs.Prelude.{ℕ, List}
use Rattle.common.specs.Reply.{Reply, and_then, fitted}
use Rattle.sheet.specs.Parse.{parse}
use Rattle.sheet.specs.Write.{sheet_bytes}

-- the clean sheet of a sheet, with the length of the lent buffer: tests 1 to 8 and 21, then 12
unfoldable pub clean_reply : List ℕ → ℕ → Reply (List ℕ)
clean_reply sheet room = and_then (parse sheet) (λ d. fitted (sheet_bytes d.model) room)
