-- What the clean sheet is: a sheet of its own that passes, says the same, and has no amendment.
use Rattle.std.specs.Prelude.{ℕ, ◌≤◌, ◌<◌, ◌≡◌, List, [], length}
use Rattle.common.specs.Reply.{given, refused}
use Rattle.common.specs.Meaning.{OutputLeft}
use Rattle.sheet.specs.Record.{byte}
use Rattle.sheet.specs.Parse.{Parsed, parse}
use Rattle.sheet.specs.Meaning.{Amended}
use Rattle.clean.specs.Clean.{clean_reply}

module _ (sheet : List ℕ) (room : ℕ) where
  -- of a sheet that passes, written into a buffer that is long enough
  pub record CleanRight (d : Parsed) (clean : List ℕ) : Type 0 where
    pub short : length clean ≤ 6196
    pub fits : length clean ≤ room
    -- a file of bytes where the sheet is
    pub bytes : ((i : ℕ) → byte sheet i < 256) → (i : ℕ) → byte clean i < 256
    -- it passes, and is read as the same model
    pub parsed : Parsed
    pub passes : parse clean ≡ given parsed
    pub same : parsed.model ≡ d.model
    -- it is machines and moves, no amendment, and the end
    pub file : Amended clean d.model
    pub unamended : file.changes ≡ []
    -- and its own clean sheet
    pub own : clean_reply clean room ≡ given clean

  pub record CleanReplies : Type 0 where
    -- a sheet that is refused is refused alike; 12 is last
    pub turned_down : (n p : ℕ) → parse sheet ≡ refused n p → clean_reply sheet room ≡ refused n p
    pub right : (d : Parsed) (clean : List ℕ) → parse sheet ≡ given d → clean_reply sheet room ≡ given clean → CleanRight d clean
    -- there is such a sheet; it is not given only if it does not fit
    pub no_room : (d : Parsed) → parse sheet ≡ given d → (clean : List ℕ) × ((enough : ℕ) → length clean ≤ enough
        → clean_reply sheet enough ≡ given clean) × (room < length clean → clean_reply sheet room ≡ refused 12 0)
    -- what the buffer holds afterwards
    pub left : (before : List ℕ) → length before ≡ room → OutputLeft (clean_reply sheet room) before

abbrev pub CleansRight : Type 0
CleansRight = (sheet : List ℕ) (room : ℕ) → CleanReplies sheet room
