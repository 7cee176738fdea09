-- "The sheet": records. Four bytes give a record's body length and its kind, low byte first, and the body follows.
-- Nothing here knows the kinds: sheets and plans are both read and written so.
use Rattle.std.specs.Prelude.{ℕ, ◌+◌, ◌-◌, ◌*◌, ◌/◌, ◌%◌, List, [], ◌∷◌, ◌++◌, cond, length, get_or, take, drop, ltb, leb, Option, Some, None}
use Rattle.sheet.specs.declared.record.Record.{Record}

-- the byte at a place, 0 past the end
abbrev pub byte : List ℕ → ℕ → ℕ
byte s i = get_or s i 0

-- the two-byte number at a place
unfoldable pub word : List ℕ → ℕ → ℕ
word s i = byte s i + 256 * byte s (i + 1)

-- a whole record: its kind, where its body starts and how long that is
abbrev pub whole : ℕ → ℕ → ℕ → Option Record
whole kind start len = Some (record { kind = kind; start = start; len = len })

-- the record that begins at a place; none that is cut short
unfoldable pub record_at : List ℕ → ℕ → Option Record
record_at s at =
    cond (leb (length s) at) None
    (cond (ltb (length s - at) 4) None
    (cond (ltb (length s - at - 4) (word s at)) None
    (whole (word s (at + 2)) (at + 4) (word s at))))

-- a part of a file
unfoldable pub part : List ℕ → ℕ → ℕ → List ℕ
part s start len = take len (drop start s)

abbrev pub body_of : List ℕ → Option Record → List ℕ
body_of s (Some r) = part s r.start r.len
body_of s None = []

-- the body of the record that begins at a place, as that part of the file; empty where no whole record begins there
unfoldable pub body_at : List ℕ → ℕ → List ℕ
body_at s at = body_of s (record_at s at)

-- Records as they are written: two bytes, little-endian
unfoldable pub two_bytes : ℕ → List ℕ
two_bytes n = n % 256 ∷ n / 256 % 256 ∷ []

-- a record: body length, kind, body
unfoldable pub record_of : ℕ → List ℕ → List ℕ
record_of kind body = two_bytes (length body) ++ two_bytes kind ++ body
