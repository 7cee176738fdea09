-- What drawing and reading promise: of the picture of a sheet, of its text, of the texts that are read, and of what is
-- left in the lent buffer. Said without the functions that take a text apart and judge it.
use Rattle.std.specs.Prelude.{ℕ, suc, ◌+◌, ◌*◌, ◌≤◌, ◌<◌, ◌≡◌, ◌↔◌, ◌⊎◌, length, get_or}
use mathlib.Core.List.{List, Memᴰ}
use Rattle.common.specs.Reply.{given, refused}
use Rattle.common.specs.Meaning.{OutputLeft}
use Rattle.sheet.specs.Record.{byte}
use Rattle.sheet.specs.Model.{Model, machine_count}
use Rattle.sheet.specs.Parse.{Parsed, parse}
use Rattle.plan.specs.Groups.{group_of, groups_of}
use Rattle.plan.specs.Meaning.{MoveOf, NamesOutside}
use Rattle.picture.specs.Picture.{Edge, edge, picture_of, picture_bytes}
use Rattle.picture.specs.Text.{text_of}
use Rattle.picture.specs.Layout.{LaidOut}
use Rattle.picture.specs.Graph.{graph_reply, read_reply}

-- by source, then by target
abbrev pub Before : Edge → Edge → Type 0
Before e f = (e.source < f.source) ⊎ ((e.source ≡ f.source) × (e.target < f.target))

abbrev pub no_edge : Edge
no_edge = edge 0 0

-- The picture of a sheet that passes 1 to 8 and 21: its groups are those of demand 2, and so are its edges.
pub record PictureRight (m : Model) : Type 0 where
  pub groups-are : (picture_of m).groups ≡ groups_of m
  -- an edge for each outside group that a move of the group names
  pub edges-exactly : (e : Edge) → Memᴰ e (picture_of m).edges
      ↔ ((v : ℕ) × MoveOf m (groups_of m) v e.target × NamesOutside m (groups_of m) v e.source)
  -- each once, in order
  pub edges-rise : (i : ℕ) → suc i < length (picture_of m).edges
      → Before (get_or (picture_of m).edges i no_edge) (get_or (picture_of m).edges (suc i) no_edge)

-- In bytes: the machine count, each machine's group, source and target of each edge, and nothing else.
pub record BytesRight (m : Model) (out : List ℕ) : Type 0 where
  pub machines : byte out 0 ≡ machine_count m
  pub groups : (i : ℕ) → i < machine_count m → byte out (1 + i) ≡ group_of (groups_of m) i
  pub sources : (i : ℕ) → i < length (picture_of m).edges
      → byte out (1 + machine_count m + 2 * i) ≡ (get_or (picture_of m).edges i no_edge).source
  pub targets : (i : ℕ) → i < length (picture_of m).edges
      → byte out (2 + machine_count m + 2 * i) ≡ (get_or (picture_of m).edges i no_edge).target
  pub no_more : length out ≡ 1 + machine_count m + 2 * length (picture_of m).edges

-- some file of bytes passes 1 to 8 and 21, and this is the text of its picture
pub record HasSheet (text : List ℕ) : Type 0 where
  pub sheet : List ℕ
  pub bytes : (i : ℕ) → byte sheet i < 256
  pub parsed : Parsed
  pub passes : parse sheet ≡ given parsed
  pub drawn : text_of (picture_of parsed.model) ≡ text

-- 1 to 8 and 21 come before all else, then 12; else the text.
pub record DrawsRight (sheet : List ℕ) (room : ℕ) : Type 0 where
  pub sheet-first : (n p : ℕ) → parse sheet ≡ refused n p → graph_reply sheet room ≡ refused n p
  pub no_room : (d : Parsed) → parse sheet ≡ given d → room < length (text_of (picture_of d.model))
      → graph_reply sheet room ≡ refused 12 0
  pub draws : (d : Parsed) → parse sheet ≡ given d → length (text_of (picture_of d.model)) ≤ room
      → graph_reply sheet room ≡ given (text_of (picture_of d.model))

-- A text is read exactly if it is that of some sheet's picture, and then it gives that sheet's groups and edges.
pub record ReadsRight (text : List ℕ) (room : ℕ) : Type 0 where
  pub other_text : (HasSheet text → ⊥) → read_reply text room ≡ refused 20 0
  pub exactly : (read_reply text room ≡ refused 20 0 → ⊥) ↔ HasSheet text
  pub no_room : (sheet : List ℕ) (d : Parsed) → parse sheet ≡ given d → text_of (picture_of d.model) ≡ text
      → room < length (picture_bytes (picture_of d.model)) → read_reply text room ≡ refused 12 0
  pub reads-back : (sheet : List ℕ) (d : Parsed) → parse sheet ≡ given d → text_of (picture_of d.model) ≡ text
      → length (picture_bytes (picture_of d.model)) ≤ room
      → read_reply text room ≡ given (picture_bytes (picture_of d.model))

-- All of it, for every sheet, text and length of the buffer.
pub record PicturesRight : Type 0 where
  -- a sheet's picture, its bytes and its text
  pub pictures : (sheet : List ℕ) (d : Parsed) → parse sheet ≡ given d
      → PictureRight d.model
      × BytesRight d.model (picture_bytes (picture_of d.model))
      × LaidOut (picture_of d.model) (text_of (picture_of d.model))
  pub draws : (sheet : List ℕ) (room : ℕ) → DrawsRight sheet room
  pub reads : (text : List ℕ) (room : ℕ) → ReadsRight text room

-- A sheet's text has at most 7,273 bytes, and some sheet's has so many.
pub record LongestRight : Type 0 where
  pub at_most : (sheet : List ℕ) (d : Parsed) → parse sheet ≡ given d → length (text_of (picture_of d.model)) ≤ 7273
  pub reached : (text : List ℕ) × HasSheet text × (length text ≡ 7273)

-- What drawing a sheet leaves in the lent buffer, and what reading a text does.
pub record OutputsLeft (before : List ℕ) : Type 0 where
  pub drawing : (sheet : List ℕ) → OutputLeft (graph_reply sheet (length before)) before
  pub reading : (text : List ℕ) → OutputLeft (read_reply text (length before)) before
