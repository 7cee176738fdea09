-- The replies of drawing a sheet and of reading a picture, with 20 and 12 of these calls.
use Rattle.std.specs.Prelude.{ℕ, List, [], ◌∷◌, Bool, true, false, not, ◌&&◌, eqb}
use Rattle.common.specs.Reply.{Reply, fault, unless, and_then, fitted}
use Rattle.sheet.specs.Parse.{parse}
use Rattle.picture.specs.Picture.{Picture, picture_of, picture_bytes}
use Rattle.picture.specs.Text.{text_of}
use Rattle.picture.specs.Reading.{taken_apart, drawable}

-- the text of a sheet's picture: 1 to 8 and 21, then 12
unfoldable pub graph_reply : List ℕ → ℕ → Reply (List ℕ)
graph_reply sheet room = and_then (parse sheet) (λ d. fitted (text_of (picture_of d.model)) room)

unfoldable pub same_bytes : List ℕ → List ℕ → Bool
same_bytes [] [] = true
same_bytes [] (y ∷ ys) = false
same_bytes (x ∷ xs) [] = false
same_bytes (x ∷ xs) (y ∷ ys) = eqb x y && same_bytes xs ys

-- the text is exactly that of a picture that a sheet can have
unfoldable pub is_text : Picture → List ℕ → Bool
is_text p text = drawable p && same_bytes (text_of p) text

-- the text read as a picture, in bytes: 20, then 12
unfoldable pub read_as : Picture → List ℕ → ℕ → Reply (List ℕ)
read_as p text room = unless (fault 20 0 (not (is_text p text)) ∷ []) (fitted (picture_bytes p) room)

-- the picture of a text
unfoldable pub read_reply : List ℕ → ℕ → Reply (List ℕ)
read_reply text room = read_as (taken_apart text) text room
