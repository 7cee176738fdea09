-- The layout of a picture's text, in words, for pictures of any size: which lines it has, in which order, and their bytes.
use Rattle.std.specs.Prelude.{ℕ, ◌<◌, ◌≡◌, List, [], ◌∷◌, ◌++◌, length, get_or}
use Prim.Native.Char.{code}
use Prim.Native.String.{String, [] as none, ◌∷◌ as ◌then◌}
use Rattle.decimal.specs.Decimal.{decimal}
use Rattle.plan.specs.Groups.{group_count, members}
use Rattle.picture.specs.Picture.{Edge, edge, Picture}

-- a text in bytes
abbrev pub bytes : String → List ℕ
bytes none = []
bytes (c then cs) = code c ∷ bytes cs

-- decimal numbers, a space between two
pub data Spaced : List ℕ → List ℕ → Type 0 where
  one : (i : ℕ) → Spaced (i ∷ []) (decimal i)
  more : (i : ℕ) {rest text : List ℕ} → Spaced rest text → Spaced (i ∷ rest) (decimal i ++ bytes " " ++ text)

-- lines one behind the other
pub data Lines : List (List ℕ) → List ℕ → Type 0 where
  empty : Lines [] []
  next : (line : List ℕ) {rest : List (List ℕ)} {text : List ℕ} → Lines rest text → Lines (line ∷ rest) (line ++ text)

module _ (p : Picture) where
  -- the line of group k, with its machines
  pub record NodeLine (k : ℕ) (line : List ℕ) : Type 0 where
    pub label : List ℕ
    pub machines : Spaced (members p.groups k) label
    pub says : line ≡ bytes "  g" ++ decimal k ++ bytes " [label=\"" ++ label ++ bytes "\"];\n"

  -- the line of an edge
  abbrev pub EdgeLine : Edge → List ℕ → Type 0
  EdgeLine e line = line ≡ bytes "  g" ++ decimal e.source ++ bytes " -> g" ++ decimal e.target ++ bytes ";\n"

  -- the first line, a line for each group in order, one for each edge in order, and the last
  pub record LaidOut (text : List ℕ) : Type 0 where
    pub nodes : List (List ℕ)
    pub node-count : length nodes ≡ group_count p.groups
    pub node_at : (k : ℕ) → k < group_count p.groups → NodeLine k (get_or nodes k [])
    pub edges : List (List ℕ)
    pub edge_count : length edges ≡ length p.edges
    pub edge_at : (n : ℕ) → n < length p.edges → EdgeLine (get_or p.edges n (edge 0 0)) (get_or edges n [])
    pub between : List ℕ
    pub in_order : Lines (nodes ++ edges) between
    pub says : text ≡ bytes "digraph groups {\n" ++ between ++ bytes "}\n"
