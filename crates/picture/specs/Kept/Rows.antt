-- The parts of a picture's text and bytes that are written one after the other: for each group a row, by a set.
use Rattle.std.specs.Prelude.{ℕ, length, get_or}
use mathlib.Core.List.{List, [], ◌∷◌, ◌++◌, flat_map}
use Rattle.common.specs.Lists.{up_to}
use Rattle.sets.specs.Kept.Sets.{elements}
use Rattle.picture.specs.Picture.{edge}
use Rattle.picture.specs.Text.{first_line, last_line, line_start, labels, edge_line}

-- " [label="
abbrev pub label_start : List ℕ
label_start = 32 ∷ 91 ∷ 108 ∷ 97 ∷ 98 ∷ 101 ∷ 108 ∷ 61 ∷ []

-- a quote, "];" and a line feed
abbrev pub label_end : List ℕ
label_end = 34 ∷ 93 ∷ 59 ∷ 10 ∷ []

-- " -> g"
abbrev pub arrow : List ℕ
arrow = 32 ∷ 45 ∷ 62 ∷ 32 ∷ 103 ∷ []

-- ";" and a line feed
abbrev pub edge_end : List ℕ
edge_end = 59 ∷ 10 ∷ []

-- the node of group k with some machines
unfoldable pub node_of : ℕ → List ℕ → List ℕ
node_of k is = line_start k ++ label_start ++ labels 34 is ++ label_end

-- the edges from group a to some groups
unfoldable pub edges_of : ℕ → List ℕ → List ℕ
edges_of a ks = flat_map (λ k. edge_line (edge a k)) ks

-- the line of a node, by the set of its machines
abbrev pub node_row : ℕ → ℕ → List ℕ
node_row machines k = node_of k (elements machines)

-- the lines of the edges from a group, by the set of their targets
abbrev pub edge_row : ℕ → ℕ → List ℕ
edge_row targets a = edges_of a (elements targets)

-- the same edges in bytes
unfoldable pub pair_row : ℕ → ℕ → List ℕ
pair_row targets a = flat_map (λ k. a ∷ k ∷ []) (elements targets)

module _ (row : ℕ → ℕ → List ℕ) (sets : List ℕ) where
  -- the rows of the first groups
  unfoldable pub rows_upto : ℕ → List ℕ
  rows_upto n = flat_map (λ a. row (get_or sets a 0) a) (up_to n)

  -- the rows of all groups, with a set for each
  abbrev pub rows_of : List ℕ
  rows_of = rows_upto (length sets)

-- the text of a picture, by the machines of each group and the targets of each
unfoldable pub text_rows : List ℕ → List ℕ → List ℕ
text_rows members targets = first_line ++ rows_of node_row members ++ rows_of edge_row targets ++ last_line
