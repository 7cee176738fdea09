-- The text of a picture, in the language of Graphviz.
use Rattle.std.specs.Prelude.{ℕ}
use mathlib.Core.List.{List, [], ◌∷◌, ◌++◌, flat_map}
use Rattle.common.specs.Lists.{up_to}
use Rattle.decimal.specs.Decimal.{decimal}
use Rattle.plan.specs.Groups.{Grouping, group_count, members}
use Rattle.picture.specs.Picture.{Edge, Picture}

-- "digraph groups {" and a line feed
abbrev pub first_line : List ℕ
first_line = 100 ∷ 105 ∷ 103 ∷ 114 ∷ 97 ∷ 112 ∷ 104 ∷ 32 ∷ 103 ∷ 114 ∷ 111 ∷ 117 ∷ 112 ∷ 115 ∷ 32 ∷ 123 ∷ 10 ∷ []

-- "}" and a line feed
abbrev pub last_line : List ℕ
last_line = 125 ∷ 10 ∷ []

-- two spaces and a group's name: a g and its number
unfoldable pub line_start : ℕ → List ℕ
line_start k = 32 ∷ 32 ∷ 103 ∷ decimal k

-- numbers, the first behind a given byte and each other behind a space
unfoldable pub labels : ℕ → List ℕ → List ℕ
labels before [] = []
labels before (i ∷ is) = before ∷ (decimal i ++ labels 32 is)

-- a group's name, " [label=", a quote, its machines, a quote, "];" and a line feed
unfoldable pub node_line : Grouping → ℕ → List ℕ
node_line groups k =
    line_start k ++ (32 ∷ 91 ∷ 108 ∷ 97 ∷ 98 ∷ 101 ∷ 108 ∷ 61 ∷ [])
    ++ labels 34 (members groups k) ++ (34 ∷ 93 ∷ 59 ∷ 10 ∷ [])

-- a group's name, " -> ", a group's name, ";" and a line feed
unfoldable pub edge_line : Edge → List ℕ
edge_line e = line_start e.source ++ (32 ∷ 45 ∷ 62 ∷ 32 ∷ 103 ∷ decimal e.target) ++ (59 ∷ 10 ∷ [])

unfoldable pub text_of : Picture → List ℕ
text_of p =
    first_line ++ flat_map (node_line p.groups) (up_to (group_count p.groups))
    ++ flat_map edge_line p.edges ++ last_line
