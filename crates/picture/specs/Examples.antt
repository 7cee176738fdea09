-- Drawn and read: calls with their whole answers, and pictures with their whole texts, as rows of tables over the
-- definitions. The texts are quoted, not made by the definitions.
use Rattle.std.specs.Prelude.{ℕ, ◌≡◌, refl, replicate}
use Prim.Native.String.{String, ◌++◌}
use mathlib.Core.List.{List, [], ◌∷◌, map, flat_map}
use Rattle.common.specs.Bits.{bit, beyond}
use Rattle.common.specs.Graph.{successors, marked, single, grown, layers_from, layers, distances_to, distances, between}
use Rattle.common.specs.Graph.{connected}
use Rattle.common.specs.Lists.{up_to, all, any, filter, position, find, maximum}
use Rattle.common.specs.Reply.{Reply, given, refused, unless, and_then, fitted}
use Rattle.sheet.specs.Record.{word, record_at, part}
use Rattle.sheet.specs.Model.{move_of, is_same_move, with_machine, with_move}
use Rattle.sheet.specs.Faults.{wrong_move_length, bad_machine, bad_move, bad_guard, bad_guards, bad_command}
use Rattle.sheet.specs.Faults.{machine_faults, move_faults, late_faults, end_faults, faults_of}
use Rattle.sheet.specs.Parse.{extended, turn_at, parse_from, parse}
use Rattle.plan.specs.Needs.{names, needs, need_graph}
use Rattle.plan.specs.Groups.{Grouping, group_count, members, together, numbered, ready as group_ready}
use Rattle.plan.specs.Groups.{with_number as group_number, numbered_upto, groups_of}
use Rattle.plan.specs.Groups.{moves_of, names_group, named_outside}
use Rattle.decimal.specs.Decimal.{digit, digits, decimal, is_digit, number_after, leading_number}
use Rattle.picture.specs.Picture.{Edge, edge, edges_by, named_by, picture_of, picture_bytes}
use Rattle.picture.specs.Text.{line_start, labels, node_line, edge_line, text_of}
use Rattle.picture.specs.Layout.{bytes}
use Rattle.picture.specs.Reading.{and_machine, and_group, and_number, said_after, taken_apart, ready, in_turn}
use Rattle.picture.specs.Reading.{drawable}
use Rattle.picture.specs.Graph.{graph_reply, same_bytes, is_text, read_as, read_reply}

-- lines between the first and the last
abbrev pub graph : String → List ℕ
graph lines = bytes ("digraph groups {\n" ++ lines ++ "}\n")

-- machine 0 needs none, 1 needs 0 and 2, and 2 needs 1
abbrev pub three : List ℕ
three =
    2 ∷ 0 ∷ 1 ∷ 0 ∷ 2 ∷ 3
    ∷ 2 ∷ 0 ∷ 1 ∷ 0 ∷ 2 ∷ 3
    ∷ 2 ∷ 0 ∷ 1 ∷ 0 ∷ 2 ∷ 3
    ∷ 8 ∷ 0 ∷ 2 ∷ 0 ∷ 1 ∷ 0 ∷ 1 ∷ 1 ∷ 0 ∷ 2 ∷ 2 ∷ 1
    ∷ 6 ∷ 0 ∷ 2 ∷ 0 ∷ 2 ∷ 0 ∷ 1 ∷ 1 ∷ 1 ∷ 1
    ∷ 0 ∷ 0 ∷ 3 ∷ 0 ∷ []

abbrev pub three_drawn : List ℕ
three_drawn = bytes "digraph groups {\n  g0 [label=\"0\"];\n  g1 [label=\"1 2\"];\n  g0 -> g1;\n}\n"

-- eleven groups of a machine each, with edges by source and not by target
abbrev pub eleven_groups : List ℕ
eleven_groups =
    graph ("  g0 [label=\"0\"];\n  g1 [label=\"1\"];\n  g2 [label=\"2\"];\n  g3 [label=\"3\"];\n  g4 [label=\"4\"];\n"
    ++ "  g5 [label=\"5\"];\n  g6 [label=\"6\"];\n  g7 [label=\"7\"];\n  g8 [label=\"8\"];\n  g9 [label=\"9\"];\n"
    ++ "  g10 [label=\"10\"];\n  g0 -> g10;\n  g1 -> g9;\n  g9 -> g10;\n")

-- a group of the machines 0 to 31, and more
abbrev pub one_group : String → List ℕ
one_group more =
    graph ("  g0 [label=\"0 1 2 3 4 5 6 7 8 9 10 11 12 13 14 15 16 17 18 19 20 21 22 23 24 25 26 27 28 29 30 31"
    ++ more ++ "\"];\n")

-- a call and its whole answer
pub record Call : Type 0 where
  pub lent : List ℕ
  pub room : ℕ
  pub reply : Reply (List ℕ)

abbrev pub call : List ℕ → ℕ → Reply (List ℕ) → Call
call lent room reply = record { lent = lent; room = room; reply = reply }

-- the definition gives each row's answer
abbrev pub EachReplies : (List ℕ → ℕ → Reply (List ℕ)) → List Call → Type 0
EachReplies f rows = map (λ r. f r.lent r.room) rows ≡ map (λ r. r.reply) rows

-- sheets that are drawn; the buffer may be longer, and the sheet comes before it
abbrev pub drawing : List Call
drawing =
    call three 69 (given three_drawn)
    ∷ call three 100 (given three_drawn)
    ∷ call three 68 (refused 12 0)
    ∷ call [] 0 (refused 1 0)
    ∷ []

-- texts that are read
abbrev pub reading : List Call
reading =
    call three_drawn 6 (given (3 ∷ 0 ∷ 1 ∷ 1 ∷ 0 ∷ 1 ∷ []))
    ∷ call three_drawn 7 (given (3 ∷ 0 ∷ 1 ∷ 1 ∷ 0 ∷ 1 ∷ []))
    ∷ call three_drawn 5 (refused 12 0)
    ∷ call eleven_groups 18
    (given (11 ∷ 0 ∷ 1 ∷ 2 ∷ 3 ∷ 4 ∷ 5 ∷ 6 ∷ 7 ∷ 8 ∷ 9 ∷ 10 ∷ 0 ∷ 10 ∷ 1 ∷ 9 ∷ 9 ∷ 10 ∷ []))
    -- at most 32 machines, and at least one
    ∷ call (one_group "") 33 (given (32 ∷ replicate 32 0))
    ∷ call (one_group " 32") 34 (refused 20 0)
    ∷ call (graph "") 1 (refused 20 0)
    -- a group has its number once those that it needs have theirs
    ∷ call (graph "  g0 [label=\"1 2\"];\n  g1 [label=\"0\"];\n  g0 -> g1;\n") 6 (given (3 ∷ 1 ∷ 0 ∷ 0 ∷ 0 ∷ 1 ∷ []))
    ∷ call (graph "  g0 [label=\"1 2\"];\n  g1 [label=\"0\"];\n  g1 -> g0;\n") 6 (refused 20 0)
    -- and the one with the smallest machine is first
    ∷ call (graph "  g0 [label=\"0\"];\n  g1 [label=\"1 2\"];\n") 4 (given (3 ∷ 0 ∷ 1 ∷ 1 ∷ []))
    ∷ call (graph "  g0 [label=\"1 2\"];\n  g1 [label=\"0\"];\n") 4 (refused 20 0)
    -- edges rise, each once and from a lower group
    ∷ call (graph "  g0 [label=\"0\"];\n  g1 [label=\"1\"];\n  g2 [label=\"2\"];\n  g0 -> g2;\n  g1 -> g2;\n") 8
    (given (3 ∷ 0 ∷ 1 ∷ 2 ∷ 0 ∷ 2 ∷ 1 ∷ 2 ∷ []))
    ∷ call (graph "  g0 [label=\"0\"];\n  g1 [label=\"1\"];\n  g2 [label=\"2\"];\n  g1 -> g2;\n  g0 -> g2;\n") 8
    (refused 20 0)
    ∷ call (graph "  g0 [label=\"0\"];\n  g1 [label=\"1 2\"];\n  g0 -> g1;\n  g0 -> g1;\n") 8 (refused 20 0)
    ∷ call (graph "  g0 [label=\"0\"];\n  g1 [label=\"1 2\"];\n  g1 -> g0;\n") 6 (refused 20 0)
    ∷ call (graph "  g0 [label=\"0\"];\n  g1 [label=\"1 2\"];\n  g1 -> g1;\n") 6 (refused 20 0)
    -- machines rise, each once and none left out, and each group has one
    ∷ call (graph "  g0 [label=\"0\"];\n  g1 [label=\"2 1\"];\n  g0 -> g1;\n") 6 (refused 20 0)
    ∷ call (graph "  g0 [label=\"0\"];\n  g1 [label=\"0 1\"];\n  g0 -> g1;\n") 6 (refused 20 0)
    ∷ call (graph "  g0 [label=\"0\"];\n  g1 [label=\"1 3\"];\n  g0 -> g1;\n") 6 (refused 20 0)
    ∷ call (graph "  g0 [label=\"0\"];\n  g1 [label=\"1 2\"];\n  g2 [label=];\n  g0 -> g1;\n") 6 (refused 20 0)
    -- numbers have no other form
    ∷ call (graph "  g0 [label=\"0\"];\n  g1 [label=\"1 02\"];\n  g0 -> g1;\n") 6 (refused 20 0)
    ∷ call (graph "  g0 [label=\"0\"];\n  g01 [label=\"1 2\"];\n  g0 -> g1;\n") 6 (refused 20 0)
    ∷ call (graph "  g0 [label=\"65536\"];\n  g1 [label=\"1 2\"];\n  g0 -> g1;\n") 6 (refused 20 0)
    -- nor has the rest; 20 comes before 12
    ∷ call (graph "  g0 [label=\"0\"];\n  g1 [label=\"1  2\"];\n  g0 -> g1;\n") 0 (refused 20 0)
    ∷ call (bytes "digraph groups {\n  g0 [label=\"0\"];\n  g1 [label=\"1 2\"];\n  g0 -> g1;\n}") 6 (refused 20 0)
    ∷ call (bytes "digraph groups {\n  g0 [label=\"0\"];\n  g1 [label=\"1 2\"];\n  g0 -> g1;\n}\n\n") 6 (refused 20 0)
    ∷ call (bytes "digraph group {\n  g0 [label=\"0\"];\n  g1 [label=\"1 2\"];\n  g0 -> g1;\n}\n") 6 (refused 20 0)
    ∷ call [] 6 (refused 20 0)
    ∷ []

-- a picture and its text
pub record Written : Type 0 where
  pub groups : Grouping
  pub edges : List Edge
  pub text : List ℕ

abbrev pub pictured : Grouping → List Edge → List ℕ → Written
pictured groups edges text = record { groups = groups; edges = edges; text = text }

-- the definition gives each row's text
abbrev pub EachWritten : List Written → Type 0
EachWritten rows =
    map (λ r. text_of (record { groups = r.groups; edges = r.edges })) rows ≡ map (λ r. r.text) rows

-- numbers of two digits in names, labels and edges
abbrev pub writing : List Written
writing =
    pictured (up_to 11) (edge 0 10 ∷ edge 1 9 ∷ edge 9 10 ∷ []) eleven_groups
    ∷ pictured (replicate 11 0) [] (graph "  g0 [label=\"0 1 2 3 4 5 6 7 8 9 10\"];\n")
    ∷ []

pub record ExamplesDraw : Type 0 where
  pub draws : EachReplies graph_reply drawing
  pub reads : EachReplies read_reply reading
  pub writes : EachWritten writing

-- every row holds, by computation
drawing-holds : EachReplies graph_reply drawing
unfolding
    flat_map bit beyond successors marked single grown layers_from layers distances_to distances between connected up_to
    all any filter position find maximum unless and_then word record_at part move_of with_machine with_move
    wrong_move_length bad_machine bad_move bad_guard bad_guards is_same_move bad_command machine_faults move_faults late_faults end_faults
    faults_of extended turn_at parse_from parse names needs need_graph group_count members together numbered group_ready
    group_number numbered_upto groups_of moves_of names_group named_outside digit digits decimal edges_by named_by picture_of
    line_start labels node_line edge_line text_of fitted graph_reply
drawing-holds = refl

reading-holds : EachReplies read_reply reading
unfolding
    flat_map up_to all any filter find maximum unless group_count members digit digits decimal is_digit number_after
    leading_number edges_by picture_bytes line_start labels node_line edge_line text_of and_machine and_group and_number
    said_after taken_apart ready in_turn drawable fitted same_bytes is_text read_as read_reply
reading-holds = refl

writing-holds : EachWritten writing
unfolding
    flat_map up_to filter maximum group_count members digit digits decimal line_start labels node_line edge_line text_of
writing-holds = refl

pub examples-draw : ExamplesDraw
examples-draw = record { draws = drawing-holds; reads = reading-holds; writes = writing-holds }
