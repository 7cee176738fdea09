-- "A stove, and other cases": cases 1 to 8 as rows of one table over the definitions, and rows for what they leave out.
use Rattle.std.specs.Prelude.{◌≡◌, refl, ℕ, true, take, drop}
use mathlib.Core.List.{List, [], ◌∷◌, ◌++◌, flat_map}
use Rattle.common.specs.Bits.{bit, beyond}
use Rattle.common.specs.Graph.{successors, marked, single, grown, layers_from, layers, distances_to, distances, between, connected}
use Rattle.common.specs.Lists.{up_to, all, any, filter, position, find, sum, product, maximum}
use Rattle.common.specs.Reply.{Reply, given, refused, clear, unless, and_then}
use Rattle.sheet.specs.Record.{word, record_at, part, two_bytes, record_of}
use Rattle.sheet.specs.Model.{Model, move_of, is_same_move, with_machine, with_move}
use Rattle.sheet.specs.Faults.{wrong_move_length, bad_machine, bad_move, bad_guard, bad_guards, bad_command}
use Rattle.sheet.specs.Faults.{machine_faults, move_faults, late_faults, end_faults, faults_of}
use Rattle.sheet.specs.Parse.{extended, turn_at, parse_from, parse}
use Rattle.plan.specs.Needs.{names, needs, need_graph}
use Rattle.plan.specs.Groups.{Grouping, group_count, members, smallest_member, together, numbered, ready, with_number, numbered_upto, groups_of}
use Rattle.plan.specs.Groups.{moves_of, names_group, named_outside}
use Rattle.plan.specs.Modes.{size, weight, mode_number, mode_in, live_mode, shifted}
use Rattle.plan.specs.Usable.{meets, leads, landing, end_mode, always_met, usable, joined_by}
use Rattle.plan.specs.Routes.{usable_moves, move_graph, routes_in, routes_upto}
use Rattle.plan.specs.Table.{starts, entry_of, table_of}
use Rattle.plan.specs.Bound.{longest, cost_in, costs_upto, bound_of, plan_bound}
use Rattle.plan.specs.Bytes.{four_bytes, table_in, bytes_with, table_length, table_at, plan_length}
use Rattle.plan.specs.Promised.{bound_by_all}
use Rattle.plan.specs.Planning.{large, large_group, large_place, large_plan, large_bound, size_faults, wrong_buffer, own_plan, length_reply, plan_reply}
use Rattle.plan.specs.Reading.{counted, every_move}
use Rattle.plan.specs.Shown.{usable_in}
use Rattle.plan.specs.Reading.{groups_in, table_of_group, entry_in, entry_at, has_record, gapless, needs_first, fits_records, well_shaped, bound_in}
use Rattle.command.specs.State.{every_second, modes, tags, with_mode, bad_pair, state_faults}
use Rattle.command.specs.Goal.{bad_byte, goal_faults}
use Rattle.command.specs.Tagless.{tagless}
use Rattle.command.specs.Goal.{goal_masks, guard_masks, met, allowed}
use Rattle.common.specs.Lists.{down_to}
use Rattle.command.specs.Ancestors.{group_graph, upstream}
use Rattle.command.specs.Attainable.{live_group, attains, dead_end, highest, fault_of, group_faults, attain_faults}
use Rattle.command.specs.Next.{Next, done, command, nearest, target_of, holds_inside, holds_outside, unfit_with, prepare_by, follow_with, fulfil_with}
use Rattle.command.specs.Next.{goal_refusals, misshapen, next_reply}
use Rattle.command.specs.Apply.{Applied, acts, acting_move, state_by, apply_reply}
use Rattle.command.specs.Run.{lend, Call, ask, apply, refused_next, refused_apply, none, begins, after, after_all, Run}
use Rattle.command.specs.Walk.{Line, sent, finished, stopped, obey_reply, turn_reply, obey, walk_lines}
use Rattle.command.specs.Examples.{stove, lone, filter_and_pan, burnt, nearer, tied, apart, lid_and_arm, dead_mixer, eights, seventy}
use Rattle.command.specs.Examples.{parsed_in, model_in, other_plan, changed_plan, plan_of, blank}

unfoldable pub costs_of : Model → List ℕ
costs_of m =
    let routes = routes_upto m (groups_of m) (group_count (groups_of m)) in
    costs_upto m (groups_of m) (usable_moves m (groups_of m) (joined_by routes)) routes (group_count (groups_of m))

-- a call and its whole answer
pub data Row : Type 0 where
  -- the groups of a sheet, their costs, the bound and the plan's length
  plans : (sheet : List ℕ) (groups : Grouping) (costs : List ℕ) (bound bytes : ℕ) → Row
  -- the distance between two modes of a group
  far : (sheet : List ℕ) (group from to distance : ℕ) → Row
  -- the lines of the walk
  walks : (sheet state goal : List ℕ) (lines : List Line) → Row
  -- next command, with the sheet's own plan
  asks : (sheet state goal : List ℕ) (reply : Reply Next) → Row
  -- next command, with another plan
  follows : (sheet plan state goal : List ℕ) (reply : Reply Next) → Row
  -- the bound and next command as they were when every move counted
  before : (sheet state goal : List ℕ) (bound : ℕ) (reply : Reply Next) → Row
  applies : (sheet state : List ℕ) (machine byte : ℕ) (reply : Reply Applied) → Row
  -- a run that meets every premise of arrival, and where it ends
  runs : (sheet state goal : List ℕ) (buffer : ℕ) (calls : List Call) (end : List ℕ) (applied : ℕ) → Row

abbrev pub Holds : Row → Type 0
Holds (plans sheet groups costs bound bytes) =
    (groups_of (model_in sheet) ≡ groups) × (costs_of (model_in sheet) ≡ costs)
    × (bound_in (model_in sheet) (own_plan (model_in sheet)) ≡ bound) × (length_reply sheet ≡ given bytes)
Holds (far sheet group from to distance) = (entry_at (model_in sheet) (own_plan (model_in sheet)) group from to).distance ≡ distance
Holds (walks sheet state goal lines) = walk_lines sheet state goal ≡ lines
Holds (asks sheet state goal reply) = next_reply sheet (own_plan (model_in sheet)) state goal ≡ reply
Holds (follows sheet plan state goal reply) = next_reply sheet plan state goal ≡ reply
Holds (before sheet state goal bound reply) =
    let m = model_in sheet in
    let plan = own_plan m in
    let masks = goal_masks m goal in
    (bound_by_all m ≡ bound)
    × (unless (attain_faults m plan every_move (dead_end m plan) state masks)
    (fulfil_with m plan state every_move masks (group_count (groups_in m plan))) ≡ reply)
Holds (applies sheet state machine byte reply) = apply_reply sheet state machine byte ≡ reply
Holds (runs sheet state goal buffer calls end applied) =
    (parse sheet ≡ given (parsed_in sheet))
    × (plan_reply sheet buffer 512 ≡ given (own_plan (model_in sheet)))
    × (clear (goal_refusals (model_in sheet) (own_plan (model_in sheet)) state goal) ≡ true)
    × Run (lend sheet (own_plan (model_in sheet)) goal) (begins state) calls
    × (after_all (lend sheet (own_plan (model_in sheet)) goal) (begins state) calls
    ≡ record { state = end; pending = none; applied = applied })

abbrev pub AllHold : List Row → Type 0
AllHold [] = Unit {0}
AllHold (r ∷ rs) = Holds r × AllHold rs

-- the stove all off, what case 3 wishes of it, and two machines in their first modes
abbrev pub off : List ℕ
off = tagless (0 ∷ 0 ∷ 0 ∷ [])

abbrev pub lit : List ℕ
lit = 1 ∷ 2 ∷ 2 ∷ []

abbrev pub idle : List ℕ
idle = tagless (0 ∷ 0 ∷ [])

-- case 3's commands, asked for twice now and then, with refused calls between
abbrev pub stove_calls : List Call
stove_calls =
    ask ∷ apply ∷ refused_next (lend [] [] []) ∷ ask ∷ ask ∷ refused_apply (0 ∷ []) 1 1 ∷ apply
    ∷ refused_next (lend stove [] (1 ∷ [])) ∷ ask ∷ refused_next (lend stove (own_plan (model_in stove)) (0 ∷ [])) ∷ apply
    ∷ ask ∷ apply ∷ ask ∷ ask ∷ []

abbrev pub cases : List Row
cases =
    -- 1
    plans stove (0 ∷ 1 ∷ 1 ∷ []) (1 ∷ 6 ∷ []) 7 107
    -- 2: from fan off, burner lit to fan on, burner lit
    ∷ far stove 1 2 3 3
    -- 3
    ∷ walks stove (tagless (0 ∷ 0 ∷ 0 ∷ [])) (1 ∷ 2 ∷ 2 ∷ []) (sent 0 1 0 ∷ sent 1 1 2 ∷ sent 2 1 4 ∷ sent 0 2 1 ∷ finished 4 7 ∷ [])
    -- 4
    ∷ asks stove (tagless (1 ∷ 1 ∷ 2 ∷ [])) (2 ∷ 2 ∷ 2 ∷ []) (given (command 2 3))
    -- 5
    ∷ asks stove (tagless (1 ∷ 1 ∷ 1 ∷ [])) (3 ∷ 3 ∷ 4 ∷ []) (refused 17 1)
    -- 6
    ∷ applies stove (tagless (1 ∷ 1 ∷ 1 ∷ [])) 1 2 (given (record { move = 255; state = tagless (1 ∷ 1 ∷ 1 ∷ []) }))
    -- 7
    ∷ plans lone (0 ∷ []) (0 ∷ []) 0 23
    ∷ asks lone (tagless (0 ∷ [])) (1 ∷ []) (given done)
    ∷ walks lone (tagless (0 ∷ [])) [] (finished 0 0 ∷ [])
    -- 8
    ∷ asks filter_and_pan (tagless (0 ∷ 0 ∷ [])) (1 ∷ 2 ∷ []) (refused 18 0)
    ∷ walks filter_and_pan (tagless (0 ∷ 0 ∷ [])) (1 ∷ 2 ∷ []) (stopped 18 0 ∷ [])
    -- a failed mode of a needed machine: in the way only when it is there
    ∷ asks burnt (tagless (0 ∷ 0 ∷ [])) (7 ∷ 2 ∷ []) (given (command 0 1))
    ∷ asks burnt (tagless (2 ∷ 0 ∷ [])) (7 ∷ 2 ∷ []) (refused 16 0)
    -- the nearest allowed mode, and of two as near the smaller
    ∷ asks nearer (tagless (0 ∷ [])) (6 ∷ []) (given (command 0 3))
    ∷ asks tied (tagless (0 ∷ [])) (6 ∷ []) (given (command 0 2))
    -- a dead end that is not upstream
    ∷ asks apart (tagless (0 ∷ 0 ∷ [])) (1 ∷ 2 ∷ []) (given (command 1 1))
    -- plans that are not the sheet's own
    ∷ follows lone [] (tagless (0 ∷ [])) [] (refused 15 0)
    ∷ follows lone other_plan (tagless (0 ∷ [])) [] (given done)
    -- a command whose need fails changes nothing
    ∷ applies stove (tagless (0 ∷ 0 ∷ 0 ∷ [])) 1 1 (given (record { move = 255; state = tagless (0 ∷ 0 ∷ 0 ∷ []) }))
    -- commands that act; an absent machine or command 0 changes nothing
    ∷ applies stove off 0 1 (given (record { move = 0; state = tagless (1 ∷ 0 ∷ 0 ∷ []) }))
    ∷ applies stove (tagless (1 ∷ 1 ∷ 2 ∷ [])) 2 3 (given (record { move = 6; state = tagless (1 ∷ 1 ∷ 0 ∷ []) }))
    ∷ applies stove off 3 1 (given (record { move = 255; state = off }))
    ∷ applies stove off 0 0 (given (record { move = 255; state = off }))
    -- a short goal: what it does not reach is free
    ∷ asks stove (tagless (1 ∷ 1 ∷ 2 ∷ [])) [] (given done)
    ∷ asks stove off (1 ∷ []) (given done)
    ∷ walks stove off (1 ∷ []) (finished 0 7 ∷ [])
    ∷ walks stove (tagless (1 ∷ 0 ∷ 0 ∷ [])) (1 ∷ []) (sent 0 2 1 ∷ finished 1 7 ∷ [])
    -- two needs on one group, of which one holds: both are prepared at once, so the lid is not shut again
    ∷ asks lid_and_arm (tagless (1 ∷ 0 ∷ 0 ∷ [])) (3 ∷ 7 ∷ 2 ∷ []) (given (command 1 3))
    ∷ walks lid_and_arm (tagless (0 ∷ 1 ∷ 0 ∷ [])) (3 ∷ 7 ∷ 2 ∷ [])
    (sent 1 1 2 ∷ sent 0 1 0 ∷ sent 1 3 4 ∷ sent 1 4 5 ∷ sent 2 1 6 ∷ finished 5 11 ∷ [])
    -- the sheet first, then the plan's shape
    ∷ follows [] [] [] [] (refused 1 0)
    ∷ applies [] [] 0 0 (refused 1 0)
    ∷ follows stove [] [] (0 ∷ []) (refused 15 0)
    -- 13 by length, and at the first bad machine; it comes before 14
    ∷ asks stove (tagless (2 ∷ 9 ∷ [])) lit (refused 13 255)
    ∷ asks stove (tagless (0 ∷ 0 ∷ 0 ∷ 0 ∷ [])) (0 ∷ []) (refused 13 255)
    ∷ asks stove (tagless (1 ∷ 2 ∷ 3 ∷ [])) (0 ∷ []) (refused 13 1)
    ∷ applies stove (tagless (2 ∷ 9 ∷ [])) 0 1 (refused 13 255)
    ∷ applies stove (tagless (0 ∷ 0 ∷ 0 ∷ 0 ∷ [])) 0 1 (refused 13 255)
    ∷ applies stove (tagless (1 ∷ 2 ∷ 3 ∷ [])) 0 2 (refused 13 1)
    -- 14 by length, and at the first bad byte: empty, or beyond the machine's modes
    ∷ asks stove off (0 ∷ 2 ∷ 2 ∷ 1 ∷ []) (refused 14 255)
    ∷ asks stove off (1 ∷ 0 ∷ 8 ∷ []) (refused 14 1)
    ∷ asks stove off (1 ∷ 2 ∷ 8 ∷ []) (refused 14 2)
    -- The stove's plan with a byte changed: 29 and 30 are the entry from fan and burner off to on and lit, 13 and 14 that
    -- of the board from off to on. A distance of 0 or 254 is a route, 255 is none.
    ∷ follows stove (changed_plan stove 29 0) off lit (given (command 0 1))
    ∷ follows stove (changed_plan stove 29 254) off lit (given (command 0 1))
    ∷ follows stove (changed_plan stove 29 255) off lit (refused 17 1)
    -- Entries that are unfit: no route to what a move needs; a move of another group, from another mode, held up inside its
    -- group, past the count.
    ∷ follows stove (changed_plan stove 13 255) off lit (refused 15 0)
    ∷ follows stove (changed_plan stove 30 0) off lit (refused 15 0)
    ∷ follows stove (changed_plan stove 30 3) off lit (refused 15 0)
    ∷ follows stove (changed_plan stove 30 4) off lit (refused 15 0)
    ∷ follows stove (changed_plan stove 14 7) off lit (refused 15 0)
    -- Plans in shape: the sheet's own; blank tables; two groups numbered the other way; 64 modes in a group.
    ∷ asks filter_and_pan idle [] (given done)
    ∷ follows filter_and_pan (plan_of (0 ∷ 1 ∷ []) (blank 8 ∷ blank 8 ∷ [])) idle [] (given done)
    ∷ follows apart (plan_of (1 ∷ 0 ∷ []) (blank 8 ∷ blank 8 ∷ [])) idle [] (given done)
    ∷ follows eights (plan_of (0 ∷ 0 ∷ []) (blank 8192 ∷ [])) idle [] (given done)
    -- Out of shape, in one thing each. The group numbers: none, of another kind, too long, with a gap, with a need above
    -- its move's group, with 70 modes in a group.
    ∷ follows filter_and_pan (drop 6 (plan_of (0 ∷ 1 ∷ []) (blank 8 ∷ blank 8 ∷ []))) idle [] (refused 15 0)
    ∷ follows filter_and_pan (changed_plan filter_and_pan 2 17) idle [] (refused 15 0)
    ∷ follows filter_and_pan (changed_plan filter_and_pan 0 3) idle [] (refused 15 0)
    ∷ follows filter_and_pan (plan_of (0 ∷ 2 ∷ []) (blank 8 ∷ blank 2 ∷ blank 8 ∷ [])) idle [] (refused 15 0)
    ∷ follows filter_and_pan (plan_of (1 ∷ 0 ∷ []) (blank 8 ∷ blank 8 ∷ [])) idle [] (refused 15 0)
    ∷ follows seventy (plan_of (0 ∷ 0 ∷ 0 ∷ []) (blank 9800 ∷ [])) off [] (refused 15 0)
    -- The second table, at byte 18: too short, its length written wrong, of another kind, none.
    ∷ follows filter_and_pan (plan_of (0 ∷ 1 ∷ []) (blank 8 ∷ blank 6 ∷ [])) idle [] (refused 15 0)
    ∷ follows filter_and_pan (changed_plan filter_and_pan 18 7) idle [] (refused 15 0)
    ∷ follows filter_and_pan (changed_plan filter_and_pan 20 18) idle [] (refused 15 0)
    ∷ follows filter_and_pan (plan_of (0 ∷ 1 ∷ []) (blank 8 ∷ [])) idle [] (refused 15 0)
    -- The bound, at 30, too short or of another kind; the end, at 38, of another kind or none; a byte behind it.
    ∷ follows filter_and_pan (changed_plan filter_and_pan 30 3) idle [] (refused 15 0)
    ∷ follows filter_and_pan (changed_plan filter_and_pan 32 17) idle [] (refused 15 0)
    ∷ follows filter_and_pan (changed_plan filter_and_pan 40 18) idle [] (refused 15 0)
    ∷ follows filter_and_pan (take 38 (own_plan (model_in filter_and_pan))) idle [] (refused 15 0)
    ∷ follows filter_and_pan (own_plan (model_in filter_and_pan) ++ (0 ∷ [])) idle [] (refused 15 0)
    -- Tags. A state of one byte a machine, and one of an odd length; the first machine with an absent mode or another tag.
    ∷ asks stove (0 ∷ 0 ∷ 0 ∷ []) lit (refused 13 255)
    ∷ asks stove (0 ∷ 0 ∷ 0 ∷ 0 ∷ 0 ∷ []) lit (refused 13 255)
    ∷ asks stove (0 ∷ 0 ∷ 0 ∷ 2 ∷ 3 ∷ 0 ∷ []) lit (refused 13 1)
    ∷ asks stove (0 ∷ 0 ∷ 2 ∷ 0 ∷ 0 ∷ 2 ∷ []) lit (refused 13 1)
    ∷ applies stove (0 ∷ 0 ∷ 0 ∷ 0 ∷ 0 ∷ 2 ∷ []) 0 1 (refused 13 2)
    -- on a machine that is as the fan needs it, and on one of an unmet group
    ∷ asks stove (1 ∷ 1 ∷ 0 ∷ 0 ∷ 0 ∷ 0 ∷ []) (3 ∷ 2 ∷ []) (refused 16 0)
    ∷ asks stove (1 ∷ 0 ∷ 1 ∷ 1 ∷ 0 ∷ 0 ∷ []) (3 ∷ 3 ∷ 2 ∷ []) (refused 16 1)
    -- on machines of a met group that no unmet one needs; where nothing is left to be done
    ∷ asks stove (1 ∷ 0 ∷ 0 ∷ 1 ∷ 0 ∷ 1 ∷ []) (1 ∷ []) (given (command 0 2))
    ∷ asks stove (1 ∷ 1 ∷ 0 ∷ 1 ∷ 0 ∷ 1 ∷ []) (2 ∷ 1 ∷ []) (given done)
    -- applying: not to a tagged machine; its tag does not hinder another, and no tag changes
    ∷ applies stove (0 ∷ 1 ∷ 0 ∷ 0 ∷ 0 ∷ 0 ∷ []) 0 1 (given (record { move = 255; state = 0 ∷ 1 ∷ 0 ∷ 0 ∷ 0 ∷ 0 ∷ [] }))
    ∷ applies stove (1 ∷ 1 ∷ 0 ∷ 0 ∷ 0 ∷ 1 ∷ []) 1 1 (given (record { move = 2; state = 1 ∷ 1 ∷ 1 ∷ 0 ∷ 0 ∷ 1 ∷ [] }))
    -- A mixer that is out of order and that only a move which is never usable names: in the way no more, and the bound is smaller. That
    -- move forged into the oven's entry from off to on is unfit, also beside a tag on the mixer.
    ∷ plans dead_mixer (0 ∷ 1 ∷ []) (1 ∷ 1 ∷ []) 2 66
    ∷ before dead_mixer (tagless (3 ∷ 0 ∷ [])) (15 ∷ 2 ∷ []) 3 (refused 16 0)
    ∷ asks dead_mixer (tagless (3 ∷ 0 ∷ [])) (15 ∷ 2 ∷ []) (given (command 1 2))
    ∷ follows dead_mixer (changed_plan dead_mixer 49 1) idle (15 ∷ 2 ∷ []) (refused 15 0)
    ∷ follows dead_mixer (changed_plan dead_mixer 49 1) (0 ∷ 1 ∷ 0 ∷ 0 ∷ []) (15 ∷ 2 ∷ []) (refused 15 0)
    -- arrival is not empty: the stove meets its premises, and its run ends as wished, also beside tags
    ∷ runs stove (1 ∷ 0 ∷ 0 ∷ 1 ∷ 0 ∷ 1 ∷ []) (1 ∷ []) 107 (ask ∷ apply ∷ ask ∷ []) (0 ∷ 0 ∷ 0 ∷ 1 ∷ 0 ∷ 1 ∷ []) 1
    ∷ runs stove (tagless (0 ∷ 0 ∷ 0 ∷ [])) (1 ∷ 2 ∷ 2 ∷ []) 107 stove_calls (tagless (0 ∷ 1 ∷ 1 ∷ [])) 4
    ∷ []

infixr 20 ◌⊗◌
◌⊗◌ : {A B : Type 0} → A → B → A × B
a ⊗ b = (a, b)

-- every row holds, by computation
pub cases-hold : AllHold cases
unfolding
    flat_map stove lone filter_and_pan burnt nearer tied apart lid_and_arm dead_mixer eights seventy other_plan changed_plan plan_of
    parsed_in model_in costs_of bit beyond
    successors marked single grown layers_from layers distances_to distances between connected up_to all any filter
    position find sum product maximum clear unless and_then word record_at part move_of with_machine with_move
    wrong_move_length bad_machine bad_move bad_guard bad_guards is_same_move bad_command machine_faults move_faults late_faults end_faults
    faults_of extended turn_at parse_from parse names needs need_graph group_count members smallest_member together
    numbered ready with_number numbered_upto groups_of moves_of names_group named_outside size weight mode_number mode_in
    live_mode shifted meets leads landing end_mode always_met usable usable_in usable_moves move_graph routes_in routes_upto starts entry_of
    table_of longest cost_in costs_upto bound_of plan_bound counted two_bytes four_bytes record_of table_in bytes_with table_length table_at
    plan_length large large_group large_place large_plan large_bound size_faults wrong_buffer own_plan length_reply
    plan_reply groups_in table_of_group entry_in entry_at has_record gapless needs_first fits_records well_shaped bound_in
    every_second modes tags with_mode tagless bad_pair state_faults bad_byte goal_faults goal_masks guard_masks met allowed
    down_to group_graph upstream live_group attains dead_end highest fault_of group_faults attain_faults nearest target_of
    holds_inside holds_outside unfit_with prepare_by follow_with fulfil_with goal_refusals misshapen next_reply acts acting_move state_by
    apply_reply after after_all obey_reply turn_reply obey walk_lines
cases-hold =
    (refl, refl, refl, refl) ⊗ refl ⊗ refl ⊗ refl ⊗ refl ⊗ refl ⊗ (refl, refl, refl, refl) ⊗ refl ⊗ refl ⊗ refl
    ⊗ refl ⊗ refl ⊗ refl ⊗ refl ⊗ refl ⊗ refl ⊗ refl ⊗ refl ⊗ refl ⊗ refl ⊗ refl ⊗ refl ⊗ refl ⊗ refl ⊗ refl ⊗ refl
    ⊗ refl ⊗ refl ⊗ refl ⊗ refl ⊗ refl ⊗ refl ⊗ refl ⊗ refl ⊗ refl ⊗ refl ⊗ refl ⊗ refl ⊗ refl ⊗ refl ⊗ refl ⊗ refl
    ⊗ refl ⊗ refl ⊗ refl ⊗ refl ⊗ refl ⊗ refl ⊗ refl ⊗ refl ⊗ refl ⊗ refl ⊗ refl ⊗ refl ⊗ refl ⊗ refl ⊗ refl ⊗ refl
    ⊗ refl ⊗ refl ⊗ refl ⊗ refl ⊗ refl ⊗ refl ⊗ refl ⊗ refl ⊗ refl ⊗ refl
    ⊗ refl ⊗ refl ⊗ refl ⊗ refl ⊗ refl ⊗ refl ⊗ refl ⊗ refl ⊗ refl ⊗ refl ⊗ refl
    ⊗ (refl, refl, refl, refl) ⊗ (refl, refl) ⊗ refl ⊗ refl ⊗ refl
    ⊗ (refl, refl, refl, tt ⊗ tt ⊗ tt ⊗ tt, refl)
    ⊗ (refl, refl, refl, tt ⊗ tt ⊗ tt ⊗ tt ⊗ tt ⊗ tt ⊗ tt ⊗ tt ⊗ tt ⊗ tt ⊗ tt ⊗ tt ⊗ tt ⊗ tt ⊗ tt ⊗ tt, refl) ⊗ tt
