-- Sheets that say the same get the same replies: each call goes by the model alone.
-- Assumes nothing.
use Prim.Native.Nat.{ℕ, zero, suc, ◌+◌}
use mathlib.Core.Path.{◌≡◌, refl, sym, ap, ◌∙◌}
use mathlib.Core.List.{List}
use Rattle.common.specs.Reply.{Reply, given, refused, and_then}
use Rattle.sheet.specs.Model.{Model}
use Rattle.sheet.specs.Parse.{Parsed, parse}
use Rattle.plan.specs.Planning.{length_reply, plan_reply}
use Rattle.command.specs.Next.{Next, done, command, next_reply}
use Rattle.command.specs.Apply.{apply_reply}
use Rattle.command.specs.Walk.{obeyed, obey_reply, turn_by, turn_reply, obey, bound_written, after_planning, walk_lines}
use Rattle.command.specs.Walking.{turn_told, turn_leaves, lines_by}
use Rattle.command.proofs.Walks.{obey-turn}
use Rattle.clean.specs.Clean.{clean_reply}
use Rattle.clean.proofs.Cleaned.{read_alike}
use Rattle.joining.specs.Join.{join_reply}
use Rattle.picture.specs.Graph.{graph_reply}
use Rattle.panel.specs.Alike.{RepliesAlike, AmendedSame}

module _ (sheet other : List ℕ) {d e : Parsed} (a : parse sheet ≡ given d) (b : parse other ≡ given e)
    (same : d.model ≡ e.model) where
  -- a call that goes by the model
  by-model : {A : Type 0} (f : Model → Reply A)
      → and_then (parse sheet) (λ d. f d.model) ≡ and_then (parse other) (λ d. f d.model)
  unfolding and_then
  by-model f = rw (a, b, same)

  lengths : length_reply sheet ≡ length_reply other
  unfolding length_reply
  lengths = by-model _

  plans : (buffer scratch : ℕ) → plan_reply sheet buffer scratch ≡ plan_reply other buffer scratch
  unfolding plan_reply
  plans buffer scratch = by-model _

  commands : (plan state goal : List ℕ) → next_reply sheet plan state goal ≡ next_reply other plan state goal
  unfolding next_reply
  commands plan state goal = by-model _

  effects : (state : List ℕ) (i c : ℕ) → apply_reply sheet state i c ≡ apply_reply other state i c
  unfolding apply_reply
  effects state i c = by-model _

  cleans : (room : ℕ) → clean_reply sheet room ≡ clean_reply other room
  unfolding clean_reply
  cleans room = by-model _

  joins : (goals : List ℕ) (room : ℕ) → join_reply sheet goals room ≡ join_reply other goals room
  unfolding join_reply
  joins goals room = by-model _

  draws : (room : ℕ) → graph_reply sheet room ≡ graph_reply other room
  unfolding graph_reply
  draws room = by-model _

  -- the walk, turn by turn
  obeys : (state : List ℕ) (i c : ℕ) → obey_reply sheet state i c ≡ obey_reply other state i c
  unfolding obey_reply
  obeys state i c = ap (λ r. and_then r (λ x. given (obeyed i c x))) (effects state i c)

  turns-by : (state : List ℕ) (n : Next) → turn_by sheet state n ≡ turn_by other state n
  turns-by state done = refl
  turns-by state (command i c) = obeys state i c

  turns-on : (state : List ℕ) (r : Reply Next) → and_then r (turn_by sheet state) ≡ and_then r (turn_by other state)
  unfolding and_then
  turns-on state (given n) = turns-by state n
  turns-on state (refused n p) = refl

  turns : (plan state goal : List ℕ) → turn_reply sheet plan state goal ≡ turn_reply other plan state goal
  unfolding turn_reply
  turns plan state goal =
      turns-on state (next_reply sheet plan state goal)
      ∙ ap (λ r. and_then r (turn_by other state)) (commands plan state goal)

  obeyed-alike : (plan goal : List ℕ) (bound n count : ℕ) (state : List ℕ)
      → obey sheet plan goal bound n count state ≡ obey other plan goal bound n count state
  unfolding obey
  obeyed-alike plan goal bound zero count state = refl
  obeyed-alike plan goal bound (suc n) count state =
      let r = turn_reply sheet plan state goal in
      obey-turn sheet plan goal bound n count state r refl
      ∙ ap (lines_by (turn_told r) count bound) (obeyed-alike plan goal bound n (count + 1) (turn_leaves r state))
      ∙ sym (obey-turn other plan goal bound n count state r (sym (turns plan state goal)))

  bounds : (plan : List ℕ) → bound_written (parse sheet) plan ≡ bound_written (parse other) plan
  bounds plan = rw (a, b, same)

  after-planning : (state goal : List ℕ) (r : Reply (List ℕ))
      → after_planning sheet state goal r ≡ after_planning other state goal r
  after-planning state goal (given plan) =
      obeyed-alike plan goal _ _ 0 state
      ∙ ap (λ n. obey other plan goal n (suc n) 0 state) (bounds plan)
  after-planning state goal (refused n p) = refl

  planned : (r : Reply ℕ) → and_then r (λ n. plan_reply sheet n 512) ≡ and_then r (λ n. plan_reply other n 512)
  unfolding and_then
  planned (given n) = plans n 512
  planned (refused n p) = refl

  walks : (state goal : List ℕ) → walk_lines sheet state goal ≡ walk_lines other state goal
  unfolding walk_lines
  walks state goal =
      after-planning state goal (and_then (length_reply sheet) (λ n. plan_reply sheet n 512))
      ∙ ap (after_planning other state goal)
      (planned (length_reply sheet) ∙ ap (λ r. and_then r (λ n. plan_reply other n 512)) lengths)

  replies-alike : RepliesAlike sheet other
  replies-alike =
      record {
        sheets = rw (a, b, same);
        lengths = lengths;
        plans = plans;
        commands = commands;
        effects = effects;
        cleans = cleans;
        joins = joins;
        draws = draws;
        walks = walks;
      }

pub amended-same : AmendedSame
amended-same sheet clean room e =
    let c = read_alike sheet room e in
    replies-alike sheet clean c.sheet-parses c.clean-parses c.same
