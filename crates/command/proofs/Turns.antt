-- Planning into the front of a buffer that is long enough begins the walk, and each turn gives its next line.
-- Assumes nothing.
use Prim.Native.Nat.{ℕ, ◌≤◌, min}
use mathlib.Core.Path.{◌≡◌, refl, sym, ap, ◌∙◌}
use mathlib.Core.List.{List}
use native.Mathlib.Omega.{arith}
use Rattle.std.specs.Prelude.{Option, Some, None, Result, Ok}
use Rattle.common.specs.Reply.{Reply, given, refused, and_then}
use Rattle.common.proofs.Reply.{and_then-given, given-clear, given_stays}
use Rattle.sheet.specs.declared.index.Move.{Move}
use Rattle.sheet.specs.declared.refusal.Refusal.{Refusal}
use Rattle.sheet.specs.Parse.{parse}
use Rattle.sheet.proofs.Parsed.{parse-valid}
use Rattle.plan.specs.Groups.{groups_of}
use Rattle.plan.specs.Bytes.{plan_length}
use Rattle.plan.specs.Planning.{size_faults, length_reply, plan_reply}
use Rattle.plan.proofs.Groups.{groups-right, gapless-test}
use Rattle.plan.proofs.LengthLaws.{plan-length-is}
use Rattle.plan.proofs.Limits.{no-large-plan}
use Rattle.plan.proofs.NumbersUsed.{gapless-count}
use Rattle.plan.proofs.Planning.{length-groups_of}
use Rattle.command.specs.declared.method.Command.{Command}
use Rattle.command.specs.Next.{next_reply}
use Rattle.command.specs.Apply.{Applied, Effect, apply_reply, effect_reply, state_after}
use Rattle.command.specs.Says.{advice_says, move_made, change_says}
use Rattle.command.specs.Walk.{Turn, obeyed, obey_reply, turn_by, turn_reply, after_planning, walk_lines}
use Rattle.command.specs.Walking.{plan_front, turn_told, turn_leaves, TurnsRight}
use Rattle.command.proofs.Walks.{turn_is, obey-turn}

-- no plan is longer: 32 machines in 32 groups, and 16,384 entries
pub length_most : (sheet : List ℕ) {n : ℕ} → length_reply sheet ≡ given n → n ≤ 32944
unfolding length_reply size_faults
length_most sheet {n} e =
    let (d, read, fits) = and_then-given (parse sheet) _ e in
    let m = d.model in
    let valid = parse-valid sheet read in
    let same : given (plan_length m (groups_of m)) ≡ given n = given_stays _ _ fits in
    let told : plan_length m (groups_of m) ≡ n = cc in
    omega (
      arith,
      told,
      plan-length-is m (groups_of m),
      no-large-plan m (groups_of m) (given-clear _ _ fits).1.0,
      gapless-count (groups_of m) (gapless-test (groups-right m valid)),
      length-groups_of m,
      valid.few-machines,
    )

-- a buffer that is long enough is used as far as the plan needs
enough : (sheet : List ℕ) (buffer : ℕ) (r : Reply ℕ) → ((n : ℕ) → r ≡ given n → n ≤ buffer)
    → and_then r (λ n. plan_reply sheet n 512) ≡ and_then r (λ n. plan_reply sheet (min n buffer) 512)
unfolding and_then
enough sheet buffer (given n) h =
    let l = h n refl in
    ap (λ k. plan_reply sheet k 512) (omega arith)
enough sheet buffer (refused number place) h = refl

pub turns-right : (sheet state goal : List ℕ) → TurnsRight sheet state goal
unfolding walk_lines plan_front
turns-right sheet state goal =
    record {
      begins = λ buffer h. ap (after_planning sheet state goal) (enough sheet buffer (length_reply sheet) h);
      long-enough = λ n e. length_most sheet e;
      goes_on = λ plan bound n count. obey-turn sheet plan goal bound n count state _ refl;
      kept = λ plan i p e. (rw e, rw e);
    }

-- One turn

-- what obeying a command tells, by what applying it tells
abbrev told_by : ℕ → ℕ → Reply Effect → Reply (Turn ℕ)
told_by i c (given e) = given (obeyed i c e.move)
told_by i c (refused number place) = refused number place

module _ (sheet state : List ℕ) (i c : ℕ) where
  told_is : turn_told (obey_reply sheet state i c) ≡ told_by i c (effect_reply (apply_reply sheet state i c))
  unfolding obey_reply and_then
  told_is = go (apply_reply sheet state i c)
    where
      go : (q : Reply Applied) → turn_told (and_then q (λ a. given (obeyed i c a))) ≡ told_by i c (effect_reply q)
      go (given a) = refl
      go (refused number place) = refl

  left_is : turn_leaves (obey_reply sheet state i c) state ≡ state_after (apply_reply sheet state i c) state
  unfolding obey_reply and_then
  left_is = go (apply_reply sheet state i c)
    where
      go : (q : Reply Applied) → turn_leaves (and_then q (λ a. given (obeyed i c a))) state ≡ state_after q state
      go (given a) = refl
      go (refused number place) = refl

  -- `obey`: by what applying answers
  pub obeyed-by : (r x : Result (Option Move) Refusal) {state' : List ℕ} → change_says r ≡ effect_reply (apply_reply sheet state i c) → r ≡ x
      → state' ≡ state_after (apply_reply sheet state i c) state
      → (told_by i c (change_says x) ≡ turn_told (obey_reply sheet state i c)) × (state' ≡ turn_leaves (obey_reply sheet state i c) state)
  obeyed-by r x e a left = (ap (told_by i c) (ap change_says (sym a) ∙ e) ∙ sym told_is, left ∙ sym left_is)

  -- what is told of a move that was made, or of none
  pub made-told : (made : Option Move) → given (obeyed i c (move_made made)) ≡ told_by i c (change_says (Ok made))
  made-told (Some move) = refl
  made-told None = refl

-- `turn`: by what next command answers
pub turned_by : (sheet plan state goal : List ℕ) (r x : Result (Option Command) Refusal) {told : Reply (Turn ℕ)} {left : List ℕ}
    → advice_says r ≡ next_reply sheet plan state goal → r ≡ x
    → (told ≡ turn_told (and_then (advice_says x) (turn_by sheet state))) × (left ≡ turn_leaves (and_then (advice_says x) (turn_by sheet state)) state)
    → (told ≡ turn_told (turn_reply sheet plan state goal)) × (left ≡ turn_leaves (turn_reply sheet plan state goal) state)
turned_by sheet plan state goal r x e a h = rw (turn_is sheet plan state goal (sym e ∙ ap advice_says a)) h
