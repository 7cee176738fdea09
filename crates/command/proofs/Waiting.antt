-- The groups that a move waits for, those on which a need of it fails, as a set. They are below its own, and the highest
-- is the one on which its needs are fulfilled, by the modes that meet them.
-- Assumes nothing.
use Prim.Native.Nat.{ℕ, ◌<◌}
use mathlib.Core.Path.{◌≡◌, refl, sym, ap, ◌∙◌}
use mathlib.Core.List.{List, [], ◌∷◌, Memᴰ}
use mathlib.Core.Bool.{Bool, true, false, not, ◌&&◌, ◌||◌}
use native.Mathlib.Omega.{arith}
use borrow.Author.Tests.{eqb-true, eq-eqb, ltb-true}
use lib.Dec.{eqb}
use Rattle.common.specs.Bits.{bit}
use Rattle.common.specs.Lists.{all, any}
use Rattle.common.specs.Reply.{Reply, given}
use Rattle.common.proofs.Bools.{true-false, false-of-not-true, not-of-true, not_of_false, and_left}
use Rattle.common.proofs.Lists.{all-at, any_some}
use Rattle.common.proofs.When.{when-known}
use Rattle.sets.specs.Kept.Sets.{below}
use Rattle.sets.proofs.Laws.{bit-none, bit-first}
use Rattle.sheet.specs.Record.{byte}
use Rattle.sheet.specs.Model.{Move, Model, move_count, move_at, move_of}
use Rattle.sheet.specs.Valid.{ValidMove}
use Rattle.plan.specs.Groups.{group_of, group_count, moves_of}
use Rattle.plan.specs.Modes.{size}
use Rattle.plan.specs.Kept.ModeSets.{ModesHeld, MeetingSet}
use Rattle.plan.specs.Reading.{groups_in}
use Rattle.plan.proofs.Named.{moves-in, moves-mem, guard-at-most}
use Rattle.command.specs.State.{mode_of}
use Rattle.command.specs.Goal.{Masks, guard_masks, met}
use Rattle.command.specs.Next.{Next, command, holds_inside, holds_outside, prepare_by, follow_by}
use Rattle.command.specs.Method.{HighestUnmet}
use Rattle.command.specs.Kept.Question.{Placed, Kept, Listed, AllowedSet, HeldUp, OnlyOutside}
use Rattle.command.specs.Kept.Question.{machines_in, numbers_in, weights_in, size_in}
use Rattle.command.proofs.Following
use Rattle.command.proofs.Fitness.{ready-test}
use Rattle.command.proofs.GroupVerdict.{Top}
use Rattle.command.proofs.Goals.{needs-allowed, needs-hold, met_holds}
use Rattle.command.proofs.Picked.{fulfil_below, fulfil-highest}
use Rattle.command.proofs.Placing.{placed-sound, placed-count, placed-group, placed-number, placed_below}
use Rattle.command.proofs.Placing.{kept-placed, kept-held}
use Rattle.command.proofs.Shape.{shape-first}

-- none that is on the group fails: all there hold
none-fails : {A : Type 0} (p q : A → Bool) (xs : List A)
    → not (any (λ x. p x && not (q x)) xs) ≡ all (λ x. not (p x) || q x) xs
unfolding any all
none-fails p q [] = refl
none-fails p q (x ∷ xs) = turn (p x) (q x) _ _ (none-fails p q xs)
  where
    turn : (a b c d : Bool) → not c ≡ d → not ((a && not b) || c) ≡ ((not a || b) && d)
    turn true true c d e = e
    turn true false c d e = refl
    turn false b c d e = e

-- the needs on a group hold if it is not in the set
pub held-holds : (m : Model) (plan : List ℕ) {state : List ℕ} {v : Move} {s : ℕ} → HeldUp (groups_in m plan) state v s
    → (a : ℕ) → a < 64 → holds_inside m plan state a v ≡ not (bit s a)
unfolding holds_inside
held-holds m plan {state} {v} h a small =
    sym (ap not (h.bits a small)
    ∙ none-fails (λ g. eqb (group_of (groups_in m plan) g.machine) a) (λ g. bit g.mask (mode_of state g.machine))
    v.guards)

module _ {m : Model} {plan state numbers : List ℕ} (p : Placed m plan state numbers) {v : ℕ}
    (there : v < move_count m) where
  -- the group of the move
  abbrev own : ℕ
  own = group_of (groups_in m plan) (move_at m v).machine

  member : Memᴰ v (moves_of m (groups_in m plan) own)
  member = moves-in m (groups_in m plan) there refl

  own_below : own < group_count (groups_in m plan)
  own_below =
      let machine = (move_at m v).machine in
      omega (arith, placed-group p machine, placed_below p machine (p.valid.moves-valid v there).present)

  -- what the move needs outside its group
  abbrev needs : Masks
  needs = guard_masks m (groups_in m plan) own (move_at m v)

  module _ {s : ℕ} (o : OnlyOutside (groups_in m plan) state (move_at m v) s) where
    pub waits-none : s ≡ 0
        → holds_outside m plan state (group_of (groups_in m plan) (move_at m v).machine) (move_at m v) ≡ true
    unfolding holds_inside
    waits-none e =
        ready-test m plan state own (move_at m v) (λ g l n.
        let a = group_of (groups_in m plan) g.machine in
        let small : a < 64 = omega (arith, placed-group p g.machine, placed-number p g.machine) in
        let free : bit s a ≡ false = rw e (bit-none a) in
        when-known (eq-eqb a a refl) (all-at _ (held-holds m plan o.held a small ∙ not_of_false free) l))

    -- j is the highest group that the move waits for
    module _ {j : ℕ} (small : j < 64) (waits : bit s j ≡ true) (top : (i : ℕ) → j < i → bit s i ≡ false) where
      other : j ≡ own → ⊥
      other e = true-false waits (ap (bit s) e ∙ o.not_own)

      pub waits-lower : j < group_of (groups_in m plan) (move_at m v).machine
      waits-lower =
          let r = any_some _ (move_at m v).guards (sym (o.held.bits j small) ∙ waits) in
          let on : group_of (groups_in m plan) r.0.machine ≡ j = eqb-true _ _ (and_left _ _ r.2) in
          let own-move = moves-mem m (groups_in m plan) own member in
          let low = guard-at-most m (groups_in m plan) (shape-first m plan p.shaped) own-move r.1 in
          let n : ¬ (j ≡ own) = other in
          omega (arith, low, on)

      pub waits_there : j < group_count (groups_in m plan)
      waits_there = omega (arith, waits-lower, own_below)

      met-unheld : (a : ℕ) → (a ≡ own → ⊥) → a < 64 → met (groups_in m plan) needs state a ≡ not (bit s a)
      met-unheld a n h =
          met_holds m p.valid plan p.shaped own v member state (placed-sound p) a n
          ∙ held-holds m plan o.held a h

      unmet : met (groups_in m plan) needs state j ≡ false
      unmet = met-unheld j other small ∙ not-of-true waits

      highest-unmet : HighestUnmet m plan state needs own j
      highest-unmet =
          record {
            below = waits-lower;
            unmet = unmet;
            above-met = λ i l h.
                met-unheld i (λ e. omega arith) (omega (arith, own_below, placed-count p)) ∙ not_of_false (top i l);
          }

      pub waits-follows : prepare_by m plan state (fulfil_below m plan state own) own (move_at m v)
          ≡ follow_by m plan state (fulfil_below m plan state j) needs j
      waits-follows =
          let fails : holds_outside m plan state own (move_at m v) ≡ false =
          false-of-not-true (λ t.
          true-false (needs-hold m p.valid plan p.shaped own v member state (placed-sound p) t j) unmet) in
          Following.prepare-asks m plan state (fulfil_below m plan state own) own (move_at m v) fails
          ∙ fulfil-highest m plan state own highest-unmet

      pub waits-allowed : {t : ℕ}
          → MeetingSet m (groups_in m plan) j (move_at m v) (below (size m (groups_in m plan) j)) t
          → AllowedSet m plan
          (guard_masks m (groups_in m plan) (group_of (groups_in m plan) (move_at m v).machine) (move_at m v)) j t
      waits-allowed {t} h =
          let n = size m (groups_in m plan) j in
          record {
            bits = λ q.
                h.bits q (λ b. ltb-true q n (sym (bit-first n q) ∙ b))
                ∙ rw (bit-first n q, needs-allowed m p.valid plan p.shaped own v member j q other);
          }

-- the modes of group j that meet the needs of a move there, by the facts
pub record Meets (state facts zeros b : List ℕ) (j wanted : ℕ) : Type 0 where
  pub each : (m : Model) → ModesHeld m (numbers_in facts (machines_in state)) (weights_in facts) zeros
      → ValidMove m (move_of b)
      → MeetingSet m (numbers_in facts (machines_in state)) j (move_of b) (below (size_in facts j)) wanted

pub meets-by : {state facts zeros b numbers weights : List ℕ} {j n within wanted : ℕ}
    → numbers ≡ numbers_in facts (machines_in state) → weights ≡ weights_in facts → n ≡ size_in facts j → within ≡ below n
    → ((m : Model) → ModesHeld m numbers weights zeros → ValidMove m (move_of b)
    → MeetingSet m numbers j (move_of b) within wanted)
    → Meets state facts zeros b j wanted
meets-by e f g h meeting = record { each = rw (← e, ← f, ← g, ← h) meeting }

-- A move is prepared, as the code does it: what it waits for is given, and its needs on the highest of it are its goal
module _ {plan state facts zeros starts : List ℕ} (b : List ℕ) {waits v : ℕ} {m : Model}
    (kept : Kept m plan state facts zeros starts) (there : v < move_count m) (same : move_of b ≡ move_at m v)
    (o : OnlyOutside (groups_in m plan) state (move_at m v) waits) where
  -- with what it needs fulfilled in the groups below its own
  abbrev prepared : Reply Next
  prepared =
      prepare_by m plan state (fulfil_below m plan state (group_of (groups_in m plan) (move_at m v).machine))
      (group_of (groups_in m plan) (move_at m v).machine) (move_at m v)

  pub prepare-sends : waits ≡ 0 → given (command (byte b 0) (byte b 3)) ≡ prepared
  unfolding move_of
  prepare-sends e =
      ap (λ w. given (command w.machine w.command)) same
      ∙ sym (Following.prepare-sends m plan state _ _ (move_at m v) (waits-none kept.placed there o e))

  pub prepare-valid : ValidMove m (move_of b)
  prepare-valid = rw same (kept.placed.valid.moves-valid v there)

  -- group j is the highest that it waits for
  module _ {j : ℕ} (top : Top waits j) where
    pub prepare-there : j < group_count (groups_in m plan)
    prepare-there = waits_there kept.placed there o top.0 top.1 top.2

    -- it is below the move's own group
    pub prepare-lower : j < group_of (numbers_in facts (machines_in state)) (byte b 0)
    unfolding move_of
    prepare-lower =
        let low = waits-lower kept.placed there o top.0 top.1 top.2 in
        let e : byte b 0 ≡ (move_at m v).machine = ap (λ w. w.machine) same in
        rw (e, placed-group (kept-placed kept refl)) low

    module _ {wanted : ℕ} (meets : Meets state facts zeros b j wanted) where
      pub prepare-allowed : AllowedSet m plan
          (guard_masks m (groups_in m plan) (group_of (groups_in m plan) (move_at m v).machine) (move_at m v)) j wanted
      prepare-allowed =
          let met = meets.each m (kept-held kept refl refl) prepare-valid in
          waits-allowed kept.placed there o top.0 top.1 top.2
          (rw (same, kept.sizes j prepare-there, (kept-placed kept refl).numbered) at met)

      pub prepare-fulfils : {file places : List ℕ} → Listed m file places → {says : Reply Next}
          → ((m : Model) (goal : Masks) → Kept m plan state facts zeros starts → Listed m file places
          → j < group_count (groups_in m plan) → AllowedSet m plan goal j wanted
          → says ≡ follow_by m plan state (fulfil_below m plan state j) goal j)
          → says ≡ prepared
      prepare-fulfils l fulfil =
          fulfil m _ kept l prepare-there prepare-allowed
          ∙ sym (waits-follows kept.placed there o top.0 top.1 top.2)
