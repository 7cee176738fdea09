-- An entry that is followed, as the code judges it: its move is there, of the group, from the present mode, and no need
-- inside the group fails, and it is usable by the plan.
-- Assumes nothing.
use Prim.Native.Nat.{ℕ, ◌*◌, ◌≤◌, ◌<◌}
use mathlib.Core.Path.{◌≡◌, refl, sym, ap, ◌∙◌}
use mathlib.Core.List.{List}
use mathlib.Core.Bool.{Bool, true, false, not, ◌&&◌, ◌||◌, not-not}
use native.Mathlib.Omega.{arith}
use borrow.Author.Tests.{eqb-true, eq-eqb, ne_eqb, le-leb, lt-leb}
use lib.Dec.{eqb}
use lib.ListN.{length, get_or}
use Rattle.common.specs.Bits.{bit}
use Rattle.common.specs.Reply.{Reply, refused}
use Rattle.common.proofs.Bools.{and_left, and-false-left, or_left, or_right}
use Rattle.sheet.specs.Record.{byte, body_at}
use Rattle.sheet.specs.Model.{Move, Model, move_count, move_at, move_of}
use Rattle.sheet.specs.Valid.{ValidMove}
use Rattle.sheet.proofs.Indexed.{listed-present, listed-move, listed-valid, listed-long}
use Rattle.plan.specs.Groups.{group_of, group_count}
use Rattle.plan.specs.Shown.{usable_in}
use Rattle.plan.specs.Reading.{groups_in}
use Rattle.plan.specs.Table.{entry}
use Rattle.command.specs.State.{mode_of}
use Rattle.command.specs.Goal.{Masks}
use Rattle.command.specs.Next.{Next, holds_inside, unfit, unfit_with, prepare_by, follow_by}
use Rattle.command.specs.Kept.Question.{machines_in, Placed, Kept, Listed, AllowedSet, HeldUp, OnlyOutside, numbers_in, entry_toward}
use Rattle.command.proofs.Following
use Rattle.command.proofs.Picked.{fulfil_below}
use Rattle.command.proofs.Placing.{placed-count, placed-numbers, placed-inside, kept-placed}
use Rattle.command.proofs.Waiting.{held-holds}

-- move v is of group k, from the mode that its machine is in
abbrev pub from_now : List ℕ → List ℕ → ℕ → Move → Bool
from_now numbers state k v = eqb (group_of numbers v.machine) k && eqb (mode_of state v.machine) v.from

module _ (body state numbers : List ℕ) (k : ℕ) {own : ℕ} (e : own ≡ group_of numbers (byte body 0)) where
  pub start-foreign : (own ≡ k → ⊥) → false ≡ from_now numbers state k (move_of body)
  unfolding move_of
  start-foreign n = sym (and-false-left _ (ne_eqb _ _ (λ z. n (e ∙ z))))

  pub start-own : (own ≡ k) → {mode : ℕ} → mode ≡ mode_of state (byte body 0)
      → eqb mode (byte body 1) ≡ from_now numbers state k (move_of body)
  unfolding move_of
  start-own h f = rw (f, ← e, eq-eqb own k h)

-- The tests of an entry, in their order
module _ (m : Model) (plan state : List ℕ) (k d v : ℕ) where
  unfit-far : d ≡ 255 → unfit m plan state k (entry d v) ≡ true
  unfolding unfit_with
  unfit-far far = or_left _ (or_left _ (or_left _ (or_left _ (or_left _ (eq-eqb d 255 far)))))

  unfit-absent : move_count m ≤ v → unfit m plan state k (entry d v) ≡ true
  unfolding unfit_with
  unfit-absent past = or_left _ (or_left _ (or_left _ (or_left _ (or_right (eqb d 255) (le-leb _ _ past)))))

  unfit-judged : (d ≡ 255 → ⊥) → v < move_count m
      → unfit m plan state k (entry d v)
      ≡ (not (from_now (groups_in m plan) state k (move_at m v)) || not (holds_inside m plan state k (move_at m v))
      || not (usable_in m plan v))
  unfolding unfit_with
  unfit-judged far here =
      rw (ne_eqb d 255 far, lt-leb _ _ here)
      (none_of (eqb (group_of (groups_in m plan) (move_at m v).machine) k)
      (eqb (mode_of state (move_at m v).machine) (move_at m v).from) (holds_inside m plan state k (move_at m v)) (usable_in m plan v))
    where
      none_of : (a b c d : Bool) → not a || not b || not c || not d ≡ (not (a && b) || not c || not d)
      none_of false b c d = refl
      none_of true b c d = refl

-- what looking up an entry gives: the one toward the target, of any goal that allows those modes of the group
abbrev pub Toward : List ℕ → List ℕ → List ℕ → List ℕ → List ℕ → ℕ → ℕ → ℕ → ℕ → Type 0
Toward plan state facts zeros starts k allowed d v =
    (m : Model) (goal : Masks) → Kept m plan state facts zeros starts
    → k < group_count (groups_in m plan) → AllowedSet m plan goal k allowed
    → entry d v ≡ entry_toward m plan state goal k

-- what asking for a move's use gives: that of the move by the plan
abbrev pub Usable : List ℕ → List ℕ → List ℕ → List ℕ → List ℕ → List ℕ → Bool → Type 0
Usable plan state facts zeros starts body u =
    (m : Model) (v : ℕ) → Kept m plan state facts zeros starts
    → v < move_count m → move_of body ≡ move_at m v → u ≡ usable_in m plan v

-- An entry is followed, as the code does it

-- what is known once its move is read: it leads toward the target, it is near and its move is listed
pub record Led (file places plan state facts zeros starts : List ℕ) (k allowed d v w : ℕ) (body numbers : List ℕ) : Type 0 where
  pub toward : Toward plan state facts zeros starts k allowed d v
  pub move : w ≡ v
  pub near : d ≡ 255 → ⊥
  pub listed : w < length places
  pub reads : body ≡ body_at file (get_or places w 0)
  pub groups : numbers ≡ numbers_in facts (machines_in state)

-- the groups on which a need of the move fails
abbrev pub Stops : List ℕ → List ℕ → List ℕ → ℕ → Type 0
Stops state numbers body held =
    (m : Model) (plan : List ℕ) → Placed m plan state numbers → ValidMove m (move_of body)
    → HeldUp (groups_in m plan) state (move_of body) held

module _ {file places plan state facts zeros starts : List ℕ} {k allowed d v w : ℕ} {body numbers : List ℕ}
    (q : Led file places plan state facts zeros starts k allowed d v w body numbers) where
  -- the move is of the group, from the mode that its machine is in, and no need of it fails on the group itself
  pub record Passed (held : ℕ) : Type 0 where
    pub stops : Stops state numbers body held
    pub from-here : from_now numbers state k (move_of body) ≡ true
    pub free : bit held k ≡ false

  pub passed : {held j : ℕ} {starts-here here : Bool} → Stops state numbers body held
      → starts-here ≡ from_now numbers state k (move_of body) → starts-here ≡ true → j ≡ k → here ≡ bit held j
      → here ≡ false → Passed held
  passed stops judged h same has n =
      record { stops = stops; from-here = sym judged ∙ h; free = rw same at (sym has ∙ n) }

  pub passed-own : {held : ℕ} → Passed held → group_of (numbers_in facts (machines_in state)) (byte body 0) ≡ k
  unfolding move_of
  passed-own p = rw (← q.groups) (eqb-true _ _ (and_left _ _ p.from-here))

module _ {file places plan state facts zeros starts : List ℕ} {k allowed d v w : ℕ} {body numbers : List ℕ} {m : Model}
    (q : Led file places plan state facts zeros starts k allowed d v w body numbers)
    (kept : Kept m plan state facts zeros starts) (l : Listed m file places) where
  pub led-placed : Placed m plan state numbers
  led-placed = kept-placed kept q.groups

  pub led-present : w < move_count m
  led-present = listed-present l q.listed

  pub led-move : move_of body ≡ move_at m w
  led-move = listed-move l q.listed q.reads

  pub led-valid : ValidMove m (move_of body)
  led-valid = listed-valid l q.listed q.reads led-placed.valid

  pub led-long : 3 < length body
  led-long = listed-long l q.listed q.reads

  pub led-some : 1 < length body
  led-some = omega (arith, led-long)

  pub led-numbered : byte body 0 < length numbers
  unfolding move_of
  led-numbered = omega (arith, led-valid.present, placed-numbers led-placed)

  pub led-inside : 2 * byte body 0 < length state
  led-inside = omega (arith, placed-inside led-placed _ led-numbered)

module _ {plan state facts zeros starts file places : List ℕ} {k allowed : ℕ} (m : Model) (goal : Masks)
    (kept : Kept m plan state facts zeros starts) (l : Listed m file places) (below : k < group_count (groups_in m plan))
    (fits : AllowedSet m plan goal k allowed) where
  abbrev followed : Reply Next
  followed = follow_by m plan state (fulfil_below m plan state k) goal k

  module _ {d v : ℕ} (toward : Toward plan state facts zeros starts k allowed d v) where
    refuses : unfit m plan state k (entry d v) ≡ true → refused 15 0 ≡ followed
    unfolding entry_toward
    refuses t =
        sym (Following.follow-unfit m plan state (usable_in m plan) _ goal k
        (sym (ap (unfit m plan state k) (toward m goal kept below fits)) ∙ t))

    pub entry-far : d ≡ 255 → refused 15 0 ≡ followed
    entry-far far = refuses (unfit-far m plan state k d v far)

    pub entry_absent : {w : ℕ} → w ≡ v → length places ≤ w → refused 15 0 ≡ followed
    entry_absent {w} e past =
        refuses (unfit-absent m plan state k d v (omega (arith, l.one_each, e, past)))

  -- its move may be of another group or mode, and a need of it may fail on some groups
  module _ {d v w : ℕ} {body numbers : List ℕ} (q : Led file places plan state facts zeros starts k allowed d v w body numbers)
      {held : ℕ} (stops : Stops state numbers body held) {starts-here : Bool}
      (judged : starts-here ≡ from_now numbers state k (move_of body)) where
    own_held : HeldUp (groups_in m plan) state (move_at m w) held
    own_held = rw (led-move q kept l) at (stops m plan (led-placed q kept l) (led-valid q kept l))

    own-judged : starts-here ≡ from_now (groups_in m plan) state k (move_at m w)
    own-judged = rw (← led-move q kept l, ← (led-placed q kept l).numbered) judged

    unfit-told : unfit m plan state k (entry d v) ≡ (not starts-here || bit held k || not (usable_in m plan w))
    unfit-told =
        let small : k < 64 = omega (arith, below, placed-count kept.placed) in
        rw (← q.move) (unfit-judged m plan state k d w q.near (led-present q kept l)
        ∙ rw (← own-judged, held-holds m plan own_held k small, not-not))

    pub entry-elsewhere : starts-here ≡ false → refused 15 0 ≡ followed
    entry-elsewhere h = refuses q.toward (unfit-told ∙ or_left _ (or_left _ (ap not h)))

    -- the group itself is one of these
    pub entry-held : {j : ℕ} {here : Bool} → j ≡ k → here ≡ bit held j → here ≡ true → refused 15 0 ≡ followed
    entry-held same has h =
        refuses q.toward (unfit-told ∙ or_left _ (or_right (not starts-here) (rw same at (sym has ∙ h))))

  -- the move starts from here
  module _ {d v w : ℕ} {body numbers : List ℕ} {q : Led file places plan state facts zeros starts k allowed d v w body numbers}
      {held : ℕ} (p : Passed q held) where
    own-group : group_of (groups_in m plan) (move_at m w).machine ≡ k
    own-group = eqb-true _ _ (and_left _ _ (sym (own-judged q p.stops (sym p.from-here))))

    pub entry-outside : OnlyOutside (groups_in m plan) state (move_at m w) held
    entry-outside =
        record { held = own_held q p.stops (sym p.from-here); not_own = rw own-group p.free }

    -- whether it is usable by the plan
    module _ {u : Bool} (usable : Usable plan state facts zeros starts body u) where
      used : u ≡ usable_in m plan w
      used = usable m w kept (led-present q kept l) (led-move q kept l)

      unfit-used : unfit m plan state k (entry d v) ≡ not u
      unfit-used = unfit-told q p.stops (sym p.from-here) ∙ rw (p.free, used) refl

      pub entry-idle : u ≡ false → refused 15 0 ≡ followed
      entry-idle n = refuses q.toward (unfit-used ∙ ap not n)

      entry-fit : u ≡ true → followed ≡ prepare_by m plan state (fulfil_below m plan state k) k (move_at m w)
      unfolding entry_toward
      entry-fit y =
          let led = q.toward m goal kept below fits in
          Following.follow-fit m plan state (usable_in m plan) _ goal k
          (sym (ap (unfit m plan state k) led) ∙ unfit-used ∙ ap not y)
          ∙ sym (ap (λ x. prepare_by m plan state (fulfil_below m plan state k) k (move_at m x.move)) led)
          ∙ rw (← q.move) refl

      pub entry-prepares : {says : Reply Next} → u ≡ true
          → ((m : Model) (v : ℕ) → Kept m plan state facts zeros starts → Listed m file places → v < move_count m
          → move_of body ≡ move_at m v → OnlyOutside (groups_in m plan) state (move_at m v) held
          → says ≡ prepare_by m plan state (fulfil_below m plan state (group_of (groups_in m plan) (move_at m v).machine))
          (group_of (groups_in m plan) (move_at m v).machine) (move_at m v))
          → says ≡ followed
      entry-prepares y prepare =
          rw own-group at (prepare m w kept l (led-present q kept l) (led-move q kept l) entry-outside)
          ∙ sym (entry-fit y)
