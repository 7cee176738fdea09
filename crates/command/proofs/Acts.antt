-- A move that leads from the present group mode, its needs met: its command acts by it alone and moves its group alone.
-- Assumes nothing.
use Prim.Native.Nat.{ℕ, ◌<◌}
use mathlib.Core.Path.{◌≡◌, refl, sym, ◌∙◌}
use mathlib.Core.List.{List, Memᴰ}
use mathlib.Core.Bool.{Bool, true, ◌&&◌}
use native.Mathlib.Omega.{arith}
use borrow.Author.Tests.{eqb-true, eq-eqb, ne_eqb}
use lib.Dec.{eqb}
use Rattle.common.specs.Bits.{bit}
use Rattle.common.specs.Lists.{up_to, all, any}
use Rattle.common.specs.Reply.{given, and_then}
use Rattle.common.proofs.Bools.{by_cases, and_intro, and_left, and_right}
use Rattle.common.proofs.Lists.{all-at, all-intro, any-intro}
use Rattle.common.proofs.Search.{find-holds, find-mem}
use Rattle.common.proofs.Members.{up_to-mem, up_to-below}
use Rattle.common.proofs.Reply.{unless-clear}
use Rattle.common.proofs.When.{when-known, unless-known}
use Rattle.sheet.specs.Model.{Model, mode_count, is_live_mode, move_count, move_at}
use Rattle.sheet.specs.Valid.{Valid, ValidMove}
use Rattle.sheet.specs.Parse.{Parsed, parse}
use Rattle.plan.specs.Groups.{Grouping, group_of, members, moves_of}
use Rattle.plan.specs.Usable.{leads, landing}
use Rattle.plan.specs.Reading.{groups_in, well_shaped}
use Rattle.command.specs.State.{mode_of, tag_of, with_mode}
use Rattle.command.specs.Attainable.{present, live_group}
use Rattle.command.specs.Next.{holds_inside, holds_outside}
use Rattle.command.specs.Apply.{acts, Answers, acting_move, state_by, apply_reply}
use Rattle.command.proofs.Shape.{Sound, state-sound, groups-length}
use Rattle.command.proofs.Changes.{changed-live, changed-sound, changed-there, changed-elsewhere}
use Rattle.command.proofs.Goals.{mode-present, holds-meets}
use Rattle.plan.proofs.Steps.{leads-from, leads-meets, mover-valid, mover-member}
use Rattle.plan.proofs.Named.{moves-below, moves-group}

-- a move acts exactly if it answers the command
module _ (m : Model) (state : List ℕ) (i c v : ℕ) where
  pub acts-answers : v < move_count m → acts m state i c v ≡ true → Answers m state i c v
  unfolding acts
  acts-answers there h =
      let by-machine : Bool = eqb (move_at m v).machine i in
      let by_mode : Bool = by-machine && eqb (move_at m v).from (mode_of state i) in
      let by_byte : Bool = by_mode && eqb (move_at m v).command c in
      let by-needs : Bool =
      by_byte && all (λ g. bit g.mask (mode_of state g.machine)) (move_at m v).guards in
      let fits = and_left by-needs _ h in
      record {
        there = there;
        its-machine = eqb-true _ _ (and_left _ _ (and_left _ _ (and_left _ _ fits)));
        its-from = eqb-true _ _ (and_right by-machine _ (and_left _ _ (and_left _ _ fits)));
        its-byte = eqb-true _ _ (and_right by_mode _ (and_left _ _ fits));
        its-needs = λ g l. all-at _ (and_right by_byte _ fits) l;
        no-tag = eqb-true _ _ (and_right by-needs _ h);
      }

  pub answers-acts : Answers m state i c v → acts m state i c v ≡ true
  unfolding acts
  answers-acts a =
      and_intro
      (and_intro
      (and_intro
      (and_intro (eq-eqb _ _ a.its-machine) (eq-eqb _ _ a.its-from))
      (eq-eqb _ _ a.its-byte))
      (all-intro _ (move_at m v).guards a.its-needs))
      (eq-eqb _ _ a.no-tag)

-- no machine of a live group is tagged
pub live-untagged : (m : Model) (plan state : List ℕ) (k i : ℕ) → live_group m plan state k ≡ true
    → Memᴰ i (members (groups_in m plan) k) → tag_of state i ≡ 0
unfolding live_group
live-untagged m plan state k i live l =
    eqb-true _ _ (and_right (is_live_mode m i (mode_of state i)) _ (all-at _ live l))

-- no two moves answer a command
pub answers-same : (m : Model) → Valid m → (state : List ℕ) (i c : ℕ) {v w : ℕ} → Answers m state i c v
    → Answers m state i c w → v ≡ w
answers-same m valid state i c {v} {w} a b =
    valid.moves-distinct v w a.there b.there
    (a.its-machine ∙ sym b.its-machine) (a.its-from ∙ sym b.its-from) (a.its-byte ∙ sym b.its-byte)

-- a move that acts is the one that is found
pub acting-only : (m : Model) → Valid m → (state : List ℕ) (i c v : ℕ) → v < move_count m → acts m state i c v ≡ true
    → acting_move m state i c ≡ v
unfolding acting_move
acting-only m valid state i c v h t =
    let moves = up_to (move_count m) in
    let some : any (acts m state i c) moves ≡ true = any-intro (acts m state i c) (up_to-mem h) t in
    let here = up_to-below (move_count m) (find-mem (acts m state i c) moves 255 some) in
    answers-same m valid state i c
    (acts-answers m state i c _ here (find-holds (acts m state i c) moves 255 some)) (acts-answers m state i c v h t)

module _ (m : Model) (valid : Valid m) (plan : List ℕ) (shaped : well_shaped m plan ≡ true) where
  abbrev own : Grouping
  own = groups_in m plan

  module _ (k v : ℕ) (member : Memᴰ v (moves_of m (groups_in m plan) k)) where
    abbrev machine : ℕ
    machine = (move_at m v).machine

    own-valid : ValidMove m (move_at m v)
    own-valid = mover-valid m valid own (groups-length m valid plan shaped) k member

    module _ (state : List ℕ) (sound : Sound m state) where
      -- the machine in another mode that it has
      module _ (mode : ℕ) (has : mode < mode_count m (move_at m v).machine) where
        pub applied-sound : Sound m (with_mode state (move_at m v).machine mode)
        applied-sound = changed-sound m state sound machine mode own-valid.present has

        pub applied-elsewhere : (a : ℕ) → (a ≡ k → ⊥)
            → present m plan (with_mode state (move_at m v).machine mode) a ≡ present m plan state a
        applied-elsewhere a n =
            changed-elsewhere m state sound machine mode own-valid.present has valid plan shaped a
            (λ e. n (sym e ∙ moves-group m (groups_in m plan) k member))

      pub applied-live : (mode : ℕ) → is_live_mode m (move_at m v).machine mode ≡ true → (a : ℕ)
          → live_group m plan state a ≡ true → live_group m plan (with_mode state (move_at m v).machine mode) a ≡ true
      applied-live mode live = changed-live m state sound machine mode own-valid.present live plan

      module _ (leading : leads m (groups_in m plan) k (move_at m v) (present m plan state k) ≡ true) where
        pub leading-from : mode_of state (move_at m v).machine ≡ (move_at m v).from
        leading-from =
            sym (mode-present m valid plan shaped state sound k machine
            (mover-member m valid own (groups-length m valid plan shaped) k member))
            ∙ leads-from m own k (move_at m v) _ leading

        pub leading-inside : holds_inside m plan state k (move_at m v) ≡ true
        leading-inside =
            holds-meets m valid plan shaped k v member state sound k ∙ leads-meets m own k (move_at m v) _ leading

        -- its machine in any mode that it has: the group is where the move comes to if it ends there
        pub applied-landing : (mode : ℕ) → mode < mode_count m (move_at m v).machine
            → present m plan (with_mode state (move_at m v).machine mode) k
            ≡ landing m (groups_in m plan) k (move_at m v) mode (present m plan state k)
        unfolding landing
        applied-landing mode has =
            rw (← leading-from)
            (changed-there m state sound machine mode own-valid.present has valid plan shaped k
            (moves-group m (groups_in m plan) k member))

        -- the command acts, by this move and no other
        module _ (outside : holds_outside m plan state k (move_at m v) ≡ true)
            (live : live_group m plan state k ≡ true) where
          pub move-answers : Answers m state (move_at m v).machine (move_at m v).command v
          unfolding holds_inside holds_outside
          move-answers =
              record {
                there = moves-below m (groups_in m plan) k member;
                its-machine = refl;
                its-from = sym leading-from;
                its-byte = refl;
                its-needs = λ g l. by_cases (eqb (group_of own g.machine) k)
                    (λ t. when-known t (all-at _ leading-inside l))
                    (λ f. unless-known f (all-at _ outside l));
                no-tag = live-untagged m plan state k machine live
                    (mover-member m valid own (groups-length m valid plan shaped) k member);
              }

          pub acting-is : acting_move m state (move_at m v).machine (move_at m v).command ≡ v
          acting-is =
              acting-only m valid state machine (move_at m v).command v move-answers.there
              (answers-acts m state machine (move_at m v).command v move-answers)

          pub applied-reply : (sheet : List ℕ) (d : Parsed) → parse sheet ≡ given d → d.model ≡ m
              → apply_reply sheet state (move_at m v).machine (move_at m v).command
              ≡ given (record { move = v; state = with_mode state (move_at m v).machine (move_at m v).to })
          unfolding apply_reply state_by and_then
          applied-reply sheet d e q =
              let some : v ≡ 255 → ⊥ = omega (arith, valid.few-moves, moves-below m (groups_in m plan) k member) in
              rw (e, q) (unless-clear _ _ (state-sound m state sound) ∙ rw (acting-is, ne_eqb v 255 some))
