-- What a call sees of tags. Next command and applying see of a state its modes and the answers of three tests: 13 of a machine, 16 of
-- a group, and which moves answer a command. Where no tag hangs, these three are tests of modes alone.
use Rattle.std.specs.Prelude.{ℕ, ◌≡◌, ◌&&◌, length, get_or, eqb, leb}
use mathlib.Core.List.{List, [], ◌∷◌, flat_map}
use Rattle.common.specs.Lists.{all}
use Rattle.common.specs.Bits.{bit}
use Rattle.common.specs.Reply.{given}
use Rattle.sheet.specs.Model.{Model, mode_count, is_live_mode, move_at}
use Rattle.sheet.specs.Parse.{Parsed, parse}
use Rattle.plan.specs.Groups.{members}
use Rattle.plan.specs.Reading.{groups_in}
use Rattle.command.specs.State.{mode_of, bad_pair}
use Rattle.command.specs.Attainable.{live_group}
use Rattle.command.specs.Next.{next_reply}
use Rattle.command.specs.Apply.{acts, apply_reply, effect_reply, state_after}

-- a state of these modes, no machine tagged
unfoldable pub tagless : List ℕ → List ℕ
tagless modes = flat_map (λ mode. mode ∷ 0 ∷ []) modes

-- Two states of the same modes, alike by 13.
pub record SameModes (m : Model) (state other : List ℕ) : Type 0 where
  pub as_long : length state ≡ length other
  pub modes-same : (i : ℕ) → mode_of state i ≡ mode_of other i
  pub pairs-same : (i : ℕ) → bad_pair m state i ≡ bad_pair m other i

-- They get the same replies if they are alike by 16, and by the moves that answer.
pub record SeenAlike (m : Model) (sheet plan state other goal : List ℕ) (machine sent : ℕ) : Type 0 where
  pub next-same : ((k : ℕ) → live_group m plan state k ≡ live_group m plan other k)
      → next_reply sheet plan state goal ≡ next_reply sheet plan other goal
  pub effect-same : ((v : ℕ) → acts m state machine sent v ≡ acts m other machine sent v)
      → effect_reply (apply_reply sheet state machine sent) ≡ effect_reply (apply_reply sheet other machine sent)
  -- and come to the same modes
  pub modes-after : ((v : ℕ) → acts m state machine sent v ≡ acts m other machine sent v) → (i : ℕ)
      → mode_of (state_after (apply_reply sheet state machine sent) state) i
      ≡ mode_of (state_after (apply_reply sheet other machine sent) other) i

-- The three tests of a state with no tags.
pub record TagsUnseen (m : Model) (plan modes : List ℕ) : Type 0 where
  pub pair_is : (i : ℕ) → bad_pair m (tagless modes) i ≡ leb (mode_count m i) (get_or modes i 0)
  pub live-is : (k : ℕ) → live_group m plan (tagless modes) k
      ≡ all (λ i. is_live_mode m i (get_or modes i 0)) (members (groups_in m plan) k)
  pub acts-is : (machine sent v : ℕ) → acts m (tagless modes) machine sent v
      ≡ (eqb (move_at m v).machine machine
      && eqb (move_at m v).from (get_or modes machine 0)
      && eqb (move_at m v).command sent
      && all (λ g. bit g.mask (get_or modes g.machine 0)) (move_at m v).guards)

-- So a state with no tags gets the replies of its modes.
pub record TaglessSame : Type 0 where
  pub no-more-seen : (sheet plan state other goal : List ℕ) (machine sent : ℕ) (d : Parsed) → parse sheet ≡ given d
      → SameModes d.model state other → SeenAlike d.model sheet plan state other goal machine sent
  pub no-tag-seen : (m : Model) (plan modes : List ℕ) → TagsUnseen m plan modes
