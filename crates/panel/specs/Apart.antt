-- The words of the C interface can be taken apart again: into a refusal's number and place, or into what the call gives.
use Rattle.std.specs.Prelude.{ℕ, ◌/◌, ◌%◌, ◌≤◌, ◌<◌, ◌≡◌, ◌↔◌, List, true, length}
use Rattle.common.specs.Reply.{Reply, given, refused, length_of}
use Rattle.sheet.specs.Record.{byte}
use Rattle.sheet.specs.Model.{machine_count, move_count}
use Rattle.sheet.specs.Parse.{Parsed, parse}
use Rattle.plan.specs.Planning.{length_reply, plan_reply}
use Rattle.command.specs.Next.{done, command, next_reply}
use Rattle.command.specs.Apply.{Effect, apply_reply, effect_reply}
use Rattle.clean.specs.Clean.{clean_reply}
use Rattle.joining.specs.Join.{join_reply}
use Rattle.picture.specs.Graph.{graph_reply, read_reply}
use Rattle.panel.specs.Words.{word_of, sheet_reply, done_reply, command_reply, move_reply}

-- A refusal's number is above, and never 0; its place is below. Whatever else is told, 0 is above.
pub record Apart {A : Type 0} (reply : Reply A) (word : ℕ) : Type 0 where
  pub refusal : (n p : ℕ) → reply ≡ refused n p → (0 < n) × (word / 4294967296 ≡ n) × (word % 4294967296 ≡ p)
  pub value : (a : A) → reply ≡ given a → word < 4294967296

-- a call that tells a number of bytes, and no other value
pub record TellsLength (reply : Reply (List ℕ)) : Type 0 where
  pub apart : Apart reply (word_of (length_of reply))
  pub bytes : (out : List ℕ) → reply ≡ given out → word_of (length_of reply) ≡ length out

-- The words of every call whose sheet is a file of bytes.
pub record WordsRight (sheet : List ℕ) : Type 0 where
  -- machines and moves
  pub sheets : Apart (parse sheet) (word_of (sheet_reply (parse sheet)))
  pub counts : (d : Parsed) → parse sheet ≡ given d
      → (word_of (sheet_reply (parse sheet)) % 256 ≡ machine_count d.model)
      × (word_of (sheet_reply (parse sheet)) / 256 ≡ move_count d.model)
  -- the length of a plan
  pub lengths : Apart (length_reply sheet) (word_of (length_reply sheet))
  pub plan-bytes : (n : ℕ) → length_reply sheet ≡ given n → word_of (length_reply sheet) ≡ n
  -- 0 for a plan that is written
  pub plans : (buffer scratch : ℕ) → Apart (plan_reply sheet buffer scratch) (word_of (done_reply (plan_reply sheet buffer scratch)))
  pub written : (buffer scratch : ℕ) (plan : List ℕ) → plan_reply sheet buffer scratch ≡ given plan
      → word_of (done_reply (plan_reply sheet buffer scratch)) ≡ 0
  -- 0 for done, and no command tells 0
  pub commands : (plan state goal : List ℕ)
      → Apart (next_reply sheet plan state goal) (word_of (command_reply (next_reply sheet plan state goal)))
  pub dones : (plan state goal : List ℕ) → (next_reply sheet plan state goal ≡ given done)
      ↔ (word_of (command_reply (next_reply sheet plan state goal)) ≡ 0)
  pub machines-sent : (plan state goal : List ℕ) (i c : ℕ) → next_reply sheet plan state goal ≡ given (command i c)
      → (word_of (command_reply (next_reply sheet plan state goal)) / 256 % 256 ≡ i)
      × (word_of (command_reply (next_reply sheet plan state goal)) % 256 ≡ c)
  -- the move, and 256 more exactly if a machine changed
  pub effects : (state : List ℕ) (machine command : ℕ)
      → Apart (effect_reply (apply_reply sheet state machine command))
      (word_of (move_reply (effect_reply (apply_reply sheet state machine command))))
  pub moves : (state : List ℕ) (machine command : ℕ) (e : Effect)
      → effect_reply (apply_reply sheet state machine command) ≡ given e
      → ((e.changed ≡ true) ↔ (256 ≤ word_of (move_reply (effect_reply (apply_reply sheet state machine command)))))
      × (word_of (move_reply (effect_reply (apply_reply sheet state machine command))) % 256 ≡ e.move)
  -- lengths of what is written
  pub cleans : (room : ℕ) → TellsLength (clean_reply sheet room)
  pub joins : (goals : List ℕ) (room : ℕ) → TellsLength (join_reply sheet goals room)
  pub draws : (room : ℕ) → TellsLength (graph_reply sheet room)

-- And of reading a picture, which has no sheet.
pub record AllApart : Type 0 where
  pub calls : (sheet : List ℕ) → ((i : ℕ) → byte sheet i < 256) → WordsRight sheet
  pub readings : (text : List ℕ) (room : ℕ) → TellsLength (read_reply text room)
