-- Request L8: an amended sheet gets the replies of its clean sheet, from every call.
use Rattle.std.specs.Prelude.{ℕ, ◌≡◌, List}
use Rattle.common.specs.Reply.{given}
use Rattle.sheet.specs.Parse.{parse}
use Rattle.plan.specs.Planning.{length_reply, plan_reply}
use Rattle.command.specs.Next.{next_reply}
use Rattle.command.specs.Apply.{apply_reply}
use Rattle.command.specs.Walk.{walk_lines}
use Rattle.clean.specs.Clean.{clean_reply}
use Rattle.joining.specs.Join.{join_reply}
use Rattle.picture.specs.Graph.{graph_reply}
use Rattle.panel.specs.Words.{sheet_reply}

-- the replies of every call that takes a sheet, whatever else is lent, and the lines of the walk
pub record RepliesAlike (sheet other : List ℕ) : Type 0 where
  pub sheets : sheet_reply (parse sheet) ≡ sheet_reply (parse other)
  pub lengths : length_reply sheet ≡ length_reply other
  pub plans : (buffer scratch : ℕ) → plan_reply sheet buffer scratch ≡ plan_reply other buffer scratch
  pub commands : (plan state goal : List ℕ) → next_reply sheet plan state goal ≡ next_reply other plan state goal
  pub effects : (state : List ℕ) (machine command : ℕ)
      → apply_reply sheet state machine command ≡ apply_reply other state machine command
  pub cleans : (room : ℕ) → clean_reply sheet room ≡ clean_reply other room
  pub joins : (goals : List ℕ) (room : ℕ) → join_reply sheet goals room ≡ join_reply other goals room
  pub draws : (room : ℕ) → graph_reply sheet room ≡ graph_reply other room
  pub walks : (state goal : List ℕ) → walk_lines sheet state goal ≡ walk_lines other state goal

abbrev pub AmendedSame : Type 0
AmendedSame = (sheet clean : List ℕ) (room : ℕ) → clean_reply sheet room ≡ given clean → RepliesAlike sheet clean
