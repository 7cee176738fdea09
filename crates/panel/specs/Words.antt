-- The 64-bit replies of the C interface: above the refusal's number, or 0; below its place, or the value.
use Rattle.std.specs.Prelude.{ℕ, ◌+◌, ◌*◌, List, cond}
use Rattle.common.specs.Reply.{Reply, given, refused}
use Rattle.sheet.specs.Model.{machine_count, move_count}
use Rattle.sheet.specs.Parse.{Parsed}
use Rattle.command.specs.Next.{Next, done, command}
use Rattle.command.specs.Apply.{Effect}

abbrev pub word_of : Reply ℕ → ℕ
word_of (given value) = value
word_of (refused number place) = 4294967296 * number + place

-- checking a sheet: 256 × moves + machines
abbrev pub sheet_reply : Reply Parsed → Reply ℕ
sheet_reply (given d) = given (256 * move_count d.model + machine_count d.model)
sheet_reply (refused number place) = refused number place

-- planning: 0, the plan being in the lent buffer
abbrev pub done_reply : Reply (List ℕ) → Reply ℕ
done_reply (given plan) = given 0
done_reply (refused number place) = refused number place

-- next command: 0 for done, else 65536 + 256 × machine + command
abbrev pub command_reply : Reply Next → Reply ℕ
command_reply (given done) = given 0
command_reply (given (command machine byte)) = given (65536 + 256 * machine + byte)
command_reply (refused number place) = refused number place

-- applying: 256 + the move if a machine changed, else 255
abbrev pub move_reply : Reply Effect → Reply ℕ
move_reply (given e) = given (cond e.changed (256 + e.move) 255)
move_reply (refused number place) = refused number place
