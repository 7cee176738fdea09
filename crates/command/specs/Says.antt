-- What the code's answers say in document 01's terms.
use Rattle.std.specs.Prelude.{ℕ, true, false, Option, Some, None, Result, Ok, Err}
use Rattle.common.specs.Reply.{Reply, given, refused}
use Rattle.sheet.specs.Refusal.{number_of}
use Rattle.sheet.specs.declared.index.Move.{Move}
use Rattle.sheet.specs.declared.refusal.Refusal.{Refusal}
use Rattle.command.specs.declared.method.Command.{Command}
use Rattle.command.specs.Apply.{Effect}
use Rattle.command.specs.Next.{Next, done, command}

-- next command: done, a machine and a command byte, or the refusal
abbrev pub advice_says : Result (Option Command) Refusal → Reply Next
advice_says (Ok None) = given done
advice_says (Ok (Some c)) = given (command c.machine.0 c.byte)
advice_says (Err r) = refused (number_of r.cause) r.place

-- the number of the move that was made, 255 for none
abbrev pub move_made : Option Move → ℕ
move_made (Some move) = move.0
move_made None = 255

-- applying a command: whether a machine changed, by which move, or the refusal
abbrev pub change_says : Result (Option Move) Refusal → Reply Effect
change_says (Ok (Some move)) = given (record { changed = true; move = move.0 })
change_says (Ok None) = given (record { changed = false; move = 255 })
change_says (Err r) = refused (number_of r.cause) r.place
