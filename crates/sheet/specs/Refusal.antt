-- Document 01's number for each cause of the table "Why a call is turned down"; and what the code's answers say.
use Rattle.std.specs.Prelude.{ℕ, Result, Ok, Err}
use Rattle.common.specs.Reply.{Reply, given, refused}
use Rattle.sheet.specs.declared.refusal.Refusal.{Refusal}
use Rattle.sheet.specs.declared.refusal.Cause.{Cause}
use Rattle.sheet.specs.declared.refusal.Cause.TheVariants.{
  CutShort,
  WrongKind,
  TrailingBytes,
  Misplaced,
  BadMachine,
  BadMove,
  BadGuard,
  BadCommand,
  LargeGroup,
  LargePlan,
  LargeBound,
  WrongBuffer,
  BadState,
  BadGoal,
  BadPlan,
  NotLive,
  NoRoute,
  DeadEnd,
  NoSharedMode,
  NotAPicture,
  Unamendable,
}

abbrev pub number_of : Cause → ℕ
number_of CutShort = 1
number_of WrongKind = 2
number_of TrailingBytes = 3
number_of Misplaced = 4
number_of BadMachine = 5
number_of BadMove = 6
number_of BadGuard = 7
number_of BadCommand = 8
number_of LargeGroup = 9
number_of LargePlan = 10
number_of LargeBound = 11
number_of WrongBuffer = 12
number_of BadState = 13
number_of BadGoal = 14
number_of BadPlan = 15
number_of NotLive = 16
number_of NoRoute = 17
number_of DeadEnd = 18
number_of NoSharedMode = 19
number_of NotAPicture = 20
number_of Unamendable = 21

-- a refusal by its cause and place
abbrev pub refusal : Cause → ℕ → Refusal
refusal cause place = record { cause = cause; place = place }

-- a test of lent bytes: they pass, or the refusal
abbrev pub verdict_says : Result Unit Refusal → Reply Unit
verdict_says (Ok u) = given tt
verdict_says (Err r) = refused (number_of r.cause) r.place

-- a plan's length, and any output's: so many bytes, or the refusal
abbrev pub measured_of : Result ℕ Refusal → Reply ℕ
measured_of (Ok n) = given n
measured_of (Err r) = refused (number_of r.cause) r.place
