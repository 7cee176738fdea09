-- What the code's answers say in document 01's terms.
use Rattle.std.specs.Prelude.{ℕ, List, Result, Ok, Err}
use Rattle.common.specs.Reply.{Reply, given, refused}
use Rattle.sheet.specs.Refusal.{number_of}
use Rattle.sheet.specs.declared.refusal.Refusal.{Refusal}

-- planning: a plan was written, or the refusal
abbrev pub planned_of : Result Unit Refusal → Reply (Unit {0})
planned_of (Ok u) = given tt
planned_of (Err r) = refused (number_of r.cause) r.place

-- a reply without the plan itself, which is in the buffer
abbrev pub told_reply : Reply (List ℕ) → Reply (Unit {0})
told_reply (given plan) = given tt
told_reply (refused number place) = refused number place
