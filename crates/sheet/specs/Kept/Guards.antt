-- What a step through the guards of a move gives.
use Rattle.std.specs.Prelude.{◌≡◌, ℕ, ◌+◌, ◌≤◌, ◌<◌, List, length, Option, MatchOption}
use Rattle.sheet.specs.declared.guard.Guard.{Guard}
use Rattle.sheet.specs.declared.guard.Guards.{Guards}
use Rattle.sheet.specs.Record.{byte}

-- a guard that stands at a place of a body, and the place behind it
pub record GuardAt (body : List ℕ) (at : ℕ) (g : Guard) (next : ℕ) : Type 0 where
  pub inside : at + 1 < length body
  pub machine : g.machine.0 ≡ byte body at
  pub mask : g.mask ≡ byte body (at + 1)
  pub behind : next ≡ at + 2

-- a step gives the guard at the place, if there is one
pub record GivesGuard (g : Guards) (r : Option Guard) (g' : Guards) : Type 0 where
  pub same : g'.body ≡ g.body
  pub guard : MatchOption r (length g.body.now ≤ g.at + 1) (λ x. GuardAt g.body.now g.at x g'.at)
