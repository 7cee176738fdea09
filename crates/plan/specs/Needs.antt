-- "Groups and their modes": which machines a machine needs, and which it reaches through others.
use Rattle.std.specs.Prelude.{ℕ, ◌<◌, ◌≡◌, Bool, ◌&&◌, eqb}
use mathlib.Core.List.{map, Memᴰ}
use Rattle.common.specs.Lists.{up_to, any, filter}
use Rattle.common.specs.Graph.{Graph}
use Rattle.sheet.specs.Model.{Guard, Move, Model, machine_count}

-- move v names machine j
unfoldable pub names : Move → ℕ → Bool
names v j = any (λ g. eqb g.machine j) v.guards

-- machine i needs j: a move of i names j
unfoldable pub needs : Model → ℕ → ℕ → Bool
needs m i j = any (λ v. eqb v.machine i && names v j) m.moves

-- for each machine, those that it needs
unfoldable pub need_graph : Model → Graph
need_graph m = map (λ i. filter (needs m i) (up_to (machine_count m))) (up_to (machine_count m))

-- What it means. Machine i needs j: some move of i has a need on j.
pub record Needs (m : Model) (i j : ℕ) : Type 0 where
  pub move : Move
  pub listed : Memᴰ move m.moves
  pub its_own : move.machine ≡ i
  pub need : Guard
  pub among : Memᴰ need move.guards
  pub on : need.machine ≡ j

-- machine i reaches j, directly or through others, or is j
pub data Reaches (m : Model) : ℕ → ℕ → Type 0 where
  itself : {i : ℕ} → Reaches m i i
  through : {i j : ℕ} (k : ℕ) → k < machine_count m → Needs m i k → Reaches m k j → Reaches m i j
