-- What the lines of edges say: which groups are joined, and nothing else.
-- Assumes nothing.
use Prim.Native.Nat.{ℕ, ◌<◌}
use mathlib.Core.Path.{◌≡◌, refl, sym, ap, subst, ◌∙◌}
use mathlib.Core.List.Memᴰ.{head}
use mathlib.Core.List.Memᴰ.{tail}
use mathlib.Core.List.{List, [], ◌∷◌, flat_map, Memᴰ}
use mathlib.Core.Bool.{false, ◌||◌, or-false, or_assoc}
use native.Mathlib.Omega.{arith}
use Rattle.common.specs.Lists.{any}
use Rattle.decimal.specs.Meaning.{NoDigitFirst}
use Rattle.picture.specs.Picture.{Edge}
use Rattle.picture.specs.Text.{line_start, edge_line}
use Rattle.picture.specs.Reading.{Said, and_group, said_after}
use Rattle.picture.proofs.Edges.{leads}
use Rattle.picture.proofs.Saying.{said-append, break-flat_map, said-edge}

-- s and then the edges
pub record Joined (s : Said) (edges : List Edge) (t : Said) : Type 0 where
  pub machines : t.machines ≡ s.machines
  pub group : (i : ℕ) → t.group i ≡ s.group i
  pub joined : (a k : ℕ) → t.joined a k ≡ (s.joined a k || any (leads a k) edges)

edge-break : (e : Edge) → NoDigitFirst (edge_line e)
unfolding edge_line line_start
edge-break e l a b = omega arith

pub edges-break : (edges : List Edge) → NoDigitFirst (flat_map edge_line edges)
edges-break edges = break-flat_map edge_line edges edge-break

no-edge-said : (s : Said) → Joined s [] s
unfolding any
no-edge-said s = record { machines = refl; group = λ i. refl; joined = λ a k. sym (or-false (s.joined a k)) }

-- source and target of one edge, where none waits
module _ (s : Said) (e : Edge) (still : s.waits ≡ false) where
  abbrev after : Said
  after = and_group (and_group s e.source) e.target

  after-still : after.waits ≡ false
  unfolding and_group
  after-still = rw still

  joined-more : {edges : List Edge} {t : Said} → Joined after edges t → Joined s (e ∷ edges) t
  unfolding and_group any
  joined-more {edges} {t} j =
      record {
        machines = j.machines;
        group = j.group;
        joined = λ a k.
            j.joined a k
            ∙ rw (still, or-false (s.joined a k)) (or_assoc (s.joined a k) (leads a k e) (any (leads a k) edges));
      }

pub said-edges : (edges : List Edge) (s : Said) → s.waits ≡ false
    → ((e : Edge) → Memᴰ e edges → (e.source < 65536) × (e.target < 65536))
    → Joined s edges (said_after 0 (flat_map edge_line edges) s)
unfolding flat_map said_after
said-edges [] s still small = no-edge-said s
said-edges (e ∷ edges) s still small =
    let own = small e (head refl) in
    let same = said-append 0 (edge_line e) (flat_map edge_line edges) s (edges-break edges)
    ∙ ap (said_after 0 (flat_map edge_line edges)) (said-edge e s own.0 own.1) in
    subst (Joined s (e ∷ edges)) (sym same)
    (joined-more s e still (said-edges edges (after s e still) (after-still s e still) (λ d m. small d (tail m))))
