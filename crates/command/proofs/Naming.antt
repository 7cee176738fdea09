-- Who names whom among the groups of a plan in shape: a group names lower ones, which are upstream of it, and what is upstream of
-- a group is named by it or by one upstream of it. Assumes nothing.
use Prim.Native.Nat.{ℕ, zero, suc, ◌<◌}
use mathlib.Core.Path.{◌≡◌, refl, sym}
use mathlib.Core.Logic.{◌⊎◌, inl, inr, ⊎_elim}
use mathlib.Core.List.{List}
use mathlib.Core.Bool.{Bool, true}
use Rattle.common.specs.Graph.{Chain, here, step}
use Rattle.common.proofs.Graph.{chain-zero}
use Rattle.sheet.specs.Model.{Model}
use Rattle.sheet.specs.Valid.{Valid}
use Rattle.plan.specs.Groups.{group_count}
use Rattle.plan.specs.Reading.{groups_in, well_shaped}
use Rattle.plan.specs.Reading.{counted}
use Rattle.plan.proofs.Named.{named_by}
use Rattle.plan.proofs.Counted.{counted-moves}
use Rattle.command.specs.Ancestors.{group_graph, upstream_in}
use Rattle.command.specs.Kept.Question.{Names}
use Rattle.command.proofs.Shape.{move-below}
use Rattle.command.proofs.Upstream.{group_graph-names, upstream-chain, upstream-other, named-upstream}
use Rattle.command.proofs.Upstream.{upstream-below, upstream-trans}

module _ (m : Model) (valid : Valid m) (plan : List ℕ) (counts : ℕ → Bool) (shaped : well_shaped m plan ≡ true) where
  pub names-count : (c a : ℕ) → Names m plan counts c a → c < group_count (groups_in m plan)
  names-count c a l =
      let by = named_by m (groups_in m plan) c (counted m plan counts c) l in
      move-below m valid plan shaped c by.0 (counted-moves m plan counts c by.1)

  pub names-upstream : (c a : ℕ) → Names m plan counts c a → upstream_in m plan counts c a ≡ true
  names-upstream c a l = named-upstream m valid plan counts shaped c a l (names-count c a l)

  pub names-below : (c a : ℕ) → Names m plan counts c a → a < c
  names-below c a l = upstream-below m valid plan counts shaped c a (names-upstream c a l)

  -- group c is b, or upstream of it
  abbrev pub AtOrUpstream : ℕ → ℕ → Type 0
  AtOrUpstream b c = (c ≡ b) ⊎ (upstream_in m plan counts b c ≡ true)

  chain-named : {d : ℕ} (b a : ℕ) → Chain (group_graph m (groups_in m plan) (counted m plan counts)) (suc d) b a
      → (c : ℕ) × AtOrUpstream b c × Names m plan counts c a
  chain-named b a (step n l here) = (b, inl refl, group_graph-names m (groups_in m plan) (counted m plan counts) b n l)
  chain-named b a (step n l (step o h rest)) =
      let (c, way, last) = chain-named n a (step o h rest) in
      let up = names-upstream b n (group_graph-names m (groups_in m plan) (counted m plan counts) b n l) in
      (c, inr (⊎_elim (λ e. rw e up) (λ u. upstream-trans m valid plan counts shaped b n c up u) way), last)

  -- what is upstream of a group is named by it, or by one upstream of it
  pub upstream-named : (b a : ℕ) → upstream_in m plan counts b a ≡ true → (c : ℕ) × AtOrUpstream b c × Names m plan counts c a
  upstream-named b a u =
      let (d, chain) = upstream-chain m (groups_in m plan) (counted m plan counts) b a u in
      go d chain (upstream-other m (groups_in m plan) (counted m plan counts) b a u)
    where
      go : (d : ℕ) → Chain (group_graph m (groups_in m plan) (counted m plan counts)) d b a → (a ≡ b → ⊥)
          → (c : ℕ) × AtOrUpstream b c × Names m plan counts c a
      go zero chain n = absurd (n (sym (chain-zero chain)))
      go (suc d) chain n = chain-named b a chain
