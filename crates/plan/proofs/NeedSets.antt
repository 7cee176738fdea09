-- The loop of `needed`: after v moves the sets hold the needs of those moves, and in the end the graph of needs.
-- Assumes nothing.
use Prim.Native.Nat.{ℕ, ◌+◌, ◌^◌, ◌≤◌, ◌<◌}
use mathlib.Core.Path.{◌≡◌, refl, sym, subst, ◌∙◌}
use mathlib.Core.List.{List, Memᴰ}
use mathlib.Core.Bool.{Bool, true, ◌&&◌}
use native.Mathlib.Numerals.{add-one}
use native.Mathlib.Omega.{arith}
use borrow.Author.Tests.{eqb-true, eq-eqb}
use lib.Dec.{eqb}
use lib.ListN.{length, get_or, set, take, replicate, length-set}
use lib.Seq.{take-suc, take_all}
use Rattle.common.specs.Bits.{bit}
use Rattle.common.specs.Lists.{any}
use Rattle.common.specs.Graph.{successors}
use Rattle.common.proofs.Bits.{bit_below, small-beyond}
use Rattle.common.proofs.Bools.{bool-ext, and_left, and_right}
use Rattle.common.proofs.Lists.{any-intro, any_some}
use Rattle.common.proofs.Members.{mem-get_or}
use Rattle.common.proofs.Pad.{get_or-zeros}
use Rattle.common.proofs.Snoc.{any_snoc}
use Rattle.sets.specs.Kept.Sets.{union}
use Rattle.sets.proofs.Laws.{bit-none}
use Rattle.sets.proofs.Joined.{bit-joined}
use Rattle.search.specs.Kept.Search.{Holds}
use Rattle.sheet.specs.Record.{byte, body_at}
use Rattle.sheet.specs.Model.{Move, Model, machine_count, move_count, move_at, absent_move, move_of}
use Rattle.sheet.specs.Valid.{Valid}
use Rattle.sheet.specs.Kept.Indexed.{Listed}
use Rattle.sheet.proofs.Indexed.{listed-present, listed-move, listed-machine}
use Rattle.plan.specs.Needs.{names, needs, need_graph}
use Rattle.plan.specs.Kept.MachineSets.{NamedIn}
use Rattle.plan.proofs.Named.{move-valid, guard-valid}
use Rattle.plan.proofs.Words.{needs-means}
use Rattle.plan.proofs.Needs.{length-need_graph, need-successor, successor-need}

-- move v is one of machine i, and names j
abbrev need_by : ℕ → ℕ → Move → Bool
need_by i j v = eqb v.machine i && names v j

-- the sets hold the needs of the moves before v
pub record NeedsRead (m : Model) (v : ℕ) (next : List ℕ) : Type 0 where
  pub long : length next ≡ 64
  pub bits : (i j : ℕ) → bit (get_or next i 0) j ≡ any (need_by i j) (take v m.moves)

pub reads_none : (m : Model) → NeedsRead m 0 (replicate 64 0)
unfolding any
reads_none m = record { long = refl; bits = λ i j. rw (get_or-zeros, bit-none) }

module _ (m : Model) {v k t : ℕ} (u : ℕ) {next : List ℕ} where
  pub reads-next : NeedsRead m v next → v < move_count m → k < 64 → k ≡ (move_at m v).machine
      → ((j : ℕ) → bit u j ≡ names (move_at m v) j) → t ≡ union (get_or next k 0) u → NeedsRead m (v + 1) (set next k t)
  unfolding any
  reads-next r h small e named d =
      record {
        long = length-set next k t ∙ r.long;
        bits = λ i j.
            rw (
              d,
              bit-joined next k u i j (omega (arith, r.long)),
              named j,
              r.bits i j,
              add-one,
              take-suc m.moves v absent_move h,
              any_snoc,
              ← e,
            );
      }

-- In a valid sheet, needs are between its machines

module _ {m : Model} (valid : Valid m) where
  pub named-present : {v : Move} (j : ℕ) → Memᴰ v m.moves → names v j ≡ true → j < machine_count m
  unfolding names
  named-present {v} j v-in t =
      let (g, g-in, e) = any_some _ v.guards t in
      omega (arith, eqb-true g.machine j e, (guard-valid valid v-in g-in).present)

  pub named-bits : (v : ℕ) {u : ℕ} → v < move_count m → NamedIn (move_at m v) u → u < 2 ^ 64
      → (j : ℕ) → bit u j ≡ names (move_at m v) j
  named-bits v {u} h n f j =
      let v-in = mem-get_or m.moves v absent_move h in
      bool-ext
      (λ t. sym (n.bits j (bit_below 64 u j (small-beyond 64 u f) t)) ∙ t)
      (λ t. n.bits j (omega (arith, named-present j v-in t, valid.few-machines)) ∙ t)

  pub needs-present : (i j : ℕ) → needs m i j ≡ true → (i < machine_count m) × (j < machine_count m)
  unfolding needs
  needs-present i j t =
      let (v, v-in, both) = any_some _ m.moves t in
      let e = eqb-true v.machine i (and_left _ _ both) in
      (omega (arith, (move-valid valid v-in).present), named-present j v-in (and_right (eqb v.machine i) _ both))

  successor-needs : (p q : ℕ) → any (eqb q) (successors (need_graph m) p) ≡ needs m p q
  successor-needs p q =
      bool-ext
      (λ t.
      let (r, l, e) = any_some (eqb q) _ t in
      rw (eqb-true q r e) ((needs-means m p r).1 (successor-need m p l).2))
      (λ t.
      let (hp, hq) = needs-present p q t in
      any-intro (eqb q) (need-successor m hp hq ((needs-means m p q).0 t)) (eq-eqb q q refl))

  pub reads_end : {v : ℕ} {next : List ℕ} → NeedsRead m v next → move_count m ≤ v → Holds (need_graph m) next
  unfolding needs
  reads_end {v} r h =
      record {
        small = omega (arith, length-need_graph m, valid.few-machines);
        inside = λ p q l. rw length-need_graph (successor-need m p l).1;
        bits = λ p q. r.bits p q ∙ rw (take_all v m.moves h) (sym (successor-needs p q));
      }

-- One turn, by what its calls ensure

module _ {file places : List ℕ} {m : Model} (l : Listed m file places) (valid : Valid m) {v : ℕ} (h : v < length places)
    {b : List ℕ} (e : b ≡ body_at file (get_or places v 0)) {k : ℕ} (f : k ≡ byte b 0) where
  pub turn-fits : k < 64
  turn-fits = omega (arith, listed-machine l h e, (valid.moves-valid v (listed-present l h)).present, valid.few-machines)

  pub turn-reads : {u t : ℕ} {next : List ℕ} → NeedsRead m v next → NamedIn (move_of b) u → u < 2 ^ 64
      → t ≡ union (get_or next k 0) u → NeedsRead m (v + 1) (set next k t)
  turn-reads {u} r n few =
      reads-next m u r (listed-present l h) turn-fits (f ∙ listed-machine l h e)
      (named-bits valid v (listed-present l h) (subst (λ w. NamedIn w u) (listed-move l h e) n) few)
