-- The edges of a text, read group by group.
-- Assumes nothing.
use Prim.Native.Nat.{ℕ, suc, ◌+◌, ◌-◌, ◌≤◌, ◌<◌}
use mathlib.Core.Path.{◌≡◌, sym, ap, ◌∙◌}
use mathlib.Core.Logic.{⊎_elim}
use mathlib.Core.List.{List, ◌++◌, flat_map, append_assoc}
use mathlib.Core.Bool.{Bool}
use native.Mathlib.Nat.{le_antisymm}
use native.Mathlib.Numerals.{add-one}
use native.Mathlib.Omega.{arith}
use lib.ListN.{length, get_or, set, length-set}
use lib.Seq.{get_or-set_same, get_or-set_other}
use Rattle.common.specs.Bits.{bit}
use Rattle.common.specs.Lists.{up_to, filter}
use Rattle.common.proofs.Least.{last-or-below}
use Rattle.common.proofs.Members.{up_to-below}
use Rattle.common.proofs.Sums.{flat_map-cong, flat_map-up_to-more}
use Rattle.sets.specs.Kept.Sets.{elements}
use Rattle.picture.specs.declared.matching.Row.{Row}
use Rattle.picture.specs.Text.{last_line, line_start}
use Rattle.picture.specs.Kept.Matched.{Spans, Joined, RowRead, EdgesStand, Drawn, EdgesRead}
use Rattle.picture.specs.Kept.Rows.{arrow, edges_of}
use Rattle.picture.proofs.Apart.{no-line-opens}
use Rattle.picture.proofs.Spanning.{spans-none, spans-then, pieces-next, pieces_end}

-- the edges from each group that a relation draws
abbrev rows_by : (ℕ → ℕ → Bool) → ℕ → ℕ → List ℕ
rows_by rel n a = edges_of a (filter (rel a) (up_to n))

module _ (text : List ℕ) (at n : ℕ) where
  pub record EdgesUpto (size : ℕ) (targets : List ℕ) (a end : ℕ) : Type 0 where
    pub inside : a ≤ n
    pub room : length targets ≡ size
    pub stand : EdgesStand text at n targets a end
    pub same : (rel : ℕ → ℕ → Bool) → Drawn text at n rel → (b : ℕ) → b < a
        → elements (get_or targets b 0) ≡ filter (rel b) (up_to n)

  pub edges_none : {size : ℕ} {targets : List ℕ} → length targets ≡ size → at ≤ length text → EdgesUpto size targets 0 at
  unfolding up_to flat_map
  edges_none s l =
      record {
        inside = omega arith;
        room = s;
        stand = record { below = λ a j h. absurd (let f : ⊥ = omega arith in f); spans = spans-none l };
        same = λ rel d b h. absurd (let f : ⊥ = omega arith in f);
      }

  module _ {size : ℕ} {targets : List ℕ} {a end : ℕ} (u : EdgesUpto size targets a end) where
    spans-same : (rel : ℕ → ℕ → Bool) → Drawn text at n rel → Spans text at (flat_map (rows_by rel n) (up_to a)) end
    spans-same rel d =
        let e = flat_map-cong (λ b. edges_of b (elements (get_or targets b 0))) (rows_by rel n) (up_to a) (λ b b-in.
        ap (edges_of b) (u.same rel d b (up_to-below a b-in))) in
        rw e at u.stand.spans

    pub edges-end : n ≤ a → EdgesRead text at n targets end
    edges-end l =
        let e : a ≡ n = le_antisymm u.inside l in
        record {
          stand = rw e at u.stand;
          only = λ rel d. pieces_end (rows_by rel n) n a last_line (spans-same rel d) d e;
        }

    module _ (l : a < n) (few : n ≤ 32) where
      -- the next row is that of the relation
      next-joined : (rel : ℕ → ℕ → Bool) → Drawn text at n rel
          → Joined text end a n (rel a) (flat_map (λ j. rows_by rel n (suc a + j)) (up_to (n - suc a)) ++ last_line)
      next-joined rel d =
          record {
            stands = pieces-next (rows_by rel n) n a last_line (spans-same rel d) d l;
            closed = λ more e.
                no-line-opens a 45 _ (omega arith) (λ j. suc a + j) (λ j. filter (rel (suc a + j)) (up_to n))
                (up_to (n - suc a)) (λ j j-in. (let h = up_to-below (n - suc a) j-in in omega arith, λ same x. omega arith))
                (e ∙ append_assoc (line_start a) arrow more);
          }

      pub edges-stop : ((q : ℕ → Bool) (rest : List ℕ) → Joined text end a n q rest → ⊥)
          → (rel : ℕ → ℕ → Bool) → Drawn text at n rel → ⊥
      edges-stop none rel d = none _ _ (next-joined rel d)

      pub edges-next : {r : Row} → RowRead text end a n r → n ≤ size
          → EdgesUpto size (set targets a r.targets) (a + 1) r.end
      edges-next {r} found room = rw (add-one a) next
        where
          after : List ℕ
          after = set targets a r.targets

          here : get_or after a 0 ≡ r.targets
          here = get_or-set_same targets a r.targets 0 (omega (arith, u.room))

          other : (b : ℕ) → b < a → get_or after b 0 ≡ get_or targets b 0
          other b h = get_or-set_other targets a b r.targets 0 (λ e. omega arith)

          next : EdgesUpto size after (suc a) r.end
          next =
              record {
                inside = l;
                room = length-set targets a r.targets ∙ u.room;
                stand = record {
                  below = λ b j h j-in.
                      ⊎_elim
                      (λ (e : b ≡ a). found.below j (sym (ap (λ s. bit s j) (ap (λ i. get_or after i 0) e ∙ here)) ∙ j-in))
                      (λ (s : b < a). u.stand.below b j s (sym (ap (λ s. bit s j) (other b s)) ∙ j-in))
                      (last-or-below h);
                  spans =
                      let rows = flat_map-up_to-more (λ b. edges_of b (elements (get_or targets b 0)))
                      (λ b. edges_of b (elements (get_or after b 0))) a (λ b h. ap (λ s. edges_of b (elements s)) (other b h)) in
                      rw rows (spans-then u.stand.spans (rw here (found.spans)));
                };
                same = λ rel d b h.
                    ⊎_elim
                    (λ (e : b ≡ a). rw e (ap elements here ∙ found.only (rel a) _ (next-joined rel d)))
                    (λ (s : b < a). ap elements (other b s) ∙ u.same rel d b s)
                    (last-or-below h);
              }
