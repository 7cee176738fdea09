-- The edges from a group, read one after the other.
-- Assumes nothing.
use Prim.Native.Nat.{ℕ, ◌+◌, ◌*◌, ◌-◌, ◌^◌, ◌≤◌, ◌<◌}
use mathlib.Core.Path.{◌≡◌, refl, sym, ap, ◌∙◌}
use mathlib.Core.List.{List, [], ◌∷◌, ◌++◌, append_assoc, append-nil}
use mathlib.Core.Bool.{Bool, true, false}
use native.Mathlib.Omega.{arith}
use mir.Val.{Fits}
use mir.Syntax.{w64}
use lib.ListN.{length, drop, length-append}
use Rattle.common.specs.Bits.{bit}
use Rattle.common.specs.Lists.{up_to, filter}
use Rattle.common.proofs.Bools.{true-false}
use Rattle.decimal.specs.Decimal.{decimal, starts_with}
use Rattle.decimal.proofs.Exact.{starts-rest}
use Rattle.sets.specs.Kept.Sets.{alone, union, elements}
use Rattle.sets.proofs.Laws.{bit-none}
use Rattle.sets.proofs.Members.{elements-none}
use Rattle.picture.specs.declared.matching.Number.{Number}
use Rattle.picture.specs.Picture.{edge}
use Rattle.picture.specs.Text.{line_start, edge_line}
use Rattle.picture.specs.Kept.Matched.{Spans, Numbered, NumberRead, Joined, RowRead}
use Rattle.picture.specs.Kept.Rows.{arrow, edge_end, edges_of}
use Rattle.picture.proofs.LineParts.{edge_start, row-parts, row-none, row_snoc}
use Rattle.picture.proofs.Rising.{elements-more, grown-below, next-below, next-rises}
use Rattle.picture.proofs.Spanning.{starts-there, behind, spans-none, spans-then, spans-bytes, spans-rest}

module _ (text : List ℕ) (at a n : ℕ) where
  -- of the targets that can stand there, those that are still to come
  pub record RowLeft (targets end : ℕ) (q : ℕ → Bool) (rest : List ℕ) : Type 0 where
    pub todo : List ℕ
    pub all_are : filter q (up_to n) ≡ elements targets ++ todo
    pub stand : drop end text ≡ edges_of a todo ++ rest

  pub record RowUpto (targets end : ℕ) : Type 0 where
    pub below : (k : ℕ) → bit targets k ≡ true → k < n
    pub spans : Spans text at (edges_of a (elements targets)) end
    pub left : (q : ℕ → Bool) (rest : List ℕ) → Joined text at a n q rest → RowLeft targets end q rest

  pub row-start : at ≤ length text → RowUpto 0 at
  row-start l =
      record {
        below = λ k t. absurd (true-false t (bit-none k));
        spans = rw (elements-none, row-none a) (spans-none l);
        left = λ q rest j. record { todo = filter q (up_to n); all_are = rw elements-none refl; stand = j.stands };
      }

  module _ {targets end : ℕ} (u : RowUpto targets end) where
    abbrev opens : Bool
    opens = starts_with (edge_start a) (drop end text)

    -- No edge more

    ended : opens ≡ false → (q : ℕ → Bool) (rest : List ℕ) → Joined text at a n q rest
        → elements targets ≡ filter q (up_to n)
    ended f q rest j =
        let left = u.left q rest j in
        among left.todo left.all_are left.stand
      where
        among : (todo : List ℕ) → filter q (up_to n) ≡ elements targets ++ todo → drop end text ≡ edges_of a todo ++ rest
            → elements targets ≡ filter q (up_to n)
        among [] all_are stand = sym (all_are ∙ append-nil (elements targets))
        among (k ∷ todo) all_are stand =
            absurd (true-false (starts-there (edge_start a) _ (stand ∙ row-parts a k todo rest)) f)

    pub row_ends : {o : Bool} → o ≡ opens → o ≡ false
        → RowRead text at a n (record { targets = targets; end = end })
    row_ends e f = record { below = u.below; spans = u.spans; only = ended (sym e ∙ f) }

    -- An edge more

    module _ {o : Bool} (e : o ≡ opens) (t : o ≡ true) {width : ℕ} (w : width ≡ length (decimal a)) where
      place : end + (8 + width) ≡ end + length (edge_start a)
      unfolding line_start
      place = omega (arith, length-append (line_start a) arrow)

      head : Spans text end (edge_start a) (end + (8 + width))
      head = rw place (spans-bytes (edge_start a) u.spans.inside (sym e ∙ t))

      pub row_inside : end + (8 + width) ≤ length text
      row_inside = head.inside

      pub head-room : length text * 1 < 2 ^ 63 → Fits w64 (end + (8 + width))
      head-room l = omega (arith, row_inside)

      -- the next that can stand there
      record Coming (q : ℕ → Bool) (rest : List ℕ) : Type 0 where
        number : ℕ
        todo : List ℕ
        all_are : filter q (up_to n) ≡ elements targets ++ (number ∷ todo)
        there : Numbered text (end + (8 + width)) targets n number (edge_end ++ (edges_of a todo ++ rest))

      module _ (small : n ≤ 64) where
        coming : (q : ℕ → Bool) (rest : List ℕ) → Joined text at a n q rest → Coming q rest
        coming q rest j =
            let left = u.left q rest j in
            among left.todo left.all_are left.stand
          where
            among : (todo : List ℕ) → filter q (up_to n) ≡ elements targets ++ todo
                → drop end text ≡ edges_of a todo ++ rest → Coming q rest
            among [] all_are stand =
                let opened = starts-rest (edge_start a) (drop end text) (sym e ∙ t) in
                absurd (j.closed _ (sym (stand ∙ ap (λ r. r ++ rest) (row-none a)) ∙ opened))
            among (i ∷ todo) all_are stand =
                record {
                  number = i;
                  todo = todo;
                  all_are = all_are;
                  there = record {
                    below = next-below q n targets i todo all_are;
                    above = next-rises q n targets i todo all_are (λ k b. let l = u.below k b in omega arith);
                    ends = λ l x y. omega arith;
                    stands = spans-rest head (stand ∙ row-parts a i todo rest);
                  };
                }

        pub row-stops : ((i : ℕ) (rest : List ℕ) → Numbered text (end + (8 + width)) targets n i rest → ⊥)
            → (q : ℕ → Bool) (rest : List ℕ) → Joined text at a n q rest → ⊥
        row-stops none q rest j = none _ _ (coming q rest j).there

        module _ {r : Number} (found : NumberRead text (end + (8 + width)) targets n r) where
          -- the number that was read is the next that can stand there
          record Next (q : ℕ → Bool) (rest : List ℕ) : Type 0 where
            todo : List ℕ
            all_are : filter q (up_to n) ≡ elements targets ++ (r.value ∷ todo)
            stand : drop r.end text ≡ edge_end ++ (edges_of a todo ++ rest)

          next-is : (q : ℕ → Bool) (rest : List ℕ) → Joined text at a n q rest → Next q rest
          next-is q rest j =
              let next = coming q rest j in
              let same : r.value ≡ next.number = found.only next.number _ next.there in
              record {
                todo = next.todo;
                all_are = rw same next.all_are;
                stand = spans-rest found.spans (rw same next.there.stands);
              }

          abbrev closes : Bool
          closes = starts_with edge_end (drop r.end text)

          pub row_other : {b : Bool} → b ≡ closes → b ≡ false
              → (q : ℕ → Bool) (rest : List ℕ) → Joined text at a n q rest → ⊥
          row_other is f q rest j = true-false (is ∙ starts-there edge_end _ (next-is q rest j).stand) f

          pub row_small : r.value < 64
          row_small = omega (arith, found.below)

          pub row_within : r.end ≤ length text
          row_within = found.spans.inside

          pub row_room : length text * 1 < 2 ^ 63 → Fits w64 (r.end + 2)
          row_room l = omega (arith, row_within)

          pub row-less : length text - (r.end + 2) < length text - end
          row-less = let s = found.spans in omega (arith, s.place, s.inside)

          line-spans : closes ≡ true → Spans text end (edge_line (edge a r.value)) (r.end + 2)
          unfolding edge_line
          line-spans c =
              rw (sym (append_assoc (line_start a) arrow (decimal r.value)))
              (spans-then (spans-then head found.spans) (spans-bytes edge_end found.spans.inside c))

          pub row_next : {b : Bool} {targets' : ℕ} → b ≡ closes → b ≡ true
              → targets' ≡ union targets (alone r.value) → RowUpto targets' (r.end + 2)
          row_next {targets' = targets'} is c m =
              let l = found.below in
              let now-are : elements targets' ≡ elements targets ++ (r.value ∷ []) =
              ap elements m ∙ elements-more targets r.value (omega arith) found.above in
              record {
                below = grown-below targets u.below l m;
                spans = rw (now-are, row_snoc a r.value (elements targets)) (spans-then u.spans (line-spans (sym is ∙ c)));
                left = λ q rest j.
                    let next = next-is q rest j in
                    record {
                      todo = next.todo;
                      all_are = next.all_are
                          ∙ sym (ap (λ ks. ks ++ next.todo) now-are
                          ∙ append_assoc (elements targets) (r.value ∷ []) next.todo);
                      stand = behind text r.end edge_end next.stand;
                    };
              }
