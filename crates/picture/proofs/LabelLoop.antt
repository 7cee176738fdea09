-- The machines of a label, read one after the other.
-- Assumes nothing.
use Prim.Native.Nat.{ℕ, ◌+◌, ◌*◌, ◌-◌, ◌^◌, ◌≤◌, ◌<◌}
use mathlib.Core.Path.{◌≡◌, refl, sym, ap, ◌∙◌}
use mathlib.Core.List.{List, [], ◌∷◌, ◌++◌, append_assoc, append-nil}
use mathlib.Core.Bool.{Bool, true, false}
use native.Mathlib.Omega.{arith}
use borrow.Author.Tests.{eqb-true, eqb-false}
use mir.Val.{Fits}
use mir.Syntax.{w64}
use lib.Dec.{eqb}
use lib.ListN.{length, get_or, drop, length-append}
use Rattle.common.specs.Bits.{bit}
use Rattle.common.specs.Lists.{up_to, filter}
use Rattle.common.proofs.Bools.{true-false}
use Rattle.decimal.specs.Decimal.{decimal, starts_with}
use Rattle.sets.specs.Kept.Sets.{alone, union, elements}
use Rattle.sets.proofs.Laws.{bit-none}
use Rattle.sets.proofs.Members.{elements-none}
use Rattle.picture.specs.declared.matching.Number.{Number}
use Rattle.picture.specs.Text.{labels}
use Rattle.picture.specs.Kept.Matched.{Spans, Numbered, NumberRead, Labelled, LabelRead}
use Rattle.picture.specs.Kept.Rows.{label_end}
use Rattle.picture.proofs.LineParts.{separator, labels-snoc, separator-snoc, separator-some, separator-later}
use Rattle.picture.proofs.LineParts.{label-breaks}
use Rattle.picture.proofs.Rising.{elements-more, grown-below, next-below, next-rises}
use Rattle.picture.proofs.Spanning.{starts-there, behind, byte-there, byte_inside}
use Rattle.picture.proofs.Spanning.{spans-none, spans-then, spans-bytes, spans-byte, spans-rest}

module _ (text : List ℕ) (at : ℕ) where
  -- of the numbers that can stand there, those that are still to come
  pub record LabelLeft (machines end : ℕ) (q : ℕ → Bool) (n : ℕ) (rest : List ℕ) : Type 0 where
    pub todo : List ℕ
    pub all_are : filter q (up_to n) ≡ elements machines ++ todo
    pub stand : drop end text ≡ labels (separator 34 (elements machines)) todo ++ (label_end ++ rest)

  -- some machines were read, and more follow or not
  pub record LabelUpto (machines end : ℕ) (more : Bool) : Type 0 where
    pub few : (i : ℕ) → bit machines i ≡ true → i < 32
    pub spans : Spans text at (labels 34 (elements machines)) end
    pub goes_on : more ≡ true → get_or text end 0 ≡ separator 34 (elements machines)
    pub some : more ≡ false → 0 < length (elements machines)
    pub ends : more ≡ false → get_or text end 0 ≡ 32 → ⊥
    pub left : (q : ℕ → Bool) (n : ℕ) (rest : List ℕ) → Labelled text at q n rest → LabelLeft machines end q n rest

  pub label-none : get_or text at 0 ≡ 34 → LabelUpto 0 at true
  unfolding labels
  label-none e =
      let l = byte_inside text at e (omega arith) in
      record {
        few = λ i t. absurd (true-false t (bit-none i));
        spans = rw elements-none (spans-none (omega arith));
        goes_on = λ t. rw elements-none e;
        some = λ f. absurd (true-false refl f);
        ends = λ f. absurd (true-false refl f);
        left = λ q n rest h.
            record {
              todo = filter q (up_to n);
              all_are = rw elements-none refl;
              stand = rw elements-none (h.stands ∙ append_assoc (labels 34 (filter q (up_to n))) label_end rest);
            };
      }

  -- One number more

  module _ {machines end : ℕ} {more : Bool} (u : LabelUpto machines end more) (on : more ≡ true) where
    byte : get_or text end 0 ≡ separator 34 (elements machines)
    byte = u.goes_on on

    pub label_inside : end < length text
    label_inside = byte_inside text end byte (separator-some (elements machines))

    pub label-room : length text * 1 < 2 ^ 63 → Fits w64 (end + 1)
    label-room l = omega (arith, label_inside)

    pub label-onward : end + 1 ≤ length text
    label-onward = omega (arith, label_inside)

    -- the next that can stand there
    record Coming (q : ℕ → Bool) (n : ℕ) (rest : List ℕ) : Type 0 where
      number : ℕ
      todo : List ℕ
      all_are : filter q (up_to n) ≡ elements machines ++ (number ∷ todo)
      there : Numbered text (end + 1) machines 32 number (labels 32 todo ++ (label_end ++ rest))

    coming : (q : ℕ → Bool) (n : ℕ) (rest : List ℕ) → Labelled text at q n rest → Coming q n rest
    unfolding labels
    coming q n rest h =
        let left = u.left q n rest h in
        among left.todo left.all_are left.stand
      where
        among : (todo : List ℕ) → filter q (up_to n) ≡ elements machines ++ todo
            → drop end text ≡ labels (separator 34 (elements machines)) todo ++ (label_end ++ rest) → Coming q n rest
        among [] all_are stand =
            let some = ap length (all_are ∙ append-nil (elements machines)) in
            let later = separator-later (elements machines) (omega (arith, h.some, some)) in
            absurd (let f : ⊥ = omega (arith, byte-there text end stand, byte, later) in f)
        among (j ∷ todo) all_are stand =
            let few = h.few in
            let small = next-below q n machines j todo all_are in
            record {
              number = j;
              todo = todo;
              all_are = all_are;
              there = record {
                below = omega arith;
                above = next-rises q n machines j todo all_are (λ i t. omega (arith, u.few i t));
                ends = label-breaks todo rest;
                stands = behind text end (separator 34 (elements machines) ∷ []) stand ∙ append_assoc (decimal j) _ _;
              };
            }

    pub label-stops : ((j : ℕ) (rest : List ℕ) → Numbered text (end + 1) machines 32 j rest → ⊥)
        → (q : ℕ → Bool) (n : ℕ) (rest : List ℕ) → Labelled text at q n rest → ⊥
    label-stops none q n rest h = none _ _ (coming q n rest h).there

    module _ {r : Number} (found : NumberRead text (end + 1) machines 32 r) where
      pub label_small : r.value < 64
      label_small = omega (arith, found.below)

      pub label-less : length text - r.end < length text - end
      label-less = let s = found.spans in omega (arith, s.place, s.inside)

      pub label-next : {machines' : ℕ} {more' : Bool} → machines' ≡ union machines (alone r.value)
          → more' ≡ eqb (get_or text r.end 0) 32 → LabelUpto machines' r.end more'
      label-next {machines'} m g =
          let small = found.below in
          let now-are : elements machines' ≡ elements machines ++ (r.value ∷ []) =
          ap elements m ∙ elements-more machines r.value (omega arith) found.above in
          let s : separator 34 (elements machines') ≡ 32 =
          ap (separator 34) now-are ∙ separator-snoc 34 r.value (elements machines) in
          let one = spans-then (spans-byte byte (separator-some (elements machines))) found.spans in
          record {
            few = grown-below machines u.few small m;
            spans = rw (now-are, labels-snoc 34 r.value (elements machines)) (spans-then u.spans one);
            goes_on = λ t'. eqb-true _ 32 (sym g ∙ t') ∙ sym s;
            some = λ f. rw now-are (omega (arith, length-append (elements machines) (r.value ∷ [])));
            ends = λ f. eqb-false _ 32 (sym g ∙ f);
            left = λ q n rest h.
                let next = coming q n rest h in
                let same : r.value ≡ next.number = found.only next.number _ next.there in
                let all_are : filter q (up_to n) ≡ elements machines ++ (r.value ∷ next.todo) = rw same next.all_are in
                record {
                  todo = next.todo;
                  all_are = all_are
                      ∙ sym (ap (λ is. is ++ next.todo) now-are
                      ∙ append_assoc (elements machines) (r.value ∷ []) next.todo);
                  stand = rw s (spans-rest found.spans (rw same next.there.stands));
                };
          }

  -- The end of the label

  module _ {machines end : ℕ} {more : Bool} (u : LabelUpto machines end more) (off : more ≡ false) where
    -- nothing more can stand there
    record Ended (q : ℕ → Bool) (n : ℕ) (rest : List ℕ) : Type 0 where
      all_are : filter q (up_to n) ≡ elements machines
      stand : drop end text ≡ label_end ++ rest

    ended : (q : ℕ → Bool) (n : ℕ) (rest : List ℕ) → Labelled text at q n rest → Ended q n rest
    unfolding labels
    ended q n rest h =
        let left = u.left q n rest h in
        among left.todo left.all_are left.stand
      where
        among : (todo : List ℕ) → filter q (up_to n) ≡ elements machines ++ todo
            → drop end text ≡ labels (separator 34 (elements machines)) todo ++ (label_end ++ rest) → Ended q n rest
        among [] all_are stand = record { all_are = all_are ∙ append-nil (elements machines); stand = stand }
        among (j ∷ todo) all_are stand =
            let later = separator-later (elements machines) (u.some off) in
            absurd (u.ends off (byte-there text end stand ∙ later))

    abbrev closes : Bool
    closes = starts_with label_end (drop end text)

    pub label-other : {b : Bool} → b ≡ closes → b ≡ false
        → (q : ℕ → Bool) (n : ℕ) (rest : List ℕ) → Labelled text at q n rest → ⊥
    label-other is f q n rest h = true-false (is ∙ starts-there label_end rest (ended q n rest h).stand) f

    pub label-behind : length text * 1 < 2 ^ 63 → Fits w64 (end + 4)
    label-behind l = omega (arith, u.spans.inside)

    pub label-ends : {b : Bool} → b ≡ closes → b ≡ true
        → LabelRead text at (record { machines = machines; end = end + 4 })
    label-ends is t =
        record {
          few = u.few;
          some = u.some off;
          spans = spans-then u.spans (spans-bytes label_end u.spans.inside (sym is ∙ t));
          only = λ q n rest h. sym (ended q n rest h).all_are;
        }
