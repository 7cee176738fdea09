-- Amending moves: the move that an amendment names is exchanged, in words and for each number; what holds of each move.
-- Assumes nothing.
use Prim.Native.Nat.{ℕ, suc, ◌≤◌, ◌<◌}
use mathlib.Core.Path.{◌≡◌, refl, sym, ap, subst, ◌∙◌}
use mathlib.Core.Bool.{true, cond}
use mathlib.Core.List.Memᴰ
use mathlib.Core.List.{List, ◌∷◌, Memᴰ}
use native.Mathlib.Omega.{arith}
use borrow.Author.Tests.{eqb-true, eqb-false, ltb-true, ltb-false}
use lib.Dec.{eqb, ltb}
use lib.ListN.{length, get_or, take, drop, length-append}
use lib.Seq.{split_at, get_or_at}
use Rattle.common.specs.Lists.{any}
use Rattle.common.proofs.Bools.{by_cases, false-of-not-true}
use Rattle.common.proofs.Lists.{any-intro, any_some}
use Rattle.common.proofs.Search.{position-holds, position_some, position-is}
use Rattle.sheet.specs.Model.{Move, Model, absent_move, is_same_move, with_moves}
use Rattle.sheet.specs.Amend.{Amendment, replace, withdraw, named, instead, standing_at, exchanged, amend, Acts}
use Rattle.sheet.specs.Valid.{ValidMove, Valid}
use Rattle.sheet.proofs.Same.{same-intro, same-fields}
use Rattle.sheet.proofs.Valid.{same_move}
use Rattle.sheet.proofs.Exchanged.{exchanged-at, replaced-length, replaced-here, replaced-other}
use Rattle.sheet.proofs.Exchanged.{gone-length, gone-before, gone-behind}

-- what an amendment leaves of a list, by number: where each element stood before
abbrev pub origin : Amendment → ℕ → ℕ → ℕ
origin (replace v) x i = i
origin (withdraw machine from command) x i = cond (ltb i x) i (suc i)

pub origin-apart : (a : Amendment) (x i j : ℕ) → origin a x i ≡ origin a x j → i ≡ j
origin-apart (replace v) x i j e = e
origin-apart (withdraw machine from command) x i j e =
    by_cases (ltb i x)
    (λ t. by_cases (ltb j x)
    (λ u. rw (t, u) at e)
    (λ u. let f : i ≡ suc j = rw (t, u) at e in omega (arith, ltb-true i x t, ltb-false j x u)))
    (λ t. by_cases (ltb j x)
    (λ u. let f : suc i ≡ j = rw (t, u) at e in omega (arith, ltb-false i x t, ltb-true j x u))
    (λ u. let f : suc i ≡ suc j = rw (t, u) at e in omega arith))

-- two lists are amended alike, one by u and the other by w: what holds of both, element by element, holds on
module _ {A B : Type 0} (xs : List A) (ys : List B) (d : A) (e : B) (u : A) (w : B) (x : ℕ) (inside : x < length xs)
    (paired : length ys ≡ length xs) where
  pub amended-paired : (a : Amendment) → length (exchanged x (instead a w) ys) ≡ length (exchanged x (instead a u) xs)
  amended-paired (replace v) = replaced-length ys e x (omega arith) w ∙ paired ∙ sym (replaced-length xs d x inside u)
  amended-paired (withdraw machine from command) =
      omega (arith, gone-length ys e x (omega arith), gone-length xs d x inside)

  pub amended-each : (a : Amendment) (R : A → B → Type 0) → ((i : ℕ) → i < length xs → R (get_or xs i d) (get_or ys i e))
      → ((v : Move) → a ≡ replace v → R u w) → (i : ℕ) → i < length (exchanged x (instead a u) xs)
      → R (get_or (exchanged x (instead a u) xs) i d) (get_or (exchanged x (instead a w) ys) i e)
  amended-each (replace v) R old new i h =
      by_cases (eqb i x)
      (λ t.
      rw (eqb-true i x t, replaced-here xs d x inside u, replaced-here ys e x (omega arith) w) (new v refl))
      (λ f.
      let o = eqb-false i x f in
      rw (replaced-other xs d x inside u i o, replaced-other ys e x (omega arith) w i o)
      (old i (omega (arith, replaced-length xs d x inside u))))
  amended-each (withdraw machine from command) R old new i h =
      let n = gone-length xs d x inside in
      by_cases (ltb i x)
      (λ t.
      let l = ltb-true i x t in
      rw (gone-before xs d x inside i l, gone-before ys e x (omega arith) i l) (old i (omega arith)))
      (λ f.
      let l = ltb-false i x f in
      rw (gone-behind xs d x inside i l, gone-behind ys e x (omega arith) i l) (old (suc i) (omega arith)))

-- no two have the same machine, from mode and command
abbrev pub Apart : List Move → Type 0
Apart moves =
    (v w : ℕ) → v < length moves → w < length moves → (get_or moves v absent_move).machine ≡ (get_or moves w absent_move).machine
    → (get_or moves v absent_move).from ≡ (get_or moves w absent_move).from → (get_or moves v absent_move).command ≡ (get_or moves w absent_move).command
    → v ≡ w

module _ (moves : List Move) (a : Amendment) where
  abbrev x : ℕ
  x = standing_at moves a

  -- a move that it names stands
  module _ (some : any (is_same_move (named a)) moves ≡ true) where
    pub named-inside : x < length moves
    unfolding standing_at
    named-inside =
        let m = any_some (is_same_move (named a)) moves some in position_some (is_same_move (named a)) m.1 m.2

    named-there : is_same_move (named a) (get_or moves x absent_move) ≡ true
    unfolding standing_at
    named-there = position-holds (is_same_move (named a)) moves absent_move named-inside

    pub named-fields : ((named a).machine ≡ (get_or moves x absent_move).machine) × ((named a).from ≡ (get_or moves x absent_move).from)
        × ((named a).command ≡ (get_or moves x absent_move).command)
    named-fields = same-fields (named a) (get_or moves x absent_move) named-there

    pub amend-acts : Acts a moves (amend moves a)
    unfolding amend exchanged
    amend-acts =
        record {
          before = take x moves;
          old = get_or moves x absent_move;
          behind = drop (suc x) moves;
          stood = split_at moves x absent_move named-inside;
          machine = named-fields.0;
          from = named-fields.1;
          command = named-fields.2;
          stands = refl;
        }

  -- and the other way round, where no two are the same
  module _ {after : List Move} (acts : Acts a moves after) where
    old-same : is_same_move (named a) acts.old ≡ true
    old-same = same-intro (named a) acts.old acts.machine acts.from acts.command

    pub acts-some : any (is_same_move (named a)) moves ≡ true
    acts-some =
        rw acts.stood
        (any-intro (is_same_move (named a)) (Memᴰ.append_right acts.before (Memᴰ.head refl)) old-same)

    pub acts-amend : Apart moves → amend moves a ≡ after
    unfolding amend standing_at
    acts-amend apart =
        let v = named a in
        let n : ℕ = length acts.before in
        let inside : n < length moves =
        omega (arith, ap length acts.stood, length-append acts.before (acts.old ∷ acts.behind)) in
        let here : get_or moves n absent_move ≡ acts.old =
        ap (λ l. get_or l n absent_move) acts.stood ∙ get_or_at acts.before acts.old acts.behind absent_move n refl in
        let first : standing_at moves a ≡ n =
        position-is (is_same_move v) moves n absent_move inside (rw here old-same)
        (λ j l.
        false-of-not-true (λ t.
        let f = same-fields v (get_or moves j absent_move) t in
        let same : j ≡ n =
        apart j n (omega arith) inside (rw here (sym f.0 ∙ acts.machine)) (rw here (sym f.1 ∙ acts.from))
        (rw here (sym f.2 ∙ acts.command)) in
        omega arith)) in
        ap (λ l. exchanged (standing_at moves a) (instead a v) l) acts.stood
        ∙ exchanged-at acts.before acts.old acts.behind (instead a v) (standing_at moves a) (sym first)
        ∙ sym acts.stands

-- two moves have the same machine, from mode and command
abbrev Alike : Move → Move → Type 0
Alike v w = (v.machine ≡ w.machine) × (v.from ≡ w.from) × (v.command ≡ w.command)

-- each is alike to the one that stood there
module _ (moves : List Move) (u : Move) (n : ℕ) (inside : n < length moves) (alike : Alike u (get_or moves n absent_move)) where
  record From (a : Amendment) (i : ℕ) : Type 0 where
    below : origin a n i < length moves
    fields : Alike (get_or (exchanged n (instead a u) moves) i absent_move) (get_or moves (origin a n i) absent_move)

  came_from : (a : Amendment) (i : ℕ) → i < length (exchanged n (instead a u) moves) → From a i
  came_from (replace v) i h =
      record {
        below = omega (arith, replaced-length moves absent_move n inside u);
        fields =
            by_cases (eqb i n)
            (λ t. rw (eqb-true i n t, replaced-here moves absent_move n inside u) alike)
            (λ f. rw (replaced-other moves absent_move n inside u i (eqb-false i n f)) (refl, refl, refl));
      }
  came_from (withdraw machine from command) i h =
      let k = gone-length moves absent_move n inside in
      by_cases (ltb i n)
      (λ t.
      record {
        below = rw t (omega (arith, ltb-true i n t));
        fields = rw (t, gone-before moves absent_move n inside i (ltb-true i n t)) (refl, refl, refl);
      })
      (λ f.
      record {
        below = rw f (omega arith);
        fields = rw (f, gone-behind moves absent_move n inside i (ltb-false i n f)) (refl, refl, refl);
      })

-- a valid model stays valid
module _ (m : Model) (moves : List Move) (a : Amendment) (ok : Valid (with_moves m moves))
    (some : any (is_same_move (named a)) moves ≡ true) where
  abbrev n : ℕ
  n = standing_at moves a

  abbrev after : List Move
  after = amend moves a

  inside : n < length moves
  inside = named-inside moves a some

  pub amended-count : length after ≤ length moves
  unfolding amend
  amended-count = go a
    where
      go : (b : Amendment) → length (exchanged n (instead b (named a)) moves) ≤ length moves
      go (replace v) = omega (arith, replaced-length moves absent_move n inside (named a))
      go (withdraw machine from command) = omega (arith, gone-length moves absent_move n inside)

  pub valid-amended : ((v : Move) → a ≡ replace v → ValidMove m v) → Valid (with_moves m after)
  unfolding amend
  valid-amended new =
      record {
        few-machines = ok.few-machines;
        same_length = ok.same_length;
        few-moves = omega (arith, amended-count, ok.few-moves);
        machines-valid = ok.machines-valid;
        moves-valid =
            amended-each moves moves absent_move absent_move (named a) (named a) n inside refl a (λ v w. ValidMove (with_moves m after) v)
            (λ i h. same_move (with_moves m moves) after (ok.moves-valid i h))
            (λ v e. same_move m after (subst (λ b. ValidMove m (named b)) (sym e) (new v e)));
        moves-distinct = λ v w h k p q r.
            let f = named-fields moves a some in
            let x = came_from moves (named a) n inside f a v h in
            let y = came_from moves (named a) n inside f a w k in
            origin-apart a n v w
            (ok.moves-distinct _ _ x.below y.below (sym x.fields.0 ∙ p ∙ y.fields.0)
            (sym x.fields.1 ∙ q ∙ y.fields.1) (sym x.fields.2 ∙ r ∙ y.fields.2));
      }
