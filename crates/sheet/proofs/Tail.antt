-- One turn of reading amendments: where a whole record that has been judged leads.
-- Assumes nothing.
use Prim.Native.Nat.{ℕ, ◌+◌, ◌-◌, ◌≤◌, ◌<◌}
use mathlib.Core.Path.{◌≡◌, refl, sym, ap, ap₂, ◌∙◌}
use mathlib.Core.Logic.{⊎_elim}
use mathlib.Core.Bool.{Bool, true, false, cond}
use mathlib.Core.List.{List, [], ◌∷◌, map}
use native.Mathlib.Omega.{arith}
use borrow.Author.Tests.{ltb-true, ltb-false, lt-ltb, le-ltb, eqb-true, eqb-false}
use lib.Dec.{eqb, ltb}
use lib.ListN.{length, get_or, set, take, drop, length-map, length-set}
use lib.Seq.{get_or-set_same, get_or-set_other}
use Rattle.std.specs.Prelude.{Option, Some, None, Result, Ok, Err}
use Rattle.common.specs.Lists.{any, filter, position, pad}
use Rattle.common.specs.Reply.{given, refused, fault, unless}
use Rattle.common.proofs.Bools.{by_cases}
use Rattle.common.proofs.Lists.{any-fails, any-intro, any-map, filter-keeps, filter-drops, filter-from, filter-holds, filter-mem}
use Rattle.common.proofs.Members.{mem-get_or, mem_index}
use Rattle.common.proofs.Reply.{unless-clear, unless-first, unless-later}
use Rattle.sheet.specs.declared.record.Record.{Record}
use Rattle.sheet.specs.declared.refusal.Cause.{Cause}
use Rattle.sheet.specs.declared.refusal.Cause.TheVariants.{WrongKind}
use Rattle.sheet.specs.declared.index.Sheet.{Sheet}
use Rattle.sheet.specs.Kept.Held.{Counts}
use Rattle.sheet.specs.declared.kind.Kind.{Kind}
use Rattle.sheet.specs.declared.kind.UnknownKind.{UnknownKind}
use Rattle.sheet.specs.declared.kind.Kind.TheVariants.{Machine, Move as Moves, End, Replacement, Withdrawal}
use Rattle.sheet.specs.declared.amending.Left.{Left}
use Rattle.sheet.specs.declared.amending.Amendment.{Amendment as Asked}
use Rattle.sheet.specs.Refusal.{number_of}
use Rattle.sheet.specs.Index.{index_of, index_reply}
use Rattle.sheet.specs.Record.{word, record_at, body_at}
use Rattle.sheet.specs.Model.{Move, Model, absent_move, move_of, is_same_move}
use Rattle.sheet.specs.Amend.{Amendment, amendment_of, named, instead, standing_at, exchanged, amend}
use Rattle.sheet.specs.Faults.{late_faults}
use Rattle.sheet.specs.Parse.{Progress, amended_by, finished, more, turn_of, parse}
use Rattle.sheet.specs.Kept.Held.{fine, judged_of, own_faults, Held}
use Rattle.sheet.specs.Kept.Kinds.{kind_number, NamesKind}
use Rattle.sheet.specs.Kept.Sent.{key_of, Small, Sent, Keyed}
use Rattle.sheet.specs.Kept.Scanned.{move_there, is_place, Named, Stood, Amending}
use Rattle.sheet.proofs.Counts.{amendment-short}
use Rattle.sheet.proofs.Exchanged.{map-exchanged}
use Rattle.sheet.proofs.Judging.{own-unknown, passed-small}
use Rattle.sheet.proofs.Keys.{key-repeats}
use Rattle.sheet.proofs.Numbered.{kinds-differ, kind-named, kind-unknown}
use Rattle.sheet.proofs.Ranks.{place_is, is-place, place-exchanged, rank_is}
use Rattle.sheet.proofs.Records.{whole-at, body-whole, body-is-bytes}
use Rattle.sheet.proofs.Same.{same-swaps, same_alike}
use Rattle.sheet.proofs.Steps.{unnamed, ends-behind, turn-faulty, MoveFits, AmendmentFits}
use Rattle.sheet.proofs.Steps.{machine-fits, move-fits, turn-move, turn_end, amendment-fits, turn-amendment}
use Rattle.sheet.proofs.Steps.{none-stands, too_many, stands-to-amend}
use Rattle.sheet.proofs.Scanning.{leads-on, leads-to-end, leads-to-refusal, leads-to-cut, reading-given}

module _ {s : List ℕ} {counts : Counts} {modes lives tops pairs commands owners places : List ℕ} {amended at : ℕ}
    (h : Amending s counts modes lives tops pairs commands owners places amended at) where
  abbrev d : Progress
  d = h.read

  abbrev m : Model
  m = d.draft.sent

  -- how many records there may yet be
  abbrev left : ℕ
  left = 347 - (counts.machines + counts.moves + amended)

  one_left : 0 < left
  one_left = omega (arith, h.drafted.held.few-machines, h.drafted.held.few-moves, h.few)

  sent-count : length m.moves ≡ counts.moves
  sent-count = h.drafted.held.counted.moves-are

  -- what the code's parts ask for
  pub tail-cut : {r : Option Record} → r ≡ record_at s at → r ≡ None → parse s ≡ refused 1 at
  tail-cut e w = leads-to-cut s left at d h.leads one_left e w

  -- a whole record
  module _ {r : Option Record} {it : Record} (e : r ≡ record_at s at) (w : r ≡ Some it) where
    abbrev body : List ℕ
    body = take (it.start + it.len - it.start) (drop it.start s)

    its-body : body ≡ body_at s at
    its-body = body-whole s at e w

    its-kind : word s (at + 2) ≡ it.kind
    its-kind = sym (whole-at s at (sym e ∙ w)).kind-word

    ends_at : it.start + it.len ≡ at + 4 + length body
    ends_at = ends-behind s at d e w its-body

    refuses : {number place : ℕ} → turn_of s at d (record_at s at) ≡ refused number place → parse s ≡ refused number place
    refuses p = leads-to-refusal s left at d h.leads one_left p

    -- of no kind
    pub tail-unknown : {t : Result Kind UnknownKind} {u : UnknownKind} → NamesKind it.kind t → t ≡ Err u → parse s ≡ refused 2 at
    unfolding unless
    tail-unknown n q =
        let other : (kind : Kind) → it.kind ≡ kind_number kind → ⊥ = kind-unknown n q in
        refuses
        (turn-faulty s at d e w its-body {j = Err WrongKind}
        (rw (own-unknown m at it.kind body (other Machine) (other Moves) (other End) (other Replacement) (other Withdrawal))) refl)

    -- that has been judged by its kind
    module _ {t : Result Kind UnknownKind} (kinded : NamesKind it.kind t) {kind : Kind} (is-kind : t ≡ Ok kind) (j : Result Unit Cause)
        (judged : (m : Model) (place : ℕ) → Held m counts tops lives
        → judged_of j place ≡ unless (own_faults m place (kind_number kind) (take (it.start + it.len - it.start) (drop it.start s))) fine) where
      of-kind : it.kind ≡ kind_number kind
      of-kind = kind-named kinded is-kind

      found : judged_of j at ≡ unless (own_faults m at it.kind body) fine
      found = rw of-kind (judged m at h.drafted.held)

      pub tail-faulty : {cause : Cause} → j ≡ Err cause → parse s ≡ refused (number_of cause) at
      tail-faulty q = refuses (turn-faulty s at d e w its-body found q)

      -- a move
      module _ (q : j ≡ Ok tt) (is : kind ≡ Moves) where
        k : it.kind ≡ 2
        k = of-kind ∙ ap kind_number is

        move : MoveFits m body
        move = move-fits s at d e w its-body found q k

        pub tail-move-bytes : 4 ≤ length body
        tail-move-bytes = move.size.long

        begun : 0 < d.draft.amended
        begun =
            by_cases (eqb amended 0)
            (λ t. absurd (h.no_move (eqb-true amended 0 t) (its-kind ∙ k)))
            (λ f. omega (arith, eqb-false amended 0 f, h.amended-are))

        small : Small (move_of body)
        small =
            passed-small m body h.drafted.held move.right
            (rw its-body (body-is-bytes s at (λ i. omega (arith, h.bytes i)) 3))

        -- by whether an earlier one has its key
        pub tail-late : (cause : Cause) → ((keys : List ℕ) → Sent keys pairs commands owners
            → number_of cause ≡ cond (any (eqb (key_of (move_of body))) keys) 8 21) → parse s ≡ refused (number_of cause) at
        unfolding late_faults
        tail-late cause tells =
            let again : Bool = any (is_same_move (move_of body)) m.moves in
            let number : number_of cause ≡ cond again 8 21 =
            tells (map key_of m.moves) h.drafted.keyed.table
            ∙ ap (λ b. cond b 8 21) (key-repeats m.moves (move_of body) h.drafted.keyed.small small) in
            let turn = turn-move s at d e w its-body found q k in
            by_cases again
            (λ y. refuses (turn ∙ unless-first (fault 8 at _) _ _ y) ∙ ap (λ n. refused n at) (sym (number ∙ rw y)))
            (λ n.
            refuses (turn ∙ unless-later (fault 8 at _) _ _ n ∙ unless-first (fault 21 at _) [] _ (lt-ltb 0 _ begun))
            ∙ ap (λ n. refused n at) (sym (number ∙ rw n)))

      -- the end
      module _ (q : j ≡ Ok tt) (of : kind ≡ End) where
        ends : it.kind ≡ 3
        ends = of-kind ∙ ap kind_number of

        pub tail-trailing : it.start + it.len < length s → parse s ≡ refused 3 (it.start + it.len)
        tail-trailing y =
            refuses (turn_end s at d e w its-body found q ends ∙ unless-first (fault 3 (it.start + it.len) _) [] _ (lt-ltb _ _ y))

        module _ (last : length s ≤ it.start + it.len) {packed : Left}
            (closed : (packed.moves ≡ length (filter is_place places)) × (packed.places ≡ pad 250 (filter is_place places)))
            {x : Sheet}
            (is : x ≡ record {
              machines = counts.machines;
              moves = packed.moves;
              modes = modes;
              live = lives;
              places = packed.places;
            }) where
          ended_at : parse s ≡ given (finished d)
          ended_at =
              leads-to-end s left at d h.leads one_left
              (turn_end s at d e w its-body found q ends
              ∙ unless-clear (fault 3 (it.start + it.len) _ ∷ []) _ (le-ltb _ _ last, tt))

          index_is : x ≡ index_of (finished d)
          unfolding index_of
          index_is =
              let n = h.drafted.held.counted in
              let count : length d.draft.standing ≡ packed.moves =
              ap length h.stand ∙ length-map d.places (move_there s) ∙ ap length h.left ∙ sym closed.0 in
              is
              ∙ rw (n.machines-are, count, ← h.drafted.modes-in, ← h.drafted.held.live-in, closed.1, ← h.left)

          pub tail-given : given x ≡ index_reply (parse s)
          tail-given = reading-given s ended_at index_is

      -- an amendment
      module _ (q : j ≡ Ok tt) (not-Move : kind ≡ Moves → ⊥) (not-End : kind ≡ End → ⊥) where
        other : {k : Kind} → (kind ≡ k → ⊥) → it.kind ≡ kind_number k → ⊥
        other d e = kinds-differ d (sym of-kind ∙ e)

        not-machine : it.kind ≡ 1 → ⊥
        not-machine k =
            by_cases (eqb amended 0) (λ t. h.no-machine (eqb-true amended 0 t) (its-kind ∙ k)) (λ f.
            let some = h.some-move (omega (arith, eqb-false amended 0 f)) in
            omega (arith, (machine-fits s at d e w its-body found q k).no-move-yet, sent-count))

        fits : AmendmentFits m it.kind body
        fits = amendment-fits s at d e w its-body found q not-machine (other not-Move) (other not-End)

        pub tail-four-bytes : kind ≡ Replacement → 4 ≤ length body
        tail-four-bytes is = (fits.size (of-kind ∙ ap kind_number is)).long

        pub tail-three-bytes : (kind ≡ Replacement → ⊥) → 3 ≤ length body
        tail-three-bytes n = ⊎_elim (λ k. absurd (other n k)) (λ k. omega (arith, fits.three k)) fits.is

        abbrev a : Amendment
        a = amendment_of it.kind body

        turns : turn_of s at d (record_at s at)
            ≡ unless (unnamed d.draft at it.kind body) (given (more (it.start + it.len) (amended_by d at a)))
        turns = turn-amendment s at d e w its-body found q not-machine (other not-Move) (other not-End)

        -- what it puts in a list
        put_four : {A : Type 0} (x : A) → it.kind ≡ 4 → instead a x ≡ x ∷ []
        unfolding amendment_of
        put_four x k = rw k

        put_five : {A : Type 0} (x : A) → it.kind ≡ 5 → instead a x ≡ []
        unfolding amendment_of
        put_five x k = rw k

        there : it.kind ≡ 4 → move_there s at ≡ named a
        unfolding move_there amendment_of
        there k = rw k (ap move_of (sym its-body))

        put-there : map (move_there s) (instead a at) ≡ instead a (named a)
        put-there =
            ⊎_elim
            (λ k. rw (put_four at k, put_four (named a) k) (ap (λ v. v ∷ []) (there k)))
            (λ k. rw (put_five at k, put_five (named a) k)) fits.is

        -- by what was found of the move that it names
        module _ {asked : Asked} (names : Named (named (amendment_of (kind_number kind) body)) asked) {found : Option ℕ}
            (finds : (vs : List Move) (v : Move) → Keyed vs pairs commands owners → Named v asked → Stood vs places v found) where
          stood : Stood m.moves places (named a) found
          stood = finds m.moves (named a) h.drafted.keyed (rw of-kind names)

          -- a standing move is the same as the one that was sent
          as-sent : (v : ℕ) → v < counts.moves → 0 < get_or places v 0
              → is_same_move (named a) (move_there s (get_or places v 0)) ≡ is_same_move (named a) (get_or m.moves v absent_move)
          as-sent v l p =
              let old = get_or m.moves v absent_move in
              let new = move_there s (get_or places v 0) in
              same-swaps (named a) new ∙ sym (same_alike old new (named a) (h.same v l p)) ∙ same-swaps old (named a)

          -- a place that is left is that of a sent move
          sent-place : (v : ℕ) → 0 < get_or places v 0 → v < counts.moves
          sent-place v p = by_cases (ltb v counts.moves) (λ t. ltb-true _ _ t) (λ f. omega (arith, h.none-behind v (ltb-false _ _ f)))

          standing-are : d.draft.standing ≡ map (move_there s) (filter is_place places)
          standing-are = h.stand ∙ ap (map (move_there s)) h.left

          pub tail-unnamed : found ≡ None → parse s ≡ refused 21 at
          tail-unnamed none =
              let same = is_same_move (named a) in
              let no : any same d.draft.standing ≡ false =
              ap (any same) standing-are ∙ any-map same (move_there s) (filter is_place places)
              ∙ any-fails (λ x. same (move_there s x)) (filter is_place places) (λ x i.
              let k = mem_index 0 (filter-from is_place places i) in
              let p : 0 < get_or places k.0 0 = rw k.2 (is-place (filter-holds is_place places i)) in
              let l = sent-place k.0 p in
              rw (← k.2) (as-sent k.0 l p ∙ stood.none none k.0 (omega (arith, sent-count)) p)) in
              refuses (turns ∙ unless-first (fault 21 at _) [] _ (none-stands d.draft a no))

          module _ {n : ℕ} (is : found ≡ Some n) where
            below : n < counts.moves
            below = omega (arith, stood.below n is, sent-count)

            pub tail-inside : n < 250
            tail-inside = omega (arith, below, h.drafted.held.few-moves)

            inside : n < length places
            inside = omega (arith, tail-inside, h.long)

            here : is_same_move (named a) (move_there s (get_or places n 0)) ≡ true
            here = as-sent n below (stood.stands n is) ∙ stood.same n is

            rank : standing_at d.draft.standing a ≡ length (filter is_place (take n places))
            unfolding standing_at
            rank =
                ap (position (is_same_move (named a))) standing-are
                ∙ rank_is places n inside (stood.stands n is) (move_there s) (is_same_move (named a)) here
                (λ j l p.
                as-sent j (omega (arith, below)) p
                ∙ stood.only n j is (omega (arith, below, sent-count)) (λ e. omega arith))

            some : any (is_same_move (named a)) d.draft.standing ≡ true
            some =
                ap (any (is_same_move (named a))) standing-are ∙ any-map (is_same_move (named a)) (move_there s) (filter is_place places)
                ∙ any-intro (λ x. is_same_move (named a) (move_there s x))
                (filter-mem is_place (mem-get_or places n 0 inside) (place_is (stood.stands n is))) here

            pub tail-too-many : 64 ≤ amended → parse s ≡ refused 21 at
            tail-too-many l =
                refuses
                (turns ∙ unless-first (fault 21 at _) [] _ (too_many d.draft a (omega (arith, h.amended-are))))

            -- the amendment acts
            module _ (room : amended < 64) {place : ℕ} (put : place ≡ cond (eqb (kind_number kind) 4) at 0) where
              at-four : it.kind ≡ 4 → place ≡ at
              at-four k = put ∙ rw (sym of-kind ∙ k)

              at_five : it.kind ≡ 5 → place ≡ 0
              at_five k = put ∙ rw (sym of-kind ∙ k)

              put-place : filter is_place (place ∷ []) ≡ instead a at
              unfolding filter is_place
              put-place =
                  ⊎_elim
                  (λ k. rw (put_four at k, at-four k) (filter-keeps is_place at [] (place_is (h.started (omega (arith, below))))))
                  (λ k. rw (put_five at k, at_five k) (filter-drops is_place 0 [] refl)) fits.is

              new-places : (amended_by d at a).places ≡ filter is_place (set places n place)
              new-places =
                  ap₂ (λ x l. exchanged x (instead a at) l) rank h.left
                  ∙ ap (λ l. exchanged (length (filter is_place (take n places))) l (filter is_place places)) (sym put-place)
                  ∙ sym (place-exchanged places n inside (stood.stands n is) place)

              new-moves : amend d.draft.standing a ≡ map (move_there s) (amended_by d at a).places
              unfolding amend
              new-moves =
                  let x = standing_at d.draft.standing a in
                  ap₂ (exchanged x) (sym put-there) h.stand ∙ sym (map-exchanged (move_there s) x (instead a at) d.places)

              new-same : (v : ℕ) → v < counts.moves → 0 < get_or (set places n place) v 0
                  → is_same_move (get_or m.moves v absent_move) (move_there s (get_or (set places n place) v 0)) ≡ true
              new-same v l =
                  by_cases (eqb v n)
                  (λ t.
                  rw (eqb-true v n t, get_or-set_same places n place 0 inside)
                  (λ p.
                  ⊎_elim
                  (λ k.
                  rw (at-four k, there k)
                  (same-swaps (get_or m.moves n absent_move) (named a) ∙ stood.same n is))
                  (λ k. absurd (let f : ⊥ = omega (arith, at_five k) in f)) fits.is))
                  (λ f. rw (get_or-set_other places n v place 0 (eqb-false v n f)) (h.same v l))

              pub tail-again : Amending s counts modes lives tops pairs commands owners (set places n place) (amended + 1) (it.start + it.len)
              tail-again =
                  record {
                    read = amended_by d at a;
                    drafted = record { held = h.drafted.held; modes-in = h.drafted.modes-in; keyed = h.drafted.keyed };
                    amended-are = omega (arith, h.amended-are);
                    few = omega arith;
                    long = length-set places n place ∙ h.long;
                    left = new-places;
                    stand = new-moves;
                    same = new-same;
                    none-behind = λ v l.
                        get_or-set_other places n v place 0 (λ e. omega (arith, below)) ∙ h.none-behind v l;
                    some-move = λ l. omega (arith, below);
                    no-machine = λ e. absurd (let f : ⊥ = omega arith in f);
                    no_move = λ e. absurd (let f : ⊥ = omega arith in f);
                    started = λ l. omega (arith, ends_at);
                    near = omega (arith, ends_at, h.near, amendment-short fits.size fits.three fits.is);
                    bytes = h.bytes;
                    leads =
                        leads-on s left at d h.leads one_left _ (omega arith)
                        (turns
                        ∙ unless-clear (unnamed d.draft at it.kind body) _
                        (stands-to-amend d.draft a some (omega (arith, h.amended-are)), tt));
                  }
