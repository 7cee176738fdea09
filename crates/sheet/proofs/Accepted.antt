-- A file that is machines, moves, amendments and the end, all right, is accepted and read as what they say: the machines
-- pass one by one, then the moves, the amendments, and then the end.
-- Assumes nothing.
use Prim.Native.Nat.{ℕ, suc, ◌+◌, ◌-◌, ◌≤◌, ◌<◌}
use mathlib.Core.Path.{◌≡◌, refl, sym, ap, ap₂, subst, ◌∙◌}
use mathlib.Core.List.Memᴰ
use mathlib.Core.List.{List, [], ◌∷◌, ◌++◌, flat_map, Memᴰ}
use native.Mathlib.Omega.{arith}
use borrow.Author.Tests.{le-ltb}
use lib.ListN.{length, get_or, take, length-append}
use lib.Seq.{length-take-le, take-length, take_all, take-suc, get_or-take}
use Rattle.common.specs.Reply.{given}
use Rattle.common.proofs.Places.{Stands, stands-whole, stands-moved, stands-left, stands-right}
use Rattle.common.proofs.Reply.{clear_both}
use Rattle.common.proofs.Snoc.{length-snoc}
use Rattle.common.proofs.Sums.{flat_map-snoc}
use Rattle.sheet.specs.Record.{record_of}
use Rattle.sheet.specs.Model.{Move, Model, absent_move, machine_count, move_count, mode_count, move_at}
use Rattle.sheet.specs.Model.{with_machine, with_move, with_moves}
use Rattle.sheet.specs.Amend.{Amendment, replace, withdraw, amendment_of, amend, Draft, draft_machine, draft_move}
use Rattle.sheet.specs.Amend.{draft_amended, Acts, Amends, none, more}
use Rattle.sheet.specs.Faults.{move_faults, late_faults, faults_of}
use Rattle.sheet.specs.Valid.{ValidMove, Valid}
use Rattle.sheet.specs.Faulty.{CommandRight}
use Rattle.sheet.specs.Parse.{Parsed, Progress, extended, parse}
use Rattle.sheet.specs.Write.{machine_body, move_body, machine_records, move_records, amendment_record, amended_bytes}
use Rattle.sheet.proofs.Fits.{MoveSize, MovePasses}
use Rattle.sheet.proofs.Valid.{same_move}
use Rattle.sheet.proofs.Passes.{machine-clear, move-clear, end-clear, replace-clear, withdraw-clear}
use Rattle.sheet.proofs.Amended.{acts-some, acts-amend, valid-amended}
use Rattle.sheet.proofs.Bodies.{length-machine_body, length-move_body, move-back}
use Rattle.sheet.proofs.Written.{length-record_of}
use Rattle.sheet.proofs.Series.{Comes, comes-first, comes-moved, comes-next, comes-to-end, Series, comes-through}

-- a move's body has a right length
pub body-size : {m : Model} {v : Move} → ValidMove m v → MoveSize (length (move_body v))
body-size {v = v} ok =
    let few = ok.few-guards in
    let e = length-move_body v in
    record { long = omega arith; short = omega arith; even = omega arith }

module _ (m : Model) where
  -- what is read before machine k, before move k, and with amendments
  abbrev pub first_machines : ℕ → Draft
  first_machines k =
      record { sent = record { modes = take k m.modes; live = take k m.live; moves = [] }; standing = []; amended = 0 }

  abbrev pub first_moves : ℕ → Draft
  first_moves k = record { sent = with_moves m (take k m.moves); standing = take k m.moves; amended = 0 }

  abbrev pub amended_to : List Move → ℕ → Draft
  amended_to moves n = record { sent = m; standing = moves; amended = n }

  module _ (ok : Valid m) where
    pub machine-series : Series 1 (machine_count m) (machine_body m) first_machines
    unfolding faults_of extended with_machine machine_body
    machine-series =
        let live = ok.same_length in
        record {
          short = λ k h. omega (arith, length-machine_body m k);
          clear = λ k at h.
              machine-clear (first_machines k).sent at (machine_body m k)
              (record {
                two_are_bytes = length-machine_body m k;
                no-move-yet = refl;
                room = omega (arith, ok.few-machines, length-take-le k m.modes (omega arith));
                valid = ok.machines-valid k h;
              });
          leads = λ k d start h e.
              ap (λ x. draft_machine x (mode_count m k) (get_or m.live k 0)) e
              ∙ ap₂ (λ xs ys. record { sent = record { modes = xs; live = ys; moves = [] }; standing = []; amended = 0 })
              (sym (take-suc m.modes k 0 h)) (sym (take-suc m.live k 0 (omega arith)));
        }

    -- no earlier move has the same machine, from mode and command
    pub not-before : (k : ℕ) → k < move_count m → CommandRight (first_moves k).sent (move_at m k)
    not-before k h =
        record {
          some = (ok.moves-valid k h).command-given;
          new = λ w l.
              let few = length-take-le k m.moves (omega arith) in
              let early : w < k = omega arith in
              rw (get_or-take k m.moves w absent_move early)
              (λ a b c. omega (arith, ok.moves-distinct w k (omega arith) h a b c));
        }

    pub move-fine : (k : ℕ) → k < move_count m → MovePasses (first_moves k).sent (move_body (move_at m k))
    move-fine k h =
        let v = ok.moves-valid k h in
        record {
          size = body-size v;
          has-machine = omega (arith, v.present);
          room = omega (arith, ok.few-moves, length-take-le k m.moves (omega arith));
          valid = rw move-back (same_move m _ v);
          command = rw move-back (not-before k h);
        }

    pub move-series : Series 2 (move_count m) (λ v. move_body (move_at m v)) first_moves
    unfolding faults_of late_faults extended with_move
    move-series =
        record {
          short = λ k h. omega (arith, (move-fine k h).size.short);
          clear = λ k at h.
              clear_both (move_faults (first_moves k).sent at (move_body (move_at m k))) (late_faults (first_moves k) at)
              (move-clear (first_moves k).sent at (move_body (move_at m k))
              (λ i p. (ok.machines-valid i p).has-mode) (move-fine k h))
              (le-ltb 0 0 (omega arith), tt);
          leads = λ k d start h e.
              ap₂ draft_move e (move-back (move_at m k))
              ∙ ap (λ l. record { sent = with_moves m l; standing = l; amended = 0 }) (sym (take-suc m.moves k absent_move h));
        }

    -- an amendment that acts
    module _ {s : List ℕ} {left at n : ℕ} {moves : List Move} (c : Comes s left at (amended_to moves n))
        (some : 0 < left) (room : n < 64) (valid : Valid (with_moves m moves)) where
      amended-leads : (a : Amendment) {after : List Move} → Acts a moves after → (d : Progress) → d.draft ≡ amended_to moves n
          → draft_amended d.draft (amend d.draft.standing a) ≡ amended_to after (suc n)
      amended-leads a acts d e = rw (e, acts-amend moves a acts valid.moves-distinct)

      pub comes-amended : (a : Amendment) {after : List Move} → Acts a moves after → ((v : Move) → a ≡ replace v → ValidMove m v)
          → Stands s at (amendment_record a) → Comes s (left - 1) (at + length (amendment_record a)) (amended_to after (suc n))
      unfolding faults_of extended amendment_of
      comes-amended (replace v) acts new w =
          let ok-v = new v refl in
          let body = move_body v in
          let size = body-size ok-v in
          let back = move-back v in
          comes-moved
          (comes-next c some 4 body w (omega (arith, size.short)) (omega arith) (λ e. omega arith)
          (replace-clear (amended_to moves n) at body (λ i p. (ok.machines-valid i p).has-mode)
          (record {
            size = (λ k. size, λ k. absurd (let f : ⊥ = omega arith in f));
            valid = λ k. rw back ok-v;
            some = rw back (acts-some moves (replace v) acts);
            room = room;
          }))
          (λ d e. rw back (amended-leads (replace v) acts d e)))
          refl (omega (arith, length-record_of 4 body))
      comes-amended (withdraw machine from command) acts new w =
          let body : List ℕ = machine ∷ from ∷ command ∷ [] in
          comes-moved
          (comes-next c some 5 body w (omega arith) (omega arith) (λ e. omega arith)
          (withdraw-clear (amended_to moves n) at body
          (record {
            size = (λ k. absurd (let f : ⊥ = omega arith in f), λ k. refl);
            valid = λ k. absurd (let f : ⊥ = omega arith in f);
            some = acts-some moves (withdraw machine from command) acts;
            room = room;
          }))
          (λ d e. amended-leads (withdraw machine from command) acts d e))
          refl (omega (arith, length-record_of 5 body))

    -- amendments one after the other
    pub record Through (s : List ℕ) (left at : ℕ) (changes : List Amendment) (moves : List Move) : Type 0 where
      pub valid : Valid (with_moves m moves)
      pub comes : Comes s (left - length changes) (at + length (flat_map amendment_record changes))
          (amended_to moves (length changes))

    pub through-amendments : {s : List ℕ} {left at : ℕ} {changes : List Amendment} {moves : List Move}
        → Comes s left at (amended_to m.moves 0) → length changes < left → length changes ≤ 64
        → ((v : Move) → Memᴰ (replace v) changes → ValidMove m v) → Stands s at (flat_map amendment_record changes)
        → Amends m.moves changes moves → Through s left at changes moves
    unfolding flat_map
    through-amendments c room few new w none =
        record { valid = ok; comes = comes-moved c (omega arith) (omega arith) }
    through-amendments {s} {left} {at} c room few new w (more {changes} {moves} {after} a before acts) =
        let k = length-snoc changes a in
        let e = flat_map-snoc amendment_record changes a in
        let front : List ℕ = flat_map amendment_record changes in
        let both : Stands s at (front ++ amendment_record a) = subst (Stands s at) e w in
        let t =
        through-amendments c (omega arith) (omega arith) (λ v i. new v (Memᴰ.append_left (a ∷ []) i))
        (stands-left front (amendment_record a) both) before in
        let here : (v : Move) → a ≡ replace v → ValidMove m v =
        λ v q. new v (Memᴰ.append_right changes (Memᴰ.head (sym q))) in
        record {
          valid =
              subst (λ l. Valid (with_moves m l)) (acts-amend moves a acts t.valid.moves-distinct)
              (valid-amended m moves a t.valid (acts-some moves a acts) here);
          comes =
              subst (λ n. Comes s (left - length (changes ++ (a ∷ []))) (at + length (flat_map amendment_record (changes ++ (a ∷ [])))) (amended_to after n))
              (sym k)
              (comes-moved
              (comes-amended t.comes (omega arith) (omega arith) t.valid a acts here (stands-right front (amendment_record a) both))
              (omega arith)
              (omega (arith, ap length e, length-append front (amendment_record a))));
        }

    -- the whole file
    module _ {changes : List Amendment} {moves : List Move} (acts : Amends m.moves changes moves)
        (few : length changes ≤ 64) (new : (v : Move) → Memᴰ (replace v) changes → ValidMove m v) where
      abbrev s : List ℕ
      s = amended_bytes m changes

      abbrev tail : List ℕ
      tail = flat_map amendment_record changes

      written : Stands s 0 (machine_records m ++ move_records m ++ tail ++ record_of 3 [])
      unfolding amended_bytes
      written = stands-whole _

      front : Stands s 0 (machine_records m ++ move_records m ++ tail)
      front = stands-left _ (record_of 3 []) written

      sent : Stands s 0 (machine_records m ++ move_records m)
      sent = stands-left _ tail front

      all-machines : first_machines (machine_count m) ≡ first_moves 0
      all-machines =
          ap₂ (λ xs ys. record { sent = record { modes = xs; live = ys; moves = [] }; standing = []; amended = 0 })
          (take-length m.modes) (take_all (machine_count m) m.live (omega (arith, ok.same_length)))

      -- where the moves begin, the amendments, and the end record
      abbrev moves_at : ℕ
      moves_at = 0 + length (machine_records m)

      abbrev tail_at : ℕ
      tail_at = moves_at + length (move_records m)

      abbrev end_at : ℕ
      end_at = tail_at + length tail

      through-machines : Comes s (347 - machine_count m) moves_at (first_moves 0)
      through-machines =
          subst (Comes s (347 - machine_count m) moves_at) all-machines
          (comes-through machine-series (omega arith) (λ e. omega arith) (stands-left (machine_records m) (move_records m) sent)
          (omega (arith, ok.few-machines)) (comes-first s) (machine_count m) (omega arith))

      through-moves : Comes s (347 - machine_count m - move_count m) tail_at (amended_to m.moves 0)
      through-moves =
          subst (Comes s (347 - machine_count m - move_count m) tail_at)
          (ap (λ l. record { sent = with_moves m l; standing = l; amended = 0 }) (take-length m.moves))
          (comes-through move-series (omega arith) (λ e. omega arith) (stands-right (machine_records m) (move_records m) sent)
          (omega (arith, ok.few-machines, ok.few-moves)) through-machines (move_count m) (omega arith))

      tail-stands : Stands s tail_at tail
      tail-stands =
          stands-moved (stands-right (machine_records m ++ move_records m) tail front)
          (omega (arith, length-append (machine_records m) (move_records m)))

      through-tail : Through s (347 - machine_count m - move_count m) tail_at changes moves
      through-tail =
          through-amendments through-moves (omega (arith, ok.few-machines, ok.few-moves)) few new tail-stands acts

      end-stands : Stands s end_at (record_of 3 [])
      end-stands =
          stands-moved (stands-right (machine_records m ++ move_records m ++ tail) (record_of 3 []) written)
          (omega (
            arith,
            length-append (machine_records m ++ move_records m) tail,
            length-append (machine_records m) (move_records m),
          ))

      end-last : length s ≤ end_at + 4
      unfolding amended_bytes
      end-last =
          omega (
            arith,
            length-append (machine_records m ++ move_records m ++ tail) (record_of 3 []),
            length-append (machine_records m ++ move_records m) tail,
            length-append (machine_records m) (move_records m),
            length-record_of 3 [],
          )

      pub file-accepted : 0 < machine_count m → (d : Parsed) × (parse s ≡ given d) × (d.model ≡ with_moves m moves)
      unfolding faults_of
      file-accepted some =
          comes-to-end through-tail.comes (omega (arith, ok.few-machines, ok.few-moves)) end-stands end-last
          (end-clear m _ [] refl some)
