-- One turn of reading machines and moves: where a whole record that has been judged leads.
-- Assumes nothing.
use Prim.Native.Nat.{ℕ, ◌+◌, ◌-◌, ◌≤◌, ◌<◌}
use mathlib.Core.Path.{◌≡◌, refl, sym, ap, ap₂, ◌∙◌}
use mathlib.Core.Bool.{Bool, true, false, not}
use mathlib.Core.List.{List, [], ◌∷◌, ◌++◌, map, map-append}
use native.Mathlib.Nat.{not-suc-le-zero}
use native.Mathlib.Omega.{arith}
use borrow.Author.Tests.{not-false, lt-ltb, le-ltb}
use lib.Dec.{ltb}
use lib.ListN.{length, get_or, set, take, drop, length-map, get_or-eq_default}
use Rattle.std.specs.Prelude.{Option, Result, Ok, Err, Some}
use Rattle.common.specs.Lists.{any, filter}
use Rattle.common.specs.Reply.{given, refused, fault, unless}
use Rattle.common.proofs.Members.{get_or-map}
use Rattle.common.proofs.Pad.{get_or-pad, length-pad}
use Rattle.common.proofs.Reply.{unless-clear, unless-first}
use Rattle.common.proofs.Snoc.{snoc-each}
use Rattle.sheet.specs.declared.record.Record.{Record}
use Rattle.sheet.specs.declared.refusal.Cause.{Cause}
use Rattle.sheet.specs.declared.index.Sheet.{Sheet}
use Rattle.sheet.specs.Kept.Held.{Counts}
use Rattle.sheet.specs.declared.kind.Kind.{Kind}
use Rattle.sheet.specs.declared.kind.UnknownKind.{UnknownKind}
use Rattle.sheet.specs.declared.kind.Kind.TheVariants.{Machine, Move as Moves, End}
use Rattle.sheet.specs.declared.judge.Machines.{Machines}
use Rattle.sheet.specs.Refusal.{number_of}
use Rattle.sheet.specs.Index.{index_reply}
use Rattle.sheet.specs.Record.{byte, record_at, body_at}
use Rattle.sheet.specs.Model.{Model, machine_count, absent_move, move_of, is_same_move, with_machine, with_move}
use Rattle.sheet.specs.Faults.{machine_faults, late_faults, end_faults}
use Rattle.sheet.specs.Parse.{Progress, finished, more, ended, turn_of, parse_from, parse}
use Rattle.sheet.specs.Kept.Held.{counts_of, fine, judged_of, top_of, own_move_faults, own_faults, Counted, Held}
use Rattle.sheet.specs.Kept.Kinds.{kind_number, NamesKind}
use Rattle.sheet.specs.Kept.Sent.{key_of, Small, Sent, Added}
use Rattle.sheet.specs.Kept.Scanned.{move_there, is_place, Scanned, Amending}
use Rattle.sheet.proofs.Arrays.{fills, one-longer}
use Rattle.sheet.proofs.Closing.{places-kept}
use Rattle.sheet.proofs.Drafts.{with_machine_read, with_move_read}
use Rattle.sheet.proofs.Fits.{MachinePasses}
use Rattle.sheet.proofs.Judging.{passed-small, own-machine, own-move, own-end}
use Rattle.sheet.proofs.Holding.{held-machine, held_move}
use Rattle.sheet.proofs.Keyed.{moved_before, keyed-more}
use Rattle.sheet.proofs.Numbered.{kind-named}
use Rattle.sheet.proofs.Records.{whole-at, body-whole, body-is-bytes}
use Rattle.sheet.proofs.Same.{same-intro}
use Rattle.sheet.proofs.Steps.{repeated, ends-behind, turn-faulty, MoveFits}
use Rattle.sheet.proofs.Steps.{machine-fits, turn-machine, move-fits, turn-move, turn_end}
use Rattle.sheet.proofs.Scanning.{index_kept, left, one_left, leads-on, leads-to-end, leads-to-refusal, index_is}
use Rattle.sheet.proofs.Scanning.{reading-given}

-- a turn: the record at the place is whole
module _ {s : List ℕ} {counts : Counts} {modes lives tops pairs commands owners places : List ℕ} {at : ℕ}
    (h : Scanned s counts modes lives tops pairs commands owners places at) {r : Option Record} {it : Record} (e : r ≡ record_at s at)
    (w : r ≡ Some it) where
  abbrev d : Progress
  d = h.read

  abbrev m : Model
  m = d.draft.sent

  abbrev body : List ℕ
  body = take (it.start + it.len - it.start) (drop it.start s)

  its-body : body ≡ body_at s at
  its-body = body-whole s at e w

  ends_at : it.start + it.len ≡ at + 4 + length body
  ends_at = ends-behind s at d e w its-body

  refuses : {number place : ℕ} → turn_of s at d (record_at s at) ≡ refused number place → parse s ≡ refused number place
  refuses p = leads-to-refusal s (left s h) at d h.leads (one_left s h) p

  -- judged by its own causes
  abbrev Found : Result Unit Cause → Type 0
  Found j = judged_of j at ≡ unless (own_faults m at it.kind body) fine

  faulty : (j : Result Unit Cause) {cause : Cause} → Found j → j ≡ Err cause → parse s ≡ refused (number_of cause) at
  faulty j found q = refuses (turn-faulty s at d e w its-body found q)

  -- a machine
  module _ {t : Result Kind UnknownKind} (kinded : NamesKind it.kind t) {kind : Kind} (is-kind : t ≡ Ok kind)
      (of : kind ≡ Machine) (j : Result Unit Cause)
      (judged : (m : Model) (place : ℕ) → Counted m counts
      → judged_of j place ≡ unless (machine_faults m place (take (it.start + it.len - it.start) (drop it.start s))) fine) where
    of-machine : it.kind ≡ 1
    of-machine = kind-named kinded is-kind ∙ ap kind_number of

    found-machine : Found j
    found-machine = judged m at h.drafted.held.counted ∙ rw (own-machine m at it.kind body of-machine)

    pub machine-faulty : {cause : Cause} → j ≡ Err cause → parse s ≡ refused (number_of cause) at
    machine-faulty q = faulty j found-machine q

    module _ (q : j ≡ Ok tt) where
      passes : MachinePasses m body
      passes = machine-fits s at d e w its-body found-machine q of-machine

      -- its two bytes are there
      pub machine-second : 1 < length body
      machine-second = omega (arith, passes.two_are_bytes)

      -- and a place for it is left
      pub machine-room : counts.machines < 32
      machine-room = omega (arith, passes.room, h.drafted.held.counted.machines-are)

      pub machine-few : byte body 0 ≤ 8
      machine-few = passes.valid.few-modes

      -- one machine more
      module _ {now : Machines} (p : now ≡ record {
        sheet = record {
          machines = counts.machines + 1;
          moves = counts.moves;
          modes = set modes counts.machines (byte body 0);
          live = set lives counts.machines (byte body 1);
          places = places;
        };
        tops = set tops counts.machines (top_of (byte body 0));
      }) where
        pub scan-machine
            : Scanned s (counts_of now.sheet) now.sheet.modes now.sheet.live now.tops pairs commands owners now.sheet.places (it.start + it.len)
        unfolding with_machine
        scan-machine =
            rw p (record {
              read = with_machine_read d body;
              drafted = record {
                held = held-machine m h.drafted.held body passes refl;
                modes-in =
                    fills 32 m.modes (byte body 0) h.drafted.modes-in h.drafted.held.counted.machines-are machine-room;
                keyed = h.drafted.keyed;
              };
              untouched = h.untouched;
              unamended = h.unamended;
              places-in = h.places-in;
              places-are = h.places-are;
              stand = h.stand;
              positive = h.positive;
              started = λ l. omega (arith, ends_at);
              near = omega (arith, ends_at, passes.two_are_bytes, h.near);
              bytes = h.bytes;
              leads =
                  leads-on s (left s h) at d h.leads (one_left s h) _ (omega arith)
                  (turn-machine s at d e w its-body found-machine q of-machine);
            })

  -- a move
  module _ {t : Result Kind UnknownKind} (kinded : NamesKind it.kind t) {kind : Kind} (is-kind : t ≡ Ok kind)
      (of : kind ≡ Moves) (j : Result Unit Cause)
      (judged : (m : Model) (place : ℕ) → Held m counts tops lives
      → judged_of j place ≡ unless (own_move_faults m place (take (it.start + it.len - it.start) (drop it.start s))) fine) where
    of-move : it.kind ≡ 2
    of-move = kind-named kinded is-kind ∙ ap kind_number of

    found-move : Found j
    found-move = judged m at h.drafted.held ∙ rw (own-move m at it.kind body of-move)

    pub move-faulty : {cause : Cause} → j ≡ Err cause → parse s ≡ refused (number_of cause) at
    move-faulty q = faulty j found-move q

    module _ (q : j ≡ Ok tt) where
      move : MoveFits m body
      move = move-fits s at d e w its-body found-move q of-move

      turns_move : turn_of s at d (record_at s at)
          ≡ unless (repeated d.draft at body) (given (more (it.start + it.len) (with_move_read d at body)))
      turns_move = turn-move s at d e w its-body found-move q of-move

      pub move-bytes : 4 ≤ length body
      move-bytes = move.size.long

      pub move-room : counts.moves < 250
      move-room = omega (arith, move.room, h.drafted.held.counted.moves-are)

      -- by whether an earlier one has its key
      module _ {new : Bool} {pairs' commands' owners' : List ℕ}
          (adds : (keys : List ℕ) → Sent keys pairs commands owners → length keys ≡ counts.moves → (byte body 3 ≡ 0 → ⊥)
          → Added keys (key_of (move_of body)) new pairs' commands' owners') where
        a : Added (map key_of m.moves) (key_of (move_of body)) new pairs' commands' owners'
        a =
            adds (map key_of m.moves) h.drafted.keyed.table
            (length-map m.moves key_of ∙ h.drafted.held.counted.moves-are) move.command-given

        small : Small (move_of body)
        small =
            passed-small m body h.drafted.held move.right (rw its-body (body-is-bytes s at (λ i. omega (arith, h.bytes i)) 3))

        same-before : any (is_same_move (move_of body)) m.moves ≡ not new
        same-before = moved_before _ h.drafted.keyed _ small a

        pub scan-repeated : not new ≡ true → parse s ≡ refused 8 at
        scan-repeated y = refuses (turns_move ∙ unless-first (fault 8 at _) _ _ (same-before ∙ y))

        pub scan-move : not new ≡ false
            → Scanned s (record { machines = counts.machines; moves = counts.moves + 1 }) modes lives tops pairs' commands' owners'
            (set places counts.moves at) (it.start + it.len)
        unfolding with_move late_faults move_there
        scan-move n =
            let v = move_of body in
            let early : ltb 0 d.draft.amended ≡ false = rw h.unamended (le-ltb 0 0 (omega arith)) in
            record {
              read = with_move_read d at body;
              drafted = record {
                held = held_move m h.drafted.held v move-room;
                modes-in = h.drafted.modes-in;
                keyed = keyed-more _ h.drafted.keyed v small a (not-false new n);
              };
              untouched = ap (λ l. l ++ (v ∷ [])) h.untouched;
              unamended = h.unamended;
              places-in = fills 250 d.places at h.places-in h.places-are move-room;
              places-are = one-longer d.places at h.places-are;
              stand =
                  ap₂ (λ l b. l ++ (move_of b ∷ [])) h.stand its-body
                  ∙ sym (map-append (move_there s) d.places (at ∷ []));
              positive =
                  snoc-each d.places at 0 (λ v x. 0 < x) h.positive
                  (h.started (omega (arith, move.machine-before, h.drafted.held.counted.machines-are)));
              started = λ l. omega (arith, ends_at);
              near = omega (arith, ends_at, move.size.short, h.near);
              bytes = h.bytes;
              leads =
                  leads-on s (left s h) at d h.leads (one_left s h) _ (omega arith)
                  (turns_move ∙ unless-clear (repeated d.draft at body) _ (same-before ∙ n, (early, tt)));
            }

  -- the end
  module _ {t : Result Kind UnknownKind} (kinded : NamesKind it.kind t) {kind : Kind} (is-kind : t ≡ Ok kind)
      (of : kind ≡ End) (j : Result Unit Cause)
      (judged : (m : Model) (place : ℕ) → machine_count m ≡ counts.machines
      → judged_of j place ≡ unless (end_faults m place (take (it.start + it.len - it.start) (drop it.start s))) fine) where
    of-end : it.kind ≡ 3
    of-end = kind-named kinded is-kind ∙ ap kind_number of

    found-end : Found j
    found-end = judged m at h.drafted.held.counted.machines-are ∙ rw (own-end m at it.kind body of-end)

    pub end-faulty : {cause : Cause} → j ≡ Err cause → parse s ≡ refused (number_of cause) at
    end-faulty q = faulty j found-end q

    module _ (q : j ≡ Ok tt) where
      turns-end : turn_of s at d (record_at s at)
          ≡ unless (fault 3 (it.start + it.len) (ltb (it.start + it.len) (length s)) ∷ []) (given (ended d))
      turns-end = turn_end s at d e w its-body found-end q of-end

      pub scan_trailing : it.start + it.len < length s → parse s ≡ refused 3 (it.start + it.len)
      scan_trailing y = refuses (turns-end ∙ unless-first (fault 3 (it.start + it.len) _) [] _ (lt-ltb _ _ y))

      ended_at : length s ≤ it.start + it.len → parse s ≡ given (finished d)
      ended_at n =
          leads-to-end s (left s h) at d h.leads (one_left s h)
          (turns-end ∙ unless-clear (fault 3 (it.start + it.len) _ ∷ []) _ (le-ltb _ _ n, tt))

      pub scan-given : length s ≤ it.start + it.len → {x : Sheet} → x ≡ index_kept counts modes lives places → given x ≡ index_reply (parse s)
      scan-given n p = reading-given s (ended_at n) (p ∙ index_is s h)

  -- what is none of them begins the tail
  module _ (not-machine : it.kind ≡ 1 → ⊥) (not-Move : it.kind ≡ 2 → ⊥) where
    pub scan-tail : Amending s counts modes lives tops pairs commands owners places 0 at
    scan-tail =
        let there : (v : ℕ) → get_or places v 0 ≡ get_or d.places v 0 =
        λ v. ap (λ l. get_or l v 0) h.places-in ∙ get_or-pad 250 d.places v in
        record {
          read = d;
          drafted = h.drafted;
          amended-are = h.unamended;
          few = omega arith;
          long =
              ap length h.places-in
              ∙ length-pad 250 d.places (omega (arith, h.places-are, h.drafted.held.few-moves));
          left = sym (ap (filter is_place) h.places-in ∙ places-kept d.places h.positive);
          stand = h.stand;
          same = λ v l p.
              let its : get_or m.moves v absent_move ≡ move_there s (get_or d.places v 0) =
              ap (λ l. get_or l v absent_move) (sym h.untouched ∙ h.stand)
              ∙ get_or-map (move_there s) d.places v 0 absent_move (omega (arith, h.places-are)) in
              rw (there v, its) (same-intro (move_there s (get_or d.places v 0)) _ refl refl refl);
          none-behind = λ v l. there v ∙ get_or-eq_default d.places 0 (omega (arith, h.places-are));
          some-move = λ l. absurd (not-suc-le-zero l);
          no-machine = λ l k. not-machine ((whole-at s at (sym e ∙ w)).kind-word ∙ k);
          no_move = λ l k. not-Move ((whole-at s at (sym e ∙ w)).kind-word ∙ k);
          started = λ l. h.started (omega arith);
          near = omega (arith, h.near);
          bytes = h.bytes;
          leads = h.leads ∙ ap (λ n. parse_from n s at d) (omega arith);
        }
