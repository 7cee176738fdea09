-- A file of bytes that passes is exactly machines, moves, amendments and the end: between two records, the file so far is
-- the records of what was read so far.
-- Assumes nothing.
use Prim.Native.Nat.{ℕ, suc, ◌+◌, ◌<◌}
use mathlib.Core.Path.{◌≡◌, refl, sym, ap, ap₂, subst, ◌∙◌}
use mathlib.Core.Logic.{◌⊎◌, ⊎_elim}
use mathlib.Core.List.Memᴰ
use mathlib.Core.List.{List, [], ◌∷◌, ◌++◌, flat_map, append_assoc, append-nil, Memᴰ}
use native.Mathlib.Omega.{arith}
use borrow.Author.Tests.{eqb-true}
use lib.ListN.{length, take, get_or-append}
use lib.Seq.{get_or_at, take_all}
use Rattle.common.specs.Lists.{up_to}
use Rattle.common.specs.Reply.{given}
use Rattle.common.proofs.Snoc.{length-snoc}
use Rattle.common.proofs.Sums.{flat_map-up_to-more, flat_map-snoc}
use Rattle.sheet.specs.Record.{whole}
use Rattle.sheet.specs.Record.{byte, record_at, part, record_of}
use Rattle.sheet.specs.Model.{Move, Model, absent_move, machine_count, move_count, move_at, move_of, with_machine, with_move}
use Rattle.sheet.specs.Amend.{Amendment, replace, amendment_of, Draft, Amends, none, more}
use Rattle.sheet.specs.Valid.{ValidMove}
use Rattle.sheet.specs.Parse.{Parsed, Progress, outset, finished, extended, ended, turn_of, parse}
use Rattle.sheet.specs.Write.{machine_body, move_body, machine_records, move_records, amendment_record, amended_bytes}
use Rattle.sheet.specs.Meaning.{Amended}
use Rattle.sheet.proofs.Amended.{amend-acts}
use Rattle.sheet.proofs.Bodies.{machine-body-back, move-body-back, withdraw-body-back}
use Rattle.sheet.proofs.Drafts.{Passing, machine, move, amendment, passing, replaces}
use Rattle.sheet.proofs.Drafts.{with_machine_read, with_move_read, reads-machine, reads-move, reads-amendment}
use Rattle.sheet.proofs.Fits.{MachinePasses, MoveSize, AmendmentPasses}
use Rattle.sheet.proofs.Parsed.{Sound, sound-start, sound-turn, end-passes}
use Rattle.sheet.proofs.Stops.{Stop, at-end, Stopped, Keeps, reading-stops}
use Rattle.sheet.proofs.Turns.{goes_on, ends, turn-whole}
use Rattle.sheet.proofs.Written.{record-taken}

-- the records of a model, without the end
abbrev pub records_of : Model → List ℕ
records_of m = machine_records m ++ move_records m

pub no-moves-yet : (m : Model) → move_count m ≡ 0 → records_of m ≡ machine_records m
unfolding flat_map up_to
no-moves-yet m early =
    ap (λ n. machine_records m ++ flat_map (λ v. record_of 2 (move_body (move_at m v))) (up_to n)) early
    ∙ append-nil (machine_records m)

module _ (m : Model) where
  machines-more : (a b : ℕ) → length m.live ≡ machine_count m
      → machine_records (with_machine m a b) ≡ machine_records m ++ record_of 1 (a ∷ b ∷ [])
  unfolding with_machine machine_body
  machines-more a b paired =
      let n = machine_count m in
      let new = with_machine m a b in
      ap (λ k. flat_map (λ i. record_of 1 (machine_body new i)) (up_to k)) (length-snoc m.modes a)
      ∙ flat_map-up_to-more (λ i. record_of 1 (machine_body m i)) (λ i. record_of 1 (machine_body new i)) n
      (λ i h.
      ap₂ (λ x y. record_of 1 (x ∷ y ∷ [])) (get_or-append m.modes (a ∷ []) 0 i h)
      (get_or-append m.live (b ∷ []) 0 i (omega arith)))
      ∙ ap₂ (λ x y. machine_records m ++ record_of 1 (x ∷ y ∷ [])) (get_or_at m.modes a [] 0 n refl)
      (get_or_at m.live b [] 0 n paired)

  -- one more machine, before the moves
  pub machine-recorded : (a b : ℕ) → length m.live ≡ machine_count m → move_count m ≡ 0
      → records_of (with_machine m a b) ≡ records_of m ++ record_of 1 (a ∷ b ∷ [])
  unfolding with_machine
  machine-recorded a b paired early =
      no-moves-yet (with_machine m a b) early ∙ machines-more a b paired
      ∙ ap (λ l. l ++ record_of 1 (a ∷ b ∷ [])) (sym (no-moves-yet m early))

  moves_more : (v : Move) → move_records (with_move m v) ≡ move_records m ++ record_of 2 (move_body v)
  unfolding with_move
  moves_more v =
      let n = move_count m in
      let new = with_move m v in
      ap (λ k. flat_map (λ i. record_of 2 (move_body (move_at new i))) (up_to k)) (length-snoc m.moves v)
      ∙ flat_map-up_to-more (λ i. record_of 2 (move_body (move_at m i))) (λ i. record_of 2 (move_body (move_at new i))) n
      (λ i h. ap (λ x. record_of 2 (move_body x)) (get_or-append m.moves (v ∷ []) absent_move i h))
      ∙ ap (λ x. move_records m ++ record_of 2 (move_body x)) (get_or_at m.moves v [] absent_move n refl)

  -- one more move
  pub move-recorded : (v : Move) → records_of (with_move m v) ≡ records_of m ++ record_of 2 (move_body v)
  unfolding with_move machine_body
  move-recorded v =
      ap (λ l. machine_records m ++ l) (moves_more v)
      ∙ sym (append_assoc (machine_records m) (move_records m) (record_of 2 (move_body v)))

-- a record that was read writes what it stands for
module _ (m : Model) (body : List ℕ) where
  pub machine-written : length m.live ≡ machine_count m → MachinePasses m body
      → records_of m ++ record_of 1 body ≡ records_of (with_machine m (byte body 0) (byte body 1))
  machine-written paired c =
      ap (λ l. records_of m ++ record_of 1 l) (sym (machine-body-back body c.two_are_bytes))
      ∙ sym (machine-recorded m (byte body 0) (byte body 1) paired c.no-move-yet)

  pub move-written : MoveSize (length body) → records_of m ++ record_of 2 body ≡ records_of (with_move m (move_of body))
  move-written c =
      ap (λ l. records_of m ++ record_of 2 l) (sym (move-body-back body c)) ∙ sym (move-recorded m (move_of body))

pub amendment-written : {x : Draft} (kind : ℕ) (body : List ℕ) → AmendmentPasses x kind body → (kind ≡ 4) ⊎ (kind ≡ 5)
    → record_of kind body ≡ amendment_record (amendment_of kind body)
unfolding amendment_of
amendment-written kind body c k =
    ⊎_elim
    (λ e. rw e (ap (record_of 4) (sym (move-body-back body (c.size.0 e)))))
    (λ e. rw e (ap (record_of 5) (sym (withdraw-body-back body (c.size.1 e)))))
    k

-- the amendments so far: what they make of the moves that were sent, and the file up to here
pub record Exact (s : List ℕ) (at : ℕ) (d : Progress) : Type 0 where
  pub sound : Sound s at d
  pub changes : List Amendment
  pub counted : length changes ≡ d.draft.amended
  pub acts : Amends d.draft.sent.moves changes d.draft.standing
  pub replacements-valid : (v : Move) → Memᴰ (replace v) changes → ValidMove d.draft.sent v
  pub taken : take at s ≡ records_of d.draft.sent ++ flat_map amendment_record changes

-- without amendments
pub record Unamended (s : List ℕ) (at : ℕ) (x : Draft) : Type 0 where
  pub none : x.amended ≡ 0
  pub same : x.standing ≡ x.sent.moves
  pub taken : take at s ≡ records_of x.sent

module _ (s : List ℕ) (at : ℕ) (d : Progress) (sound : Sound s at d) where
  pub unamended-exact : Unamended s at d.draft → Exact s at d
  unfolding flat_map
  unamended-exact h =
      record {
        sound = sound;
        changes = [];
        counted = sym h.none;
        acts = subst (Amends d.draft.sent.moves []) (sym h.same) none;
        replacements-valid = λ v i. absurd (Memᴰ.not-nil i);
        taken = h.taken ∙ sym (append-nil (records_of d.draft.sent));
      }

  pub exact-unamended : Exact s at d → d.draft.amended ≡ 0 → Unamended s at d.draft
  unfolding flat_map
  exact-unamended h e =
      let empty : h.changes ≡ [] = sym (take_all 0 h.changes (omega (arith, h.counted))) in
      record {
        none = e;
        same = sound.valid.untouched e;
        taken =
            h.taken ∙ ap (λ l. records_of d.draft.sent ++ flat_map amendment_record l) empty
            ∙ append-nil (records_of d.draft.sent);
      }

module _ (s : List ℕ) (bytes : (i : ℕ) → byte s i < 256) where
  pub exact-start : Exact s 0 outset
  unfolding flat_map up_to
  exact-start = unamended-exact s 0 outset (sound-start s) (record { none = refl; same = refl; taken = refl })

  -- one record more
  module _ (at : ℕ) (d : Progress) (kind start len next : ℕ) (w : record_at s at ≡ whole kind start len)
      (behind : start + len ≡ next) (h : Exact s at d) where
    abbrev x : Draft
    x = d.draft

    abbrev body : List ℕ
    body = part s start len

    abbrev grown : Progress
    grown = extended d kind at body

    up-to : take next s ≡ take at s ++ record_of kind body
    up-to = ap (λ i. take i s) (sym behind) ∙ record-taken s bytes at w

    exact-on : Sound s next grown → Passing x kind body → Exact s next grown
    unfolding with_machine with_move
    exact-on sound (machine k c) =
        let u = exact-unamended s at d h.sound h (h.sound.valid.quiet c.no-move-yet) in
        let e : grown ≡ with_machine_read d body = rw k (reads-machine d at body) in
        unamended-exact s next grown sound
        (rw e
        (record {
          none = u.none;
          same = u.same;
          taken =
              up-to ∙ rw k (ap (λ l. l ++ record_of 1 body) u.taken)
              ∙ machine-written x.sent body h.sound.valid.sent.same_length c;
        }))
    exact-on sound (move k c early) =
        let u = exact-unamended s at d h.sound h early in
        let e : grown ≡ with_move_read d at body = rw k (reads-move d at body) in
        unamended-exact s next grown sound
        (rw e
        (record {
          none = u.none;
          same = ap (λ l. l ++ (move_of body ∷ [])) u.same;
          taken =
              up-to ∙ rw k (ap (λ l. l ++ record_of 2 body) u.taken) ∙ move-written x.sent body c.size;
        }))
    exact-on sound (amendment k c) =
        let a = amendment_of kind body in
        let e = reads-amendment d at body kind k in
        let replaced : (v : Move) → Memᴰ (replace v) (h.changes ++ (a ∷ [])) → ValidMove x.sent v =
        λ v i.
        ⊎_elim (λ l. h.replacements-valid v l)
        (λ r.
        let q = replaces kind body (sym (Memᴰ.eq_of_singleton r)) in
        subst (ValidMove x.sent) q.1 (c.valid q.0))
        (Memᴰ.append_cases h.changes i) in
        record {
          sound = sound;
          changes = h.changes ++ (a ∷ []);
          counted = rw e (length-snoc h.changes a ∙ ap suc h.counted);
          acts = rw e (more a h.acts (amend-acts x.standing a c.some));
          replacements-valid = rw e replaced;
          taken =
              rw e
              (up-to ∙ ap₂ ◌++◌ h.taken (amendment-written kind body c k)
              ∙ append_assoc (records_of x.sent) (flat_map amendment_record h.changes) (amendment_record a)
              ∙ ap (λ l. records_of x.sent ++ l) (sym (flat_map-snoc amendment_record h.changes a)));
        }

  pub exact-turn : Keeps s (Exact s)
  exact-turn at d kind start len next e w q h =
      let g = goes_on s at d kind start len q in
      let sound = sound-turn s at d kind start len next e w q h.sound in
      subst (Exact s next) g.reads
      (exact-on at d kind start len next w g.goes-behind h (rw g.reads sound)
      (passing d.draft at kind (part s start len) g.clear g.no_end))

  pub end-exact : (at : ℕ) (d : Progress) {e : Progress} → Exact s at d
      → turn_of s at d (record_at s at) ≡ given (ended e) → Amended s (finished e).model
  unfolding amended_bytes
  end-exact at d h q =
      let w = turn-whole s at d (record_at s at) q in
      let k = ends s at d w.kind w.start w.len w.turn in
      let body = part s w.start w.len in
      let c = end-passes d.draft at w.kind body k.is-end k.clear in
      let none : body ≡ [] = sym (take_all 0 body (omega (arith, c.0))) in
      rw (← k.keeps)
      (record {
        sent = d.draft.sent;
        changes = h.changes;
        bytes =
            sym (take_all (w.start + w.len) s k.nothing-behind) ∙ record-taken s bytes at w.whole
            ∙ ap₂ ◌++◌ h.taken (ap₂ record_of (eqb-true w.kind 3 k.is-end) none);
        valid = h.sound.valid.sent;
        has-machine = c.1;
        few = omega (arith, h.counted, h.sound.few);
        replacements-valid = h.replacements-valid;
        same-modes = refl;
        same_live = refl;
        acts = h.acts;
      })

  pub stopped-exact : (d : Parsed) → Stopped s (Exact s) (given d) → Amended s d.model
  stopped-exact d r = go r.stop
    where
      go : Stop s r.place r.before (given d) → Amended s d.model
      go (at-end q e) = subst (λ x. Amended s x.model) e (end-exact r.place r.before r.kept q)

  pub parse-exact : {d : Parsed} → parse s ≡ given d → Amended s d.model
  unfolding parse
  parse-exact {d} q =
      let r = reading-stops s (Exact s) exact-turn 347 0 outset exact-start in
      stopped-exact d (subst (Stopped s (Exact s)) q r)
