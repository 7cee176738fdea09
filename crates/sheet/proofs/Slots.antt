-- The table of keys: a search for one, and one more.
-- Assumes nothing.
use Prim.Native.Nat.{ℕ, ◌+◌, ◌-◌, ◌*◌, ◌%◌, ◌≤◌, ◌<◌}
use mathlib.Core.Path.{◌≡◌, refl, sym, ap, subst, ◌∙◌}
use mathlib.Core.Bool.{Bool, true, false, not}
use mathlib.Core.List.Memᴰ.{head}
use mathlib.Core.List.Memᴰ.{tail}
use mathlib.Core.List.{List, [], ◌∷◌, ◌++◌, Memᴰ}
use native.Mathlib.Omega.{arith}
use mir.Val.{Fits}
use mir.Syntax.{w8}
use borrow.Author.Tests.{eqb-true, eqb-false, ltb-true, ltb-false, lt-ltb, le-ltb, eq-eqb, ne_eqb}
use lib.Dec.{eqb, ltb}
use lib.ListN.{length, get_or, set, replicate, length-set, get_or-append}
use lib.Seq.{get_or-set_same, get_or-set_other, get_or_at}
use Rattle.common.specs.Lists.{any}
use Rattle.common.proofs.Bools.{by_cases, true-false}
use Rattle.common.proofs.Lists.{any-intro, any-fails, covers-length}
use Rattle.common.proofs.Members.{mem_index, mem-get_or}
use Rattle.common.proofs.Pad.{get_or-zeros}
use Rattle.common.proofs.Snoc.{length-snoc, snoc-each}
use Rattle.sheet.specs.Record.{byte}
use Rattle.sheet.specs.Model.{Move, move_of}
use Rattle.sheet.specs.Kept.Sent.{key_of, slot_of, behind, key_at, Reached, Stands, Owned, Sent, Sought, Added}

-- a search has come to a slot: it has passed by taken ones, none of which holds the key
pub record Seeking (pairs commands : List ℕ) (key at : ℕ) : Type 0 where
  pub far : ℕ
  pub near : far < 512
  pub place : at ≡ behind (slot_of key) far
  pub taken : (e : ℕ) → e < far → 0 < get_or commands (behind (slot_of key) e) 0
  pub passed : (e : ℕ) → e < far → key_at pairs commands (behind (slot_of key) e) ≡ key → ⊥

-- how many slots are left for it
unfoldable pub slots_left : ℕ → ℕ → ℕ
slots_left key at = 511 - (at + 512 - slot_of key) % 512

-- the key in a slot is the key of a move
pub owned-mem : {keys pairs commands owners : List ℕ} {slot : ℕ} → Owned keys pairs commands owners slot
    → Memᴰ (key_at pairs commands slot) keys
owned-mem o = rw (← o.key) (mem-get_or _ _ 0 o.below)

pub own-slot : (key : ℕ) → slot_of key < 512
unfolding slot_of
own-slot key = omega arith

pub seek-first : (pairs commands : List ℕ) (key : ℕ) {at : ℕ} → at ≡ slot_of key → Seeking pairs commands key at
unfolding behind
seek-first pairs commands key e =
    record {
      far = 0;
      near = omega arith;
      place = omega (arith, own-slot key);
      taken = λ i l. let no : ⊥ = omega arith in absurd no;
      passed = λ i l. let no : ⊥ = omega arith in absurd no;
    }

pub seek-inside : {pairs commands : List ℕ} {key at : ℕ} → Seeking pairs commands key at → at < 512
unfolding behind
seek-inside s = omega (arith, s.place)

module _ {keys pairs commands owners : List ℕ} (h : Sent keys pairs commands owners) (key : ℕ) {at : ℕ}
    (s : Seeking pairs commands key at) where
  reached : Reached commands key at
  reached = record { far = s.far; place = s.place; taken = s.taken }

  module _ (o : get_or commands at 0 ≡ 0 → ⊥) where
    t : 0 < get_or commands at 0
    t = omega arith

    taken-too : (e : ℕ) → e ≤ s.far → 0 < get_or commands (behind (slot_of key) e) 0
    taken-too e l =
        by_cases (ltb e s.far) (λ y. s.taken e (ltb-true _ _ y)) (λ n.
        let same : e ≡ s.far = omega (arith, ltb-false e s.far n) in
        rw (same, ← s.place) t)

    -- not every slot is taken
    not_last : s.far < 511
    unfolding behind
    not_last =
        by_cases (ltb s.far 511) (λ y. ltb-true _ _ y) (λ n.
        let last : s.far ≡ 511 = omega (arith, ltb-false s.far 511 n, s.near) in
        let all = covers-length 512 h.places (λ k l.
        let far : ℕ = (k + 512 - slot_of key) % 512 in
        let there : behind (slot_of key) far ≡ k = omega (arith, own-slot key) in
        h.listed k (subst (λ x. 0 < get_or commands x 0) there (taken-too far (omega arith)))) in
        let no : ⊥ = omega (arith, all, h.one_each, h.few) in absurd no)

    module _ {next : ℕ} (n : next ≡ (at + 1) % 512) where
      pub seek-less : slots_left key next < slots_left key at
      unfolding slots_left behind
      seek-less = omega (arith, s.place, not_last, own-slot key)

      pub seek-next : {b : Bool} → b ≡ eqb (key_at pairs commands at) key → b ≡ false → Seeking pairs commands key next
      unfolding behind
      seek-next e f =
          let other = eqb-false (key_at pairs commands at) key (sym e ∙ f) in
          record {
            far = s.far + 1;
            near = omega (arith, not_last);
            place = omega (arith, s.place);
            taken = λ e l. taken-too e (omega arith);
            passed = λ e l.
                by_cases (ltb e s.far) (λ y. s.passed e (ltb-true _ _ y)) (λ k.
                let same : e ≡ s.far = omega (arith, ltb-false e s.far k) in
                rw (same, ← s.place) other);
          }

    -- the key is found
    pub seek_found : {b : Bool} → b ≡ eqb (key_at pairs commands at) key → b ≡ true → Sought keys pairs commands key at
    seek_found e y =
        let same = eqb-true (key_at pairs commands at) key (sym e ∙ y) in
        record {
          inside = seek-inside s;
          reached = reached;
          tells =
              any-intro (eqb key) (owned-mem (h.held at t)) (eq-eqb key _ (sym same))
              ∙ sym (lt-ltb 0 (get_or commands at 0) t);
          holds = λ _. same;
        }

  -- a slot is free, so the key is not there
  module _ (f : get_or commands at 0 ≡ 0) where
    not_there : (j : ℕ) → j < length keys → get_or keys j 0 ≡ key → ⊥
    not_there j l e =
        let p : Stands pairs commands key = subst (Stands pairs commands) e (h.stands j l) in
        let r = p.reached in
        by_cases (ltb r.far s.far)
        (λ y. s.passed r.far (ltb-true _ _ y) (rw (← r.place) p.there))
        (λ n.
        by_cases (ltb s.far r.far)
        (λ y.
        let t = r.taken s.far (ltb-true _ _ y) in
        let free : get_or commands (behind (slot_of key) s.far) 0 ≡ 0 = rw (← s.place) f in
        omega arith)
        (λ k.
        let same : r.far ≡ s.far = omega (arith, ltb-false r.far s.far n, ltb-false s.far r.far k) in
        let one : p.slot ≡ at = r.place ∙ ap (behind (slot_of key)) same ∙ sym s.place in
        let t : 0 < get_or commands at 0 = rw (← one) p.taken in
        omega arith))

    pub seek-free : Sought keys pairs commands key at
    seek-free =
        record {
          inside = seek-inside s;
          reached = reached;
          tells =
              any-fails (eqb key) keys (λ x m.
              let i = mem_index 0 m in
              ne_eqb key x (λ e. not_there i.0 i.1 (i.2 ∙ sym e)))
              ∙ sym (le-ltb 0 (get_or commands at 0) (omega arith));
          holds = λ t. let no : ⊥ = omega arith in absurd no;
        }

-- no key yet
pub sent-nothing : Sent [] (replicate 512 0) (replicate 512 0) (replicate 512 0)
sent-nothing =
    record {
      few = omega arith;
      pairs-long = refl;
      commands-long = refl;
      owners-long = refl;
      held = λ k t. let no : ⊥ = omega (arith, get_or-zeros 512 k) in absurd no;
      stands = λ j l. let no : ⊥ = omega arith in absurd no;
      places = [];
      one_each = refl;
      listed = λ k t. let no : ⊥ = omega (arith, get_or-zeros 512 k) in absurd no;
    }

-- one more key, in a free slot
module _ {keys pairs commands owners : List ℕ} (h : Sent keys pairs commands owners) (pair command : ℕ) {at number : ℕ}
    (s : Sought keys pairs commands (256 * pair + command) at) (free : get_or commands at 0 ≡ 0) (given : 0 < command)
    (last : length keys ≡ number) (room : number < 250) where
  abbrev key : ℕ
  key = 256 * pair + command

  abbrev pairs' : List ℕ
  pairs' = set pairs at pair

  abbrev commands' : List ℕ
  commands' = set commands at command

  abbrev owners' : List ℕ
  owners' = set owners at number

  other-stays : (k : ℕ) → (k ≡ at → ⊥) → get_or commands' k 0 ≡ get_or commands k 0
  other-stays k o = get_or-set_other commands at k command 0 o

  other_key : (k : ℕ) → (k ≡ at → ⊥) → key_at pairs' commands' k ≡ key_at pairs commands k
  unfolding key_at
  other_key k o = rw (other-stays k o, get_or-set_other pairs at k pair 0 o)

  new-command : get_or commands' at 0 ≡ command
  new-command = get_or-set_same commands at command 0 (omega (arith, s.inside, h.commands-long))

  new-key : key_at pairs' commands' at ≡ key
  unfolding key_at
  new-key = rw (new-command, get_or-set_same pairs at pair 0 (omega (arith, s.inside, h.pairs-long)))

  not_free : (k : ℕ) → 0 < get_or commands k 0 → k ≡ at → ⊥
  not_free k t e =
      let z : get_or commands k 0 ≡ 0 = rw e free in
      omega arith

  reached-stays : {k slot : ℕ} → Reached commands k slot → Reached commands' k slot
  reached-stays r =
      record {
        far = r.far;
        place = r.place;
        taken = λ e l. rw (other-stays _ (not_free _ (r.taken e l))) (r.taken e l);
      }

  stands-stays : {k : ℕ} → Stands pairs commands k → Stands pairs' commands' k
  stands-stays p =
      let o = not_free p.slot p.taken in
      record {
        slot = p.slot;
        reached = reached-stays p.reached;
        taken = rw (other-stays p.slot o) p.taken;
        there = other_key p.slot o ∙ p.there;
      }

  owned-new : Owned (keys ++ (key ∷ [])) pairs' commands' owners' at
  owned-new =
      let is : get_or owners' at 0 ≡ number = get_or-set_same owners at number 0 (omega (arith, s.inside, h.owners-long)) in
      record { below = omega (arith, length-snoc keys key); key = rw is (get_or_at keys key [] 0 number last ∙ sym new-key) }

  owned-stays : {k : ℕ} → (k ≡ at → ⊥) → Owned keys pairs commands owners k
      → Owned (keys ++ (key ∷ [])) pairs' commands' owners' k
  owned-stays {k} o w =
      let is : get_or owners' k 0 ≡ get_or owners k 0 = get_or-set_other owners at k number 0 o in
      record {
        below = omega (arith, length-snoc keys key, w.below);
        key = rw is (get_or-append keys (key ∷ []) 0 _ w.below ∙ w.key ∙ sym (other_key k o));
      }

  sent-more : Sent (keys ++ (key ∷ [])) pairs' commands' owners'
  sent-more =
      record {
        few = omega (arith, length-snoc keys key);
        pairs-long = length-set pairs at pair ∙ h.pairs-long;
        commands-long = length-set commands at command ∙ h.commands-long;
        owners-long = length-set owners at number ∙ h.owners-long;
        held = λ k t.
            by_cases (eqb k at) (λ y. rw (eqb-true k at y) owned-new) (λ n.
            let o = eqb-false k at n in
            owned-stays o (h.held k (rw (other-stays k o) at t)));
        stands =
            snoc-each keys key 0 (λ j x. Stands pairs' commands' x) (λ j l. stands-stays (h.stands j l))
            (record { slot = at; reached = reached-stays s.reached; taken = rw new-command given; there = new-key });
        places = at ∷ h.places;
        one_each = omega (arith, h.one_each, length-snoc keys key);
        listed = λ k t.
            by_cases (eqb k at) (λ y. head (eqb-true k at y)) (λ n.
            tail (h.listed k (rw (other-stays k (eqb-false k at n)) at t)));
      }

-- what adding a key answers, by the slot where the search for it ends
module _ {keys pairs commands : List ℕ} {k key at : ℕ} (e : k ≡ key) (s : Sought keys pairs commands k at) where
  -- whether a move has the key
  pub seek-tells : any (eqb key) keys ≡ ltb 0 (get_or commands at 0)
  seek-tells = rw (← e) s.tells

  pub seek-taken : not (eqb (get_or commands at 0) 0) ≡ any (eqb key) keys
  seek-taken =
      by_cases (eqb (get_or commands at 0) 0)
      (λ y. rw (y, seek-tells) (sym (le-ltb 0 (get_or commands at 0) (omega (arith, eqb-true (get_or commands at 0) 0 y)))))
      (λ n.
      let o = eqb-false (get_or commands at 0) 0 n in
      rw (n, seek-tells) (sym (lt-ltb 0 (get_or commands at 0) (omega arith))))

  pub added-not : (pairs' commands' owners' : List ℕ) → (get_or commands at 0 ≡ 0 → ⊥)
      → Added keys key false pairs' commands' owners'
  added-not pairs' commands' owners' t =
      record {
        earlier = seek-tells ∙ lt-ltb 0 (get_or commands at 0) (omega arith);
        sent = λ y. absurd (true-false y refl);
      }

pub added_new : {keys pairs commands owners : List ℕ} (pair command : ℕ) {key at number : ℕ} → 256 * pair + command ≡ key
    → Sent keys pairs commands owners → Sought keys pairs commands (256 * pair + command) at → get_or commands at 0 ≡ 0
    → (command ≡ 0 → ⊥) → length keys ≡ number → number < 250
    → Added keys key true (set pairs at pair) (set commands at command) (set owners at number)
added_new {commands = commands} pair command {at = at} e h s free given last room =
    record {
      earlier = seek-tells e s ∙ le-ltb 0 (get_or commands at 0) (omega arith);
      sent = λ y. rw (← e) (sent-more h pair command s free (omega arith) last room);
    }

-- the key that a move's body writes
pub body-key : (body : List ℕ) (pair : ℕ)
    → ((v : Move) → v.machine ≡ byte body 0 → v.from ≡ byte body 1 → v.command < 256 → 256 * pair + v.command ≡ key_of v)
    → ((i : ℕ) → Fits w8 (byte body i)) → 256 * pair + byte body 3 ≡ key_of (move_of body)
unfolding move_of
body-key body pair is bytes = is (move_of body) refl refl (omega (arith, bytes 3))

-- a slot holds a key where both bytes are the same
module _ (pairs commands : List ℕ) (at pair command : ℕ) (small : get_or commands at 0 < 256) (byte : command < 256) where
  pub other-command : (get_or commands at 0 ≡ command → ⊥) → false ≡ eqb (key_at pairs commands at) (256 * pair + command)
  unfolding key_at
  other-command o =
      sym (ne_eqb (key_at pairs commands at) (256 * pair + command) (λ e.
      let f : 256 * get_or pairs at 0 + get_or commands at 0 ≡ 256 * pair + command = e in
      o (omega arith)))

  pub same-command : {b : Bool} → get_or commands at 0 ≡ command → b ≡ eqb (get_or pairs at 0) pair
      → b ≡ eqb (key_at pairs commands at) (256 * pair + command)
  unfolding key_at
  same-command c e =
      e
      ∙ by_cases (eqb (get_or pairs at 0) pair)
      (λ y.
      let f : 256 * get_or pairs at 0 + get_or commands at 0 ≡ 256 * pair + command =
      omega (arith, eqb-true (get_or pairs at 0) pair y) in
      y ∙ sym (eq-eqb (key_at pairs commands at) _ f))
      (λ n. n ∙ sym (ne_eqb (key_at pairs commands at) (256 * pair + command) (λ q.
      let f : 256 * get_or pairs at 0 + get_or commands at 0 ≡ 256 * pair + command = q in
      eqb-false (get_or pairs at 0) pair n (omega arith))))
