-- The lent goals from a place on: the goal that begins there, where it lies within the slice, and the goals behind it. A loop
-- over the goals: those that are still to come.
-- Assumes nothing.
use Prim.Native.Nat.{ℕ, zero, suc, ◌+◌, ◌-◌, ◌≤◌, ◌<◌}
use mathlib.Core.Path.{◌≡◌, refl, sym, ◌∙◌}
use mathlib.Core.List.{List, [], ◌∷◌}
use native.Mathlib.Numerals.{add-one}
use native.Mathlib.Omega.{arith}
use borrow.Author.Tests.{lt-ltb, le-ltb}
use lib.Dec.{ltb}
use lib.ListN.{length, drop, drop_of_length-le, length-drop}
use lib.Seq.{drop-cons, drop-drop}
use Rattle.common.specs.Reply.{given, refused, fault, unless, and_then}
use Rattle.common.proofs.Reply.{given-not-refused, unless-first, unless-clear, given-clear, and_then-given}
use Rattle.sheet.specs.Record.{byte, part}
use Rattle.joining.specs.Join.{Goals, most_goals, goals_in}
use Rattle.joining.specs.Kept.Coming.{Front}
use Rattle.joining.specs.Kept.Lent.{Splits}
use Rattle.joining.proofs.Slices.{goal-whole}

given_is : {a b : Goals} → given a ≡ given b → a ≡ b
given_is e = cc

none-in : (n : ℕ) → goals_in n [] ≡ given []
unfolding goals_in
none-in zero = refl
none-in (suc n) = refl

module _ (lent : List ℕ) (at : ℕ) where
  pub none_left : (n : ℕ) → length lent ≤ at → goals_in n (drop at lent) ≡ given []
  none_left n h = rw (drop_of_length-le lent h) (none-in n)

  module _ (l : at < length lent) where
    opened : drop at lent ≡ byte lent at ∷ drop (at + 1) lent
    opened = rw add-one (drop-cons lent at 0 l)

    pub one-too-many : goals_in 0 (drop at lent) ≡ refused 14 255
    unfolding goals_in
    one-too-many = rw opened

    -- the goal that begins here before those behind it
    next-goal : (n : ℕ) → goals_in (suc n) (drop at lent)
        ≡ unless (fault 14 255 (ltb (length lent - (at + 1)) (byte lent at)) ∷ [])
        (and_then (goals_in n (drop (at + 1 + byte lent at) lent))
        (λ goals. given (part lent (at + 1) (byte lent at) ∷ goals)))
    unfolding goals_in part
    next-goal n = rw (opened, length-drop, drop-drop)

    pub next-cut : (n : ℕ) → length lent < at + 1 + byte lent at → goals_in (suc n) (drop at lent) ≡ refused 14 255
    next-cut n h = next-goal n ∙ unless-first _ _ _ (lt-ltb (length lent - (at + 1)) (byte lent at) (omega arith))

    pub next-whole : (n : ℕ) → at + 1 + byte lent at ≤ length lent → goals_in (suc n) (drop at lent)
        ≡ and_then (goals_in n (drop (at + 1 + byte lent at) lent))
        (λ goals. given (part lent (at + 1) (byte lent at) ∷ goals))
    next-whole n h = next-goal n ∙ unless-clear _ _ (le-ltb (length lent - (at + 1)) (byte lent at) (omega arith), tt)

-- the goal at the front of some goals, and those behind it
record Split (goal others : List ℕ) (goals : Goals) : Type 0 where
  pub most : ℕ
  pub later : Goals
  pub behind : goals_in most others ≡ given later
  pub are : goals ≡ goal ∷ later

split : {rest goal others : List ℕ} (n : ℕ) {goals : Goals} → Front rest goal others → goals_in n rest ≡ given goals
    → Split goal others goals
unfolding goals_in
split zero f e = absurd (given-not-refused (sym (rw f.are at e)))
split (suc n) f e =
    let q = rw f.are at e in
    let g = and_then-given _ _ (sym (goal-whole n f.len f.tail (given-clear _ _ q).0) ∙ q) in
    record { most = n; later = g.0; behind = rw f.behind g.1; are = rw f.first (given_is (sym g.2)) }

-- the slice holds one list of goals
pub holds_same : (lent : List ℕ) {a b : Goals} → Splits lent a → Splits lent b → a ≡ b
holds_same lent h k = given_is (sym h ∙ k)

-- a slice of goals of which the rest is still to be read: the goals in it, and what is known of all and of these
pub record ReadTo (lent rest : List ℕ) (Known : Goals → Goals → Type 0) : Type 0 where
  pub every : Goals
  pub holds : Splits lent every
  pub most : ℕ
  pub left : Goals
  pub goes : goals_in most rest ≡ given left
  pub known : Known every left

module _ {lent : List ℕ} (Known : Goals → Goals → Type 0) where
  pub read_none : (every : Goals) → Splits lent every → Known every every → ReadTo lent lent Known
  read_none every h k =
      record { every = every; holds = h; most = most_goals; left = every; goes = h; known = k }

  module _ {rest : List ℕ} (r : ReadTo lent rest Known) where
    module _ {goal others : List ℕ} (f : Front rest goal others) where
      pub read_first : {every : Goals} → Splits lent every → (later : Goals) × Known every (goal ∷ later)
      read_first h =
          let s = split r.most f r.goes in
          (s.later, rw (holds_same lent h r.holds, ← s.are) r.known)

      pub read_next : (Further : Goals → Goals → Type 0)
          → ((every later : Goals) → Known every (goal ∷ later) → Further every later) → ReadTo lent others Further
      read_next Further further =
          let s = split r.most f r.goes in
          record {
            every = r.every;
            holds = r.holds;
            most = s.most;
            left = s.later;
            goes = s.behind;
            known = further r.every s.later (rw s.are at r.known);
          }

    pub read-end : {every : Goals} → rest ≡ [] → Splits lent every → Known every []
    read-end z h = rw (holds_same lent h r.holds, given_is (sym (none-in r.most) ∙ rw z at r.goes)) r.known
