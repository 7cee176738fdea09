-- Replies and refusals. A refusal is one number of document 01's table and one place.
use Rattle.std.specs.Prelude.{ℕ, List, [], ◌∷◌, ◌++◌, Bool, cond, not, ltb, length, drop}
use Rattle.common.specs.Lists.{all}

pub data Reply (A : Type 0) : Type 0 where
  given : A → Reply A
  refused : ℕ → ℕ → Reply A

-- a cause: its number, its place, and whether it applies
pub record Fault : Type 0 where
  pub number : ℕ
  pub place : ℕ
  pub applies : Bool

abbrev pub fault : ℕ → ℕ → Bool → Fault
fault number place applies = record { number = number; place = place; applies = applies }

-- none of the causes applies
unfoldable pub clear : List Fault → Bool
clear faults = all (λ f. not f.applies) faults

module _ {A : Type 0} where
  -- the refusal by the first cause that applies, or else the reply
  unfoldable pub unless : List Fault → Reply A → Reply A
  unless [] r = r
  unless (f ∷ fs) r =
      let later = unless fs r in
      cond f.applies (refused f.number f.place) later

  -- go on with what is given; a refusal stays
  unfoldable pub and_then : {B : Type 0} → Reply A → (A → Reply B) → Reply B
  and_then (given a) f = f a
  and_then (refused number place) f = refused number place

-- 12: a list does not fit the buffer that is lent for it
unfoldable pub fitted : List ℕ → ℕ → Reply (List ℕ)
fitted out room = unless (fault 12 0 (ltb room (length out)) ∷ []) (given out)

-- a call that writes a list into a longer buffer: it replies the list's length
abbrev pub length_of : Reply (List ℕ) → Reply ℕ
length_of (given out) = given (length out)
length_of (refused number place) = refused number place

-- and leaves the list with what stood behind it, or all as it was
abbrev pub output_after : Reply (List ℕ) → List ℕ → List ℕ
output_after (given out) before = out ++ drop (length out) before
output_after (refused number place) before = before
