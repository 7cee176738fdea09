-- What the words of this crate mean, each said without its own definition: lists, bits, distances and replies.
-- A statement of every type A cannot stand in a contract, so contracts take A to be ℕ; the proofs take any A.
use Rattle.std.specs.Prelude.{ℕ, ◌+◌, ◌*◌, ◌^◌, ◌≤◌, ◌<◌, max, ◌≡◌, ◌↔◌, ◌⊎◌, Bool, true, false, cond, length, get_or}
use mathlib.Core.List.{List, [], ◌∷◌, ◌++◌, map, Memᴰ}
use Rattle.common.specs.Lists.{up_to, all, any, filter, position, find, sum, product, maximum, pad}
use Rattle.common.specs.Bits.{bit, beyond}
use Rattle.common.specs.Graph.{Graph, Chain, Shortest, distances, between, connected}
use Rattle.common.specs.Reply.{Reply, given, refused, Fault, clear, unless, and_then, output_after}

pub record ListsRight (A : Type 0) : Type 0 where
  -- n numbers, and i is in place i
  pub up_to-length : (n : ℕ) → length (up_to n) ≡ n
  pub up_to-at : (n i d : ℕ) → i < n → get_or (up_to n) i d ≡ i
  -- of each member, of some member
  pub all-exactly : (p : A → Bool) (xs : List A) → (all p xs ≡ true) ↔ ((x : A) → Memᴰ x xs → p x ≡ true)
  pub any-exactly : (p : A → Bool) (xs : List A) → (any p xs ≡ true) ↔ ((x : A) × Memᴰ x xs × (p x ≡ true))
  -- the members that, in their order, as often as they stand there
  pub filter-members : (p : A → Bool) (xs : List A) (x : A) → Memᴰ x (filter p xs) ↔ (Memᴰ x xs × (p x ≡ true))
  pub filter-one : (p : A → Bool) (x : A) → filter p (x ∷ []) ≡ cond (p x) (x ∷ []) []
  pub filter-both : (p : A → Bool) (xs ys : List A) → filter p (xs ++ ys) ≡ filter p xs ++ filter p ys
  -- the least place that, and where there is none the length
  pub position-least : (p : A → Bool) (xs : List A) (i : ℕ) (d : A) → i < length xs → p (get_or xs i d) ≡ true
      → ((j : ℕ) → j < i → p (get_or xs j d) ≡ false) → position p xs ≡ i
  pub position-none : (p : A → Bool) (xs : List A) → ((x : A) → Memᴰ x xs → p x ≡ false) → position p xs ≡ length xs
  -- the member there, and where there is none the default
  pub find-least : (p : A → Bool) (xs : List A) (i : ℕ) (d : A) → i < length xs → p (get_or xs i d) ≡ true
      → ((j : ℕ) → j < i → p (get_or xs j d) ≡ false) → find p xs d ≡ get_or xs i d
  pub find_none : (p : A → Bool) (xs : List A) (d : A) → ((x : A) → Memᴰ x xs → p x ≡ false) → find p xs d ≡ d
  -- of no number, of one, of all of two lists
  pub sum-none : sum [] ≡ 0
  pub sum_one : (n : ℕ) → sum (n ∷ []) ≡ n
  pub sum_both : (xs ys : List ℕ) → sum (xs ++ ys) ≡ sum xs + sum ys
  pub product-none : product [] ≡ 1
  pub product-one : (n : ℕ) → product (n ∷ []) ≡ n
  pub product-both : (xs ys : List ℕ) → product (xs ++ ys) ≡ product xs * product ys
  -- no member is larger, and it is 0 or a member
  pub maximum-above : (xs : List ℕ) (n : ℕ) → Memᴰ n xs → n ≤ maximum xs
  pub maximum-among : (xs : List ℕ) → (maximum xs ≡ 0) ⊎ Memᴰ (maximum xs) xs
  -- the list, and zeros behind it up to n numbers
  pub pad-length : (n : ℕ) (xs : List ℕ) → length (pad n xs) ≡ max n (length xs)
  pub pad-at : (n : ℕ) (xs : List ℕ) (i : ℕ) → i < length xs → get_or (pad n xs) i 0 ≡ get_or xs i 0
  pub pad-behind : (n : ℕ) (xs : List ℕ) (i : ℕ) → length xs ≤ i → get_or (pad n xs) i 0 ≡ 0

pub record BitsRight : Type 0 where
  -- a number is the sum of its bits' worths
  pub worths : (n s : ℕ) → s < 2 ^ n → s ≡ sum (map (λ i. cond (bit s i) (2 ^ i) 0) (up_to n))
  -- a set has no mode at or past n exactly if it is below 2 ^ n
  pub none-beyond : (n s : ℕ) → (beyond n s ≡ false) ↔ (s < 2 ^ n)

pub record DistancesRight : Type 0 where
  -- two nodes are connected exactly if some chain leads from the one to the other
  pub connected-exactly : (g : Graph) (p q : ℕ) → q < length g
      → (connected (distances g) p q ≡ true) ↔ ((d : ℕ) × Chain g d p q)
  -- and then their distance is that of a shortest
  pub shortest : (g : Graph) (p q : ℕ) → connected (distances g) p q ≡ true → Shortest g (between (distances g) p q) p q

pub record RepliesRight (A B : Type 0) : Type 0 where
  -- no cause applies
  pub clear-exactly : (fs : List Fault) → (clear fs ≡ true) ↔ ((f : Fault) → Memᴰ f fs → f.applies ≡ false)
  -- the reply, where no cause applies
  pub unless-none : (fs : List Fault) (r : Reply A) → ((f : Fault) → Memᴰ f fs → f.applies ≡ false)
      → unless fs r ≡ r
  -- the refusal by cause n, where it applies and none before it does
  pub unless-first : (fs : List Fault) (r : Reply A) (n : ℕ) (d : Fault) → n < length fs → (get_or fs n d).applies ≡ true
      → ((i : ℕ) → i < n → (get_or fs i d).applies ≡ false)
      → unless fs r ≡ refused (get_or fs n d).number (get_or fs n d).place
  -- what is given goes on, and a refusal stays
  pub goes_on : (a : A) (f : A → Reply B) → and_then (given a) f ≡ f a
  pub stays : (n p : ℕ) (f : A → Reply B) → and_then (refused n p) f ≡ refused n p

-- What a call leaves in the lent buffer: what it gives, behind it what was there, and all as it was if it is refused.
pub record OutputLeft (reply : Reply (List ℕ)) (before : List ℕ) : Type 0 where
  pub written : (out : List ℕ) (i : ℕ) → reply ≡ given out → i < length out
      → get_or (output_after reply before) i 0 ≡ get_or out i 0
  pub behind : (out : List ℕ) (i : ℕ) → reply ≡ given out → length out ≤ i
      → get_or (output_after reply before) i 0 ≡ get_or before i 0
  pub as_long : length (output_after reply before) ≡ length before
  pub kept : (n p : ℕ) → reply ≡ refused n p → output_after reply before ≡ before
