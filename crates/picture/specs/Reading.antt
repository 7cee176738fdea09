-- A text taken apart: loosely, by its numbers alone. What is read is judged by writing it again.
use Rattle.std.specs.Prelude.{ℕ, suc, List, [], ◌∷◌, map, Bool, false, cond, not, ◌&&◌, ◌||◌, length, eqb, ltb, leb}
use Rattle.common.specs.Lists.{up_to, all, any, find}
use Rattle.decimal.specs.Decimal.{is_digit, leading_number}
use Rattle.plan.specs.Groups.{group_of, group_count}
use Rattle.picture.specs.Picture.{Picture, edges_by}

-- What the numbers of a text say so far.
pub record Said : Type 0 where
  -- how many numbers of machines, and the group of each
  pub machines : ℕ
  pub group : ℕ → ℕ
  -- which groups are joined, source and target
  pub joined : ℕ → ℕ → Bool
  -- the group that was named last, and whether it waits for the target of an edge
  pub last : ℕ
  pub waits : Bool

abbrev pub said_nothing : Said
said_nothing = record { machines = 0; group = λ i. 0; joined = λ a k. false; last = 0; waits = false }

-- a machine's number: it is of the group that was named last
unfoldable pub and_machine : Said → ℕ → Said
and_machine s i =
    record {
      machines = suc s.machines;
      group = λ j. cond (eqb i j) s.last (s.group j);
      joined = s.joined;
      last = s.last;
      waits = false;
    }

-- a group's number: an edge ends there if the last number was a group's too, where no edge had ended
unfoldable pub and_group : Said → ℕ → Said
and_group s k =
    record {
      machines = s.machines;
      group = s.group;
      joined = λ a b. s.joined a b || s.waits && eqb s.last a && eqb k b;
      last = k;
      waits = not s.waits;
    }

-- a number behind a g is a group's, any other is a machine's
unfoldable pub and_number : ℕ → ℕ → Said → Said
and_number before n s = cond (eqb before 103) (and_group s n) (and_machine s n)

-- what the rest of a text says, behind a byte before it: a number begins at each digit that is behind no other
unfoldable pub said_after : ℕ → List ℕ → Said → Said
said_after before [] s = s
said_after before (b ∷ rest) s =
    let begins = is_digit b && not (is_digit before) in
    said_after b rest (cond begins (and_number before (leading_number (b ∷ rest)) s) s)

unfoldable pub taken_apart : List ℕ → Picture
taken_apart text =
    let s = said_after 0 text said_nothing in
    let groups = map s.group (up_to s.machines) in
    record { groups = groups; edges = edges_by s.joined (group_count groups) }

-- machine i is ready at number k: its group has no number below k, and each group that it needs has one
unfoldable pub ready : Picture → ℕ → ℕ → Bool
ready p k i =
    leb k (group_of p.groups i)
    && not (any (λ e. eqb e.target (group_of p.groups i) && leb k e.source) p.edges)

-- number k is that of the first machine that is ready for it
unfoldable pub in_turn : Picture → ℕ → Bool
in_turn p k =
    let n = length p.groups in
    let i = find (ready p k) (up_to n) n in
    ltb i n && eqb (group_of p.groups i) k

-- 1 to 32 machines, numbers for no more groups, and each number in its turn
unfoldable pub drawable : Picture → Bool
drawable p =
    let n = length p.groups in
    ltb 0 n && leb n 32 && all (λ k. ltb k n) p.groups && all (in_turn p) (up_to (group_count p.groups))
