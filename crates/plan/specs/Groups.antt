-- "Groups and their modes": groups, their numbers, and what each group names outside.
-- A grouping is each machine's group number. It is computed here; a plan's kind 16 record writes one too.
use Rattle.std.specs.Prelude.{ℕ, zero, suc, List, map, Bool, cond, not, ◌&&◌, ◌||◌, length, get_or, replicate, eqb, ltb}
use Rattle.common.specs.Lists.{up_to, all, any, filter, find, maximum}
use Rattle.common.specs.Graph.{Graph, Matrix, distances, connected, successors}
use Rattle.sheet.specs.Model.{Move, Model, machine_count, move_count, move_at}
use Rattle.plan.specs.Needs.{need_graph}

abbrev pub Grouping : Type 0
Grouping = List ℕ

abbrev pub group_of : Grouping → ℕ → ℕ
group_of groups i = get_or groups i 0

-- one more than the largest number
unfoldable pub group_count : Grouping → ℕ
group_count groups = maximum (map suc groups)

-- the machines of a group, rising
unfoldable pub members : Grouping → ℕ → List ℕ
members groups k = filter (λ i. eqb (group_of groups i) k) (up_to (length groups))

unfoldable pub smallest_member : Grouping → ℕ → ℕ
smallest_member groups k = find (λ i. eqb (group_of groups i) k) (up_to (length groups)) 0

-- The numbering, over the graph of needs and its distances. A machine that has no number yet has the machine count.
module _ (g : Graph) (d : Matrix) where
  -- each of i and j reaches the other through needs
  unfoldable pub together : ℕ → ℕ → Bool
  together i j = connected d i j && connected d j i

  unfoldable pub numbered : Grouping → ℕ → Bool
  numbered groups i = ltb (group_of groups i) (length g)

  -- the group of i has no number, and every machine that it needs outside has one
  unfoldable pub ready : Grouping → ℕ → Bool
  ready groups i =
      not (numbered groups i)
      && all (λ a. not (together i a) || all (λ j. together i j || numbered groups j) (successors g a)) (up_to (length g))

  -- number k goes to the ready group with the smallest machine
  unfoldable pub with_number : ℕ → Grouping → Grouping
  with_number k groups =
      let i = find (ready groups) (up_to (length g)) (length g) in
      map (λ j. cond (ltb i (length g) && together i j) k (group_of groups j)) (up_to (length g))

  -- the numbers below k are given
  unfoldable pub numbered_upto : ℕ → Grouping
  numbered_upto zero = replicate (length g) (length g)
  numbered_upto (suc k) = with_number k (numbered_upto k)

-- the sheet's own grouping
unfoldable pub groups_of : Model → Grouping
groups_of m =
    let g = need_graph m in
    let d = distances g in
    numbered_upto g d (machine_count m)

-- the moves of a group, by their numbers
unfoldable pub moves_of : Model → Grouping → ℕ → List ℕ
moves_of m groups k = filter (λ v. eqb (group_of groups (move_at m v).machine) k) (up_to (move_count m))

-- move v has a need on group a
unfoldable pub names_group : Grouping → ℕ → Move → Bool
names_group groups a v = any (λ g. eqb (group_of groups g.machine) a) v.guards

-- the outside groups that some moves of group k name, each once
unfoldable pub named_outside : Model → Grouping → ℕ → List ℕ → List ℕ
named_outside m groups k moves =
    filter (λ a. not (eqb a k) && any (λ v. names_group groups a (move_at m v)) moves) (up_to (group_count groups))
