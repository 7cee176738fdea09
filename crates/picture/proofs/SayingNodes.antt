-- What the lines of nodes say: the machines of the groups, and nothing else.
-- Assumes nothing.
use Prim.Native.Nat.{ℕ, zero, suc, ◌+◌, ◌≤◌, ◌<◌, zero-le}
use mathlib.Core.Path.{◌≡◌, refl, sym, ap, subst, ◌∙◌}
use mathlib.Core.Logic.{⊎_elim}
use mathlib.Core.List.Memᴰ.{head}
use mathlib.Core.List.Memᴰ.{tail}
use mathlib.Core.List.{List, [], ◌∷◌, flat_map, Memᴰ}
use mathlib.Core.Bool.{Bool, false}
use native.Mathlib.Nat.{not-suc-le-zero, eq-or-lt_of_le, le_of_suc-le-suc}
use native.Mathlib.Omega.{arith}
use borrow.Author.Tests.{eqb-true, eqb-false, eq-eqb, ne_eqb, lt-ltb, le-ltb, ltb-true, ltb-false}
use lib.Dec.{eqb, ltb}
use lib.ListN.{length}
use Rattle.common.specs.Lists.{up_to, filter}
use Rattle.common.proofs.Bools.{by_cases, cond-true, cond-false}
use Rattle.common.proofs.Lists.{any-fails, filter_none}
use Rattle.common.proofs.Sums.{flat_map-up_to-suc}
use Rattle.decimal.specs.Meaning.{NoDigitFirst}
use Rattle.plan.specs.Groups.{Grouping, group_of, members}
use Rattle.plan.proofs.ModeDigits.{member_below, member_of, is_member}
use Rattle.picture.specs.Text.{line_start, node_line}
use Rattle.picture.specs.Reading.{Said, said_nothing, and_machine, and_group, said_after}
use Rattle.picture.proofs.Saying.{said-append, break-flat_map, and_machines, said-node}

-- Machines one after the other

machines-counted : (s : Said) (is : List ℕ) → (and_machines s is).machines ≡ s.machines + length is
unfolding and_machines and_machine
machines-counted s [] = omega arith
machines-counted s (i ∷ is) = omega (arith, machines-counted (and_machine s i) is)

machines-joined : (s : Said) (is : List ℕ) (a k : ℕ) → (and_machines s is).joined a k ≡ s.joined a k
unfolding and_machines and_machine
machines-joined s [] a k = refl
machines-joined s (i ∷ is) a k = machines-joined (and_machine s i) is a k

machines-keep : (s : Said) (is : List ℕ) → s.waits ≡ false → (and_machines s is).waits ≡ false
unfolding and_machines and_machine
machines-keep s [] h = h
machines-keep s (i ∷ is) h = machines-keep (and_machine s i) is refl

-- one machine ends the wait
machines-still : (s : Said) (is : List ℕ) → 0 < length is → (and_machines s is).waits ≡ false
unfolding and_machines and_machine
machines-still s [] h = absurd (not-suc-le-zero h)
machines-still s (i ∷ is) h = machines-keep (and_machine s i) is refl

-- a machine that has the last group keeps it
machines-stay : (s : Said) (is : List ℕ) (i : ℕ) → s.group i ≡ s.last → (and_machines s is).group i ≡ s.last
unfolding and_machines and_machine
machines-stay s [] i e = e
machines-stay s (j ∷ is) i e =
    machines-stay (and_machine s j) is i (by_cases (eqb j i) (λ t. cond-true _ _ t) (λ f. cond-false _ _ f ∙ e))

machines-in : {i : ℕ} (s : Said) {is : List ℕ} → Memᴰ i is → (and_machines s is).group i ≡ s.last
unfolding and_machines and_machine
machines-in {i = i} s {is = []} x'' = elim x'' [ ]
machines-in {i} s {is = j ∷ is} (head e) = machines-stay (and_machine s j) is i (cond-true _ _ (eq-eqb j i (sym e)))
machines-in {i} s {is = j ∷ is} (tail m) = machines-in (and_machine s j) m

machines-out : (s : Said) (i : ℕ) (is : List ℕ) → (Memᴰ i is → ⊥) → (and_machines s is).group i ≡ s.group i
unfolding and_machines and_machine
machines-out s i [] h = refl
machines-out s i (j ∷ is) h =
    machines-out (and_machine s j) i is (λ m. h (tail m)) ∙ cond-false _ _ (ne_eqb j i (λ e. h (head (sym e))))

-- The groups below k

-- one more number: those below it, and those that are it
count_next : (f : ℕ → ℕ) (k : ℕ) (xs : List ℕ)
    → length (filter (λ i. ltb (f i) (suc k)) xs)
    ≡ length (filter (λ i. ltb (f i) k) xs) + length (filter (λ i. eqb (f i) k) xs)
unfolding filter
count_next f k [] = omega arith
count_next f k (x ∷ xs) =
    let rest = count_next f k xs in
    by_cases (ltb (f x) k)
    (λ t.
    let l = ltb-true (f x) k t in
    rw (t, lt-ltb (f x) (suc k) (omega arith), ne_eqb (f x) k (omega arith)) (omega arith))
    (λ n.
    by_cases (eqb (f x) k)
    (λ t. let e = eqb-true (f x) k t in rw (n, t, lt-ltb (f x) (suc k) (omega arith)) (omega arith))
    (λ o.
    let l = ltb-false (f x) k n in
    rw (n, o, le-ltb (f x) (suc k) (omega (arith, eqb-false (f x) k o))) (omega arith)))

module _ (groups : Grouping) where
  -- how many machines are in the groups below k
  abbrev below : ℕ → ℕ
  below k = length (filter (λ i. ltb (group_of groups i) k) (up_to (length groups)))

  pub record Numbered (k : ℕ) (s : Said) : Type 0 where
    pub counted : s.machines ≡ below k
    pub numbered : (i : ℕ) → i < length groups → group_of groups i < k → s.group i ≡ group_of groups i
    pub none : (a b : ℕ) → s.joined a b ≡ false
    pub still : s.waits ≡ false

  numbered-none : Numbered 0 said_nothing
  numbered-none =
      record {
        counted =
            let machines = up_to (length groups) in
            let low : ℕ → Bool = λ i. ltb (group_of groups i) 0 in
            let none = any-fails low machines (λ i m. le-ltb (group_of groups i) 0 zero-le) in
            sym (ap length (filter_none low machines none));
        numbered = λ i h l. absurd (not-suc-le-zero l);
        none = λ a b. refl;
        still = refl;
      }

  numbered_next : (k : ℕ) {s : Said} → 0 < length (members groups k) → Numbered k s
      → Numbered (suc k) (and_machines (and_group s k) (members groups k))
  unfolding and_group members
  numbered_next k {s} some old =
      let is = members groups k in
      record {
        counted =
            let more = count_next (group_of groups) k (up_to (length groups)) in
            omega (arith, machines-counted (and_group s k) is, old.counted);
        numbered = λ i h l.
            ⊎_elim
            (λ e. machines-in (and_group s k) (is_member groups k h e) ∙ sym e)
            (λ b.
            machines-out (and_group s k) i is (λ m. let f : ⊥ = omega (arith, member_of groups k m) in f)
            ∙ old.numbered i h b)
            (eq-or-lt_of_le (le_of_suc-le-suc l));
        none = λ a b. machines-joined (and_group s k) is a b ∙ rw (old.none a b, old.still);
        still = machines-still (and_group s k) is some;
      }

  node-break : (k : ℕ) → NoDigitFirst (node_line groups k)
  unfolding node_line line_start
  node-break k l a b = omega arith

  pub nodes-break : (k : ℕ) → NoDigitFirst (flat_map (node_line groups) (up_to k))
  nodes-break k = break-flat_map (node_line groups) (up_to k) node-break

  pub said-nodes : (k : ℕ) → length groups ≤ 65536 → k ≤ 65536 → ((j : ℕ) → j < k → 0 < length (members groups j))
      → Numbered k (said_after 0 (flat_map (node_line groups) (up_to k)) said_nothing)
  unfolding flat_map up_to said_after
  said-nodes zero few small some = numbered-none
  said-nodes (suc k) few small some =
      let before = said_after 0 (flat_map (node_line groups) (up_to k)) said_nothing in
      let same = ap (λ text. said_after 0 text said_nothing) (flat_map-up_to-suc (node_line groups) k)
      ∙ said-append 0 (flat_map (node_line groups) (up_to k)) (node_line groups k) said_nothing (node-break k)
      ∙ said-node groups k before (omega arith) (λ i m. omega (arith, member_below groups k m)) in
      subst (Numbered (suc k)) (sym same)
      (numbered_next k (some k (omega arith)) (said-nodes k few (omega arith) (λ j l. some j (omega arith))))
