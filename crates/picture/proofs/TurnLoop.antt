-- The loop that judges the numbers of groups, from the last down, by sets of machines.
-- Assumes nothing.
use Prim.Native.Nat.{ℕ, ◌-◌, ◌^◌, ◌<◌}
use mathlib.Core.Path.{◌≡◌, refl, sym, ap, ◌∙◌}
use mathlib.Core.List.{List}
use mathlib.Core.Bool.{Bool, true, false, not, ◌&&◌, ◌||◌, and-true}
use native.Mathlib.Omega.{arith}
use mathlib.Core.Logic.{⊎_elim}
use borrow.Author.Tests.{eqb-true, eq-eqb, leb-true, leb-false, le-leb, lt-leb, not-true, not-false}
use lib.Dec.{eqb, leb}
use lib.ListN.{length, get_or}
use Rattle.common.specs.Bits.{bit}
use Rattle.common.specs.Lists.{up_to, all}
use Rattle.common.proofs.Bools.{by_cases, bool-ext, or_left, or_right, or_cases}
use Rattle.sets.specs.Kept.Sets.{union, less, least}
use Rattle.sets.proofs.Laws.{bit-none, bit-union, bit-less, less-from}
use Rattle.search.specs.Kept.Search.{Union}
use Rattle.plan.specs.Groups.{group_of}
use Rattle.plan.specs.Kept.Partition.{MemberSets}
use Rattle.plan.proofs.Named.{group-below-count}
use Rattle.picture.specs.Reading.{in_turn}
use Rattle.picture.specs.Kept.Shown.{shown, Shows}
use Rattle.picture.proofs.ReadySets.{number_fits, turn_is, TurnsFrom, turns-none, turn-waits, turns_next, turn-fails}
use Rattle.picture.proofs.TurnSets.{MachinesIn, no-machines, machines-joined, machines-without, members-are}
use Rattle.picture.proofs.TurnSets.{union-is, turn-by-set}

-- the numbers from k on are in turn; the machines of these groups, and those of groups that need one of them
pub record TurnSets (numbers targets : List ℕ) (k waiting later held : ℕ) : Type 0 where
  pub turns : TurnsFrom numbers targets k waiting
  pub later-are : MachinesIn numbers (leb k) later
  pub held-are : MachinesIn numbers (bit waiting) held

module _ {numbers targets : List ℕ} (s : Shows numbers targets) where
  pub sets-none : TurnSets numbers targets (length targets) 0 0 0
  sets-none =
      record {
        turns = turns-none numbers targets;
        later-are = no-machines numbers (λ i h.
            lt-leb (length targets) (group_of numbers i) (omega (arith, group-below-count numbers i h, s.all-groups)));
        held-are = no-machines numbers (λ i h. bit-none _);
      }

  module _ {members : List ℕ} (m : MemberSets numbers members) {k waiting later held : ℕ}
      (u : TurnSets numbers targets k waiting later held) (some : 0 < k) where
    low : k - 1 < 32
    low = omega (arith, u.turns.inside, s.few-groups, some)

    new-groups : {new : ℕ} → new ≡ less (get_or targets (k - 1) 0) waiting → (g : ℕ) → bit new g ≡ true → g < 32
    new-groups e g t =
        omega (arith, s.inside (k - 1) g (less-from _ waiting g (ap (λ x. bit x g) (sym e) ∙ t)), s.few-groups)

    pub groups-inside : {new : ℕ} → new ≡ less (get_or targets (k - 1) 0) waiting → length members ≡ 32 → (g : ℕ)
        → bit new g ≡ true → g < length members
    groups-inside e long g t = omega (arith, new-groups e g t)

    from-one-less : (g : ℕ) → (leb k g || eqb g (k - 1)) ≡ leb (k - 1) g
    from-one-less g =
        bool-ext
        (λ t.
        ⊎_elim
        (λ a. le-leb (k - 1) g (omega (arith, leb-true k g a)))
        (λ a. le-leb (k - 1) g (omega (arith, eqb-true g (k - 1) a)))
        (or_cases (leb k g) _ t))
        (λ t.
        by_cases (leb k g)
        (λ a. or_left _ a)
        (λ a. or_right (leb k g) (eq-eqb g (k - 1) (omega (arith, leb-false k g a, leb-true (k - 1) g t, some)))))

    module _ {new waiting' later' added held' : ℕ} (n : new ≡ less (get_or targets (k - 1) 0) waiting)
        (w : waiting' ≡ union waiting (get_or targets (k - 1) 0)) (l : later' ≡ union later (get_or members (k - 1) 0))
        (a : Union members new added) (h : held' ≡ union held added) where
      later-next : MachinesIn numbers (leb (k - 1)) later'
      later-next =
          machines-joined numbers u.later-are (members-are numbers m (number_fits s) (k - 1) low) from-one-less l

      held_next : MachinesIn numbers (bit waiting') held'
      held_next =
          machines-joined numbers u.held-are (union-is numbers m (number_fits s) (new-groups n) a)
          (λ g.
          rw (n, w, bit-less, bit-union)
          (by_cases (bit waiting g) (λ t. rw t refl) (λ f. rw f (and-true (bit (get_or targets (k - 1) 0) g)))))
          h

      module _ {ready : ℕ} {b : Bool} (r : ready ≡ less later' held') (fits : ready < 2 ^ 64)
          (e : b ≡ (not (eqb ready 0) && eqb (get_or numbers (least ready) 0) (k - 1))) where
        ready-is : MachinesIn numbers (λ g. leb (k - 1) g && not (bit waiting' g)) ready
        ready-is = machines-without numbers later-next held_next r

        turn : b ≡ in_turn (shown numbers targets) (k - 1)
        turn =
            e ∙ turn-by-set numbers waiting' (k - 1) fits ready-is
            ∙ turn_is s (turn-waits numbers targets u.turns some w)

        pub sets-next : not b ≡ false → TurnSets numbers targets (k - 1) waiting' later' held'
        sets-next t =
            record {
              turns = turns_next numbers targets u.turns some w (sym turn ∙ not-false _ t);
              later-are = later-next;
              held-are = held_next;
            }

        pub sets-fail : not b ≡ true → false ≡ all (in_turn (shown numbers targets)) (up_to (length targets))
        sets-fail f = turn-fails numbers targets u.turns some w (sym turn ∙ not-true _ f)
