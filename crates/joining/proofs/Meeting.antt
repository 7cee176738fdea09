-- What goals joined mean: the modes that all of them allow to a machine, and the joined goal.
-- Assumes nothing; of a sheet that passes and of goals that pass 14.
use Prim.Native.Nat.{ℕ, ◌^◌, ◌≤◌, ◌<◌}
use mathlib.Core.Path.{◌≡◌, refl, sym, ap, ◌∙◌}
use mathlib.Core.Logic.{◌↔◌}
use mathlib.Core.List.Memᴰ
use mathlib.Core.List.Memᴰ.{head}
use mathlib.Core.List.Memᴰ.{tail}
use mathlib.Core.List.{List, [], ◌∷◌}
use mathlib.Core.Bool.{true, false}
use native.Mathlib.Omega.{arith}
use borrow.Author.Tests.{eqb-false, ne_eqb, ltb-true, ltb-false, lt-ltb}
use lib.Dec.{ltb}
use lib.ListN.{length}
use Rattle.common.specs.Lists.{up_to, all, maximum}
use Rattle.common.specs.Bits.{bit}
use Rattle.common.proofs.Bits.{small-beyond, bit_below, bit-some, bit-full}
use Rattle.common.proofs.Bools.{by_cases, true-false, cond-true, cond-false, false-of-not-true}
use Rattle.common.proofs.Lists.{all-at, all-intro}
use Rattle.common.proofs.Members.{length-map-up_to, get_or-map-up_to}
use Rattle.common.proofs.Sums.{maximum-above}
use Rattle.sets.proofs.Laws.{bit-none}
use Rattle.sheet.specs.Record.{byte}
use Rattle.sheet.specs.Model.{Model, machine_count, mode_count}
use Rattle.sheet.specs.Valid.{Valid}
use Rattle.command.specs.Goal.{wished}
use Rattle.command.specs.TurnedDown.{Sensible}
use Rattle.joining.specs.Join.{Goals, shared_modes, longest_goal, joined, nothing_shared}
use Rattle.joining.specs.Joined.{EachFits, AllAllow, Shared, SomeLonger, JoinRight}
use Rattle.joining.proofs.BitSums.{powers, powers-below, bit-powers, bits-within}

-- what one goal allows: its byte, and past its end every mode of eight
wished-exactly : (goal : List ℕ) (i mode : ℕ) → mode < 8
    → (bit (wished goal i) mode ≡ true) ↔ (i < length goal → bit (byte goal i) mode ≡ true)
wished-exactly goal i mode h = (
  λ b l. sym (ap (λ w. bit w mode) (cond-true _ _ (lt-ltb i (length goal) l))) ∙ b,
  λ b.
      by_cases (ltb i (length goal))
      (λ t. ap (λ w. bit w mode) (cond-true _ _ t) ∙ b (ltb-true _ _ t))
      (λ f. ap (λ w. bit w mode) (cond-false _ _ f) ∙ bit-full mode h),
)

-- some goal is longer than n exactly if the longest is
longer-some : (n : ℕ) (goals : Goals) → n < longest_goal goals → SomeLonger goals n
unfolding longest_goal maximum
longer-some n [] h = absurd (let f : ⊥ = omega arith in f)
longer-some n (goal ∷ goals) h =
    by_cases (ltb n (length goal))
    (λ t. (goal, head refl, ltb-true _ _ t))
    (λ f.
    let short : length goal ≤ n = ltb-false _ _ f in
    let r = longer-some n goals (omega arith) in
    (r.0, tail r.1, r.2))

pub longer-exactly : (n : ℕ) (goals : Goals) → (n < longest_goal goals) ↔ SomeLonger goals n
unfolding longest_goal
longer-exactly n goals = (
  longer-some n goals,
  λ r. let l = maximum-above (Memᴰ.map length r.1) in omega (arith, r.2),
)

module _ (goals : Goals) (i : ℕ) where
  shared-powers : shared_modes goals i ≡ powers (λ mode. all (λ goal. bit (wished goal i) mode) goals) 8
  unfolding shared_modes powers
  shared-powers = refl

  pub shared-byte : shared_modes goals i < 2 ^ 8
  shared-byte = rw shared-powers (powers-below _ 8)

  pub bit-shared : (mode : ℕ) → mode < 8 → bit (shared_modes goals i) mode ≡ all (λ goal. bit (wished goal i) mode) goals
  bit-shared mode h = ap (λ s. bit s mode) shared-powers ∙ bit-powers _ 8 mode h

  -- the modes below 8 that all allow
  shared-exactly : (mode : ℕ) → mode < 8 → (bit (shared_modes goals i) mode ≡ true) ↔ AllAllow goals i mode
  shared-exactly mode h = (
    λ b goal l. (wished-exactly goal i mode h).0 (all-at (λ goal. bit (wished goal i) mode) (sym (bit-shared mode h) ∙ b) l),
    λ a. bit-shared mode h ∙ all-intro _ goals (λ goal l. (wished-exactly goal i mode h).1 (a goal l)),
  )

  shared-below : (mode : ℕ) → bit (shared_modes goals i) mode ≡ true → mode < 8
  shared-below mode b = bit_below 8 (shared_modes goals i) mode (small-beyond 8 (shared_modes goals i) shared-byte) b

  -- a mode that all allow is left
  some-shared : (mode : ℕ) → mode < 8 → AllAllow goals i mode → nothing_shared goals i ≡ false
  unfolding nothing_shared
  some-shared mode h a =
      ne_eqb _ 0 (λ z. true-false ((shared-exactly mode h).1 a) (ap (λ s. bit s mode) z ∙ bit-none mode))

module _ (m : Model) (goals : Goals) (valid : Valid m) (fits : EachFits m goals) where
  -- a machine that a goal names has the modes that all allow, at most eight
  module _ (i : ℕ) (named : SomeLonger goals i) where
    named-machine : i < machine_count m
    named-machine = omega (arith, (fits named.0 named.1).0, named.2)

    named-mode : (mode : ℕ) → AllAllow goals i mode → mode < mode_count m i
    named-mode mode a =
        let goal = named.0 in
        bit_below (mode_count m i) (byte goal i) mode
        (small-beyond _ _ ((fits goal named.1).1 i named.2).1) (a goal named.1 named.2)

    named-few : mode_count m i ≤ 8
    named-few = (valid.machines-valid i named-machine).few-modes

    named-exactly : (mode : ℕ) → (bit (shared_modes goals i) mode ≡ true) ↔ AllAllow goals i mode
    named-exactly mode = (
      λ b. (shared-exactly goals i mode (shared-below goals i mode b)).0 b,
      λ a. (shared-exactly goals i mode (omega (arith, named-mode mode a, named-few))).1 a,
    )

    named_small : shared_modes goals i < 2 ^ mode_count m i
    named_small =
        bits-within (mode_count m i) 8 (shared_modes goals i) (shared-byte goals i)
        (λ mode l. false-of-not-true (λ b. let f : ⊥ = omega (arith, named-mode mode ((named-exactly mode).0 b)) in f))

  -- 19 is exact
  pub left-exactly : (i : ℕ) → (nothing_shared goals i ≡ false) ↔ Shared goals i
  unfolding nothing_shared
  left-exactly i = (
    λ f.
        let s = bit-some 8 (shared_modes goals i) (small-beyond 8 _ (shared-byte goals i)) (eqb-false _ _ f) in
        (s.0, (shared-exactly goals i s.0 s.1).0 s.2),
    λ s.
        by_cases (ltb s.0 8)
        (λ t. some-shared goals i s.0 (ltb-true _ _ t) s.1)
        (λ f. some-shared goals i 0 (omega arith) (λ goal l h. absurd (unnamed s (ltb-false _ _ f) (goal, l, h)))),
  )
    where
      unnamed : (s : Shared goals i) → 8 ≤ s.0 → SomeLonger goals i → ⊥
      unnamed s h named = omega (arith, named-mode i named s.0 s.1, named-few i named)

-- The joined goal
module _ (goals : Goals) where
  pub joined_length : length (joined goals) ≡ longest_goal goals
  unfolding joined
  joined_length = length-map-up_to (shared_modes goals) (longest_goal goals)

  joined-longer : (n : ℕ) → (n < length (joined goals)) ↔ SomeLonger goals n
  joined-longer n = rw joined_length (longer-exactly n goals)

  joined-byte : (i : ℕ) → i < length (joined goals) → byte (joined goals) i ≡ shared_modes goals i
  unfolding joined
  joined-byte i h = get_or-map-up_to (shared_modes goals) 0 (omega (arith, joined_length))

joined-none : joined [] ≡ []
unfolding joined longest_goal maximum up_to
joined-none = refl

-- it is as short as they are
pub joined-short : (m : Model) (goals : Goals) → EachFits m goals → length (joined goals) ≤ machine_count m
joined-short m goals fits =
    let none : ¬ (machine_count m < length (joined goals)) =
    λ l. let r = (joined-longer goals (machine_count m)).0 l in
    omega (arith, (fits r.0 r.1).0, r.2) in
    omega arith

module _ (m : Model) (goals : Goals) (valid : Valid m) (fits : EachFits m goals)
    (left : (i : ℕ) → SomeLonger goals i → Shared goals i) where
  joined-modes : (i mode : ℕ) → i < length (joined goals) → (bit (byte (joined goals) i) mode ≡ true) ↔ AllAllow goals i mode
  joined-modes i mode h =
      rw (joined-byte goals i h) (named-exactly m goals valid fits i ((joined-longer goals i).0 h) mode)

  joined-sensible : (i : ℕ) → i < length (joined goals) → Sensible m (joined goals) i
  unfolding nothing_shared
  joined-sensible i h =
      let named = (joined-longer goals i).0 h in
      rw (joined-byte goals i h) (
        eqb-false _ _ ((left-exactly m goals valid fits i).1 (left i named)),
        named_small m goals valid fits i named,
      )

  pub joined-right : JoinRight m goals (joined goals)
  joined-right =
      record {
        meets = λ some state. (
          λ meets goal l i here h.
              let long = (joined-longer goals i).1 (goal, l, h) in
              (joined-modes i _ long).0 (meets i here long) goal l h,
          λ each i here h. (joined-modes i _ h).1 (λ goal l. each goal l i here),
        );
        none = λ e.
            let nothing = ap joined e ∙ joined-none in
            (nothing, λ state i here h. absurd (let f : ⊥ = omega (arith, ap length nothing) in f));
        passes = (joined-short m goals fits, joined-sensible);
        longest = joined-longer goals;
        modes = joined-modes;
      }
