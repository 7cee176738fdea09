-- Writing the joined goal from what all goals allow each machine: 19, 12, or the joined goal in the lent buffer.
-- Assumes nothing.
use Prim.Native.Nat.{ℕ, ◌+◌, ◌≤◌, ◌<◌}
use mathlib.Core.Path.{◌≡◌, sym, ap, ◌∙◌}
use mathlib.Core.List.Memᴰ
use mathlib.Core.List.{List, [], ◌∷◌, map}
use mathlib.Core.Bool.{false}
use native.Mathlib.Omega.{arith}
use borrow.Author.Tests.{lt-ltb, le-ltb}
use lib.Dec.{eqb}
use lib.ListN.{length, get_or, take}
use lib.Seq.{ext_get_or, get_or-take, length-take-le}
use Rattle.common.specs.Lists.{up_to, any, find}
use Rattle.common.specs.Reply.{Reply, given, refused, fault, unless, length_of, output_after}
use Rattle.common.proofs.Members.{up_to-below, length-map-up_to, get_or-map-up_to}
use Rattle.common.proofs.Reply.{first-refuses, unless-clear}
use Rattle.common.proofs.Search.{find-cong, first_some, first-place, first-missing}
use Rattle.common.proofs.Sums.{maximum-is-least}
use Rattle.sheet.specs.Kept.Written.{written}
use Rattle.joining.specs.Kept.Lent.{Splits, SplitsShort}
use Rattle.joining.specs.Join.{Goals, shared_modes, longest_goal, joined, nothing_shared, has_no_room, shared_faults}

-- a refusal leaves all as it was
pub refusal-leaves : {r : Reply (List ℕ)} {n p : ℕ} (s : List ℕ) → refused n p ≡ r → s ≡ output_after r s
refusal-leaves s e = ap (λ r. output_after r s) e

-- bytes written to the front are the output
written-output : (out s : List ℕ) → written 0 out s ≡ output_after (given out) s
unfolding written
written-output out s = let e : 0 + length out ≡ length out = omega arith in rw e

-- the masks are what the goals allow each machine, and n is the length of the longest
pub record MasksOf (goals : Goals) (masks : List ℕ) (n : ℕ) : Type 0 where
  pub size : length masks ≡ 32
  pub each : (i : ℕ) → i < 32 → get_or masks i 0 ≡ shared_modes goals i
  pub count : n ≡ longest_goal goals
  pub few : n ≤ 32

-- as the code finds them
pub masks-of : (lent : List ℕ) {masks : List ℕ} {n : ℕ} → length masks ≡ 32
    → ((goals : Goals) → Splits lent goals → n ≡ longest_goal goals)
    → ((goals : Goals) → SplitsShort lent goals → (i : ℕ) → i < 32 → get_or masks i 0 ≡ shared_modes goals i)
    → (goals : Goals) → SplitsShort lent goals → MasksOf goals masks n
unfolding longest_goal
masks-of lent size longest shares goals h =
    let count = longest goals h.holds in
    let short = maximum-is-least (map length goals) 32
    (λ x l. let r = Memᴰ.of_map length goals l in omega (arith, h.short r.0 r.1, r.2)) in
    record { size = size; each = shares goals h; count = count; few = omega arith }

-- the reply of goals that pass 14
abbrev pub shared_reply : Goals → ℕ → Reply (List ℕ)
shared_reply goals room = unless (shared_faults goals room) (given (joined goals))

module _ {goals : Goals} {masks : List ℕ} {n : ℕ} (of : MasksOf goals masks n) where
  pub masks-within : n ≤ length masks
  masks-within = omega (arith, of.size, of.few)

  pub masks-taken : length (take n masks) ≡ n
  masks-taken = length-take-le n masks masks-within

  masks-joined : take n masks ≡ joined goals
  unfolding joined
  masks-joined =
      rw (← of.count)
      (ext_get_or 0 (take n masks) (map (shared_modes goals) (up_to n))
      (masks-taken ∙ sym (length-map-up_to (shared_modes goals) n))
      (λ i h.
      let l : i < n = omega (arith, masks-taken) in
      get_or-take n masks i 0 l ∙ of.each i (omega (arith, of.few)) ∙ sym (get_or-map-up_to (shared_modes goals) 0 l)))

  module _ (room : ℕ) {without : ℕ} (first : without ≡ find (λ i. eqb (get_or masks i 0) 0) (up_to n) n) where
    first-nothing : without ≡ find (nothing_shared goals) (up_to (longest_goal goals)) (longest_goal goals)
    unfolding nothing_shared
    first-nothing =
        rw (← of.count)
        (first
        ∙ find-cong _ (nothing_shared goals) (up_to n) n
        (λ i l. ap (λ s. eqb s 0) (of.each i (omega (arith, of.few, up_to-below n l)))))

    pub without-refused : without < n → refused 19 without ≡ shared_reply goals room
    unfolding shared_faults
    without-refused h =
        let l : without < longest_goal goals = omega (arith, of.count) in
        sym
        (first-refuses [] (fault 19 _ _) _ _ tt (first_some (nothing_shared goals) first-nothing l)
        ∙ ap (refused 19) (first-place (nothing_shared goals) first-nothing l))

    module _ (h : n ≤ without) where
      none-without : any (nothing_shared goals) (up_to (longest_goal goals)) ≡ false
      none-without = first-missing (nothing_shared goals) first-nothing (omega (arith, of.count))

      pub room-refused : room < n → refused 12 0 ≡ shared_reply goals room
      unfolding shared_faults has_no_room
      room-refused l =
          sym
          (first-refuses (fault 19 _ _ ∷ []) (fault 12 0 _) _ _ (none-without, tt)
          (lt-ltb room (longest_goal goals) (omega (arith, of.count))))

      module _ (l : n ≤ room) where
        shared-given : given (take n masks) ≡ shared_reply goals room
        unfolding shared_faults has_no_room
        shared-given =
            ap given masks-joined
            ∙ sym (unless-clear _ _ (none-without, (le-ltb room (longest_goal goals) (omega (arith, of.count)), tt)))

        pub shared-length : given n ≡ length_of (shared_reply goals room)
        shared-length = ap given (sym masks-taken) ∙ ap length_of shared-given

        pub shared-written : (s : List ℕ) {t : List ℕ} → t ≡ written 0 (take n masks) s
            → t ≡ output_after (shared_reply goals room) s
        shared-written s e = e ∙ written-output (take n masks) s ∙ ap (λ r. output_after r s) shared-given
