-- Planning into the front of a buffer: the part that is lent, the plan that is then in it, and its bound.
-- Assumes nothing.
use Prim.Native.Nat.{ℕ, ◌-◌, ◌≤◌, ◌<◌, min}
use mathlib.Core.Path.{◌≡◌, refl, sym, ap, ◌∙◌}
use mathlib.Core.List.{List, ◌++◌}
use native.Mathlib.Omega.{arith}
use lib.ListN.{length, take, drop, take-append-drop}
use lib.Seq.{length-take-le, take_at}
use Rattle.std.specs.Prelude.{Result, Ok, Err}
use Rattle.common.specs.Reply.{Reply, given, refused, and_then, output_after}
use Rattle.common.proofs.Reply.{and_then-given, given-not-refused}
use Rattle.sheet.specs.Refusal.{number_of, measured_of}
use Rattle.sheet.specs.Parse.{Parsed, parse}
use Rattle.sheet.specs.declared.refusal.Refusal.{Refusal}
use Rattle.plan.specs.Groups.{group_count, groups_of}
use Rattle.plan.specs.Bytes.{table_at, plan_length}
use Rattle.plan.specs.Planning.{length_reply, plan_reply, buffer_after, scratch_after}
use Rattle.plan.specs.Reading.{bound_in}
use Rattle.plan.specs.Kept.Outline.{bound_at}
use Rattle.plan.specs.Says.{planned_of, told_reply}
use Rattle.plan.proofs.Planned.{planned}
use Rattle.plan.proofs.Planning.{plan-accepted}
use Rattle.plan.proofs.RecordTests.{bound-at}
use Rattle.command.specs.Walk.{bound_written}
use Rattle.command.specs.declared.walking.Started.{Started}
use Rattle.command.specs.Walking.{started, plan_front, start_reply}
use Rattle.command.proofs.Turns.{length_most}

-- The lent part

module _ (bytes n : ℕ) (buffer : List ℕ) (e : n ≡ min bytes (length buffer)) where
  pub lent_length : n ≡ length (take n buffer)
  lent_length = sym (length-take-le n buffer (omega arith))

  -- what was lent is then at the front
  module _ (part : List ℕ) (same : length part ≡ length (take n buffer)) where
    front-part : take n (part ++ drop n buffer) ≡ part
    front-part = take_at part (drop n buffer) n (same ∙ sym lent_length)

    pub front_length : n ≡ length (take n (part ++ drop n buffer))
    front_length = lent_length ∙ sym same ∙ ap length (sym front-part)

-- it is no longer than a plan
pub lent-near : (sheet : List ℕ) (bytes n whole : ℕ) → n ≡ min bytes whole → length_reply sheet ≡ given bytes
    → n - 12 < 4294967296
lent-near sheet bytes n whole e told = omega (arith, length_most sheet told)

-- A plan that is given fills its buffer, and its bound stands before its end

record Filled (sheet plan : List ℕ) (n scratch : ℕ) : Type 0 where
  pub gives : plan_reply sheet n scratch ≡ given plan
  pub fills : n ≡ length plan
  pub end-inside : 12 ≤ n
  pub bound : bound_at plan (n - 12) ≡ bound_written (parse sheet) plan

module _ (sheet plan : List ℕ) (n scratch : ℕ) (gives : plan_reply sheet n scratch ≡ given plan) where
  read-filled : (d : Parsed) → parse sheet ≡ given d → Filled sheet plan n scratch
  unfolding plan_length
  read-filled d read =
      let right = planned sheet plan n scratch d read gives in
      let room = (plan-accepted sheet d read n scratch gives).right-buffer in
      let at : ℕ = table_at d.model (groups_of d.model) (group_count (groups_of d.model)) in
      let place : n - 12 ≡ at = omega arith in
      let back : bound_at plan at ≡ bound_in d.model plan = rw right.own-groups at (bound-at d.model plan) in
      record {
        gives = gives;
        fills = omega (arith, right.exact-length);
        end-inside = omega arith;
        bound = rw (place, read) back;
      }

  plan-filled : Filled sheet plan n scratch
  unfolding plan_reply
  plan-filled = let (d, read, _) = and_then-given (parse sheet) _ gives in read-filled d read

told-given : (r : Reply (List ℕ)) → given tt ≡ told_reply r → (plan : List ℕ) × (r ≡ given plan)
told-given (given plan) e = (plan, refl)
told-given (refused number place) e = absurd (given-not-refused e)

told-refused : (r : Reply (List ℕ)) {n p : ℕ} → refused n p ≡ told_reply r → r ≡ refused n p
told-refused (given plan) e = absurd (given-not-refused (sym e))
told-refused (refused number place) e = cc

-- What planning answers and leaves, and what is then answered

-- what is said, and what stands in the buffer and in the scratch afterwards, for a reply
abbrev Begun : List ℕ → List ℕ → List ℕ → Reply (List ℕ) → Reply Started → List ℕ → List ℕ → Type 0
Begun sheet buffer scratch reply says after left =
    (says ≡ start_reply sheet reply) × ((after ≡ output_after reply buffer) × (left ≡ scratch_after reply scratch))

module _ (sheet buffer scratch : List ℕ) (bytes n : ℕ) (e : n ≡ min bytes (length buffer)) where
  abbrev reply : Reply (List ℕ)
  reply = plan_reply sheet (length (take n buffer)) (length scratch)

  reply-is : reply ≡ plan_reply sheet (min bytes (length buffer)) (length scratch)
  reply-is = ap (λ k. plan_reply sheet k (length scratch)) (sym (lent_length bytes n buffer e) ∙ e)

  module _ {r : Result Unit Refusal} (told : planned_of r ≡ told_reply reply) where
    module _ (w : r ≡ Ok tt) where
      filled : (plan : List ℕ) × Filled sheet plan (length (take n buffer)) (length scratch)
      filled =
          let (plan, gives) = told-given reply (ap planned_of (sym w) ∙ told) in
          (plan, plan-filled sheet plan _ _ gives)

      pub end_before : 12 ≤ n
      end_before = omega (arith, lent_length bytes n buffer e, filled.1.end-inside)

      pub start-ready : {part left : List ℕ} {b : ℕ} → part ≡ buffer_after reply (take n buffer)
          → left ≡ scratch_after reply scratch → b ≡ bound_at (take n (part ++ drop n buffer)) (n - 12)
          → Begun sheet buffer scratch (plan_reply sheet (min bytes (length buffer)) (length scratch))
          (given (started n b)) (part ++ drop n buffer) left
      start-ready {part} {left} {b} written cleared read =
          let (plan, f) = filled in
          let lent = lent_length bytes n buffer e in
          let part-is : part ≡ plan = rw f.gives at written in
          let front = front-part bytes n buffer e part (ap length part-is ∙ sym f.fills) ∙ part-is in
          let n-is : n ≡ length plan = lent ∙ f.fills in
          let b-is : b ≡ bound_written (parse sheet) plan
          = read ∙ ap (λ l. bound_at l (n - 12)) front ∙ ap (λ k. bound_at plan (k - 12)) lent ∙ f.bound in
          rw (← reply-is, f.gives) (
            ap (λ k. given (started k b)) n-is ∙ ap (λ a. given (started (length plan) a)) b-is,
            (
              ap (λ l. l ++ drop n buffer) part-is ∙ ap (λ k. plan ++ drop k buffer) n-is,
              rw f.gives at cleared,
            ),
          )

    pub start-refused : {why : Refusal} {part left : List ℕ} → r ≡ Err why
        → part ≡ buffer_after reply (take n buffer) → left ≡ scratch_after reply scratch
        → Begun sheet buffer scratch (plan_reply sheet (min bytes (length buffer)) (length scratch))
        (refused (number_of why.cause) why.place) (part ++ drop n buffer) left
    start-refused w written cleared =
        let refuses = told-refused reply (ap planned_of (sym w) ∙ told) in
        rw (← reply-is, refuses) (
          refl,
          (
            ap (λ l. l ++ drop n buffer) (rw refuses at written) ∙ take-append-drop n buffer,
            rw refuses at cleared,
          ),
        )

-- By the length that is told, or its refusal

module _ (sheet : List ℕ) {r : Result ℕ Refusal} (e : measured_of r ≡ length_reply sheet) where
  pub told-bytes : {bytes : ℕ} → r ≡ Ok bytes → length_reply sheet ≡ given bytes
  told-bytes w = sym e ∙ ap measured_of w

  pub front-told : {bytes : ℕ} → r ≡ Ok bytes → (buffer scratch : ℕ)
      → plan_front sheet buffer scratch ≡ plan_reply sheet (min bytes buffer) scratch
  unfolding plan_front and_then
  front-told w buffer scratch = rw (told-bytes w)

  pub front-refused : {why : Refusal} → r ≡ Err why → (buffer scratch : ℕ)
      → plan_front sheet buffer scratch ≡ refused (number_of why.cause) why.place
  unfolding plan_front and_then
  front-refused w buffer scratch = rw (sym e ∙ ap measured_of w)
