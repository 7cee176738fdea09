-- A covered goal is fulfilled, or gets a command: the move that `fulfil` sends, and how it came to it.
-- Assumes nothing.
use Prim.Native.Nat.{ℕ, zero, suc, ◌≤◌, ◌<◌}
use mathlib.Core.Path.{◌≡◌, refl, ◌∙◌}
use mathlib.Core.Logic.{◌⊎◌, inl, inr, ⊎_elim}
use mathlib.Core.List.{List}
use mathlib.Core.Bool.{Bool, true, false}
use native.Mathlib.Nat.{not-suc-le-zero}
use native.Mathlib.Omega.{arith}
use Rattle.common.specs.Reply.{given}
use Rattle.common.proofs.Bools.{by_cases, true-false}
use Rattle.common.proofs.Least.{last-or-below}
use Rattle.sheet.specs.Model.{Model, move_at}
use Rattle.sheet.specs.Valid.{Valid}
use Rattle.plan.specs.Groups.{group_count}
use Rattle.plan.specs.Laws.{TableLaws}
use Rattle.command.specs.Goal.{Masks, met}
use Rattle.command.specs.Attainable.{groups}
use Rattle.command.specs.Covered.{Attains, Covered}
use Rattle.command.specs.Next.{done, command, holds_outside, prepare_by, fulfil_with}
use Rattle.command.proofs.Facts
use Rattle.command.proofs.Facts.{Sound}
use Rattle.command.proofs.Following
use Rattle.command.proofs.Following.{first_move, needs_of}
use Rattle.command.proofs.Safe.{SafeLaws}
use Rattle.command.proofs.Heading
use Rattle.command.proofs.Heading.{Heading}

-- every group below g is met
abbrev pub AllMet : Model → List ℕ → List ℕ → Masks → ℕ → Type 0
AllMet m plan state masks g = (a : ℕ) → a < g → met (groups m plan) masks state a ≡ true

module _ (m : Model) (plan : List ℕ) (Usable : ℕ → Type 0) (state : List ℕ) where
  -- fulfilling a goal on the groups below a number sends move v of group j
  pub data Sends : Masks → ℕ → ℕ → ℕ → Type 0 where
    lower : {masks : Masks} {k j v : ℕ} → met (groups m plan) masks state k ≡ true → Sends masks k j v
        → Sends masks (suc k) j v
    own : {masks : Masks} {k v : ℕ} → met (groups m plan) masks state k ≡ false → Heading m plan Usable state masks k
        → v ≡ first_move m plan state masks k → holds_outside m plan state k (move_at m v) ≡ true → Sends masks (suc k) k v
    prepares : {masks : Masks} {k j v : ℕ} → met (groups m plan) masks state k ≡ false
        → Heading m plan Usable state masks k
        → Sends (needs_of m plan state masks k) k j v → Sends masks (suc k) j v

  -- what fulfilling replies: the command of a move that is sent
  pub record Commanded (counts : ℕ → Bool) (masks : Masks) (g : ℕ) : Type 0 where
    pub group : ℕ
    pub move : ℕ
    pub sends : Sends masks g group move
    pub replies : fulfil_with m plan state counts masks g ≡ given (command (move_at m move).machine (move_at m move).command)

pub covered-below : {m : Model} {plan : List ℕ} {counts : ℕ → Bool} {A S : Masks → ℕ → ℕ → Type 0} {masks : Masks} {state : List ℕ}
    {g : ℕ} → Covered m plan counts A S masks state (suc g) → Covered m plan counts A S masks state g
covered-below c =
    record {
      itself-live = λ k h. c.itself-live k (omega arith);
      upstream-live = λ k a h. c.upstream-live k a (omega arith);
      attains = λ k h. c.attains k (omega arith);
      no-dead-end = λ k a h. c.no-dead-end k a (omega arith);
    }

module _ {m : Model} {plan : List ℕ} {counts : ℕ → Bool} {Usable : ℕ → Type 0} {longest : ℕ → ℕ} (valid : Valid m)
    (tables : TableLaws m plan counts Usable longest) {state : List ℕ} (sound : Sound m state) where
  abbrev N : ℕ
  N = group_count (groups m plan)

  -- an unmet group of a covered goal has its entry
  pub covered-heading : {S : Masks → ℕ → ℕ → Type 0} (masks : Masks) (k : ℕ) → k < N → met (groups m plan) masks state k ≡ false
      → Covered m plan counts (Attains m plan) S masks state (suc k) → Heading m plan Usable state masks k
  covered-heading masks k below unmet c =
      Heading.heading valid tables sound masks k below unmet (c.attains k (omega arith) unmet)

  follows : (masks : Masks) (k : ℕ) → met (groups m plan) masks state k ≡ false → Heading m plan Usable state masks k
      → fulfil_with m plan state counts masks (suc k)
      ≡ prepare_by m plan state (λ needs. fulfil_with m plan state counts needs k) k (move_at m (first_move m plan state masks k))
  follows masks k unmet h =
      Following.fulfil-unmet m plan state counts masks k unmet
      ∙ Following.follow-fit m plan state counts _ masks k (Heading.heading-fits valid tables sound masks k h)

  commanded-lower : (masks : Masks) (k : ℕ) → met (groups m plan) masks state k ≡ true
      → Commanded m plan Usable state counts masks k → Commanded m plan Usable state counts masks (suc k)
  commanded-lower masks k e c =
      record {
        group = c.group;
        move = c.move;
        sends = lower e c.sends;
        replies = Following.fulfil-met m plan state counts masks k e ∙ c.replies;
      }

  commanded-own : (masks : Masks) (k : ℕ) → met (groups m plan) masks state k ≡ false
      → Heading m plan Usable state masks k
      → holds_outside m plan state k (move_at m (first_move m plan state masks k)) ≡ true
      → Commanded m plan Usable state counts masks (suc k)
  commanded-own masks k unmet h o =
      record {
        group = k;
        move = first_move m plan state masks k;
        sends = own unmet h refl o;
        replies = follows masks k unmet h ∙ Following.prepare-sends m plan state _ k _ o;
      }

  commanded-prepares : (masks : Masks) (k : ℕ) → met (groups m plan) masks state k ≡ false
      → Heading m plan Usable state masks k
      → holds_outside m plan state k (move_at m (first_move m plan state masks k)) ≡ false
      → Commanded m plan Usable state counts (needs_of m plan state masks k) k
      → Commanded m plan Usable state counts masks (suc k)
  commanded-prepares masks k unmet h o c =
      record {
        group = c.group;
        move = c.move;
        sends = prepares unmet h c.sends;
        replies = follows masks k unmet h ∙ Following.prepare-asks m plan state _ k _ o ∙ c.replies;
      }

module _ {m : Model} {plan : List ℕ} {counts : ℕ → Bool} {Usable : ℕ → Type 0} {longest : ℕ → ℕ} (valid : Valid m)
    (tables : TableLaws m plan counts Usable longest) {S : Masks → ℕ → ℕ → Type 0} (safe : SafeLaws m plan Usable S)
    {state : List ℕ} (sound : Sound m state) where
  -- the needs of the entry's move are covered
  pub heading-needs-covered : (masks : Masks) (k : ℕ) → Heading m plan Usable state masks k
      → met (groups m plan) masks state k ≡ false → Covered m plan counts (Attains m plan) S masks state (suc k)
      → Covered m plan counts (Attains m plan) S (needs_of m plan state masks k) state k
  heading-needs-covered masks k h unmet c =
      Heading.needs-covered valid tables sound k _ h.member h.usable safe
      (λ a u. c.upstream-live k a (omega arith) unmet u)

  -- a covered goal is fulfilled, or a command is given
  pub done-or-commanded : (g : ℕ) → g ≤ group_count (groups m plan) → (masks : Masks) → Covered m plan counts (Attains m plan) S masks state g
      → ((fulfil_with m plan state counts masks g ≡ given done) × AllMet m plan state masks g)
      ⊎ Commanded m plan Usable state counts masks g
  done-or-commanded zero le masks c = inl (Following.fulfil-none m plan state counts masks, λ a h. absurd (not-suc-le-zero h))
  done-or-commanded (suc k) le masks c =
      by_cases (met (groups m plan) masks state k)
      (λ e. ⊎_elim (λ d. inl (rest e d)) (λ r. inr (commanded-lower valid tables sound masks k e r))
      (done-or-commanded k (omega arith) masks (covered-below c)))
      (λ unmet.
      let h = covered-heading valid tables sound masks k le unmet c in
      by_cases (holds_outside m plan state k (move_at m (first_move m plan state masks k)))
      (λ o. inr (commanded-own valid tables sound masks k unmet h o))
      (λ o. inr (commanded-prepares valid tables sound masks k unmet h o (⊎_elim (λ d. absurd (fails h o d.1)) (λ r. r)
      (done-or-commanded k (omega arith) (needs_of m plan state masks k) (heading-needs-covered masks k h unmet c))))))
    where
      rest : met (groups m plan) masks state k ≡ true
          → (fulfil_with m plan state counts masks k ≡ given done) × AllMet m plan state masks k
          → (fulfil_with m plan state counts masks (suc k) ≡ given done) × AllMet m plan state masks (suc k)
      rest e d = (
        Following.fulfil-met m plan state counts masks k e ∙ d.0,
        λ a h. ⊎_elim (λ i. rw i e) (λ i. d.1 a i) (last-or-below h),
      )

      fails : (h : Heading m plan Usable state masks k)
          → holds_outside m plan state k (move_at m (first_move m plan state masks k)) ≡ false
          → AllMet m plan state (needs_of m plan state masks k) k → ⊥
      fails h o all =
          let r = Facts.needs-fail m valid plan tables.shaped k _ h.member state sound o in
          true-false (all r.0 r.1) r.2
