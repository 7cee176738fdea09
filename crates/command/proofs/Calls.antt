-- Every call of a run keeps what a run keeps, and no group from g upward leaves its wish.
-- Assumes nothing.
use Prim.Native.Nat.{ℕ, suc}
use mathlib.Core.Path.{◌≡◌, refl, sym, ap, subst, ◌∙◌}
use mathlib.Core.List.{List, [], ◌∷◌, ◌++◌}
use native.Mathlib.Omega.{arith}
use Rattle.common.specs.Reply.{Reply, given, refused}
use Rattle.sheet.specs.Model.{move_at}
use Rattle.sheet.specs.Parse.{Parsed}
use Rattle.command.specs.State.{tag_of, with_mode}
use Rattle.command.specs.Next.{Next, done, command}
use Rattle.command.specs.Apply.{Applied, apply_reply, state_after}
use Rattle.command.specs.Run.{Lent, ask_reply, Call, ask, apply, refused_next, refused_apply, Pending, none, some, Situation}
use Rattle.command.specs.Run.{pending_of, IsRefused, IsPending, applied_by, after, after_all, Legal, Run}
use Rattle.command.specs.Arrival.{AsWishedFrom}
use Rattle.command.proofs.States.{tag-kept}
use Rattle.command.proofs.Kept
use Rattle.command.proofs.Kept.{Pends, moved_by}
use Rattle.command.proofs.Answers
use Rattle.command.proofs.Answers.{Ground, KeptFor}

pub pending-some : (p : Pending) → IsPending p → (i : ℕ) × (c : ℕ) × (p ≡ some i c)
pending-some none h = absurd h
pending-some (some i c) h = (i, c, refl)

-- the reply of a pending command gave it
pending-replied : (r : Reply Next) {i c : ℕ} → pending_of r ≡ some i c → r ≡ given (command i c)
pending-replied (given done) e = absurd (let z : ◌≡◌ {A = ℕ} 0 1 = cc in let f : ⊥ = omega arith in f)
pending-replied (given (command i c)) e = cc
pending-replied (refused n p) e = absurd (let z : ◌≡◌ {A = ℕ} 0 1 = cc in let f : ⊥ = omega arith in f)

-- a refused call leaves the state
refused-leaves : (r : Reply Applied) (state : List ℕ) → IsRefused r → state_after r state ≡ state
refused-leaves (given a) state h = absurd h
refused-leaves (refused n p) state h = refl

module _ (lent : Lent) (s : Situation) where
  after-refused : (sheet : List ℕ) (i c : ℕ) → IsRefused (apply_reply sheet s.state i c)
      → after lent s (refused_apply sheet i c) ≡ s
  unfolding after
  after-refused sheet i c h =
      ap (λ x. record { state = x; pending = s.pending; applied = s.applied })
      (refused-leaves (apply_reply sheet s.state i c) s.state h)

  after-apply : (i c v : ℕ) (state : List ℕ) → s.pending ≡ some i c
      → apply_reply lent.sheet s.state i c ≡ given (record { move = v; state = state })
      → after lent s apply ≡ record { state = state; pending = none; applied = suc s.applied }
  unfolding after
  after-apply i c v state e r =
      ap (applied_by lent s) e
      ∙ ap (λ x. record { state = state_after x s.state; pending = none; applied = suc s.applied }) r

pub after_all-append : (lent : Lent) (s : Situation) (xs ys : List Call)
    → after_all lent s (xs ++ ys) ≡ after_all lent (after_all lent s xs) ys
unfolding after_all
after_all-append lent s [] ys = refl
after_all-append lent s (c ∷ xs) ys = after_all-append lent (after lent s c) xs ys

-- from one situation to another: what a run keeps is kept, all groups from g upward that were as wished are so, and the
-- tags are the same
module _ (lent : Lent) (d : Parsed) (Usable : ℕ → Type 0) (cost : ℕ → ℕ) where
  pub record Keeps (s t : Situation) : Type 0 where
    pub kept : KeptFor lent d Usable cost t
    pub wished : (g : ℕ) → AsWishedFrom lent d.model s.state g → AsWishedFrom lent d.model t.state g
    pub same-tags : (i : ℕ) → tag_of t.state i ≡ tag_of s.state i

module _ {lent : Lent} {d : Parsed} {Usable : ℕ → Type 0} {longest cost : ℕ → ℕ}
    (ground : Ground lent d Usable longest cost) where
  abbrev KeepsTo : Situation → Situation → Type 0
  KeepsTo = Keeps lent d Usable cost

  apply-moves : (s : Situation) → KeptFor lent d Usable cost s → (i c : ℕ) → s.pending ≡ some i c
      → (p : Pends d.model lent Usable s.state i c)
      → after lent s apply ≡ moved_by d.model s p.move
  apply-moves s kept i c e p =
      let to = (move_at d.model p.move).to in
      after-apply lent s i c _ _ e (Answers.applies-pending ground kept p)
      ∙ ap (λ x. record { state = with_mode s.state x to; pending = none; applied = suc s.applied }) p.machine-is

  keeps-apply : (s : Situation) → KeptFor lent d Usable cost s → (i c : ℕ) → s.pending ≡ some i c
      → KeepsTo s (after lent s apply)
  keeps-apply s kept i c e =
      let p = kept.pends i c e in
      subst (KeepsTo s) (sym (apply-moves s kept i c e p))
      (record {
        kept = Kept.kept-moved ground.valid ground.laws kept p.sent;
        wished = Kept.stays-wished ground.valid ground.laws kept p.sent;
        same-tags = tag-kept s.state _ _;
      })

  keeps-call : (s : Situation) → KeptFor lent d Usable cost s → (c : Call) → Legal lent s c
      → KeepsTo s (after lent s c)
  unfolding after
  keeps-call s kept ask h =
      record {
        kept =
            record {
              sound = kept.sound;
              covered = kept.covered;
              within = kept.within;
              pends = λ i c e. Answers.replied ground kept i c
                  (pending-replied (ask_reply lent s.state) e);
            };
        wished = λ g w. w;
        same-tags = λ i. refl;
      }
  keeps-call s kept apply h =
      let p = pending-some s.pending h in
      keeps-apply s kept p.0 p.1 p.2
  keeps-call s kept (refused_next other) h = record { kept = kept; wished = λ g w. w; same-tags = λ i. refl }
  keeps-call s kept (refused_apply sheet i c) h =
      subst (KeepsTo s) (sym (after-refused lent s sheet i c h))
      (record { kept = kept; wished = λ g w. w; same-tags = λ i. refl })

  -- through the first calls of a run; the others are a run from there
  pub keeps-all : {s : Situation} → KeptFor lent d Usable cost s → (before later : List Call)
      → Run lent s (before ++ later)
      → KeepsTo s (after_all lent s before) × Run lent (after_all lent s before) later
  unfolding after_all
  keeps-all kept [] later run = (record { kept = kept; wished = λ g w. w; same-tags = λ i. refl }, run)
  keeps-all {s} kept (c ∷ before) later run =
      let one = keeps-call s kept c run.0 in
      let r = keeps-all {s = after lent s c} one.kept before later run.1 in (
        record {
          kept = r.0.kept;
          wished = λ g w. r.0.wished g (one.wished g w);
          same-tags = λ i. r.0.same-tags i ∙ one.same-tags i;
        },
        r.1,
      )
