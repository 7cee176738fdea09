-- The causes 16, 17 and 18 of one group: where each stands, and which of them refuses.
-- Assumes nothing.
use Prim.Native.Nat.{ℕ, ◌<◌}
use mathlib.Core.Path.{◌≡◌, refl, sym, ◌∙◌}
use mathlib.Core.Logic.{inl, inr, ⊎_elim}
use mathlib.Core.List.{List}
use mathlib.Core.Bool.{Bool, true, false, not, ◌&&◌, ◌||◌}
use borrow.Author.Tests.{eqb-true, eq-eqb, not-true, not-false}
use lib.Dec.{eqb}
use Rattle.common.specs.Reply.{Reply, refused, Fault, clear, unless}
use Rattle.common.proofs.Bools.{by_cases, true-false, and_left, and_right, or_left, or_right, or_cases}
use Rattle.common.proofs.Bools.{not-of-true, not_of_false}
use Rattle.common.proofs.Lists.{all-at}
use Rattle.common.proofs.Reply.{unless-first, unless-later}
use Rattle.common.proofs.Clear.{clear-each, each-clear, clear-flat_map}
use Rattle.common.proofs.When.{and-known, and-when-false}
use Rattle.sheet.specs.Model.{Model}
use Rattle.sheet.specs.Valid.{Valid}
use Rattle.plan.specs.Groups.{group_count, smallest_member}
use Rattle.plan.specs.Modes.{size}
use Rattle.plan.specs.Reading.{well_shaped}
use Rattle.command.specs.Goal.{Masks, met}
use Rattle.common.specs.Lists.{down_to}
use Rattle.command.specs.Ancestors.{upstream_in}
use Rattle.command.specs.Attainable.{groups, present, live_group, attains, dead_end}
use Rattle.command.specs.Attainable.{fault_of, group_faults, attain_faults}
use Rattle.command.specs.Uncovered.{Concerns, AllLive, NotLive, DeadEnd}
use Rattle.command.specs.Covered.{Safe}
use Rattle.command.specs.Uncovered.{Because, by-16, by-17, by-18, Passes}
use Rattle.command.proofs.Shape.{Sound}
use Rattle.command.proofs.Goals.{present-below}
use Rattle.command.proofs.Smallest.{smallest}
use Rattle.command.proofs.Highest.{down_to-mem, fault-place, fault-none, none-fault}
use Rattle.command.proofs.Shown.{Small, attains-some, some-attains, attains-none, no_dead, dead-none, dead-some}

module _ (m : Model) (plan : List ℕ) (counts : ℕ → Bool) (state : List ℕ) (masks : Masks) where
  abbrev count : ℕ
  count = group_count (groups m plan)

  pub concern : (k a : ℕ) → eqb a k || upstream_in m plan counts k a ≡ true → Concerns m plan counts state masks k a
  concern k a t = ⊎_elim (λ e. inl (eqb-true _ _ e)) (λ u. inr u) (or_cases (eqb a k) _ t)

  concern-test : (k a : ℕ) → Concerns m plan counts state masks k a → eqb a k || upstream_in m plan counts k a ≡ true
  concern-test k a c = ⊎_elim (λ e. or_left _ (eq-eqb a k e)) (λ u. or_right (eqb a k) u) c

  -- 16 and 18 of group k
  abbrev fault16 : ℕ → Fault
  fault16 k = fault_of m plan 16 (λ a. (eqb a k || upstream_in m plan counts k a) && not (live_group m plan state a))

  abbrev fault18 : ℕ → Fault
  fault18 k = fault_of m plan 18 (λ a. upstream_in m plan counts k a && dead_end m plan state masks a)

  not_16 : (k : ℕ) → (fault16 k).applies ≡ false → AllLive m plan counts state masks k
  not_16 k f a below c = not-false _ (and-known (concern-test k a c) (fault-none m plan 16 _ f a below))

  pub all_live : (k : ℕ) → clear (group_faults m plan counts (dead_end m plan) state masks k) ≡ true → AllLive m plan counts state masks k
  unfolding group_faults
  all_live k h = not_16 k (clear-each _ h).0

  -- where no cause applies, none of an unmet group does
  pub clear-group : clear (attain_faults m plan counts (dead_end m plan) state masks) ≡ true → (k : ℕ) → k < group_count (groups m plan)
      → met (groups m plan) masks state k ≡ false → clear (group_faults m plan counts (dead_end m plan) state masks k) ≡ true
  unfolding attain_faults
  clear-group h k l unmet =
      rw unmet at (all-at _ (sym (clear-flat_map _ (down_to count)) ∙ h) (down_to-mem count l))

  module _ (valid : Valid m) (shaped : well_shaped m plan ≡ true) (small : Small m plan) (sound : Sound m state) where
    now : (k : ℕ) → present m plan state k < size m (groups m plan) k
    now k = present-below m valid plan shaped state sound k

    -- no upstream group may be stranded
    no-dead-end : (k : ℕ) → (fault18 k).applies ≡ false → (a : ℕ) → a < count → upstream_in m plan counts k a ≡ true
        → Safe m plan masks a (present m plan state a)
    no-dead-end k f a below u =
        no_dead m plan masks state small a below (now a) (and-known u (fault-none m plan 18 _ f a below))

    -- Where each stands

    place-16 : (k : ℕ) → (fault16 k).applies ≡ true → NotLive m plan counts state masks k (fault16 k).place
    place-16 k t =
        let r = fault-place m plan 16 _ t in
        let near : Bool = eqb r.0 k || upstream_in m plan counts k r.0 in
        record {
          group = r.0;
          below = r.1.below;
          concerned = concern k r.0 (and_left _ _ r.1.has);
          not_live = not-true _ (and_right near _ r.1.has);
          higher-live = λ b l h c. not-false _ (and-known (concern-test k b c) (r.1.none_above b l h));
          place_is = rw r.2 (smallest m valid plan shaped r.0 r.1.below);
        }

    place-18 : (k : ℕ) → (fault18 k).applies ≡ true → DeadEnd m plan counts state masks k (fault18 k).place
    place-18 k t =
        let r = fault-place m plan 18 _ t in
        let s = dead-some m plan masks state small r.0 r.1.below (now r.0)
        (and_right (upstream_in m plan counts k r.0) _ r.1.has) in
        record {
          group = r.0;
          below = r.1.below;
          is-upstream = and_left _ _ r.1.has;
          mode = s.0;
          within = s.1;
          comes-there = s.2;
          stranded = s.3;
          higher-none = λ b l h u.
              no_dead m plan masks state small b h (now b) (and-known u (r.1.none_above b l h));
          place_is = rw r.2 (smallest m valid plan shaped r.0 r.1.below);
        }

    -- Which refuses

    pub group-because : {A : Type 0} (k : ℕ) (r : Reply A) → k < count
        → clear (group_faults m plan counts (dead_end m plan) state masks k) ≡ false
        → (n : ℕ) × (p : ℕ) × Because m plan counts state masks k n p
        × (unless (group_faults m plan counts (dead_end m plan) state masks k) r ≡ refused n p)
    unfolding group_faults fault_of
    group-because k r below h =
        by_cases (fault16 k).applies
        (λ t. (16, (fault16 k).place, by-16 refl (place-16 k t), unless-first _ _ r t))
        (λ live. by_cases (attains m plan masks k (present m plan state k))
        (λ reaches. by_cases (fault18 k).applies
        (λ t. (
          18,
          (fault18 k).place,
          by-18 refl (not_16 k live) (attains-some m plan masks state small k _ below (now k) reaches) (place-18 k t),
          unless-later _ _ r live ∙ (unless-later _ _ r (not-of-true reaches) ∙ unless-first _ _ r t),
        ))
        (λ f. absurd (true-false (each-clear _ (live, (not-of-true reaches, (f, tt)))) h)))
        (λ f. (
          17,
          smallest_member (groups m plan) k,
          by-17 refl (not_16 k live) (attains-none m plan masks state small k _ below (now k) f)
              (smallest m valid plan shaped k below),
          unless-later _ _ r live ∙ unless-first _ _ r (not_of_false f),
        )))

    -- a group passes exactly if none of its causes applies
    pub clear-passes : (k : ℕ) → k < count → clear (group_faults m plan counts (dead_end m plan) state masks k) ≡ true
        → Passes m plan counts state masks k
    unfolding group_faults
    clear-passes k below h =
        let c = clear-each _ h in
        record {
          live = not_16 k c.0;
          attains = attains-some m plan masks state small k _ below (now k) (not-false _ c.1.0);
          no-dead-end = no-dead-end k c.1.1.0;
        }

    pub passes-clear : (k : ℕ) → k < count → Passes m plan counts state masks k
        → clear (group_faults m plan counts (dead_end m plan) state masks k) ≡ true
    unfolding group_faults
    passes-clear k below p =
        each-clear _ (
          none-fault m plan 16 _ (λ a l. and-when-false _ _ (λ t. not-of-true (p.live a l (concern k a t)))),
          (
            not-of-true (some-attains m plan masks state small k _ below (now k) p.attains),
            (
              none-fault m plan 18 _ (λ a l. and-when-false _ _ (λ u.
                  dead-none m plan masks state small a l (now a) (p.no-dead-end a l u))),
              tt,
            ),
          ),
        )
