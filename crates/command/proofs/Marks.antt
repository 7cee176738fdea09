-- The pass down the group numbers that marks what is upstream of some groups. A group names lower ones alone, so once the
-- pass has been at a number, the marks from there up are final.
-- Assumes nothing.
use Prim.Native.Nat.{ℕ, suc, ◌-◌, ◌≤◌, ◌<◌, zero-le}
use mathlib.Core.Path.{◌≡◌, refl, sym, ◌∙◌}
use mathlib.Core.Logic.{◌↔◌, ⊎_elim}
use mathlib.Core.List.Memᴰ
use mathlib.Core.List.{List}
use mathlib.Core.Bool.{Bool, true, false, ◌&&◌, ◌||◌, or-false}
use native.Mathlib.Nat.{eq-or-lt_of_le}
use native.Mathlib.Omega.{arith}
use borrow.Author.Tests.{eqb-true, eq-eqb, ne_eqb}
use lib.Dec.{eqb}
use lib.ListN.{get_or}
use Rattle.common.specs.Bits.{bit}
use Rattle.common.specs.Lists.{up_to}
use Rattle.common.proofs.Bools.{true-false, bool-ext, and_intro, and_left, and_right}
use Rattle.common.proofs.Bools.{or_left, or_right, or_cases}
use Rattle.common.proofs.Lists.{any-intro, any_some}
use Rattle.common.proofs.Members.{up_to-mem}
use Rattle.sets.specs.Kept.Sets.{alone, union}
use Rattle.sets.proofs.Laws.{bit-none, bit-alone, bit-union}
use Rattle.sheet.specs.Model.{Model}
use Rattle.sheet.specs.Valid.{Valid}
use Rattle.plan.specs.Groups.{group_count}
use Rattle.plan.specs.Reading.{groups_in, well_shaped}
use Rattle.command.specs.Ancestors.{upstream_in}
use Rattle.command.specs.Kept.Question.{Names, NamedBy, UpstreamSet, UpstreamOfSome, MarkedFrom}
use Rattle.command.proofs.Shape.{few-groups}
use Rattle.command.proofs.Naming.{names-count, names-upstream, names-below, upstream-named}
use Rattle.command.proofs.Upstream.{upstream-below, upstream-count, upstream-trans}

module _ (m : Model) (valid : Valid m) (plan : List ℕ) (counts : ℕ → Bool) (shaped : well_shaped m plan ≡ true) where
  module _ (groups : ℕ) where
    -- nothing is marked before it
    pub marked-none : {top : ℕ} → ((k : ℕ) → bit groups k ≡ true → k < group_count (groups_in m plan) → k < top)
        → MarkedFrom m plan counts groups top 0
    marked-none low =
        record {
          final = λ a h. (
            λ t. absurd (true-false t (bit-none a)),
            λ (b, of, u).
                let l = low b of (upstream-count m valid plan counts shaped b a u) in
                absurd (let f : ⊥ = omega (arith, upstream-below m valid plan counts shaped b a u) in f),
          );
          so_far = λ a h. (
            λ t. absurd (true-false t (bit-none a)),
            λ (c, l, on, names).
                ⊎_elim
                (λ e. absurd (true-false e (bit-none c)))
                (λ of. let k = low c of (names-count m valid plan counts shaped c a names) in absurd (let f : ⊥ = omega arith in f))
                (or_cases (bit 0 c) (bit groups c) on),
          );
        }

    module _ {j s : ℕ} (k : MarkedFrom m plan counts groups j s) (some : 0 < j) where
      abbrev i : ℕ
      i = j - 1

      -- the next group down is marked where it is upstream of one: only groups that have been passed can name it
      next-final : (bit s i ≡ true) ↔ ((b : ℕ) × (bit groups b ≡ true) × (upstream_in m plan counts b i ≡ true))
      next-final = (
        λ t.
            let (c, h, on, names) = (k.so_far i (omega arith)).0 t in
            let up = names-upstream m valid plan counts shaped c i names in
            ⊎_elim
            (λ e. let (b, of, u) = (k.final c h).0 e in (b, of, upstream-trans m valid plan counts shaped b c i u up))
            (λ of. (c, of, up))
            (or_cases (bit s c) (bit groups c) on),
        λ (b, of, u).
            let (c, way, names) = upstream-named m valid plan counts shaped b i u in
            let low = names-below m valid plan counts shaped c i names in
            let h : j ≤ c = omega arith in
            let on = ⊎_elim
            (λ e. or_right (bit s c) (rw e of))
            (λ v. or_left (bit groups c) ((k.final c h).1 (b, of, v)))
            way in
            (k.so_far i (omega arith)).1 (c, h, on, names),
      )

      module _ {named : List ℕ} (by : NamedBy m plan counts named) (few : j ≤ 32) where
        named-bit : (a : ℕ) → (bit (get_or named i 0) a ≡ true) ↔ Names m plan counts i a
        named-bit a = (
          λ t.
              let (x, x-in, e) = any_some (eqb a) _ (sym (by.bits i a (omega arith)) ∙ t) in
              Memᴰ.cast (eqb-true a x e) x-in,
          λ names. by.bits i a (omega arith) ∙ any-intro (eqb a) names (eq-eqb a a refl),
        )

        module _ (t : ℕ) (bits : (a : ℕ) → bit t a ≡ (bit s a || ((bit s i || bit groups i) && bit (get_or named i 0) a))) where
          -- no mark from the next group up changes any more
          same : (a : ℕ) → i ≤ a → bit t a ≡ bit s a
          same a h =
              bits a
              ∙ bool-ext
              (λ t.
              ⊎_elim
              (λ e. e)
              (λ e.
              let low = names-below m valid plan counts shaped i a ((named-bit a).0 (and_right (bit s i || bit groups i) _ e)) in
              absurd (let f : ⊥ = omega arith in f))
              (or_cases (bit s a) _ t))
              (λ e. or_left _ e)

          same-on : (c : ℕ) → i ≤ c → bit t c || bit groups c ≡ (bit s c || bit groups c)
          same-on c h = rw (same c h)

          pub marked_next : MarkedFrom m plan counts groups i t
          marked_next =
              record {
                final = λ a h.
                    rw (same a h)
                    (⊎_elim (λ e. rw e at next-final) (λ l. k.final a (omega arith)) (eq-or-lt_of_le h));
                so_far = λ a h. (
                  λ e.
                      ⊎_elim
                      (λ old.
                      let (c, l, on, names) = (k.so_far a (omega arith)).0 old in
                      let far : i ≤ c = omega arith in
                      (c, far, same-on c far ∙ on, names))
                      (λ new.
                      let on = and_left _ _ new in
                      let names = (named-bit a).0 (and_right (bit s i || bit groups i) _ new) in
                      let far : i ≤ i = omega arith in
                      (i, far, same-on i far ∙ on, names))
                      (or_cases (bit s a) _ (sym (bits a) ∙ e)),
                  λ (c, l, on, names).
                      let kept = sym (same-on c l) ∙ on in
                      bits a
                      ∙ ⊎_elim
                      (λ e.
                      or_right (bit s a)
                      (and_intro {a = bit s i || bit groups i} {b = bit (get_or named i 0) a} (rw e kept) ((named-bit a).1 (rw e names))))
                      (λ g. or_left _ ((k.so_far a (omega arith)).1 (c, omega arith, kept, names)))
                      (eq-or-lt_of_le l),
                );
              }

-- from the marks at top the pass has come to marks s at number j, for each sheet and plan whose groups name each other so
abbrev pub Goes : (named : List ℕ) (groups marks top j s : ℕ) → Type 0
Goes named groups marks top j s =
    (m : Model) (plan : List ℕ) (counts : ℕ → Bool) (all : ℕ) → Valid m → well_shaped m plan ≡ true → NamedBy m plan counts named
    → ((a : ℕ) → a < top → bit groups a ≡ bit all a) → MarkedFrom m plan counts all top marks → MarkedFrom m plan counts all j s

-- as the loop keeps it
pub record Pass (named : List ℕ) (groups marks top j s : ℕ) : Type 0 where
  pub goes : Goes named groups marks top j s

module _ {named : List ℕ} {groups marks top : ℕ} (most : top ≤ 32) {j s : ℕ} (p : Pass named groups marks top j s) (some : 0 < j)
    (few : j ≤ top) where
  next : (t : ℕ) → ((a : ℕ) → bit t a ≡ (bit s a || (bit (union s groups) (j - 1) && bit (get_or named (j - 1) 0) a)))
      → Pass named groups marks top (j - 1) t
  next t bits =
      record {
        goes = λ m plan counts all valid shaped by same k.
            marked_next m valid plan counts shaped all (p.goes m plan counts all valid shaped by same k) some by (omega arith) t
            (rw (bit-union, same (j - 1) (omega arith)) at bits);
      }

  -- a group that is marked or one of these, as the code tests it, has what it names marked
  pub pass-marks : {t u : ℕ} {b : Bool} → u ≡ union s groups → b ≡ bit u (j - 1) → b ≡ true
      → t ≡ union s (get_or named (j - 1) 0) → Pass named groups marks top (j - 1) t
  pass-marks {t} e f h g = next t (λ a. rw (g, bit-union, ← e, sym f ∙ h))

  -- another changes nothing
  pub pass-leaves : {u : ℕ} {b : Bool} → u ≡ union s groups → b ≡ bit u (j - 1) → b ≡ false → Pass named groups marks top (j - 1) s
  pass-leaves e f h = next s (λ a. rw (← e, sym f ∙ h, or-false))

-- A pass from the highest number: what is upstream of some groups
pub some_end : {named : List ℕ} {groups s : ℕ} → Goes named groups 0 32 0 s → (m : Model) (plan : List ℕ) (counts : ℕ → Bool) → Valid m
    → well_shaped m plan ≡ true → NamedBy m plan counts named → UpstreamOfSome m plan counts groups s
some_end {named} {groups} {s} goes m plan counts valid shaped by =
    record {
      bits = λ only a.
          bool-ext
          (λ t.
          let (b, of, u) = (told.final a zero-le).0 t in
          let below = upstream-count m valid plan counts shaped b a u in
          let few : b < 32 = omega (arith, few-groups m valid plan shaped) in
          any-intro (λ k. bit groups k && upstream_in m plan counts k a) {x = b} (up_to-mem {i = b} few)
          (and_intro {a = bit groups b} {b = upstream_in m plan counts b a} of u))
          (λ t.
          let (b, b-in, both) = any_some _ (up_to 32) t in
          (told.final a zero-le).1 (b, and_left _ _ both, and_right (bit groups b) _ both));
    }
  where
    told : MarkedFrom m plan counts groups 0 s
    told =
        goes m plan counts groups valid shaped by (λ a h. refl)
        (marked-none m valid plan counts shaped groups (λ k t h. omega (arith, few-groups m valid plan shaped)))

-- A pass that has been at group k: what is upstream of it
module _ (k : ℕ) where
  own : (b : ℕ) → bit (alone k) b ≡ true → k ≡ b
  own b t = eqb-true k b (sym (bit-alone k b) ∙ t)

  itself : bit (alone k) k ≡ true
  itself = bit-alone k k ∙ eq-eqb k k refl

  module _ (m : Model) (valid : Valid m) (plan : List ℕ) (counts : ℕ → Bool) (shaped : well_shaped m plan ≡ true) where
    -- what the group names is marked then
    one-start : {named : List ℕ} → NamedBy m plan counts named → k < 32 → MarkedFrom m plan counts (alone k) k (get_or named k 0)
    one-start {named} by few =
        let last : suc k - 1 ≡ k = omega arith in
        rw last at
        (marked_next m valid plan counts shaped (alone k) {j = suc k}
        (marked-none m valid plan counts shaped (alone k) (λ b t h. let e = own b t in omega arith)) (omega arith) by (omega arith)
        (get_or named k 0)
        (λ a. rw (last, bit-none a, or_right (bit 0 k) itself)))

pub one_end : {named : List ℕ} {k g s : ℕ} → k ≡ g → g < 32 → Goes named 0 (get_or named k 0) k 0 s
    → (m : Model) (plan : List ℕ) (counts : ℕ → Bool) → Valid m → well_shaped m plan ≡ true → g < group_count (groups_in m plan)
    → NamedBy m plan counts named → UpstreamSet m plan counts g s
one_end {named} {k} {g} {s} same few goes m plan counts valid shaped there by =
    record {
      bits = λ a.
          rw (← same)
          (bool-ext
          (λ t. let (b, of, u) = (told.final a zero-le).0 t in rw (own k b of) u)
          (λ u. (told.final a zero-le).1 (k, itself k, u)));
    }
  where
    told : MarkedFrom m plan counts (alone k) 0 s
    told =
        goes m plan counts (alone k) valid shaped by (λ a h. bit-none a ∙ sym (bit-alone k a ∙ ne_eqb k a (omega arith)))
        (one-start k m valid plan counts shaped by (omega arith))
