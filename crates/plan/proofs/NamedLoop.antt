-- The loop over a sheet's moves that gathers, for each group, the set of the other groups that its moves name.
-- Assumes nothing.
use Prim.Native.Nat.{ℕ, ◌+◌, ◌^◌, ◌≤◌, ◌<◌}
use mathlib.Core.Path.{◌≡◌, refl, sym, ◌∙◌}
use mathlib.Core.List.Memᴰ
use mathlib.Core.List.{List}
use mathlib.Core.Bool.{Bool, true, false, not, ◌&&◌, ◌||◌}
use native.Mathlib.Nat.{le_trans}
use native.Mathlib.Numerals.{add-one}
use native.Mathlib.Omega.{arith}
use borrow.Author.Tests.{eqb-true, eqb-false, eq-eqb, ne_eqb, not-true, ltb-true, ltb-false}
use lib.Dec.{eqb, ltb}
use lib.ListN.{length, get_or, set, replicate, length-set}
use lib.Pow.{pow_mono}
use lib.Seq.{get_or-set_same, get_or-set_other}
use Rattle.common.specs.Bits.{bit}
use Rattle.common.specs.Lists.{up_to, any, filter}
use Rattle.common.proofs.Bits.{bit_past}
use Rattle.common.proofs.Bools.{by_cases, bool-ext, and_intro, and_left, and_right, not_of_false}
use Rattle.common.proofs.Lists.{any-intro, any_some, any-fails, filter-mem, filter-from, filter-holds}
use Rattle.common.proofs.Members.{up_to-mem, up_to-below}
use Rattle.common.proofs.Pad.{get_or-zeros}
use Rattle.common.proofs.Snoc.{any_snoc}
use Rattle.sets.specs.Kept.Sets.{union}
use Rattle.sets.proofs.Laws.{bit-none}
use Rattle.sets.proofs.Joined.{bit-joined}
use Rattle.sheet.specs.Model.{Model, machine_count, move_count, move_at}
use Rattle.sheet.specs.Valid.{Valid}
use Rattle.plan.specs.Groups.{Grouping, group_of, group_count, moves_of, names_group, named_outside}
use Rattle.plan.specs.Kept.Partition.{AddsNamed}
use Rattle.plan.proofs.Named.{group-below-count, moves-in, moves-below, moves-group, guard-valid, moves-mem}
use Rattle.plan.proofs.Named.{named_in, named-below, named_other, named_by}

module _ (m : Model) (groups : Grouping) (counts : ℕ → Bool) where
  -- move u is of group k, counts, and names group a outside
  unfoldable pub names_by : ℕ → ℕ → ℕ → Bool
  names_by k a u =
      eqb (group_of groups (move_at m u).machine) k
      && (counts u && (names_group groups a (move_at m u) && not (eqb k a)))

  -- what the first v moves name is in the sets r
  pub record NamedUpto (v : ℕ) (r : List ℕ) : Type 0 where
    pub long : length r ≡ 32
    pub fits : (k : ℕ) → get_or r k 0 < 2 ^ 64
    pub bits : (k a : ℕ) → k < 32 → a < 64 → bit (get_or r k 0) a ≡ any (names_by k a) (up_to v)

  pub named_none : NamedUpto 0 (replicate 32 0)
  unfolding any up_to
  named_none =
      record {
        long = refl;
        fits = λ k. rw get_or-zeros (omega arith);
        bits = λ k a h b. rw get_or-zeros (bit-none a);
      }

  -- one more move
  module _ {v : ℕ} {r : List ℕ} (n : NamedUpto v r) where
    module _ {own x t : ℕ} (h : own < 32) (e : own ≡ group_of groups (move_at m v).machine)
        (adds : AddsNamed groups (move_at m v) own (counts v) (get_or r own 0) x) (q : t ≡ union (get_or r own 0) x) where
      joins : (k a : ℕ) → a < 64 → (bit (get_or r k 0) a || (eqb own k && bit x a)) ≡ (bit (get_or r k 0) a || names_by k a v)
      unfolding names_by
      joins k a b =
          rw (← e)
          (by_cases (eqb own k) (λ y. rw (y, ← eqb-true own k y) (adds.bits a b)) (λ f. rw f))

      pub named-next : t < 2 ^ 64 → NamedUpto (v + 1) (set r own t)
      unfolding up_to
      named-next fits =
          let inside : own < length r = omega (arith, n.long) in
          record {
            long = length-set r own t ∙ n.long;
            fits = λ k.
                by_cases (eqb k own)
                (λ y. rw (eqb-true k own y, get_or-set_same r own t 0 inside) fits)
                (λ f. rw (get_or-set_other r own k t 0 (eqb-false k own f)) (n.fits k));
            bits = λ k a l b.
                rw (q, bit-joined r own x k a inside, joins k a b, n.bits k a l b, add-one, any_snoc);
          }

  -- What the moves name altogether

  module _ (valid : Valid m) (all-machines : length groups ≡ machine_count m) (k a : ℕ) where
    abbrev moves : List ℕ
    moves = filter counts (moves_of m groups k)

    named-listed : any (names_by k a) (up_to (move_count m)) ≡ true → any (eqb a) (named_outside m groups k moves) ≡ true
    unfolding names_by names_group
    named-listed t =
        let (u, u-in, by) = any_some (names_by k a) (up_to (move_count m)) t in
        let of-group = eqb-true _ _ (and_left _ _ by) in
        let rest = and_right (eqb (group_of groups (move_at m u).machine) k) _ by in
        let names = and_right (counts u) _ rest in
        let (g, g-in, on) = any_some _ (move_at m u).guards (and_left _ _ names) in
        let other = and_right (names_group groups a (move_at m u)) _ names in
        let of-k = moves-in m groups (up_to-below (move_count m) u-in) of-group in
        let present = (guard-valid valid (moves-mem m groups k of-k) g-in).present in
        let same : group_of groups g.machine ≡ a = eqb-true _ _ on in
        let below = group-below-count groups g.machine (rw all-machines present) in
        any-intro (eqb a)
        (named_in m groups (omega arith) (λ e. eqb-false k a (not-true _ other) (sym e))
        (u, filter-mem _ of-k (and_left _ _ rest), g, g-in, same))
        (eq-eqb a a refl)

    listed-named : any (eqb a) (named_outside m groups k moves) ≡ true → any (names_by k a) (up_to (move_count m)) ≡ true
    unfolding names_by names_group
    listed-named t =
        let (b, b-in, e) = any_some (eqb a) (named_outside m groups k moves) t in
        let a_in = Memᴰ.cast (eqb-true a b e) b-in in
        let by = named_by m groups k moves a_in in
        let of-k = filter-from _ (moves_of m groups k) by.1 in
        any-intro (names_by k a) (up_to-mem (moves-below m groups k of-k))
        (and_intro (eq-eqb _ _ (moves-group m groups k of-k))
        (and_intro (filter-holds _ (moves_of m groups k) by.1)
        (and_intro (any-intro _ by.3 (eq-eqb _ _ by.4))
        (not_of_false (ne_eqb k a (λ z. named_other m groups k moves a_in (sym z)))))))

    pub named-exactly : any (names_by k a) (up_to (move_count m)) ≡ any (eqb a) (named_outside m groups k moves)
    named-exactly = bool-ext named-listed listed-named

    none-past : group_count groups ≤ a → any (eqb a) (named_outside m groups k moves) ≡ false
    none-past h =
        any-fails (eqb a) _ (λ b l. ne_eqb a b (λ e. omega (arith, named-below m groups k moves l)))

  pub named_end : {v : ℕ} {r : List ℕ} → Valid m → length groups ≡ machine_count m → group_count groups ≤ 32
      → NamedUpto v r → v ≡ move_count m
      → (k a : ℕ) → k < 32 → bit (get_or r k 0) a ≡ any (eqb a) (named_outside m groups k (filter counts (moves_of m groups k)))
  named_end {v} {r} valid all-machines few n e k a h =
      by_cases (ltb a 64)
      (λ t. n.bits k a h (ltb-true a 64 t) ∙ rw e (named-exactly valid all-machines k a))
      (λ f.
      bit_past (get_or r k 0) a (le_trans (n.fits k) (pow_mono (ltb-false a 64 f)))
      ∙ sym (none-past valid all-machines k a (omega (arith, ltb-false a 64 f))))
