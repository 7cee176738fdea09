-- The edges that a relation draws: which they are, that they rise, that they tell the relation, how many they are at
-- most, and that relations that agree draw the same.
-- Assumes nothing.
use Prim.Native.Nat.{ℕ, zero, suc, ◌-◌, ◌+◌, ◌≤◌, ◌<◌}
use mathlib.Core.Path.{◌≡◌, refl, sym, ap, ap₂, subst, ◌∙◌}
use mathlib.Core.Logic.{◌↔◌, inl, inr}
use mathlib.Core.List.{List, ◌++◌, map, flat_map, Memᴰ}
use mathlib.Core.List.Memᴰ
use mathlib.Core.Bool.{Bool, true, ◌&&◌}
use native.Mathlib.Nat.{not-suc-le-zero}
use native.Mathlib.Omega.{arith}
use borrow.Author.Tests.{ltb-true, ltb-false, eqb-true, eq-eqb}
use lib.Dec.{eqb, ltb}
use lib.ListN.{length, get_or, length-append, length-map, get_or-append}
use lib.Seq.{get_or-append-add}
use Rattle.common.specs.Lists.{up_to, any, filter}
use Rattle.common.proofs.Bools.{by_cases, bool-ext, and_intro, and_left, and_right}
use Rattle.common.proofs.Members.{mem-get_or, flat_map-mem, flat_map-from, up_to-mem, up_to-below, length-up_to, get_or-map}
use Rattle.common.proofs.Lists.{any-intro, any_some, filter-mem, filter-from, filter-holds, filter-cong, length-filter}
use Rattle.common.proofs.Sums.{sum_mono, sum-constant, length-flat_map, flat_map-up_to-suc, flat_map-cong}
use Rattle.plan.proofs.ModeDigits.{filter-rises}
use Rattle.picture.specs.Picture.{Edge, edge, edges_by}
use Rattle.picture.specs.Drawn.{Before, no_edge}

-- Lists of edges that rise

abbrev pub Rises : List Edge → Type 0
Rises es = (i : ℕ) → suc i < length es → Before (get_or es i no_edge) (get_or es (suc i) no_edge)

module _ (xs ys : List Edge) where
  behind : (i : ℕ) → length xs ≤ i → get_or (xs ++ ys) i no_edge ≡ get_or ys (i - length xs) no_edge
  behind i h =
      let e : i ≡ length xs + (i - length xs) = omega arith in
      ap (λ j. get_or (xs ++ ys) j no_edge) e ∙ get_or-append-add xs ys (i - length xs) no_edge

  append-rises : Rises xs → Rises ys → ((x y : Edge) → Memᴰ x xs → Memᴰ y ys → Before x y) → Rises (xs ++ ys)
  append-rises first second across i h =
      let n = length xs in
      let l : suc i < n + length ys = rw length-append at h in
      by_cases (ltb i n)
      (λ t.
      let b = ltb-true i n t in
      rw (get_or-append xs ys no_edge i b)
      (by_cases (ltb (suc i) n)
      (λ u. let c = ltb-true (suc i) n u in rw (get_or-append xs ys no_edge (suc i) c) (first i c))
      (λ u.
      rw (behind (suc i) (ltb-false (suc i) n u))
      (across _ _ (mem-get_or xs i no_edge b) (mem-get_or ys (suc i - n) no_edge (omega (arith, ltb-false (suc i) n u)))))))
      (λ f.
      let b = ltb-false i n f in
      let e : suc i - n ≡ suc (i - n) = omega arith in
      rw (behind i b, behind (suc i) (omega arith), e) (second (i - n) (omega arith)))

-- What a relation draws

-- an edge from a to k
abbrev pub leads : ℕ → ℕ → Edge → Bool
leads a k e = eqb e.source a && eqb e.target k

module _ (joined : ℕ → ℕ → Bool) (n : ℕ) where
  -- the edges from a
  abbrev from : ℕ → List Edge
  from a = map (edge a) (filter (joined a) (up_to n))

  from-source : (a : ℕ) {e : Edge} → Memᴰ e (from a) → e.source ≡ a
  from-source a l =
      let (k, k-in, q) = Memᴰ.of_map (edge a) (filter (joined a) (up_to n)) l in
      ap (λ x. x.source) (sym q)

  pub edges_by-members : (e : Edge) → Memᴰ e (edges_by joined n)
      ↔ ((e.source < n) × (e.target < n) × (joined e.source e.target ≡ true))
  unfolding edges_by
  edges_by-members e = (
    λ l.
        let (a, a_in, e-in) = flat_map-from from (up_to n) l in
        let (k, k-in, q) = Memᴰ.of_map (edge a) (filter (joined a) (up_to n)) e-in in
        subst (λ x. (x.source < n) × (x.target < n) × (joined x.source x.target ≡ true)) q
        (up_to-below n a_in, up_to-below n (filter-from (joined a) (up_to n) k-in), filter-holds (joined a) (up_to n) k-in),
    λ r.
        let (a-below, k-below, t) = r in
        flat_map-mem from (up_to-mem a-below)
        (Memᴰ.map (edge e.source) (filter-mem (joined e.source) (up_to-mem k-below) t)),
  )

  -- two numbers are joined exactly if some edge joins them
  pub edges-tell : (a k : ℕ) → a < n → k < n → any (leads a k) (edges_by joined n) ≡ joined a k
  edges-tell a k h l =
      bool-ext
      (λ t.
      let (e, e-in, is) = any_some (leads a k) (edges_by joined n) t in
      let source = eqb-true e.source a (and_left _ _ is) in
      let target = eqb-true e.target k (and_right (eqb e.source a) _ is) in
      ap₂ joined (sym source) (sym target) ∙ ((edges_by-members e).0 e-in).2)
      (λ t.
      any-intro (leads a k) ((edges_by-members (edge a k)).1 (h, l, t)) (and_intro (eq-eqb a a refl) (eq-eqb k k refl)))

  from-rises : (a : ℕ) → Rises (from a)
  from-rises a i h =
      let ks = filter (joined a) (up_to n) in
      let l : suc i < length ks = rw length-map at h in
      rw (get_or-map (edge a) ks i 0 no_edge (omega arith), get_or-map (edge a) ks (suc i) 0 no_edge l)
      (inr (refl, filter-rises (joined a) n i l))

  upto-rises : (k : ℕ) → Rises (flat_map from (up_to k))
  unfolding up_to flat_map
  upto-rises zero = λ i h. absurd (not-suc-le-zero h)
  upto-rises (suc k) =
      rw (flat_map-up_to-suc from k)
      (append-rises _ (from k) (upto-rises k) (from-rises k) (λ x y x-in y-in.
      let (a, a_in, there) = flat_map-from from (up_to k) x-in in
      inl (omega (arith, up_to-below k a_in, from-source a there, from-source k y-in))))

  pub edges_by-rises : Rises (edges_by joined n)
  unfolding edges_by
  edges_by-rises = upto-rises n

  -- at most 32 from each of 32 numbers
  pub edges_few : n ≤ 32 → length (edges_by joined n) ≤ 1024
  unfolding edges_by
  edges_few few =
      let most : ℕ → ℕ = λ a. 32 in
      omega (
        arith,
        length-flat_map from (up_to n),
        sum_mono (λ a. length (from a)) most (up_to n) (λ a a_in.
            let those = filter (joined a) (up_to n) in
            omega (arith, length-map those (edge a), length-filter (joined a) (up_to n), length-up_to n)),
        sum-constant most 32 (up_to n) (λ a a_in. refl),
        length-up_to n,
      )

pub edges_by-cong : (joined other : ℕ → ℕ → Bool) (n : ℕ) → ((a k : ℕ) → a < n → k < n → joined a k ≡ other a k)
    → edges_by joined n ≡ edges_by other n
unfolding edges_by
edges_by-cong joined other n agree =
    flat_map-cong (from joined n) (from other n) (up_to n) (λ a a_in.
    ap (map (edge a)) (filter-cong (joined a) (other a) (up_to n) (λ k k-in.
    agree a k (up_to-below n a_in) (up_to-below n k-in))))
