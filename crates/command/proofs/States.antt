-- The bytes of a state: where a machine's mode and tag stand; and a state with one machine in another mode: this machine has
-- it, every other machine is as before, and so is every tag.
-- The laws up to `tags-with_mode` open the readers and the writer of a state; else only the proof of `put_mode` does, and
-- `Tagless.antt`, about states without tags. Assumes nothing.
use Prim.Native.Nat.{ℕ, zero, suc, ◌+◌, ◌*◌, ◌<◌}
use mathlib.Core.Path.{◌≡◌, refl, sym, ap, ◌∙◌}
use mathlib.Core.List.{List, [], ◌∷◌}
use native.Mathlib.Omega.{arith}
use lib.ListN.{length, get_or, set, drop, length-set}
use lib.Seq.{get_or-set_same, get_or-set_other, get_or-drop}
use Rattle.sheet.specs.Record.{byte}
use Rattle.command.specs.State.{every_second, modes, tags, mode_of, tag_of, with_mode}

pub twice : (i : ℕ) → 2 * suc i ≡ suc (suc (2 * i))
twice i = omega arith

-- every second byte
second_at : (s : List ℕ) (i : ℕ) → get_or (every_second s) i 0 ≡ get_or s (2 * i) 0
unfolding every_second
second_at [] i = refl
second_at (x ∷ []) zero = refl
second_at (x ∷ []) (suc i) = rw twice refl
second_at (x ∷ y ∷ rest) zero = refl
second_at (x ∷ y ∷ rest) (suc i) = rw twice (second_at rest i)

second-length : (s : List ℕ) (n : ℕ) → length s ≡ 2 * n → length (every_second s) ≡ n
unfolding every_second
second-length [] n e = omega (arith, e)
second-length (x ∷ []) n e = omega (arith, e)
second-length (x ∷ y ∷ rest) zero e = omega (arith, e)
second-length (x ∷ y ∷ rest) (suc n) e = ap suc (second-length rest n (omega (arith, e)))

second-long : (s t : List ℕ) → length s ≡ length t → length (every_second s) ≡ length (every_second t)
unfolding every_second
second-long [] [] e = refl
second-long [] (y ∷ t) e = absurd (let f : ⊥ = omega (arith, e) in f)
second-long (x ∷ s) [] e = absurd (let f : ⊥ = omega (arith, e) in f)
second-long (x ∷ []) (y ∷ []) e = refl
second-long (x ∷ []) (y ∷ b ∷ t) e = absurd (let f : ⊥ = omega (arith, e) in f)
second-long (x ∷ a ∷ s) (y ∷ []) e = absurd (let f : ⊥ = omega (arith, e) in f)
second-long (x ∷ a ∷ s) (y ∷ b ∷ t) e = ap suc (second-long s t (omega (arith, e)))

second-set : (s : List ℕ) (i x : ℕ) → every_second (set s (2 * i) x) ≡ set (every_second s) i x
unfolding every_second
second-set [] i x = refl
second-set (a ∷ []) zero x = refl
second-set (a ∷ []) (suc i) x = rw twice refl
second-set (a ∷ b ∷ rest) zero x = refl
second-set (a ∷ b ∷ rest) (suc i) x = rw twice (ap (λ r. a ∷ r) (second-set rest i x))

second-cons : (x : ℕ) (s : List ℕ) → every_second (x ∷ s) ≡ x ∷ every_second (drop 1 s)
unfolding every_second
second-cons x [] = refl
second-cons x (y ∷ rest) = refl

second-kept : (s : List ℕ) (i x : ℕ) → every_second (drop 1 (set s (2 * i) x)) ≡ every_second (drop 1 s)
unfolding every_second
second-kept [] i x = refl
second-kept (a ∷ rest) zero x = refl
second-kept (a ∷ []) (suc i) x = rw twice refl
second-kept (a ∷ b ∷ rest) (suc i) x =
    rw twice
    (second-cons b (set rest (2 * i) x) ∙ ap (λ r. b ∷ r) (second-kept rest i x) ∙ sym (second-cons b rest))

-- where a machine's mode and tag stand
pub mode-place : (state : List ℕ) (i : ℕ) → mode_of state i ≡ byte state (2 * i)
unfolding modes
mode-place state i = second_at state i

pub tag-place : (state : List ℕ) (i : ℕ) → tag_of state i ≡ byte state (2 * i + 1)
unfolding tags
tag-place state i =
    let e : 2 * i + 1 ≡ 1 + 2 * i = omega arith in
    second_at (drop 1 state) i ∙ rw e (get_or-drop 1 state (2 * i) 0)

pub length-modes : (state : List ℕ) (n : ℕ) → length state ≡ 2 * n → length (modes state) ≡ n
unfolding modes
length-modes state n e = second-length state n e

pub modes-long : (state other : List ℕ) → length state ≡ length other → length (modes state) ≡ length (modes other)
unfolding modes
modes-long state other e = second-long state other e

module _ (state : List ℕ) (i mode : ℕ) where
  pub modes-with_mode : modes (with_mode state i mode) ≡ set (modes state) i mode
  unfolding modes with_mode
  modes-with_mode = second-set state i mode

  pub length-with_mode : length (with_mode state i mode) ≡ length state
  unfolding with_mode
  length-with_mode = length-set state (2 * i) mode

  pub tags-with_mode : tags (with_mode state i mode) ≡ tags state
  unfolding tags with_mode
  tags-with_mode = second-kept state i mode

  pub mode-there : (n : ℕ) → length state ≡ 2 * n → i < n → mode_of (with_mode state i mode) i ≡ mode
  mode-there n e h = rw modes-with_mode (get_or-set_same (modes state) i mode 0 (omega (arith, length-modes state n e)))

  pub mode-elsewhere : (j : ℕ) → (j ≡ i → ⊥) → mode_of (with_mode state i mode) j ≡ mode_of state j
  mode-elsewhere j n = rw modes-with_mode (get_or-set_other (modes state) i j mode 0 n)

  pub tag-kept : (j : ℕ) → tag_of (with_mode state i mode) j ≡ tag_of state j
  tag-kept j = ap (λ ts. get_or ts j 0) tags-with_mode
