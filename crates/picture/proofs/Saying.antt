-- What the pieces of a text say: a piece after the other, a number, and each line.
-- Assumes nothing.
use Prim.Native.Nat.{ℕ, ◌<◌}
use mathlib.Core.Path.{◌≡◌, refl, sym, ap, ◌∙◌}
use mathlib.Core.List.{List, [], ◌∷◌, ◌++◌, flat_map, append-nil, Memᴰ}
use mathlib.Core.List.Memᴰ.{head}
use mathlib.Core.List.Memᴰ.{tail}
use mathlib.Core.Bool.{true, false, cond, not, ◌&&◌, and-false}
use native.Mathlib.Nat.{not-suc-le-zero}
use native.Mathlib.Omega.{arith}
use lib.Dec.{eqb}
use lib.ListN.{length}
use Rattle.common.specs.Lists.{all}
use Rattle.common.proofs.Bools.{and_left, and_right, cond-false}
use Rattle.decimal.specs.Decimal.{decimal, is_digit, leading_number}
use Rattle.decimal.specs.Meaning.{NoDigitFirst}
use Rattle.decimal.proofs.Digits.{decimal-digits, some-digit}
use Rattle.decimal.proofs.ReadBack.{nothing-first, other-first, no-digit-first, number-stays, reads-back}
use Rattle.plan.specs.Groups.{Grouping, members}
use Rattle.picture.specs.Picture.{Edge}
use Rattle.picture.specs.Text.{line_start, labels, node_line, edge_line}
use Rattle.picture.specs.Reading.{Said, and_machine, and_group, and_number, said_after}

-- A piece after the other

-- a byte that is no digit only becomes the byte before
said-other : (before b : ℕ) (rest : List ℕ) (s : Said) → is_digit b ≡ false
    → said_after before (b ∷ rest) s ≡ said_after b rest s
unfolding said_after
said-other before b rest s f = rw f

-- where the text has no digit first, the byte before it does not matter
said-anywhere : (a b : ℕ) (rest : List ℕ) (s : Said) → NoDigitFirst rest → said_after a rest s ≡ said_after b rest s
unfolding said_after
said-anywhere a b [] s h = refl
said-anywhere a b (x ∷ rest) s h =
    let f = no-digit-first x rest h in
    said-other a x rest s f ∙ sym (said-other b x rest s f)

pub said-append : (before : ℕ) (xs rest : List ℕ) (s : Said) → NoDigitFirst rest
    → said_after before (xs ++ rest) s ≡ said_after 0 rest (said_after before xs s)
unfolding said_after leading_number
said-append before [] rest s h = said-anywhere before 0 rest s h
said-append before (x ∷ xs) rest s h =
    let after : ℕ → Said = λ n. cond (is_digit x && not (is_digit before)) (and_number before n s) s in
    ap (λ n. said_after x (xs ++ rest) (after n)) (number-stays 0 (x ∷ xs) rest h)
    ∙ said-append x xs rest (after (leading_number (x ∷ xs))) h

pub said-then : (xs : List ℕ) (b : ℕ) (rest : List ℕ) (s : Said) → is_digit b ≡ false
    → said_after 0 (xs ++ (b ∷ rest)) s ≡ said_after b rest (said_after 0 xs s)
said-then xs b rest s f =
    said-append 0 xs (b ∷ rest) s (other-first b rest f) ∙ said-other 0 b rest (said_after 0 xs s) f

break-append : (xs ys : List ℕ) → NoDigitFirst xs → NoDigitFirst ys → NoDigitFirst (xs ++ ys)
break-append [] ys h k = k
break-append (x ∷ xs) ys h k = λ l. h (omega arith)

pub break-flat_map : {A : Type 0} (f : A → List ℕ) (xs : List A) → ((x : A) → NoDigitFirst (f x))
    → NoDigitFirst (flat_map f xs)
unfolding flat_map
break-flat_map f [] h = nothing-first
break-flat_map f (x ∷ xs) h = break-append (f x) (flat_map f xs) (h x) (break-flat_map f xs h)

-- A number

-- digits behind a digit say nothing
said-digits : (before : ℕ) (xs : List ℕ) (s : Said) → is_digit before ≡ true → all is_digit xs ≡ true
    → said_after before xs s ≡ s
unfolding said_after all
said-digits before [] s t h = refl
said-digits before (x ∷ xs) s t h =
    rw (t, and-false (is_digit x)) (said-digits x xs s (and_left _ _ h) (and_right (is_digit x) _ h))

said-first : (before : ℕ) (xs : List ℕ) (s : Said) → is_digit before ≡ false → 0 < length xs → all is_digit xs ≡ true
    → said_after before xs s ≡ and_number before (leading_number xs) s
unfolding said_after all
said-first before [] s f l h = absurd (not-suc-le-zero l)
said-first before (x ∷ xs) s f l h =
    let t = and_left (is_digit x) _ h in
    rw (t, f) (said-digits x xs (and_number before (leading_number (x ∷ xs)) s) t (and_right (is_digit x) _ h))

said-number : (before n : ℕ) (s : Said) → is_digit before ≡ false → n < 65536
    → said_after before (decimal n) s ≡ and_number before n s
said-number before n s f h =
    said-first before (decimal n) s f (some-digit n) (decimal-digits n)
    ∙ ap (λ k. and_number before k s)
    (ap leading_number (sym (append-nil (decimal n))) ∙ reads-back n [] h nothing-first)

-- Lines

-- the machines of a line, one after the other
unfoldable pub and_machines : Said → List ℕ → Said
and_machines s [] = s
and_machines s (i ∷ is) = and_machines (and_machine s i) is

said-start : (k : ℕ) (s : Said) → k < 65536 → said_after 0 (line_start k) s ≡ and_group s k
unfolding line_start said_after is_digit and_number
said-start k s h = said-number 103 k s refl h

labels-break : (before : ℕ) (is : List ℕ) → is_digit before ≡ false → NoDigitFirst (labels before is)
unfolding labels
labels-break before [] f = nothing-first
labels-break before (i ∷ is) f = other-first before (decimal i ++ labels 32 is) f

said-labels : (before : ℕ) (is : List ℕ) (s : Said) → is_digit before ≡ false → eqb before 103 ≡ false
    → ((i : ℕ) → Memᴰ i is → i < 65536) → said_after 0 (labels before is) s ≡ and_machines s is
unfolding labels said_after and_machines and_number is_digit
said-labels before [] s f g h = refl
said-labels before (i ∷ is) s f g h =
    said-other 0 before (decimal i ++ labels 32 is) s f
    ∙ said-append before (decimal i) (labels 32 is) s (labels-break 32 is refl)
    ∙ ap (said_after 0 (labels 32 is)) (said-number before i s f (h i (head refl)) ∙ cond-false _ _ g)
    ∙ said-labels 32 is (and_machine s i) refl refl (λ j m. h j (tail m))

pub said-node : (groups : Grouping) (k : ℕ) (s : Said) → k < 65536
    → ((i : ℕ) → Memᴰ i (members groups k) → i < 65536)
    → said_after 0 (node_line groups k) s ≡ and_machines (and_group s k) (members groups k)
unfolding node_line said_after is_digit
said-node groups k s h each =
    let is = members groups k in
    let named : List ℕ = line_start k ++ (32 ∷ 91 ∷ 108 ∷ 97 ∷ 98 ∷ 101 ∷ 108 ∷ 61 ∷ []) in
    said-then (named ++ labels 34 is) 34 (93 ∷ 59 ∷ 10 ∷ []) s refl
    ∙ said-append 0 named (labels 34 is) s (labels-break 34 is refl)
    ∙ ap (said_after 0 (labels 34 is))
    (said-then (line_start k) 32 (91 ∷ 108 ∷ 97 ∷ 98 ∷ 101 ∷ 108 ∷ 61 ∷ []) s refl ∙ said-start k s h)
    ∙ said-labels 34 is (and_group s k) refl refl each

pub said-edge : (e : Edge) (s : Said) → e.source < 65536 → e.target < 65536
    → said_after 0 (edge_line e) s ≡ and_group (and_group s e.source) e.target
unfolding edge_line said_after is_digit and_number
said-edge e s h k =
    let joined : List ℕ = line_start e.source ++ (32 ∷ 45 ∷ 62 ∷ 32 ∷ 103 ∷ decimal e.target) in
    said-then joined 59 (10 ∷ []) s refl
    ∙ said-then (line_start e.source) 32 (45 ∷ 62 ∷ 32 ∷ 103 ∷ decimal e.target) s refl
    ∙ said-number 103 e.target (said_after 0 (line_start e.source) s) refl k
    ∙ ap (λ t. and_group t e.target) (said-start e.source s h)
