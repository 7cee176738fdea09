-- `clear`, the test that no cause applies: what it says of each cause, of two lists and of a list made group by group.
-- Assumes nothing.
use mathlib.Core.Path.{◌≡◌, refl, sym, ap, ◌∙◌}
use mathlib.Core.List.{List, [], ◌∷◌, ◌++◌, flat_map}
use mathlib.Core.Bool.{Bool, true, false, not, ◌&&◌}
use borrow.Author.Tests.{not-true}
use Rattle.common.specs.Lists.{all}
use Rattle.common.specs.Reply.{Reply, Fault, clear, unless}
use Rattle.common.proofs.Bools.{by_cases, true-false, and_intro, and_left, and_right, not_of_false}
use Rattle.common.proofs.Lists.{all_append}
use Rattle.common.proofs.Reply.{Clear, unless-first, unless-later}

pub all-flat_map : {A B : Type 0} (p : B → Bool) (f : A → List B) (xs : List A)
    → all p (flat_map f xs) ≡ all (λ x. all p (f x)) xs
unfolding all flat_map
all-flat_map p f [] = refl
all-flat_map p f (x ∷ xs) = all_append p (f x) (flat_map f xs) ∙ ap (◌&&◌ (all p (f x))) (all-flat_map p f xs)

pub clear-each : (fs : List Fault) → clear fs ≡ true → Clear fs
unfolding clear all
clear-each [] h = tt
clear-each (f ∷ fs) h = (not-true _ (and_left _ _ h), clear-each fs (and_right (not f.applies) _ h))

pub each-clear : (fs : List Fault) → Clear fs → clear fs ≡ true
unfolding clear all
each-clear [] h = refl
each-clear (f ∷ fs) h = and_intro (not_of_false h.0) (each-clear fs h.1)

pub clear-append : (fs gs : List Fault) → clear (fs ++ gs) ≡ (clear fs && clear gs)
unfolding clear
clear-append fs gs = all_append _ fs gs

-- causes listed for each member of a list
pub clear-flat_map : {A : Type 0} (f : A → List Fault) (xs : List A) → clear (flat_map f xs) ≡ all (λ x. clear (f x)) xs
unfolding clear
clear-flat_map f xs = all-flat_map _ f xs

module _ {A : Type 0} where
  pub unless-append-clear : (fs gs : List Fault) (r : Reply A) → clear fs ≡ true → unless (fs ++ gs) r ≡ unless gs r
  unfolding clear all
  unless-append-clear [] gs r h = refl
  unless-append-clear (f ∷ fs) gs r h =
      unless-later f (fs ++ gs) r (not-true _ (and_left _ _ h))
      ∙ unless-append-clear fs gs r (and_right (not f.applies) _ h)

  pub unless-append-decides : (fs gs : List Fault) (r : Reply A) → clear fs ≡ false → unless (fs ++ gs) r ≡ unless fs r
  unfolding clear all
  unless-append-decides [] gs r h = absurd (true-false refl h)
  unless-append-decides (f ∷ fs) gs r h =
      by_cases f.applies
      (λ t. unless-first f (fs ++ gs) r t ∙ sym (unless-first f fs r t))
      (λ n.
      unless-later f (fs ++ gs) r n
      ∙ (unless-append-decides fs gs r (rw n at h) ∙ sym (unless-later f fs r n)))
