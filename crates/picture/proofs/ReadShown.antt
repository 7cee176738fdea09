-- The reply of reading: of a text that is matched, and of one that no picture has.
-- Assumes nothing.
use Prim.Native.Nat.{ℕ}
use mathlib.Core.Path.{◌≡◌, refl, sym, ap, ◌∙◌}
use mathlib.Core.List.{List}
use mathlib.Core.Bool.{true, false, and-true}
use native.Mathlib.Omega.{arith}
use borrow.Author.Tests.{lt-ltb, le-leb}
use lib.Dec.{ltb}
use lib.ListN.{length, get_or}
use Rattle.common.specs.Bits.{bit}
use Rattle.common.specs.Lists.{up_to, all}
use Rattle.common.specs.Reply.{refused, length_of, output_after, fitted}
use Rattle.common.proofs.Bools.{by_cases, and_left, and_right}
use Rattle.common.proofs.Lists.{all-intro}
use Rattle.common.proofs.Members.{mem_index}
use Rattle.plan.proofs.Named.{group-below-count}
use Rattle.picture.specs.Picture.{edges_by, picture_bytes}
use Rattle.picture.specs.Text.{text_of}
use Rattle.picture.specs.Reading.{said_nothing, said_after, taken_apart, in_turn, drawable}
use Rattle.picture.specs.Graph.{same_bytes, is_text, read_as, read_reply}
use Rattle.picture.specs.Kept.Shown.{shown, Shown}
use Rattle.picture.specs.Kept.Matched.{NoPicture}
use Rattle.picture.proofs.Replies.{same-equal, same_self, read-refused, read-fitted}
use Rattle.picture.proofs.TakenApart.{picture-back}

-- a refusal leaves the buffer as it was
pub not-read : (text before : List ℕ) → is_text (taken_apart text) text ≡ false
    → (refused 20 0 ≡ length_of (read_reply text (length before)))
    × (before ≡ output_after (read_reply text (length before)) before)
unfolding read_reply
not-read text before n = rw (read-refused (taken_apart text) text (length before) n) (refl, refl)

pub other_text : (text : List ℕ) → NoPicture text → is_text (taken_apart text) text ≡ false
unfolding is_text taken_apart
other_text text none =
    let p = taken_apart text in
    by_cases (is_text p text)
    (λ t.
    absurd (none p (said_after 0 text said_nothing).joined refl (and_left _ _ t)
    (same-equal (text_of p) text (and_right (drawable p) _ t))))
    (λ f. f)

module _ {text numbers targets : List ℕ} (s : Shown text numbers targets) where
  shown-back : taken_apart text ≡ shown numbers targets
  unfolding shown
  shown-back =
      ap taken_apart (sym s.text-is)
      ∙ picture-back (shown numbers targets) (λ a k. bit (get_or targets a 0) k)
      (ap (edges_by (λ a k. bit (get_or targets a 0) k)) s.shows.all-groups)
      s.shows.few-machines (omega (arith, s.shows.few-groups, s.shows.all-groups))
      (λ k l. s.used k (omega (arith, l, s.shows.all-groups)))

  below : all (λ k. ltb k (length numbers)) numbers ≡ true
  below =
      all-intro (λ k. ltb k (length numbers)) numbers (λ k k-in.
      let (i, h, e) = mem_index 0 k-in in
      lt-ltb k (length numbers) (omega (arith, group-below-count numbers i h, e, s.shows.all-groups, s.no_more)))

  -- it is read exactly if its numbers are in their turn
  pub shown-judged : is_text (taken_apart text) text ≡ all (in_turn (shown numbers targets)) (up_to (length targets))
  unfolding is_text drawable shown
  shown-judged =
      let n = length numbers in
      let same : same_bytes (text_of (shown numbers targets)) text ≡ true =
      ap (same_bytes (text_of (shown numbers targets))) (sym s.text-is) ∙ same_self (text_of (shown numbers targets)) in
      ap (λ p. is_text p text) shown-back
      ∙ rw (same, lt-ltb 0 n s.some, le-leb n 32 s.shows.few-machines, below, sym s.shows.all-groups) (and-true _)

  pub shown_read : (room : ℕ) → all (in_turn (shown numbers targets)) (up_to (length targets)) ≡ true
      → read_reply text room ≡ fitted (picture_bytes (shown numbers targets)) room
  unfolding read_reply
  shown_read room t =
      ap (λ p. read_as p text room) shown-back
      ∙ read-fitted (shown numbers targets) text room (ap (λ p. is_text p text) (sym shown-back) ∙ shown-judged ∙ t)
