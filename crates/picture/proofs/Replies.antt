-- The replies of drawing and of reading are right.
-- Assumes nothing.
use Prim.Native.Nat.{ℕ}
use mathlib.Core.Path.{◌≡◌, refl, sym, ap, ap₂, subst, ◌∙◌}
use mathlib.Core.List.{List, [], ◌∷◌}
use mathlib.Core.Bool.{true, false}
use native.Mathlib.Omega.{arith}
use borrow.Author.Tests.{eqb-true, eq-eqb, ltb-true, ltb-false}
use lib.Dec.{eqb, ltb}
use lib.ListN.{length}
use Rattle.common.specs.Reply.{given, refused, unless, and_then, fitted}
use Rattle.common.proofs.Bools.{by_cases, true-false, and_intro, and_left, and_right, not-of-true, not_of_false}
use Rattle.common.proofs.Output.{too_long, short-enough}
use Rattle.common.proofs.Reply.{given-not-refused, unless-first, unless-later}
use Rattle.sheet.specs.Parse.{Parsed, parse}
use Rattle.sheet.proofs.Guarantees.{accepted-valid}
use Rattle.plan.specs.Groups.{groups_of}
use Rattle.picture.specs.Picture.{Picture, named_by, picture_of, picture_bytes}
use Rattle.picture.specs.Text.{text_of}
use Rattle.picture.specs.Reading.{said_nothing, said_after, taken_apart, drawable}
use Rattle.picture.specs.Graph.{graph_reply, same_bytes, is_text, read_as, read_reply}
use Rattle.picture.specs.Drawn.{HasSheet, DrawsRight, ReadsRight, PicturesRight}
use Rattle.picture.proofs.Bytes.{bytes-right}
use Rattle.picture.proofs.DrawableMeans.{drawable-means}
use Rattle.picture.proofs.LaidOut.{laid_out}
use Rattle.picture.proofs.Naming.{picture-right}
use Rattle.picture.proofs.Numbers.{pictures-are-drawable}
use Rattle.picture.proofs.Sheets.{every-drawable-has-a-sheet}
use Rattle.picture.proofs.TakenApart.{taken-apart}

-- 12

module _ (out : List ℕ) (room : ℕ) where
  not-20 : fitted out room ≡ refused 20 0 → ⊥
  not-20 e =
      by_cases (ltb room (length out))
      (λ t. let z : ◌≡◌ {A = ℕ} 12 20 = cc (too_long out room (ltb-true _ _ t), e) in omega arith)
      (λ f. given-not-refused (sym (short-enough out room (ltb-false _ _ f)) ∙ e))

-- Texts that are the same

pub same-equal : (xs ys : List ℕ) → same_bytes xs ys ≡ true → xs ≡ ys
unfolding same_bytes
same-equal [] [] t = refl
same-equal [] (y ∷ ys) t = absurd (true-false t refl)
same-equal (x ∷ xs) [] t = absurd (true-false t refl)
same-equal (x ∷ xs) (y ∷ ys) t = ap₂ ◌∷◌ (eqb-true x y (and_left _ _ t)) (same-equal xs ys (and_right (eqb x y) _ t))

pub same_self : (xs : List ℕ) → same_bytes xs xs ≡ true
unfolding same_bytes
same_self [] = refl
same_self (x ∷ xs) = and_intro (eq-eqb x x refl) (same_self xs)

-- Reading

module _ (p : Picture) (text : List ℕ) (room : ℕ) where
  pub read-refused : is_text p text ≡ false → read_as p text room ≡ refused 20 0
  unfolding read_as
  read-refused f = unless-first _ [] _ (not_of_false f)

  pub read-fitted : is_text p text ≡ true → read_as p text room ≡ fitted (picture_bytes p) room
  unfolding read_as unless
  read-fitted t = unless-later _ [] _ (not-of-true t)

-- a text that is judged to be one has a sheet
text-has-sheet : (text : List ℕ) → is_text (taken_apart text) text ≡ true → HasSheet text
unfolding is_text taken_apart
text-has-sheet text t =
    let p = taken_apart text in
    subst HasSheet (same-equal (text_of p) text (and_right (drawable p) _ t))
    (every-drawable-has-a-sheet p (said_after 0 text said_nothing).joined refl (and_left _ _ t))

module _ (sheet : List ℕ) {d : Parsed} (parses : parse sheet ≡ given d) where
  abbrev drawn : Picture
  drawn = picture_of d.model

  drawn-drawable : drawable drawn ≡ true
  drawn-drawable = let (valid, some) = accepted-valid sheet d parses in pictures-are-drawable valid some

  drawn-back : taken_apart (text_of drawn) ≡ drawn
  unfolding picture_of
  drawn-back = taken-apart drawn (named_by d.model (groups_of d.model)) refl drawn-drawable

  drawn-read : (room : ℕ) {text : List ℕ} → text_of drawn ≡ text → read_reply text room ≡ fitted (picture_bytes drawn) room
  unfolding read_reply is_text
  drawn-read room {text} e =
      ap (λ p. read_as p text room) (ap taken_apart (sym e) ∙ drawn-back)
      ∙ read-fitted drawn text room
      (and_intro drawn-drawable (ap (same_bytes (text_of drawn)) (sym e) ∙ same_self (text_of drawn)))

reads-right : (text : List ℕ) (room : ℕ) → ReadsRight text room
unfolding read_reply
reads-right text room =
    let p = taken_apart text in
    record {
      other_text = λ none.
          by_cases (is_text p text) (λ t. absurd (none (text-has-sheet text t))) (read-refused p text room);
      exactly = (
        λ read.
            by_cases (is_text p text) (text-has-sheet text) (λ f. absurd (read (read-refused p text room f))),
        λ s e. not-20 _ room (sym (drawn-read s.sheet s.passes room s.drawn) ∙ e),
      );
      no_room = λ sheet d parses e h. drawn-read sheet parses room e ∙ too_long _ room h;
      reads-back = λ sheet d parses e h. drawn-read sheet parses room e ∙ short-enough _ room h;
    }

-- Drawing

draws-right : (sheet : List ℕ) (room : ℕ) → DrawsRight sheet room
unfolding graph_reply and_then
draws-right sheet room =
    record {
      sheet-first = λ n p e. rw e;
      no_room = λ d e h. rw e (too_long _ room h);
      draws = λ d e h. rw e (short-enough _ room h);
    }

pub pictures-right : PicturesRight
pictures-right =
    record {
      pictures = λ sheet d parses. (
        picture-right (accepted-valid sheet d parses).0,
        bytes-right d.model,
        laid_out (drawn sheet parses) ((drawable-means _).0 (drawn-drawable sheet parses)),
      );
      draws = draws-right;
      reads = reads-right;
    }
