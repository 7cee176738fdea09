-- A piece written over a part of a list: the length stays, and so does what stands before and behind the piece; a
-- second piece behind it makes a longer one.
-- Assumes nothing.
use Prim.Native.Nat.{ℕ, ◌+◌, ◌≤◌}
use mathlib.Core.Path.{◌≡◌, sym, ap, ap₂, ◌∙◌}
use mathlib.Core.List.{List, [], ◌++◌, append_assoc}
use native.Mathlib.Omega.{arith}
use lib.ListN.{length, take, drop, length-append, length-drop, take-append-drop}
use lib.Seq.{length-take-le, take_at, drop_at, drop-drop}
use Rattle.sheet.specs.Kept.Written.{written}

pub written_none : (at : ℕ) (s : List ℕ) → s ≡ written at [] s
unfolding written
written_none at s = let e : at + 0 ≡ at = omega arith in rw e (sym (take-append-drop at s))

module _ (at : ℕ) (piece s : List ℕ) (h : at ≤ length s) where
  front_length : length (take at s ++ piece) ≡ at + length piece
  front_length = omega (arith, length-append (take at s) piece, length-take-le at s h)

  regrouped : written at piece s ≡ take at s ++ piece ++ drop (at + length piece) s
  unfolding written
  regrouped = sym (append_assoc (take at s) piece _)

  -- a piece behind a front that is there makes a longer front
  pub written-front : take (at + length piece) (written at piece s) ≡ take at s ++ piece
  written-front = rw regrouped (take_at (take at s ++ piece) _ _ front_length)

  pub written_behind : drop (at + length piece) (written at piece s) ≡ drop (at + length piece) s
  written_behind = rw regrouped (drop_at (take at s ++ piece) _ _ front_length)

  -- a second piece right behind it
  pub written-more : (more : List ℕ) {next : ℕ} → next ≡ at + length piece
      → written next more (written at piece s) ≡ written at (piece ++ more) s
  unfolding written
  written-more more e =
      let n : at + length piece + length more ≡ at + length (piece ++ more) = omega (arith, length-append piece more) in
      let behind = sym (drop-drop (length more) (at + length piece) (written at piece s))
      ∙ ap (drop (length more)) written_behind
      ∙ drop-drop (length more) (at + length piece) s ∙ ap (λ k. drop k s) n in
      rw e
      (ap₂ (λ xs ys. xs ++ (more ++ ys)) written-front behind
      ∙ append_assoc (take at s) piece _ ∙ ap (λ l. take at s ++ l) (sym (append_assoc piece more _)))

  pub length-written : at + length piece ≤ length s → length (written at piece s) ≡ length s
  length-written room =
      ap length regrouped
      ∙ omega (
        arith,
        length-append (take at s ++ piece) (drop (at + length piece) s),
        front_length,
        length-drop (at + length piece) s,
      )
