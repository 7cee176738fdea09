-- The label of a node, found behind the beginning of its line.
-- Assumes nothing.
use Prim.Native.Nat.{ℕ, ◌+◌, ◌≤◌}
use mathlib.Core.Path.{◌≡◌, ◌∙◌}
use mathlib.Core.List.{List, ◌∷◌, ◌++◌, append_assoc}
use mathlib.Core.Bool.{Bool, true}
use native.Mathlib.Omega.{arith}
use Rattle.std.proofs.Common.{Option, Some, None}
use lib.ListN.{length, get_or, drop, length-append}
use Rattle.common.specs.Lists.{up_to, filter}
use Rattle.decimal.specs.Decimal.{decimal, starts_with}
use Rattle.decimal.proofs.Exact.{starts-rest}
use Rattle.sets.specs.Kept.Sets.{elements}
use Rattle.picture.specs.declared.matching.Label.{Label}
use Rattle.picture.specs.Text.{line_start, labels}
use Rattle.picture.specs.Kept.Matched.{Spans, Labelled, LabelRead, LabelFound, LineLabelled, NodeRead, NodeFound}
use Rattle.picture.specs.Kept.Rows.{label_start, label_end, node_of}
use Rattle.picture.proofs.LineParts.{node_start, start-parts, node-parts}
use Rattle.picture.proofs.Spanning.{starts-there, behind, byte-there, spans-then, spans-bytes}

module _ (text : List ℕ) (at k : ℕ) (t : starts_with (node_start k) (drop at text) ≡ true) {width : ℕ}
    (w : width ≡ length (decimal k)) where
  abbrev more : List ℕ
  more = drop (length (node_start k)) (drop at text)

  begins : drop at text ≡ line_start k ++ label_start ++ (34 ∷ more)
  begins = starts-rest (node_start k) (drop at text) t ∙ start-parts k more

  place : at + 11 + width ≡ at + length (line_start k ++ label_start)
  unfolding line_start
  place = omega (arith, length-append (line_start k) label_start)

  pub node-quote : get_or text (at + 11 + width) 0 ≡ 34
  node-quote = rw place (byte-there text _ (behind text at (line_start k ++ label_start) begins))

  own-label : (q : ℕ → Bool) (n : ℕ) (rest : List ℕ) → LineLabelled text at k q n rest
      → Labelled text (at + 11 + width) q n rest
  own-label q n rest h =
      record {
        few = h.few;
        some = h.some;
        stands = rw place
            (behind text at (line_start k ++ label_start) (h.stands ∙ node-parts k (filter q (up_to n)) rest));
      }

  node-read : {l : Label} → at ≤ length text → LabelRead text (at + 11 + width) l → NodeRead text at k l
  unfolding node_of
  node-read {l} inside found =
      let there = starts-there (line_start k ++ label_start) (34 ∷ more) begins in
      let head : Spans text at (line_start k ++ label_start) (at + 11 + width) =
      rw place (spans-bytes (line_start k ++ label_start) inside there) in
      record {
        few = found.few;
        some = found.some;
        spans = rw (append_assoc (line_start k ++ label_start) (labels 34 (elements l.machines)) label_end)
            (spans-then head found.spans);
        only = λ q n rest h. found.only q n rest (own-label q n rest h);
      }

  pub node-found : (r : Option Label) → at ≤ length text → LabelFound text (at + 11 + width) r → NodeFound text at k r
  node-found None inside none = λ q n rest h. none q n rest (own-label q n rest h)
  node-found (Some l) inside found = node-read inside found
