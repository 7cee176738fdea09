-- What drawing and reading leave in the lent buffer, and how long that is at most.
-- Assumes nothing.
use Prim.Native.Nat.{ℕ, ◌≤◌}
use mathlib.Core.Path.{◌≡◌, ap}
use mathlib.Core.List.{List}
use native.Mathlib.Omega.{arith}
use borrow.Author.Tests.{not-false}
use lib.ListN.{length}
use Rattle.common.specs.Reply.{given}
use Rattle.common.proofs.Bools.{and_left}
use Rattle.common.proofs.Reply.{given-clear, given_stays, and_then-given}
use Rattle.common.proofs.Output.{WithinRoom, fitted-is, fitted-fits, output-left}
use Rattle.sheet.specs.Parse.{parse}
use Rattle.sheet.proofs.Guarantees.{accepted-valid}
use Rattle.plan.specs.Groups.{group_count}
use Rattle.picture.specs.Picture.{picture_of, picture_bytes}
use Rattle.picture.specs.Text.{text_of}
use Rattle.picture.specs.Reading.{said_nothing, said_after, taken_apart}
use Rattle.picture.specs.Graph.{graph_reply, is_text, read_as, read_reply}
use Rattle.picture.specs.Drawn.{OutputsLeft}
use Rattle.picture.proofs.Bytes.{bytes-length}
use Rattle.picture.proofs.DrawableMeans.{drawable-means, few-groups}
use Rattle.picture.proofs.Edges.{edges_few}
use Rattle.picture.proofs.Longest.{longest-text}

graph-fits : (sheet : List ℕ) (room : ℕ) → WithinRoom (graph_reply sheet room) room
unfolding graph_reply
graph-fits sheet room out e =
    let (d, parses, fits) = and_then-given (parse sheet) _ e in
    fitted-fits (text_of (picture_of d.model)) room out fits

read_fits : (text : List ℕ) (room : ℕ) → WithinRoom (read_reply text room) room
unfolding read_reply read_as
read_fits text room out e = fitted-fits (picture_bytes (taken_apart text)) room out (given_stays _ _ e)

-- a text has at most 7,273 bytes, and a picture in bytes fewer
pub drawn-most : (sheet : List ℕ) (room : ℕ) {out : List ℕ} → graph_reply sheet room ≡ given out → length out ≤ 7273
unfolding graph_reply
drawn-most sheet room e =
    let (d, parses, fits) = and_then-given (parse sheet) _ e in
    let (valid, some) = accepted-valid sheet d parses in
    omega (arith, longest-text valid some, ap length (fitted-is _ room fits))

pub read-most : (text : List ℕ) (room : ℕ) {out : List ℕ} → read_reply text room ≡ given out → length out ≤ 2081
unfolding read_reply read_as is_text taken_apart
read-most text room e =
    let p = taken_apart text in
    let (no-fault, none) = given-clear _ _ e in
    let d = (drawable-means p).0 (and_left _ _ (not-false _ no-fault)) in
    omega (
      arith,
      bytes-length p,
      d.few,
      edges_few (said_after 0 text said_nothing).joined (group_count p.groups) (few-groups p d),
      ap length (fitted-is (picture_bytes p) room (given_stays _ _ e)),
    )

pub outputs-left : (before : List ℕ) → OutputsLeft before
outputs-left before =
    record {
      drawing = λ sheet. output-left before _ (graph-fits sheet (length before));
      reading = λ text. output-left before _ (read_fits text (length before));
    }
