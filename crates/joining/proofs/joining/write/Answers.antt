use mathlib.Core.Path.{sym, ap}
use native.Mathlib.Nat.{le_refl}
use native.Mathlib.Omega.{arith}
use Rattle.common.specs.Reply.{length_of}
use Rattle.joining.specs.Join.{Goals}
use Rattle.joining.specs.Kept.Lent.{SplitsShort}
use Rattle.joining.proofs.Sharing.{MasksOf, masks-of, masks-within, masks-taken}
use Rattle.joining.proofs.Sharing.{without-refused, room-refused, refusal-leaves, shared-length, shared-written}
use Rattle.joining.proofs.joining.write.Goals as goal
use Rattle.joining.proofs.joining.write.Goals.{After-shared-masks}

-- the masks, of the goals that the slice holds
of : (c : After-shared-masks) (each : Goals) → SplitsShort c.args.goals.now each
    → MasksOf each c.shared-masks.result c.longest-n.result
of c = masks-of _ (omega (arith, c.shared-masks.type_inv)) c.longest-n.ensures c.shared-masks.ensures

held : (c : After-shared-masks) → MasksOf c.requires.0 c.shared-masks.result c.longest-n.result
held c = of c _ c.requires.1

pub first_without-requires : goal.first_without-requires
first_without-requires c = masks-within (held (goal.at.first_without-requires c).After-shared-masks)

pub returns-in-Some : goal.returns-in-Some
returns-in-Some c =
    let none = λ (each : Goals) (h : SplitsShort c.args.goals.now each).
    without-refused (of (goal.at.returns-in-Some c).After-shared-masks each h) _ c.in-Some.ensures.first
    c.in-Some.ensures.inside in
    record {
      reply = λ each h. rw c.at.ensures (ap length_of (none each h));
      written = λ each h. refusal-leaves _ (none each h);
    }

pub returns-then-out-n : goal.returns-then-out-n
returns-then-out-n c =
    let no_room = λ (each : Goals) (h : SplitsShort c.args.goals.now each).
    room-refused (of (goal.at.returns-then-out-n c).After-shared-masks each h) _ c.in_default.ensures.first
    (le_refl _) c.if-out-n.true in
    record {
      reply = λ each h. rw c.at-then-out-n.ensures (ap length_of (no_room each h));
      written = λ each h. refusal-leaves _ (no_room each h);
    }

pub slice_bounds-masks-end : goal.slice_bounds-masks-end
slice_bounds-masks-end c = masks-within (held (goal.at.slice_bounds-masks-end c).After-shared-masks)

pub slice_bounds-put_bytes-end : goal.slice_bounds-put_bytes-end
slice_bounds-put_bytes-end c = sym (masks-taken (held (goal.at.slice_bounds-put_bytes-end c).After-shared-masks))

pub returns : goal.returns
returns c = let first = c.in_default.ensures.first in
    let none = le_refl _ in
    let room = c.if-out-n.false in record {
      reply = λ each h. shared-length (of (goal.at.returns c).After-shared-masks each h) _ first none room;
      written = λ each h. shared-written (of (goal.at.returns c).After-shared-masks each h) _ first none room _ c.put_bytes.ensures;
    }
