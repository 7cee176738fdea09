use Prim.Native.Nat.{ℕ}
use mathlib.Core.Path.{refl}
use native.Mathlib.Omega.{arith}
use Rattle.command.proofs.Looked.{kept-group, kept_small, kept-few}
use Rattle.command.proofs.Placing.{kept-held}
use Rattle.command.proofs.Startable.{Led, led-placed, led-present, led-move, led-valid, led-long, led-some}
use Rattle.command.proofs.Startable.{led-numbered, led-inside, passed, passed-own}
use Rattle.command.proofs.Startable.{entry-far, entry_absent, entry-elsewhere, entry-held}
use Rattle.command.proofs.Startable.{entry-outside, entry-idle, entry-prepares}
use Rattle.command.proofs.Waiting.{prepare-sends, prepare-valid, prepare-there, prepare-lower, prepare-allowed}
use Rattle.command.proofs.Waiting.{prepare-fulfils, Meets, meets-by}
use Rattle.command.proofs.method.+fulfil_prepare.Goals as goal
use Rattle.command.proofs.method.+fulfil_prepare.Goals.{fulfil-After-numbers-own, prepare-After-meeting-wanted}
use Rattle.command.proofs.method.+fulfil_prepare.Goals.{fulfil-then-not-from_now-via-else-not-from_now+then-has}
use Rattle.command.proofs.method.+fulfil_prepare.Goals.{fulfil-then-not-from_now-via-then-not-from_now}
use Rattle.command.proofs.method.+fulfil_prepare.Goals.{fulfil-then-cell-via-else-cell+then-len-v}
use Rattle.command.proofs.method.+fulfil_prepare.Goals.{fulfil-then-cell-via-then-cell}

-- an entry that is followed, by what is known once its move is read
led : {t : ℕ} (c : fulfil-After-numbers-own t) → let a = c.args in let q = a.question.now in
    Led q.moves.file.now q.moves.places.now q.plan.now q.state.now q.facts.now q.zeros.now q.starts.now a.group.0 a.allowed
    c.toward-cell.result.distance c.toward-cell.result.first c.from-v.result c.body-b.result.now c.numbers-own.result.now
led c = record {
  toward = λ n. c.toward-cell.ensures n _ _;
  move = c.from-v.ensures;
  near = c.if-cell.false;
  listed = omega (arith, c.if-len-v.false, c.len.ensures);
  reads = c.body-b.ensures;
  groups = c.numbers-own.ensures;
}

-- the modes of the group waited for that meet the needs
met : {t : ℕ} (c : prepare-After-meeting-wanted t) → let q = c.args.question.now in
    Meets q.state.now q.facts.now q.zeros.now c.args.b.now c.highest-k.result c.meeting-wanted.result
met c = meets-by c.digits.ensures.0 c.digits.ensures.1 c.size_of.ensures.0 c.first-modes.ensures
    (rw c.digits.ensures.2 at c.meeting-wanted.ensures)

pub fulfil-returns-then-cell : goal.fulfil-returns-then-cell
fulfil-returns-then-cell t c m wish kept l below fits =
    rw c.at.ensures (elim c.then-cell.branch [
      | fulfil-then-cell-via-then-cell w ↦ entry-far m wish kept l below fits (λ n. c.toward-cell.ensures n _ _) w.if-cell.true
      | fulfil-then-cell-via-else-cell+then-len-v w ↦
          entry_absent m wish kept l below fits (λ n. c.toward-cell.ensures n _ _) c.from-v.ensures
          (omega (arith, w.if-len-v.true, w.len.ensures))
    ])

pub fulfil-held_up-held-requires : goal.fulfil-held_up-held-requires
fulfil-held_up-held-requires t c =
    let q = led (goal.at.fulfil-held_up-held-requires t c).After-numbers-own in
    let (m, wish, kept, l, below, fits) = c.requires in
    (m, _, led-placed q kept l, led-valid q kept l)

pub fulfil-from_now-requires : goal.fulfil-from_now-requires
fulfil-from_now-requires t c =
    let q = led (goal.at.fulfil-from_now-requires t c).After-numbers-own in
    search (led-some, led-numbered, led-inside, q)

pub fulfil-has-requires : goal.fulfil-has-requires
fulfil-has-requires t c = search kept_small

pub fulfil-returns-then-not-from_now : goal.fulfil-returns-then-not-from_now
fulfil-returns-then-not-from_now t c m wish kept l below fits =
    let q = led (goal.at.fulfil-returns-then-not-from_now t c).After-numbers-own in
    let stops = c.held_up-held.ensures in
    let judged = c.from_now.ensures in
    rw c.at-then-not-from_now.ensures (elim c.then-not-from_now.branch [
      | fulfil-then-not-from_now-via-then-not-from_now w ↦
          entry-elsewhere m wish kept l below fits q stops judged w.if-not-from_now.true
      | fulfil-then-not-from_now-via-else-not-from_now+then-has w ↦
          entry-held m wish kept l below fits q stops judged w.from.ensures w.has.ensures w.if-has.true
    ])

pub fulfil-returns-then-not-usable : goal.fulfil-returns-then-not-usable
fulfil-returns-then-not-usable t c m wish kept l below fits =
    let q = led (goal.at.fulfil-returns-then-not-usable t c).After-numbers-own in
    let p = passed q c.held_up-held.ensures c.from_now.ensures c.if-not-from_now.false c.from.ensures c.has.ensures c.if-has.false in
    rw c.at-then-not-usable.ensures (entry-idle m wish kept l below fits p (λ n v k. c.usable.ensures n _ v k refl) c.if-not-usable.true)

pub fulfil-prepare-requires : goal.fulfil-prepare-requires
fulfil-prepare-requires t c =
    let q = led (goal.at.fulfil-prepare-requires t c).After-numbers-own in
    let p = passed q c.held_up-held.ensures c.from_now.ensures c.if-not-from_now.false c.from.ensures c.has.ensures c.if-has.false in
    let (m, wish, kept, l, below, fits) = c.requires in (
      omega (arith, passed-own q p, c.decreases),
      (
        (m, kept, l, _, led-present q kept l, led-move q kept l, entry-outside m wish kept l below fits p),
        led-long q kept l,
      ),
    )

pub fulfil-returns : goal.fulfil-returns
fulfil-returns t c m wish kept l below fits =
    let q = led (goal.at.fulfil-returns t c).After-numbers-own in
    let p = passed q c.held_up-held.ensures c.from_now.ensures c.if-not-from_now.false c.from.ensures c.has.ensures c.if-has.false in
    entry-prepares m wish kept l below fits p (λ n v k. c.usable.ensures n _ v k refl) c.if-not-usable.false c.prepare.ensures

pub prepare-returns-then-waits-eq0 : goal.prepare-returns-then-waits-eq0
prepare-returns-then-waits-eq0 t c m v kept l there same o = search prepare-sends

pub prepare-size_of-requires : goal.prepare-size_of-requires
prepare-size_of-requires t c =
    let (m, kept, l, v, there, same, o) = c.requires.0 in
    kept-group kept (prepare-there _ kept there same o c.highest-k.ensures)

pub prepare-first-modes-requires : goal.prepare-first-modes-requires
prepare-first-modes-requires t c =
    let (m, kept, l, v, there, same, o) = c.requires.0 in
    kept-few kept (prepare-there _ kept there same o c.highest-k.ensures) c.size_of.ensures.0

pub prepare-meeting-wanted-requires : goal.prepare-meeting-wanted-requires
prepare-meeting-wanted-requires t c =
    let (m, kept, l, v, there, same, o) = c.requires.0 in
    (m, rw c.digits.ensures.2 (kept-held kept c.digits.ensures.0 c.digits.ensures.1), prepare-valid _ kept there same o)

pub prepare-fulfil-requires : goal.prepare-fulfil-requires
prepare-fulfil-requires t c =
    let (m, kept, l, v, there, same, o) = c.requires.0 in
    let top = c.highest-k.ensures in
    let meets = met (goal.at.prepare-fulfil-requires t c).After-meeting-wanted in (
      omega (arith, prepare-lower _ kept there same o top, c.decreases),
      (m, _, kept, l, prepare-there _ kept there same o top, prepare-allowed _ kept there same o top meets),
    )

pub prepare-returns : goal.prepare-returns
prepare-returns t c m v kept l there same o =
    let meets = met (goal.at.prepare-returns t c).After-meeting-wanted in
    prepare-fulfils _ kept there same o c.highest-k.ensures meets l c.fulfil.ensures
