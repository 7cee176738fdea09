use Prim.Native.Nat.{◌*◌}
use mathlib.Core.Path.{sym, ap, ◌∙◌}
use Rattle.sheet.specs.Record.{byte}
use Rattle.command.proofs.States.{mode-place}
use Rattle.command.proofs.state.mode_of.Goals as goal

pub returns : goal.returns
returns c = let state = c.args.state.now in
    c.byte_at.ensures ∙ ap (λ i. byte state (2 * i)) c.from.ensures ∙ sym (mode-place state _)
