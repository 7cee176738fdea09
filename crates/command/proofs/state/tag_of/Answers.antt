use Prim.Native.Nat.{◌+◌, ◌*◌}
use mathlib.Core.Path.{sym, ap, ◌∙◌}
use Rattle.sheet.specs.Record.{byte}
use Rattle.command.proofs.States.{tag-place}
use Rattle.command.proofs.state.tag_of.Goals as goal

pub returns : goal.returns
returns c = let state = c.args.state.now in
    c.byte_at.ensures ∙ ap (λ i. byte state (2 * i + 1)) c.from.ensures ∙ sym (tag-place state _)
