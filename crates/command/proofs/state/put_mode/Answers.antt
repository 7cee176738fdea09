use Prim.Native.Nat.{◌*◌}
use mathlib.Core.Path.{ap}
use lib.ListN.{set}
use Rattle.command.specs.State.{with_mode}
use Rattle.command.proofs.state.put_mode.Goals as goal

pub returns : goal.returns
unfolding with_mode
returns c = ap (λ i. set c.args.state.now (2 * i) c.args.mode) c.from-i.ensures
