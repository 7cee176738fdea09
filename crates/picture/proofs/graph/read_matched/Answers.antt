use mathlib.Core.Path.{sym, ◌∙◌}
use Rattle.picture.proofs.ReadShown.{not-read, shown-judged, shown_read}
use Rattle.picture.proofs.graph.read_matched.Goals as goal

pub returns-then-not-all_in_turn : goal.returns-then-not-all_in_turn
returns-then-not-all_in_turn c = let r = not-read _ _ (shown-judged c.requires ∙ sym c.all_in_turn.ensures ∙ c.if-not-all_in_turn.true) in record { reply = rw c.at.ensures r.0; written = r.1 }

pub returns : goal.returns
returns c = let turns = sym c.all_in_turn.ensures ∙ c.if-not-all_in_turn.false in record {
  reply = rw (shown_read c.requires _ turns) c.write_bytes.ensures.reply;
  written = rw (shown_read c.requires _ turns) c.write_bytes.ensures.written;
}
