use mathlib.Core.Path.{◌∙◌}
use Rattle.clean.proofs.Writing.{clean-too-long, machines-fit, moves-fit, end_fits, clean-put}
use Rattle.clean.proofs.cleaning.write.Goals as goal

pub returns-then-out-length : goal.returns-then-out-length
returns-then-out-length c = let r = clean-too-long _ _ _ _ _ c.moves_length.ensures.length c.if-out-length.true in
    record { reply = rw c.at.ensures r.0; written = r.1 }

pub put_machines-moves-requires : goal.put_machines-moves-requires
put_machines-moves-requires c = let moves = c.moves_length.ensures.length in
    (c.requires.same_length, machines-fit _ _ _ _ c.args.out.now moves c.if-out-length.false)

pub put_moves-end-requires : goal.put_moves-end-requires
put_moves-end-requires c = let moves = c.moves_length.ensures.length in
    (c.requires.moves, moves-fit _ _ _ _ _ moves c.if-out-length.false (c.put_machines-moves.ensures.end, c.put_machines-moves.ensures.written))

pub put_header-requires : goal.put_header-requires
put_header-requires c = let moves = c.moves_length.ensures.length in
    end_fits _ _ _ _ _ moves c.if-out-length.false (c.put_machines-moves.ensures.end, c.put_machines-moves.ensures.written) (c.put_moves-end.ensures.end, c.put_moves-end.ensures.written)

pub returns : goal.returns
returns c = let moves = c.moves_length.ensures.length in let r = clean-put _ _ _ _ _ moves c.if-out-length.false
    (c.put_machines-moves.ensures.end, c.put_machines-moves.ensures.written) (c.put_moves-end.ensures.end, c.put_moves-end.ensures.written) (c.put_header.ensures ∙ rw c.from.ensures) in record { reply = r.0; written = r.1 }
