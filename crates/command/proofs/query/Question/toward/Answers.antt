use Rattle.command.proofs.Looked.{kept-group, kept_near, kept_entry}
use Rattle.command.proofs.query.Question.toward.Goals as goal

pub size_of-requires : goal.size_of-requires
size_of-requires c = let p = c.requires in kept-group p.4 p.5

pub mode_now-requires : goal.mode_now-requires
mode_now-requires c = let p = c.requires in kept-group p.4 p.5

pub nearest-requires : goal.nearest-requires
nearest-requires c = let (m, state, zeros, wish, kept, h, a) = c.requires in
    kept_near kept h c.size_of.ensures.0 (c.table_of-t.ensures m state zeros kept h) c.mode_now.ensures.0 a

pub returns : goal.returns
returns c m state zeros wish kept h a =
    kept_entry kept h c.size_of.ensures.0 (c.table_of-t.ensures m state zeros kept h) c.mode_now.ensures.0 a c.nearest.ensures
