use mathlib.Core.Path.{refl, sym}
use native.Mathlib.Omega.{arith}
use lib.Seq.{length-take-le}
use Rattle.sheet.proofs.Indexed.{indexes-valid, indexes-room, indexes-listed}
use Rattle.command.proofs.Acted.{acted-none, left-none, acted-long, acted-within, acted-some, left-some}
use Rattle.command.proofs.acting.act.Goals as goal

pub slice_bounds-moves-end : goal.slice_bounds-moves-end
slice_bounds-moves-end c = sym (length-take-le _ _ (indexes-room c.requires.1))

pub acting-requires : goal.acting-requires
acting-requires c = let p = c.requires in
    (p.0, indexes-listed p.1, indexes-valid p.1)

pub returns-in_default : goal.returns-in_default
returns-in_default c = let acts = c.in_default.ensures.acts in record {
  reply = λ d i e. acted-none i _ _ _ (acts d (indexes-listed i)) refl;
  left = λ d i e. left-none i _ _ _ (acts d (indexes-listed i)) refl;
}

pub bounds-b-2 : goal.bounds-b-2
bounds-b-2 c = let i = c.requires.1 in
    let long = acted-long i _ _ _ (c.in-Some.ensures.acts _ (indexes-listed i)) c.in-Some.ensures.inside
    c.from.ensures c.body-b.ensures in
    omega (arith, long)

pub put_mode-requires : goal.put_mode-requires
put_mode-requires c = let p = c.requires in
    acted-within p.1 _ _ _ (c.in-Some.ensures.acts _ (indexes-listed p.1)) c.in-Some.ensures.inside p.2

pub returns : goal.returns
returns c = let acts = c.in-Some.ensures.acts in
    let inside = c.in-Some.ensures.inside in record {
      reply = λ d i e. acted-some i _ _ _ (acts d (indexes-listed i)) inside;
      left = λ d i e.
          left-some i _ _ _ (acts d (indexes-listed i)) inside c.from.ensures c.body-b.ensures
          c.put_mode.ensures;
    }
