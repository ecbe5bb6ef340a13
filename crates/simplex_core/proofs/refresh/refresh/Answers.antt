use Rattle.std.proofs.Common.{◌<◌, ◌+◌, sym, subst, arith, length, get_or, false, List}
use Rattle.lin_atoms.specs.Ratio.{Fraction}
use Rattle.simplex_core.specs.Run.{coordinate_at, moment}
use Rattle.simplex_core.proofs.RefreshLemmas.{AreRenewed, renewed-all, renewed-more}
use Rattle.simplex_core.proofs.refresh.refresh.Goals as goal

pub loop-column-preserved : goal.loop-column-preserved
loop-column-preserved c =
    let m = moment c.args.t.now c.args.standings.now in
    let i = c.loop-column.column in
    let within : i < length c.args.kept.now = omega (arith, c.loop-column-test.true, c.requires.marks, c.requires.each) in
    let more = renewed-more (coordinate_at m) c.args.kept.now c.loop-column.kept i (get_or c.args.marks.now i false) within c.loop-column.invariant (λ e d. c.requires.others i d (omega (arith, within, c.requires.each)) e) in
    subst (λ (xs : List Fraction). AreRenewed (coordinate_at m) c.args.kept.now xs (i + 1)) (sym c.renew.ensures) more

pub returns : goal.returns
returns c = renewed-all (moment c.args.t.now c.args.standings.now) c.args.kept.now c.loop-column.kept c.loop-column.column c.requires.each (omega (arith, c.loop-column-test.false, c.requires.marks)) c.loop-column.invariant
