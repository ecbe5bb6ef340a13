use Rattle.std.proofs.Common.{◌≡◌, length, sym, ◌∙◌, arith, rules}
use Rattle.derivations.proofs.MarkLemmas.{first_marked, written}
use Rattle.derivations.proofs.marks.reached.Goals as goal

pub loop-left-init : goal.loop-left-init
loop-left-init c = (omega arith, first_marked c.args.notes.now c.args.id c.in_ok-marks.marks.items c.in_ok-marks.ensures.long c.in_ok-marks.ensures.marked)

pub loop-left-preserved : goal.loop-left-preserved
loop-left-preserved c =
    let before = c.loop-left.invariant.0 in
    let long : length c.loop-left.marks.items ≡ c.loop-left.marks.len = search rules in
    let is = written c.spread.new.marks c.loop-left.marks.items c.loop-left.marks.len (c.spread.ensures.long ∙ sym c.loop-left.invariant.1.long ∙ long) long in
    (omega arith, rw is c.spread.ensures)
