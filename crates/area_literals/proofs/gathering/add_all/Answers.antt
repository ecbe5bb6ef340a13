use Rattle.std.proofs.Common.{◌≤◌, ◌+◌, length, drop, arith}
use Rattle.book_rules.specs.Areas.{is_among}
use Rattle.book_rules.specs.Same.{same_lit}
use Rattle.area_literals.proofs.CoverLemmas.{among-more}
use Rattle.area_literals.proofs.LoopLemmas.{at-end, rest-end, rest-is, under-way}
use Rattle.area_literals.proofs.gathering.add_all.Goals as goal

pub loop-lit-preserved : goal.loop-lit-preserved
loop-lit-preserved c =
    let more = c.args.more.now in
    let i = c.loop-lit.lit-index in
    let lit = c.lit-item.result in
    under-way c.args.point.now (λ lit other. same_lit other lit) (λ lit lits. is_among lits lit) more _ (drop i more) c.loop-lit.lits.items lit (drop (i + 1) more) c.add.new.lits.items
    (λ lits rest. among-more lits rest lit) (rest-is more i lit c.loop-lit-test.true c.lit-item.is) c.in_ok-add.ensures c.loop-lit.invariant

pub returns : goal.returns
returns c =
    let more = c.args.more.now in
    let i = c.loop-lit.lit-index in
    let over = c.loop-lit-test.false in
    let past : length more ≤ i = omega arith in
    at-end c.args.point.now (λ lit other. same_lit other lit) (λ lit lits. is_among lits lit) more _ (drop i more) c.loop-lit.lits.items (rest-end more i past) c.loop-lit.invariant
