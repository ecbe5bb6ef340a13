use Rattle.std.proofs.Common.{◌∷◌, [], length, length-append, ap, arith}
use Rattle.answer_text.proofs.EachLemmas.{parameters_go_on}
use Rattle.answer_text.proofs.parameters.parameters_from.Goals as goal

pub loop-i-preserved : goal.loop-i-preserved
loop-i-preserved c =
    let told = c.in_default.ensures in
    let so = c.loop-i.invariant in
    let grown = ap length told.2 in (
      parameters_go_on c.args.text.now c.loop-i.found c.parameter.new.found c.args.trees.now c.args.sorts.now c.loop-i.i c.index-trees-i.result _ told.0 _ c.loop-i-test.true c.requires c.index-trees-i.is so.0 told.1 told.2,
      omega (arith, grown, length-append c.loop-i.found (told.0 ∷ []), so.1),
      omega (arith, c.loop-i-test.true),
    )
