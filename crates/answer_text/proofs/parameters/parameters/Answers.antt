use Rattle.std.proofs.Common.{arith}
use Rattle.answer_text.proofs.DefinitionLemmas.{items_count}
use Rattle.answer_text.proofs.parameters.parameters.Goals as goal

pub returns-in_ok-params-in-List-clause-count : goal.returns-in_ok-params-in-List-clause-count
returns-in_ok-params-in-List-clause-count c =
    let n = items_count c.args.tree.now c.in-List.items c.as_slice.result.now c.in-List.start c.in-List.end c.in-List.is c.as_slice.ensures in
    omega (arith, n, c.in_ok-params-in-List.ensures.count)
