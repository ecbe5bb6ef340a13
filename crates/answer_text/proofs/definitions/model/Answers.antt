use Rattle.std.proofs.Common.{arith}
use Rattle.answer_text.proofs.DefinitionLemmas.{items_weigh}
use Rattle.answer_text.proofs.definitions.model.Goals as goal

pub model_of-requires : goal.model_of-requires
model_of-requires c =
    let w = items_weigh c.args.tree.now c.in-List.items c.as_slice.result.now c.in-List.start c.in-List.end c.in-List.is c.as_slice.ensures in
    omega (arith, w, c.requires)
