use Rattle.std.proofs.Common.{ℕ, subst, arith}
use Rattle.std.specs.Prelude.{Result}
use Rattle.answer_text.specs.Reading.{Defined}
use Rattle.answer_text.specs.machinery.Places.{Took}
use Rattle.answer_text.proofs.DefinitionLemmas.{items_weigh, definition-List}
use Rattle.answer_text.proofs.definitions.take.Goals as goal

pub take_parts-requires-clause-weight : goal.take_parts-requires-clause-weight
take_parts-requires-clause-weight c =
    let w = items_weigh c.args.tree.now c.in-List.items c.as_slice.result.now c.in-List.start c.in-List.end c.in-List.is c.as_slice.ensures in
    omega (arith, w, c.requires.weight)

pub returns-in-List : goal.returns-in-List
returns-in-List c before h =
    subst (λ (o : Result Defined ℕ). Took before c.args.declared.now o c.take_parts.new.places.items c.take_parts.result)
    (definition-List c.args.text.now c.args.declared.now before c.args.tree.now c.in-List.items c.as_slice.result.now c.in-List.start c.in-List.end c.in-List.is c.as_slice.ensures) (c.take_parts.ensures before h)
