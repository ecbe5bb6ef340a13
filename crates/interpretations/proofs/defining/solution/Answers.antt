use Rattle.std.proofs.Common.{List, length, refl, sym, subst}
use Rattle.std.proofs.lemmas.Option.{slice_get_read}
use Rattle.term_tree.specs.declared.definition.Definition.{Definition}
use Rattle.interpretations.specs.Definitions.{AreDefinitionsOf}
use Rattle.interpretations.proofs.DefinitionLemmas.{definitions-end, definitions-step, has-places}
use Rattle.interpretations.proofs.defining.solution.Goals as goal

pub definition-requires-clause-places : goal.definition-requires-clause-places
definition-requires-clause-places c =
    let there = slice_get_read c.args.preds.now (length c.args.preds.now) c.loop-number.number c.index-preds-number.result refl c.loop-number-test.true c.index-preds-number.is in
    has-places c.args.preds.now c.args.frames.now.lemmas c.args.level c.loop-number.number c.index-preds-number.result c.requires.places there

pub loop-number-preserved : goal.loop-number-preserved
loop-number-preserved c = λ rest later.
    definitions-step c.args.frames.now.lemmas c.args.level c.loop-number.number c.args.preds.now c.index-preds-number.result c.loop-number.definitions.items c.add.new.definitions.items c.in_ok-one.one c.loop-number-test.true
    c.index-preds-number.is c.in_ok-add.ensures c.in_ok-one.ensures.made c.loop-number.invariant rest later

pub returns-clause-made : goal.returns-clause-made
returns-clause-made c =
    subst (λ (ds : List Definition). AreDefinitionsOf c.args.frames.now.lemmas c.args.level 0 c.args.preds.now ds) (sym c.from_vec.ensures)
    (definitions-end c.args.frames.now.lemmas c.args.level c.loop-number.number c.args.preds.now c.loop-number.definitions.items c.loop-number-test.false c.loop-number.invariant)
