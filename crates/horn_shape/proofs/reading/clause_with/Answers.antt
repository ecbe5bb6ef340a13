use Rattle.std.proofs.Common.{◌<◌, get_or, length, refl, ap, sym, ◌∙◌, subst}
use Rattle.std.specs.Prelude.{Err, Some}
use Rattle.term_tree.specs.declared.script.Assertion.{Assertion}
use Rattle.horn_shape.specs.Clause.{assertion_reading}
use Rattle.horn_shape.proofs.ClauseLemmas.{there, got}
use Rattle.horn_shape.proofs.GatherLemmas.{onto_fails, onto_start, same_stop}
use Rattle.horn_shape.proofs.reading.clause_with.Goals as goal

pub read_clause-requires-clause-there : goal.read_clause-requires-clause-there
read_clause-requires-clause-there c =
    let d : Assertion = record { term = record { 0 = 0 }; offset = 0; command = 0 } in
    subst (λ asserts. (get_or asserts c.args.index d).term.0 < length c.args.script.now.terms.nodes) (sym c.as_slice.ensures)
    (there c.args.script.now c.args.index d c.requires.there).within

pub returns-in-Ok-clause-clause : goal.returns-in-Ok-clause-clause
returns-in-Ok-clause-clause c =
    let script = c.args.script.now in
    let d : Assertion = record { term = record { 0 = 0 }; offset = 0; command = 0 } in
    let a = get_or c.as_slice.result.now c.args.index d in
    let same = ap (λ asserts. get_or asserts c.args.index d) c.as_slice.ensures in
    let found = onto_start _ c.new.result c.new-2.result c.new-3.result (assertion_reading script a) c.read_clause.new.out c.new.ensures c.new-2.ensures c.new-3.ensures c.in-Ok.ensures.read in
    record {
      assertion = a;
      there = got script.asserts c.args.index d (there script c.args.index d c.requires.there).less ∙ ap Some (sym same);
      reading = found.0;
      number = found.1;
    }

pub returns-in-Err-clause-not_horn : goal.returns-in-Err-clause-not_horn
returns-in-Err-clause-not_horn c = λ offset is.
    let script = c.args.script.now in
    let d : Assertion = record { term = record { 0 = 0 }; offset = 0; command = 0 } in
    let a = get_or c.as_slice.result.now c.args.index d in
    let same = ap (λ asserts. get_or asserts c.args.index d) c.as_slice.ensures in
    let stop = c.in-Err.ensures.misfit offset (ap (λ e. Err e) (same_stop _ _ _ _ refl refl is)) in
    record {
      assertion = a;
      there = got script.asserts c.args.index d (there script c.args.index d c.requires.there).less ∙ ap Some (sym same);
      misfit = stop.0;
      reading = onto_fails _ (assertion_reading script a) stop.0 stop.1;
      start = stop.2;
    }
