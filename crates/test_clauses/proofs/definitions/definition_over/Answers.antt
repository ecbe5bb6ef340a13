use Rattle.std.proofs.Common.{sym, arith}
use Rattle.term_check.proofs.LightLemmas.{first_light}
use Rattle.test_clauses.proofs.definitions.definition_over.Goals as goal

pub formula_of-terms-requires : goal.formula_of-terms-requires
formula_of-terms-requires g c =
    let read = c.in-Ok.read in
    let look = c.in-Some.ensures.lookup in
    let light = first_light c.args.text.now read.trees c.as_slice.result.now read.stop c.in-Some.tree.now c.in-Ok.ensures c.as_slice.ensures (sym look.0) look.1 in
    let few = c.requires.few in
    let short = c.requires.short in
    omega (arith, light, few, short)
