use Rattle.std.proofs.Common.{◌<◌, length, get_or, sym, subst}
use Rattle.std.proofs.lemmas.Option.{slice_get_within}
use Rattle.term_tree.specs.declared.script.Assertion.{Assertion}
use Rattle.term_tree.specs.declared.sort.Sort.TheVariants.{Bool as BoolSort}
use Rattle.horn_shape.proofs.ClauseLemmas.{legal_at, sorted_there}
use Rattle.clause_normal.proofs.making.assertion_of.Goals as goal

pub returns-clause-there : goal.returns-clause-there
returns-clause-there c =
    let script = c.args.script.now in
    let i = c.args.clause.now.assertion in
    let d : Assertion = record { term = record { 0 = 0 }; offset = 0; command = 0 } in
    subst (λ asserts. (get_or asserts i d).term.0 < length script.terms.nodes) (sym c.as_slice.ensures)
    (sorted_there script.preds script.terms.nodes (get_or script.asserts i d).term.0 BoolSort
    (legal_at script i d c.requires.legal (slice_get_within script.asserts i c.requires.clause.assertion c.requires.clause.there)).sorted)
