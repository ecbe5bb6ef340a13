use Rattle.std.proofs.Common.{◌+◌, ◌*◌, length, arith}
use Rattle.term_tree.specs.declared.node.TermId.{TermId}
use Rattle.interpretations.proofs.AddedLemmas.{grown-most}
use Rattle.interpretations.proofs.FullLemmas.{full-of}
use Rattle.interpretations.proofs.literals.divisibility.Goals as goal

pub returns-in_err-id-clause-full : goal.returns-in_err-id-clause-full
returns-in_err-id-clause-full c = λ h.
    let sum = grown-most (3 + 7 * length c.args.lin.now.terms) c.args.terms.now.nodes c.shifted.new.terms.nodes c.in_ok-arg.ensures.added.grown in
    let full = full-of {A = TermId} c.from_residual-in_err-id.result c.in_err-id.field-0.0 _ c.from_residual-in_err-id.ensures.1 h c.in_err-id.ensures.full in
    omega (arith, sum, full)
