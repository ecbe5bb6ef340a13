use Rattle.std.proofs.Common.{◌+◌, ◌*◌, List, length, subst, arith}
use Rattle.term_tree.specs.declared.node.TermId.{TermId}
use Rattle.term_tree.specs.declared.node.OpKind.TheVariants.{Not}
use Rattle.term_tree.specs.declared.node.Node.TheVariants.{Op}
use Rattle.answer_text.specs.Lemmas.{IsNode}
use Rattle.interpretations.specs.machinery.Added.{IsAdded}
use Rattle.interpretations.proofs.AddedLemmas.{grown-most}
use Rattle.interpretations.proofs.FullLemmas.{full-of}
use Rattle.interpretations.proofs.MakingLemmas.{indivisibility-added}
use Rattle.interpretations.proofs.literals.indivisibility.Goals as goal

pub returns-clause-added : goal.returns-clause-added
returns-clause-added c =
    indivisibility-added c.args.sorts.now c.args.divisor c.args.lin.now c.args.terms.now.nodes c.divisibility.new.terms.nodes c.put.new.terms.nodes c.in_ok-denied.denied c.in_ok-id.id
    c.in_ok-denied.ensures.added
    (subst (λ (args : List TermId). IsAdded (λ nodes k. IsNode nodes k (Op Not args)) 1 c.divisibility.new.terms.nodes c.put.new.terms.nodes c.in_ok-id.id) c.in_ok-args.ensures c.in_ok-id.ensures.added)

pub returns-in_err-id-clause-full : goal.returns-in_err-id-clause-full
returns-in_err-id-clause-full c = λ h.
    let denied = grown-most (4 + 7 * length c.args.lin.now.terms) c.args.terms.now.nodes c.divisibility.new.terms.nodes c.in_ok-denied.ensures.added.grown in
    let full = full-of {A = TermId} c.from_residual-in_err-id.result c.in_err-id.field-0.0 _ c.from_residual-in_err-id.ensures.1 h c.in_err-id.ensures.full in
    omega (arith, denied, full)
