use Rattle.std.proofs.Common.{◌+◌, ◌*◌, List, length, subst, arith}
use Rattle.term_tree.specs.declared.node.TermId.{TermId}
use Rattle.term_tree.specs.declared.node.Node.TheVariants.{Op}
use Rattle.answer_text.specs.Lemmas.{IsNode}
use Rattle.interpretations.specs.machinery.Added.{IsAdded}
use Rattle.interpretations.proofs.AddedLemmas.{grown-most}
use Rattle.interpretations.proofs.FullLemmas.{full-of}
use Rattle.interpretations.proofs.MakingLemmas.{comparison-added}
use Rattle.interpretations.proofs.literals.comparison.Goals as goal

pub returns-clause-added : goal.returns-clause-added
returns-clause-added c =
    let linear = c.linear.new.terms.nodes in
    let numbered = c.turned.new.terms.nodes in
    comparison-added c.args.sorts.now c.args.op c.args.lin.now c.args.terms.now.nodes linear numbered c.put.new.terms.nodes c.in_ok-left.left c.in_ok-right.right c.in_ok-id.id c.requires.short
    c.in_ok-left.ensures.added c.in_ok-right.ensures.added
    (subst (λ (args : List TermId). IsAdded (λ nodes k. IsNode nodes k (Op c.args.op args)) 1 numbered c.put.new.terms.nodes c.in_ok-id.id) c.in_ok-args.ensures c.in_ok-id.ensures.added)

pub returns-in_err-right-clause-full : goal.returns-in_err-right-clause-full
returns-in_err-right-clause-full c = λ h.
    let left = grown-most (1 + 7 * length c.args.lin.now.terms) c.args.terms.now.nodes c.linear.new.terms.nodes c.in_ok-left.ensures.added.grown in
    let full = full-of {A = TermId} c.from_residual-in_err-right.result c.in_err-right.field-0.0 _ c.from_residual-in_err-right.ensures.1 h c.in_err-right.ensures.full in
    omega (arith, left, full)

pub returns-in_err-id-clause-full : goal.returns-in_err-id-clause-full
returns-in_err-id-clause-full c = λ h.
    let left = grown-most (1 + 7 * length c.args.lin.now.terms) c.args.terms.now.nodes c.linear.new.terms.nodes c.in_ok-left.ensures.added.grown in
    let right = grown-most 2 c.linear.new.terms.nodes c.turned.new.terms.nodes c.in_ok-right.ensures.added.grown in
    let full = full-of {A = TermId} c.from_residual-in_err-id.result c.in_err-id.field-0.0 _ c.from_residual-in_err-id.ensures.1 h c.in_err-id.ensures.full in
    omega (arith, left, right, full)
