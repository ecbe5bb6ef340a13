use Rattle.std.proofs.Common.{rules, FitsSigned, w64, List, subst, arith}
use Rattle.std.proofs.lemmas.Int.{to_z-of_z}
use Rattle.term_tree.specs.declared.node.TermId.{TermId}
use Rattle.term_tree.specs.declared.node.OpKind.TheVariants.{Mul}
use Rattle.term_tree.specs.declared.node.Node.TheVariants.{Op}
use Rattle.answer_text.specs.Lemmas.{IsNode}
use Rattle.interpretations.specs.machinery.Added.{IsAdded}
use Rattle.interpretations.proofs.AddedLemmas.{grown-most}
use Rattle.interpretations.proofs.FullLemmas.{full-of}
use Rattle.interpretations.proofs.MakingLemmas.{scaled-added}
use Rattle.interpretations.proofs.sums.scaled.Goals as goal

pub returns-clause-added : goal.returns-clause-added
returns-clause-added c =
    let fits : FitsSigned w64 c.args.coefficient = search rules in
    scaled-added c.args.binder c.args.sort c.args.coefficient c.args.terms.now.nodes c.factor.new.terms.nodes c.argument.new.terms.nodes c.put.new.terms.nodes c.in_ok-first.first c.in_ok-second.second
    c.in_ok-id.id (simp to_z-of_z at c.in_ok-first.ensures.added) c.in_ok-second.ensures.added
    (subst (λ (args : List TermId). IsAdded (λ nodes k. IsNode nodes k (Op Mul args)) 1 c.argument.new.terms.nodes c.put.new.terms.nodes c.in_ok-id.id) c.in_ok-args.ensures c.in_ok-id.ensures.added)

pub returns-in_err-second-clause-full : goal.returns-in_err-second-clause-full
returns-in_err-second-clause-full c = λ h.
    let first = grown-most 2 c.args.terms.now.nodes c.factor.new.terms.nodes c.in_ok-first.ensures.added.grown in
    let full = full-of {A = TermId} c.from_residual-in_err-second.result c.in_err-second.field-0.0 _ c.from_residual-in_err-second.ensures.1 h c.in_err-second.ensures.full in
    omega (arith, first, full)

pub returns-in_err-id-clause-full : goal.returns-in_err-id-clause-full
returns-in_err-id-clause-full c = λ h.
    let first = grown-most 2 c.args.terms.now.nodes c.factor.new.terms.nodes c.in_ok-first.ensures.added.grown in
    let second = grown-most 4 c.factor.new.terms.nodes c.argument.new.terms.nodes c.in_ok-second.ensures.added.grown in
    let full = full-of {A = TermId} c.from_residual-in_err-id.result c.in_err-id.field-0.0 _ c.from_residual-in_err-id.ensures.1 h c.in_err-id.ensures.full in
    omega (arith, first, second, full)
