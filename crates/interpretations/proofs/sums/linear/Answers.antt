use Rattle.std.proofs.Common.{◌*◌, length, ap, arith}
use Rattle.term_tree.specs.declared.node.TermId.{TermId}
use Rattle.interpretations.proofs.AddedLemmas.{grown-most}
use Rattle.interpretations.proofs.FullLemmas.{full-of}
use Rattle.interpretations.proofs.MakingLemmas.{linear-added, products-as}
use Rattle.interpretations.proofs.sums.linear.Goals as goal

pub returns-clause-added : goal.returns-clause-added
returns-clause-added c =
    linear-added c.args.sorts.now c.args.lin.now c.terms.ensures.legal c.args.terms.now.nodes c.products.new.terms.nodes c.sum.new.terms.nodes c.in_ok-items.items.items c.in_ok-id.id
    (products-as c.args.sorts.now c.terms.result.now c.args.lin.now.terms c.args.terms.now.nodes c.products.new.terms.nodes c.in_ok-items.items.items c.terms.ensures.is c.in_ok-items.ensures.added)
    c.in_ok-id.ensures.added

pub returns-in_err-id-clause-full : goal.returns-in_err-id-clause-full
returns-in_err-id-clause-full c = λ h.
    let made = grown-most (7 * length c.terms.result.now) c.args.terms.now.nodes c.products.new.terms.nodes c.in_ok-items.ensures.added.grown in
    let full = full-of {A = TermId} c.from_residual-in_err-id.result c.in_err-id.field-0.0 _ c.from_residual-in_err-id.ensures.1 h c.in_err-id.ensures.full in
    omega (arith, made, full, ap length c.terms.ensures.is)
