use Rattle.std.proofs.Common.{◌≡◌, List, refl, subst, arith, FitsSigned, w64}
use Rattle.std.specs.Int.{w128}
use Rattle.std.specs.Prelude.{ℤ, pos, neg_ℤ, ◌+ℤ◌, ◌≤ℤ◌, ◌<ℤ◌}
use Rattle.std.proofs.lemmas.Int.{ints, to_z-of_z}
use Rattle.term_tree.specs.declared.node.TermId.{TermId}
use Rattle.term_tree.specs.declared.node.OpKind.TheVariants.{Sub}
use Rattle.term_tree.specs.declared.node.Node.TheVariants.{Op}
use Rattle.answer_text.specs.Lemmas.{IsNode}
use Rattle.interpretations.specs.machinery.Added.{IsAdded}
use Rattle.interpretations.proofs.AddedLemmas.{grown-most}
use Rattle.interpretations.proofs.FullLemmas.{full-of}
use Rattle.interpretations.proofs.MakingLemmas.{negative-added, positive-added}
use Rattle.interpretations.proofs.sums.number.Goals as goal

pub returns-then-n-ge0-clause-added : goal.returns-then-n-ge0-clause-added
returns-then-n-ge0-clause-added c =
    let long : FitsSigned w128 c.args.n = omega (arith, ints, c.requires) in
    let fits : FitsSigned w64 c.args.n = omega (arith, ints, c.requires) in
    let put = simp to_z-of_z at c.in_ok-id.ensures.added in
    let test = simp to_z-of_z at c.if-n-ge0.true in
    let least : pos 0 ≤ℤ c.args.n = omega (arith, ints, test) in
    positive-added c.args.n c.args.n c.args.terms.now.nodes c.put.new.terms.nodes c.in_ok-id.id least refl put

pub returns-clause-added : goal.returns-clause-added
returns-clause-added c =
    let long : FitsSigned w128 c.args.n = omega (arith, ints, c.requires) in
    let m : ℤ = pos 0 +ℤ neg_ℤ c.args.n in
    let small : FitsSigned w64 m = omega (arith, ints, c.requires) in
    let wide : FitsSigned w128 m = omega (arith, ints, c.requires) in
    let opposite : m ≡ neg_ℤ c.args.n = omega (arith, ints) in
    let first = simp to_z-of_z at c.in_ok-positive.ensures.added in
    let second =
    subst (λ (args : List TermId). IsAdded (λ nodes k. IsNode nodes k (Op Sub args)) 1 c.put-2.new.terms.nodes c.put-3.new.terms.nodes c.in_ok-id-2.id) c.in_ok-args.ensures c.in_ok-id-2.ensures.added in
    let test = simp to_z-of_z at c.if-n-ge0.false in
    let less : c.args.n <ℤ pos 0 = omega (arith, ints, test) in
    negative-added c.args.n m c.args.terms.now.nodes c.put-2.new.terms.nodes c.put-3.new.terms.nodes c.in_ok-positive.positive c.in_ok-id-2.id less opposite first second

pub returns-in_err-id-2-clause-full : goal.returns-in_err-id-2-clause-full
returns-in_err-id-2-clause-full c = λ h.
    let most = grown-most 1 c.args.terms.now.nodes c.put-2.new.terms.nodes c.in_ok-positive.ensures.added.grown in
    let full = full-of {A = TermId} c.from_residual-in_err-id-2.result c.in_err-id-2.field-0.0 _ c.from_residual-in_err-id-2.ensures.1 h c.in_err-id-2.ensures.full in
    omega (arith, most, full)
