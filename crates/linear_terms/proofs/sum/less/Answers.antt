use Rattle.std.proofs.Common.{◌++◌, ap, ◌∙◌, sym, rules, FitsSigned}
use Rattle.std.specs.Int.{w128}
use Rattle.std.proofs.lemmas.Int.{to_z-of_z}
use Rattle.lin_atoms.specs.Algebra.{negated_terms}
use Rattle.lin_atoms.specs.Linear.{are_ordered, are_short}
use Rattle.lin_atoms.proofs.TermLemmas.{collected-ordered}
use Rattle.linear_terms.proofs.MinusLemmas.{less-made, less-narrow, same-terms}
use Rattle.linear_terms.proofs.sum.less.Goals as goal

pub form_of-requires-clause-ordered : goal.form_of-requires-clause-ordered
form_of-requires-clause-ordered c = ap (are_ordered 0) c.in_ok-terms.ensures.made ∙ collected-ordered (c.terms.result.now ++ negated_terms c.terms-2.result.now)

pub returns-clause-made : goal.returns-clause-made
returns-clause-made c =
    let same = same-terms c.args.a.now c.args.b.now c.terms.result.now c.terms-2.result.now c.terms.ensures.is c.terms-2.ensures.is in
    let fits : FitsSigned w128 c.constants-constant.result = search rules in
    let is = simp to_z-of_z at c.form_of.ensures in
    less-made c.args.a.now c.args.b.now c.form_of.result _ c.constants-constant.result is (c.in_ok-terms.ensures.made ∙ same) c.constants-constant.ensures

pub returns-clause-narrow : goal.returns-clause-narrow
returns-clause-narrow c =
    let same = same-terms c.args.a.now c.args.b.now c.terms.result.now c.terms-2.result.now c.terms.ensures.is c.terms-2.ensures.is in
    let fits : FitsSigned w128 c.constants-constant.result = search rules in
    let told = simp to_z-of_z at c.is_short.ensures in
    less-narrow c.args.a.now c.args.b.now c.constants-constant.result (ap are_short (sym same) ∙ c.in_ok-terms.ensures.short) c.constants-constant.ensures (sym told ∙ c.if-not-is_short.false)
