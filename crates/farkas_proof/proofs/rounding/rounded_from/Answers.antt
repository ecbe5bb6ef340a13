use Rattle.std.proofs.Common.{◌≡◌, ◌∙◌, ap, rules, subst, true, FitsSigned}
use Rattle.std.specs.Prelude.{IfSome}
use Rattle.std.specs.Int.{w64, w128}
use Rattle.std.proofs.lemmas.Int.{to_z-of_z}
use Rattle.lin_atoms.specs.Linear.{Linear, are_ordered, fits}
use Rattle.farkas_proof.specs.machinery.Sum.{seen}
use Rattle.farkas_proof.proofs.SumLemmas.{form-is, ordered-divided}
use Rattle.farkas_proof.proofs.rounding.rounded_from.Goals as goal

pub form_of-requires : goal.form_of-requires
form_of-requires c =
    let d_fits : FitsSigned w64 c.args.divisor = c.ranges.divisor in
    ap (are_ordered 0) c.requires.quotients
    ∙ ordered-divided c.args.divisor 0 (seen c.args.sum.now.terms.items) c.requires.positive c.requires.divided c.requires.ordered

pub returns-in-Some-clause-some : goal.returns-in-Some-clause-some
returns-in-Some-clause-some c =
    let d_fits : FitsSigned w64 c.args.divisor = c.ranges.divisor in
    let constant = simp to_z-of_z at c.in-Some.ensures.some in
    let k_fits : FitsSigned w128 c.in-Some.constant = search rules in
    let made = simp to_z-of_z at c.form_of.ensures.some in
    let e = form-is c.args.divisor c.args.sum.now.terms.items c.args.sum.now.negated c.args.terms.items c.in-Some.constant c.requires.quotients constant in
    subst (λ (z : Linear). IfSome c.form_of.result (λ lin. lin ≡ z)) e made

pub returns-in-Some-clause-within : goal.returns-in-Some-clause-within
returns-in-Some-clause-within c =
    let d_fits : FitsSigned w64 c.args.divisor = c.ranges.divisor in
    let constant = simp to_z-of_z at c.in-Some.ensures.some in
    let k_fits : FitsSigned w128 c.in-Some.constant = search rules in
    let made = simp to_z-of_z at c.form_of.ensures.within in
    let e = form-is c.args.divisor c.args.sum.now.terms.items c.args.sum.now.negated c.args.terms.items c.in-Some.constant c.requires.quotients constant in
    λ some. subst (λ (z : Linear). fits z ≡ true) e (made some)
