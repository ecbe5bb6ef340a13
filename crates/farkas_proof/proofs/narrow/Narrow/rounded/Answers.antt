use Rattle.std.proofs.Common.{rules, ◌≡◌, ap, ◌∙◌, subst, true, FitsSigned}
use Rattle.std.specs.Prelude.{IfSome}
use Rattle.std.specs.Int.{w64, w128}
use Rattle.std.proofs.lemmas.Int.{to_z-of_z}
use Rattle.lin_atoms.specs.Linear.{Linear, are_ordered, fits}
use Rattle.farkas_proof.proofs.NarrowLemmas.{rounded-is}
use Rattle.farkas_proof.proofs.SumLemmas.{ordered-divided}
use Rattle.farkas_proof.proofs.narrow.Narrow.rounded.Goals as goal

pub form_of-requires : goal.form_of-requires
form_of-requires c =
    let d_fits : FitsSigned w64 c.args.divisor = c.ranges.divisor in
    let terms = simp to_z-of_z at (rw (c.in-Some.is, c.as_slice.ensures.value) at c.in_ok-terms.ensures.some) in
    let divided = simp to_z-of_z at (rw (c.in-Some.is, c.as_slice.ensures.value) at c.in_ok-terms.ensures.divided) in
    ap (are_ordered 0) terms ∙ ordered-divided c.args.divisor 0 c.args.self.now.terms.items c.requires.positive divided c.requires.ordered

pub returns-in-Some-clause-divided : goal.returns-in-Some-clause-divided
returns-in-Some-clause-divided c =
    let d_fits : FitsSigned w64 c.args.divisor = c.ranges.divisor in
    λ _. simp to_z-of_z at (rw (c.in-Some.is, c.as_slice.ensures.value) at c.in_ok-terms.ensures.divided)

pub returns-in-Some-clause-within : goal.returns-in-Some-clause-within
returns-in-Some-clause-within c =
    let d_fits : FitsSigned w64 c.args.divisor = c.ranges.divisor in
    let n_fits : FitsSigned w64 c.args.self.now.negated = search rules in
    let k_fits : FitsSigned w128 c.rounded_constant-constant.result = search rules in
    let terms = simp to_z-of_z at (rw (c.in-Some.is, c.as_slice.ensures.value) at c.in_ok-terms.ensures.some) in
    let constant = simp to_z-of_z at c.rounded_constant-constant.ensures in
    let made = simp to_z-of_z at c.form_of.ensures.within in
    let e = rounded-is c.args.divisor c.args.self.now.terms.items c.args.self.now.negated c.in-Some.terms.items c.rounded_constant-constant.result terms constant in
    λ some. subst (λ (z : Linear). fits z ≡ true) e (made some)

pub returns-in-Some-clause-value : goal.returns-in-Some-clause-value
returns-in-Some-clause-value c =
    let d_fits : FitsSigned w64 c.args.divisor = c.ranges.divisor in
    let n_fits : FitsSigned w64 c.args.self.now.negated = search rules in
    let k_fits : FitsSigned w128 c.rounded_constant-constant.result = search rules in
    let terms = simp to_z-of_z at (rw (c.in-Some.is, c.as_slice.ensures.value) at c.in_ok-terms.ensures.some) in
    let constant = simp to_z-of_z at c.rounded_constant-constant.ensures in
    let made = simp to_z-of_z at c.form_of.ensures.some in
    let e = rounded-is c.args.divisor c.args.self.now.terms.items c.args.self.now.negated c.in-Some.terms.items c.rounded_constant-constant.result terms constant in
    subst (λ (z : Linear). IfSome c.form_of.result (λ lin. lin ≡ z)) e made
