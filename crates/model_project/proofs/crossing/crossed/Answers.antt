use Rattle.std.proofs.Common.{◌≡◌, ◌<◌, ap, sym, ◌∙◌, arith, rules, true, false, refl, length, subst, ◌^◌, FitsSigned}
use Rattle.std.specs.Prelude.{ℤ, nat_abs, neg_ℤ}
use Rattle.std.specs.Int.{w64, w128}
use Rattle.std.proofs.lemmas.Int.{ints, to_z-of_z}
use Rattle.lin_atoms.specs.Linear.{are_short, is_short}
use Rattle.model_project.specs.Substitution.{crossed}
use Rattle.model_project.proofs.CrossLemmas.{both_small, crossed_constant, crossed_terms, first_wide, second_wide, some_terms, true_not_false}
use Rattle.model_project.proofs.TermLemmas.{widened-long}
use Rattle.model_project.proofs.crossing.crossed.Goals as goal

pub returns-in-Some-clause-some : goal.returns-in-Some-clause-some
returns-in-Some-clause-some c =
    let v = c.args.variable in
    let l = c.args.equation.now in
    let lin = c.args.lin.now in
    let k_fits : FitsSigned w64 c.coefficient-k.result = record { sfits = c.coefficient-k.type_inv } in
    let m_fits : FitsSigned w64 c.minus-m.result = record { sfits = c.minus-m.type_inv } in
    let c_fits : FitsSigned w64 c.coefficient.result = record { sfits = c.coefficient.type_inv } in
    let made = simp to_z-of_z at c.in_ok-terms.ensures.made in
    let minus : c.minus-m.result ≡ neg_ℤ c.coefficient.result = omega (arith, ints, c.minus-m.ensures) in
    let terms = crossed_terms v l lin c.coefficient-k.result c.minus-m.result c.coefficient.result c.terms.result.now c.terms-2.result.now c.in_ok-terms.terms.items c.coefficient-k.ensures.is minus c.coefficient.ensures.is c.terms.ensures.is c.terms-2.ensures.is made in
    let some : 0 < length c.in_ok-terms.terms.items = search rules in
    some_terms c.in_ok-terms.terms.items (crossed v l lin).terms terms some

pub returns-in-Some-clause-narrow : goal.returns-in-Some-clause-narrow
returns-in-Some-clause-narrow c =
    let v = c.args.variable in
    let l = c.args.equation.now in
    let lin = c.args.lin.now in
    let k_fits : FitsSigned w64 c.coefficient-k.result = record { sfits = c.coefficient-k.type_inv } in
    let m_fits : FitsSigned w64 c.minus-m.result = record { sfits = c.minus-m.type_inv } in
    let c_fits : FitsSigned w64 c.coefficient.result = record { sfits = c.coefficient.type_inv } in
    let a_fits : FitsSigned w128 c.constant.result = record { sfits = c.constant.type_inv } in
    let b_fits : FitsSigned w128 c.constant-in-Ok.result = record { sfits = c.constant-in-Ok.type_inv } in
    let made = simp to_z-of_z at c.in_ok-terms.ensures.made in
    let minus : c.minus-m.result ≡ neg_ℤ c.coefficient.result = omega (arith, ints, c.minus-m.ensures) in
    let terms = crossed_terms v l lin c.coefficient-k.result c.minus-m.result c.coefficient.result c.terms.result.now c.terms-2.result.now c.in_ok-terms.terms.items c.coefficient-k.ensures.is minus c.coefficient.ensures.is c.terms.ensures.is c.terms-2.ensures.is made in
    let constant = crossed_constant v l lin c.coefficient-k.result c.minus-m.result c.coefficient.result c.constant.result c.constant-in-Ok.result c.coefficient-k.ensures.is minus c.coefficient.ensures.is c.constant.ensures.is c.constant-in-Ok.ensures.is in
    let none = simp to_z-of_z at c.in-Some.ensures.none in
    let short : is_short (crossed v l lin).constant ≡ true = true_not_false (is_short (crossed v l lin).constant) (λ h. none.1 (ap is_short constant ∙ h)) in
    let small : are_short (crossed v l lin).terms ≡ true = ap are_short (sym terms ∙ sym c.as_slice.ensures.value) ∙ c.in-Ok.ensures.within in
    both_small (are_short (crossed v l lin).terms) (is_short (crossed v l lin).constant) small short

pub returns-in-Ok-clause-wide : goal.returns-in-Ok-clause-wide
returns-in-Ok-clause-wide c = λ _.
    let v = c.args.variable in
    let l = c.args.equation.now in
    let lin = c.args.lin.now in
    let k_fits : FitsSigned w64 c.coefficient-k.result = record { sfits = c.coefficient-k.type_inv } in
    let m_fits : FitsSigned w64 c.minus-m.result = record { sfits = c.minus-m.type_inv } in
    let c_fits : FitsSigned w64 c.coefficient.result = record { sfits = c.coefficient.type_inv } in
    let made = simp to_z-of_z at c.in_ok-terms.ensures.made in
    let minus : c.minus-m.result ≡ neg_ℤ c.coefficient.result = omega (arith, ints, c.minus-m.ensures) in
    let terms = crossed_terms v l lin c.coefficient-k.result c.minus-m.result c.coefficient.result c.terms.result.now c.terms-2.result.now c.in_ok-terms.terms.items c.coefficient-k.ensures.is minus c.coefficient.ensures.is c.terms.ensures.is c.terms-2.ensures.is made in
    let some : 0 < length c.in_ok-terms.terms.items = search rules in
    some_terms c.in_ok-terms.terms.items (crossed v l lin).terms terms some

pub returns-in-Ok-clause-wide_number : goal.returns-in-Ok-clause-wide_number
returns-in-Ok-clause-wide_number c = λ _.
    let v = c.args.variable in
    let l = c.args.equation.now in
    let lin = c.args.lin.now in
    let k_fits : FitsSigned w64 c.coefficient-k.result = record { sfits = c.coefficient-k.type_inv } in
    let m_fits : FitsSigned w64 c.minus-m.result = record { sfits = c.minus-m.type_inv } in
    let c_fits : FitsSigned w64 c.coefficient.result = record { sfits = c.coefficient.type_inv } in
    let a_fits : FitsSigned w128 c.constant.result = record { sfits = c.constant.type_inv } in
    let b_fits : FitsSigned w128 c.constant-in-Ok.result = record { sfits = c.constant-in-Ok.type_inv } in
    let minus : c.minus-m.result ≡ neg_ℤ c.coefficient.result = omega (arith, ints, c.minus-m.ensures) in
    let constant = crossed_constant v l lin c.coefficient-k.result c.minus-m.result c.coefficient.result c.constant.result c.constant-in-Ok.result c.coefficient-k.ensures.is minus c.coefficient.ensures.is c.constant.ensures.is c.constant-in-Ok.ensures.is in
    let none = simp to_z-of_z at c.in-None.ensures.none in
    second_wide (are_short (crossed v l lin).terms) (is_short (crossed v l lin).constant) (ap is_short (sym constant) ∙ none.0 refl)

pub returns-in-Err-Wide-clause-wide : goal.returns-in-Err-Wide-clause-wide
returns-in-Err-Wide-clause-wide c = λ _.
    let v = c.args.variable in
    let l = c.args.equation.now in
    let lin = c.args.lin.now in
    let k_fits : FitsSigned w64 c.coefficient-k.result = record { sfits = c.coefficient-k.type_inv } in
    let m_fits : FitsSigned w64 c.minus-m.result = record { sfits = c.minus-m.type_inv } in
    let c_fits : FitsSigned w64 c.coefficient.result = record { sfits = c.coefficient.type_inv } in
    let made = simp to_z-of_z at c.in_ok-terms.ensures.made in
    let minus : c.minus-m.result ≡ neg_ℤ c.coefficient.result = omega (arith, ints, c.minus-m.ensures) in
    let terms = crossed_terms v l lin c.coefficient-k.result c.minus-m.result c.coefficient.result c.terms.result.now c.terms-2.result.now c.in_ok-terms.terms.items c.coefficient-k.ensures.is minus c.coefficient.ensures.is c.terms.ensures.is c.terms-2.ensures.is made in
    let some : 0 < length c.in_ok-terms.terms.items = search rules in
    some_terms c.in_ok-terms.terms.items (crossed v l lin).terms terms some

pub returns-in-Err-Wide-clause-wide_number : goal.returns-in-Err-Wide-clause-wide_number
returns-in-Err-Wide-clause-wide_number c = λ _.
    let v = c.args.variable in
    let l = c.args.equation.now in
    let lin = c.args.lin.now in
    let k_fits : FitsSigned w64 c.coefficient-k.result = record { sfits = c.coefficient-k.type_inv } in
    let m_fits : FitsSigned w64 c.minus-m.result = record { sfits = c.minus-m.type_inv } in
    let c_fits : FitsSigned w64 c.coefficient.result = record { sfits = c.coefficient.type_inv } in
    let made = simp to_z-of_z at c.in_ok-terms.ensures.made in
    let minus : c.minus-m.result ≡ neg_ℤ c.coefficient.result = omega (arith, ints, c.minus-m.ensures) in
    let terms = crossed_terms v l lin c.coefficient-k.result c.minus-m.result c.coefficient.result c.terms.result.now c.terms-2.result.now c.in_ok-terms.terms.items c.coefficient-k.ensures.is minus c.coefficient.ensures.is c.terms.ensures.is c.terms-2.ensures.is made in
    let small : are_short c.as_slice.result.now ≡ false = first_of (search (rules, c.in-Err-Wide.ensures.wide), grind (arith, c.in-Err-Wide.ensures.wide)) in
    first_wide (are_short (crossed v l lin).terms) (is_short (crossed v l lin).constant) (ap are_short (sym terms ∙ sym c.as_slice.ensures.value) ∙ small)

pub form_of-made-requires-clause-long : goal.form_of-made-requires-clause-long
form_of-made-requires-clause-long c =
    let n_fits : FitsSigned w64 c.in-Some.constant = search rules in
    widened-long c.in-Some.constant c.from.result n_fits c.from.ensures

pub constant-requires-in-Ok-2-clause-a : goal.constant-requires-in-Ok-2-clause-a
constant-requires-in-Ok-2-clause-a c =
    let a_fits : FitsSigned w128 c.constant.result = record { sfits = c.constant.type_inv } in
    subst (λ (z : ℤ). nat_abs z < 2 ^ 64) (sym (to_z-of_z _ _ a_fits ∙ c.constant.ensures.is)) c.constant.ensures.long

pub constant-requires-in-Ok-2-clause-b : goal.constant-requires-in-Ok-2-clause-b
constant-requires-in-Ok-2-clause-b c =
    let b_fits : FitsSigned w128 c.constant-in-Ok.result = record { sfits = c.constant-in-Ok.type_inv } in
    subst (λ (z : ℤ). nat_abs z < 2 ^ 64) (sym (to_z-of_z _ _ b_fits ∙ c.constant-in-Ok.ensures.is)) c.constant-in-Ok.ensures.long
