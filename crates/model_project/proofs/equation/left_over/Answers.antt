use Rattle.std.proofs.Common.{◌≡◌, ◌<◌, ap, ◌∙◌, arith, rules, true, length, Bool, FitsSigned, not, ◌==◌}
use Rattle.std.specs.Prelude.{pos, ℕ, ℤ}
use Rattle.std.specs.Int.{w64, w128}
use Rattle.std.proofs.lemmas.Int.{ints, to_z-of_z}
use Rattle.std.specs.List.{filter}
use Rattle.lin_atoms.specs.Linear.{are_ordered, are_short, is_short}
use Rattle.model_project.proofs.CrossLemmas.{filter_small, left_from, true_not_false}
use Rattle.model_project.proofs.TermLemmas.{filter_ordered, legal_order, legal_small}
use Rattle.model_project.proofs.equation.left_over.Goals as goal

pub returns-in-Some-clause-made : goal.returns-in-Some-clause-made
returns-in-Some-clause-made c =
    let v = c.args.variable in
    let l = c.args.equation.now in
    let a = c.coefficient-a.result in
    let a_fits : FitsSigned w64 a = search rules in
    let n_fits : FitsSigned w64 c.in-Some.constant = search rules in
    let k_fits : FitsSigned w128 c.constant.result = search rules in
    let other : a ≡ pos 1 → ⊥ = λ h. absurd (omega (arith, ints, h, c.if-a-eq1.false)) in
    let has : 0 < length c.in_ok-rest.rest.items = search rules in
    let narrow : c.in-Some.constant ≡ c.constant.result = omega (arith, ints, c.in-Some.ensures.some) in
    let none = simp to_z-of_z at c.in-Some.ensures.none in
    let short : is_short l.constant ≡ true = true_not_false (is_short l.constant) (λ h. none.1 (ap is_short c.constant.ensures.is ∙ h)) in
    let made = simp to_z-of_z at c.of_division.ensures in
    left_from v l a c.in-Some.constant c.in_ok-rest.rest.items c.of_division.result c.coefficient-a.ensures.is c.requires other c.coefficient-a.ensures.short (c.in_ok-rest.ensures ∙ ap (filter (λ t. not (t.0 == v))) c.terms.ensures.is) has (legal_small l c.constant.ensures.legal) (narrow ∙ c.constant.ensures.is) short made

pub of_division-requires-clause-ordered : goal.of_division-requires-clause-ordered
of_division-requires-clause-ordered c =
    let test : ℕ × ℤ → Bool = λ t. not (t.0 == c.args.variable) in
    let rest : c.in_ok-rest.rest.items ≡ filter test c.args.equation.now.terms = c.in_ok-rest.ensures ∙ ap (filter test) c.terms.ensures.is in
    ap (are_ordered 0) rest ∙ filter_ordered test 0 c.args.equation.now.terms (legal_order c.args.equation.now c.constant.ensures.legal)

pub of_division-requires-clause-short : goal.of_division-requires-clause-short
of_division-requires-clause-short c =
    let test : ℕ × ℤ → Bool = λ t. not (t.0 == c.args.variable) in
    let rest : c.in_ok-rest.rest.items ≡ filter test c.args.equation.now.terms = c.in_ok-rest.ensures ∙ ap (filter test) c.terms.ensures.is in
    ap are_short rest ∙ filter_small test c.args.equation.now.terms (legal_small c.args.equation.now c.constant.ensures.legal)
