use Rattle.std.proofs.Common.{◌≡◌, ap, sym, ◌∙◌, refl, rules, subst, FitsSigned}
use Rattle.std.specs.Prelude.{ℤ, IfSome}
use Rattle.std.specs.Int.{w64, w128}
use Rattle.std.proofs.lemmas.Int.{to_z-of_z}
use Rattle.lin_atoms.specs.Linear.{is_short}
use Rattle.model_project.proofs.TermLemmas.{wide-not_small}
use Rattle.model_project.proofs.terms.constant.Goals as goal

pub returns-in-Some-clause-some : goal.returns-in-Some-clause-some
returns-in-Some-clause-some c =
    let k_fits : FitsSigned w64 c.args.k = c.ranges.k in
    let a_fits : FitsSigned w128 c.args.a = c.ranges.a in
    let m_fits : FitsSigned w64 c.args.m = c.ranges.m in
    let b_fits : FitsSigned w128 c.args.b = c.ranges.b in
    let n_fits : FitsSigned w128 c.in-Some.n = search rules in
    let total = simp to_z-of_z at c.total.ensures in
    let same = c.in-Some.ensures.1 ∙ total in
    let found = simp to_z-of_z at c.narrow.ensures.some in
    subst (λ (z : ℤ). IfSome c.narrow.result (λ n. n ≡ z)) same found

pub returns-in-Some-clause-none : goal.returns-in-Some-clause-none
returns-in-Some-clause-none c =
    let k_fits : FitsSigned w64 c.args.k = c.ranges.k in
    let a_fits : FitsSigned w128 c.args.a = c.ranges.a in
    let m_fits : FitsSigned w64 c.args.m = c.ranges.m in
    let b_fits : FitsSigned w128 c.args.b = c.ranges.b in
    let n_fits : FitsSigned w128 c.in-Some.n = search rules in
    let total = simp to_z-of_z at c.total.ensures in
    let same = c.in-Some.ensures.1 ∙ total in
    let found = simp to_z-of_z at c.narrow.ensures.none in
    (λ h. ap is_short (sym same) ∙ found.0 h, λ h. found.1 (ap is_short same ∙ h))

pub returns-in-None-clause-none : goal.returns-in-None-clause-none
returns-in-None-clause-none c =
    let k_fits : FitsSigned w64 c.args.k = c.ranges.k in
    let a_fits : FitsSigned w128 c.args.a = c.ranges.a in
    let m_fits : FitsSigned w64 c.args.m = c.ranges.m in
    let b_fits : FitsSigned w128 c.args.b = c.ranges.b in
    let total = simp to_z-of_z at c.total.ensures in
    (λ h. ap is_short (sym total) ∙ wide-not_small c.total.result.value c.in-None.ensures, λ h. refl)
