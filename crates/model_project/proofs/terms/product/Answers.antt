use Rattle.std.proofs.Common.{◌<◌, ◌^◌, subst, sym, FitsSigned}
use Rattle.std.specs.Prelude.{ℤ, nat_abs}
use Rattle.std.specs.Int.{w64}
use Rattle.model_project.proofs.TermLemmas.{exact-product, short-product, widened}
use Rattle.model_project.proofs.terms.product.Goals as goal

pub returns-clause-value : goal.returns-clause-value
returns-clause-value c =
    let k = c.args.k in
    let a = c.args.a in
    let k_fits : FitsSigned w64 k = c.ranges.k in
    let a_fits : FitsSigned w64 a = c.ranges.a in
    exact-product k a _ _ c.requires a_fits (widened k c.from.result k_fits c.from.ensures) (widened a c.from-2.result a_fits c.from-2.ensures)

pub returns-clause-bound : goal.returns-clause-bound
returns-clause-bound c = subst (λ (z : ℤ). nat_abs z < 2 ^ 126) (sym (returns-clause-value c)) (short-product c.args.k c.args.a c.requires c.ranges.a)
