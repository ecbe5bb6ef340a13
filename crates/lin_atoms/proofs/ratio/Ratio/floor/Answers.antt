use Rattle.std.proofs.Common.{rules, sym, subst, FitsSigned}
use Rattle.std.specs.Prelude.{◌*ℤ◌, ◌≤ℤ◌}
use Rattle.std.specs.Int.{w128}
use Rattle.std.proofs.lemmas.Int.{to_z-of_z}
use Rattle.lin_atoms.specs.Ratio.{Fraction}
use Rattle.lin_atoms.proofs.ratio.Ratio.floor.Goals as goal

pub returns-clause-greatest : goal.returns-clause-greatest
returns-clause-greatest c = λ n h.
    let n_fits : FitsSigned w128 c.self.inside.num = search rules in
    let d_fits : FitsSigned w128 c.self.inside.den = search rules in
    let r_fits : FitsSigned w128 c.floor_div.result = search rules in
    let greatest = simp to_z-of_z at (c.floor_div.ensures.greatest n) in
    simp to_z-of_z (greatest (subst (λ (q : Fraction). (n *ℤ q.den) ≤ℤ q.num) (sym c.self.view_is) h))
