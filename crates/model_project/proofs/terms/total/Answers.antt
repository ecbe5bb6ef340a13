use Rattle.std.proofs.Common.{FitsSigned}
use Rattle.std.specs.Prelude.{◌*ℤ◌}
use Rattle.std.specs.Int.{w64, w128}
use Rattle.std.proofs.lemmas.Int.{to_z-of_z}
use Rattle.model_project.proofs.TermLemmas.{total-is}
use Rattle.model_project.proofs.terms.total.Goals as goal

pub returns : goal.returns
returns c =
    let k_fits : FitsSigned w64 c.args.k = c.ranges.k in
    let a_fits : FitsSigned w128 c.args.a = c.ranges.a in
    let m_fits : FitsSigned w64 c.args.m = c.ranges.m in
    let b_fits : FitsSigned w128 c.args.b = c.ranges.b in
    let first = simp to_z-of_z at c.add.ensures.value in
    let second = simp to_z-of_z at c.add-2.ensures.value in
    total-is c.new-total.result.value c.add.new.self.value c.add-2.new.self.value (c.args.k *ℤ c.args.a) (c.args.m *ℤ c.args.b) c.new-total.ensures.value first second
