use Rattle.std.proofs.Common.{◌≡◌, ap, sym, ◌∙◌, refl, rules, false, FitsSigned}
use Rattle.std.specs.Prelude.{◌+ℤ◌}
use Rattle.std.specs.Int.{w64, w128}
use Rattle.std.proofs.lemmas.Int.{to_z-of_z}
use Rattle.lin_atoms.specs.Linear.{fits, is_long}
use Rattle.lin_atoms.proofs.LinearLemmas.{linear_of_parts, plus-fits, plus-is, too-long}
use Rattle.lin_atoms.proofs.lin.Lin.plus.Goals as goal

pub overflow_add-constant : goal.overflow_add-constant
overflow_add-constant c =
    let a_fits : FitsSigned w128 c.self.inside.constant = search rules in
    let k_fits : FitsSigned w64 c.args.k = c.ranges.k in
    let r_fits : FitsSigned w128 c.from.result = record { sfits = c.from.type_inv } in
    let same : c.from.result ≡ c.args.k = simp to_z-of_z at c.from.ensures in
    let sum_fits : FitsSigned w128 (c.self.inside.constant +ℤ c.from.result) = plus-fits c.self.inside.constant c.args.k c.from.result c.self.invariant.2 k_fits same in
    simp to_z-of_z sum_fits

pub returns-then-not-is_long-clause-wide : goal.returns-then-not-is_long-clause-wide
returns-then-not-is_long-clause-wide c =
    let a_fits : FitsSigned w128 c.self.inside.constant = search rules in
    let k_fits : FitsSigned w64 c.args.k = c.ranges.k in
    let r_fits : FitsSigned w128 c.from.result = record { sfits = c.from.type_inv } in
    let same : c.from.result ≡ c.args.k = simp to_z-of_z at c.from.ensures in
    let sum_fits : FitsSigned w128 (c.self.inside.constant +ℤ c.from.result) = plus-fits c.self.inside.constant c.args.k c.from.result c.self.invariant.2 k_fits same in
    let told = simp to_z-of_z at c.is_long.ensures in
    let wide : is_long (c.self.inside.constant +ℤ c.from.result) ≡ false = sym told ∙ c.if-not-is_long.true in
    (λ _. ap fits (sym (plus-is c.args.self c.self.inside.terms c.self.inside.constant c.args.k c.from.result same c.self.view_is)) ∙ too-long (linear_of_parts c.self.inside.terms (c.self.inside.constant +ℤ c.from.result)) wide, λ _. refl)

pub returns-clause-made : goal.returns-clause-made
returns-clause-made c =
    let a_fits : FitsSigned w128 c.self.inside.constant = search rules in
    let k_fits : FitsSigned w64 c.args.k = c.ranges.k in
    let r_fits : FitsSigned w128 c.from.result = record { sfits = c.from.type_inv } in
    let same : c.from.result ≡ c.args.k = simp to_z-of_z at c.from.ensures in
    let sum_fits : FitsSigned w128 (c.self.inside.constant +ℤ c.from.result) = plus-fits c.self.inside.constant c.args.k c.from.result c.self.invariant.2 k_fits same in
    simp to_z-of_z (plus-is c.args.self c.self.inside.terms c.self.inside.constant c.args.k c.from.result same c.self.view_is)
