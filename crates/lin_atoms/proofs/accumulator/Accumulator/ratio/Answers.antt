use Rattle.std.proofs.Common.{ap, arith, rules, sym, ◌∙◌, FitsSigned}
use Rattle.std.specs.Prelude.{pos, ◌*ℤ◌, nat_abs}
use Rattle.std.specs.Int.{w64, w128}
use Rattle.std.proofs.lemmas.Int.{ints, to_z-of_z}
use Rattle.std.proofs.lemmas.Nat.Gcd.{mod-eq-zero_of_dvd}
use Rattle.lin_atoms.proofs.DivisionLemmas.{positive}
use Rattle.lin_atoms.proofs.RatioLemmas.{lowest, same_number, exact_quotient, numerator_is, wide_where}
use Rattle.lin_atoms.proofs.accumulator.Accumulator.ratio.Goals as goal

pub exact-requires-clause-divides : goal.exact-requires-clause-divides
exact-requires-clause-divides c =
    let den_fits : FitsSigned w64 c.args.den = c.ranges.den in
    let d_fits : FitsSigned w64 c.common_divisor-divisor.result = record { sfits = c.common_divisor-divisor.type_inv } in
    let common = simp to_z-of_z at c.common_divisor-divisor.ensures.common in
    let some = c.common_divisor-divisor.ensures.positive in
    simp to_z-of_z (mod-eq-zero_of_dvd (nat_abs c.common_divisor-divisor.result) common.1)

pub of_lowest-requires-clause-lowest : goal.of_lowest-requires-clause-lowest
of_lowest-requires-clause-lowest c =
    let den_fits : FitsSigned w64 c.args.den = c.ranges.den in
    let d_fits : FitsSigned w64 c.common_divisor-divisor.result = record { sfits = c.common_divisor-divisor.type_inv } in
    let common = simp to_z-of_z at c.common_divisor-divisor.ensures.common in
    let some = c.common_divisor-divisor.ensures.positive in
    let e_fits : FitsSigned w64 c.exact.result = record { sfits = c.exact.type_inv } in
    let n_fits : FitsSigned w128 c.in-Some.num = search rules in
    let f_fits : FitsSigned w128 c.from.result = record { sfits = c.from.type_inv } in
    let left = ap (λ z. z *ℤ pos (nat_abs c.common_divisor-divisor.result)) (c.in-Some.ensures.1 ∙ (simp to_z-of_z at c.quotient.ensures.value)) ∙ exact_quotient c.args.self.now.value c.common_divisor-divisor.result some common.0 in
    let right = ap (λ z. c.from.result *ℤ z) (sym (positive c.common_divisor-divisor.result some)) ∙ ap (λ z. z *ℤ c.common_divisor-divisor.result) (simp to_z-of_z at c.from.ensures) ∙ (simp to_z-of_z at c.exact.ensures) in
    simp to_z-of_z (lowest c.args.self.now.value c.args.den c.in-Some.num c.from.result (nat_abs c.common_divisor-divisor.result) common c.requires left right)

pub returns-else-num-clause-same : goal.returns-else-num-clause-same
returns-else-num-clause-same c =
    let den_fits : FitsSigned w64 c.args.den = c.ranges.den in
    let d_fits : FitsSigned w64 c.common_divisor-divisor.result = record { sfits = c.common_divisor-divisor.type_inv } in
    let common = simp to_z-of_z at c.common_divisor-divisor.ensures.common in
    let some = c.common_divisor-divisor.ensures.positive in
    let e_fits : FitsSigned w64 c.exact.result = record { sfits = c.exact.type_inv } in
    let n_fits : FitsSigned w128 c.in-Some.num = search rules in
    let f_fits : FitsSigned w128 c.from.result = record { sfits = c.from.type_inv } in
    let left = ap (λ z. z *ℤ pos (nat_abs c.common_divisor-divisor.result)) (c.in-Some.ensures.1 ∙ (simp to_z-of_z at c.quotient.ensures.value)) ∙ exact_quotient c.args.self.now.value c.common_divisor-divisor.result some common.0 in
    let right = ap (λ z. c.from.result *ℤ z) (sym (positive c.common_divisor-divisor.result some)) ∙ ap (λ z. z *ℤ c.common_divisor-divisor.result) (simp to_z-of_z at c.from.ensures) ∙ (simp to_z-of_z at c.exact.ensures) in
    let made = simp to_z-of_z at c.of_lowest.ensures in
    rw made (same_number c.args.self.now.value c.args.den c.in-Some.num c.from.result (nat_abs c.common_divisor-divisor.result) left right)

pub returns-in-None-clause-wide : goal.returns-in-None-clause-wide
returns-in-None-clause-wide c none num is =
    let den_fits : FitsSigned w64 c.args.den = c.ranges.den in
    let d_fits : FitsSigned w64 c.common_divisor-divisor.result = record { sfits = c.common_divisor-divisor.type_inv } in
    let common = simp to_z-of_z at c.common_divisor-divisor.ensures.common in
    let some = c.common_divisor-divisor.ensures.positive in
    let e = numerator_is num c.args.self.now.value c.args.den c.common_divisor-divisor.result some common is ∙ sym (simp to_z-of_z at c.quotient.ensures.value) in
    rw e (wide_where c.quotient.result.value c.in-None.ensures)

pub returns-then-num-clause-wide : goal.returns-then-num-clause-wide
returns-then-num-clause-wide c none num is =
    let den_fits : FitsSigned w64 c.args.den = c.ranges.den in
    let d_fits : FitsSigned w64 c.common_divisor-divisor.result = record { sfits = c.common_divisor-divisor.type_inv } in
    let common = simp to_z-of_z at c.common_divisor-divisor.ensures.common in
    let some = c.common_divisor-divisor.ensures.positive in
    let n_fits : FitsSigned w128 c.in-Some.num = search rules in
    let e = numerator_is num c.args.self.now.value c.args.den c.common_divisor-divisor.result some common is ∙ sym (simp to_z-of_z at c.quotient.ensures.value) ∙ sym c.in-Some.ensures.1 in
    rw e (omega (arith, ints))
