use Rattle.std.proofs.Common.{◌^◌, ◌<◌, ◌≤◌, arith, rules, FitsSigned}
use Rattle.std.specs.Prelude.{nat_abs}
use Rattle.std.specs.Int.{w128}
use Rattle.std.proofs.lemmas.Int.{ints, to_z-of_z}
use Rattle.std.proofs.lemmas.Nat.Gcd.{le_of_dvd, mod-eq-zero_of_dvd}
use Rattle.lin_atoms.proofs.RatioLemmas.{divisor-some, lowest, same_number, no_greater}
use Rattle.lin_atoms.proofs.ratio.Ratio.new.Goals as goal

pub reduced-num-requires-clause-divisor : goal.reduced-num-requires-clause-divisor
reduced-num-requires-clause-divisor c =
    let n_fits : FitsSigned w128 c.args.num = c.ranges.num in
    let d_fits : FitsSigned w128 c.args.den = c.ranges.den in
    let den = simp to_z-of_z at c.unsigned_abs-2.ensures.value in
    let some : 0 < c.unsigned_abs-2.result = omega (arith, ints, c.requires.positive, den) in
    let below : c.unsigned_abs-2.result < 2 ^ 127 = omega (arith, ints, c.requires.positive, den) in
    let le : c.gcd-divisor.result ≤ c.unsigned_abs-2.result = le_of_dvd some c.gcd-divisor.ensures.1 in
    (divisor-some c.gcd-divisor.result c.unsigned_abs-2.result c.gcd-divisor.ensures.1 some, omega arith)

pub reduced-num-requires-clause-num : goal.reduced-num-requires-clause-num
reduced-num-requires-clause-num c =
    let n_fits : FitsSigned w128 c.args.num = c.ranges.num in
    let num = simp to_z-of_z at c.unsigned_abs.ensures.value in
    simp to_z-of_z (rw (← num) (mod-eq-zero_of_dvd c.gcd-divisor.result c.gcd-divisor.ensures.0))

pub reduced-num-requires-clause-den : goal.reduced-num-requires-clause-den
reduced-num-requires-clause-den c =
    let d_fits : FitsSigned w128 c.args.den = c.ranges.den in
    let den = simp to_z-of_z at c.unsigned_abs-2.ensures.value in
    simp to_z-of_z (rw (← den) (mod-eq-zero_of_dvd c.gcd-divisor.result c.gcd-divisor.ensures.1))

pub invariant_of-result : goal.invariant_of-result
invariant_of-result c =
    let n_fits : FitsSigned w128 c.args.num = c.ranges.num in
    let d_fits : FitsSigned w128 c.args.den = c.ranges.den in
    let n'_fits : FitsSigned w128 c.reduced-num.result.0 = search rules in
    let d'_fits : FitsSigned w128 c.reduced-num.result.1 = search rules in
    let left = simp to_z-of_z at c.reduced-num.ensures.num in
    let right = simp to_z-of_z at c.reduced-num.ensures.den in
    let num = simp to_z-of_z at c.unsigned_abs.ensures.value in
    let den = simp to_z-of_z at c.unsigned_abs-2.ensures.value in
    let is = rw (num, den) at c.gcd-divisor.ensures in
    let some' : 0 < nat_abs c.args.den = omega (arith, ints, c.requires.positive) in
    let le : nat_abs c.reduced-num.result.0 ≤ nat_abs c.args.num = no_greater c.args.num c.reduced-num.result.0 c.gcd-divisor.result (divisor-some c.gcd-divisor.result (nat_abs c.args.den) is.1 some') left in
    let below : nat_abs c.reduced-num.result.0 < 2 ^ 127 = omega (arith, c.requires.above) in
    simp to_z-of_z (below, lowest c.args.num c.args.den c.reduced-num.result.0 c.reduced-num.result.1 c.gcd-divisor.result is c.requires.positive left right)

pub returns-clause-same : goal.returns-clause-same
returns-clause-same c =
    let n_fits : FitsSigned w128 c.args.num = c.ranges.num in
    let d_fits : FitsSigned w128 c.args.den = c.ranges.den in
    let n'_fits : FitsSigned w128 c.reduced-num.result.0 = search rules in
    let d'_fits : FitsSigned w128 c.reduced-num.result.1 = search rules in
    let left = simp to_z-of_z at c.reduced-num.ensures.num in
    let right = simp to_z-of_z at c.reduced-num.ensures.den in
    simp to_z-of_z (same_number c.args.num c.args.den c.reduced-num.result.0 c.reduced-num.result.1 c.gcd-divisor.result left right)

pub returns-clause-lowest : goal.returns-clause-lowest
returns-clause-lowest c =
    let n_fits : FitsSigned w128 c.args.num = c.ranges.num in
    let d_fits : FitsSigned w128 c.args.den = c.ranges.den in
    let n'_fits : FitsSigned w128 c.reduced-num.result.0 = search rules in
    let d'_fits : FitsSigned w128 c.reduced-num.result.1 = search rules in
    let left = simp to_z-of_z at c.reduced-num.ensures.num in
    let right = simp to_z-of_z at c.reduced-num.ensures.den in
    let num = simp to_z-of_z at c.unsigned_abs.ensures.value in
    let den = simp to_z-of_z at c.unsigned_abs-2.ensures.value in
    let is = rw (num, den) at c.gcd-divisor.ensures in
    simp to_z-of_z (lowest c.args.num c.args.den c.reduced-num.result.0 c.reduced-num.result.1 c.gcd-divisor.result is c.requires.positive left right)

pub returns-clause-above : goal.returns-clause-above
returns-clause-above c =
    let n_fits : FitsSigned w128 c.args.num = c.ranges.num in
    let d_fits : FitsSigned w128 c.args.den = c.ranges.den in
    let n'_fits : FitsSigned w128 c.reduced-num.result.0 = search rules in
    let left = simp to_z-of_z at c.reduced-num.ensures.num in
    let den = simp to_z-of_z at c.unsigned_abs-2.ensures.value in
    let divides = rw den at c.gcd-divisor.ensures.1 in
    let some : 0 < nat_abs c.args.den = omega (arith, ints, c.requires.positive) in
    let le : nat_abs c.reduced-num.result.0 ≤ nat_abs c.args.num = no_greater c.args.num c.reduced-num.result.0 c.gcd-divisor.result (divisor-some c.gcd-divisor.result (nat_abs c.args.den) divides some) left in
    let below : nat_abs c.reduced-num.result.0 < 2 ^ 127 = omega (arith, c.requires.above, le) in
    simp to_z-of_z below
