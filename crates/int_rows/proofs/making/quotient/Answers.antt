use Rattle.std.proofs.Common.{◌≡◌, arith, FitsSigned, rules}
use Rattle.std.specs.Prelude.{pos}
use Rattle.std.specs.Int.{w128}
use Rattle.std.proofs.lemmas.Int.{ints, to_z-of_z}
use Rattle.int_rows.proofs.QuotientLemmas.{by-one}
use Rattle.int_rows.proofs.making.quotient.Goals as goal

pub returns-then-divisor-eq1-clause-is : goal.returns-then-divisor-eq1-clause-is
returns-then-divisor-eq1-clause-is c =
    let test = c.if-divisor-eq1.true in
    let one : c.args.divisor ≡ pos 1 = omega (arith, ints, test) in
    let fits : FitsSigned w128 c.args.constant = search rules in
    simp to_z-of_z (by-one c.args.constant c.args.divisor one)
