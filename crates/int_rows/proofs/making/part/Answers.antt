use Rattle.std.proofs.Common.{◌≡◌, arith, FitsSigned, rules}
use Rattle.std.specs.Prelude.{pos}
use Rattle.std.specs.Int.{w64}
use Rattle.std.proofs.lemmas.Int.{ints, to_z-of_z}
use Rattle.int_rows.proofs.QuotientLemmas.{by-one}
use Rattle.int_rows.proofs.making.part.Goals as goal

pub returns-then-divisor-eq1 : goal.returns-then-divisor-eq1
returns-then-divisor-eq1 c =
    let test = c.if-divisor-eq1.true in
    let one : c.args.divisor ≡ pos 1 = omega (arith, ints, test) in
    let fits : FitsSigned w64 c.args.coefficient = search rules in
    simp to_z-of_z (by-one c.args.coefficient c.args.divisor one)
