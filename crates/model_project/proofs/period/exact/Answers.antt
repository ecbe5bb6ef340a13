use Rattle.std.proofs.Common.{sym}
use Rattle.std.specs.Int.{IsGcd}
use Rattle.lin_atoms.proofs.Public.{divisor-some}
use Rattle.model_project.proofs.PeriodLemmas.{least_multiple_by}
use Rattle.model_project.proofs.period.exact.Goals as goal

pub nonzero_div-result : goal.nonzero_div-result
nonzero_div-result c =
    let is : IsGcd c.args.a c.args.b c.gcd-divisor.result = rw (sym c.from.ensures, sym c.from-2.ensures) c.gcd-divisor.ensures in
    divisor-some c.gcd-divisor.result c.args.b is.1 c.requires.some

pub returns : goal.returns
returns c =
    let is : IsGcd c.args.a c.args.b c.gcd-divisor.result = rw (sym c.from.ensures, sym c.from-2.ensures) c.gcd-divisor.ensures in
    rw (c.from-3.ensures, c.from-4.ensures) (sym (least_multiple_by c.args.a c.args.b c.gcd-divisor.result is))
