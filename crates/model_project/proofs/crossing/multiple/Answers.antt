use Rattle.std.proofs.Common.{◌≡◌, ◌<◌, ◌*◌, arith, rules}
use Rattle.std.specs.Prelude.{nat_abs}
use Rattle.std.proofs.lemmas.Int.{ints}
use Rattle.model_project.proofs.CrossLemmas.{product_some}
use Rattle.model_project.proofs.crossing.multiple.Goals as goal

pub returns-clause-some : goal.returns-clause-some
returns-clause-some c =
    let value : c.product.result ≡ nat_abs c.args.a * c.args.d = search rules in
    let above : 0 < nat_abs c.args.a = omega (arith, ints, c.requires) in
    let some : 0 < nat_abs c.args.a * c.args.d = product_some (nat_abs c.args.a) c.args.d above c.get.ensures.positive in
    rw value some
