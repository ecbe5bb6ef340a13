use Rattle.std.proofs.Common.{subst, sym}
use Rattle.lia_divisors.specs.machinery.There.{AreThere}
use Rattle.lia_divisors.proofs.ThereLemmas.{there-push}
use Rattle.lia_divisors.proofs.said.put.Goals as goal

pub returns : goal.returns
returns c known are there = subst (AreThere known) (sym c.in_ok-push.ensures.items) (there-push known c.args.said.now.items (record { number = c.args.number; lit = c.args.lit }) are there)
