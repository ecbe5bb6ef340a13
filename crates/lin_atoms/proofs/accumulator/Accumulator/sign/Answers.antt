use Rattle.std.proofs.Common.{arith, ap, sym, rules, FitsSigned}
use Rattle.std.specs.Int.{w128}
use Rattle.std.proofs.lemmas.Int.{ints}
use Rattle.lin_atoms.proofs.WordLemmas.{above, below}
use Rattle.lin_atoms.proofs.accumulator.Accumulator.sign.Goals as goal

pub returns-then-high-gt0 : goal.returns-then-high-gt0
returns-then-high-gt0 c =
    let low_fits : FitsSigned w128 c.self.inside.low = search rules in
    sym (above c.self.inside.high c.self.inside.low c.args.self.now.value (ap (λ s. s.value) c.self.view_is) low_fits (omega (arith, ints)))

pub returns-then-high-lt0 : goal.returns-then-high-lt0
returns-then-high-lt0 c =
    let low_fits : FitsSigned w128 c.self.inside.low = search rules in
    sym (below c.self.inside.high c.self.inside.low c.args.self.now.value (ap (λ s. s.value) c.self.view_is) low_fits (omega (arith, ints)))
