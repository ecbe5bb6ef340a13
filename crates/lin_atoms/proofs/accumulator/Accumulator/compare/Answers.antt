use Rattle.std.proofs.Common.{◌≡◌, ◌∙◌, arith, ap, rules, FitsSigned}
use Rattle.std.specs.Int.{w128}
use Rattle.std.proofs.lemmas.Int.{ints, to_z-of_z}
use Rattle.lin_atoms.proofs.WordLemmas.{order_below, order_above, order_same}
use Rattle.lin_atoms.proofs.accumulator.Accumulator.compare.Goals as goal

pub returns-then-high-other_high : goal.returns-then-high-other_high
returns-then-high-other_high c =
    let low_fits : FitsSigned w128 c.self.inside.low = search rules in
    let other_fits : FitsSigned w128 c.other.inside.low = search rules in
    order_below c.self.inside.high c.self.inside.low c.other.inside.high c.other.inside.low c.args.self.now.value c.args.other.now.value (ap (λ s. s.value) c.self.view_is) (ap (λ s. s.value) c.other.view_is) low_fits other_fits (omega (arith, ints))

pub returns-then-high-other_high-2 : goal.returns-then-high-other_high-2
returns-then-high-other_high-2 c =
    let low_fits : FitsSigned w128 c.self.inside.low = search rules in
    let other_fits : FitsSigned w128 c.other.inside.low = search rules in
    order_above c.self.inside.high c.self.inside.low c.other.inside.high c.other.inside.low c.args.self.now.value c.args.other.now.value (ap (λ s. s.value) c.self.view_is) (ap (λ s. s.value) c.other.view_is) low_fits other_fits (omega (arith, ints))

pub returns-else-high-other_high-2 : goal.returns-else-high-other_high-2
returns-else-high-other_high-2 c =
    let low_fits : FitsSigned w128 c.self.inside.low = search rules in
    let other_fits : FitsSigned w128 c.other.inside.low = search rules in
    let same : c.self.inside.high ≡ c.other.inside.high = omega (arith, ints) in
    let told = simp to_z-of_z at c.cmp.ensures in
    told ∙ order_same c.self.inside.high c.self.inside.low c.other.inside.high c.other.inside.low c.args.self.now.value c.args.other.now.value (ap (λ s. s.value) c.self.view_is) (ap (λ s. s.value) c.other.view_is) same
