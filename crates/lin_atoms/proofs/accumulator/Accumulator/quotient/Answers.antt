use Rattle.std.proofs.Common.{◌≡◌, ◌+◌, ◌*◌, ◌^◌, ◌≤◌, ap, arith, rules, ◌∙◌, FitsSigned}
use Rattle.std.specs.Prelude.{pos, ◌+ℤ◌, ◌*ℤ◌, nat_abs}
use Rattle.std.specs.Int.{w64, w128}
use Rattle.std.proofs.lemmas.Int.{to_z-of_z, by_lt_z}
use Rattle.lin_atoms.proofs.DivisionLemmas.{quotient_is, quotient_above, quotient_below}
use Rattle.lin_atoms.proofs.WordLemmas.{high_between_above, high_between_below}
use Rattle.lin_atoms.proofs.accumulator.Accumulator.quotient.Goals as goal

pub invariant_of-result : goal.invariant_of-result
invariant_of-result c =
    let high_fits : FitsSigned w64 c.self.inside.high = search rules in
    let low_fits : FitsSigned w128 c.self.inside.low = search rules in
    let d_fits : FitsSigned w64 c.args.divisor = c.ranges.divisor in
    let top_fits : FitsSigned w64 c.divided_words-quotient.result.high = search rules in
    let h_fits : FitsSigned w64 c.signed-high.result.0 = search rules in
    let l_fits : FitsSigned w128 c.signed-high.result.1 = search rules in
    let divided = simp to_z-of_z at c.divided_words-quotient.ensures.value in
    let small = simp to_z-of_z at c.divided_words-quotient.ensures.rest in
    let made = simp to_z-of_z at c.signed-high.ensures in
    let v = c.args.self.now.value in
    let q = c.divided_words-quotient.result.high *ℤ pos (2 ^ 128) +ℤ pos (c.divided_words-quotient.result.first * 2 ^ 64 + c.divided_words-quotient.result.second) in
    let seen : c.self.inside.high *ℤ pos (2 ^ 128) +ℤ c.self.inside.low ≡ v = ap (λ s. s.value) c.self.view_is in
    let whole : q *ℤ c.args.divisor +ℤ pos c.divided_words-quotient.result.rest ≡ v = divided ∙ seen in
    let le : nat_abs c.signed-high.result.0 ≤ nat_abs c.self.inside.high = by_lt_z v (pos 0)
    (λ lt. let between = quotient_below v q c.args.divisor c.divided_words-quotient.result.rest c.requires whole small lt in
    high_between_below c.self.inside.high c.self.inside.low v c.signed-high.result.0 c.signed-high.result.1 q seen made low_fits l_fits between.1 between.0)
    (λ ge. let between = quotient_above v q c.args.divisor c.divided_words-quotient.result.rest c.requires whole small ge in
    high_between_above c.self.inside.high c.self.inside.low v c.signed-high.result.0 c.signed-high.result.1 q seen made low_fits l_fits between.0 between.1) in
    simp to_z-of_z (omega (arith, c.self.invariant), omega (arith, c.self.invariant))

pub returns-clause-value : goal.returns-clause-value
returns-clause-value c =
    let high_fits : FitsSigned w64 c.self.inside.high = search rules in
    let low_fits : FitsSigned w128 c.self.inside.low = search rules in
    let d_fits : FitsSigned w64 c.args.divisor = c.ranges.divisor in
    let top_fits : FitsSigned w64 c.divided_words-quotient.result.high = search rules in
    let h_fits : FitsSigned w64 c.signed-high.result.0 = search rules in
    let l_fits : FitsSigned w128 c.signed-high.result.1 = search rules in
    let divided = simp to_z-of_z at c.divided_words-quotient.ensures.value in
    let small = simp to_z-of_z at c.divided_words-quotient.ensures.rest in
    let made = simp to_z-of_z at c.signed-high.ensures in
    let q = c.divided_words-quotient.result.high *ℤ pos (2 ^ 128) +ℤ pos (c.divided_words-quotient.result.first * 2 ^ 64 + c.divided_words-quotient.result.second) in
    simp to_z-of_z (made ∙ quotient_is c.args.self.now.value q c.args.divisor c.divided_words-quotient.result.rest c.requires (divided ∙ ap (λ s. s.value) c.self.view_is) small)
