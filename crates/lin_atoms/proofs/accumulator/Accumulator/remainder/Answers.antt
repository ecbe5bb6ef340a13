use Rattle.std.proofs.Common.{◌≡◌, ◌+◌, ◌*◌, ◌^◌, ap, arith, rules, sym, ◌∙◌, FitsSigned}
use Rattle.std.specs.Prelude.{pos, ◌+ℤ◌, ◌*ℤ◌, nat_abs}
use Rattle.std.specs.Int.{w64, w128, int_rem_euclid, cast_signed}
use Rattle.std.proofs.lemmas.Int.{ints, to_z-of_z}
use Rattle.lin_atoms.proofs.DivisionLemmas.{positive, rest_is}
use Rattle.lin_atoms.proofs.accumulator.Accumulator.remainder.Goals as goal

pub returns : goal.returns
returns c =
    let high_fits : FitsSigned w64 c.self.inside.high = search rules in
    let low_fits : FitsSigned w128 c.self.inside.low = search rules in
    let d_fits : FitsSigned w64 c.args.divisor = c.ranges.divisor in
    let q_fits : FitsSigned w64 c.divided_words.result.high = search rules in
    let d : c.args.divisor ≡ pos (nat_abs c.args.divisor) = positive c.args.divisor c.requires in
    let divided = simp to_z-of_z at c.divided_words.ensures.value in
    let small = simp to_z-of_z at c.divided_words.ensures.rest in
    let q = c.divided_words.result.high *ℤ pos (2 ^ 128) +ℤ pos (c.divided_words.result.first * 2 ^ 64 + c.divided_words.result.second) in
    let is : q *ℤ pos (nat_abs c.args.divisor) +ℤ pos c.divided_words.result.rest ≡ c.args.self.now.value =
    ap (λ z. q *ℤ z +ℤ pos c.divided_words.result.rest) (sym d) ∙ divided ∙ ap (λ s. s.value) c.self.view_is in
    let cast : cast_signed w64 c.divided_words.result.rest ≡ pos c.divided_words.result.rest = omega (arith, ints, small) in
    cast ∙ sym (ap (λ z. int_rem_euclid c.args.self.now.value z) d ∙ rest_is c.args.self.now.value q (nat_abs c.args.divisor) c.divided_words.result.rest is small)
