use Rattle.std.proofs.Common.{◌≡◌, ◌+◌, ◌*◌, ◌^◌, ◌≤◌, ap, rules, sym, ◌∙◌, FitsSigned}
use Rattle.std.specs.Prelude.{pos, ◌+ℤ◌, ◌*ℤ◌, nat_abs}
use Rattle.std.specs.Int.{w64, w128}
use Rattle.std.proofs.lemmas.Int.{to_z-of_z}
use Rattle.lin_atoms.proofs.DivisionLemmas.{few-fit, long_division, no-more, positive, with-borrow}
use Rattle.lin_atoms.proofs.words.divided_words.Goals as goal

pub returns-clause-value : goal.returns-clause-value
returns-clause-value c =
    let high_fits : FitsSigned w64 c.args.high = c.ranges.high in
    let low_fits : FitsSigned w128 c.args.low = c.ranges.low in
    let d_fits : FitsSigned w64 c.args.divisor = c.ranges.divisor in
    let b_fits : FitsSigned w64 c.digits-borrow.result.0 = search rules in
    let t_fits : FitsSigned w64 c.halves-high.result.0 = search rules in
    let sum : nat_abs (c.args.high +ℤ c.digits-borrow.result.0) ≤ 2 ^ 32 + 1 = with-borrow c.args.high c.digits-borrow.result.0 c.requires.room c.digits-borrow.ensures.borrow in
    let sum_fits : FitsSigned w64 (c.args.high +ℤ c.digits-borrow.result.0) = few-fit (c.args.high +ℤ c.digits-borrow.result.0) sum in
    let d : c.args.divisor ≡ pos (nat_abs c.args.divisor) = positive c.args.divisor c.requires.positive in
    let size = simp to_z-of_z at c.unsigned_abs-size.ensures.value in
    let digits = simp to_z-of_z at c.digits-borrow.ensures.value in
    let halved = simp to_z-of_z at c.halves-high.ensures.value in
    let same : c.args.divisor ≡ pos c.unsigned_abs-size.result = d ∙ ap pos (sym size) in
    let top : c.halves-high.result.0 *ℤ pos c.unsigned_abs-size.result +ℤ pos c.halves-high.result.1 ≡ c.args.high +ℤ c.digits-borrow.result.0 = ap (λ z. c.halves-high.result.0 *ℤ z +ℤ pos c.halves-high.result.1) (sym same) ∙ halved in
    let all = long_division c.args.high c.args.low c.digits-borrow.result.0 c.halves-high.result.0 c.digits-borrow.result.1 c.digits-borrow.result.2 c.divided-first.result.0 c.divided-second.result.0 c.halves-high.result.1 c.divided-first.result.1 c.divided-second.result.1 c.unsigned_abs-size.result
    digits top c.divided-first.ensures.value c.divided-second.ensures.value in
    simp to_z-of_z (ap (λ z. (c.halves-high.result.0 *ℤ pos (2 ^ 128) +ℤ pos (c.divided-first.result.0 * 2 ^ 64 + c.divided-second.result.0)) *ℤ z +ℤ pos c.divided-second.result.1) same ∙ all)

pub returns-clause-small : goal.returns-clause-small
returns-clause-small c =
    let high_fits : FitsSigned w64 c.args.high = c.ranges.high in
    let b_fits : FitsSigned w64 c.digits-borrow.result.0 = search rules in
    let t_fits : FitsSigned w64 c.halves-high.result.0 = search rules in
    let sum : nat_abs (c.args.high +ℤ c.digits-borrow.result.0) ≤ 2 ^ 32 + 1 = with-borrow c.args.high c.digits-borrow.result.0 c.requires.room c.digits-borrow.ensures.borrow in
    let sum_fits : FitsSigned w64 (c.args.high +ℤ c.digits-borrow.result.0) = few-fit (c.args.high +ℤ c.digits-borrow.result.0) sum in
    let less : nat_abs c.halves-high.result.0 ≤ nat_abs (c.args.high +ℤ c.digits-borrow.result.0) = simp to_z-of_z at c.halves-high.ensures.small in
    let small : nat_abs c.halves-high.result.0 ≤ 2 ^ 32 + 1 = no-more (nat_abs c.halves-high.result.0) (nat_abs (c.args.high +ℤ c.digits-borrow.result.0)) less sum in
    simp to_z-of_z small
