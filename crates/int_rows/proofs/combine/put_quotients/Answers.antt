use Rattle.std.proofs.Common.{◌≡◌, ◌<◌, ◌^◌, arith, sym, ap, ◌∙◌, subst, FitsSigned, rules, List, ℤ, get_or, nat_abs, length, set}
use Rattle.std.specs.Prelude.{pos, ◌-ℤ◌, ◌*ℤ◌}
use Rattle.std.specs.Int.{w64, w128, int_div_euclid}
use Rattle.std.proofs.lemmas.Int.{to_z-of_z}
use Rattle.int_rows.specs.Pivot.{combined, reduced}
use Rattle.int_rows.proofs.CombineLemmas.{length-reduced, other-small, reduced-at, rest-read, rest-written, small-at, written-all}
use Rattle.int_rows.proofs.MadeLemmas.{read-small}
use Rattle.int_rows.proofs.combine.put_quotients.Goals as goal

pub quotient-entry-requires-clause-x : goal.quotient-entry-requires-clause-x
quotient-entry-requires-clause-x c =
    let p_fits : FitsSigned w64 c.args.p = c.ranges.p in
    let q_fits : FitsSigned w64 c.args.q = c.ranges.q in
    let d_fits : FitsSigned w128 c.args.divisor = c.ranges.divisor in
    let xs : List ℤ = c.args.row.now in
    let ys : List ℤ = c.args.other.now in
    let whole = reduced c.args.divisor (combined c.args.p c.args.q xs ys) in
    let i = c.loop-i.i in
    let here : i < length xs = omega (arith, c.loop-i-test.true, c.loop-i.auto.row) in
    let long = length-reduced c.args.divisor c.args.p c.args.q xs ys c.requires.same in
    let before = simp to_z-of_z at c.loop-i.invariant in
    let old : get_or c.loop-i.row i (pos 0) ≡ get_or xs i (pos 0) = ap (λ (row : List ℤ). get_or row i (pos 0)) before ∙ rest-read whole xs i (pos 0) here long in
    read-small (get_or c.loop-i.row i (pos 0)) (subst (λ z. nat_abs z < 2 ^ 63) (sym old) (small-at xs i (pos 0) here c.requires.row))

pub quotient-entry-requires-clause-y : goal.quotient-entry-requires-clause-y
quotient-entry-requires-clause-y c =
    let here : c.loop-i.i < length c.args.row.now = omega (arith, c.loop-i-test.true, c.loop-i.auto.row) in
    read-small (get_or c.args.other.now c.loop-i.i (pos 0)) (other-small c.args.row.now c.args.other.now c.loop-i.i (pos 0) here c.requires.same c.requires.other)

pub narrow-requires : goal.narrow-requires
narrow-requires c =
    let p_fits : FitsSigned w64 c.args.p = c.ranges.p in
    let q_fits : FitsSigned w64 c.args.q = c.ranges.q in
    let d_fits : FitsSigned w128 c.args.divisor = c.ranges.divisor in
    let xs : List ℤ = c.args.row.now in
    let ys : List ℤ = c.args.other.now in
    let whole = reduced c.args.divisor (combined c.args.p c.args.q xs ys) in
    let i = c.loop-i.i in
    let here : i < length xs = omega (arith, c.loop-i-test.true, c.loop-i.auto.row) in
    let long = length-reduced c.args.divisor c.args.p c.args.q xs ys c.requires.same in
    let within : i < length whole = omega (arith, here, long) in
    let e_fits : FitsSigned w128 c.quotient-entry.result = search rules in
    let y_fits : FitsSigned w64 (get_or ys i (pos 0)) = search rules in
    let x_fits : FitsSigned w64 (get_or c.loop-i.row i (pos 0)) = search rules in
    let before = simp to_z-of_z at c.loop-i.invariant in
    let value = simp to_z-of_z at c.quotient-entry.ensures in
    let old : get_or c.loop-i.row i (pos 0) ≡ get_or xs i (pos 0) = ap (λ (row : List ℤ). get_or row i (pos 0)) before ∙ rest-read whole xs i (pos 0) here long in
    let is : c.quotient-entry.result ≡ get_or whole i (pos 0) = value ∙ ap (λ x. int_div_euclid (c.args.p *ℤ x -ℤ c.args.q *ℤ get_or ys i (pos 0)) c.args.divisor) old ∙ sym (reduced-at c.args.divisor c.args.p c.args.q xs ys i (pos 0) here c.requires.same) in
    let small = small-at whole i (pos 0) within c.requires.room in
    simp to_z-of_z (subst (λ z. nat_abs z < 2 ^ 63) (sym is) small)

pub loop-i-preserved : goal.loop-i-preserved
loop-i-preserved c =
    let p_fits : FitsSigned w64 c.args.p = c.ranges.p in
    let q_fits : FitsSigned w64 c.args.q = c.ranges.q in
    let d_fits : FitsSigned w128 c.args.divisor = c.ranges.divisor in
    let xs : List ℤ = c.args.row.now in
    let ys : List ℤ = c.args.other.now in
    let whole = reduced c.args.divisor (combined c.args.p c.args.q xs ys) in
    let i = c.loop-i.i in
    let here : i < length xs = omega (arith, c.loop-i-test.true, c.loop-i.auto.row) in
    let long = length-reduced c.args.divisor c.args.p c.args.q xs ys c.requires.same in
    let within : i < length whole = omega (arith, here, long) in
    let e_fits : FitsSigned w128 c.quotient-entry.result = search rules in
    let y_fits : FitsSigned w64 (get_or ys i (pos 0)) = search rules in
    let x_fits : FitsSigned w64 (get_or c.loop-i.row i (pos 0)) = search rules in
    let before = simp to_z-of_z at c.loop-i.invariant in
    let value = simp to_z-of_z at c.quotient-entry.ensures in
    let old : get_or c.loop-i.row i (pos 0) ≡ get_or xs i (pos 0) = ap (λ (row : List ℤ). get_or row i (pos 0)) before ∙ rest-read whole xs i (pos 0) here long in
    let is : c.quotient-entry.result ≡ get_or whole i (pos 0) = value ∙ ap (λ x. int_div_euclid (c.args.p *ℤ x -ℤ c.args.q *ℤ get_or ys i (pos 0)) c.args.divisor) old ∙ sym (reduced-at c.args.divisor c.args.p c.args.q xs ys i (pos 0) here c.requires.same) in
    let n_fits : FitsSigned w64 c.narrow.result = search rules in
    let put = simp to_z-of_z at c.narrow.ensures in
    simp to_z-of_z (ap (λ (row : List ℤ). set row i c.narrow.result) before ∙ rest-written whole xs i c.narrow.result (pos 0) here long (put ∙ is))

pub returns : goal.returns
returns c =
    let p_fits : FitsSigned w64 c.args.p = c.ranges.p in
    let q_fits : FitsSigned w64 c.args.q = c.ranges.q in
    let d_fits : FitsSigned w128 c.args.divisor = c.ranges.divisor in
    let xs : List ℤ = c.args.row.now in
    let ys : List ℤ = c.args.other.now in
    let whole = reduced c.args.divisor (combined c.args.p c.args.q xs ys) in
    let before = simp to_z-of_z at c.loop-i.invariant in
    before ∙ written-all whole xs c.loop-i.i (length-reduced c.args.divisor c.args.p c.args.q xs ys c.requires.same) c.loop-i-test.false
