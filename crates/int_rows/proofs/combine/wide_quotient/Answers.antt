use Rattle.std.proofs.Common.{◌≡◌, ◌<◌, ◌≤◌, ◌^◌, ◌&&◌, ◌+◌, arith, sym, ap, ◌∙◌, FitsSigned, rules, List, ℤ, get_or, nat_abs, length, drop, true}
use Rattle.std.specs.Prelude.{pos}
use Rattle.std.specs.Int.{w64, w128}
use Rattle.std.proofs.lemmas.Int.{to_z-of_z}
use Rattle.std.proofs.lemmas.List.{get_or_default}
use Rattle.lin_atoms.specs.Linear.{is_short}
use Rattle.int_rows.specs.Pivot.{combined, reduced}
use Rattle.int_rows.specs.Rows.{are_short}
use Rattle.int_rows.proofs.CombineLemmas.{length-reduced, other-small, reduced-at, small-at, small-end, small-more, small-test}
use Rattle.int_rows.proofs.MadeLemmas.{read-small}
use Rattle.int_rows.proofs.combine.wide_quotient.Goals as goal

pub quotient-entry-requires-clause-x : goal.quotient-entry-requires-clause-x
quotient-entry-requires-clause-x c = read-small (get_or c.args.row.now c.loop-i.i (pos 0)) (small-at c.args.row.now c.loop-i.i (pos 0) c.loop-i-test.true c.requires.row)

pub quotient-entry-requires-clause-y : goal.quotient-entry-requires-clause-y
quotient-entry-requires-clause-y c = read-small (get_or c.args.other.now c.loop-i.i (pos 0)) (other-small c.args.row.now c.args.other.now c.loop-i.i (pos 0) c.loop-i-test.true c.requires.same c.requires.other)

pub returns-then-unsigned_abs-clause-some : goal.returns-then-unsigned_abs-clause-some
returns-then-unsigned_abs-clause-some c =
    let p_fits : FitsSigned w64 c.args.p = c.ranges.p in
    let q_fits : FitsSigned w64 c.args.q = c.ranges.q in
    let d_fits : FitsSigned w128 c.args.divisor = c.ranges.divisor in
    let xs : List ℤ = c.args.row.now in
    let ys : List ℤ = c.args.other.now in
    let whole = reduced c.args.divisor (combined c.args.p c.args.q xs ys) in
    let i = c.loop-i.i in
    let x_fits : FitsSigned w64 (get_or xs i (pos 0)) = search rules in
    let y_fits : FitsSigned w64 (get_or ys i (pos 0)) = search rules in
    let e_fits : FitsSigned w128 c.quotient-entry.result = search rules in
    let value = simp to_z-of_z at c.quotient-entry.ensures in
    let size = simp to_z-of_z at c.unsigned_abs.ensures.value in
    let within : i < length whole = omega (arith, c.loop-i-test.true, length-reduced c.args.divisor c.args.p c.args.q xs ys c.requires.same) in
    let wide : 2 ^ 63 ≤ nat_abs c.quotient-entry.result = omega (arith, size, c.if-unsigned_abs.true) in
    let is : get_or whole i (pos 0) ≡ c.quotient-entry.result = reduced-at c.args.divisor c.args.p c.args.q xs ys i (pos 0) c.loop-i-test.true c.requires.same ∙ sym value in
    simp to_z-of_z ((i, within, get_or_default whole i c.quotient-entry.result (pos 0) within ∙ is), wide)

pub loop-i-preserved : goal.loop-i-preserved
loop-i-preserved c =
    let p_fits : FitsSigned w64 c.args.p = c.ranges.p in
    let q_fits : FitsSigned w64 c.args.q = c.ranges.q in
    let d_fits : FitsSigned w128 c.args.divisor = c.ranges.divisor in
    let xs : List ℤ = c.args.row.now in
    let ys : List ℤ = c.args.other.now in
    let whole = reduced c.args.divisor (combined c.args.p c.args.q xs ys) in
    let i = c.loop-i.i in
    let x_fits : FitsSigned w64 (get_or xs i (pos 0)) = search rules in
    let y_fits : FitsSigned w64 (get_or ys i (pos 0)) = search rules in
    let e_fits : FitsSigned w128 c.quotient-entry.result = search rules in
    let value = simp to_z-of_z at c.quotient-entry.ensures in
    let size = simp to_z-of_z at c.unsigned_abs.ensures.value in
    let before = simp to_z-of_z at c.loop-i.invariant in
    let within : i < length whole = omega (arith, c.loop-i-test.true, length-reduced c.args.divisor c.args.p c.args.q xs ys c.requires.same) in
    let is : get_or whole i (pos 0) ≡ c.quotient-entry.result = reduced-at c.args.divisor c.args.p c.args.q xs ys i (pos 0) c.loop-i-test.true c.requires.same ∙ sym value in
    let less : nat_abs c.quotient-entry.result < 2 ^ 63 = omega (arith, size, c.if-unsigned_abs.false) in
    let small : is_short (get_or whole i (pos 0)) ≡ true = ap is_short is ∙ small-test c.quotient-entry.result less in
    simp to_z-of_z (sym (small-more whole i (pos 0) within ∙ ap (λ b. b && are_short (drop (i + 1) whole)) small) ∙ before)

pub returns-clause-none : goal.returns-clause-none
returns-clause-none c _ =
    let p_fits : FitsSigned w64 c.args.p = c.ranges.p in
    let q_fits : FitsSigned w64 c.args.q = c.ranges.q in
    let d_fits : FitsSigned w128 c.args.divisor = c.ranges.divisor in
    let xs : List ℤ = c.args.row.now in
    let ys : List ℤ = c.args.other.now in
    let whole = reduced c.args.divisor (combined c.args.p c.args.q xs ys) in
    let before = simp to_z-of_z at c.loop-i.invariant in
    let ended : length whole ≤ c.loop-i.i = omega (arith, c.loop-i-test.false, length-reduced c.args.divisor c.args.p c.args.q xs ys c.requires.same) in
    sym before ∙ small-end whole c.loop-i.i ended
