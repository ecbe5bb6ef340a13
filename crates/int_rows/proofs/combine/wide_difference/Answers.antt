use Rattle.std.proofs.Common.{◌≡◌, refl, ◌<◌, ◌≤◌, ◌^◌, ◌&&◌, ◌+◌, arith, sym, ap, ◌∙◌, FitsSigned, rules, List, ℤ, get_or, nat_abs, length, drop, true}
use Rattle.std.specs.Prelude.{pos, ◌-ℤ◌, ◌*ℤ◌}
use Rattle.std.specs.Int.{w64, w128, int_div_euclid}
use Rattle.std.proofs.lemmas.Int.{to_z-of_z}
use Rattle.std.proofs.lemmas.List.{get_or_default}
use Rattle.lin_atoms.specs.Linear.{is_short}
use Rattle.int_rows.specs.Pivot.{combined, reduced}
use Rattle.int_rows.specs.Rows.{are_short}
use Rattle.int_rows.proofs.CombineLemmas.{length-reduced, other-small, reduced-at, small-at, small-end, small-more, small-test}
use Rattle.int_rows.proofs.MadeLemmas.{read-small}
use Rattle.int_rows.proofs.combine.wide_difference.Goals as goal

pub wide_at-requires-clause-x : goal.wide_at-requires-clause-x
wide_at-requires-clause-x c = read-small (get_or c.args.row.now c.loop-i.i (pos 0)) (small-at c.args.row.now c.loop-i.i (pos 0) c.loop-i-test.true c.requires.row)

pub wide_at-requires-clause-y : goal.wide_at-requires-clause-y
wide_at-requires-clause-y c = read-small (get_or c.args.other.now c.loop-i.i (pos 0)) (other-small c.args.row.now c.args.other.now c.loop-i.i (pos 0) c.loop-i-test.true c.requires.same c.requires.other)

pub returns-in-Some-clause-some : goal.returns-in-Some-clause-some
returns-in-Some-clause-some c =
    let q_fits : FitsSigned w64 c.args.q = c.ranges.q in
    let xs : List ℤ = c.args.row.now in
    let ys : List ℤ = c.args.other.now in
    let whole = reduced (pos 1) (combined (pos 1) c.args.q xs ys) in
    let i = c.loop-i.i in
    let x_fits : FitsSigned w64 (get_or xs i (pos 0)) = search rules in
    let y_fits : FitsSigned w64 (get_or ys i (pos 0)) = search rules in
    let within : i < length whole = omega (arith, c.loop-i-test.true, length-reduced (pos 1) (pos 1) c.args.q xs ys c.requires.same) in
    let e_fits : FitsSigned w128 c.in-Some.wide = search rules in
    let told = c.in-Some.ensures.some in
    let value = simp to_z-of_z at told.0 in
    let is : get_or whole i (pos 0) ≡ c.in-Some.wide = reduced-at (pos 1) (pos 1) c.args.q xs ys i (pos 0) c.loop-i-test.true c.requires.same ∙ sym value in
    simp to_z-of_z ((i, within, get_or_default whole i c.in-Some.wide (pos 0) within ∙ is), told.1)

pub loop-i-preserved : goal.loop-i-preserved
loop-i-preserved c =
    let q_fits : FitsSigned w64 c.args.q = c.ranges.q in
    let xs : List ℤ = c.args.row.now in
    let ys : List ℤ = c.args.other.now in
    let whole = reduced (pos 1) (combined (pos 1) c.args.q xs ys) in
    let i = c.loop-i.i in
    let x_fits : FitsSigned w64 (get_or xs i (pos 0)) = search rules in
    let y_fits : FitsSigned w64 (get_or ys i (pos 0)) = search rules in
    let within : i < length whole = omega (arith, c.loop-i-test.true, length-reduced (pos 1) (pos 1) c.args.q xs ys c.requires.same) in
    let before = simp to_z-of_z at c.loop-i.invariant in
    let told = c.in_default.ensures.none refl in
    let less : nat_abs (int_div_euclid (pos 1 *ℤ get_or xs i (pos 0) -ℤ c.args.q *ℤ get_or ys i (pos 0)) (pos 1)) < 2 ^ 63 = simp to_z-of_z at told in
    let small : is_short (get_or whole i (pos 0)) ≡ true =
    ap is_short (reduced-at (pos 1) (pos 1) c.args.q xs ys i (pos 0) c.loop-i-test.true c.requires.same)
    ∙ small-test (int_div_euclid (pos 1 *ℤ get_or xs i (pos 0) -ℤ c.args.q *ℤ get_or ys i (pos 0)) (pos 1)) less in
    simp to_z-of_z (sym (small-more whole i (pos 0) within ∙ ap (λ b. b && are_short (drop (i + 1) whole)) small) ∙ before)

pub returns-clause-none : goal.returns-clause-none
returns-clause-none c _ =
    let q_fits : FitsSigned w64 c.args.q = c.ranges.q in
    let xs : List ℤ = c.args.row.now in
    let ys : List ℤ = c.args.other.now in
    let whole = reduced (pos 1) (combined (pos 1) c.args.q xs ys) in
    let before = simp to_z-of_z at c.loop-i.invariant in
    let ended : length whole ≤ c.loop-i.i = omega (arith, c.loop-i-test.false, length-reduced (pos 1) (pos 1) c.args.q xs ys c.requires.same) in
    sym before ∙ small-end whole c.loop-i.i ended
