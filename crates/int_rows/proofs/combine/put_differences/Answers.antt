use Rattle.std.proofs.Common.{◌≡◌, ◌<◌, ◌^◌, arith, sym, ap, ◌∙◌, subst, FitsSigned, rules, List, ℤ, get_or, nat_abs, length, set}
use Rattle.std.specs.Prelude.{pos, ◌-ℤ◌, ◌*ℤ◌}
use Rattle.std.specs.Int.{w64, int_div_euclid}
use Rattle.std.proofs.lemmas.Int.{to_z-of_z}
use Rattle.int_rows.specs.Pivot.{combined, reduced}
use Rattle.int_rows.proofs.CombineLemmas.{length-reduced, other-small, reduced-at, rest-read, rest-written, small-at, written-all}
use Rattle.int_rows.proofs.MadeLemmas.{read-small}
use Rattle.int_rows.proofs.combine.put_differences.Goals as goal

pub put_difference-requires-clause-y : goal.put_difference-requires-clause-y
put_difference-requires-clause-y c =
    let here : c.loop-i.i < length c.args.row.now = omega (arith, c.loop-i-test.true, c.loop-i.auto.row) in
    read-small (get_or c.args.other.now c.loop-i.i (pos 0)) (other-small c.args.row.now c.args.other.now c.loop-i.i (pos 0) here c.requires.same c.requires.other)

pub put_difference-requires-clause-x : goal.put_difference-requires-clause-x
put_difference-requires-clause-x c =
    let q_fits : FitsSigned w64 c.args.q = c.ranges.q in
    let xs : List ℤ = c.args.row.now in
    let ys : List ℤ = c.args.other.now in
    let whole = reduced (pos 1) (combined (pos 1) c.args.q xs ys) in
    let i = c.loop-i.i in
    let here : i < length xs = omega (arith, c.loop-i-test.true, c.loop-i.auto.row) in
    let long = length-reduced (pos 1) (pos 1) c.args.q xs ys c.requires.same in
    let before = simp to_z-of_z at c.loop-i.invariant in
    let old : get_or c.loop-i.row i (pos 0) ≡ get_or xs i (pos 0) = ap (λ (row : List ℤ). get_or row i (pos 0)) before ∙ rest-read whole xs i (pos 0) here long in
    subst (λ z. nat_abs z < 2 ^ 63) (sym old) (small-at xs i (pos 0) here c.requires.row)

pub put_difference-requires-clause-room : goal.put_difference-requires-clause-room
put_difference-requires-clause-room c =
    let q_fits : FitsSigned w64 c.args.q = c.ranges.q in
    let xs : List ℤ = c.args.row.now in
    let ys : List ℤ = c.args.other.now in
    let whole = reduced (pos 1) (combined (pos 1) c.args.q xs ys) in
    let i = c.loop-i.i in
    let here : i < length xs = omega (arith, c.loop-i-test.true, c.loop-i.auto.row) in
    let long = length-reduced (pos 1) (pos 1) c.args.q xs ys c.requires.same in
    let within : i < length whole = omega (arith, here, long) in
    let y_fits : FitsSigned w64 (get_or ys i (pos 0)) = search rules in
    let before = simp to_z-of_z at c.loop-i.invariant in
    let old : get_or c.loop-i.row i (pos 0) ≡ get_or xs i (pos 0) = ap (λ (row : List ℤ). get_or row i (pos 0)) before ∙ rest-read whole xs i (pos 0) here long in
    let is : int_div_euclid (pos 1 *ℤ get_or c.loop-i.row i (pos 0) -ℤ c.args.q *ℤ get_or ys i (pos 0)) (pos 1) ≡ get_or whole i (pos 0) = ap (λ x. int_div_euclid (pos 1 *ℤ x -ℤ c.args.q *ℤ get_or ys i (pos 0)) (pos 1)) old ∙ sym (reduced-at (pos 1) (pos 1) c.args.q xs ys i (pos 0) here c.requires.same) in
    let small = small-at whole i (pos 0) within c.requires.room in
    simp to_z-of_z (subst (λ z. nat_abs z < 2 ^ 63) (sym is) small)

pub loop-i-preserved : goal.loop-i-preserved
loop-i-preserved c =
    let q_fits : FitsSigned w64 c.args.q = c.ranges.q in
    let xs : List ℤ = c.args.row.now in
    let ys : List ℤ = c.args.other.now in
    let whole = reduced (pos 1) (combined (pos 1) c.args.q xs ys) in
    let i = c.loop-i.i in
    let here : i < length xs = omega (arith, c.loop-i-test.true, c.loop-i.auto.row) in
    let long = length-reduced (pos 1) (pos 1) c.args.q xs ys c.requires.same in
    let y_fits : FitsSigned w64 (get_or ys i (pos 0)) = search rules in
    let before = simp to_z-of_z at c.loop-i.invariant in
    let old : get_or c.loop-i.row i (pos 0) ≡ get_or xs i (pos 0) = ap (λ (row : List ℤ). get_or row i (pos 0)) before ∙ rest-read whole xs i (pos 0) here long in
    let value : ℤ = int_div_euclid (pos 1 *ℤ get_or c.loop-i.row i (pos 0) -ℤ c.args.q *ℤ get_or ys i (pos 0)) (pos 1) in
    let is : value ≡ get_or whole i (pos 0) = ap (λ x. int_div_euclid (pos 1 *ℤ x -ℤ c.args.q *ℤ get_or ys i (pos 0)) (pos 1)) old ∙ sym (reduced-at (pos 1) (pos 1) c.args.q xs ys i (pos 0) here c.requires.same) in
    let put : c.put_difference.new.row ≡ set c.loop-i.row i value = simp to_z-of_z at c.put_difference.ensures in
    simp to_z-of_z (put ∙ ap (λ (row : List ℤ). set row i value) before ∙ rest-written whole xs i value (pos 0) here long is)

pub returns : goal.returns
returns c =
    let q_fits : FitsSigned w64 c.args.q = c.ranges.q in
    let xs : List ℤ = c.args.row.now in
    let ys : List ℤ = c.args.other.now in
    let whole = reduced (pos 1) (combined (pos 1) c.args.q xs ys) in
    let before = simp to_z-of_z at c.loop-i.invariant in
    before ∙ written-all whole xs c.loop-i.i (length-reduced (pos 1) (pos 1) c.args.q xs ys c.requires.same) c.loop-i-test.false
