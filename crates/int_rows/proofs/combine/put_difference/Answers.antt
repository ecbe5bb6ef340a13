use Rattle.std.proofs.Common.{◌≡◌, ap, sym, ◌∙◌, arith, to_z, FitsSigned, List, ℤ, set}
use Rattle.std.specs.Prelude.{pos, ◌-ℤ◌, ◌*ℤ◌}
use Rattle.std.specs.Int.{w64}
use Rattle.std.proofs.lemmas.Int.{ints, to_z-of_z}
use Rattle.std.proofs.lemmas.List.{set-get_or}
use Rattle.int_rows.specs.Rows.{entry}
use Rattle.int_rows.proofs.QuotientLemmas.{over-one}
use Rattle.int_rows.proofs.combine.put_difference.Goals as goal

pub returns-else-y-ne0 : goal.returns-else-y-ne0
returns-else-y-ne0 c =
    let row : List ℤ = c.args.row.now in
    let a = entry row c.args.i in
    let y_fits : FitsSigned w64 c.args.y = c.ranges.y in
    let read = ap (to_z w64) c.if-y-ne0.false in
    let zero : c.args.y ≡ pos 0 = simp to_z-of_z at read in
    let value : pos 1 *ℤ a -ℤ c.args.q *ℤ c.args.y ≡ a = ap (λ y. pos 1 *ℤ a -ℤ c.args.q *ℤ y) zero ∙ omega (arith, ints) in
    sym (ap (set row c.args.i) (over-one (pos 1 *ℤ a -ℤ c.args.q *ℤ c.args.y) ∙ value) ∙ set-get_or row c.args.i (pos 0))
