use Rattle.std.proofs.Common.{ap, sym, ◌∙◌, rules, length, FitsSigned}
use Rattle.std.specs.Prelude.{ℤ, pos}
use Rattle.std.specs.Int.{w128}
use Rattle.std.proofs.lemmas.Int.{to_z-of_z}
use Rattle.int_rows.specs.Table.{basic_at, row_at}
use Rattle.simplex_core.specs.Coordinate.{coordinate}
use Rattle.simplex_core.specs.Run.{is_basic, moment, row_of}
use Rattle.simplex_core.proofs.MomentLemmas.{basic-coordinate, outer-coordinate, values-length}
use Rattle.simplex_core.proofs.place.coordinate_at.Goals as goal

pub row_value-requires-clause-each : goal.row_value-requires-clause-each
row_value-requires-clause-each c = ap length c.requires.known ∙ values-length (moment c.args.t.now c.args.standings.now)

pub row_value-requires-clause-row : goal.row_value-requires-clause-row
row_value-requires-clause-row c = c.row_of.ensures.within (sym (c.requires.legal.basic c.args.column c.requires.column) ∙ ap is_basic c.in-Basic.is)

pub returns-in-Basic : goal.returns-in-Basic
returns-in-Basic c =
    let m = moment c.args.t.now c.args.standings.now in
    c.row_value.ensures
    ∙ ap (λ i. coordinate (row_at c.args.t.now.rows i) c.args.known.now (basic_at c.args.t.now.basic i)) c.row_of.ensures.is
    ∙ ap (λ vs. coordinate (row_at c.args.t.now.rows (row_of c.args.t.now.basic c.args.column)) vs (basic_at c.args.t.now.basic (row_of c.args.t.now.basic c.args.column))) c.requires.known
    ∙ sym (basic-coordinate m c.args.column (ap is_basic c.in-Basic.is))

pub returns-in-AtLower : goal.returns-in-AtLower
returns-in-AtLower c =
    let m = moment c.args.t.now c.args.standings.now in
    let fits : FitsSigned w128 c.stood_at.result = search rules in
    let made = simp to_z-of_z at c.integer.ensures in
    made ∙ ap (λ (z : ℤ). record { num = z; den = pos 1 }) c.stood_at.ensures.is ∙ sym (outer-coordinate m c.args.column (ap is_basic c.in-AtLower.is))

pub returns-in-AtUpper : goal.returns-in-AtUpper
returns-in-AtUpper c =
    let m = moment c.args.t.now c.args.standings.now in
    let fits : FitsSigned w128 c.stood_at-in-AtUpper.result = search rules in
    let made = simp to_z-of_z at c.integer-in-AtUpper.ensures in
    made ∙ ap (λ (z : ℤ). record { num = z; den = pos 1 }) c.stood_at-in-AtUpper.ensures.is ∙ sym (outer-coordinate m c.args.column (ap is_basic c.in-AtUpper.is))

pub returns-in-AtZero : goal.returns-in-AtZero
returns-in-AtZero c =
    let m = moment c.args.t.now c.args.standings.now in
    let fits : FitsSigned w128 c.stood_at-in-AtZero.result = search rules in
    let made = simp to_z-of_z at c.integer-in-AtZero.ensures in
    made ∙ ap (λ (z : ℤ). record { num = z; den = pos 1 }) c.stood_at-in-AtZero.ensures.is ∙ sym (outer-coordinate m c.args.column (ap is_basic c.in-AtZero.is))
