use Rattle.std.proofs.Common.{◌≡◌, ap, sym, ◌∙◌, arith, length, Some, None, position, take}
use Rattle.std.specs.Option.{unwrap_or}
use Rattle.simplex_core.specs.Run.{broken_at, coordinates, has_wide_floor, leave, moment, row_of, wide_floor}
use Rattle.simplex_core.specs.declared.turn.Side.TheVariants.{Lower}
use Rattle.simplex_core.proofs.MomentLemmas.{coordinates-length}
use Rattle.simplex_core.proofs.TurnLemmas.{leaving-basic, settle-none, settle-some, settle-wide}
use Rattle.simplex_core.proofs.bland.settle.Goals as goal

pub wide_floor-requires : goal.wide_floor-requires
wide_floor-requires c = omega (arith, ap length c.requires.values, coordinates-length (moment c.args.t.now c.args.standings.now), c.columns.ensures)

pub broken_at-requires-clause-column : goal.broken_at-requires-clause-column
broken_at-requires-clause-column c = (leaving-basic (moment c.args.t.now c.args.standings.now) c.in-Some.column (sym c.leaving.ensures ∙ c.in-Some.is)).0

pub leave-requires-clause-row : goal.leave-requires-clause-row
leave-requires-clause-row c =
    let found = leaving-basic (moment c.args.t.now c.args.standings.now) c.in-Some.column (sym c.leaving.ensures ∙ c.in-Some.is) in
    c.row_of.ensures.within (sym (c.requires.legal.basic c.in-Some.column found.0) ∙ found.1)

pub returns-in-None-wide_floor : goal.returns-in-None-wide_floor
unfolding wide_floor
returns-in-None-wide_floor c =
    let m = moment c.args.t.now c.args.standings.now in
    let none : position has_wide_floor (take m.table.variables (coordinates m)) ≡ None = ap (λ n. position has_wide_floor (take n (coordinates m))) (sym c.columns.ensures) ∙ ap (λ qs. position has_wide_floor (take c.columns.result qs)) (sym c.requires.values) ∙ sym c.wide_floor.ensures ∙ c.in-None-wide_floor.is in
    sym (settle-none m (sym c.leaving.ensures ∙ c.in-None.is) none)

pub returns-in-Some-wide_floor : goal.returns-in-Some-wide_floor
unfolding wide_floor
returns-in-Some-wide_floor c =
    let m = moment c.args.t.now c.args.standings.now in
    let some : position has_wide_floor (take m.table.variables (coordinates m)) ≡ Some c.in-Some-wide_floor.column = ap (λ n. position has_wide_floor (take n (coordinates m))) (sym c.columns.ensures) ∙ ap (λ qs. position has_wide_floor (take c.columns.result qs)) (sym c.requires.values) ∙ sym c.wide_floor.ensures ∙ c.in-Some-wide_floor.is in
    sym (settle-wide m c.in-Some-wide_floor.column (sym c.leaving.ensures ∙ c.in-None.is) some)

pub returns-in-Some : goal.returns-in-Some
returns-in-Some c =
    let m = moment c.args.t.now c.args.standings.now in
    let side : c.unwrap_or-side.result ≡ unwrap_or (broken_at m c.in-Some.column) Lower = c.unwrap_or-side.ensures ∙ ap (λ o. unwrap_or o Lower) c.broken_at.ensures in
    c.leave.ensures
    ∙ ap (λ i. leave m i c.unwrap_or-side.result) c.row_of.ensures.is
    ∙ ap (leave m (row_of m.table.basic c.in-Some.column)) side
    ∙ sym (settle-some m c.in-Some.column (sym c.leaving.ensures ∙ c.in-Some.is))
