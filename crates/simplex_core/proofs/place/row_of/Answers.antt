use Rattle.std.proofs.Common.{◌≡◌, ◌<◌, ◌≤◌, sym, ◌∙◌, arith, length, true, false, ◌==◌}
use Rattle.std.proofs.lemmas.Bool.{eq-eqb, ne_eqb}
use Rattle.int_rows.specs.Table.{basic_at}
use Rattle.simplex_core.proofs.MomentLemmas.{row_of-end, row_of-here, row_of-more, row_of-within}
use Rattle.simplex_core.proofs.place.row_of.Goals as goal

pub loop-row-preserved : goal.loop-row-preserved
loop-row-preserved c =
    let basic = c.args.t.now.basic in
    let less : c.loop-row.row < length basic = omega (arith, c.table_law.ensures.basics) in
    let test : (basic_at basic c.loop-row.row == c.args.column) ≡ false = ne_eqb _ _ (λ e. c.if-basic-column.false (c.basic.ensures ∙ e)) in
    let more = row_of-more basic c.loop-row.row c.args.column less test in
    omega (arith, c.loop-row.invariant, more)

pub returns-then-basic-column-clause-is : goal.returns-then-basic-column-clause-is
returns-then-basic-column-clause-is c =
    let basic = c.args.t.now.basic in
    let less : c.loop-row.row < length basic = omega (arith, c.table_law.ensures.basics) in
    let test : (basic_at basic c.loop-row.row == c.args.column) ≡ true = eq-eqb _ _ (sym c.basic.ensures ∙ c.if-basic-column.true) in
    let here = row_of-here basic c.loop-row.row c.args.column less test in
    omega (arith, c.loop-row.invariant, here)

pub returns-then-basic-column-clause-within : goal.returns-then-basic-column-clause-within
returns-then-basic-column-clause-within c inside = omega arith

pub returns-clause-is : goal.returns-clause-is
returns-clause-is c =
    let basic = c.args.t.now.basic in
    let past : length basic ≤ c.loop-row.row = omega (arith, c.table_law.ensures.basics) in
    let none = row_of-end basic c.loop-row.row c.args.column past in
    omega (arith, c.loop-row.invariant, none)

pub returns-clause-within : goal.returns-clause-within
returns-clause-within c inside =
    let basic = c.args.t.now.basic in
    let past : length basic ≤ c.loop-row.row = omega (arith, c.table_law.ensures.basics) in
    let none = row_of-end basic c.loop-row.row c.args.column past in
    let within = row_of-within basic c.args.column inside in
    absurd (omega (arith, c.loop-row.invariant, none, within, past))
