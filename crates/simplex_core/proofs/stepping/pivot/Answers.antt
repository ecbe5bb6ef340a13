use Rattle.std.proofs.Common.{◌≡◌, ◌<◌, ap, sym, ◌∙◌, rules, subst, arith, List, length, get_or, false, FitsSigned}
use Rattle.std.specs.Int.{w128}
use Rattle.std.proofs.lemmas.Int.{to_z-of_z}
use Rattle.std.specs.Prelude.{Bool}
use Rattle.lin_atoms.specs.Ratio.{Fraction}
use Rattle.int_rows.specs.Table.{Table, basic_at, width}
use Rattle.simplex_core.specs.Answer.{basis}
use Rattle.simplex_core.specs.Standings.{AreStandings}
use Rattle.simplex_core.specs.machinery.Refresh.{changes}
use Rattle.simplex_core.specs.Run.{after_pivot, columns, coordinate_at, crossed, moment, restood, values}
use Rattle.simplex_core.specs.declared.standing.Standing.{Standing}
use Rattle.simplex_core.proofs.GoodLemmas.{pivots-row, restood-legal}
use Rattle.simplex_core.proofs.MomentLemmas.{coordinates-at, coordinates-length}
use Rattle.simplex_core.proofs.RefreshLemmas.{coordinate-same, crossed-kept, values-kept, width-kept}
use Rattle.simplex_core.proofs.TurnLemmas.{next-wide, turn-pivots, wide-list}
use Rattle.simplex_core.proofs.stepping.pivot.Goals as goal

pub basic-leaver-requires : goal.basic-leaver-requires
basic-leaver-requires c = (pivots-row (moment c.args.t.now c.args.standings.now) c.args.row c.args.column c.args.side c.table_law.ensures c.requires.legal c.requires.turn).row.within

pub changed-requires-clause-column : goal.changed-requires-clause-column
changed-requires-clause-column c = (pivots-row (moment c.args.t.now c.args.standings.now) c.args.row c.args.column c.args.side c.table_law.ensures c.requires.legal c.requires.turn).within

pub restand-requires-clause-leaver : goal.restand-requires-clause-leaver
restand-requires-clause-leaver c =
    subst (λ k. k < width c.args.t.now) (sym c.basic-leaver.ensures) (pivots-row (moment c.args.t.now c.args.standings.now) c.args.row c.args.column c.args.side c.table_law.ensures c.requires.legal c.requires.turn).row.column

pub restand-requires-clause-enterer : goal.restand-requires-clause-enterer
restand-requires-clause-enterer c = (pivots-row (moment c.args.t.now c.args.standings.now) c.args.row c.args.column c.args.side c.table_law.ensures c.requires.legal c.requires.turn).within

pub pivot-requires-clause-row : goal.pivot-requires-clause-row
pivot-requires-clause-row c = (pivots-row (moment c.args.t.now c.args.standings.now) c.args.row c.args.column c.args.side c.table_law.ensures c.requires.legal c.requires.turn).row.within

pub pivot-requires-clause-column : goal.pivot-requires-clause-column
pivot-requires-clause-column c = (pivots-row (moment c.args.t.now c.args.standings.now) c.args.row c.args.column c.args.side c.table_law.ensures c.requires.legal c.requires.turn).within

pub pivot-requires-clause-entry : goal.pivot-requires-clause-entry
pivot-requires-clause-entry c = (pivots-row (moment c.args.t.now c.args.standings.now) c.args.row c.args.column c.args.side c.table_law.ensures c.requires.legal c.requires.turn).some

pub refresh-requires-clause-legal : goal.refresh-requires-clause-legal
refresh-requires-clause-legal c =
    let t : Table = c.args.t.now in
    let m = moment t c.args.standings.now in
    let p = pivots-row m c.args.row c.args.column c.args.side c.table_law.ensures c.requires.legal c.requires.turn in
    let stands : c.restand.new.standings ≡ restood t c.args.standings.now (basic_at t.basic c.args.row) c.args.column c.args.side =
    c.restand.ensures ∙ ap (λ l. restood t c.args.standings.now l c.args.column c.args.side) c.basic-leaver.ensures in
    let made : Table = c.pivot.new.self in
    let tables : made ≡ after_pivot t c.args.row c.args.column = c.in-Ok.ensures.pivoted in
    subst (λ (t' : Table). AreStandings t' c.restand.new.standings) (sym tables)
    (subst (λ (s : List Standing). AreStandings (after_pivot t c.args.row c.args.column) s) (sym stands) (restood-legal m c.args.row c.args.column c.args.side c.table_law.ensures c.requires.legal p))

pub refresh-requires-clause-known : goal.refresh-requires-clause-known
refresh-requires-clause-known c =
    let t : Table = c.args.t.now in
    let made : Table = c.pivot.new.self in
    let tables : made ≡ after_pivot t c.args.row c.args.column = c.in-Ok.ensures.pivoted in
    c.as_slice-known.ensures.value ∙ c.in_ok-known.ensures.is ∙ sym (values-kept t c.restand.new.standings c.args.row c.args.column) ∙ ap (λ (t' : Table). values (moment t' c.restand.new.standings)) (sym tables)

pub refresh-requires-clause-marks : goal.refresh-requires-clause-marks
refresh-requires-clause-marks c =
    let t : Table = c.args.t.now in
    let made : Table = c.pivot.new.self in
    let tables : made ≡ after_pivot t c.args.row c.args.column = c.in-Ok.ensures.pivoted in
    ap length c.as_slice-in-Ok.ensures.value ∙ c.in_ok-marks.ensures.long
    ∙ sym (width-kept t c.args.row c.args.column) ∙ ap width (sym tables)

pub refresh-requires-clause-each : goal.refresh-requires-clause-each
refresh-requires-clause-each c =
    let t : Table = c.args.t.now in
    let made : Table = c.pivot.new.self in
    let tables : made ≡ after_pivot t c.args.row c.args.column = c.in-Ok.ensures.pivoted in
    ap length c.requires.kept ∙ coordinates-length (moment t c.args.standings.now) ∙ sym (width-kept t c.args.row c.args.column) ∙ ap width (sym tables)

pub refresh-requires-clause-others : goal.refresh-requires-clause-others
refresh-requires-clause-others c q d h mark =
    let t : Table = c.args.t.now in
    let s = c.args.standings.now in
    let m = moment t s in
    let p = pivots-row m c.args.row c.args.column c.args.side c.table_law.ensures c.requires.legal c.requires.turn in
    let stands : c.restand.new.standings ≡ restood t s (basic_at t.basic c.args.row) c.args.column c.args.side =
    c.restand.ensures ∙ ap (λ l. restood t s l c.args.column c.args.side) c.basic-leaver.ensures in
    let made : Table = c.pivot.new.self in
    let tables : made ≡ after_pivot t c.args.row c.args.column = c.in-Ok.ensures.pivoted in
    let within : q < width t = omega (arith, h, ap width tables, width-kept t c.args.row c.args.column) in
    let told : changes t c.args.column q ≡ false = c.in_ok-marks.ensures.others q within (ap (λ (ms : List Bool). get_or ms q false) (sym c.as_slice-in-Ok.ensures.value) ∙ mark) in
    let same = coordinate-same t s c.args.row c.args.column q c.args.side (record { table = c.table_law.ensures; legal = c.requires.legal; pivots = p; within = within; same = told }) in
    ap (λ (qs : List Fraction). get_or qs q d) c.requires.kept ∙ coordinates-at m q d within ∙ sym same
    ∙ ap (λ (s' : List Standing). coordinate_at (moment (after_pivot t c.args.row c.args.column) s') q) (sym stands)
    ∙ ap (λ (t' : Table). coordinate_at (moment t' c.restand.new.standings) q) (sym tables)

pub returns-clause-steps : goal.returns-clause-steps
returns-clause-steps c =
    let t : Table = c.args.t.now in
    let m = moment t c.args.standings.now in
    let fits : FitsSigned w128 c.in-Err.wide.entry = search rules in
    let wide = c.in-Err.ensures.wide in
    let same : c.pivot.new.self ≡ t = c.in-Err.ensures.unchanged in
    let stands : c.restand.new.standings ≡ restood t c.args.standings.now (basic_at t.basic c.args.row) c.args.column c.args.side =
    c.restand.ensures ∙ ap (λ l. restood t c.args.standings.now l c.args.column c.args.side) c.basic-leaver.ensures in
    ((c.args.row, c.args.column, c.args.side, c.in-Err.wide.row, next-wide m c.args.row c.args.column c.args.side c.requires.turn (wide-list _ c.in-Err.wide.row c.in-Err.wide.entry wide), c.in_ok-basis-in-Err.ensures ∙ ap (λ (t' : Table). basis (columns t') c.restand.new.standings) same ∙ ap (λ (s : List Standing). basis (columns t) s) stands, simp to_z-of_z wide), same)

pub returns-in-Ok-clause-ordered : goal.returns-in-Ok-clause-ordered
returns-in-Ok-clause-ordered c _ =
    let t : Table = c.args.t.now in
    let made : Table = c.pivot.new.self in
    let tables : made ≡ after_pivot t c.args.row c.args.column = c.in-Ok.ensures.pivoted in
    ap crossed tables ∙ crossed-kept t c.args.row c.args.column ∙ (turn-pivots (moment t c.args.standings.now) c.args.row c.args.column c.args.side c.requires.turn).ordered
