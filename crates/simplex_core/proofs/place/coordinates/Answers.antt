use Rattle.std.proofs.Common.{◌≡◌, ◌<◌, ◌+◌, ◌-◌, ap, sym, ◌∙◌, arith, length, map, set}
use Rattle.std.specs.List.{range_with_len}
use Rattle.std.proofs.lemmas.List.FromFn.{length-map-range_with_len}
use Rattle.int_rows.specs.Table.{Table, basic_at, row_at, width}
use Rattle.simplex_core.specs.Coordinate.{coordinate}
use Rattle.simplex_core.specs.machinery.Filled.{coordinate_from, integer}
use Rattle.simplex_core.specs.Run.{moment, row_value, stood_at, values}
use Rattle.simplex_core.proofs.FilledLemmas.{filled-coordinates, filled-integers, filled-more}
use Rattle.simplex_core.proofs.MomentLemmas.{values-length}
use Rattle.simplex_core.proofs.place.coordinates.Goals as goal

pub put-init : goal.put-init
put-init c =
    let m = moment c.args.t.now c.args.standings.now in
    record {
      within = omega (arith, c.rows-row.ensures);
      is = c.in_ok-made.ensures ∙ filled-integers m c.rows-row.result c.as_slice-values.result.now (omega (arith, c.rows-row.ensures, c.table_law.ensures.basics)) (c.as_slice-values.ensures.value ∙ c.in_ok-values.ensures.is);
    }

pub row_value-value-requires-clause-each : goal.row_value-value-requires-clause-each
row_value-value-requires-clause-each c = ap length (c.as_slice-values.ensures.value ∙ c.in_ok-values.ensures.is) ∙ values-length (moment c.args.t.now c.args.standings.now)

pub put_coordinate-requires : goal.put_coordinate-requires
put_coordinate-requires c =
    let t : Table = c.args.t.now in
    let m = moment t c.args.standings.now in
    let within : basic_at t.basic (c.put.row - 1) < width t = c.table_law.ensures.within (c.put.row - 1) (omega (arith, c.put-test.true, c.put.invariant.within, c.table_law.ensures.basics)) in
    omega (arith, c.basic.ensures, within, ap length c.put.invariant.is, length-map-range_with_len (coordinate_from m c.put.row) 0 (width t))

pub put-preserved : goal.put-preserved
put-preserved c =
    let t : Table = c.args.t.now in
    let m = moment t c.args.standings.now in
    let i = c.put.row - 1 in
    let less : i < length t.basic = omega (arith, c.put-test.true, c.put.invariant.within, c.table_law.ensures.basics) in
    let value : c.row_value-value.result ≡ row_value m i = c.row_value-value.ensures ∙ ap (λ vs. coordinate (row_at t.rows i) vs (basic_at t.basic i)) (c.as_slice-values.ensures.value ∙ c.in_ok-values.ensures.is) in
    record {
      within = omega (arith, c.put.invariant.within);
      is = c.put_coordinate.ensures ∙ ap (λ b. set c.put.made.items b c.row_value-value.result) c.basic.ensures
          ∙ filled-more (row_value m) (λ k. integer (stood_at m k)) t.basic i c.put.row (width t) c.put.made.items c.row_value-value.result (omega (arith, c.put-test.true)) less (c.table_law.ensures.within i less) c.put.invariant.is value;
    }

pub returns : goal.returns
returns c = c.put.invariant.is ∙ filled-coordinates (moment c.args.t.now c.args.standings.now) c.put.row (omega (arith, c.put-test.false)) c.requires
