use Rattle.std.proofs.Common.{◌≡◌, ◌<◌, ◌+◌, ◌-◌, ap, sym, ◌∙◌, arith, length, map, refl, set, subst}
use Rattle.std.specs.List.{range_with_len}
use Rattle.std.proofs.lemmas.List.FromFn.{length-map-range_with_len}
use Rattle.int_rows.specs.Table.{Table, basic_at, width}
use Rattle.simplex_core.specs.declared.standing.Standing.TheVariants.{Basic}
use Rattle.simplex_core.specs.Standings.{AreStandings}
use Rattle.simplex_core.specs.machinery.Filled.{outer_standing_at, standing_from}
use Rattle.simplex_core.specs.Run.{first_standings}
use Rattle.simplex_core.proofs.FilledLemmas.{filled-more, filled-none, filled-standings}
use Rattle.simplex_core.proofs.MomentLemmas.{first-legal}
use Rattle.simplex_core.proofs.place.first_standings.Goals as goal

pub put-init : goal.put-init
put-init c =
    let t : Table = c.args.t.now in
    record {
      within = omega (arith, c.rows-row.ensures);
      is = c.in_ok-made.ensures ∙ ap (λ n. map (outer_standing_at t) (range_with_len 0 n)) c.requires.columns ∙ filled-none (λ _. Basic) (outer_standing_at t) t.basic c.rows-row.result (width t) (omega (arith, c.rows-row.ensures, c.table_law.ensures.basics));
    }

pub put_basic-requires : goal.put_basic-requires
put_basic-requires c =
    let t : Table = c.args.t.now in
    let within : basic_at t.basic (c.put.row - 1) < width t = c.table_law.ensures.within (c.put.row - 1) (omega (arith, c.put-test.true, c.put.invariant.within, c.table_law.ensures.basics)) in
    omega (arith, c.basic.ensures, within, ap length c.put.invariant.is, length-map-range_with_len (standing_from t c.put.row) 0 (width t))

pub put-preserved : goal.put-preserved
put-preserved c =
    let t : Table = c.args.t.now in
    let less : c.put.row - 1 < length t.basic = omega (arith, c.put-test.true, c.put.invariant.within, c.table_law.ensures.basics) in
    record {
      within = omega (arith, c.put.invariant.within);
      is = c.put_basic.ensures ∙ ap (λ b. set c.put.made.items b Basic) c.basic.ensures
          ∙ filled-more (λ _. Basic) (outer_standing_at t) t.basic (c.put.row - 1) c.put.row (width t) c.put.made.items Basic (omega (arith, c.put-test.true)) less (c.table_law.ensures.within (c.put.row - 1) less) c.put.invariant.is refl;
    }

pub returns-clause-is : goal.returns-clause-is
returns-clause-is c = c.put.invariant.is ∙ filled-standings c.args.t.now c.put.row (omega (arith, c.put-test.false))

pub returns-clause-legal : goal.returns-clause-legal
returns-clause-legal c =
    let is = c.put.invariant.is ∙ filled-standings c.args.t.now c.put.row (omega (arith, c.put-test.false)) in
    subst (AreStandings c.args.t.now) (sym is) (first-legal c.args.t.now (omega (arith, c.requires.columns, c.requires.few)))
