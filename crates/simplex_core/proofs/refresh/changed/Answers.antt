use Rattle.std.proofs.Common.{◌≡◌, ◌<◌, ◌≤◌, ◌+◌, List, ap, sym, ◌∙◌, subst, arith, length, get_or, cond, set, true, false}
use Rattle.std.specs.Prelude.{Bool}
use Rattle.int_rows.specs.Table.{Table, basic_at}
use Rattle.simplex_core.proofs.RefreshLemmas.{AreMarked, length-marked, marked-all, marked-row}
use Rattle.simplex_core.proofs.refresh.changed.Goals as goal

pub loop-row-preserved : goal.loop-row-preserved
loop-row-preserved c =
    let t : Table = c.args.t.now in
    let column = c.args.column in
    let i = c.loop-row.row in
    let made = c.loop-row.made.items in
    let h : i < length t.rows = omega (arith, c.loop-row-test.true, c.rows-row-end.ensures) in
    let within : basic_at t.basic i < length made = omega (arith, c.loop-row.invariant.long, c.table_law.ensures.within i (omega (arith, h, c.table_law.ensures.basics))) in
    let is : c.mark.new.made.items ≡ cond c.has.result (set made (basic_at t.basic i) true) made = c.mark.ensures ∙ ap (λ b. cond c.has.result (set made b true) made) c.basic.ensures in
    record {
      long = ap length is ∙ length-marked made (basic_at t.basic i) c.has.result ∙ c.loop-row.invariant.long;
      marked = subst (λ (ms : List Bool). AreMarked t column ms (i + 1)) (sym is) (marked-row t column i made c.has.result within c.has.ensures c.loop-row.invariant.marked);
    }

pub returns-clause-others : goal.returns-clause-others
returns-clause-others c q h e =
    let t : Table = c.args.t.now in
    let made = c.loop-row.made.items in
    let all : length t.rows ≤ c.loop-row.row = omega (arith, c.loop-row-test.false, c.rows-row-end.ensures) in
    let there : c.args.column < length made = omega (arith, c.loop-row.invariant.long, c.requires.column) in
    marked-all t c.args.column c.loop-row.row q made c.table_law.ensures all there c.loop-row.invariant.marked (ap (λ (ms : List Bool). get_or ms q false) (sym c.mark-2.ensures) ∙ e)
