use Rattle.std.proofs.Common.{◌≡◌, ◌∙◌, ◌<◌, ap, sym, refl, arith, length, map, take, drop, ◌++◌, ◌+◌, List}
use Rattle.std.specs.Prelude.{None, Option, ℤ}
use Rattle.lin_atoms.proofs.Public.{both_true}
use Rattle.int_rows.specs.Table.{Table}
use Rattle.lia_node.specs.machinery.Columns.{first_of, second_of, sides_fit}
use Rattle.lia_node.proofs.ColumnLemmas.{all-at, set-more}
use Rattle.lia_node.proofs.columns.set_all.Goals as goal

pub set_bounds-requires-clause-lower : goal.set_bounds-requires-clause-lower
set_bounds-requires-clause-lower c = (both_true _ _ (all-at sides_fit c.args.sides.now c.loop-column.column (None, None) (omega arith) c.requires.fit)).0

pub set_bounds-requires-clause-upper : goal.set_bounds-requires-clause-upper
set_bounds-requires-clause-upper c = (both_true _ _ (all-at sides_fit c.args.sides.now c.loop-column.column (None, None) (omega arith) c.requires.fit)).1

pub loop-column-preserved : goal.loop-column-preserved
loop-column-preserved c =
    let old = c.args.tableau.now in
    let sides = c.args.sides.now in
    let i = c.loop-column.column in
    let now = c.loop-column.tableau in
    let new = c.set_bounds.new.self in
    let less : i < length sides = omega arith in
    let is = c.loop-column.invariant in
    let lower : new.lower ≡ map first_of (take (i + 1) sides) ++ drop (i + 1) old.lower =
    set-more first_of sides old.lower now.lower new.lower i (None, None) _ less (c.table_law.ensures.lowers ∙ sym c.requires.each) (ap (λ (t : Table). t.lower) is) refl (ap (λ (t : Table). t.lower) c.set_bounds.ensures) in
    let upper : new.upper ≡ map second_of (take (i + 1) sides) ++ drop (i + 1) old.upper =
    set-more second_of sides old.upper now.upper new.upper i (None, None) _ less (c.table_law.ensures.uppers ∙ sym c.requires.each) (ap (λ (t : Table). t.upper) is) refl (ap (λ (t : Table). t.upper) c.set_bounds.ensures) in
    let same : new ≡ record now { lower = new.lower; upper = new.upper } = cc in
    same ∙ ap (λ (t : Table). record t { lower = new.lower; upper = new.upper }) is
    ∙ ap (λ (ls : List (Option ℤ)). record old { lower = ls; upper = new.upper }) lower
    ∙ ap (λ (us : List (Option ℤ)). record old { lower = map first_of (take (i + 1) sides) ++ drop (i + 1) old.lower; upper = us }) upper
