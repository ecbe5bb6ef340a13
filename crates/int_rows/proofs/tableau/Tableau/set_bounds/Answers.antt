use Rattle.std.proofs.Common.{map, set}
use Rattle.int_rows.proofs.TableLemmas.{lower-table, table_of, upper-table}
use Rattle.int_rows.proofs.tableau.Tableau.set_bounds.Goals as goal

pub invariant_of-self : goal.invariant_of-self
invariant_of-self c =
    let t = c.self.inside in
    let rows = map (λ r. r.items) t.rows.items in
    let old = table_of t.variables rows t.basic.items t.lower.items t.upper.items in
    let between = table_of t.variables rows t.basic.items (set t.lower.items c.args.variable c.args.lower) t.upper.items in
    upper-table between c.args.variable c.args.upper (lower-table old c.args.variable c.args.lower c.self.invariant c.requires.lower) c.requires.upper
