use Rattle.std.proofs.Common.{map, FitsSigned}
use Rattle.std.specs.Prelude.{Some}
use Rattle.std.specs.Int.{w128}
use Rattle.std.proofs.lemmas.Int.{to_z-of_z}
use Rattle.int_rows.proofs.TableLemmas.{fits-some, upper-table, table_of}
use Rattle.int_rows.proofs.tableau.Tableau.set_upper.Goals as goal

pub invariant_of-self : goal.invariant_of-self
invariant_of-self c =
    let t = c.self.inside in
    let bound_fits : FitsSigned w128 c.args.bound = c.ranges.bound in
    let table = table_of t.variables (map (λ r. r.items) t.rows.items) t.basic.items t.lower.items t.upper.items in
    simp to_z-of_z (upper-table table c.args.variable (Some c.args.bound) c.self.invariant (fits-some c.args.bound c.requires.long))
