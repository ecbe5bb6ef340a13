use Rattle.std.proofs.Common.{◌<◌, ap, sym, subst, ℕ, Err}
use Rattle.std.specs.Prelude.{Result, Ok, IsErrOf}
use Rattle.base.specs.Limits.{most_rows}
use Rattle.int_rows.specs.Node.{all_bounds, end_of_quotients}
use Rattle.int_rows.specs.declared.stop.RowStop.TheVariants.{TooMany}
use Rattle.lia_node.proofs.ColumnLemmas.{length-system}
use Rattle.lia_node.proofs.tableau.node_tableau.Goals as goal

error_or : {T E : Type 0} → Result T E → E → E
error_or (Ok t) d = d
error_or (Err e) d = e

same-error : {T U E : Type 0} (x e : E) → IsErrOf {T = T} (Err x) e → IsErrOf {T = U} (Err x) e
unfolding error_or
same-error x e h = ap Err (ap (λ r. error_or r x) h)

pub returns-in-Err-clause-too_many : goal.returns-in-Err-clause-too_many
returns-in-Err-clause-too_many c e =
    let end = c.args.end in
    let lits = c.args.lits.now in
    subst (λ (n : ℕ). most_rows < n) (sym (length-system (end_of_quotients end lits) (all_bounds end lits))) (c.in-Err.ensures.too_many (same-error c.in-Err.stop TooMany e))
