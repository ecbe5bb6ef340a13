-- What a rule tells of an obligation that is there, so that a function for it can say so.
use Rattle.std.specs.Prelude.{ℕ, ◌-◌, ◌&&◌, nat_lt, Option, Some, None, slice_get, if◌then◌else◌}
use Rattle.clause_form.specs.System.{Clauses}
use Rattle.cube_forms.specs.Cubes.{cube_holds}
use Rattle.book_rules.specs.declared.by.By.{By}
use Rattle.book_rules.specs.declared.by.By.TheVariants.{Clause as ByClause, Obligation as ByObligation, Step as ByStep}
use Rattle.book_rules.specs.FactRules.{concluded}
use Rattle.book_rules.specs.Instances.{body_at, head_at}
use Rattle.book_rules.specs.OpenRules.{atom_of, clause_fits, clause_of, shut_out, tuple_of, unknown}
use Rattle.book_rules.specs.Proofs.{all_may_use}
use Rattle.book_rules.specs.StallRules.{query_fits}
use Rattle.book_rules.specs.State.{Obligation, State, holds}
use Rattle.book_rules.specs.Steps.{FactStep, OpenStep, StallStep}
use Rattle.book_rules.specs.Walks.{first_told, has, on}

-- by rules 2, 3, 4, 5 and 9, of a parent
abbrev pub low_told : OpenStep → Obligation → Option By
low_told o p = if nat_lt p.level 2 then Some (ByObligation o.parent) else None

abbrev pub misfit_told : Clauses → State → OpenStep → Obligation → Option By
misfit_told sys s o p = if has (clause_of sys o) (clause_fits s o p) then None else Some ByStep

abbrev pub unheld_told : Clauses → OpenStep → Obligation → Option By
unheld_told sys o p = if has (clause_of sys o) (λ clause. holds p (head_at o.seen.point clause)) && has (atom_of sys o) (λ atom. cube_holds (tuple_of o atom) o.cube) then None else Some (ByObligation o.parent)

abbrev pub shut_told : Clauses → State → OpenStep → Obligation → Option By
shut_told sys s o p = on (clause_of sys o) (λ clause. first_told (shut_out s.lemmas (p.level - 1)) (body_at o.seen.point clause))

abbrev pub unknown_told : Clauses → State → OpenStep → Obligation → Option By
unknown_told sys s o p = on (clause_of sys o) (λ clause. first_told (unknown s.lemmas (p.level - 1) o) clause.atoms)

-- by rule 23, of the target of that number
abbrev pub unholding_told : Clauses → FactStep → ℕ → Obligation → Option By
unholding_told sys f id o = if holds o (concluded sys f.seen) then None else Some (ByObligation id)

-- by rules 52, 53 and 54, of a target
abbrev pub unfit_told : Clauses → StallStep → Obligation → Option By
unfit_told sys t o = if has (slice_get sys.clauses t.clause) (query_fits t o) then None else Some ByStep

abbrev pub misused_told : Clauses → State → StallStep → Obligation → Option By
misused_told sys s t o = if all_may_use sys s.lemmas (o.level - 1) None t.clause t.used then None else Some (ByClause t.clause)

abbrev pub stalled_told : StallStep → Obligation → Option By
stalled_told t o = if o.stalled then Some (ByObligation t.target) else None
