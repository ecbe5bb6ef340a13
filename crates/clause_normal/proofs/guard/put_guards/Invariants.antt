use Rattle.std.proofs.Common.{◌≡◌, ◌++◌, map, take, drop}
use Rattle.term_tables.specs.machinery.Table.{constant_in, sort_in}
use Rattle.term_forms.specs.Found.{AreFound}
use Rattle.term_formulas.specs.Written.{naming_by}
use Rattle.clause_normal.specs.machinery.Making.{GuardsHaveRoom, guard_by}
use Rattle.clause_normal.proofs.guard.put_guards.Given as goal

-- the guards so far
abbrev pub invariant-loop-guard : goal.invariant-loop-guard
invariant-loop-guard l = record {
  made : l.out ≡ l.fn.out ++ map (guard_by (constant_in l.tables.constants) (sort_in l.tables.sorts) (naming_by l.names) l.terms.nodes) (take l.guard-index l.guards);
  room : GuardsHaveRoom (constant_in l.tables.constants) (naming_by l.names) l.terms.nodes (drop l.guard-index l.guards);
  known : AreFound (constant_in l.tables.constants) (naming_by l.names) l.terms.nodes l.known;
}
