use Rattle.std.proofs.Common.{ap, sym, ◌∙◌}
use Rattle.std.specs.Prelude.{slice_get}
use Rattle.clause_form.specs.System.{Clauses}
use Rattle.clause_index.proofs.PlaceLemmas.{flat-there, placed-at}
use Rattle.clause_index.proofs.indexed.IndexedSystem.guard.Goals as goal

pub new-requires-clause-places : goal.new-requires-clause-places
new-requires-clause-places c =
    placed-at c.self.inside.system.clauses c.self.inside.guards c.args.number c.clause.result.now c.index-as_slice-number.result c.self.invariant.placed c.clause.ensures.is
    c.as_slice.result.now c.as_slice.ensures c.index-as_slice-number.is

pub returns : goal.returns
returns c =
    flat-there c.args.self.now.clauses c.args.number c.clause.result.now c.new.result
    (ap (λ (sys : Clauses). slice_get sys.clauses c.args.number) (sym c.self.view_is) ∙ c.clause.ensures.is) c.new.ensures
