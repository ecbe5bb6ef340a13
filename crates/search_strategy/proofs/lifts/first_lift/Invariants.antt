use Rattle.std.proofs.Common.{◌≤◌}
use Rattle.std.specs.Prelude.{min}
use Rattle.obligation_turn.specs.Workspaces.{IsWorkspaceFor}
use Rattle.search_strategy.proofs.LiftLemmas.{StayBefore}
use Rattle.search_strategy.proofs.lifts.first_lift.Given as goal

-- what is kept stays the system's, and the lemmas so far stay where they are
abbrev pub invariant-loop-id : goal.invariant-loop-id
invariant-loop-id l = record {
  work : IsWorkspaceFor l.lent.system l.work;
  from : (l.pass).next ≤ l.id;
  before : StayBefore l.lent (min l.nodes 200) l.pass l.id;
}
