use Rattle.obligation_turn.specs.Workspaces.{IsWorkspaceFor}
use Rattle.obligation_turn.specs.machinery.Lifts.{AreKept}
use Rattle.obligation_turn.proofs.root_steps.root_step.Given as goal

-- as far as it has come
abbrev pub invariant-loop-id : goal.invariant-loop-id
invariant-loop-id l = record {
  kept : AreKept l.lent l.nodes l.id l.kept;
  work : IsWorkspaceFor l.lent.system l.work;
}
