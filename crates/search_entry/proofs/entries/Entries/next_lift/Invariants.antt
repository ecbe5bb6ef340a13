use Rattle.obligation_turn.specs.Workspaces.{IsWorkspaceFor}
use Rattle.search_entry.proofs.entries.Entries.next_lift.Given as goal

-- what is kept stays the system's
abbrev pub invariant-loop-level : goal.invariant-loop-level
invariant-loop-level l = IsWorkspaceFor l.lent.system l.work
