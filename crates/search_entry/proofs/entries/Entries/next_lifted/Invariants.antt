use Rattle.obligation_turn.specs.Workspaces.{IsWorkspaceFor}
use Rattle.search_entry.proofs.entries.Entries.next_lifted.Given as goal

-- what is kept stays the system's
abbrev pub invariant-loop-at : goal.invariant-loop-at
invariant-loop-at l = IsWorkspaceFor l.lent.system l.work
