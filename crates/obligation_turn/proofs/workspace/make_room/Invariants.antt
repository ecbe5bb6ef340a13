use Rattle.std.proofs.Common.{◌+◌, ◌-◌, length}
use Rattle.clause_form.specs.System.{Clauses}
use Rattle.obligation_turn.specs.Workspaces.{IsWorkspaceFor}
use Rattle.obligation_turn.proofs.workspace.make_room.Given as goal

-- it is still for the same systems
abbrev pub invariant-room : goal.invariant-room
invariant-room l = (sys : Clauses) → IsWorkspaceFor sys l.initial.work → IsWorkspaceFor sys l.work

-- the places that aren't there
abbrev pub decreases-room : goal.decreases-room
decreases-room l = l.id + 1 - length (l.work.kept).items
