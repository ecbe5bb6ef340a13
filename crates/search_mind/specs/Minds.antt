-- What a worker keeps between its turns: nothing of it has to be believed but that its instances are the system's.
use Rattle.clause_form.specs.System.{Clauses}
use Rattle.obligation_turn.specs.Workspaces.{IsWorkspaceFor}
use Rattle.search_mind.specs.declared.mind.Mind.{Mind}

abbrev pub IsMindFor : Clauses → Mind → Type 0
IsMindFor sys mind = IsWorkspaceFor sys mind.work
