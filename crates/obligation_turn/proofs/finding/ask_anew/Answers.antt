use Rattle.std.proofs.Common.{◌≡◌, true, sym, subst}
use Rattle.chc_tokens.specs.Tokens.{is_seen}
use Rattle.chc_tokens.specs.declared.seeing.Seen.{Seen}
use Rattle.obligation_turn.specs.Workspaces.{IsFoundOf}
use Rattle.obligation_turn.proofs.MemoLemmas.{found-seen}
use Rattle.obligation_turn.proofs.finding.ask_anew.Goals as goal

pub keep-requires-clause-seen : goal.keep-requires-clause-seen
keep-requires-clause-seen c =
    subst (λ (x : Seen). is_seen c.args.lent.now.system x ≡ true) (sym c.in_ok-copy-in-Instance.ensures)
    (found-seen c.args.lent.now c.args.nodes c.args.id c.in_ok-found.found c.in-Instance.seen c.in-Instance.is c.in_ok-found.ensures)

pub returns-in_ok-keep-in-Instance-clause-found : goal.returns-in_ok-keep-in-Instance-clause-found
returns-in_ok-keep-in-Instance-clause-found c = subst (IsFoundOf c.args.lent.now c.args.nodes c.args.id) c.in-Instance.is c.in_ok-found.ensures
