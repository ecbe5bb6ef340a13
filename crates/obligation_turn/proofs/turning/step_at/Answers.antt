use Rattle.obligation_turn.proofs.OpenedLemmas.{missing-lent, recorded-lent}
use Rattle.obligation_turn.proofs.ReadyLemmas.{few-lent}
use Rattle.obligation_turn.proofs.TurnLemmas.{within-lent}
use Rattle.obligation_turn.proofs.turning.step_at.Goals as goal

pub clause-clause-requires : goal.clause-clause-requires
clause-clause-requires c = within-lent _ c.args.lent.now c.args.job c.args.seen c.clause.result c.lent.view_is c.requires.hit c.clause.ensures

pub premises_at-requires : goal.premises_at-requires
premises_at-requires c = few-lent _ c.args.lent.now c.clause.result c.clause-clause.result.now c.as_slice.result.now c.lent.view_is c.requires.goes_on c.clause-clause.ensures.is c.as_slice.ensures

pub opened-requires-clause-missing : goal.opened-requires-clause-missing
opened-requires-clause-missing c =
    missing-lent _ c.args.lent.now c.clause.result c.args.seen c.clause-clause.result.now c.point.result.now c.as_slice.result.now c.in-Missing.atom c.lent.view_is c.clause.ensures c.clause-clause.ensures.is c.point.ensures c.as_slice.ensures
    (rw c.in-Missing.is at c.in_ok-premises.ensures)

pub returns-in-Recorded : goal.returns-in-Recorded
returns-in-Recorded c =
    λ nodes. recorded-lent _ c.args.lent.now c.args.job nodes c.clause.result c.args.seen c.clause-clause.result.now c.point.result.now c.as_slice.result.now c.in-Recorded.premises c.lent.view_is c.requires.goes_on c.requires.leaf c.requires.hit c.clause.ensures
    c.clause-clause.ensures.is c.point.ensures c.as_slice.ensures (rw c.in-Recorded.is at c.in_ok-premises.ensures)
