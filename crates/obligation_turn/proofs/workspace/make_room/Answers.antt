use Rattle.std.proofs.Common.{None, sym, subst}
use Rattle.book_rules.specs.Walks.{AllOf}
use Rattle.book_rules.proofs.ListLemmas.{all_of-push}
use Rattle.obligation_turn.specs.Workspaces.{IsSeenOf}
use Rattle.obligation_turn.proofs.workspace.make_room.Goals as goal

pub room-preserved : goal.room-preserved
room-preserved c = λ sys all. subst (AllOf (IsSeenOf sys)) (sym c.in_ok-push.ensures.items) (all_of-push (IsSeenOf sys) c.room.work.kept.items None (c.room.invariant sys all) tt)

pub returns-in_err-push-clause-work : goal.returns-in_err-push-clause-work
returns-in_err-push-clause-work c = λ sys all. subst (AllOf (IsSeenOf sys)) (sym c.in_err-push.ensures.items) (c.room.invariant sys all)
