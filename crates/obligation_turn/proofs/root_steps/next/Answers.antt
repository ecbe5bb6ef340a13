use Rattle.std.proofs.Common.{◌<◌, ◌≤◌, subst, arith}
use Rattle.obligation_turn.specs.machinery.Lifts.{IsLifted}
use Rattle.obligation_turn.proofs.FoundLemmas.{above-lent, below-lent, lower-lent, there-lent}
use Rattle.obligation_turn.proofs.root_steps.next.Goals as goal

pub level_of-requires : goal.level_of-requires
level_of-requires c = there-lent _ c.args.lent.now c.args.id c.lent.view_is c.requires.there

pub returns-then-level_of-lent-clause-next : goal.returns-then-level_of-lent-clause-next
returns-then-level_of-lent-clause-next c =
    let high : c.lent.inside.level ≤ c.level_of.result = omega arith in
    above-lent _ c.args.lent.now c.args.nodes c.args.id c.level_of.result c.args.kept.now c.lent.view_is c.requires.there c.level_of.ensures high c.requires.kept

pub lift_of-requires-clause-below : goal.lift_of-requires-clause-below
lift_of-requires-clause-below c =
    let low : c.level_of.result < c.lent.inside.level = omega arith in
    lower-lent _ c.args.lent.now c.args.id c.level_of.result c.lent.view_is c.level_of.ensures low

pub returns-in_ok-push-in-Kept-clause-next : goal.returns-in_ok-push-in-Kept-clause-next
returns-in_ok-push-in-Kept-clause-next c =
    let low : c.level_of.result < c.lent.inside.level = omega arith in
    let one = subst (IsLifted c.args.lent.now c.args.nodes c.args.id) c.in-Kept.is c.in_ok-lifted.ensures.lifted in
    below-lent _ c.args.lent.now c.args.nodes c.args.id c.level_of.result c.args.kept.now c.in-Kept.no_lift _ c.lent.view_is c.requires.there c.level_of.ensures low c.in_ok-push-in-Kept.ensures.ok one c.requires.kept
