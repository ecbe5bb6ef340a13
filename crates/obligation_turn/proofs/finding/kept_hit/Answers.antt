use Rattle.std.proofs.Common.{rules, ◌≡◌, true, sym, subst}
use Rattle.obligation_turn.specs.Workspaces.{IsHitOf}
use Rattle.obligation_turn.proofs.finding.kept_hit.Goals as goal

pub returns-in_ok-seen-in-Some : goal.returns-in_ok-seen-in-Some
returns-in_ok-seen-in-Some c =
    let yes : c.in_ok-hit-in-Some.hit ≡ true = search rules in
    subst (IsHitOf c.args.lent.now c.args.id) (sym c.in_ok-seen-in-Some.ensures) (c.in_ok-hit-in-Some.ensures.0 yes)
