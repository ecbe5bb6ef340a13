use Rattle.std.proofs.Common.{refl, rules}
use Rattle.call_solve.proofs.PlanLemmas.{of_source, of_too_long}
use Rattle.call_solve.proofs.plan.plan_for.Goals as goal

pub returns-in-Ok-clause-plan : goal.returns-in-Ok-clause-plan
returns-in-Ok-clause-plan g c = of_source c.args.limits (g.S.Source.left c.args.source.now) c.in-Ok.read.items c.plan_of.result c.in-Ok.ensures.all c.plan_of.ensures.plan

pub returns-in-Err-TooLong-clause-plan : goal.returns-in-Err-TooLong-clause-plan
returns-in-Err-TooLong-clause-plan g c =
    of_too_long c.args.limits (g.S.Source.left c.args.source.now) (g.S.Source.left c.read_all.new.src) 16777216 c.plan_of_too_long.result refl
    (c.in-Err-TooLong.ensures.too_long (search rules)) (c.plan_of_too_long.ensures.plan c.args.limits) (c.plan_of_too_long.ensures.untold c.args.limits)
