use Rattle.std.proofs.Common.{◌∙◌, ap, arith, sym, subst, Err}
use Rattle.refutation_trees.specs.Refutation.{Finding}
use Rattle.farkas_proof.specs.machinery.Tells.{Tells}
use Rattle.farkas_proof.specs.machinery.Walk.{found, left_to, opened, weights, work_step}
use Rattle.farkas_proof.proofs.WalkLemmas.{leads-err, left_to-push, weights-push}
use Rattle.farkas_proof.proofs.walk.judge.Goals as goal

pub loop-work-preserved : goal.loop-work-preserved
loop-work-preserved c =
    let walk = c.loop-work.walk in
    sym c.in-Ok.ensures.leads ∙ sym (left_to-push walk.end c.pop.new.self.items walk.work.items c.in-Some.work walk.lits (opened walk.cases.items) walk.at c.in-Some.ensures.items) ∙ c.loop-work.invariant

pub returns-in-Err : goal.returns-in-Err
returns-in-Err c =
    let walk = c.loop-work.walk in
    subst (λ (f : Finding). Tells f (Err c.in-Err.stop)) (sym (left_to-push walk.end c.pop.new.self.items walk.work.items c.in-Some.work walk.lits (opened walk.cases.items) walk.at c.in-Some.ensures.items) ∙ c.loop-work.invariant)
    (leads-err (work_step walk.end c.in-Some.work (left_to walk.end c.pop.new.self.items) walk.lits (opened walk.cases.items) walk.at) (found c.turn.new.self) c.in-Err.stop c.in-Err.ensures.leads)

pub loop-work-smaller : goal.loop-work-smaller
loop-work-smaller c =
    omega (arith, c.in-Ok.ensures.less, ap weights c.in-Some.ensures.items, weights-push c.pop.new.self.items c.in-Some.work)
