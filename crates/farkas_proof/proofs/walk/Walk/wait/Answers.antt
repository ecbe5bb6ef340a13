use Rattle.std.proofs.Common.{ap, ◌∙◌}
use Rattle.farkas_proof.specs.machinery.Walk.{opened, weights}
use Rattle.farkas_proof.specs.declared.walk.Work.TheVariants.{Under}
use Rattle.farkas_proof.proofs.WalkLemmas.{left_to-push, weights-push}
use Rattle.farkas_proof.proofs.walk.Walk.wait.Goals as goal

pub returns-clause-after : goal.returns-clause-after
returns-clause-after c = λ next. left_to-push c.args.self.now.end c.args.self.now.work.items c.push.new.self.items (Under c.args.tree c.args.lit) c.args.self.now.lits (opened c.args.self.now.cases.items) next c.in_ok-push.ensures.items

pub returns-clause-weight : goal.returns-clause-weight
returns-clause-weight c = ap weights c.in_ok-push.ensures.items ∙ weights-push c.args.self.now.work.items (Under c.args.tree c.args.lit)
