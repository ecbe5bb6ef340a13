use Rattle.farkas_proof.proofs.WalkLemmas.{begins}
use Rattle.farkas_proof.proofs.walk.begin.Goals as goal

pub returns : goal.returns
returns c =
    begins c.form_end.result c.args.form.now c.args.tree c.new-derived.result c.new-work.result.items c.push.new.self.items c.push_literals.new.lits.items c.new-flat.result.items c.nothing-lits.result c.push_all.new.self c.new-cases.result.items c.push_disjunctions.new.cases.items
    c.form_end.ensures.is c.new-derived.ensures.items c.new-work.ensures.items c.in_ok-push.ensures.items c.new-flat.ensures.items c.in_ok-push_literals.ensures c.nothing-lits.ensures c.in_ok-push_all.ensures c.new-cases.ensures.items c.in_ok-push_disjunctions.ensures
