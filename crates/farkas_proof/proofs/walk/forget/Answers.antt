use Rattle.std.proofs.Common.{List, Some, length, ◌-◌, ap, sym, ◌∙◌}
use Rattle.std.specs.Prelude.{slice_get}
use Rattle.farkas_proof.specs.declared.walk.Work.{Work}
use Rattle.farkas_proof.proofs.WalkLemmas.{forgets, forgets-already}
use Rattle.farkas_proof.proofs.walk.forget.Goals as goal

pub returns-then-least-depth-clause-after : goal.returns-then-least-depth-clause-after
returns-then-least-depth-clause-after c =
    let there = sym (ap (λ (w : Work). Some w) c.in-Some-Forget.field-0-is) ∙ c.in-Some-Forget.ensures.value ∙ ap (λ (ws : List Work). slice_get ws (length ws - 1)) c.deref.ensures.value in
    λ end lits more cases next d. forgets-already end c.args.waiting.now.items lits more cases next c.args.depth c.in-Some-Forget.least there c.if-least-depth.true d

pub returns-clause-after : goal.returns-clause-after
returns-clause-after c = λ end lits more cases next d. forgets end c.args.waiting.now.items c.put.new.waiting.items lits more cases next c.args.depth c.in_ok-put.ensures d
