use Rattle.std.proofs.Common.{List, ap, ◌∙◌, subst}
use Rattle.std.specs.Prelude.{Option, IfSome}
use Rattle.lin_atoms.specs.declared.lit.Lit.{Lit}
use Rattle.step_rules.specs.declared.lemma_step.part.LemmaPart.{LemmaPart}
use Rattle.search_learn.proofs.TriedLemmas.{widened-by}
use Rattle.search_learn.proofs.widening.try_move.Goals as goal
use Rattle.lemma_general.specs.Tries.{IsWiderCube}

pub returns-in_ok-taken-in-Some : goal.returns-in_ok-taken-in-Some
returns-in_ok-taken-in-Some c =
    let wider : IsWiderCube c.cube.result.now c.in-Some.cube = subst (λ (o : Option (List Lit)). IfSome o (IsWiderCube c.cube.result.now)) c.in-Some.is c.in_ok-cube.ensures in
    widened-by c.args.lent.now c.args.nodes c.in-Some.cube c.args.tries.now c.try_cube.new.self c.in_ok-taken-in-Some.taken (subst (λ (lits : List Lit). IsWiderCube lits c.in-Some.cube) (c.cube.ensures ∙ ap (λ (p : LemmaPart). p.lemma) c.part.ensures) wider) c.in_ok-taken-in-Some.ensures.trying c.in_ok-taken-in-Some.ensures.tried
