use Rattle.std.proofs.Common.{arith, ◌∙◌}
use Rattle.std.proofs.lemmas.Grind.{common_steps}
use Rattle.sexp_read.proofs.Steps.{runs, literal_other}
use Rattle.sexp_read.proofs.runs.after_literal.Goals as goal
use Rattle.sexp_read.proofs.runs.after_literal.Goals.{then-text-at-eq34+else-at-text+else-text-at-ne34, else-text-at-eq34}

pub loop-at-preserved : goal.loop-at-preserved
loop-at-preserved c =
    elim c.if-text-at-eq34.branch [
      | then-text-at-eq34+else-at-text+else-text-at-ne34 w ↦ grind (arith, common_steps, runs)
      | else-text-at-eq34 w ↦ record {
        rest = rw w.at-is (literal_other c.args.text.now c.loop-at.at (omega arith) w.if-text-at-eq34.false ∙ c.loop-at.invariant.rest);
        later = omega arith;
        within = omega arith;
      }
    ]
