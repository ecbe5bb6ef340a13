use Rattle.std.proofs.Common.{List, sym, subst}
use Rattle.std.specs.Prelude.{IfOk}
use Rattle.answer_text.specs.declared.answer.Answer.{Answer}
use Rattle.answer_text.specs.declared.answer.Answer.TheVariants.{Unsat}
use Rattle.answer_text.specs.declared.answer.Line.{Line}
use Rattle.chc_checker.specs.Verdicts.{Says}
use Rattle.chc_checker.proofs.whole.check_answer.Goals as goal

pub returns-in-Unsat : goal.returns-in-Unsat
returns-in-Unsat c =
    let nodes = c.args.nodes in
    let script = c.args.script.now in
    subst (λ (a : Answer). IfOk c.check_steps.result (Says nodes script a)) (sym c.in-Unsat.is)
    (subst (λ (ls : List Line). IfOk c.check_steps.result (Says nodes script (Unsat ls))) c.as_slice-in-Unsat.ensures (c.check_steps.ensures nodes))
