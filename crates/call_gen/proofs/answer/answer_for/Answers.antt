use Rattle.std.proofs.Common.{subst}
use Rattle.term_tree.specs.declared.refusal.Checked.{Checked}
use Rattle.call_gen.specs.Answers.{IsMadeOf}
use Rattle.call_gen.proofs.answer.answer_for.Goals as goal

pub returns : goal.returns
returns c =
    subst (λ (k : Checked). IsMadeOf k c.args.units c.args.nodes c.searched-answer.result) c.in_ok-checked.ensures.is c.searched-answer.ensures
