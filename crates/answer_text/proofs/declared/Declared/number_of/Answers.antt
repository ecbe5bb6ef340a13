use Rattle.std.proofs.Common.{sym, ap, ◌∙◌, List}
use Rattle.term_tree.specs.declared.script.Pred.{Pred}
use Rattle.term_check.specs.Spelling.{pred_from}
use Rattle.answer_text.proofs.NameLemmas.{found_there}
use Rattle.answer_text.proofs.declared.Declared.number_of.Goals as goal

pub returns-in-Some-clause-number : goal.returns-in-Some-clause-number
returns-in-Some-clause-number c =
    c.in-Some.ensures.value ∙ c.self.invariant.1 c.args.name.now
    ∙ ap (λ (ps : List Pred). pred_from 0 c.args.name.now ps) c.self.view_is

pub returns-in-Some-clause-within : goal.returns-in-Some-clause-within
returns-in-Some-clause-within c =
    found_there c.args.name.now c.args.self.now c.in-Some.number.now
    (sym (ap (λ (ps : List Pred). pred_from 0 c.args.name.now ps) c.self.view_is) ∙ sym (c.self.invariant.1 c.args.name.now)
    ∙ sym c.in-Some.ensures.value)

pub returns-in-None-clause-number : goal.returns-in-None-clause-number
returns-in-None-clause-number c =
    c.in-None.ensures.value ∙ c.self.invariant.1 c.args.name.now
    ∙ ap (λ (ps : List Pred). pred_from 0 c.args.name.now ps) c.self.view_is
