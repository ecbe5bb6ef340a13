use Rattle.std.proofs.Common.{◌≡◌, List, sym, ◌∙◌, subst}
use Rattle.term_tree.specs.declared.definition.Definition.{Definition}
use Rattle.answer_text.specs.declared.answer.Answer.TheVariants.{Sat}
use Rattle.chc_checker.specs.machinery.Reading.{AreFit}
use Rattle.chc_checker.proofs.ReadLemmas.{checkable}
use Rattle.chc_checker.proofs.reading.is_checkable.Goals as goal

same_model : (a b : List Definition) → Sat a ≡ Sat b → a ≡ b
same_model a b e = cc

pub returns-in-Sat : goal.returns-in-Sat
returns-in-Sat c = λ text spells.
    let fit : AreFit c.in-Sat.definitions = subst AreFit c.as_slice.ensures c.are_fit.ensures in
    checkable c.args.script.now c.args.answer.now text (λ definitions e. subst AreFit (same_model c.in-Sat.definitions definitions (sym c.in-Sat.is ∙ e)) fit) spells
