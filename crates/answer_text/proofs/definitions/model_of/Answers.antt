use Rattle.std.proofs.Common.{sym, subst, ◌∙◌}
use Rattle.std.specs.Prelude.{Err}
use Rattle.answer_text.specs.declared.stop.AnswerStop.{AnswerStop}
use Rattle.answer_text.specs.Reading.{model_listed}
use Rattle.answer_text.specs.Read.{TellsReply}
use Rattle.answer_text.proofs.DefinitionLemmas.{model_found, model_missing}
use Rattle.answer_text.proofs.definitions.model_of.Goals as goal

pub returns-in-Some : goal.returns-in-Some
returns-in-Some c =
    let all = c.in_default.ensures in
    model_found c.args.text.now c.args.declared.now c.args.start c.args.trees.now c.take_all.new.places.items all.0 c.in-Some.definitions all.1 all.2 (sym c.in_ok-found.ensures ∙ c.in-Some.is)

pub returns-in-None : goal.returns-in-None
returns-in-None c =
    let all = c.in_default.ensures in
    subst (λ (stop : AnswerStop). TellsReply (model_listed c.args.text.now c.args.declared.now c.args.start c.args.trees.now) (Err stop)) (sym c.bad_at.ensures)
    (model_missing c.args.text.now c.args.declared.now c.args.start c.args.trees.now c.take_all.new.places.items all.0 all.1 all.2 (sym c.in_ok-found.ensures ∙ c.in-None.is))
