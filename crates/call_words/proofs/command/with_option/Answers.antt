use Rattle.std.proofs.Common.{ap, ap₂, ◌∙◌, ◌||◌, Bool}
use Rattle.std.proofs.lemmas.Result.{IfOk-weaker}
use Rattle.clap.specs.Simple.{app_of, with_rule}
use Rattle.call_words.proofs.command.with_option.Goals as goal

pub returns-clause-shape : goal.returns-clause-shape
returns-clause-shape c =
    IfOk-weaker c.arg.result _ _ (λ more adds. adds.shape c.option.ensures.local ∙ ap (with_rule (app_of c.args.command)) c.option.ensures.rule) c.arg.ensures

pub returns-clause-local : goal.returns-clause-local
returns-clause-local c =
    IfOk-weaker c.arg.result _ _ (λ more adds none. adds.globals ∙ ap₂ (λ (a b : Bool). a || b) none c.option.ensures.local) c.arg.ensures
