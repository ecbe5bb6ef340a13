use Rattle.std.proofs.Common.{ap, ◌∙◌, codes}
use Rattle.std.proofs.lemmas.Result.{IfOk-weaker}
use Rattle.clap.specs.Simple.{App, with_rule}
use Rattle.call_words.specs.Command.{option}
use Rattle.call_words.proofs.command.solve.Goals as goal

pub returns-clause-shape : goal.returns-clause-shape
returns-clause-shape c =
    let workers = c.in_ok-workers.ensures.shape ∙ ap (λ (a : App). with_rule a (option (codes "workers"))) c.new.ensures.app in
    let units = c.in_ok-units.ensures.shape ∙ ap (λ (a : App). with_rule a (option (codes "units"))) workers in
    IfOk-weaker c.with_option-3.result _ _ (λ more is. is ∙ ap (λ (a : App). with_rule a (option (codes "nodes"))) units) c.with_option-3.ensures.shape

pub returns-clause-local : goal.returns-clause-local
returns-clause-local c =
    IfOk-weaker c.with_option-3.result _ _ (λ more stays. stays (c.in_ok-units.ensures.local (c.in_ok-workers.ensures.local c.new.ensures.local))) c.with_option-3.ensures.local
