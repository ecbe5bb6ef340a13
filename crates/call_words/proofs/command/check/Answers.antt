use Rattle.std.proofs.Common.{ap, ◌∙◌, codes}
use Rattle.std.proofs.lemmas.Result.{IfOk-weaker}
use Rattle.clap.specs.Simple.{App, with_rule}
use Rattle.call_words.specs.Command.{option}
use Rattle.call_words.proofs.command.check.Goals as goal

pub returns-clause-shape : goal.returns-clause-shape
returns-clause-shape c =
    IfOk-weaker c.with_option.result _ _ (λ more is. is ∙ ap (λ (a : App). with_rule a (option (codes "nodes"))) c.new.ensures.app) c.with_option.ensures.shape

pub returns-clause-local : goal.returns-clause-local
returns-clause-local c =
    IfOk-weaker c.with_option.result _ _ (λ more stays. stays c.new.ensures.local) c.with_option.ensures.local
