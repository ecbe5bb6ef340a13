use Rattle.std.proofs.Common.{ap, ◌∙◌, codes}
use Rattle.std.proofs.lemmas.Result.{IfOk-weaker}
use Rattle.clap.specs.Simple.{App, with_rule}
use Rattle.call_words.specs.Command.{option}
use Rattle.call_words.proofs.command.generate.Goals as goal

pub returns-clause-shape : goal.returns-clause-shape
returns-clause-shape c =
    let depth = c.in_ok-depth.ensures.shape ∙ ap (λ (a : App). with_rule a (option (codes "depth"))) c.new.ensures.app in
    IfOk-weaker c.with_option-2.result _ _ (λ more is. is ∙ ap (λ (a : App). with_rule a (option (codes "seed"))) depth) c.with_option-2.ensures.shape

pub returns-clause-local : goal.returns-clause-local
returns-clause-local c =
    IfOk-weaker c.with_option-2.result _ _ (λ more stays. stays (c.in_ok-depth.ensures.local c.new.ensures.local)) c.with_option-2.ensures.local
