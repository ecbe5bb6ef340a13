use Rattle.std.proofs.Common.{ap, ◌∙◌}
use Rattle.std.proofs.lemmas.Result.{IfOk-weaker}
use Rattle.clap.specs.Simple.{App, app_of, with_subcommand}
use Rattle.call_words.proofs.command.with_check.Goals as goal

pub returns : goal.returns
returns c =
    IfOk-weaker c.subcommand.result _ _
    (λ more adds. adds.shape c.in_ok-check.ensures.local ∙ ap (with_subcommand (app_of c.args.command)) (ap (λ (a : App). a.top) c.in_ok-check.ensures.shape)) c.subcommand.ensures
