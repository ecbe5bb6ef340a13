use Rattle.std.proofs.Common.{ap, ap₂, ◌∙◌, true}
use Rattle.std.proofs.lemmas.Result.{IfOk-weaker}
use Rattle.clap.specs.Simple.{App, Shape, app_of_fields, on_top, with_subcommand}
use Rattle.call_words.specs.Command.{check, gen}
use Rattle.call_words.proofs.command.chc.Goals as goal

pub returns : goal.returns
returns c =
    let base = ap app_of_fields c.subcommand_required.ensures
    ∙ ap (on_top (λ (s : Shape). record s { subcommand_required = true })) (ap app_of_fields c.disable_help_subcommand.ensures
    ∙ ap (on_top (λ (s : Shape). record s { disable_help_subcommand = true })) (ap app_of_fields c.disable_help_flag.ensures
    ∙ ap (on_top (λ (s : Shape). record s { disable_help_flag = true })) (ap app_of_fields c.no_binary_name.ensures
    ∙ ap (on_top (λ (s : Shape). record s { no_binary_name = true })) c.new.ensures.app))) in
    let first = c.in_ok-first.ensures.shape c.in_ok-solve.ensures.local
    ∙ ap₂ with_subcommand base (ap (λ (a : App). a.top) c.in_ok-solve.ensures.shape) in
    let second = c.in_ok-second.ensures ∙ ap (λ (a : App). with_subcommand a check) first in
    IfOk-weaker c.with_generate.result _ _ (λ more is. is ∙ ap (λ (a : App). with_subcommand a gen) second) c.with_generate.ensures
