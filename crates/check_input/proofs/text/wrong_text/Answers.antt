use Rattle.std.proofs.Common.{◌≡◌, ◌∙◌, [], ap, refl, subst, sym}
use Rattle.chc_checker.specs.declared.verdict.Place.TheVariants.{Byte, Step, Instance}
use Rattle.chc_checker.specs.declared.verdict.Verdict.{Verdict}
use Rattle.chc_checker.specs.declared.verdict.Verdict.TheVariants.{Wrong}
use Rattle.chc_checker.specs.Verdicts.{Judges}
use Rattle.check_input.specs.Texts.{AreSortsFor}
use Rattle.check_input.proofs.TextLemmas.{instance_there}
use Rattle.check_input.proofs.text.wrong_text.Goals as goal

pub instance_text-requires-clause-there : goal.instance_text-requires-clause-there
instance_text-requires-clause-there c =
    let told = c.requires.judges in
    let is : c.args.verdict.now ≡ Wrong (Instance c.in-Instance.assertion c.in-Instance.values) = c.requires.is ∙ ap Wrong c.in-Instance.is in
    instance_there told.0 c.args.script.now told.1 c.in-Instance.assertion c.in-Instance.values (subst (λ (v : Verdict). Judges told.0 c.args.script.now told.1 v) is told.2)

pub returns-in-Byte : goal.returns-in-Byte
returns-in-Byte c =
    let is : c.args.verdict.now ≡ Wrong (Byte c.in-Byte.offset) = c.requires.is ∙ ap Wrong c.in-Byte.is in
    c.plain_text.ensures c.args.script.now (subst (λ (v : Verdict). AreSortsFor c.args.script.now v []) (sym is) refl)

pub returns-in-Step : goal.returns-in-Step
returns-in-Step c =
    let is : c.args.verdict.now ≡ Wrong (Step c.in-Step.number) = c.requires.is ∙ ap Wrong c.in-Step.is in
    c.plain_text-in-Step.ensures c.args.script.now (subst (λ (v : Verdict). AreSortsFor c.args.script.now v []) (sym is) refl)

pub returns-in-Instance : goal.returns-in-Instance
returns-in-Instance c =
    let is : c.args.verdict.now ≡ Wrong (Instance c.in-Instance.assertion c.in-Instance.values) = c.requires.is ∙ ap Wrong c.in-Instance.is in
    c.instance_text.ensures (λ sorts are. subst (λ (v : Verdict). AreSortsFor c.args.script.now v sorts) (sym is) are)
