use Rattle.std.proofs.Common.{List, [], refl, subst, sym}
use Rattle.chc_checker.specs.declared.verdict.Verdict.{Verdict}
use Rattle.check_input.specs.Texts.{AreSortsFor}
use Rattle.check_input.proofs.text.text_of.Goals as goal

pub returns-in-Valid : goal.returns-in-Valid
returns-in-Valid c = c.plain_text.ensures c.args.script.now (subst (λ (v : Verdict). AreSortsFor c.args.script.now v []) (sym c.in-Valid.is) refl)

pub returns-in-NotShown : goal.returns-in-NotShown
returns-in-NotShown c = c.plain_text-in-NotShown.ensures c.args.script.now (subst (λ (v : Verdict). AreSortsFor c.args.script.now v []) (sym c.in-NotShown.is) refl)
