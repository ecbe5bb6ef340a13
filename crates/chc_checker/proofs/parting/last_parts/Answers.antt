use Rattle.std.proofs.Common.{◌∙◌, sym, ap}
use Rattle.lin_atoms.specs.declared.form.Form.TheViews.{Or}
use Rattle.chc_checker.proofs.PartLemmas.{last_parts}
use Rattle.chc_checker.proofs.parting.last_parts.Goals as goal

pub returns-in-Or : goal.returns-in-Or
returns-in-Or c = last_parts c.args.form.now c.in_ok-last.last.now c.in-And.all c.in_ok-last.others.now c.as_slice-in-Or.result.now c.in-And.is (sym c.as_slice.ensures ∙ c.in_ok-last.ensures.cases.0) (c.in-Or.is ∙ ap Or (sym c.as_slice-in-Or.ensures))
