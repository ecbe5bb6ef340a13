use Rattle.chc_checker.proofs.ReplaceLemmas.{same_where}
use Rattle.chc_checker.proofs.linking.rewritten.Goals as goal

pub returns : goal.returns
returns c = same_where c.args.low.now c.args.high.now c.args.form.now c.in_ok-made.made c.in_ok-made.ensures c.requires
