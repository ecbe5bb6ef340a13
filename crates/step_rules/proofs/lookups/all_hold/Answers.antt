use Rattle.std.proofs.Common.{◌∙◌, sym}
use Rattle.step_rules.proofs.CubeLemmas.{shut-plainly}
use Rattle.step_rules.proofs.lookups.all_hold.Goals as goal

pub returns-then-fails_plainly : goal.returns-then-fails_plainly
returns-then-fails_plainly c = shut-plainly c.args.tuple.now c.args.lits.now (sym c.fails_plainly.ensures ∙ c.if-fails_plainly.true)
