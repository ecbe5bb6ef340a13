use Rattle.std.proofs.Common.{◌∙◌}
use Rattle.std.proofs.lemmas.List.{take_all}
use Rattle.cube_forms.proofs.held.share_all.Goals as goal

pub returns : goal.returns
returns g c = c.loop-one.invariant ∙ take_all c.loop-one.one-index c.args.held.now c.loop-one-test.false
