use Rattle.step_rules.specs.Views.{facts_of}
use Rattle.obligation_turn.proofs.OpenedLemmas.{cube-short}
use Rattle.obligation_turn.proofs.opening.new_cube.Goals as goal

pub kept-requires : goal.kept-requires
kept-requires c = cube-short (facts_of c.args.facts.now) c.args.atom.now c.args.area.now c.args.point.now c.in_ok-lits.lits.items c.requires.short c.requires.values c.in_ok-lits.ensures
