use Rattle.std.proofs.Common.{sym, ◌∙◌}
use Rattle.cube_rules.specs.Views.{lemmas_of}
use Rattle.cube_rules.proofs.AreaLemmas.{area-is, no-cover, no-model, no-variables}
use Rattle.cube_rules.proofs.areas.is_area.Goals as goal

pub returns-then-not-is_on : goal.returns-then-not-is_on
returns-then-not-is_on c = no-variables c.args.clause.now c.args.point.now c.args.atom.now c.args.cube.now (lemmas_of c.args.frames.now.lemmas) c.args.k c.args.area.now (sym c.is_on.ensures ∙ c.if-not-is_on.true)

pub returns-then-not-is_at : goal.returns-then-not-is_at
returns-then-not-is_at c = no-model c.args.clause.now c.args.point.now c.args.atom.now c.args.cube.now (lemmas_of c.args.frames.now.lemmas) c.args.k c.args.area.now (sym c.is_at.ensures ∙ c.if-not-is_at.true)

pub returns-then-not-covers : goal.returns-then-not-covers
returns-then-not-covers c = no-cover c.args.clause.now c.args.point.now c.args.atom.now c.args.cube.now (lemmas_of c.args.frames.now.lemmas) c.args.k c.args.area.now (sym c.covers.ensures ∙ c.if-not-covers.true)

pub returns : goal.returns
returns c = c.in_ok-placed.ensures ∙ area-is c.args.clause.now c.args.point.now c.args.atom.now c.args.cube.now (lemmas_of c.args.frames.now.lemmas) c.args.k c.args.area.now (sym c.is_on.ensures ∙ c.if-not-is_on.false) (sym c.is_at.ensures ∙ c.if-not-is_at.false) (sym c.covers.ensures ∙ c.if-not-covers.false)
