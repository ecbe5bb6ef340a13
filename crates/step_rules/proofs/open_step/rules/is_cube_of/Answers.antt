use Rattle.std.proofs.Common.{◌||◌, sym, ◌∙◌}
use Rattle.book_rules.specs.Areas.{is_wide, point_cube}
use Rattle.book_rules.specs.OpenRules.{has_fact_in, tuple_of}
use Rattle.book_rules.specs.Same.{same_cube}
use Rattle.step_rules.specs.Taken.{open_of}
use Rattle.step_rules.specs.Views.{facts_of}
use Rattle.step_rules.proofs.CubeLemmas.{neither, the-first, the-second}
use Rattle.step_rules.proofs.open_step.rules.is_cube_of.Goals as goal

pub returns-then-is_same_cube : goal.returns-then-is_same_cube
returns-then-is_same_cube c = the-first (same_cube c.args.step.now.cube c.args.lits.now) _ (sym c.is_same_cube.ensures ∙ c.if-is_same_cube.true)

pub returns-then-not-may_be_point : goal.returns-then-not-may_be_point
returns-then-not-may_be_point c =
    let step = c.args.step.now in
    let atom = c.args.atom.now in
    let lits = c.args.lits.now in
    neither (same_cube step.cube lits) (same_cube step.cube (point_cube (tuple_of (open_of step) atom))) (has_fact_in (facts_of c.args.parts.now.facts) atom.pred lits || is_wide lits) (sym c.is_same_cube.ensures ∙ c.if-is_same_cube.false) (sym c.may_be_point.ensures ∙ c.if-not-may_be_point.true)

pub returns : goal.returns
returns c =
    let step = c.args.step.now in
    let atom = c.args.atom.now in
    let lits = c.args.lits.now in
    c.in_ok-is.ensures ∙ the-second (same_cube step.cube lits) (same_cube step.cube (point_cube (tuple_of (open_of step) atom))) (has_fact_in (facts_of c.args.parts.now.facts) atom.pred lits || is_wide lits) (sym c.is_same_cube.ensures ∙ c.if-is_same_cube.false) (sym c.may_be_point.ensures ∙ c.if-not-may_be_point.false)
