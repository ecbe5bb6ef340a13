use Rattle.std.proofs.Common.{List, ◌||◌, ◌&&◌, ap, ◌∙◌}
use Rattle.lin_atoms.specs.declared.lit.Lit.{Lit}
use Rattle.book_rules.specs.Areas.{is_wide, point_cube, projected_cube}
use Rattle.book_rules.specs.OpenRules.{has_fact_in, tuple_of}
use Rattle.book_rules.specs.Same.{same_cube}
use Rattle.cube_rules.proofs.Public.{cube-none}
use Rattle.step_rules.specs.Taken.{open_of}
use Rattle.step_rules.specs.Views.{facts_of}
use Rattle.step_rules.proofs.open_step.rules.is_cube.Goals as goal

pub returns-in_ok-is-in-None : goal.returns-in_ok-is-in-None
returns-in_ok-is-in-None c =
    let step = c.args.step.now in
    let atom = c.args.atom.now in
    let projected = projected_cube atom step.area in
    let apart = rw c.in-None.is at c.in_ok-projected_cube.ensures.apart in
    let wide = rw c.in-None.is at c.in_ok-projected_cube.ensures.made in
    c.in_ok-is-in-None.ensures
    ∙ cube-none step.cube projected (point_cube (tuple_of (open_of step) atom)) (has_fact_in (facts_of c.args.parts.now.facts) atom.pred projected) (is_wide projected) c.cube_has_room.ensures apart wide

pub returns-in_ok-is-in-Some : goal.returns-in_ok-is-in-Some
returns-in_ok-is-in-Some c =
    let step = c.args.step.now in
    let atom = c.args.atom.now in
    let facts = facts_of c.args.parts.now.facts in
    let made = rw c.in-Some.is at c.in_ok-projected_cube.ensures.made in
    c.in_ok-is-in-Some.ensures
    ∙ ap (λ (lits : List Lit). same_cube step.cube lits || (same_cube step.cube (point_cube (tuple_of (open_of step) atom)) && (has_fact_in facts atom.pred lits || is_wide lits))) (c.as_slice.ensures.value ∙ made)
