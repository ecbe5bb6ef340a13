use Rattle.std.proofs.Common.{ap, ◌∙◌}
use Rattle.cube_rules.specs.Views.{lemmas_of}
use Rattle.cube_rules.specs.machinery.Literals.{frame_lits}
use Rattle.cube_rules.proofs.AreaLemmas.{placed-none, placed-some}
use Rattle.cube_rules.proofs.areas.are_placed.Goals as goal

pub returns-in-None : goal.returns-in-None
returns-in-None c =
    let wide = rw c.in-None.is at c.in_ok-at_head.ensures in
    placed-none c.args.clause.now c.args.cube.now (lemmas_of c.args.frames.now.lemmas) c.args.k c.args.area.now c.area_has_room.ensures wide

pub returns-in_ok-frame-in-Some : goal.returns-in_ok-frame-in-Some
returns-in_ok-frame-in-Some c =
    let es = lemmas_of c.args.frames.now.lemmas in
    let made = rw c.in-Some.is at c.in_ok-at_head.ensures in
    c.have_places.ensures
    ∙ placed-some c.args.clause.now c.args.cube.now es c.args.k c.args.area.now c.as_slice-heads.result.now c.as_slice-forms.result.now c.area_has_room.ensures
    (c.as_slice-heads.ensures ∙ made)
    (c.as_slice-forms.ensures.value ∙ c.in_ok-frame-in-Some.ensures ∙ ap (frame_lits es c.args.k) c.as_slice-atoms.ensures)
