use Rattle.std.proofs.Common.{List, subst}
use Rattle.clause_form.specs.declared.atom.Atom.{Atom}
use Rattle.cube_rules.specs.Views.{lemmas_of}
use Rattle.area_literals.specs.machinery.Growing.{AreFramesGathered}
use Rattle.area_literals.proofs.AreaLemmas.{area-is}
use Rattle.area_literals.proofs.areas.area.Goals as goal

pub returns : goal.returns
returns c =
    area-is c.args.clause.now c.args.cube.now (lemmas_of c.args.frames.now.lemmas) c.args.k c.args.point.now _ c.gather.new.lits.items c.add_cube.new.lits.items c.gather_frames.new.lits.items c.new-lits.ensures.items c.in_ok-gather.ensures c.in_ok-add_cube.ensures
    (subst (λ (atoms : List Atom). AreFramesGathered c.args.point.now c.args.k (lemmas_of c.args.frames.now.lemmas) atoms c.add_cube.new.lits.items c.gather_frames.new.lits.items) c.as_slice.ensures c.in_ok-gather_frames.ensures)
