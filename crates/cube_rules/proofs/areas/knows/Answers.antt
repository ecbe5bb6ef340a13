use Rattle.std.proofs.Common.{ap, sym, ◌∙◌}
use Rattle.std.specs.List.{list_any}
use Rattle.book_rules.specs.Areas.{is_among}
use Rattle.cube_rules.proofs.LiteralLemmas.{knows-roomy}
use Rattle.cube_rules.proofs.areas.knows.Goals as goal

pub returns : goal.returns
returns c =
    c.has_any.ensures
    ∙ ap (list_any (is_among c.args.area.now.lits)) (c.as_slice.ensures.value ∙ c.in_ok-lits.ensures)
    ∙ sym (knows-roomy c.args.area.now c.args.atom.now c.args.lemma.now c.area_has_room.ensures)
