use Rattle.std.proofs.Common.{◌≡◌, false, ap, sym, ◌∙◌}
use Rattle.std.specs.Prelude.{Err}
use Rattle.lin_atoms.specs.Denial.{lit_fits}
use Rattle.cube_rules.proofs.PlacedLemmas.{lit-same, wide-lit}
use Rattle.cube_rules.proofs.places.in_places.Goals as goal

pub returns-in-Ok-clause-made : goal.returns-in-Ok-clause-made
returns-in-Ok-clause-made c = c.in-Ok.ensures.made ∙ lit-same c.args.args.now c.args.names.now c.requires c.args.lit.now

pub returns-in-Err-Wide-clause-made : goal.returns-in-Err-Wide-clause-made
returns-in-Err-Wide-clause-made c =
    wide-lit c.args.args.now c.args.lit.now c.has_room.ensures
    (sym (ap lit_fits (lit-same c.args.args.now c.args.names.now c.requires c.args.lit.now)) ∙ c.lit_at.ensures.wide (c.in-Err-Wide.is ∙ ap Err c.in-Err-Wide.field-0-is))

pub returns-in-Err-Wide-clause-apart : goal.returns-in-Err-Wide-clause-apart
returns-in-Err-Wide-clause-apart c =
    sym (ap lit_fits (lit-same c.args.args.now c.args.names.now c.requires c.args.lit.now)) ∙ c.lit_at.ensures.wide (c.in-Err-Wide.is ∙ ap Err c.in-Err-Wide.field-0-is)
