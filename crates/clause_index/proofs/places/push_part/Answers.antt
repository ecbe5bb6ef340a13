use Rattle.std.proofs.Common.{ap, sym, ◌∙◌, [], ◌∷◌}
use Rattle.lin_atoms.specs.declared.form.Form.TheViews.{And}
use Rattle.clause_index.proofs.PlaceLemmas.{adds-parts, part-case, part-false, part-literal}
use Rattle.clause_index.proofs.places.push_part.Goals as goal

pub returns-in-And : goal.returns-in-And
returns-in-And c =
    adds-parts (c.args.first ∷ []) c.args.places.now c.push_inner.new.places c.args.form.now c.as_slice.result.now (c.in-And.is ∙ ap And (sym c.as_slice.ensures)) c.in_ok-push_inner-in-And.ensures

pub returns-in-Or : goal.returns-in-Or
returns-in-Or c = part-case c.args.first c.args.form.now c.args.places.now c.new-below.result c.push_place.new.places c.in-Or.field-0 c.in_ok-push_place-in-Or.ensures c.new-below.ensures c.in-Or.is

pub returns-in-False : goal.returns-in-False
returns-in-False c = part-false c.args.first c.args.form.now c.args.places.now c.new-below.result c.push_place-in-False.new.places c.in_ok-push_place-in-False.ensures c.new-below.ensures c.in-False.is

pub returns : goal.returns
returns c = part-literal c.args.first c.args.form.now c.args.places.now c.new-below.result c.push_place-in-Lit.new.places c.in-Lit.field-0 c.in_ok-push_place-in-Lit.ensures c.new-below.ensures c.in-Lit.is
