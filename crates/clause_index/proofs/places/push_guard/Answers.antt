use Rattle.std.proofs.Common.{ap, sym, ◌∙◌}
use Rattle.lin_atoms.specs.declared.form.Form.TheViews.{And}
use Rattle.clause_index.proofs.PlaceLemmas.{all-of-parts, one-case, one-false, one-literal}
use Rattle.clause_index.proofs.places.push_guard.Goals as goal

pub returns-in-And : goal.returns-in-And
returns-in-And c =
    all-of-parts c.args.guard.now c.as_slice.result.now c.args.places.now c.push_conjuncts.new.places (c.in-And.is ∙ ap And (sym c.as_slice.ensures)) c.in_ok-push_conjuncts-in-And.ensures

pub returns-in-Or : goal.returns-in-Or
returns-in-Or c = one-case c.args.guard.now c.args.places.now c.new-below.result c.push_place.new.places c.in-Or.field-0 c.in_ok-push_place-in-Or.ensures c.new-below.ensures c.in-Or.is

pub returns-in-False : goal.returns-in-False
returns-in-False c = one-false c.args.guard.now c.args.places.now c.new-below.result c.push_place-in-False.new.places c.in_ok-push_place-in-False.ensures c.new-below.ensures c.in-False.is

pub returns : goal.returns
returns c = one-literal c.args.guard.now c.args.places.now c.new-below.result c.push_place-in-Lit.new.places c.in-Lit.field-0 c.in_ok-push_place-in-Lit.ensures c.new-below.ensures c.in-Lit.is
