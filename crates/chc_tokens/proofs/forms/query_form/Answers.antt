use Rattle.std.proofs.Common.{◌++◌, ◌∷◌, [], List, map, ap, ◌∙◌}
use Rattle.lin_atoms.specs.declared.form.Form.{Form}
use Rattle.lin_atoms.specs.declared.form.Form.TheViews.{And}
use Rattle.clause_form.specs.declared.atom.Atom.{Atom}
use Rattle.chc_tokens.specs.Queries.{base, used_form}
use Rattle.chc_tokens.specs.declared.goal.Goal.TheVariants.{Holds}
use Rattle.chc_tokens.proofs.forms.query_form.Goals as goal

pub returns-clause-made : goal.returns-clause-made
returns-clause-made c =
    let used = c.args.used.now in
    ap And (c.from_vec.ensures ∙ c.in_ok-push_used.ensures.made
    ∙ ap (λ (xs : List Form). xs ++ map (used_form c.as_slice.result.now) used) (c.in_ok-push.ensures ∙ ap (λ (xs : List Form). xs ++ c.in_ok-base_form.field-0 ∷ []) c.new-parts.ensures.items ∙ ap (λ (f : Form). f ∷ []) c.in_ok-base_form.ensures.made)
    ∙ ap (λ (atoms : List Atom). base c.args.clause.now (Holds c.args.cube.now) ∷ map (used_form atoms) used) c.as_slice.ensures)
