use Rattle.std.proofs.Common.{◌++◌, ◌∷◌, [], ℕ, List, map, ap, ◌∙◌}
use Rattle.lin_atoms.specs.declared.form.Form.{Form}
use Rattle.lin_atoms.specs.declared.form.Form.TheViews.{And}
use Rattle.lin_atoms.specs.declared.form.Form.TheVariants.{Lit as Literal}
use Rattle.cube_forms.specs.Cubes.{cube_at}
use Rattle.chc_tokens.proofs.forms.base_form.Goals as goal

pub returns-clause-made : goal.returns-clause-made
returns-clause-made c =
    let cube = c.args.cube.now in
    ap And (c.from_vec.ensures ∙ c.in_ok-push_all.ensures.made
    ∙ ap (λ (xs : List Form). xs ++ map Literal (cube_at c.head_args.result.now cube)) (c.in_ok-push.ensures ∙ ap (λ (xs : List Form). xs ++ c.in_ok-copy.field-0 ∷ []) c.new-parts.ensures.items ∙ ap (λ (f : Form). f ∷ []) c.in_ok-copy.ensures)
    ∙ ap (λ (args : List ℕ). c.args.clause.now.guard ∷ map Literal (cube_at args cube)) c.head_args.ensures)
