use Rattle.std.proofs.Common.{◌≤◌, List, length, refl, subst, sym}
use Rattle.std.specs.Prelude.{ℤ}
use Rattle.refutation_trees.specs.Refutation.{form_end}
use Rattle.lia_stack.specs.machinery.Searched.{Ends}
use Rattle.lia_stack.proofs.Public.{decides-model}
use Rattle.lia_search.proofs.finishing.decided.Goals as goal

pub cut-requires : goal.cut-requires
cut-requires c = subst (λ (xs : List ℤ). form_end c.args.form ≤ length xs) (sym c.as_slice.ensures.value) (subst (Ends c.args.form c.args.nodes) c.in-Model.is c.requires.ends).0

pub returns-in_ok-model-in-Model : goal.returns-in_ok-model-in-Model
returns-in_ok-model-in-Model c =
    let ends = subst (Ends c.args.form c.args.nodes) c.in-Model.is c.requires.ends in
    decides-model c.args.form c.in-Model.point.items _ _ (form_end c.args.form) c.args.vars c.requires.below ends refl c.as_slice.ensures.value c.in_ok-model-in-Model.ensures
