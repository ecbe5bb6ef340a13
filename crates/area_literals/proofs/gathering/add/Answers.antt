use Rattle.std.proofs.Common.{◌≡◌, false, List, ◌∷◌, [], ◌++◌, ap, sym, ◌∙◌, subst, rules}
use Rattle.lin_atoms.specs.declared.lit.Lit.{Lit}
use Rattle.book_rules.specs.Areas.{is_among}
use Rattle.area_literals.specs.machinery.Growing.{IsAdded}
use Rattle.area_literals.proofs.GrowLemmas.{added-new}
use Rattle.area_literals.proofs.gathering.add.Goals as goal

pub returns : goal.returns
returns c =
    let old = c.args.lits.now.items in
    let other : is_among old c.args.lit.now ≡ false = search rules in
    subst (λ (new : List Lit). IsAdded c.args.point.now c.args.lit.now old new) (sym (◌∙◌ {A = List Lit} c.in_ok-push.ensures.items (ap (λ (x : Lit). old ++ x ∷ []) c.in_ok-copy.ensures))) (added-new c.args.point.now c.args.lit.now old other c.requires)
