use Rattle.std.proofs.Common.{List, ◌++◌, ◌∷◌, [], ◌∙◌, ap, sym, append_assoc}
use Rattle.lin_atoms.specs.Linear.{Linear}
use Rattle.lin_atoms.specs.Algebra.{negated}
use Rattle.lin_atoms.specs.declared.lit.Lit.{Lit}
use Rattle.lin_atoms.specs.declared.lit.Lit.TheVariants.{Le}
use Rattle.lemma_general.specs.Generals.{bounds_of}
use Rattle.lemma_general.proofs.bounds.push_bounds.Goals as goal

pub returns-in_ok-push-in-Eq-2 : goal.returns-in_ok-push-in-Eq-2
returns-in_ok-push-in-Eq-2 c =
    let first = c.in_ok-push-in-Eq.ensures.items ∙ ap (λ (l : Linear). c.args.lits.now.items ++ Le l ∷ []) c.in_ok-copy-in-Eq.ensures in
    c.in_ok-push-in-Eq-2.ensures.items ∙ ap (λ (l : Linear). c.push.new.self.items ++ Le l ∷ []) c.in_ok-negated-in-Eq.ensures.made ∙ ap (λ (xs : List Lit). xs ++ Le (negated c.in-Eq.lin) ∷ []) first
    ∙ append_assoc c.args.lits.now.items (Le c.in-Eq.lin ∷ []) (Le (negated c.in-Eq.lin) ∷ []) ∙ sym (ap (λ (l : Lit). c.args.lits.now.items ++ bounds_of (l ∷ [])) c.in-Eq.is)
