-- A conjunction of two literals: what it is flattened to, its end, and the node where both have joined.
use Rattle.std.proofs.Common.{◌≡◌, ℕ, List, [], ◌∷◌, ◌++◌, refl, ap, sym, ◌∙◌, subst}
use Rattle.std.specs.Prelude.{pos, neg_ℤ, max, Some}
use denote.Hole.Carrier.{roll}
use Rattle.lin_atoms.specs.Algebra.{negated}
use Rattle.lin_atoms.specs.Denial.{linear_of}
use Rattle.lin_atoms.specs.Linear.{Linear}
use Rattle.lin_atoms.specs.declared.lit.Lit.{Lit}
use Rattle.lin_atoms.specs.declared.lit.Lit.TheVariants.{Eq}
use Rattle.lin_atoms.specs.declared.form.Form.{Form}
use Rattle.lin_atoms.specs.declared.form.Form.TheFolds.{fold-roll-Form}
use Rattle.lin_atoms.specs.declared.form.Form.TheOpen.{Form-F}
use Rattle.lin_atoms.specs.declared.form.Form.TheVariants.{Lit as Literal}
use Rattle.lin_atoms.specs.declared.form.Form.TheViews.{roll-Form}
use Rattle.int_rows.specs.Ready.{bounded, lin_content, rounded, without_constant}
use Rattle.refutation_trees.specs.Combination.{terms_end}
use Rattle.refutation_trees.specs.Flatten.{disjunctions, literals, literals_step}
use Rattle.refutation_trees.specs.GivenUp.{AreOfNode, IsEvidence, IsGivenUp}
use Rattle.farkas_proof.specs.Instances.{both}
use Rattle.refutation_trees.specs.Refutation.{end_step, form_end}
use Rattle.refutation_trees.specs.declared.evidence.Evidence.{Evidence}
use Rattle.refutation_trees.proofs.EndLemmas.{form_end-And}
use Rattle.refutation_trees.proofs.FlattenLemmas.{literals-And}
use Rattle.farkas_proof.proofs.NodeLemmas.{all-join, node_of}

literals-Lit : (l : Lit) → literals (Literal l) ≡ l ∷ []
unfolding roll-Form roll
literals-Lit l = fold-roll-Form (List Lit) literals_step (Form-F.Lit l)

end-Lit : (l : Lit) → form_end (Literal l) ≡ terms_end (linear_of l).terms
unfolding roll-Form roll
end-Lit l = fold-roll-Form ℕ end_step (Form-F.Lit l)

pub both-literals : (l m : Lit) → literals (both l m) ≡ l ∷ m ∷ []
both-literals l m =
    literals-And (Literal l ∷ Literal m ∷ []) ∙ ap (λ (xs : List Lit). xs ++ (literals (Literal m) ++ [])) (literals-Lit l) ∙ ap (λ (xs : List Lit). l ∷ (xs ++ [])) (literals-Lit m)

pub both-end : (l m : Lit) → form_end (both l m) ≡ max (terms_end (linear_of l).terms) (max (terms_end (linear_of m).terms) 0)
both-end l m =
    form_end-And (Literal l ∷ Literal m ∷ []) ∙ ap (λ n. max n (max (form_end (Literal m)) 0)) (end-Lit l) ∙ ap (λ n. max (terms_end (linear_of l).terms) (max n 0)) (end-Lit m)

pub both-node : (l m : Lit) → AreOfNode (both l m) (l ∷ m ∷ [])
both-node l m = (node_of (literals (both l m)) [] (disjunctions (both l m)), all-join (both l m), both-literals l m)

-- an equation is rounded by the content of its coefficients
pub bounded-Eq : (q k : ℕ) (lin : Linear) → lin_content lin ≡ k
    → bounded q (Eq lin) ≡ record { form = without_constant (rounded (pos k) lin); lower = Some (rounded (pos k) (negated lin)).constant; upper = Some (neg_ℤ (rounded (pos k) lin).constant) }
bounded-Eq q k lin e = subst (λ c. bounded q (Eq lin) ≡ record { form = without_constant (rounded (pos c) lin); lower = Some (rounded (pos c) (negated lin)).constant; upper = Some (neg_ℤ (rounded (pos c) lin).constant) }) e refl

-- evidence is one for an equal form
pub same-evidence : (form other : Form) (evidence another : Evidence) → form ≡ other → evidence ≡ another → IsEvidence other another → IsGivenUp form evidence
same-evidence form other evidence another e f is =
    subst (λ g. IsGivenUp g evidence) (sym e) (subst (λ g. IsGivenUp other g) (sym f) (∣ is ∣₁))
