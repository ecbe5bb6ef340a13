-- Definitions that are made of lemmas are formulas, and true in the frame.
use Rattle.std.proofs.Common.{◌≡◌, ℕ, ◌+◌, ◌<◌, List, [], ◌∷◌, map, Bool, true, false, refl, ap, sym, ◌∙◌}
use Rattle.std.specs.Prelude.{not}
use Rattle.std.specs.List.{list_all}
use Rattle.term_tree.specs.declared.definition.Definition.{Definition}
use Rattle.term_tree.specs.declared.scalar.Value.{Value}
use Rattle.term_tree.specs.declared.scalar.Value.TheVariants.{Bool as Truth}
use Rattle.term_tree.specs.declared.script.Pred.{Pred}
use Rattle.term_tree.specs.Operators.{truth}
use Rattle.term_tree.specs.Solution.{AreFormulas}
use Rattle.term_tree.specs.Truth.{HaveSorts}
use Rattle.term_tree.specs.Value.{environment_of, value_of}
use Rattle.lin_atoms.specs.declared.lit.Lit.{Lit}
use Rattle.linear_terms.specs.Meeting.{number}
use Rattle.cube_forms.specs.Cubes.{cube_holds}
use Rattle.lemma_frames.specs.Frames.{FrameHolds, lemma_of}
use Rattle.lemma_frames.specs.declared.framed.Framed.{Framed}
use Rattle.interpretations.specs.Definitions.{AreDefinitionsOf, IsDefinitionOf}
use Rattle.interpretations.proofs.FineLemmas.{term-formula}
use Rattle.interpretations.proofs.KeptLemmas.{frame-passes, kept-pass}
use Rattle.interpretations.proofs.ValueLemmas.{term-worth}

pub are-formulas : (lemmas : List Framed) (k number : ℕ) (preds : List Pred) (definitions : List Definition) → AreDefinitionsOf lemmas k number preds definitions → AreFormulas preds definitions
are-formulas lemmas k number [] [] h = tt
are-formulas lemmas k number [] (d ∷ definitions) h = absurd h
are-formulas lemmas k number (p ∷ preds) [] h = absurd h
are-formulas lemmas k number (p ∷ preds) (d ∷ definitions) h =
    (term-formula d.terms.nodes h.0.arena p.args h.0.cubes d.body h.0.term, are-formulas lemmas k (number + 1) preds definitions h.1)

not-true : (b : Bool) → not b ≡ true → b ≡ false
not-true false h = refl
not-true true h = absurd (cc)

same-truth : (a b : Bool) → (let v : Value = Truth a in v) ≡ Truth b → a ≡ b
same-truth a b e = ap truth e

module _ (lemmas : List Framed) (k pred : ℕ) (declared : Pred) (d : Definition) (values : List Value) (some : 0 < k) (is : IsDefinitionOf lemmas k pred declared d)
    (have : HaveSorts declared.args values) where
  abbrev accepts-all : List Lit → Bool
  accepts-all cube = not (cube_holds (map number values) cube)

  worth-is : value_of d.terms.nodes d.body.0 (environment_of values) ≡ Truth (list_all accepts-all is.cubes)
  worth-is = term-worth d.terms.nodes is.arena declared.args values have is.cubes d.body is.term

  pub in-frame : value_of d.terms.nodes d.body.0 (environment_of values) ≡ Truth true → FrameHolds lemmas pred k (map number values)
  in-frame h = (some, λ n inside. refused n (frame-passes lemmas pred k is.cubes is.kept accepts-all (same-truth (list_all accepts-all is.cubes) true (sym worth-is ∙ h)) n inside))
    where
      refused : (n : ℕ) → accepts-all (lemma_of lemmas n) ≡ true → cube_holds (map number values) (lemma_of lemmas n) ≡ false
      refused n = not-true (cube_holds (map number values) (lemma_of lemmas n))

  pub from-frame : FrameHolds lemmas pred k (map number values) → value_of d.terms.nodes d.body.0 (environment_of values) ≡ Truth true
  from-frame h = worth-is ∙ ap (λ (b : Bool). Truth b) (kept-pass lemmas pred k is.cubes is.kept accepts-all (λ n inside. ap not (h.1 n inside)))
