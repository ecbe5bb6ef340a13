-- Definitions that are used alike ask the same of a clause.
use Rattle.std.proofs.Common.{◌≡◌, ℕ, ◌+◌, List, [], ◌∷◌, ◌++◌, length, Bool, refl, ap, ◌∙◌}
use Rattle.std.specs.Prelude.{Option, slice_get}
use Rattle.term_tree.specs.declared.definition.Definition.{Definition}
use Rattle.lin_atoms.specs.declared.form.Form.{Form}
use Rattle.linear_terms.specs.Width.{first_of_two}
use Rattle.clause_form.specs.declared.atom.Atom.{Atom}
use Rattle.clause_form.specs.declared.clause.Clause.{Clause}
use Rattle.clause_normal.specs.Normal.{conjunction}
use Rattle.clause_laws.specs.Defined.{breaking_form, breaking_variables, breaking_wide, count_of, defined_forms, definition_at, definition_wide, first_wide_use, use_forms, uses_of, variables_after}
use Rattle.answer_readings.proofs.DefinitionLemmas.{AreUsedAlike}

module _ (ds es : List Definition) (same : (n : ℕ) → AreUsedAlike (slice_get ds n) (slice_get es n)) where
  wides : (uses : List (Atom × Bool)) (next : ℕ) → first_wide_use ds uses next ≡ first_wide_use es uses next
  wides [] next = refl
  wides (p ∷ uses) next =
      let alike = same p.0.pred in
      ap (λ (o : Option ℕ). first_of_two o (first_wide_use ds uses (next + count_of (definition_at ds p.0)))) (alike.wide p.0 next)
      ∙ ap (λ (n : ℕ). first_of_two (definition_wide (definition_at es p.0) p.0 next) (first_wide_use ds uses (next + n))) alike.count
      ∙ ap (first_of_two (definition_wide (definition_at es p.0) p.0 next)) (wides uses (next + count_of (definition_at es p.0)))

  all_forms : (uses : List (Atom × Bool)) (next : ℕ) → use_forms ds uses next ≡ use_forms es uses next
  all_forms [] next = refl
  all_forms (p ∷ uses) next =
      let alike = same p.0.pred in
      ap (λ (fs : List Form). fs ++ use_forms ds uses (next + count_of (definition_at ds p.0))) (alike.forms p.0 p.1 next)
      ∙ ap (λ (n : ℕ). defined_forms (definition_at es p.0) p.0 p.1 next ++ use_forms ds uses (next + n)) alike.count
      ∙ ap (λ (fs : List Form). defined_forms (definition_at es p.0) p.0 p.1 next ++ fs) (all_forms uses (next + count_of (definition_at es p.0)))

  after : (uses : List (Atom × Bool)) (next : ℕ) → variables_after ds uses next ≡ variables_after es uses next
  after [] next = refl
  after (p ∷ uses) next =
      let alike = same p.0.pred in
      ap (λ (n : ℕ). variables_after ds uses (next + n)) alike.count ∙ after uses (next + count_of (definition_at es p.0))

  pub same_breaking_wide : (clause : Clause) → breaking_wide ds clause ≡ breaking_wide es clause
  same_breaking_wide clause = wides (uses_of clause) (length clause.sorts)

  pub same_breaking_form : (clause : Clause) → breaking_form ds clause ≡ breaking_form es clause
  same_breaking_form clause = ap (λ (fs : List Form). conjunction (clause.guard ∷ fs)) (all_forms (uses_of clause) (length clause.sorts))

  pub same_breaking_variables : (clause : Clause) → breaking_variables ds clause ≡ breaking_variables es clause
  same_breaking_variables clause = after (uses_of clause) (length clause.sorts)
