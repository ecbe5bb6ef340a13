-- What the formulas of a definition at arguments say: its auxiliary variables have the values of their terms, and the definition is
-- true or false at the values of the arguments.
use Rattle.std.proofs.Common.{◌≡◌, ℕ, zero, suc, ◌+◌, ◌<◌, List, [], ◌∷◌, length, map, Bool, true, ◌&&◌, inl, ap, sym, ◌∙◌, arith}
use Rattle.std.specs.Prelude.{slice_get, slice_index_or, Some, ℤ}
use Rattle.std.specs.List.{list_all}
use Rattle.std.proofs.lemmas.List.Folds.{list_all-append}
use Rattle.term_tree.specs.declared.sort.Sort.{Sort}
use Rattle.term_tree.specs.declared.sort.Sort.TheVariants.{Bool as BoolSort}
use Rattle.term_tree.specs.declared.node.Node.TheVariants.{Var}
use Rattle.term_tree.specs.declared.definition.Definition.{Definition}
use Rattle.term_tree.specs.declared.scalar.Value.{Value}
use Rattle.term_tree.specs.Legal.{parameters}
use Rattle.term_tree.specs.Operators.{truth as truth_of, same_truth}
use Rattle.term_tree.specs.Solution.{IsFormula}
use Rattle.term_tree.specs.Subterms.{IsSubterm, itself}
use Rattle.term_tree.specs.Truth.{HaveSorts}
use Rattle.term_tree.specs.Value.{environment_of, value_of}
use Rattle.term_tree.proofs.Public.{both_true}
use Rattle.horn_shape.proofs.BreakingLemmas.{passes}
use Rattle.lin_atoms.specs.Algebra.{name_in}
use Rattle.lin_atoms.specs.Linear.{variable_at}
use Rattle.lin_atoms.specs.Truth.{truth}
use Rattle.linear_terms.specs.Formula.{formula}
use Rattle.linear_terms.specs.Meeting.{number}
use Rattle.linear_terms.proofs.Public.{sorted_there}
use Rattle.clause_normal.specs.Normal.{place_forms}
use Rattle.clause_laws.specs.Defined.{definition_forms, definition_places, definition_sorting, naming_at}
use Rattle.clause_laws.proofs.EnteredLemmas.{top_spot}
use Rattle.clause_laws.proofs.ListLemmas.{places_all, places_each}
use Rattle.clause_laws.proofs.StageLemmas.{IsRead}
use Rattle.clause_laws.proofs.WrittenLemmas.{guard_says, places_have, values_hold, variable_known}

-- an argument has the value that it stands for
argument_stands : (args : List ℕ) (values : List Value) (sorts : List Sort) (point : List ℤ) → HaveSorts sorts values → map (variable_at point) args ≡ map number values
    → (k d : ℕ) (s : Sort) → slice_get sorts k ≡ Some s → variable_at point (slice_index_or args k d) ≡ number (environment_of values k)
argument_stands args values [] point have same k d s is = absurd (cc)
argument_stands args [] (t ∷ sorts) point have same k d s is = absurd have
argument_stands [] (v ∷ values) (t ∷ sorts) point have same k d s is = absurd (cc)
argument_stands (a ∷ args) (v ∷ values) (t ∷ sorts) point have same zero d s is = cc
argument_stands (a ∷ args) (v ∷ values) (t ∷ sorts) point have same (suc k) d s is =
    let rest : map (variable_at point) args ≡ map number values = cc in argument_stands args values sorts point have.1 rest k d s is

-- it is read without predicates and quantifiers
definition_start : (d : Definition) (sorts : List Sort) → IsFormula sorts d.terms.nodes d.body.0 → IsRead d.terms.nodes sorts (top_spot d.body.0) (parameters sorts)
definition_start d sorts is = record {
  known = λ k s h. h;
  stage = inl (passes d.terms.nodes is.arena d.body.0 (sorted_there [] d.terms.nodes d.body.0 BoolSort is.legal.sorted) is.plain);
}

module _ (d : Definition) (sorts : List Sort) (is : IsFormula sorts d.terms.nodes d.body.0) (values : List Value) (have : HaveSorts sorts values) (args : List ℕ) (first : ℕ)
    (point : List ℤ) (same : map (variable_at point) args ≡ map number values) where
  start : IsRead d.terms.nodes sorts (top_spot d.body.0) (parameters sorts)
  start = definition_start d sorts is

  stands : (k : ℕ) (s : Sort) → slice_get sorts k ≡ Some s → variable_at point (name_in args k) ≡ number (environment_of values k)
  stands k s at = argument_stands args values sorts point have same k k s at

  -- the auxiliary variables have the values of their terms
  abbrev pub HaveWorths : Type 0
  HaveWorths = (i id : ℕ) → slice_get (definition_places d) i ≡ Some id → variable_at point (first + i) ≡ number (value_of d.terms.nodes id (environment_of values))

  body_says : HaveWorths → (sign : Bool) → truth point (formula (definition_sorting d) (naming_at d args first) d.terms.nodes d.body.0 sign) ≡ same_truth sign (truth_of (value_of d.terms.nodes d.body.0 (environment_of values)))
  body_says each sign =
      guard_says [] d.terms.nodes d.body.0 sorts sorts (name_in args) first is.arena is.legal start values have point stands d.body.0 sign itself
      (passes d.terms.nodes is.arena d.body.0 (sorted_there [] d.terms.nodes d.body.0 BoolSort is.legal.sorted) is.plain) is.legal.sorted each

  forms_are : (sign : Bool) → list_all (truth point) (definition_forms sign d args first)
      ≡ (list_all (truth point) (place_forms (definition_sorting d) (naming_at d args first) d.terms.nodes first (definition_places d))
      && (truth point (formula (definition_sorting d) (naming_at d args first) d.terms.nodes d.body.0 sign) && true))
  forms_are sign =
      list_all-append (truth point) (place_forms (definition_sorting d) (naming_at d args first) d.terms.nodes first (definition_places d))
      (formula (definition_sorting d) (naming_at d args first) d.terms.nodes d.body.0 sign ∷ [])

  -- where they have, and the definition is as it is said, the formulas hold
  pub definition_holds : HaveWorths → (sign : Bool) → same_truth sign (truth_of (value_of d.terms.nodes d.body.0 (environment_of values))) ≡ true → list_all (truth point) (definition_forms sign d args first) ≡ true
  definition_holds each sign says =
      forms_are sign
      ∙ ap (λ (b : Bool). b && (truth point (formula (definition_sorting d) (naming_at d args first) d.terms.nodes d.body.0 sign) && true))
      (places_all point (definition_sorting d) (naming_at d args first) d.terms.nodes first (definition_places d)
      (values_hold [] d.terms.nodes d.body.0 sorts sorts (name_in args) first is.arena is.legal start values have point stands each))
      ∙ ap (λ (b : Bool). b && true) (body_says each sign ∙ says)

  -- and the other way round
  pub record DefinitionSays (sign : Bool) : Type 0 where
    pub each : HaveWorths
    pub says : same_truth sign (truth_of (value_of d.terms.nodes d.body.0 (environment_of values))) ≡ true

  pub definition_gives : (sign : Bool) → list_all (truth point) (definition_forms sign d args first) ≡ true → DefinitionSays sign
  definition_gives sign holds =
      let P : Bool = list_all (truth point) (place_forms (definition_sorting d) (naming_at d args first) d.terms.nodes first (definition_places d)) in
      let B : Bool = truth point (formula (definition_sorting d) (naming_at d args first) d.terms.nodes d.body.0 sign) in
      let outer = both_true P (B && true) (sym (forms_are sign) ∙ holds) in
      let each : HaveWorths = λ i id at.
      places_have [] d.terms.nodes d.body.0 sorts sorts (name_in args) first is.arena is.legal start values have point stands
      (places_each point (definition_sorting d) (naming_at d args first) d.terms.nodes first (definition_places d) outer.0) (id + 1) i id (omega arith) at in
      record { each = each; says = sym (body_says each sign) ∙ (both_true B true outer.1).0 }

-- the definition's term is there
pub body_there : (d : Definition) (sorts : List Sort) → IsFormula sorts d.terms.nodes d.body.0 → d.body.0 < length d.terms.nodes
body_there d sorts is = sorted_there [] d.terms.nodes d.body.0 BoolSort is.legal.sorted

-- its variables are parameters
pub parameter_there : (d : Definition) (sorts : List Sort) (is : IsFormula sorts d.terms.nodes d.body.0) (id binder : ℕ) (sort : Sort) → IsSubterm d.terms.nodes d.body.0 id
    → slice_get d.terms.nodes id ≡ Some (Var binder sort) → slice_get sorts binder ≡ Some sort
parameter_there d sorts is id binder sort sub at =
    variable_known [] d.terms.nodes d.body.0 sorts sorts (λ v. v) 0 is.arena is.legal (definition_start d sorts is) id binder sort sub at
