-- The formula of the instances that make an assertion false can be decided.
use Rattle.std.proofs.Common.{◌≡◌, ℕ, ◌+◌, ◌<◌, ◌≤◌, ◌^◌, List, [], ◌∷◌, length, Bool, true, refl, arith}
use Rattle.std.specs.Prelude.{slice_get, Option, Some, None, option_map}
use Rattle.std.specs.List.{AllByRecursion, list_all}
use Rattle.term_tree.specs.declared.definition.Definition.{Definition}
use Rattle.term_tree.specs.declared.node.TermId.{TermId}
use Rattle.term_tree.specs.declared.node.OpKind.{OpKind}
use Rattle.term_tree.specs.declared.node.Node.{Node}
use Rattle.term_tree.specs.declared.node.Node.TheVariants.{Op}
use Rattle.term_tree.specs.declared.script.Script.{Script}
use Rattle.term_tree.specs.declared.sort.Sort.{Sort}
use Rattle.term_tree.specs.Arena.{IsArena}
use Rattle.term_tree.specs.Solution.{AreFormulas, DefinesEach, IsFormula}
use Rattle.term_tree.specs.Subterms.{IsSubterm}
use Rattle.horn_shape.specs.declared.clause.HornClause.{HornClause}
use Rattle.horn_shape.specs.Clause.{IsClauseOf, IsLegalScript}
use Rattle.lin_atoms.specs.Truth.{is_below, lit_is_below}
use Rattle.lin_atoms.specs.declared.lit.Lit.{Lit as Literal}
use Rattle.linear_terms.specs.Width.{first_wide}
use Rattle.lia_search.specs.Decides.{has_short_multiples}
use Rattle.clause_form.specs.System.{has_short_in_guard, most_variables}
use Rattle.clause_form.specs.declared.atom.Atom.{Atom}
use Rattle.clause_normal.specs.Normal.{auxiliaries, first_without_room, clause_guard, normal_clause, variable_sorts, top_of}
use Rattle.clause_normal.specs.machinery.Making.{HasFewArguments}
use Rattle.clause_normal.proofs.MadeLemmas.{subterm_most}
use Rattle.clause_normal.proofs.PassLemmas.{passes}
use Rattle.clause_laws.specs.Defined.{breaking_form, breaking_variables, breaking_wide, count_of, defined_forms, definition_at, definition_forms, definition_places, definition_wide, naming_at, use_forms, uses_of, variables_after}
use Rattle.clause_laws.proofs.PointLemmas.{count_is}
use Rattle.clause_defined.specs.machinery.Uses.{CanRestBePut, IsDefinedFor}
use Rattle.clause_defined.proofs.Public.{all_below, all_defined, at_least, can_next, can_rest}
use Rattle.chc_checker.specs.machinery.Judging.{HaveFewArguments}
use Rattle.chc_checker.proofs.DefinitionLemmas.{forms_below, forms_short}
use Rattle.chc_checker.proofs.GuardLemmas.{guard_below, guard_short}
use Rattle.chc_checker.proofs.PassLemmas.{append_pass, both_hold, conjunction_pass, is_below_by, is_short_by}

none_of : {X Y : Type 0} (f : X → Y) (o : Option X) → option_map f o ≡ None → o ≡ None
none_of f None h = refl
none_of f (Some x) h = absurd (cc)

module _ (defs : List Definition) (Fine : Definition → Type 0) (fine : (i : ℕ) (d : Definition) → slice_get defs i ≡ Some d → Fine d) (t : Literal → Bool) (total : ℕ)
    (given : (d : Definition) → Fine d → (sorts : List Sort) → IsFormula sorts d.terms.nodes d.body.0 → (args : List ℕ) (first : ℕ) → length sorts ≡ length args → AllByRecursion (λ v. v < first) args
    → first + length (definition_places d) ≤ total → first_wide (naming_at d args first) d.terms.nodes d.body.0 ≡ None → (sign : Bool) → list_all (passes t) (definition_forms sign d args first) ≡ true) where
  use_passes : (atom : Atom) (sign : Bool) (next : ℕ) (found : Option Definition) → definition_at defs atom ≡ found → IsDefinedFor found (length atom.args) → definition_wide found atom next ≡ None
      → next + count_of found ≤ total → AllByRecursion (λ v. v < next) atom.args → list_all (passes t) (defined_forms found atom sign next) ≡ true
  use_passes atom sign next None is defined narrow fits below = refl
  use_passes atom sign next (Some d) is defined narrow fits below =
      given d (fine atom.pred d is) defined.0 defined.2 atom.args next defined.1 below fits (none_of _ (first_wide (naming_at d atom.args next) d.terms.nodes d.body.0) narrow) sign

  uses_pass : (uses : List (Atom × Bool)) (first next : ℕ) → CanRestBePut defs uses first next → variables_after defs uses next ≤ total → list_all (passes t) (use_forms defs uses next) ≡ true
  uses_pass [] first next can fits = refl
  uses_pass ((atom, sign) ∷ uses) first next can fits =
      let one = can_next defs atom sign uses first next can in
      let after : ℕ = next + count_of (definition_at defs atom) in
      let least = at_least defs uses after in
      append_pass t (defined_forms (definition_at defs atom) atom sign next) (use_forms defs uses after)
      (use_passes atom sign next (definition_at defs atom) refl one.defined one.narrow (omega (arith, least, fits)) one.below)
      (uses_pass uses first after (can_rest defs atom sign uses first next after can refl) fits)

module _ (script : Script) (clause : HornClause) (arena : IsArena script.terms.nodes) (legal : IsLegalScript script) (is : IsClauseOf script clause.assertion clause)
    (narrow : first_without_room script clause ≡ None) (defs : List Definition) (defines : DefinesEach 0 script.preds defs) (formed : AreFormulas script.preds defs)
    (wide : breaking_wide defs (normal_clause script clause) ≡ None) (few : breaking_variables defs (normal_clause script clause) ≤ most_variables) where
  abbrev total : ℕ
  total = breaking_variables defs (normal_clause script clause)

  own_fit : length clause.vars + length (auxiliaries script clause) ≤ total
  own_fit =
      let least = at_least defs (uses_of (normal_clause script clause)) (length (variable_sorts script clause)) in
      let count = count_is script clause.assertion clause arena legal is in
      omega (arith, least, count)

  can : CanRestBePut defs (uses_of (normal_clause script clause)) (length (variable_sorts script clause)) (length (variable_sorts script clause))
  can = record {
    defined = all_defined script clause arena legal is defs defines formed;
    below = all_below script clause arena legal is defs defines formed;
    from = omega arith;
    narrow = wide;
    few = few;
  }

  pub form_below : is_below total (breaking_form defs (normal_clause script clause)) ≡ true
  form_below =
      let uses = use_forms defs (uses_of (normal_clause script clause)) (length (variable_sorts script clause)) in
      is_below_by total (breaking_form defs (normal_clause script clause))
      (conjunction_pass (lit_is_below total) (clause_guard script clause ∷ uses)
      (both_hold (passes (lit_is_below total) (clause_guard script clause)) (list_all (passes (lit_is_below total)) uses)
      (guard_below script clause arena legal is narrow total own_fit)
      (uses_pass defs (λ d. Unit {0}) (λ i d at. tt) (lit_is_below total) total
      (λ d ok sorts formula args first count below fits room sign. forms_below d sorts formula args first total count below fits room sign)
      (uses_of (normal_clause script clause)) (length (variable_sorts script clause)) (length (variable_sorts script clause)) can (omega arith))))

  abbrev Few : Definition → Type 0
  Few d = HasFewArguments d.terms.nodes × (d.body.0 < 2 ^ 32)

  few_below : (nodes : List Node) → IsArena nodes → (top : ℕ) → HasFewArguments nodes → top < 2 ^ 32 → (id : ℕ) (op : OpKind) (args : List TermId) → IsSubterm nodes top id → slice_get nodes id ≡ Some (Op op args)
      → length args < 2 ^ 63
  few_below nodes stands top have small id op args sub at =
      let most = subterm_most nodes stands top id sub in
      have id op args (omega (arith, most, small)) at

  pub form_short : HaveFewArguments script defs → top_of script clause < 2 ^ 32 → has_short_multiples (breaking_form defs (normal_clause script clause)) ≡ true
  form_short have small =
      let uses = use_forms defs (uses_of (normal_clause script clause)) (length (variable_sorts script clause)) in
      is_short_by (breaking_form defs (normal_clause script clause))
      (conjunction_pass has_short_in_guard (clause_guard script clause ∷ uses)
      (both_hold (passes has_short_in_guard (clause_guard script clause)) (list_all (passes has_short_in_guard) uses)
      (guard_short script clause arena legal is narrow total own_fit (few_below script.terms.nodes arena (top_of script clause) have.asserted small))
      (uses_pass defs Few have.defined has_short_in_guard total
      (λ d ok sorts formula args first count below fits room sign.
      forms_short d sorts formula args first total count below fits room (few_below d.terms.nodes formula.arena d.body.0 ok.0 ok.1) sign)
      (uses_of (normal_clause script clause)) (length (variable_sorts script clause)) (length (variable_sorts script clause)) can (omega arith))))
