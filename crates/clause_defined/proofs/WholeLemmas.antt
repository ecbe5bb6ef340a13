-- The formula of a whole clause: what the code has judged and put is what the rule says of the normal clause.
use Rattle.std.proofs.Common.{◌≡◌, ℕ, ◌+◌, ◌<◌, ◌≤◌, List, length, Bool, true, false, refl, ap, sym, ◌∙◌, subst, arith}
use Rattle.std.proofs.lemmas.Bool.Decides.{nat_tests}
use Rattle.std.specs.Prelude.{slice_get, Some, None, nat_lt}
use Rattle.term_tree.specs.declared.definition.Definition.{Definition}
use Rattle.term_tree.specs.declared.script.Assertion.{Assertion}
use Rattle.term_tree.specs.declared.script.Script.{Script}
use Rattle.term_tree.specs.Arena.{IsArena}
use Rattle.term_tree.specs.Solution.{AreFormulas, DefinesEach}
use Rattle.horn_shape.specs.declared.clause.HornClause.{HornClause}
use Rattle.horn_shape.specs.Clause.{IsClauseOf, IsLegalScript}
use Rattle.clause_form.specs.System.{most_variables}
use Rattle.clause_form.specs.declared.atom.Atom.{Atom}
use Rattle.clause_form.specs.declared.clause.Clause.{Clause}
use Rattle.clause_normal.specs.Normal.{auxiliaries, names_of, normal_clause, variable_sorts}
use Rattle.clause_laws.specs.Defined.{HasTooManyAt, breaking_variables, breaking_wide, first_wide_use, variables_after}
use Rattle.clause_laws.proofs.PointLemmas.{count_is}
use Rattle.clause_defined.specs.machinery.Uses.{AreAtVariables, CanAllBePut, capped, use_list}
use Rattle.clause_defined.proofs.ClauseLemmas.{all_below, all_defined, at_variables, uses_listed}
use Rattle.clause_defined.proofs.UseLemmas.{at_least, few_is, many_is}

not_more : (a b : ℕ) → b ≤ a → nat_lt a b ≡ false
not_more a b h = grind (arith, nat_tests)

is_more : (a b : ℕ) → a < b → nat_lt a b ≡ true
is_more a b h = grind (arith, nat_tests)

module _ (script : Script) (clause : HornClause) (arena : IsArena script.terms.nodes) (legal : IsLegalScript script) (is : IsClauseOf script clause.assertion clause) (defs : List Definition)
    (defines : DefinesEach 0 script.preds defs) (formed : AreFormulas script.preds defs) (placed : List ℕ) (are : placed ≡ auxiliaries script clause) where
  first_is : length clause.vars + length placed ≡ length (variable_sorts script clause)
  first_is = ap (λ (ids : List ℕ). length clause.vars + length ids) are ∙ sym (count_is script clause.assertion clause arena legal is)

  pub stands_here : AreAtVariables script.terms.nodes (names_of script clause) (length clause.vars + length placed) clause
  stands_here = subst (λ (n : ℕ). AreAtVariables script.terms.nodes (names_of script clause) n clause) (sym first_is) (at_variables script clause arena legal is)

  pub counted_here : variables_after defs (use_list (names_of script clause) script.terms.nodes clause.atoms clause.head) (length clause.vars + length placed) ≡ breaking_variables defs (normal_clause script clause)
  counted_here =
      ap (variables_after defs (use_list (names_of script clause) script.terms.nodes clause.atoms clause.head)) first_is
      ∙ ap (λ (uses : List (Atom × Bool)). variables_after defs uses (length (variable_sorts script clause))) (sym (uses_listed script clause))

  pub wide_here : first_wide_use defs (use_list (names_of script clause) script.terms.nodes clause.atoms clause.head) (length clause.vars + length placed) ≡ breaking_wide defs (normal_clause script clause)
  wide_here =
      ap (first_wide_use defs (use_list (names_of script clause) script.terms.nodes clause.atoms clause.head)) first_is
      ∙ ap (λ (uses : List (Atom × Bool)). first_wide_use defs uses (length (variable_sorts script clause))) (sym (uses_listed script clause))

  -- a count of at most 2,048 is the number of variables
  module _ (count : ℕ) (counted : count ≡ capped 0 (variables_after defs (use_list (names_of script clause) script.terms.nodes clause.atoms clause.head) (length clause.vars + length placed))) where
    total : count ≡ capped 0 (breaking_variables defs (normal_clause script clause))
    total = counted ∙ ap (capped 0) counted_here

    pub few_here : count ≤ 2048 → breaking_variables defs (normal_clause script clause) ≤ most_variables
    few_here small = (few_is (breaking_variables defs (normal_clause script clause)) (subst (λ (n : ℕ). n ≤ 2048) total small)).1

    pub few_told : count ≤ 2048 → nat_lt most_variables (breaking_variables defs (normal_clause script clause)) ≡ false
    few_told small = not_more most_variables (breaking_variables defs (normal_clause script clause)) (few_here small)

    pub few_own : count ≤ 2048 → length clause.vars + length placed ≤ most_variables
    few_own small =
        let least = at_least defs (use_list (names_of script clause) script.terms.nodes clause.atoms clause.head) (length clause.vars + length placed) in
        let most = few_here small in
        omega (arith, least, most, counted_here)

    pub many_here : 2048 < count → breaking_wide defs (normal_clause script clause) ≡ None → (assertion : Assertion) → slice_get script.asserts clause.assertion ≡ Some assertion → HasTooManyAt script clause defs assertion.offset
    many_here large narrow assertion there = record {
      narrow = narrow;
      large = is_more most_variables (breaking_variables defs (normal_clause script clause)) (many_is (breaking_variables defs (normal_clause script clause)) (subst (λ (n : ℕ). 2048 < n) total large));
      assertion = assertion;
      there = there;
      start = refl;
    }

    pub can_put : count ≤ 2048 → breaking_wide defs (normal_clause script clause) ≡ None → (whole : Clause) → whole ≡ normal_clause script clause → CanAllBePut defs whole
    can_put small narrow whole made = subst (λ (c : Clause). CanAllBePut defs c) (sym made) (record {
      defined = all_defined script clause arena legal is defs defines formed;
      below = all_below script clause arena legal is defs defines formed;
      narrow = narrow;
      few = few_here small;
    })
