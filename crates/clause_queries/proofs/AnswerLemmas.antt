-- What the solver's answer says of a query.
use Rattle.std.proofs.Common.{◌≡◌, ℕ, zero, suc, ◌<◌, List, [], ◌∷◌, map, length, Bool, true, false, ◌&&◌, not, Some, None, refl, ap, sym, ◌∙◌, arith}
use Rattle.std.specs.Prelude.{ℤ, Option, is_some, slice_get, ◌==◌}
use Rattle.std.specs.List.{list_all}
use mathlib.Core.Bool.{true≢false}
use Rattle.lin_atoms.specs.Truth.{truth}
use Rattle.lin_atoms.specs.declared.form.Form.{Form}
use Rattle.lin_atoms.specs.declared.form.Form.TheViews.{And}
use Rattle.clause_form.specs.System.{Clauses}
use Rattle.clause_form.specs.declared.clause.Clause.{Clause}
use Rattle.chc_tokens.specs.Instances.{has_values, token_head_at, is_instance_of, is_point_of, may_be_instance, may_be_point}
use Rattle.chc_tokens.specs.Kept.{seen_clause, seen_point}
use Rattle.chc_tokens.specs.Queries.{base_at, base_in, forms_at, has_goal, query, used_form}
use Rattle.chc_tokens.specs.Tokens.{is_passed, is_seen, token_meets}
use Rattle.chc_tokens.specs.declared.goal.Goal.{Goal}
use Rattle.chc_tokens.specs.declared.seeing.Seen.{Seen}
use Rattle.chc_tokens.specs.declared.used.Used.{Used}
use Rattle.chc_tokens.proofs.Public.{truth-query}
use Rattle.cube_rules.proofs.Public.{both_true, from_both}
use Rattle.clause_queries.specs.Answers.{IsInstanceFor}
use Rattle.clause_queries.proofs.AskLemmas.{base-parts, forms-parts}
use Rattle.clause_queries.proofs.BoolLemmas.{own_number}

not_is : (b : Bool) → not b ≡ true → b ≡ false
not_is true h = absurd (true≢false (sym h))
not_is false h = refl

-- a point where the query is true
pub record IsModel (sys : Clauses) (n : ℕ) (goal : Goal) (used : List Used) (clause : Clause) (point : List ℤ) : Type 0 where
  pub there : slice_get sys.clauses n ≡ Some clause
  pub values : has_values clause point ≡ true
  pub placed : has_goal clause goal ≡ true
  pub guard : truth point clause.guard ≡ true
  pub head : token_meets goal (token_head_at point clause) ≡ false
  pub body : list_all (is_passed point clause) used ≡ true

pub model : (sys : Clauses) (n : ℕ) (goal : Goal) (used : List Used) (clause : Clause) (form : Form) (forms : List Form) (point : List ℤ)
    → slice_get sys.clauses n ≡ Some clause → base_at sys n goal ≡ Some form → forms_at sys n used ≡ Some forms → length point ≡ length clause.sorts → truth point (And (form ∷ forms)) ≡ true
    → IsModel sys n goal used clause point
model sys n goal used clause form forms point there base_is forms_are long holds =
    let its = base-parts sys n clause goal form there base_is in
    let theirs = forms-parts sys n clause used forms there forms_are in
    let is : truth point (query clause goal used) ≡ true = ap (λ (f : Form). truth point (And (f ∷ map (used_form clause.atoms) used))) its.2 ∙ ap (λ (fs : List Form). truth point (And (form ∷ fs))) theirs.1 ∙ holds in
    let whole = sym (truth-query point clause goal used its.0 theirs.0) ∙ is in
    let both = both_true (truth point clause.guard && not (token_meets goal (token_head_at point clause))) _ whole in
    let first = both_true (truth point clause.guard) _ both.0 in
    record {
      there = there;
      values = ap (λ (k : ℕ). k == length clause.sorts) long ∙ own_number (length clause.sorts);
      placed = its.0;
      guard = first.0;
      head = not_is (token_meets goal (token_head_at point clause)) first.1;
      body = both.1;
    }

pub model-point : (sys : Clauses) (n : ℕ) (goal : Goal) (used : List Used) (clause : Clause) (point : List ℤ) → IsModel sys n goal used clause point → is_point_of sys n point ≡ true
model-point sys n goal used clause point m = ap (λ (o : Option Clause). may_be_point o point) m.there ∙ m.values

pub model-guard : (sys : Clauses) (n : ℕ) (goal : Goal) (used : List Used) (clause : Clause) (point : List ℤ) → IsModel sys n goal used clause point → is_instance_of sys n point ≡ true
model-guard sys n goal used clause point m = ap (λ (o : Option Clause). may_be_instance o point) m.there ∙ from_both (has_values clause point) _ m.values m.guard

pub model-instance : (sys : Clauses) (n : ℕ) (goal : Goal) (used : List Used) (clause : Clause) (point : List ℤ) (seen : Seen) → IsModel sys n goal used clause point
    → seen_clause seen ≡ n → seen_point seen ≡ point → is_seen sys seen ≡ true → IsInstanceFor sys n goal used seen
model-instance sys n goal used clause point seen m number is seen_is = record {
  clause = clause;
  there = m.there;
  number = number;
  seen_is = seen_is;
  placed = m.placed;
  head = ap (λ (p : List ℤ). token_meets goal (token_head_at p clause)) is ∙ m.head;
  body = ap (λ (p : List ℤ). list_all (is_passed p clause) used) is ∙ m.body;
}

-- a clause of which there is a query is there
pub base-within : (sys : Clauses) (n : ℕ) (goal : Goal) → is_some (base_at sys n goal) ≡ true → n < length sys.clauses
base-within sys n goal h = by (slice_get sys.clauses n) refl h
  where
    by : (o : Option Clause) → slice_get sys.clauses n ≡ o → is_some (base_in o goal) ≡ true → n < length sys.clauses
    by None there k = absurd (true≢false (sym k))
    by (Some clause) there k = within sys.clauses n clause there
      where
        within : (cs : List Clause) (i : ℕ) (c : Clause) → slice_get cs i ≡ Some c → i < length cs
        within [] i c at = absurd (cc)
        within (x ∷ cs) zero c at = omega arith
        within (x ∷ cs) (suc i) c at = let rest = within cs i c at in omega (arith, rest)
