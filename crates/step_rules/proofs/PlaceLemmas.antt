-- What stands over its predicate has its places in a clause of that predicate.
use Rattle.std.proofs.Common.{◌≡◌, ◌≤◌, ℕ, List, [], ◌∷◌, length, true, false, ◌&&◌, Some, None, refl, ap, sym, ◌∙◌, subst}
use Rattle.std.specs.Prelude.{Option, is_some, option_map, slice_get, ◌==◌}
use Rattle.std.specs.List.{list_all}
use Rattle.std.proofs.lemmas.Bool.{eqb-true}
use Rattle.base.specs.Limits.{most_arguments}
use Rattle.term_tree.specs.declared.sort.Sort.{Sort}
use Rattle.lin_atoms.specs.declared.lit.Lit.{Lit}
use Rattle.clause_form.specs.System.{Clauses, is_atom, is_clause, is_head as is_legal_head, is_system}
use Rattle.clause_form.specs.Kept.{KeepsAtom}
use Rattle.clause_form.specs.declared.atom.Atom.{Atom}
use Rattle.clause_form.specs.declared.clause.Clause.{Clause}
use Rattle.clause_form.proofs.Public.{keeps, keeps_atom}
use Rattle.cube_forms.specs.Cubes.{cube_is_below}
use Rattle.chc_tokens.specs.Queries.{goal_cube, has_goal, has_places, has_used}
use Rattle.chc_tokens.specs.declared.used.Used.{Used as UsedLemma}
use Rattle.book_rules.specs.Places.{is_over, is_over_atom, places_of, used_has_places}
use Rattle.book_rules.specs.Proofs.{is_head}
use Rattle.book_rules.specs.StallRules.{has_used_atoms}
use Rattle.book_rules.specs.Walks.{has, on}
use Rattle.step_rules.specs.Tokens.{all_used, used_of}
use Rattle.step_rules.specs.machinery.Claims.{goal_for}
use Rattle.cube_rules.proofs.Public.{all_at, both_true, from_both}

no-truth : false ≡ true → ⊥
no-truth e = absurd (cc)

-- of an atom's predicate, with a length for each place
over-atom : (preds : List (List Sort)) (n : ℕ) (atom : Atom) (cube : List Lit) → is_atom preds n atom ≡ true → is_over preds atom.pred cube ≡ true → cube_is_below (length atom.args) cube ≡ true
over-atom preds n atom cube legal over =
    let kept : KeepsAtom preds n atom = keeps_atom preds n atom legal in
    let below : cube_is_below (length kept.sorts) cube ≡ true = sym (ap (λ (found : Option (List Sort)). has (option_map (λ (sorts : List Sort). length sorts) found) (λ k. cube_is_below k cube)) kept.there) ∙ over in
    ap (λ k. cube_is_below k cube) kept.each ∙ below

loosened : (found : Option ℕ) (cube : List Lit) (long : ℕ) → has found (λ n. cube_is_below n cube && (long == n)) ≡ true → has found (λ n. cube_is_below n cube) ≡ true
loosened None cube long h = h
loosened (Some n) cube long h = (both_true (cube_is_below n cube) (long == n) h).0

pub goal-there : (preds : List (List Sort)) (clause : Clause) (pred : Option ℕ) (cube : List Lit) (long : ℕ) → is_clause preds clause ≡ true → is_head pred clause.head ≡ true
    → has (places_of preds pred) (λ n. cube_is_below n cube && (long == n)) ≡ true → has_goal clause (goal_for pred cube) ≡ true
goal-there preds clause None cube long legal head fits = refl
goal-there preds clause (Some p) cube long legal head fits = by clause.head (keeps preds clause legal).head head where
  by : (found : Option Atom) → is_legal_head preds (length clause.sorts) found ≡ true → is_head (Some p) found ≡ true → has_places found cube ≡ true
  by None legal' head' = absurd (no-truth head')
  by (Some atom) legal' head' = over-atom preds (length clause.sorts) atom cube legal' (subst (λ q. is_over preds q cube ≡ true) (eqb-true p atom.pred head') (loosened (places_of preds (Some p)) cube long fits))

pub used-there : (sys : Clauses) (number : ℕ) (clause : Clause) (used : List UsedLemma) → slice_get sys.clauses number ≡ Some clause → is_clause sys.preds clause ≡ true
    → list_all (used_has_places sys number) (all_used used) ≡ true → has_used_atoms clause (all_used used) ≡ true → has_used clause.atoms used ≡ true
used-there sys number clause [] there legal places atoms = refl
used-there sys number clause (u ∷ used) there legal places atoms =
    let place = both_true (used_has_places sys number (used_of u)) (list_all (used_has_places sys number) (all_used used)) places in
    let atom = both_true (is_some (slice_get clause.atoms u.atom)) (has_used_atoms clause (all_used used)) atoms in
    let over : is_over_atom sys.preds (slice_get clause.atoms u.atom) u.lemma ≡ true = sym (ap (λ (found : Option Clause). is_over_atom sys.preds (on found (λ (c : Clause). slice_get c.atoms u.atom)) u.lemma) there) ∙ place.0 in
    from_both (has_places (slice_get clause.atoms u.atom) u.lemma) (has_used clause.atoms used) (by (slice_get clause.atoms u.atom) refl atom.0 over) (used-there sys number clause used there legal place.1 atom.1) where
      by : (found : Option Atom) → slice_get clause.atoms u.atom ≡ found → is_some found ≡ true → is_over_atom sys.preds found u.lemma ≡ true → has_places found u.lemma ≡ true
      by None is some over = absurd (no-truth some)
      by (Some atom) is some over = over-atom sys.preds (length clause.sorts) atom u.lemma (all_at (is_atom sys.preds (length clause.sorts)) clause.atoms u.atom atom is (keeps sys.preds clause legal).atoms) over

-- the goal's cube is the obligation's
pub goal-cube : (pred : Option ℕ) (cube : List Lit) → (pred ≡ None → cube ≡ []) → goal_cube (goal_for pred cube) ≡ cube
goal-cube None cube bare = sym (bare refl)
goal-cube (Some p) cube bare = refl

pub few-arguments : (preds : List (List Sort)) (clause : Clause) (i : ℕ) (atom : Atom) → is_clause preds clause ≡ true → slice_get clause.atoms i ≡ Some atom → length atom.args ≤ most_arguments
few-arguments preds clause i atom legal there = (keeps_atom preds (length clause.sorts) atom (all_at (is_atom preds (length clause.sorts)) clause.atoms i atom there (keeps preds clause legal).atoms)).few

pub legal-clause : (sys : Clauses) (number : ℕ) (clause : Clause) → is_system sys ≡ true → slice_get sys.clauses number ≡ Some clause → is_clause sys.preds clause ≡ true
legal-clause sys number clause legal there = all_at (is_clause sys.preds) sys.clauses number clause there legal
