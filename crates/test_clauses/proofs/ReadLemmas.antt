-- What is read as a formula over parameters is one over their sorts.
use Rattle.std.proofs.Common.{◌≡◌, ◌≤◌, ℕ, cond, ◌+◌, List, [], ◌∷◌, length, map, Bool, true, false, refl, sym, ap, subst, ◌∙◌, get_or, arith}
use Rattle.std.proofs.lemmas.List.{length-map}
use Rattle.std.specs.Prelude.{Result, Ok, Err}
use Rattle.std.specs.List.{AllByRecursion}
use Rattle.base.specs.Limits.{most_arguments}
use Rattle.sexp_read.specs.declared.tree.Tree.{Tree}
use Rattle.term_tree.specs.declared.sort.Sort.{Sort}
use Rattle.term_tree.specs.declared.sort.Sort.TheVariants.{Int as IntSort, Bool as BoolSort}
use Rattle.term_tree.specs.declared.definition.Definition.{Definition}
use Rattle.term_tree.specs.declared.script.Name.{Name}
use Rattle.term_tree.specs.declared.script.Pred.{Pred}
use Rattle.term_tree.specs.Arena.{Arena, IsArena}
use Rattle.term_tree.specs.Legal.{IsLegal}
use Rattle.term_tree.specs.Solution.{AreFormulas, DefinesEach, IsFormula, has_short_divisor}
use Rattle.term_tree.specs.Subterms.{EverySubterm}
use Rattle.term_tree.specs.Sorts.{same_sort}
use Rattle.term_check.specs.declared.part.Fault.{Fault}
use Rattle.term_check.specs.Parameters.{AreParameters}
use Rattle.term_check.specs.Formula.{bool_term, spelled_formula, params_from}
use Rattle.term_check.specs.Spelling.{SpellingScope, Spelled, scope_of, spelled}
use Rattle.term_check.specs.Term.{Term, IsTermAt}
use Rattle.term_check.proofs.LegalityLemmas.{spelled_legal, spelled_plain}

params_are : (first : ℕ) (ps : List (Name × Sort)) → AreParameters first (params_from first ps) (map (λ p. p.1) ps)
params_are first [] = tt
params_are first (p ∷ ps) = (refl, params_are (first + 1) ps)

bool_sort : (s : Sort) → same_sort s BoolSort ≡ true → s ≡ BoolSort
bool_sort IntSort h = absurd (cc)
bool_sort BoolSort h = refl

sorted_is : (s : Spelled) (body : Term) (t : Bool) → same_sort s.part.sort BoolSort ≡ t → cond {A = Result Term ℕ} t (Ok s.term) (Err s.part.start) ≡ Ok body → (s.part.sort ≡ BoolSort) × (s.term ≡ body)
sorted_is s body true is h = (bool_sort s.part.sort is, cc)
sorted_is s body false is h = absurd (cc)

bool_is : (r : Result Spelled Fault) (body : Term) → bool_term r ≡ Ok body → (s : Spelled) × (r ≡ Ok s) × (s.part.sort ≡ BoolSort) × (s.term ≡ body)
bool_is (Err f) body h = absurd (cc)
bool_is (Ok s) body h = let both = sorted_is s body (same_sort s.part.sort BoolSort) refl h in (s, refl, both.0, both.1)

pub read_formula : (text : List ℕ) (params : List (Name × Sort)) (tree : Tree) (term : Term) (arena : Arena) (id : ℕ) (sorts : List Sort) → IsArena arena.nodes → map (λ p. p.1) params ≡ sorts
    → spelled_formula text params tree ≡ Ok term → IsTermAt arena [] term id → EverySubterm has_short_divisor arena.nodes id → IsFormula sorts arena.nodes id
read_formula text params tree term arena id sorts arranged same reads at short =
    let scope : SpellingScope = scope_of [] (params_from 0 params) false in
    let variables : List Sort = map (λ p. p.1) params in
    let s = bool_is (spelled text scope (length params) tree) term reads in
    let spells : spelled text scope (length variables) tree ≡ Ok s.0 = ap (λ (n : ℕ). spelled text scope n tree) (length-map params (λ p. p.1)) ∙ s.1 in
    let there : IsTermAt arena [] s.0.term id = subst (λ (t : Term). IsTermAt arena [] t id) (sym s.3) at in
    let are = params_are 0 params in
    let legal = spelled_legal text scope variables tree s.0 arena id arranged are spells there in
    record {
      arena = arranged;
      legal = subst (λ (l : List Sort). IsLegal [] arena.nodes l BoolSort id) same (subst (λ (k : Sort). IsLegal [] arena.nodes variables k id) s.2 legal);
      plain = spelled_plain text scope variables tree s.0 arena id arranged are refl refl spells there;
      divisors = short;
    }

-- the one predicate is defined
pub one_defined : (preds : List Pred) (p : Pred) (params : List (Name × Sort)) (d : Definition) → preds ≡ p ∷ [] → map (λ q. q.1) params ≡ p.args
    → (d.pred ≡ 0) × (length d.params ≡ length params) × IsFormula (map (λ q. q.1) params) d.terms.nodes d.body.0 → DefinesEach 0 preds (d ∷ []) × AreFormulas preds (d ∷ [])
one_defined preds p params d one sorts is =
    let long : length d.params ≡ length p.args = is.1 ∙ sym (length-map params (λ q. q.1)) ∙ ap (λ (ss : List Sort). length ss) sorts in
    let formed : IsFormula p.args d.terms.nodes d.body.0 = subst (λ (ss : List Sort). IsFormula ss d.terms.nodes d.body.0) sorts is.2 in
    subst (λ (ps : List Pred). DefinesEach 0 ps (d ∷ []) × AreFormulas ps (d ∷ [])) (sym one) ((is.0, long, tt), (formed, tt))

pub one_few : (preds : List Pred) (p : Pred) (params : List (Name × Sort)) → preds ≡ p ∷ [] → map (λ q. q.1) params ≡ p.args → AllByRecursion (λ (q : Pred). length q.args ≤ most_arguments) preds → length params ≤ most_arguments
one_few preds p params one sorts all =
    let few = (subst (λ (ps : List Pred). AllByRecursion (λ (q : Pred). length q.args ≤ most_arguments) ps) one all).0 in
    let long : length params ≡ length p.args = sym (length-map params (λ q. q.1)) ∙ ap (λ (ss : List Sort). length ss) sorts in
    omega (arith, few, long)

pub one_there : (xs : List Pred) (x : Pred) → length xs ≡ 1 → x ≡ get_or xs 0 x → xs ≡ x ∷ []
one_there [] x long is = absurd (omega (arith, long))
one_there (y ∷ []) x long is = ap (λ (z : Pred). z ∷ []) (sym is)
one_there (y ∷ z ∷ xs) x long is = absurd (omega (arith, long))
