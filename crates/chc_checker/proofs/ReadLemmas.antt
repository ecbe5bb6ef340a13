-- The definitions that a text spells are formulas over the arguments of the predicates, in order.
use Rattle.std.proofs.Common.{◌≡◌, ℕ, suc, cond, ◌+◌, ◌<◌, ◌^◌, List, [], ◌∷◌, length, map, Bool, true, false, refl, sym, ap, subst, ◌∙◌, arith}
use Rattle.std.proofs.lemmas.List.{length-map}
use Rattle.std.specs.Prelude.{Some, Result, Ok, Err, slice_get, ℤ, pos, negsuc, int_lt}
use Rattle.term_tree.specs.declared.node.Node.{Node}
use Rattle.term_tree.specs.declared.node.Node.TheVariants.{Divisible}
use Rattle.term_tree.specs.declared.sort.Sort.{Sort}
use Rattle.term_tree.specs.declared.sort.Sort.TheVariants.{Int as IntSort, Bool as BoolSort}
use Rattle.term_tree.specs.declared.script.Name.{Name}
use Rattle.term_tree.specs.declared.script.Pred.{Pred}
use Rattle.term_tree.specs.declared.script.Script.{Script}
use Rattle.term_tree.specs.declared.definition.Definition.{Definition}
use Rattle.term_tree.specs.Constants.{constant_of, is_linear, is_short}
use Rattle.term_tree.specs.Legal.{IsLegal}
use Rattle.term_tree.specs.Solution.{AreFormulas, DefinesEach, IsFormula, has_short_divisor}
use Rattle.term_tree.specs.Subterms.{EverySubterm}
use Rattle.term_tree.specs.Sorts.{same_sort}
use Rattle.term_check.specs.declared.part.Fault.{Fault}
use Rattle.term_check.specs.Parameters.{AreParameters}
use Rattle.term_check.specs.Formula.{bool_term, params_from}
use Rattle.term_check.specs.Spelling.{SpellingScope, Spelled, scope_of, spelled, sorts_in, sorts_of}
use Rattle.term_check.specs.Term.{Term, IsTermAt}
use Rattle.term_check.proofs.LegalityLemmas.{spelled_legal, spelled_plain}
use Rattle.answer_text.specs.Read.{AreDefinitions, IsDefinition, IsReply, Spells}
use Rattle.answer_text.specs.Reading.{Defined, Reply, reply}
use Rattle.answer_text.specs.Reading.Reply.{model, refutation}
use Rattle.answer_text.specs.declared.answer.Answer.{Answer}
use Rattle.answer_text.specs.declared.answer.Answer.TheVariants.{Sat, Unsat, Unknown}
use Rattle.answer_laws.proofs.FormulaLemmas.{AreRight, IsRight, all_read, reply_right}
use Rattle.clause_normal.proofs.MadeLemmas.{subterm_most}
use Rattle.chc_checker.specs.Verdicts.{IsCheckable}
use Rattle.chc_checker.specs.machinery.Reading.{AreFit, HasFittingDivisors, IsFit}

params_are : (first : ℕ) (ps : List (Name × Sort)) → AreParameters first (params_from first ps) (map (λ p. p.1) ps)
params_are first [] = tt
params_are first (p ∷ ps) = (refl, params_are (first + 1) ps)

bool_sort : (s : Sort) → same_sort s BoolSort ≡ true → s ≡ BoolSort
bool_sort IntSort h = absurd (cc)
bool_sort BoolSort h = refl

sorted_is : (s : Spelled) (body : Term) (t : Bool) → same_sort s.part.sort BoolSort ≡ t → cond {A = Result Term ℕ} t (Ok s.term) (Err s.part.start) ≡ Ok body → (s.part.sort ≡ BoolSort) × (s.term ≡ body)
sorted_is s body true is h = (bool_sort s.part.sort is, cc)
sorted_is s body false is h = absurd (cc)

bool_is : (r : Result Spelled Fault) (body : Term) → bool_term r ≡ Ok body → (s : Spelled) × (r ≡ Ok s) × (s.part.sort ≡ BoolSort) × (s.term ≡ body)
bool_is (Err f) body h = absurd (cc)
bool_is (Ok s) body h = let both = sorted_is s body (same_sort s.part.sort BoolSort) refl h in (s, refl, both.0, both.1)

-- a divisor that is positive and has 64 bits is short
short_by : (by : ℤ) → int_lt (pos 0) by ≡ true → int_lt by (pos (2 ^ 63)) ≡ true → is_short by ≡ true
short_by (pos n) positive small = small
short_by (negsuc n) positive small = absurd (cc)

short_node : (nodes : List Node) (id : ℕ) (node : Node) → HasFittingDivisors nodes → id < 2 ^ 32 → slice_get nodes id ≡ Some node → is_linear (constant_of nodes) node ≡ true → has_short_divisor node ≡ true
short_node nodes id (Divisible by arg) fit less at linear = short_by by linear (fit id by arg less at)
short_node nodes id _ fit less at linear = refl

short_divisors : (e : Definition) → IsFit e → EverySubterm (is_linear (constant_of e.terms.nodes)) e.terms.nodes e.body.0 → EverySubterm has_short_divisor e.terms.nodes e.body.0
short_divisors e fit linear = λ id node sub at.
    let most = subterm_most e.terms.nodes fit.arena e.body.0 id sub in
    let number = fit.number in
    short_node e.terms.nodes id node fit.divisors (omega (arith, most, number)) at (linear id node sub at)

module _ (text : List ℕ) (preds : List Pred) where
  -- the term of a definition that is read is a formula over the sorts of the arguments
  formula_is : (d : Defined) (right : IsRight text preds d) (e : Definition) → IsDefinition d e → IsFit e → (sorts : List Sort) → sorts_of preds d.pred ≡ sorts → IsFormula sorts e.terms.nodes e.body.0
  formula_is d right e is fit sorts same =
      let scope : SpellingScope = scope_of [] (params_from 0 d.params) false in
      let s = bool_is (spelled text scope (length d.params) right.tree) d.body right.body in
      let variables : List Sort = map (λ p. p.1) d.params in
      let reads : spelled text scope (length variables) right.tree ≡ Ok s.0 = ap (λ (n : ℕ). spelled text scope n right.tree) (length-map d.params (λ p. p.1)) ∙ s.1 in
      let at : IsTermAt e.terms [] s.0.term e.body.0 = subst (λ (t : Term). IsTermAt e.terms [] t e.body.0) (sym s.3) is.term in
      let are = params_are 0 d.params in
      let legal = spelled_legal text scope variables right.tree s.0 e.terms e.body.0 fit.arena are reads at in
      let own : IsLegal [] e.terms.nodes sorts BoolSort e.body.0 =
      subst (λ (l : List Sort). IsLegal [] e.terms.nodes l BoolSort e.body.0) (right.sorts ∙ same) (subst (λ (k : Sort). IsLegal [] e.terms.nodes variables k e.body.0) s.2 legal) in
      record {
        arena = fit.arena;
        legal = own;
        plain = spelled_plain text scope variables right.tree s.0 e.terms e.body.0 fit.arena are refl refl reads at;
        divisors = short_divisors e fit own.linear;
      }

  each_formed : (number : ℕ) (rest : List Pred) (rs : List Defined) (es : List Definition) → ((k : ℕ) (p : Pred) → slice_get rest k ≡ Some p → slice_get preds (number + k) ≡ Some p)
      → AreRight text preds number rest rs → AreDefinitions rs es → AreFit es → DefinesEach number rest es × AreFormulas rest es
  each_formed number [] [] [] stand right are fit = (tt, tt)
  each_formed number [] [] (e ∷ es) stand right are fit = absurd are
  each_formed number [] (r ∷ rs) es stand right are fit = absurd right
  each_formed number (p ∷ rest) [] es stand right are fit = absurd right
  each_formed number (p ∷ rest) (r ∷ rs) [] stand right are fit = absurd are
  each_formed number (p ∷ rest) (r ∷ rs) (e ∷ es) stand right are fit =
      let here : slice_get preds number ≡ Some p = ap (λ (k : ℕ). slice_get preds k) (let n : number ≡ number + 0 = omega arith in n) ∙ stand 0 p refl in
      let sorts : sorts_of preds r.pred ≡ p.args = ap (sorts_of preds) right.0 ∙ ap sorts_in here in
      let later = each_formed (number + 1) rest rs es
      (λ k q there. ap (λ (i : ℕ). slice_get preds i) (let n : number + 1 + k ≡ number + suc k = omega arith in n) ∙ stand (suc k) q there) right.2 are.1 fit.1 in
      let one = right.1 in
      let is = are.0 in
      let named : length e.params ≡ length r.params = ap (λ (names : List Name). length names) is.params ∙ length-map r.params (λ p. p.0) in
      let long : length r.params ≡ length p.args = sym (length-map r.params (λ p. p.1)) ∙ ap (λ (ss : List Sort). length ss) (one.sorts ∙ sorts) in (
        (is.pred ∙ right.0, named ∙ long, later.0),
        (formula_is r one e is fit.0 p.args sorts, later.1),
      )

pub checkable : (script : Script) (answer : Answer) (text : List ℕ) → ((definitions : List Definition) → answer ≡ Sat definitions → AreFit definitions) → Spells script.preds text answer → IsCheckable script answer
checkable script (Sat es) text fit spells = by spells.claimed spells.spelled spells.is
  where
    by : (claimed : Reply) → reply text spells.stop script.preds spells.trees ≡ Ok claimed → IsReply claimed (Sat es) → IsCheckable script (Sat es)
    by (model rs) is are =
        each_formed text script.preds 0 script.preds rs es (λ k p there. ap (λ (i : ℕ). slice_get script.preds i) (let n : 0 + k ≡ k = omega arith in n) ∙ there)
        (reply_right text script.preds spells.stop spells.trees rs (all_read text 0 0 spells.trees spells.reading.0 spells.reading.1) is) are (fit es refl)
    by (refutation lines) is are = absurd are
checkable script (Unsat lines) text fit spells = tt
checkable script (Unknown level cause) text fit spells = by spells.claimed spells.is
  where
    by : (claimed : Reply) → IsReply claimed (Unknown level cause) → ⊥
    by (model rs) are = are
    by (refutation lines) are = are
