-- What is read of a printed model are formulas over the arguments of the predicates.
use Rattle.std.proofs.Common.{◌≡◌, ℕ, suc, cond, ◌+◌, List, [], ◌∷◌, length, map, Bool, true, false, refl, sym, ap, subst, ◌∙◌, arith}
use Rattle.std.proofs.lemmas.List.{length-map}
use Rattle.std.specs.Prelude.{Some, Result, Ok, Err, slice_get}
use Rattle.sexp_read.specs.declared.tree.Tree.{Tree}
use Rattle.term_tree.specs.declared.sort.Sort.{Sort}
use Rattle.term_tree.specs.declared.sort.Sort.TheVariants.{Int as IntSort, Bool as BoolSort}
use Rattle.term_tree.specs.declared.script.Name.{Name}
use Rattle.term_tree.specs.declared.script.Pred.{Pred}
use Rattle.term_tree.specs.declared.definition.Definition.{Definition}
use Rattle.term_tree.specs.Arena.{Arena, IsArena}
use Rattle.term_tree.specs.Legal.{IsLegal}
use Rattle.term_tree.specs.Subterms.{IsPlain}
use Rattle.term_tree.specs.Solution.{AreFormulas}
use Rattle.term_tree.specs.Sorts.{same_sort}
use Rattle.term_check.specs.declared.part.Fault.{Fault}
use Rattle.term_check.specs.Parameters.{AreParameters}
use Rattle.term_check.specs.Formula.{bool_term, params_from}
use Rattle.term_check.specs.Spelling.{SpellingScope, Spelled, scope_of, spelled, sorts_in, sorts_of}
use Rattle.term_check.specs.Term.{Term, IsTermAt}
use Rattle.term_check.proofs.Public.{spelled_legal}
use Rattle.answer_text.specs.Read.{IsDefinition, AreDefinitions, IsReply, Spells}
use Rattle.answer_text.specs.Reading.{Defined, Reply, reply}
use Rattle.answer_text.specs.Reading.Reply.{model, refutation}
use Rattle.answer_text.specs.declared.answer.Answer.TheVariants.{Sat}
use Rattle.answer_text.specs.ReadBack.{AreSameDefinitions}
use Rattle.answer_laws.proofs.FormulaLemmas.{IsRight, AreRight, all_read, reply_right}
use Rattle.answer_laws.proofs.PartnerLemmas.{short_divisors}

params_are : (first : ℕ) (ps : List (Name × Sort)) → AreParameters first (params_from first ps) (map (λ p. p.1) ps)
params_are first [] = tt
params_are first (p ∷ ps) = (refl, params_are (first + 1) ps)

bool_sort : (s : Sort) → same_sort s BoolSort ≡ true → s ≡ BoolSort
bool_sort IntSort h = absurd (cc)
bool_sort BoolSort h = refl

-- a formula is a Bool term
sorted_is : (s : Spelled) (body : Term) (t : Bool) → same_sort s.part.sort BoolSort ≡ t → cond {A = Result Term ℕ} t (Ok s.term) (Err s.part.start) ≡ Ok body → (s.part.sort ≡ BoolSort) × (s.term ≡ body)
sorted_is s body true is h = (bool_sort s.part.sort is, cc)
sorted_is s body false is h = absurd (cc)

pub bool_is : (r : Result Spelled Fault) (body : Term) → bool_term r ≡ Ok body → (s : Spelled) × (r ≡ Ok s) × (s.part.sort ≡ BoolSort) × (s.term ≡ body)
bool_is (Err f) body h = absurd (cc)
bool_is (Ok s) body h = let both = sorted_is s body (same_sort s.part.sort BoolSort) refl h in (s, refl, both.0, both.1)

-- terms over parameters, without predicates and quantifiers, are plain
abbrev pub PlainLaw : Type 0
PlainLaw = (text : List ℕ) (scope : SpellingScope) (variables : List Sort) (tree : Tree) (s : Spelled) (arena : Arena) (id : ℕ) → IsArena arena.nodes → AreParameters 0 scope.names variables
    → scope.preds ≡ [] → scope.quantifies ≡ false → spelled text scope (length variables) tree ≡ Ok s → IsTermAt arena [] s.term id → IsPlain arena.nodes id

module _ (plain_law : PlainLaw) (text : List ℕ) (preds : List Pred) where
  -- the term of a definition that is read is legal over the sorts of the arguments, and plain
  legal_plain : (d : Defined) (right : IsRight text preds d) (e : Definition) → IsDefinition d e → (sorts : List Sort) → sorts_of preds d.pred ≡ sorts
      → IsLegal [] e.terms.nodes sorts BoolSort e.body.0 × IsPlain e.terms.nodes e.body.0
  legal_plain d right e is sorts same =
      let arena = is.arena in
      let scope : SpellingScope = scope_of [] (params_from 0 d.params) false in
      let s = bool_is (spelled text scope (length d.params) right.tree) d.body right.body in
      let variables : List Sort = map (λ p. p.1) d.params in
      let reads : spelled text scope (length variables) right.tree ≡ Ok s.0 = ap (λ (n : ℕ). spelled text scope n right.tree) (length-map d.params (λ p. p.1)) ∙ s.1 in
      let at : IsTermAt e.terms [] s.0.term e.body.0 = subst (λ (t : Term). IsTermAt e.terms [] t e.body.0) (sym s.3) is.term in
      let are = params_are 0 d.params in
      let legal = spelled_legal text scope variables right.tree s.0 e.terms e.body.0 arena are reads at in (
        subst (λ (l : List Sort). IsLegal [] e.terms.nodes l BoolSort e.body.0) (right.sorts ∙ same) (subst (λ (k : Sort). IsLegal [] e.terms.nodes variables k e.body.0) s.2 legal),
        plain_law text scope variables right.tree s.0 e.terms e.body.0 arena are refl refl reads at,
      )

  formed_from : (number : ℕ) (rest : List Pred) (ds : List Definition) (rs : List Defined) (es : List Definition)
      → ((k : ℕ) (p : Pred) → slice_get rest k ≡ Some p → slice_get preds (number + k) ≡ Some p)
      → AreRight text preds number rest rs → AreDefinitions rs es → AreFormulas rest ds → AreSameDefinitions ds es → AreFormulas rest es
  formed_from number [] ds rs es stand right are formed same = tt
  formed_from number (p ∷ rest) ds [] es stand right are formed same = absurd right
  formed_from number (p ∷ rest) ds (r ∷ rs) [] stand right are formed same = absurd are
  formed_from number (p ∷ rest) [] (r ∷ rs) (e ∷ es) stand right are formed same = absurd same
  formed_from number (p ∷ rest) (d ∷ ds) (r ∷ rs) (e ∷ es) stand right are formed same =
      let here : slice_get preds number ≡ Some p = ap (λ (k : ℕ). slice_get preds k) (let n : number ≡ number + 0 = omega arith in n) ∙ stand 0 p refl in
      let sorts : sorts_of preds r.pred ≡ p.args = ap (sorts_of preds) right.0 ∙ ap sorts_in here in
      let both = legal_plain r right.1 e are.0 p.args sorts in (
        record {
          arena = are.0.arena;
          legal = both.0;
          plain = both.1;
          divisors = short_divisors d.terms.nodes e.terms.nodes formed.0.arena d.body.0 e.body.0 same.0.term formed.0.divisors;
        },
        formed_from (number + 1) rest ds rs es (λ k q there. ap (λ (i : ℕ). slice_get preds i) (let n : number + 1 + k ≡ number + suc k = omega arith in n) ∙ stand (suc k) q there) right.2 are.1 formed.1 same.1,
      )

  -- definitions that are read as the same ones as formulas are formulas
  pub read_formed : (ds es : List Definition) → AreFormulas preds ds → AreSameDefinitions ds es → Spells preds text (Sat es) → AreFormulas preds es
  read_formed ds es formed same spells = by spells.claimed spells.spelled spells.is
    where
      by : (claimed : Reply) → reply text spells.stop preds spells.trees ≡ Ok claimed → IsReply claimed (Sat es) → AreFormulas preds es
      by (model rs) is are = formed_from 0 preds ds rs es (λ k p there. ap (λ (i : ℕ). slice_get preds i) (let n : 0 + k ≡ k = omega arith in n) ∙ there) (reply_right text preds spells.stop spells.trees rs (all_read text 0 0 spells.trees spells.reading.0 spells.reading.1) is) are formed same
      by (refutation lines) is are = absurd are
