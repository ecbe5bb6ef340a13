-- Terms that match have the same values, and are true under the same definitions.
use Rattle.std.proofs.Common.{◌≡◌, ℕ, List, [], ◌∷◌, true, false, ap, sym, ◌∙◌, subst}
use Rattle.std.specs.Prelude.{Option, Some, None}
use Rattle.term_tree.specs.declared.sort.Sort.{Sort}
use Rattle.term_tree.specs.declared.node.TermId.{TermId}
use Rattle.term_tree.specs.declared.node.Node.{Node}
use Rattle.term_tree.specs.declared.node.Node.TheVariants.{Num, True, False, Var, LetVar, Pred, Op, Divisible, Let, Forall, Exists}
use Rattle.term_tree.specs.declared.scalar.Value.{Value}
use Rattle.term_tree.specs.declared.scalar.Value.TheVariants.{Int, Bool as Truth}
use Rattle.term_tree.specs.Arena.{IsArena}
use Rattle.term_tree.specs.Operators.{result_of, divides, integer}
use Rattle.term_tree.specs.Value.{Environment, Worth, node_worth, value_of}
use Rattle.term_tree.specs.Truth.{Interpretation, Meaning, AreKnown, Determines, HoldsForAll, HoldsForSome, node_meaning, HasValue}
use Rattle.term_tree.proofs.Public.{has_value_at, value_at}
use Rattle.clause_readings.specs.Matching.{AreMatched, IsNodeLike, AreNodesLike}
use Rattle.clause_readings.proofs.InductionLemmas.{With, by_two, same_map_by}

-- values

module _ (matched : ℕ → ℕ → Type 0) (f g : ℕ → Worth) where
  abbrev Worths : ℕ → ℕ → Type 0
  Worths c d = (env : Environment) → f c env ≡ g d env

  worth_step : (env : Environment) (node other : Node) → IsNodeLike (With matched Worths) node other → node_worth f node env ≡ node_worth g other env
  worth_step env (Num k) other h = ap (λ (m : Node). node_worth g m env) (sym h)
  worth_step env True other h = ap (λ (m : Node). node_worth g m env) (sym h)
  worth_step env False other h = ap (λ (m : Node). node_worth g m env) (sym h)
  worth_step env (Var binder sort) other h = ap (λ (m : Node). node_worth g m env) (sym h)
  worth_step env (LetVar bound) other h = h.2.1 env ∙ ap (λ (m : Node). node_worth g m env) (sym h.1)
  worth_step env (Pred pred args) other h = ap (λ (m : Node). node_worth g m env) (sym h.1)
  worth_step env (Op op args) other h =
      ap (result_of op) (same_map_by (λ c. f c env) (λ d. g d env) (With matched Worths) (λ c d both. both.1 env) args h.0 h.2) ∙ ap (λ (m : Node). node_worth g m env) (sym h.1)
  worth_step env (Divisible by arg) other h = ap (λ (v : Value). Truth (divides by (integer v))) (h.2.1 env) ∙ ap (λ (m : Node). node_worth g m env) (sym h.1)
  worth_step env (Let bound body) other h = h.4.1 env ∙ ap (λ (m : Node). node_worth g m env) (sym h.2)
  worth_step env (Forall first sorts body) other h = ap (λ (m : Node). node_worth g m env) (sym h.1)
  worth_step env (Exists first sorts body) other h = ap (λ (m : Node). node_worth g m env) (sym h.1)

-- truth

-- what the one may be worth the other may be worth
abbrev Passes : Meaning → Meaning → Type 0
Passes f g = (env : Environment) (v : Value) → f env v → g env v

module _ (I : Interpretation) (matched : ℕ → ℕ → Type 0) (f g : ℕ → Meaning) where
  abbrev Meanings : ℕ → ℕ → Type 0
  Meanings c d = Passes (f c) (g d)

  known_pass : (env : Environment) (ids others : List TermId) (known : List (Option Value)) → AreMatched (With matched Meanings) ids others → AreKnown f ids env known → AreKnown g others env known
  known_pass env [] [] known h k = k
  known_pass env [] (o ∷ others) known h k = absurd h
  known_pass env (id ∷ ids) [] known h k = absurd h
  known_pass env (id ∷ ids) (o ∷ others) [] h k = absurd k
  known_pass env (id ∷ ids) (o ∷ others) (Some v ∷ known) h k = (h.0.1 env v k.0, known_pass env ids others known h.1 k.1)
  known_pass env (id ∷ ids) (o ∷ others) (None ∷ known) h k = known_pass env ids others known h.1 k

  determined : (result : List Value → Value) (env : Environment) (v : Value) (ids others : List TermId) → AreMatched (With matched Meanings) ids others → Determines f ids result env v
      → Determines g others result env v
  determined result env v ids others h d = (d.0, known_pass env ids others d.0 h d.1, d.2)

  for_all : (first : ℕ) (sorts : List Sort) (env : Environment) (v : Value) (m n : Meaning) → Passes m n → HoldsForAll m first sorts env v → HoldsForAll n first sorts env v
  for_all first sorts env (Truth true) m n pass h = λ values of. pass _ (Truth true) (h values of)
  for_all first sorts env (Truth false) m n pass h = (h.0, h.1, pass _ (Truth false) h.2)
  for_all first sorts env (Int k) m n pass h = absurd h

  for_some : (first : ℕ) (sorts : List Sort) (env : Environment) (v : Value) (m n : Meaning) → Passes m n → HoldsForSome m first sorts env v → HoldsForSome n first sorts env v
  for_some first sorts env (Truth true) m n pass h = (h.0, h.1, pass _ (Truth true) h.2)
  for_some first sorts env (Truth false) m n pass h = λ values of. pass _ (Truth false) (h values of)
  for_some first sorts env (Int k) m n pass h = absurd h

  abbrev Meant : Environment → Value → Node → Type 0
  Meant env v other = node_meaning I g other env v

  meaning_step : (env : Environment) (v : Value) (node other : Node) → IsNodeLike (With matched Meanings) node other → node_meaning I f node env v → Meant env v other
  meaning_step env v (Num k) other h is = subst (Meant env v) (sym h) is
  meaning_step env v True other h is = subst (Meant env v) (sym h) is
  meaning_step env v False other h is = subst (Meant env v) (sym h) is
  meaning_step env v (Var binder sort) other h is = subst (Meant env v) (sym h) is
  meaning_step env v (LetVar bound) other h is = subst (Meant env v) (sym h.1) (h.2.1 env v is)
  meaning_step env v (Pred pred args) other h is = subst (Meant env v) (sym h.1) (determined (I pred) env v args h.0 h.2 is)
  meaning_step env v (Op op args) other h is = subst (Meant env v) (sym h.1) (determined (result_of op) env v args h.0 h.2 is)
  meaning_step env v (Divisible by arg) other h is = subst (Meant env v) (sym h.1) (determined _ env v (arg ∷ []) (h.0 ∷ []) (h.2, tt) is)
  meaning_step env v (Let bound body) other h is = subst (Meant env v) (sym h.2) (h.4.1 env v is)
  meaning_step env v (Forall first sorts body) other h is = subst (Meant env v) (sym h.1) (for_all first sorts env v (f body.0) (g h.0.0) h.2.1 is)
  meaning_step env v (Exists first sorts body) other h is = subst (Meant env v) (sym h.1) (for_some first sorts env v (f body.0) (g h.0.0) h.2.1 is)

module _ (nodes others : List Node) (matched : ℕ → ℕ → Type 0) (arena : IsArena nodes) (other_arena : IsArena others) (like : AreNodesLike nodes others matched) where
  -- the values are the same
  pub same_value : (a b : ℕ) → matched a b → (env : Environment) → value_of nodes a env ≡ value_of others b env
  same_value = by_two nodes others matched (λ a b. (env : Environment) → value_of nodes a env ≡ value_of others b env) arena other_arena like
      (λ a b node other is there there_too below below_too parts env.
      value_at nodes a node env there below ∙ worth_step matched (value_of nodes) (value_of others) env node other parts ∙ sym (value_at others b other env there_too below_too))

  -- a value that the one has the other has
  pub value_passes : (I : Interpretation) (a b : ℕ) → matched a b → (env : Environment) (v : Value) → HasValue I nodes a env v → HasValue I others b env v
  value_passes I = by_two nodes others matched (λ a b. (env : Environment) (v : Value) → HasValue I nodes a env v → HasValue I others b env v) arena other_arena like
      (λ a b node other is there there_too below below_too parts env v h.
      (has_value_at I others b other env v there_too below_too).back
      (meaning_step I matched (HasValue I nodes) (HasValue I others) env v node other parts ((has_value_at I nodes a node env v there below).forth h)))
