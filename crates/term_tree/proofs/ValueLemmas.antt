-- In an arena a term is worth what its node is worth over its parts.
use Rattle.std.proofs.Common.{◌≡◌, ℕ, zero, suc, ◌+◌, ◌<◌, List, [], ◌∷◌, ◌++◌, length, get_or, true, false, refl, ap, sym, ◌∙◌, subst, arith, length-append, map}
use Rattle.std.proofs.lemmas.List.{get_or_append_left, get_or_push}
use Rattle.std.proofs.lemmas.Option.{get_or_from_slice_get, slice_get_within}
use Rattle.std.specs.Prelude.{slice_get, Some, nat_lt}
use Rattle.std.specs.List.{list_all}
use Rattle.term_tree.specs.declared.node.TermId.{TermId}
use Rattle.term_tree.specs.declared.node.Node.{Node}
use Rattle.term_tree.specs.declared.node.Node.TheVariants.{Num, True, False, Var, LetVar, Pred, Op, Divisible, Let, Forall, Exists}
use Rattle.term_tree.specs.declared.scalar.Value.{Value}
use Rattle.term_tree.specs.declared.scalar.Value.TheVariants.{Bool as Truth}
use Rattle.term_tree.specs.Operators.{result_of, divides, integer}
use Rattle.term_tree.specs.Arena.{is_below, has_parts_below}
use Rattle.term_tree.specs.Value.{Environment, Worth, worth_in, node_worth, worths_from, value_of}
use Rattle.term_tree.proofs.MeaningLemmas.{both_true, below_from}

-- below n the two give the same
abbrev Agree : (ℕ → Worth) → (ℕ → Worth) → ℕ → Type 0
Agree p q n = (c : ℕ) → c < n → p c ≡ q c

same_values : (p q : ℕ → Worth) (n : ℕ) (ids : List TermId) (env : Environment) → Agree p q n → list_all (is_below n) ids ≡ true
    → map (λ arg. p arg.0 env) ids ≡ map (λ arg. q arg.0 env) ids
same_values p q n [] env same below = refl
same_values p q n (id ∷ ids) env same below =
    let both = both_true (nat_lt id.0 n) (list_all (is_below n) ids) below in
    ap (λ (w : Worth). w env ∷ map (λ (arg : TermId). p arg.0 env) ids) (same id.0 (below_from id.0 n both.0))
    ∙ ap (λ (vs : List Value). q id.0 env ∷ vs) (same_values p q n ids env same both.1)

-- what a node is worth rests on its parts alone
same_parts : (p q : ℕ → Worth) (n : ℕ) (node : Node) (env : Environment) → Agree p q n → has_parts_below n node ≡ true → node_worth p node env ≡ node_worth q node env
same_parts p q n (Num k) env same below = refl
same_parts p q n True env same below = refl
same_parts p q n False env same below = refl
same_parts p q n (Var binder sort) env same below = refl
same_parts p q n (LetVar bound) env same below = ap (λ (w : Worth). w env) (same bound.0 (below_from bound.0 n below))
same_parts p q n (Pred pred args) env same below = refl
same_parts p q n (Op op args) env same below = ap (result_of op) (same_values p q n args env same below)
same_parts p q n (Divisible by arg) env same below = ap (λ (w : Worth). Truth (divides by (integer (w env)))) (same arg.0 (below_from arg.0 n below))
same_parts p q n (Let bound body) env same below =
    let both = both_true (list_all (is_below n) bound) (nat_lt body.0 n) below in ap (λ (w : Worth). w env) (same body.0 (below_from body.0 n both.1))
same_parts p q n (Forall first sorts body) env same below = refl
same_parts p q n (Exists first sorts body) env same below = refl

-- what stands earlier stays
keeps : (earlier : List Worth) (nodes : List Node) (k : ℕ) → k < length earlier → worth_in (worths_from earlier nodes) k ≡ worth_in earlier k
keeps earlier [] k h = refl
keeps earlier (node ∷ nodes) k h =
    let w : Worth = node_worth (worth_in earlier) node in
    let longer : k < length (earlier ++ w ∷ []) = omega (arith, length-append earlier (w ∷ [])) in
    keeps (earlier ++ w ∷ []) nodes k longer ∙ get_or_append_left earlier (w ∷ []) (λ env. Truth false) k h

at_node : (earlier : List Worth) (nodes : List Node) (i n : ℕ) (d : Node) (env : Environment) → n ≡ length earlier + i → i < length nodes → has_parts_below n (get_or nodes i d) ≡ true
    → worth_in (worths_from earlier nodes) n env ≡ node_worth (worth_in (worths_from earlier nodes)) (get_or nodes i d) env
at_node earlier [] i n d env e h below = absurd (omega arith)
at_node earlier (node ∷ nodes) zero n d env e h below =
    let w : Worth = node_worth (worth_in earlier) node in
    let here : n ≡ length earlier = omega arith in
    let within : n < length (earlier ++ w ∷ []) = omega (arith, length-append earlier (w ∷ [])) in
    let last : worth_in (earlier ++ w ∷ []) n ≡ w = ap (worth_in (earlier ++ w ∷ [])) here ∙ get_or_push earlier w (λ env. Truth false) (length earlier) refl in
    ap (λ (m : Worth). m env) (keeps (earlier ++ w ∷ []) nodes n within ∙ last)
    ∙ same_parts (worth_in earlier) (worth_in (worths_from earlier (node ∷ nodes))) n node env (λ c lt. sym (keeps earlier (node ∷ nodes) c (omega arith))) below
at_node earlier (node ∷ nodes) (suc i) n d env e h below =
    let w : Worth = node_worth (worth_in earlier) node in
    at_node (earlier ++ w ∷ []) nodes i n d env (omega (arith, length-append earlier (w ∷ []))) (omega arith) below

-- the value of a term by its node
pub value_at : (nodes : List Node) (id : ℕ) (node : Node) (env : Environment) → slice_get nodes id ≡ Some node → has_parts_below id node ≡ true
    → value_of nodes id env ≡ node_worth (value_of nodes) node env
value_at nodes id node env is below =
    let same : get_or nodes id node ≡ node = get_or_from_slice_get nodes id node node is in
    at_node [] nodes id id node env (omega arith) (slice_get_within nodes id node is) (subst (λ (m : Node). has_parts_below id m ≡ true) (sym same) below)
    ∙ ap (λ (m : Node). node_worth (value_of nodes) m env) same
