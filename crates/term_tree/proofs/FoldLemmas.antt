-- What is told of a term by its node rests on what is told of the node's parts.
use Rattle.std.proofs.Common.{◌≡◌, ℕ, zero, suc, ◌+◌, ◌<◌, ◌≤◌, List, [], ◌∷◌, ◌++◌, length, get_or, Bool, true, false, inl, inr, refl, ap, sym, ◌∙◌, subst, arith, length-append, map}
use Rattle.std.proofs.lemmas.List.{get_or_append_left, get_or_past, get_or_push}
use Rattle.std.proofs.lemmas.Bool.{cases_lt}
use Rattle.std.proofs.lemmas.Option.{get_or_from_slice_get, slice_get_within}
use Rattle.std.specs.Prelude.{slice_get, Some, None, nat_lt, Option, ℤ, option_map, if◌then◌else◌}
use Rattle.std.specs.List.{list_all}
use Rattle.term_tree.specs.declared.sort.Sort.{Sort}
use Rattle.term_tree.specs.declared.sort.Sort.TheVariants.{Int, Bool as Truth}
use Rattle.term_tree.specs.declared.script.Pred.{Pred as Declared}
use Rattle.term_tree.specs.declared.node.TermId.{TermId}
use Rattle.term_tree.specs.declared.node.Node.{Node}
use Rattle.term_tree.specs.declared.node.Node.TheVariants.{Num, True, False, Var, LetVar, Pred, Op, Divisible, Let, Forall, Exists}
use Rattle.term_tree.specs.Arena.{is_below, has_parts_below}
use Rattle.term_tree.specs.Constants.{node_constant, constant_of, is_arithmetic, integer_result, all_constant}
use Rattle.term_tree.specs.Fold.{told_from, told_of}
use Rattle.term_tree.specs.Head.{node_has_head, has_head}
use Rattle.term_tree.specs.Sorts.{node_sort, sort_of, predicate_sort, operation_sort, sort_if, has_sort, is_sorted}
use Rattle.term_tree.proofs.MeaningLemmas.{both_true, below_from}

-- a node's parts decide what is told of it
abbrev RestsOnParts : (X : Type 0) → ((ℕ → X) → Node → X) → Type 0
RestsOnParts X step = (p q : ℕ → X) (n : ℕ) (node : Node) → ((c : ℕ) → c < n → p c ≡ q c) → has_parts_below n node ≡ true → step p node ≡ step q node

same_parts : {X : Type 0} (p q : ℕ → X) (n : ℕ) (ids : List TermId) → ((c : ℕ) → c < n → p c ≡ q c) → list_all (is_below n) ids ≡ true
    → map (λ (id : TermId). p id.0) ids ≡ map (λ (id : TermId). q id.0) ids
same_parts p q n [] same below = refl
same_parts {X} p q n (id ∷ ids) same below =
    let both = both_true (nat_lt id.0 n) (list_all (is_below n) ids) below in
    ap (λ (x : X). x ∷ map (λ (i : TermId). p i.0) ids) (same id.0 (below_from id.0 n both.0)) ∙ ap (λ (xs : List X). q id.0 ∷ xs) (same_parts p q n ids same both.1)

module _ (X : Type 0) (none : X) (step : (ℕ → X) → Node → X) (rests : RestsOnParts X step) where
  keeps : (earlier : List X) (nodes : List Node) (k : ℕ) → k < length earlier → get_or (told_from none step earlier nodes) k none ≡ get_or earlier k none
  keeps earlier [] k h = refl
  keeps earlier (node ∷ nodes) k h =
      let x : X = step (λ id. get_or earlier id none) node in
      let longer : k < length (earlier ++ x ∷ []) = omega (arith, length-append earlier (x ∷ [])) in
      keeps (earlier ++ x ∷ []) nodes k longer ∙ get_or_append_left earlier (x ∷ []) none k h

  at_node : (earlier : List X) (nodes : List Node) (i n : ℕ) (d : Node) → n ≡ length earlier + i → i < length nodes → has_parts_below n (get_or nodes i d) ≡ true
      → get_or (told_from none step earlier nodes) n none ≡ step (λ id. get_or (told_from none step earlier nodes) id none) (get_or nodes i d)
  at_node earlier [] i n d e h below = absurd (omega arith)
  at_node earlier (node ∷ nodes) zero n d e h below =
      let x : X = step (λ id. get_or earlier id none) node in
      let here : n ≡ length earlier = omega arith in
      let within : n < length (earlier ++ x ∷ []) = omega (arith, length-append earlier (x ∷ [])) in
      let last : get_or (earlier ++ x ∷ []) n none ≡ x = ap (λ (k : ℕ). get_or (earlier ++ x ∷ []) k none) here ∙ get_or_push earlier x none (length earlier) refl in
      keeps (earlier ++ x ∷ []) nodes n within ∙ last
      ∙ rests (λ id. get_or earlier id none) (λ id. get_or (told_from none step earlier (node ∷ nodes)) id none) n node (λ c lt. sym (keeps earlier (node ∷ nodes) c (omega arith))) below
  at_node earlier (node ∷ nodes) (suc i) n d e h below =
      let x : X = step (λ id. get_or earlier id none) node in
      at_node (earlier ++ x ∷ []) nodes i n d (omega (arith, length-append earlier (x ∷ []))) (omega arith) below

  pub told_at : (nodes : List Node) (id : ℕ) (node : Node) → slice_get nodes id ≡ Some node → has_parts_below id node ≡ true
      → told_of none step nodes id ≡ step (told_of none step nodes) node
  told_at nodes id node is below =
      let same : get_or nodes id node ≡ node = get_or_from_slice_get nodes id node node is in
      at_node [] nodes id id node (omega arith) (slice_get_within nodes id node is) (subst (λ (m : Node). has_parts_below id m ≡ true) (sym same) below)
      ∙ ap (λ (m : Node). step (told_of none step nodes) m) same

told_length : (X : Type 0) (none : X) (step : (ℕ → X) → Node → X) (earlier : List X) (nodes : List Node) → length (told_from none step earlier nodes) ≡ length earlier + length nodes
told_length X none step earlier [] = omega arith
told_length X none step earlier (node ∷ nodes) =
    let x : X = step (λ id. get_or earlier id none) node in told_length X none step (earlier ++ x ∷ []) nodes ∙ omega (arith, length-append earlier (x ∷ []))

-- nothing is told of a term that isn't there
pub told_past : (X : Type 0) (none : X) (step : (ℕ → X) → Node → X) (nodes : List Node) (id : ℕ) → length nodes ≤ id → told_of none step nodes id ≡ none
told_past X none step nodes id past = get_or_past (told_from none step [] nodes) id none (omega (arith, told_length X none step [] nodes))

heads_rest : (m : ℕ) (nodes : List Node) → RestsOnParts Bool (node_has_head m nodes)
heads_rest m nodes p q n (Forall first sorts body) same below = same body.0 (below_from body.0 n below)
heads_rest m nodes p q n (Op op args) same below = refl
heads_rest m nodes p q n (Pred pred args) same below = refl
heads_rest m nodes p q n _ same below = refl

sorts_rest : (preds : List Declared) → RestsOnParts (Option Sort) (node_sort preds)
sorts_rest preds p q n (Num k) same below = refl
sorts_rest preds p q n True same below = refl
sorts_rest preds p q n False same below = refl
sorts_rest preds p q n (Var binder sort) same below = refl
sorts_rest preds p q n (LetVar bound) same below = same bound.0 (below_from bound.0 n below)
sorts_rest preds p q n (Pred pred args) same below = ap (predicate_sort (slice_get preds pred)) (same_parts p q n args same below)
sorts_rest preds p q n (Op op args) same below = ap (operation_sort op) (same_parts p q n args same below)
sorts_rest preds p q n (Divisible by arg) same below = ap (λ (s : Option Sort). sort_if (has_sort Int s) Truth) (same arg.0 (below_from arg.0 n below))
sorts_rest preds p q n (Let bound body) same below =
    let both = both_true (list_all (is_below n) bound) (nat_lt body.0 n) below in
    ap (λ (given : List (Option Sort)). if list_all is_sorted given then p body.0 else None) (same_parts p q n bound same both.0)
    ∙ ap (λ (s : Option Sort). if list_all is_sorted (map (λ (b : TermId). q b.0) bound) then s else None) (same body.0 (below_from body.0 n both.1))
sorts_rest preds p q n (Forall first sorts body) same below = ap (λ (s : Option Sort). sort_if (has_sort Truth s) Truth) (same body.0 (below_from body.0 n below))
sorts_rest preds p q n (Exists first sorts body) same below = ap (λ (s : Option Sort). sort_if (has_sort Truth s) Truth) (same body.0 (below_from body.0 n below))

constants_rest : RestsOnParts (Option ℤ) node_constant
constants_rest p q n (Num k) same below = refl
constants_rest p q n True same below = refl
constants_rest p q n False same below = refl
constants_rest p q n (Var binder sort) same below = refl
constants_rest p q n (LetVar bound) same below = same bound.0 (below_from bound.0 n below)
constants_rest p q n (Pred pred args) same below = refl
constants_rest p q n (Op op args) same below =
    ap (λ (given : List (Option ℤ)). if is_arithmetic op then option_map (integer_result op) (all_constant given) else None) (same_parts p q n args same below)
constants_rest p q n (Divisible by arg) same below = refl
constants_rest p q n (Let bound body) same below =
    let both = both_true (list_all (is_below n) bound) (nat_lt body.0 n) below in same body.0 (below_from body.0 n both.1)
constants_rest p q n (Forall first sorts body) same below = refl
constants_rest p q n (Exists first sorts body) same below = refl

-- the sort of a term by its node
pub sort_at : (preds : List Declared) (nodes : List Node) (id : ℕ) (node : Node) → slice_get nodes id ≡ Some node → has_parts_below id node ≡ true
    → sort_of preds nodes id ≡ node_sort preds (sort_of preds nodes) node
sort_at preds nodes id node is below = told_at (Option Sort) None (node_sort preds) (sorts_rest preds) nodes id node is below

-- the value of a constant by its node
pub constant_at : (nodes : List Node) (id : ℕ) (node : Node) → slice_get nodes id ≡ Some node → has_parts_below id node ≡ true
    → constant_of nodes id ≡ node_constant (constant_of nodes) node
constant_at nodes id node is below = told_at (Option ℤ) None node_constant constants_rest nodes id node is below

-- whether a term ends in a predicate, by its node
pub head_at : (n : ℕ) (nodes : List Node) (id : ℕ) (node : Node) → slice_get nodes id ≡ Some node → has_parts_below id node ≡ true
    → has_head n nodes id ≡ node_has_head n nodes (has_head n nodes) node
head_at n nodes id node is below = told_at Bool false (node_has_head n nodes) (heads_rest n nodes) nodes id node is below

-- a term that ends in a predicate is there
pub head_is_there : (n : ℕ) (nodes : List Node) (id : ℕ) → has_head n nodes id ≡ true → id < length nodes
head_is_there n nodes id h = elim (cases_lt id (length nodes))
    [ inl less ↦ less | inr past ↦ absurd (true_not_false (sym h ∙ told_past Bool false (node_has_head n nodes) nodes id past)) ]
  where
    true_not_false : true ≡ false → ⊥
    true_not_false e = absurd (cc)
