-- What is told of a term by its node, where what is told is a function: at each argument it rests on what is told of the
-- node's parts.
use Rattle.std.proofs.Common.{◌≡◌, ℕ, zero, suc, ◌+◌, ◌<◌, ◌==◌, List, [], ◌∷◌, ◌++◌, length, get_or, Bool, true, false, ◌&&◌, refl, ap, sym, ◌∙◌, subst, arith, length-append}
use Rattle.std.proofs.lemmas.List.{get_or_append_left, get_or_push}
use Rattle.std.proofs.lemmas.Option.{get_or_from_slice_get, slice_get_within}
use Rattle.std.specs.Prelude.{slice_get, Option, Some, None, nat_lt, if◌then◌else◌}
use Rattle.std.specs.List.{list_all}
use Rattle.term_tree.specs.declared.node.TermId.{TermId}
use Rattle.term_tree.specs.declared.node.Node.{Node}
use Rattle.term_tree.specs.declared.node.Node.TheVariants.{Num, True, False, Var, LetVar, Pred, Op, Divisible, Let, Forall, Exists}
use Rattle.term_tree.specs.Arena.{is_below, has_parts_below}
use Rattle.term_tree.specs.Fold.{told_from, told_of}
use Rattle.term_tree.specs.Legal.{NamesInScope, with_variables, with_bound, has_some, node_is_scoped, is_scoped, carried, numbers_through, node_numbers, next_variable}
use Rattle.term_tree.specs.Same.{parts_of, is_alike, same_parts, same_node, node_is_same, is_same_tree}
use Rattle.term_tree.proofs.MeaningLemmas.{both_true, below_from}

-- the two tell the same below n
abbrev Agree : (A X : Type 0) → (ℕ → A → X) → (ℕ → A → X) → ℕ → Type 0
Agree A X p q n = (c : ℕ) → c < n → (a : A) → p c a ≡ q c a

-- a node's parts decide what is told of it
abbrev RestsOnParts : (A X : Type 0) → ((ℕ → A → X) → Node → A → X) → Type 0
RestsOnParts A X step = (p q : ℕ → A → X) (n : ℕ) (node : Node) (a : A) → Agree A X p q n → has_parts_below n node ≡ true → step p node a ≡ step q node a

module _ (A X : Type 0) (none : A → X) (step : (ℕ → A → X) → Node → A → X) (rests : RestsOnParts A X step) where
  keeps : (earlier : List (A → X)) (nodes : List Node) (k : ℕ) (a : A) → k < length earlier → get_or (told_from none step earlier nodes) k none a ≡ get_or earlier k none a
  keeps earlier [] k a h = refl
  keeps earlier (node ∷ nodes) k a h =
      let x : A → X = step (λ id. get_or earlier id none) node in
      let longer : k < length (earlier ++ x ∷ []) = omega (arith, length-append earlier (x ∷ [])) in
      keeps (earlier ++ x ∷ []) nodes k a longer ∙ ap (λ (f : A → X). f a) (get_or_append_left earlier (x ∷ []) none k h)

  at_node : (earlier : List (A → X)) (nodes : List Node) (i n : ℕ) (d : Node) (a : A) → n ≡ length earlier + i → i < length nodes → has_parts_below n (get_or nodes i d) ≡ true
      → get_or (told_from none step earlier nodes) n none a ≡ step (λ id. get_or (told_from none step earlier nodes) id none) (get_or nodes i d) a
  at_node earlier [] i n d a e h below = absurd (omega arith)
  at_node earlier (node ∷ nodes) zero n d a e h below =
      let x : A → X = step (λ id. get_or earlier id none) node in
      let here : n ≡ length earlier = omega arith in
      let within : n < length (earlier ++ x ∷ []) = omega (arith, length-append earlier (x ∷ [])) in
      let last : get_or (earlier ++ x ∷ []) n none ≡ x = ap (λ (k : ℕ). get_or (earlier ++ x ∷ []) k none) here ∙ get_or_push earlier x none (length earlier) refl in
      keeps (earlier ++ x ∷ []) nodes n a within ∙ ap (λ (f : A → X). f a) last
      ∙ rests (λ id. get_or earlier id none) (λ id. get_or (told_from none step earlier (node ∷ nodes)) id none) n node a (λ c lt b. sym (keeps earlier (node ∷ nodes) c b (omega arith))) below
  at_node earlier (node ∷ nodes) (suc i) n d a e h below =
      let x : A → X = step (λ id. get_or earlier id none) node in
      at_node (earlier ++ x ∷ []) nodes i n d a (omega (arith, length-append earlier (x ∷ []))) (omega arith) below

  pub told_at_each : (nodes : List Node) (id : ℕ) (node : Node) (a : A) → slice_get nodes id ≡ Some node → has_parts_below id node ≡ true
      → told_of none step nodes id a ≡ step (told_of none step nodes) node a
  told_at_each nodes id node a is below =
      let same : get_or nodes id node ≡ node = get_or_from_slice_get nodes id node node is in
      at_node [] nodes id id node a (omega arith) (slice_get_within nodes id node is) (subst (λ (m : Node). has_parts_below id m ≡ true) (sym same) below)
      ∙ ap (λ (m : Node). step (told_of none step nodes) m a) same

-- all parts, where each is asked the same
all_rest : {A : Type 0} (p q : ℕ → A → Bool) (n : ℕ) (ids : List TermId) (a : A) → Agree A Bool p q n → list_all (is_below n) ids ≡ true
    → list_all (λ id. p id.0 a) ids ≡ list_all (λ id. q id.0 a) ids
all_rest p q n [] a same below = refl
all_rest p q n (id ∷ ids) a same below =
    let both = both_true (nat_lt id.0 n) (list_all (is_below n) ids) below in
    ap (λ (b : Bool). b && list_all (λ (i : TermId). p i.0 a) ids) (same id.0 (below_from id.0 n both.0) a)
    ∙ ap (λ (b : Bool). q id.0 a && b) (all_rest p q n ids a same both.1)

scopes_rest : RestsOnParts NamesInScope Bool node_is_scoped
scopes_rest p q n (Num k) scope same below = refl
scopes_rest p q n True scope same below = refl
scopes_rest p q n False scope same below = refl
scopes_rest p q n (Var binder sort) scope same below = refl
scopes_rest p q n (LetVar bound) scope same below = refl
scopes_rest p q n (Pred pred args) scope same below = all_rest p q n args scope same below
scopes_rest p q n (Op op args) scope same below = all_rest p q n args scope same below
scopes_rest p q n (Divisible by arg) scope same below = same arg.0 (below_from arg.0 n below) scope
scopes_rest p q n (Let bound body) scope same below =
    let both = both_true (list_all (is_below n) bound) (nat_lt body.0 n) below in
    ap (λ (b : Bool). has_some bound && (b && p body.0 (with_bound bound scope))) (all_rest p q n bound scope same both.0)
    ∙ ap (λ (b : Bool). has_some bound && (list_all (λ (i : TermId). q i.0 scope) bound && b)) (same body.0 (below_from body.0 n both.1) (with_bound bound scope))
scopes_rest p q n (Forall first sorts body) scope same below =
    ap (λ (b : Bool). has_some sorts && b) (same body.0 (below_from body.0 n below) (with_variables first sorts scope))
scopes_rest p q n (Exists first sorts body) scope same below =
    ap (λ (b : Bool). has_some sorts && b) (same body.0 (below_from body.0 n below) (with_variables first sorts scope))

carried_on : (f g : ℕ → Option ℕ) (x : Option ℕ) → ((n : ℕ) → f n ≡ g n) → carried f x ≡ carried g x
carried_on f g None same = refl
carried_on f g (Some n) same = same n

through_rest : (p q : ℕ → ℕ → Option ℕ) (n : ℕ) (ids : List TermId) (next : ℕ) → Agree ℕ (Option ℕ) p q n → list_all (is_below n) ids ≡ true
    → numbers_through p ids next ≡ numbers_through q ids next
through_rest p q n [] next same below = refl
through_rest p q n (id ∷ ids) next same below =
    let both = both_true (nat_lt id.0 n) (list_all (is_below n) ids) below in
    ap (carried (λ k. numbers_through p ids k)) (same id.0 (below_from id.0 n both.0) next)
    ∙ carried_on (λ k. numbers_through p ids k) (λ k. numbers_through q ids k) (q id.0 next) (λ k. through_rest p q n ids k same both.1)

pushed_below : (n : ℕ) (ids : List TermId) (id : TermId) → list_all (is_below n) ids ≡ true → nat_lt id.0 n ≡ true → list_all (is_below n) (ids ++ id ∷ []) ≡ true
pushed_below n [] id below less = ap (λ (b : Bool). b && true) less
pushed_below n (k ∷ ids) id below less =
    let both = both_true (nat_lt k.0 n) (list_all (is_below n) ids) below in
    ap (λ (b : Bool). b && list_all (is_below n) (ids ++ id ∷ [])) both.0 ∙ pushed_below n ids id both.1 less

bound_numbers : (p q : ℕ → ℕ → Option ℕ) (n first : ℕ) (body : TermId) (next count : ℕ) → Agree ℕ (Option ℕ) p q n → nat_lt body.0 n ≡ true
    → (if first == next then p body.0 (next + count) else None) ≡ (if first == next then q body.0 (next + count) else None)
bound_numbers p q n first body next count same below = ap (λ (x : Option ℕ). if first == next then x else None) (same body.0 (below_from body.0 n below) (next + count))

numbers_rest : RestsOnParts ℕ (Option ℕ) node_numbers
numbers_rest p q n (Num k) next same below = refl
numbers_rest p q n True next same below = refl
numbers_rest p q n False next same below = refl
numbers_rest p q n (Var binder sort) next same below = refl
numbers_rest p q n (LetVar bound) next same below = refl
numbers_rest p q n (Pred pred args) next same below = through_rest p q n args next same below
numbers_rest p q n (Op op args) next same below = through_rest p q n args next same below
numbers_rest p q n (Divisible by arg) next same below = same arg.0 (below_from arg.0 n below) next
numbers_rest p q n (Let bound body) next same below =
    let both = both_true (list_all (is_below n) bound) (nat_lt body.0 n) below in through_rest p q n (bound ++ body ∷ []) next same (pushed_below n bound body both.0 both.1)
numbers_rest p q n (Forall first sorts body) next same below = bound_numbers p q n first body next (length sorts) same below
numbers_rest p q n (Exists first sorts body) next same below = bound_numbers p q n first body next (length sorts) same below

-- the parts of a node are below where it may stand
pub all_below : (n : ℕ) (node : Node) → has_parts_below n node ≡ true → list_all (is_below n) (parts_of node) ≡ true
all_below n (Num k) below = refl
all_below n True below = refl
all_below n False below = refl
all_below n (Var binder sort) below = refl
all_below n (LetVar bound) below = ap (λ (b : Bool). b && true) below
all_below n (Pred pred args) below = below
all_below n (Op op args) below = below
all_below n (Divisible by arg) below = ap (λ (b : Bool). b && true) below
all_below n (Let bound body) below =
    let both = both_true (list_all (is_below n) bound) (nat_lt body.0 n) below in ap (λ (b : Bool). b && list_all (is_below n) bound) both.1 ∙ both.0
all_below n (Forall first sorts body) below = ap (λ (b : Bool). b && true) below
all_below n (Exists first sorts body) below = ap (λ (b : Bool). b && true) below

parts_rest : (p q : ℕ → ℕ → Bool) (n : ℕ) (ids others : List TermId) → Agree ℕ Bool p q n → list_all (is_below n) ids ≡ true → same_parts p ids others ≡ same_parts q ids others
parts_rest p q n [] [] same below = refl
parts_rest p q n [] (other ∷ others) same below = refl
parts_rest p q n (id ∷ ids) [] same below = refl
parts_rest p q n (id ∷ ids) (other ∷ others) same below =
    let both = both_true (nat_lt id.0 n) (list_all (is_below n) ids) below in
    ap (λ (b : Bool). b && same_parts p ids others) (same id.0 (below_from id.0 n both.0) other.0) ∙ ap (λ (b : Bool). q id.0 other.0 && b) (parts_rest p q n ids others same both.1)

trees_rest : (others : List Node) → RestsOnParts ℕ Bool (node_is_same others)
trees_rest others p q n node id same below = by_other (slice_get others id)
  where
    by_other : (other : Option Node) → same_node p node other ≡ same_node q node other
    by_other None = refl
    by_other (Some other) = ap (λ (b : Bool). is_alike node other && b) (parts_rest p q n (parts_of node) (parts_of other) same (all_below n node below))

-- whether a term's names are bound, by its node
pub scoped_at : (nodes : List Node) (id : ℕ) (node : Node) (scope : NamesInScope) → slice_get nodes id ≡ Some node → has_parts_below id node ≡ true
    → is_scoped nodes id scope ≡ node_is_scoped (is_scoped nodes) node scope
scoped_at nodes id node scope is below = told_at_each NamesInScope Bool (λ s. false) node_is_scoped scopes_rest nodes id node scope is below

-- the number of the next variable, by the term's node
pub numbered_at : (nodes : List Node) (id : ℕ) (node : Node) (next : ℕ) → slice_get nodes id ≡ Some node → has_parts_below id node ≡ true
    → next_variable nodes id next ≡ node_numbers (next_variable nodes) node next
numbered_at nodes id node next is below = told_at_each ℕ (Option ℕ) (λ n. None) node_numbers numbers_rest nodes id node next is below

-- equality of trees, by the nodes
pub same_at : (nodes others : List Node) (id other : ℕ) (node : Node) → slice_get nodes id ≡ Some node → has_parts_below id node ≡ true
    → is_same_tree nodes id others other ≡ node_is_same others (λ i. is_same_tree nodes i others) node other
same_at nodes others id other node is below = told_at_each ℕ Bool (λ j. false) (node_is_same others) (trees_rest others) nodes id node other is below
