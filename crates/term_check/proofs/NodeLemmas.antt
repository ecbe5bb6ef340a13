-- The law of a node for the names of a term and the numbers of its variables, and subterms by a node's parts.
use Rattle.std.proofs.Common.{◌≡◌, ℕ, ◌+◌, ◌<◌, List, [], ◌∷◌, ◌++◌, length, Bool, true, false, ◌&&◌, refl, ap, sym, ◌∙◌, ◌==◌}
use Rattle.std.specs.Prelude.{slice_get, Option, Some, None, nat_lt, if◌then◌else◌}
use Rattle.std.specs.List.{list_all}
use Rattle.term_tree.specs.declared.node.TermId.{TermId}
use Rattle.term_tree.specs.declared.node.Node.{Node}
use Rattle.term_tree.specs.declared.node.Node.TheVariants.{Num, True, False, Var, LetVar, Pred, Op, Divisible, Let, Forall, Exists}
use Rattle.term_tree.specs.Arena.{IsArena, is_below, has_parts_below}
use Rattle.term_tree.specs.Legal.{NamesInScope, with_bound, with_variables, has_some, node_is_scoped, is_scoped, carried, numbers_through, node_numbers, next_variable}
use Rattle.term_tree.specs.Subterms.{is_part, IsSubterm, itself, inside, EverySubterm}
use Rattle.term_tree.proofs.Public.{arena_below, below_from, both_true, told_at}

-- the two tell the same of terms below a number
abbrev AgreeBelow : (X : Type 0) → (ℕ → X) → (ℕ → X) → ℕ → Type 0
AgreeBelow X p q n = (c : ℕ) → c < n → p c ≡ q c

same_checks : (p q : ℕ → NamesInScope → Bool) (n : ℕ) (ids : List TermId) (scope : NamesInScope) → AgreeBelow (NamesInScope → Bool) p q n → list_all (is_below n) ids ≡ true
    → list_all (λ (id : TermId). p id.0 scope) ids ≡ list_all (λ (id : TermId). q id.0 scope) ids
same_checks p q n [] scope same below = refl
same_checks p q n (id ∷ ids) scope same below =
    let both = both_true (nat_lt id.0 n) (list_all (is_below n) ids) below in
    ap (λ (f : NamesInScope → Bool). f scope && list_all (λ (i : TermId). p i.0 scope) ids) (same id.0 (below_from id.0 n both.0))
    ∙ ap (λ (b : Bool). q id.0 scope && b) (same_checks p q n ids scope same both.1)

same_let : (p q : ℕ → NamesInScope → Bool) (n : ℕ) (bound : List TermId) (body : TermId) (scope : NamesInScope) → AgreeBelow (NamesInScope → Bool) p q n → list_all (is_below n) bound ≡ true → nat_lt body.0 n ≡ true
    → node_is_scoped p (Let bound body) scope ≡ node_is_scoped q (Let bound body) scope
same_let p q n bound body scope same below under =
    ap (λ (b : Bool). has_some bound && (b && p body.0 (with_bound bound scope))) (same_checks p q n bound scope same below)
    ∙ ap (λ (f : NamesInScope → Bool). has_some bound && (list_all (λ (id : TermId). q id.0 scope) bound && f (with_bound bound scope))) (same body.0 (below_from body.0 n under))

scopes_rest : (p q : ℕ → NamesInScope → Bool) (n : ℕ) (node : Node) → AgreeBelow (NamesInScope → Bool) p q n → has_parts_below n node ≡ true → node_is_scoped p node ≡ node_is_scoped q node
scopes_rest p q n (Num k) same below = refl
scopes_rest p q n True same below = refl
scopes_rest p q n False same below = refl
scopes_rest p q n (Var binder sort) same below = refl
scopes_rest p q n (LetVar bound) same below = refl
scopes_rest p q n (Pred pred args) same below = λ i scope. same_checks p q n args scope same below i
scopes_rest p q n (Op op args) same below = λ i scope. same_checks p q n args scope same below i
scopes_rest p q n (Divisible by arg) same below = λ i scope. same arg.0 (below_from arg.0 n below) i scope
scopes_rest p q n (Let bound body) same below =
    let both = both_true (list_all (is_below n) bound) (nat_lt body.0 n) below in
    λ i scope. same_let p q n bound body scope same both.0 both.1 i
scopes_rest p q n (Forall first sorts body) same below = λ i scope. has_some sorts && same body.0 (below_from body.0 n below) i (with_variables first sorts scope)
scopes_rest p q n (Exists first sorts body) same below = λ i scope. has_some sorts && same body.0 (below_from body.0 n below) i (with_variables first sorts scope)

same_numbers : (p q : ℕ → ℕ → Option ℕ) (n : ℕ) (ids : List TermId) (next : ℕ) → AgreeBelow (ℕ → Option ℕ) p q n → list_all (is_below n) ids ≡ true
    → numbers_through p ids next ≡ numbers_through q ids next
same_numbers p q n [] next same below = refl
same_numbers p q n (id ∷ ids) next same below =
    let both = both_true (nat_lt id.0 n) (list_all (is_below n) ids) below in
    ap (λ (f : ℕ → Option ℕ). carried (λ k. numbers_through p ids k) (f next)) (same id.0 (below_from id.0 n both.0))
    ∙ λ i. carried (λ k. same_numbers p q n ids k same both.1 i) (q id.0 next)

all_with : (n : ℕ) (ids : List TermId) (id : TermId) → list_all (is_below n) ids ≡ true → nat_lt id.0 n ≡ true → list_all (is_below n) (ids ++ id ∷ []) ≡ true
all_with n [] id below under = ap (λ (b : Bool). b && true) under
all_with n (i ∷ ids) id below under =
    let both = both_true (nat_lt i.0 n) (list_all (is_below n) ids) below in
    ap (λ (b : Bool). b && list_all (is_below n) (ids ++ id ∷ [])) both.0 ∙ all_with n ids id both.1 under

numbers_rest : (p q : ℕ → ℕ → Option ℕ) (n : ℕ) (node : Node) → AgreeBelow (ℕ → Option ℕ) p q n → has_parts_below n node ≡ true → node_numbers p node ≡ node_numbers q node
numbers_rest p q n (Num k) same below = refl
numbers_rest p q n True same below = refl
numbers_rest p q n False same below = refl
numbers_rest p q n (Var binder sort) same below = refl
numbers_rest p q n (LetVar bound) same below = refl
numbers_rest p q n (Pred pred args) same below = λ i next. same_numbers p q n args next same below i
numbers_rest p q n (Op op args) same below = λ i next. same_numbers p q n args next same below i
numbers_rest p q n (Divisible by arg) same below = λ i next. same arg.0 (below_from arg.0 n below) i next
numbers_rest p q n (Let bound body) same below =
    let both = both_true (list_all (is_below n) bound) (nat_lt body.0 n) below in
    λ i next. same_numbers p q n (bound ++ body ∷ []) next same (all_with n bound body both.0 both.1) i
numbers_rest p q n (Forall first sorts body) same below = λ i next. if first == next then same body.0 (below_from body.0 n below) i (next + length sorts) else None
numbers_rest p q n (Exists first sorts body) same below = λ i next. if first == next then same body.0 (below_from body.0 n below) i (next + length sorts) else None

module _ (nodes : List Node) (arena : IsArena nodes) (id : ℕ) (node : Node) (is : slice_get nodes id ≡ Some node) where
  -- which names a term may use, by its node
  pub scoped_at : (scope : NamesInScope) → is_scoped nodes id scope ≡ node_is_scoped (is_scoped nodes) node scope
  scoped_at scope =
      ap (λ (f : NamesInScope → Bool). f scope) (told_at (NamesInScope → Bool) (λ s. false) node_is_scoped scopes_rest nodes id node is (arena_below nodes id node arena is))

  -- the numbers of a term's variables, by its node
  pub numbered_at : (next : ℕ) → next_variable nodes id next ≡ node_numbers (next_variable nodes) node next
  numbered_at next =
      ap (λ (f : ℕ → Option ℕ). f next) (told_at (ℕ → Option ℕ) (λ k. None) node_numbers numbers_rest nodes id node is (arena_below nodes id node arena is))

-- a subterm is the term itself or a subterm of a part
data Below (nodes : List Node) (node : Node) (top low : ℕ) : Type 0 where
  here : low ≡ top → Below nodes node top low
  under : (part : ℕ) → is_part part node ≡ true → IsSubterm nodes part low → Below nodes node top low

same_node : (nodes : List Node) (i j : ℕ) (m n : Node) → i ≡ j → slice_get nodes i ≡ Some m → slice_get nodes j ≡ Some n → m ≡ n
same_node nodes i j m n e h k = cc

below_more : (nodes : List Node) (node : Node) (top id part : ℕ) (n : Node) → slice_get nodes top ≡ Some node → slice_get nodes id ≡ Some n → is_part part n ≡ true
    → Below nodes node top id → Below nodes node top part
below_more nodes node top id part n is at h (here e) =
    under part (ap (λ (m : Node). is_part part m) (sym (same_node nodes id top n node e at is)) ∙ h) itself
below_more nodes node top id part n is at h (under via has s) = under via has (inside part n s at h)

below_cases : (nodes : List Node) (top : ℕ) (node : Node) (low : ℕ) → slice_get nodes top ≡ Some node → IsSubterm nodes top low → Below nodes node top low
below_cases nodes top node _ is itself = here refl
below_cases nodes top node _ is (inside {id = id} part n s at h) = below_more nodes node top id part n is at h (below_cases nodes top node id is s)

-- a node that passes, with parts that do
pub every_by_parts : (test : Node → Bool) (nodes : List Node) (top : ℕ) (node : Node) → slice_get nodes top ≡ Some node → test node ≡ true
    → ((part : ℕ) → is_part part node ≡ true → EverySubterm test nodes part) → EverySubterm test nodes top
every_by_parts test nodes top node is passes parts low n s at = by (below_cases nodes top node low is s)
  where
    by : Below nodes node top low → test n ≡ true
    by (here e) = ap test (same_node nodes low top n node e at is) ∙ passes
    by (under part has t) = parts part has low n t at
