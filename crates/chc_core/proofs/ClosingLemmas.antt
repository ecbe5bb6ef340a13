-- What closes in a tree is what the rules close.
use Rattle.std.proofs.Common.{◌≡◌, ℕ, zero, suc, ◌+◌, List, [], ◌∷◌, ◌++◌, map, length, ℤ, Bool, true, false, cond, not, ◌&&◌, ◌||◌, Some, None, refl, ap, ap₂, sym, ◌∙◌, append_assoc, append-nil, subst, arith, inl, inr}
use Rattle.std.specs.Prelude.{◌⊎◌, Option, nat_lt, nat_le, ◌==◌, slice_get}
use Rattle.std.proofs.Math.Dec.{leb-suc-suc}
use Rattle.std.proofs.lemmas.Bool.{eq-eqb, le-ltb, lt-ltb}
use Rattle.std.proofs.lemmas.Bool.Decides.{eqb_tells}
use Rattle.std.proofs.lemmas.List.{length_push, map-append}
use Rattle.lin_atoms.specs.declared.lit.Lit.{Lit}
use Rattle.cube_forms.specs.Cubes.{cube_holds}
use Rattle.obligation_tree.specs.Nodes.{closed_with, is_live as is_live_node, node_at}
use Rattle.obligation_tree.specs.Closing.{after_fact, after_lemma, after_raise, closing, is_closed_at, is_excluded, is_met, is_same_pred, root_at, settled}
use Rattle.obligation_tree.specs.declared.node.Node.{Node}
use Rattle.obligation_tree.specs.declared.obligation.Obligation.{Obligation as Asked}
use Rattle.book_rules.specs.Effects.{close_from, closed_at, is_closing, raised_tree}
use Rattle.book_rules.specs.LemmaRules.{closes}
use Rattle.book_rules.specs.State.{Obligation, holds, holds_of, is_live, is_of}
use Rattle.book_rules.specs.Walks.{AllOf, has}
use Rattle.step_rules.specs.Views.{ground_conclusion, obligation_of, obligations_of}

-- whether a parent that stands before is closed
parent-closed : (before : List Node) (parent : ℕ) → is_closed_at before parent ≡ has (slice_get (obligations_of before) parent) (λ (o : Obligation). not (is_live o))
parent-closed [] parent = ap (λ b. b && not (is_live_node (node_at [] parent))) (le-ltb parent 0 (omega arith))
parent-closed (n ∷ before) zero = ap (λ b. b && not (is_live_node n)) (lt-ltb 0 (suc (length before)) (omega arith))
parent-closed (n ∷ before) (suc parent) = ap (λ b. b && not (is_live_node (node_at before parent))) (leb-suc-suc (suc parent) (length before)) ∙ parent-closed before parent

-- one obligation, with those before it settled
settled_is : (test : ℕ → Asked → Bool) (cause : Obligation → Bool) (entry : ℕ) (before : List Node) (node : Node) → test (length before) node.obligation ≡ cause (obligation_of node)
    → obligation_of (settled test entry before node) ≡ cond {A = Obligation} (is_closing cause (obligations_of before) (obligation_of node)) (closed_at entry (obligation_of node)) (obligation_of node)
settled_is test cause entry before node same = by (is_live_node node) (test (length before) node.obligation) (is_closed_at before node.obligation.parent) same (parent-closed before node.obligation.parent) where
  by : (live : Bool) (told closed : Bool) → told ≡ cause (obligation_of node) → closed ≡ has (slice_get (obligations_of before) node.obligation.parent) (λ (o : Obligation). not (is_live o))
      → obligation_of (cond {A = Node} (live && (told || closed)) (closed_with entry node) node) ≡ cond {A = Obligation} (live && (cause (obligation_of node) || has (slice_get (obligations_of before) node.obligation.parent) (λ (o : Obligation). not (is_live o)))) (closed_at entry (obligation_of node)) (obligation_of node)
  by live told closed told_is closed_is = turned (live && (told || closed)) ∙ ap (λ b. cond {A = Obligation} b (closed_at entry (obligation_of node)) (obligation_of node)) (ap (λ b. live && (b || closed)) told_is ∙ ap (λ b. live && (cause (obligation_of node) || b)) closed_is) where
    turned : (b : Bool) → obligation_of (cond {A = Node} b (closed_with entry node) node) ≡ cond {A = Obligation} b (closed_at entry (obligation_of node)) (obligation_of node)
    turned true = refl
    turned false = refl

-- where the test tells of each, by its number, what the cause tells; the first has number n
abbrev pub AreAlike : (ℕ → Asked → Bool) → (Obligation → Bool) → ℕ → List Node → Type 0
AreAlike test cause n [] = Unit {0}
AreAlike test cause n (node ∷ nodes) = (test n node.obligation ≡ cause (obligation_of node)) × AreAlike test cause (n + 1) nodes

-- all of them
pub closing_is : (test : ℕ → Asked → Bool) (cause : Obligation → Bool) (entry : ℕ) (before nodes : List Node) → AreAlike test cause (length before) nodes
    → obligations_of (closing test entry before nodes) ≡ obligations_of before ++ close_from cause entry (obligations_of before) (obligations_of nodes)
closing_is test cause entry before [] same = sym (append-nil (obligations_of before))
closing_is test cause entry before (node ∷ nodes) same =
    let s = settled test entry before node in
    let o = cond {A = Obligation} (is_closing cause (obligations_of before) (obligation_of node)) (closed_at entry (obligation_of node)) (obligation_of node) in
    let is : obligation_of s ≡ o = settled_is test cause entry before node same.0 in
    let pushed : obligations_of (before ++ s ∷ []) ≡ obligations_of before ++ o ∷ [] = map-append obligation_of before (s ∷ []) ∙ ap (λ (x : Obligation). obligations_of before ++ x ∷ []) is in
    let rest = subst (λ (n : ℕ). AreAlike test cause n nodes) (sym (length_push before s)) same.1 in
    closing_is test cause entry (before ++ s ∷ []) nodes rest
    ∙ ap (λ (done : List Obligation). done ++ close_from cause entry done (obligations_of nodes)) pushed
    ∙ append_assoc (obligations_of before) (o ∷ []) (close_from cause entry (obligations_of before ++ o ∷ []) (obligations_of nodes))

all_alike : (test : Asked → Bool) (cause : Obligation → Bool) → ((node : Node) → test node.obligation ≡ cause (obligation_of node)) → (n : ℕ) (nodes : List Node) → AreAlike (λ number o. test o) cause n nodes
all_alike test cause same n [] = tt
all_alike test cause same n (node ∷ nodes) = (same node, all_alike test cause same (n + 1) nodes)

-- a lemma, a fact and a raise

same_number : (a b : ℕ) → (a == b) ≡ (b == a)
same_number a b = by (eqb_tells a b) (eqb_tells b a) where
  by : ((a == b) ≡ true) × (a ≡ b) ⊎ ((a == b) ≡ false) × (a ≡ b → ⊥) → ((b == a) ≡ true) × (b ≡ a) ⊎ ((b == a) ≡ false) × (b ≡ a → ⊥) → (a == b) ≡ (b == a)
  by (inl (is, same)) other = is ∙ sym (eq-eqb b a (sym same))
  by (inr (isnt, apart)) (inl (is, same)) = absurd (apart (sym same))
  by (inr (isnt, apart)) (inr (never, other)) = isnt ∙ sym never

pub closes-lemma : (pred level : ℕ) (lemma : List Lit) (entry : ℕ) (nodes : List Node) → obligations_of (after_lemma pred level lemma entry nodes) ≡ close_from (closes (record { pred = pred; cube = lemma }) level) entry [] (obligations_of nodes)
closes-lemma pred level lemma entry nodes = closing_is (λ number o. is_excluded pred level lemma o) (closes (record { pred = pred; cube = lemma }) level) entry [] nodes (all_alike (is_excluded pred level lemma) (closes (record { pred = pred; cube = lemma }) level) (λ node. alike node node.obligation.pred) 0 nodes) where
  alike : (node : Node) (p : Option ℕ) → (is_same_pred (Some pred) p && nat_le node.obligation.level level && cube_holds node.obligation.point lemma) ≡ (is_of pred p && nat_le node.obligation.level level && cube_holds node.obligation.point lemma)
  alike node None = refl
  alike node (Some p) = ap (λ b. b && nat_le node.obligation.level level && cube_holds node.obligation.point lemma) (same_number pred p)

-- an obligation without predicate is the root, whose cube is empty
abbrev pub IsBareRoot : Node → Type 0
IsBareRoot node = node.obligation.pred ≡ None → node.obligation.cube ≡ []

met_is : (pred : Option ℕ) (tuple : List ℤ) (node : Node) → IsBareRoot node → is_met pred tuple node.obligation ≡ holds (obligation_of node) (ground_conclusion pred tuple)
met_is pred tuple node bare = by pred node.obligation.pred bare where
  by : (p q : Option ℕ) → (q ≡ None → node.obligation.cube ≡ []) → (is_same_pred p q && cube_holds tuple node.obligation.cube) ≡ holds_of q node.obligation.cube (ground_conclusion p tuple)
  by None None empty = ap (cube_holds tuple) (empty refl)
  by None (Some q) empty = refl
  by (Some p) None empty = refl
  by (Some p) (Some q) empty = ap (λ b. b && cube_holds tuple node.obligation.cube) (same_number p q)

pub closes-fact : (pred : Option ℕ) (tuple : List ℤ) (entry : ℕ) (nodes : List Node) → AllOf IsBareRoot nodes → obligations_of (after_fact pred tuple entry nodes) ≡ close_from (λ o. holds o (ground_conclusion pred tuple)) entry [] (obligations_of nodes)
closes-fact pred tuple entry nodes bare = closing_is (λ number o. is_met pred tuple o) (λ o. holds o (ground_conclusion pred tuple)) entry [] nodes (each 0 nodes bare) where
  each : (n : ℕ) (rest : List Node) → AllOf IsBareRoot rest → AreAlike (λ number o. is_met pred tuple o) (λ o. holds o (ground_conclusion pred tuple)) n rest
  each n [] all = tt
  each n (node ∷ rest) all = (met_is pred tuple node all.0, each (n + 1) rest all.1)

abbrev levelled : ℕ → List Obligation → List Obligation
levelled level [] = []
levelled level (o ∷ os) = (record o { level = level }) ∷ os

levelled_is : (level : ℕ) (xs : List Node) → obligations_of (root_at level xs) ≡ levelled level (obligations_of xs)
levelled_is level [] = refl
levelled_is level (n ∷ xs) = refl

all_close : (entry : ℕ) (before os : List Obligation) → close_from (λ o. true) entry before os ≡ map (λ o. cond {A = Obligation} (is_live o) (closed_at entry o) o) os
all_close entry before [] = refl
all_close entry before (o ∷ os) = ap₂ (λ (x : Obligation) (xs : List Obligation). x ∷ xs) (here (is_live o)) (all_close entry (before ++ cond {A = Obligation} (is_closing (λ o. true) before o) (closed_at entry o) o ∷ []) os) where
  here : (b : Bool) → cond {A = Obligation} (b && true) (closed_at entry o) o ≡ cond {A = Obligation} b (closed_at entry o) o
  here true = refl
  here false = refl

-- a raise tells of all but number 0
past_root : (n : ℕ) (nodes : List Node) → AreAlike (λ number obligation. nat_lt 0 number) (λ o. true) (suc n) nodes
past_root n [] = tt
past_root n (node ∷ nodes) = (lt-ltb 0 (suc n) (omega arith), subst (λ (m : ℕ). AreAlike (λ number obligation. nat_lt 0 number) (λ o. true) m nodes) (omega arith) (past_root (suc n) nodes))

root_stays : (entry : ℕ) (root : Node) → settled (λ number obligation. nat_lt 0 number) entry [] root ≡ root
root_stays entry root =
    ap₂ (λ (a b : Bool). cond {A = Node} (is_live_node root && (a || (b && not (is_live_node (node_at [] root.obligation.parent))))) (closed_with entry root) root) (le-ltb 0 0 (omega arith)) (le-ltb root.obligation.parent 0 (omega arith))
    ∙ rest (is_live_node root) where
      rest : (b : Bool) → cond {A = Node} (b && (false || (false && not (is_live_node (node_at [] root.obligation.parent))))) (closed_with entry root) root ≡ root
      rest true = refl
      rest false = refl

pub closes-raise : (level entry : ℕ) (nodes : List Node) → obligations_of (after_raise level entry nodes) ≡ raised_tree entry level (obligations_of nodes)
closes-raise level entry [] = refl
closes-raise level entry (root ∷ rest) =
    levelled_is level (closing (λ number obligation. nat_lt 0 number) entry [] (root ∷ rest))
    ∙ ap (levelled level)
    (ap (λ (r : Node). obligations_of (closing (λ number obligation. nat_lt 0 number) entry (r ∷ []) rest)) (root_stays entry root)
    ∙ closing_is (λ number obligation. nat_lt 0 number) (λ o. true) entry (root ∷ []) rest (past_root 0 rest)
    ∙ ap (λ (os : List Obligation). obligation_of root ∷ os) (all_close entry (obligation_of root ∷ []) (obligations_of rest)))
