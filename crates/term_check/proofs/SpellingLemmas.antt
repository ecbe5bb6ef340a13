-- What lists of trees spell, in place of rows.
use Rattle.std.proofs.Common.{◌≡◌, ℕ, ◌+◌, ◌≤◌, List, [], ◌∷◌, length, Bool, true, false, Result, Ok, Err, refl, ap, ◌∙◌, arith}
use mathlib.Core.Former.{Count}
use Rattle.sexp_read.specs.declared.tree.Tree.{Tree, Leaf, List', Row_of-Tree, end_of-Tree, more_of-Tree, items-the_row-Tree, items_hidden-the_row-Tree-0}
use Rattle.sexp_read.specs.declared.tree.Tree.TheViews.{List as ListTree}
use Rattle.std.specs.Prelude.{if◌then◌else◌, codes}
use Rattle.term_tree.specs.declared.script.Pred.{Pred}
use Rattle.term_check.specs.declared.part.Fault.{Fault}
use Rattle.term_check.specs.Rules.{unless}
use Rattle.term_check.specs.Spelling.{SpellingScope, Gathered, ◌>>=◌, spelled, list_spelled, all_spelled, with_spelled, nothing_yet, application, spelled_head, head_fault, list_head, is_word, let_spelled_by, quantifier_spelled, quantifier_fault, bindings_spelled, each_bound, binding_spelled, item_spelled, items_of, binder_fault}
use Rattle.term_check.specs.machinery.Reading.{each_spelled, applied_list, item_bound, all_bound, under_lets, let_list, quantifier_list, any_list}
use Rattle.term_check.specs.Weight.{weight, row_weight, weights}

abbrev row_of : Tree → (n : Count) × Row_of-Tree n
row_of (List' shape row start end) = (_, row)
row_of (Leaf kind start end) = (_, end_of-Tree)

same_then : {A B : Type 0} (r : Result A Fault) (f g : A → Result B Fault) → ((a : A) → f a ≡ g a) → (r >>= f) ≡ (r >>= g)
same_then (Ok a) f g h = h a
same_then (Err e) f g h = refl

then_then : {A B C : Type 0} (r : Result A Fault) (f : A → B) (g : B → Result C Fault) → (r >>= λ a. g (f a)) ≡ ((r >>= λ a. Ok (f a)) >>= g)
then_then (Ok a) f g = refl
then_then (Err e) f g = refl

all_of_row : (text : List ℕ) (scope : SpellingScope) (g : Gathered) (n : _) (row : Row_of-Tree n) → all_spelled text scope g row ≡ each_spelled text scope g (items-the_row-Tree n row)
all_of_row text scope g n end_of-Tree = refl
all_of_row text scope g n (more_of-Tree tree rest) =
    same_then (spelled text scope g.next tree) _ _ (λ s. all_of_row text scope (with_spelled g s) _ rest)
    ∙ then_then (spelled text scope g.next tree) (λ s. with_spelled g s) (λ h. each_spelled text scope h (items-the_row-Tree _ rest))

item_of_row : (text : List ℕ) (scope : SpellingScope) (g : Gathered) (n : _) (row : Row_of-Tree n) → item_spelled text scope g row ≡ item_bound text scope g (items-the_row-Tree n row)
item_of_row text scope g n end_of-Tree = refl
item_of_row text scope g n (more_of-Tree name end_of-Tree) = refl
item_of_row text scope g n (more_of-Tree name (more_of-Tree term end_of-Tree)) = refl
item_of_row text scope g n (more_of-Tree name (more_of-Tree term (more_of-Tree third rest))) = refl

bound_of_item : (text : List ℕ) (scope : SpellingScope) (g : Gathered) (item : Tree) → binding_spelled text scope g item ≡ item_bound text scope g (items_of item)
bound_of_item text scope g (Leaf kind start end) = refl
bound_of_item text scope g (List' shape row start end) = item_of_row text scope g _ row

bound_of_row : (text : List ℕ) (scope : SpellingScope) (g : Gathered) (n : _) (row : Row_of-Tree n) → each_bound text scope g row ≡ all_bound text scope g (items-the_row-Tree n row)
bound_of_row text scope g n end_of-Tree = refl
bound_of_row text scope g n (more_of-Tree item rest) =
    same_then (binding_spelled text scope g item) _ _ (λ h. bound_of_row text scope h _ rest)
    ∙ ap (λ (r : Result Gathered Fault). r >>= λ h. all_bound text scope h (items-the_row-Tree _ rest)) (bound_of_item text scope g item)

bound_of_binder : (text : List ℕ) (scope : SpellingScope) (g : Gathered) (binder : Tree) → bindings_spelled text scope g binder ≡ all_bound text scope g (items_of binder)
bound_of_binder text scope g (Leaf kind start end) = refl
bound_of_binder text scope g (List' shape row start end) = bound_of_row text scope g _ row

let_of_row : (text : List ℕ) (scope : SpellingScope) (next start : ℕ) (n : _) (row : Row_of-Tree n) → let_spelled_by text scope next start row ≡ let_list text scope next start (items-the_row-Tree n row)
let_of_row text scope next start n end_of-Tree = refl
let_of_row text scope next start n (more_of-Tree binder end_of-Tree) = refl
let_of_row text scope next start n (more_of-Tree binder (more_of-Tree body end_of-Tree)) =
    ap (λ (r : Result Gathered Fault). unless (binder_fault text binder) (r >>= under_lets text scope start (items_of binder) body)) (bound_of_binder text scope (nothing_yet next) binder)
let_of_row text scope next start n (more_of-Tree binder (more_of-Tree body (more_of-Tree third rest))) = refl

quantifier_of_row : (text : List ℕ) (scope : SpellingScope) (next start : ℕ) (all : Bool) (n : _) (row : Row_of-Tree n)
    → quantifier_spelled text scope next start all row ≡ quantifier_list text scope next start all (items-the_row-Tree n row)
quantifier_of_row text scope next start all n end_of-Tree = refl
quantifier_of_row text scope next start all n (more_of-Tree binder end_of-Tree) = refl
quantifier_of_row text scope next start all n (more_of-Tree binder (more_of-Tree body end_of-Tree)) = refl
quantifier_of_row text scope next start all n (more_of-Tree binder (more_of-Tree body (more_of-Tree third rest))) = refl

applied_of_row : (text : List ℕ) (scope : SpellingScope) (next start : ℕ) (head : Tree) (n : _) (rest : Row_of-Tree n)
    → (spelled_head text scope.preds head >>= λ h. unless (head_fault scope.preds h start (length (items-the_row-Tree n rest))) (all_spelled text scope (nothing_yet next) rest >>= application scope.preds h start))
    ≡ applied_list text scope next start head (items-the_row-Tree n rest)
applied_of_row text scope next start head n rest =
    same_then (spelled_head text scope.preds head) _ _ (λ h.
    ap (λ (r : Result Gathered Fault). unless (head_fault scope.preds h start (length (items-the_row-Tree n rest))) (r >>= application scope.preds h start)) (all_of_row text scope (nothing_yet next) n rest))

same_choice : {A : Type 0} (a b c : Bool) (x x' y y' z z' w w' : A) → x ≡ x' → y ≡ y' → z ≡ z' → w ≡ w'
    → (if a then x else if b then y else if c then z else w) ≡ (if a then x' else if b then y' else if c then z' else w')
same_choice true b c x x' y y' z z' w w' hx hy hz hw = hx
same_choice false true c x x' y y' z z' w w' hx hy hz hw = hy
same_choice false false true x x' y y' z z' w w' hx hy hz hw = hz
same_choice false false false x x' y y' z z' w w' hx hy hz hw = hw

list_of_row : (text : List ℕ) (scope : SpellingScope) (next start : ℕ) (n : _) (row : Row_of-Tree n) → list_spelled text scope next start row ≡ any_list text scope next start (items-the_row-Tree n row)
list_of_row text scope next start n end_of-Tree = refl
list_of_row text scope next start n (more_of-Tree head rest) =
    same_choice (is_word text head (codes "let")) (is_word text head (codes "forall")) (is_word text head (codes "exists")) _ _ _ _ _ _ _ _
    (let_of_row text scope next start _ rest)
    (ap (unless (quantifier_fault scope.quantifies start)) (quantifier_of_row text scope next start true _ rest))
    (ap (unless (quantifier_fault scope.quantifies start)) (quantifier_of_row text scope next start false _ rest))
    (applied_of_row text scope next start head _ rest)

-- a list spells what its trees say
pub spelled-List : (text : List ℕ) (scope : SpellingScope) (next : ℕ) (items : List Tree) (start end : ℕ) → spelled text scope next (ListTree items start end) ≡ any_list text scope next start items
spelled-List text scope next items start end =
    let row = row_of (ListTree items start end) in
    list_of_row text scope next start row.0 row.1 ∙ ap (any_list text scope next start) (items_hidden-the_row-Tree-0 items)

pub head_of-List : (text : List ℕ) (preds : List Pred) (items : List Tree) (start end : ℕ) → spelled_head text preds (ListTree items start end) ≡ list_head text start items
head_of-List text preds items start end = ap (list_head text start) (items_hidden-the_row-Tree-0 items)

weights_of_row : (n : _) (row : Row_of-Tree n) → row_weight row ≡ weights (items-the_row-Tree n row)
weights_of_row n end_of-Tree = refl
weights_of_row n (more_of-Tree tree rest) = ap (λ k. weight tree + k) (weights_of_row _ rest)

pub weight-List : (items : List Tree) (start end : ℕ) → weight (ListTree items start end) ≡ 1 + weights items
weight-List items start end =
    let row = row_of (ListTree items start end) in ap (λ k. 1 + k) (weights_of_row row.0 row.1 ∙ ap weights (items_hidden-the_row-Tree-0 items))

-- the trees of a tree weigh less
pub weight_of_items : (tree : Tree) → weights (items_of tree) + 1 ≤ weight tree
weight_of_items (Leaf kind start end) = omega arith
weight_of_items (List' shape row start end) = let is = weights_of_row _ row in omega (arith, is)

pub weighs : (tree : Tree) → 1 ≤ weight tree
weighs tree = let h = weight_of_items tree in omega (arith, h)

pub weigh_all : (trees : List Tree) → length trees ≤ weights trees
weigh_all [] = omega arith
weigh_all (tree ∷ trees) = let h = weighs tree in let r = weigh_all trees in omega (arith, h, r)
