-- Every term that a tree spells is legal: by the trees, along what they spell.
use Rattle.std.proofs.Common.{◌≡◌, ℕ, ◌+◌, List, [], ◌∷◌, length, Bool, true, false, refl, ap, sym, ◌∙◌, subst, arith, Result, Ok}
use Rattle.std.proofs.lemmas.Option.{slice_get_within}
use Rattle.std.specs.Prelude.{Option, Some, None, slice_get, suc, if◌then◌else◌, codes}
use Rattle.std.specs.Str.{bytes_eq}
use Rattle.sexp_read.specs.declared.tree.Tree.{Tree, Leaf, List', Row_of-Tree, end_of-Tree, more_of-Tree, items-the_row-Tree}
use Rattle.term_tree.specs.declared.sort.Sort.{Sort}
use Rattle.term_tree.specs.declared.node.Node.{Node}
use Rattle.term_tree.specs.declared.script.Pred.{Pred as Declaration}
use Rattle.term_tree.specs.Arena.{Arena, IsArena}
use Rattle.term_tree.specs.Legal.{IsLegal, parameters, is_there}
use Rattle.term_tree.specs.Subterms.{IsPlain}
use Rattle.term_check.specs.declared.part.Fault.{Fault}
use Rattle.term_check.specs.declared.head.Head.{Head}
use Rattle.term_check.specs.declared.scope.Bound.{Bound}
use Rattle.term_check.specs.declared.scope.Bound.TheVariants.{Variable, Let}
use Rattle.term_check.specs.declared.scope.Named.{Named}
use Rattle.term_check.specs.Parameters.{AreParameters}
use Rattle.term_check.specs.Term.{IsTermAt}
use Rattle.term_check.specs.Operators.{first_of}
use Rattle.term_check.specs.Spelling.{SpellingScope, Spelled, Gathered, spelled, list_spelled, all_spelled, let_spelled_by, bindings_spelled, each_bound, binding_spelled, item_spelled, quantifier_spelled, with_spelled, nothing_yet, application, spelled_head, head_fault, is_word, items_of, binder_fault, let_names_fault, variables_fault, with_lets, with_read_variables, let_spelled, quantifier_fault, bound_to, lets_in, count_let}
use Rattle.term_check.proofs.BinderLemmas.{binder_right, row_counted, bindings_counted, let_tells_by, quantifier_tells_by}
use Rattle.term_check.proofs.NameLemmas.{Stand, Fit, same_variable, other_name}
use Rattle.term_check.proofs.OutcomeLemmas.{bind_ok, unless_ok}
use Rattle.term_check.proofs.TellingLemmas.{Tells, TellsAll, same_spelled, same_gathered, leaf_tells, nothing_tells, added_tells, application_tells}
use Rattle.term_check.proofs.ToldLemmas.{Told}

-- which of four forms gave the term
data Form (a b c d : Result Spelled Fault) (s : Spelled) : Type 0 where
  a_let : a ≡ Ok s → Form a b c d s
  a_forall : b ≡ Ok s → Form a b c d s
  an_exists : c ≡ Ok s → Form a b c d s
  an_application : d ≡ Ok s → Form a b c d s

form_of : (x y z : Bool) (a b c d : Result Spelled Fault) (s : Spelled) → (if x then a else if y then b else if z then c else d) ≡ Ok s → Form a b c d s
form_of true y z a b c d s h = a_let h
form_of false true z a b c d s h = a_forall h
form_of false false true a b c d s h = an_exists h
form_of false false false a b c d s h = an_application h

allowed : (quantifies : Bool) (start : ℕ) → quantifier_fault quantifies start ≡ None → quantifies ≡ true
allowed true start h = refl
allowed false start h = absurd (cc)

module _ (text : List ℕ) (arena : Arena) (arranged : IsArena arena.nodes) where
  application_by : {n : _} (scope : SpellingScope) (next start : ℕ) (rest : Row_of-Tree n) (head : Head) (g : Gathered) (s : Spelled) → TellsAll arena scope next g
      → all_spelled text scope (nothing_yet next) rest ≡ Ok g → head_fault scope.preds head start (length (items-the_row-Tree _ rest)) ≡ None → application scope.preds head start g ≡ Ok s
      → Tells arena scope next s
  application_by scope next start rest head g s all is h k =
      let count = row_counted text scope (nothing_yet next) rest g refl is in
      let many : length g.parts ≡ length (items-the_row-Tree _ rest) = omega (arith, count.1) in
      application_tells arena arranged scope next start head g s all count.0 (ap (λ (m : ℕ). head_fault scope.preds head start m) many ∙ h) k

  let_by : (scope : SpellingScope) (next start : ℕ) (binder : Tree) (g : Gathered) (u s : Spelled) → binder_fault text binder ≡ None → bindings_spelled text scope (nothing_yet next) binder ≡ Ok g
      → TellsAll arena scope next g → Tells arena (with_lets text scope (items_of binder) g.parts) g.next u → (let r : Result Spelled Fault = Ok (let_spelled start g u) in r) ≡ Ok s
      → Tells arena scope next s
  let_by scope next start binder g u s right is all one h =
      let b = binder_right text binder right in
      subst (λ (r : Spelled). Tells arena scope next r) (same_spelled (let_spelled start g u) s h)
      (let_tells_by text arena arranged scope next start (items_of binder) g u b.0 (bindings_counted text scope next binder g b.1 is) all one)

  mutual
    tree_tells : (scope : SpellingScope) (next : ℕ) (tree : Tree) (s : Spelled) → spelled text scope next tree ≡ Ok s → Tells arena scope next s
    tree_tells scope next (Leaf kind start end) s h = leaf_tells arena arranged text scope next kind start end s h
    tree_tells scope next (List' shape row start end) s h = list_tells scope next start row s h

    list_tells : {n : _} (scope : SpellingScope) (next start : ℕ) (row : Row_of-Tree n) (s : Spelled) → list_spelled text scope next start row ≡ Ok s → Tells arena scope next s
    list_tells scope next start end_of-Tree s h = absurd (cc)
    list_tells scope next start (more_of-Tree head rest) s h =
        elim (form_of (is_word text head (codes "let")) (is_word text head (codes "forall")) (is_word text head (codes "exists")) _ _ _ _ s h) [
          | a_let e ↦ let_tells scope next start rest s e
          | a_forall e ↦ (let u = unless_ok (quantifier_fault scope.quantifies start) _ s e in quantifier_tells scope next start true rest s (allowed scope.quantifies start u.0) u.1)
          | an_exists e ↦ (let u = unless_ok (quantifier_fault scope.quantifies start) _ s e in quantifier_tells scope next start false rest s (allowed scope.quantifies start u.0) u.1)
          | an_application e ↦
              (let b = bind_ok (spelled_head text scope.preds head) _ s e in
              let u = unless_ok (head_fault scope.preds b.0 start (length (items-the_row-Tree _ rest))) _ s b.2 in
              let g = bind_ok (all_spelled text scope (nothing_yet next) rest) _ s u.1 in
              let all = all_tells scope next (nothing_yet next) rest g.0 (nothing_tells arena arranged scope next) g.1 in
              application_by scope next start rest b.0 g.0 s all g.1 u.0 g.2)
        ]

    all_tells : {n : _} (scope : SpellingScope) (first : ℕ) (g : Gathered) (row : Row_of-Tree n) (k : Gathered) → TellsAll arena scope first g → all_spelled text scope g row ≡ Ok k
        → TellsAll arena scope first k
    all_tells scope first g end_of-Tree k all h = subst (λ (j : Gathered). TellsAll arena scope first j) (same_gathered g k h) all
    all_tells scope first g (more_of-Tree tree rest) k all h =
        let b = bind_ok (spelled text scope g.next tree) _ k h in
        all_tells scope first (with_spelled g b.0) rest k (added_tells arena arranged scope first g b.0 all (tree_tells scope g.next tree b.0 b.1)) b.2

    let_tells : {n : _} (scope : SpellingScope) (next start : ℕ) (row : Row_of-Tree n) (s : Spelled) → let_spelled_by text scope next start row ≡ Ok s → Tells arena scope next s
    let_tells scope next start (more_of-Tree binder (more_of-Tree body end_of-Tree)) s h =
        let u = unless_ok (binder_fault text binder) _ s h in
        let g = bind_ok (bindings_spelled text scope (nothing_yet next) binder) _ s u.1 in
        let v = unless_ok (let_names_fault text [] (items_of binder)) _ s g.2 in
        let b = bind_ok (spelled text (with_lets text scope (items_of binder) g.0.parts) g.0.next body) _ s v.1 in
        let_by scope next start binder g.0 b.0 s u.0 g.1 (bindings_tells scope next (nothing_yet next) binder g.0 (nothing_tells arena arranged scope next) g.1)
        (tree_tells (with_lets text scope (items_of binder) g.0.parts) g.0.next body b.0 b.1) b.2
    let_tells scope next start end_of-Tree s h = absurd (cc)
    let_tells scope next start (more_of-Tree binder end_of-Tree) s h = absurd (cc)
    let_tells scope next start (more_of-Tree binder (more_of-Tree body (more_of-Tree other rest))) s h = absurd (cc)

    bindings_tells : (scope : SpellingScope) (first : ℕ) (g : Gathered) (binder : Tree) (k : Gathered) → TellsAll arena scope first g → bindings_spelled text scope g binder ≡ Ok k
        → TellsAll arena scope first k
    bindings_tells scope first g (Leaf kind start end) k all h = subst (λ (j : Gathered). TellsAll arena scope first j) (same_gathered g k h) all
    bindings_tells scope first g (List' shape row start end) k all h = each_tells scope first g row k all h

    each_tells : {n : _} (scope : SpellingScope) (first : ℕ) (g : Gathered) (row : Row_of-Tree n) (k : Gathered) → TellsAll arena scope first g → each_bound text scope g row ≡ Ok k
        → TellsAll arena scope first k
    each_tells scope first g end_of-Tree k all h = subst (λ (j : Gathered). TellsAll arena scope first j) (same_gathered g k h) all
    each_tells scope first g (more_of-Tree item rest) k all h =
        let b = bind_ok (binding_spelled text scope g item) _ k h in
        each_tells scope first b.0 rest k (binding_tells scope first g item b.0 all b.1) b.2

    binding_tells : (scope : SpellingScope) (first : ℕ) (g : Gathered) (item : Tree) (k : Gathered) → TellsAll arena scope first g → binding_spelled text scope g item ≡ Ok k
        → TellsAll arena scope first k
    binding_tells scope first g (Leaf kind start end) k all h = subst (λ (j : Gathered). TellsAll arena scope first j) (same_gathered g k h) all
    binding_tells scope first g (List' shape row start end) k all h = item_tells scope first g row k all h

    item_tells : {n : _} (scope : SpellingScope) (first : ℕ) (g : Gathered) (row : Row_of-Tree n) (k : Gathered) → TellsAll arena scope first g → item_spelled text scope g row ≡ Ok k
        → TellsAll arena scope first k
    item_tells scope first g (more_of-Tree name (more_of-Tree term end_of-Tree)) k all h =
        let b = bind_ok (spelled text scope g.next term) _ k h in
        subst (λ (j : Gathered). TellsAll arena scope first j) (same_gathered (with_spelled g b.0) k b.2)
        (added_tells arena arranged scope first g b.0 all (tree_tells scope g.next term b.0 b.1))
    item_tells scope first g end_of-Tree k all h = subst (λ (j : Gathered). TellsAll arena scope first j) (same_gathered g k h) all
    item_tells scope first g (more_of-Tree name end_of-Tree) k all h = subst (λ (j : Gathered). TellsAll arena scope first j) (same_gathered g k h) all
    item_tells scope first g (more_of-Tree name (more_of-Tree term (more_of-Tree other rest))) k all h =
        subst (λ (j : Gathered). TellsAll arena scope first j) (same_gathered g k h) all

    quantifier_tells : {n : _} (scope : SpellingScope) (next start : ℕ) (all : Bool) (row : Row_of-Tree n) (s : Spelled) → scope.quantifies ≡ true
        → quantifier_spelled text scope next start all row ≡ Ok s → Tells arena scope next s
    quantifier_tells scope next start all (more_of-Tree binder (more_of-Tree body end_of-Tree)) s may h =
        let u = unless_ok (binder_fault text binder) _ s h in
        let v = unless_ok (variables_fault text [] (items_of binder)) _ s u.1 in
        let b = bind_ok (spelled text (with_read_variables text scope next (items_of binder)) (next + length (items_of binder)) body) _ s v.1 in
        quantifier_tells_by text arena arranged scope next start all (items_of binder) b.0 s (binder_right text binder u.0).0 may
        (tree_tells (with_read_variables text scope next (items_of binder)) (next + length (items_of binder)) body b.0 b.1) b.2
    quantifier_tells scope next start all end_of-Tree s may h = absurd (cc)
    quantifier_tells scope next start all (more_of-Tree binder end_of-Tree) s may h = absurd (cc)
    quantifier_tells scope next start all (more_of-Tree binder (more_of-Tree body (more_of-Tree other rest))) s may h = absurd (cc)

-- Names of parameters.

parameters_named : (name : List ℕ) (first : ℕ) (names : List Named) (sorts : List Sort) (b : Bound) → AreParameters first names sorts → bound_to name names ≡ Some b
    → (i : ℕ) × (sort : Sort) × (b ≡ Variable (first + i) sort) × (slice_get sorts i ≡ Some sort)
parameters_named name first [] [] b are h = absurd (cc)
parameters_named name first [] (sort ∷ sorts) b are h = absurd are
parameters_named name first (n ∷ names) [] b are h = absurd are
parameters_named name first (n ∷ names) (sort ∷ sorts) b are h = by (bound_to name names) (bytes_eq n.name.bytes name) h (parameters_named name (first + 1) names sorts b are.1)
  where
    this : (t : Bool) → (if t then Some n.bound else None) ≡ Some b → n.bound ≡ b
    this true h = cc
    this false h = absurd (cc)

    by : (o : Option Bound) (t : Bool) → first_of o (if t then Some n.bound else None) ≡ Some b
        → (o ≡ Some b → (i : ℕ) × (sort' : Sort) × (b ≡ Variable (first + 1 + i) sort') × (slice_get sorts i ≡ Some sort'))
        → (i : ℕ) × (sort' : Sort) × (b ≡ Variable (first + i) sort') × (slice_get (sort ∷ sorts) i ≡ Some sort')
    by None t h later = (0, sort, sym (this t h) ∙ are.0 ∙ ap (λ (k : ℕ). Variable k sort) (let e : first ≡ first + 0 = omega arith in e), refl)
    by (Some x) t h later =
        let l = later h in (suc l.0, l.1, l.2 ∙ ap (λ (k : ℕ). Variable k l.1) (let e : first + 1 + l.0 ≡ first + suc l.0 = omega arith in e), l.3)

no_lets : (first : ℕ) (names : List Named) (sorts : List Sort) → AreParameters first names sorts → lets_in names ≡ 0
no_lets first [] [] are = refl
no_lets first [] (sort ∷ sorts) are = absurd are
no_lets first (n ∷ names) [] are = absurd are
no_lets first (n ∷ names) (sort ∷ sorts) are = ap (λ (b : Bound). count_let b (lets_in names)) are.0 ∙ no_lets (first + 1) names sorts are.1

parameters_stand : (preds : List Declaration) (nodes : List Node) (quantifies : Bool) (names : List Named) (sorts : List Sort) → AreParameters 0 names sorts
    → Stand preds nodes quantifies names [] (length sorts)
parameters_stand preds nodes quantifies names sorts are = record {
  numbered = λ name number sort is.
      let v = parameters_named name 0 names sorts (Variable number sort) are is in omega (arith, (same_variable v.2).0, slice_get_within sorts v.0 v.1 v.3);
  there = λ name number sort constant is. other_name (sym (parameters_named name 0 names sorts (Let number sort constant) are is).2);
  known = λ name number sort constant id is at. other_name (sym (parameters_named name 0 names sorts (Let number sort constant) are is).2);
  counted = no_lets 0 names sorts are;
}

parameters_fit : (names : List Named) (sorts : List Sort) → AreParameters 0 names sorts → Fit names [] (parameters sorts)
parameters_fit names sorts are = record {
  variables = λ name number sort is.
      let v = parameters_named name 0 names sorts (Variable number sort) are is in
      let same = same_variable v.2 in
      let number_is : number ≡ v.0 = omega (arith, same.0) in
      ap (λ (k : ℕ). slice_get sorts k) number_is ∙ v.3 ∙ ap (λ (t : Sort). Some t) (sym same.1);
  bound = λ number id at. nothing at;
}
  where
    nothing : {A : Type 0} {X : Type 0} {x : X} → None ≡ Some x → A
    nothing h = absurd (cc)

told_term : (text : List ℕ) (scope : SpellingScope) (variables : List Sort) (tree : Tree) (s : Spelled) (arena : Arena) (id : ℕ) → IsArena arena.nodes → AreParameters 0 scope.names variables
    → spelled text scope (length variables) tree ≡ Ok s → IsTermAt arena [] s.term id
    → Told scope.preds arena.nodes scope.quantifies scope.names [] (length variables) s.part s.next id
told_term text scope variables tree s arena id arranged are h at =
    (tree_tells text arena arranged scope (length variables) tree s h).1 [] (parameters_stand scope.preds arena.nodes scope.quantifies scope.names variables are) id at

-- a term over parameters is legal
pub spelled_legal : (text : List ℕ) (scope : SpellingScope) (variables : List Sort) (tree : Tree) (s : Spelled) (arena : Arena) (id : ℕ) → IsArena arena.nodes → AreParameters 0 scope.names variables
    → spelled text scope (length variables) tree ≡ Ok s → IsTermAt arena [] s.term id → IsLegal scope.preds arena.nodes variables s.part.sort id
spelled_legal text scope variables tree s arena id arranged are h at =
    let told = told_term text scope variables tree s arena id arranged are h at in
    record {
      sorted = told.known.sorted;
      scoped = told.scoped (parameters variables) (parameters_fit scope.names variables are);
      numbered = ap is_there told.numbered;
      linear = told.known.linear;
      short = told.known.short;
    }

-- without predicates and quantifiers it is plain
pub spelled_plain : (text : List ℕ) (scope : SpellingScope) (variables : List Sort) (tree : Tree) (s : Spelled) (arena : Arena) (id : ℕ) → IsArena arena.nodes → AreParameters 0 scope.names variables
    → scope.preds ≡ [] → scope.quantifies ≡ false
    → spelled text scope (length variables) tree ≡ Ok s → IsTermAt arena [] s.term id → IsPlain arena.nodes id
spelled_plain text scope variables tree s arena id arranged are none without h at =
    (told_term text scope variables tree s arena id arranged are h at).known.plain none without
