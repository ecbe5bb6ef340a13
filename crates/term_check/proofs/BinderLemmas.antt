-- What lets and quantifiers tell, and how many terms rows of trees spell.
use Rattle.std.proofs.Common.{◌≡◌, ℕ, ◌+◌, ◌≤◌, List, [], ◌∷◌, ◌++◌, length, Bool, true, false, ◌||◌, refl, ap, sym, ◌∙◌, subst, arith, length-append, Result, Ok, Err}
use Rattle.std.proofs.lemmas.List.{length-map}
use Rattle.std.specs.Prelude.{Option, Some, None, not, nat_eq, zero, suc, if◌then◌else◌}
use Rattle.std.specs.List.{list_all}
use Rattle.sexp_read.specs.declared.tree.Tree.{Tree, Leaf, List', Row_of-Tree, end_of-Tree, more_of-Tree, items-the_row-Tree}
use Rattle.term_tree.specs.declared.sort.Sort.{Sort}
use Rattle.term_tree.specs.declared.sort.Sort.TheVariants.{Bool as BoolSort}
use Rattle.term_tree.specs.declared.node.TermId.{TermId}
use Rattle.term_tree.specs.Arena.{Arena, IsArena}
use Rattle.term_tree.specs.Legal.{has_some}
use Rattle.term_tree.proofs.Public.{both_true}
use Rattle.term_tree.specs.Sorts.{same_sort}
use Rattle.term_check.specs.declared.part.Part.{Part}
use Rattle.term_check.specs.declared.part.Fault.{Fault}
use Rattle.term_check.specs.Term.{IsTermAt}
use Rattle.term_check.specs.Spelling.{SpellingScope, Spelled, Gathered, spelled, all_spelled, bindings_spelled, each_bound, binding_spelled, item_spelled, with_spelled, nothing_yet, items_of, binder_fault, names_fault, sort_or_bool, sort_in, sorts_bound, variables_from, lets_from, lets_in, with_read_variables, with_lets, let_spelled, quantified, quantifier}
use Rattle.term_check.proofs.KnownLemmas.{Known, known_length, known_let, known_forall, known_exists}
use Rattle.term_check.proofs.NameLemmas.{stand_later, stand_variables, fit_variables, stand_lets, fit_lets}
use Rattle.term_check.proofs.OutcomeLemmas.{bind_ok, same_numbers, other_numbers}
use Rattle.term_check.proofs.SortLemmas.{equal_sorts}
use Rattle.term_check.proofs.TellingLemmas.{StandIn, ToldIn, Tells, TellsAll, same_spelled, same_gathered, IsEven, added_even}
use Rattle.term_check.proofs.ToldLemmas.{Told, told_let, told_forall, told_exists}

-- each item has two trees
abbrev pub is_pair : Tree → Bool
is_pair item = nat_eq (length (items_of item)) 2

neither : {A : Type 0} (a b : Bool) (o : Option A) (x : A) → (if a || not b then Some x else o) ≡ None → (a ≡ false) × (b ≡ true)
neither true b o x h = absurd (cc)
neither false true o x h = (refl, refl)
neither false false o x h = absurd (cc)

not_none : (n : ℕ) → (n ≡ 0 → ⊥) → 1 ≤ n
not_none zero h = absurd (h refl)
not_none (suc n) h = omega arith

pub binder_right : (text : List ℕ) (binder : Tree) → binder_fault text binder ≡ None → (1 ≤ length (items_of binder)) × (list_all is_pair (items_of binder) ≡ true)
binder_right text binder h =
    let b = neither (nat_eq (length (items_of binder)) 0) (list_all is_pair (items_of binder)) (names_fault text (items_of binder)) _ h in
    (not_none (length (items_of binder)) (other_numbers (length (items_of binder)) 0 b.0), b.1)

-- one term more
one_more : (g : Gathered) (s : Spelled) (k : Gathered) → with_spelled g s ≡ k → length k.parts ≡ length g.parts + 1
one_more g s k e = ap (λ (j : Gathered). length j.parts) (sym e) ∙ (let n : length (g.parts ++ s.part ∷ []) ≡ length g.parts + 1 = omega (arith, length-append g.parts (s.part ∷ [])) in n)

module _ (text : List ℕ) (scope : SpellingScope) where
  -- as many terms as trees
  pub row_counted : {n : _} (g : Gathered) (row : Row_of-Tree n) (k : Gathered) → IsEven g → all_spelled text scope g row ≡ Ok k
      → IsEven k × (length k.parts ≡ length g.parts + length (items-the_row-Tree _ row))
  row_counted g end_of-Tree k even h =
      let same = same_gathered g k h in (subst (λ (j : Gathered). IsEven j) same even, omega (arith, ap (λ (j : Gathered). length j.parts) same))
  row_counted g (more_of-Tree tree rest) k even h =
      let b = bind_ok (spelled text scope g.next tree) _ k h in
      let later = row_counted (with_spelled g b.0) rest k (added_even g b.0 even) b.2 in
      (later.0, omega (arith, later.1, length-append g.parts (b.0.part ∷ [])))

  item_counted : {n : _} (g : Gathered) (row : Row_of-Tree n) (k : Gathered) → nat_eq (length (items-the_row-Tree _ row)) 2 ≡ true → item_spelled text scope g row ≡ Ok k
      → length k.parts ≡ length g.parts + 1
  item_counted g end_of-Tree k pair h = absurd (omega (arith, same_numbers 0 2 pair))
  item_counted g (more_of-Tree name end_of-Tree) k pair h = absurd (omega (arith, same_numbers 1 2 pair))
  item_counted g (more_of-Tree name (more_of-Tree term end_of-Tree)) k pair h =
      let b = bind_ok (spelled text scope g.next term) _ k h in one_more g b.0 k (same_gathered (with_spelled g b.0) k b.2)
  item_counted g (more_of-Tree name (more_of-Tree term (more_of-Tree other rest))) k pair h =
      absurd (omega (arith, same_numbers (length (name ∷ term ∷ other ∷ items-the_row-Tree _ rest)) 2 pair))

  binding_counted : (g : Gathered) (item : Tree) (k : Gathered) → is_pair item ≡ true → binding_spelled text scope g item ≡ Ok k → length k.parts ≡ length g.parts + 1
  binding_counted g (Leaf kind start end) k pair h = absurd (omega (arith, same_numbers 0 2 pair))
  binding_counted g (List' shape row start end) k pair h = item_counted g row k pair h

  each_counted : {n : _} (g : Gathered) (row : Row_of-Tree n) (k : Gathered) → list_all is_pair (items-the_row-Tree _ row) ≡ true → each_bound text scope g row ≡ Ok k
      → length k.parts ≡ length g.parts + length (items-the_row-Tree _ row)
  each_counted g end_of-Tree k pairs h = omega (arith, ap (λ (j : Gathered). length j.parts) (same_gathered g k h))
  each_counted g (more_of-Tree item rest) k pairs h =
      let both = both_true (is_pair item) (list_all is_pair (items-the_row-Tree _ rest)) pairs in
      let b = bind_ok (binding_spelled text scope g item) _ k h in
      omega (arith, binding_counted g item b.0 both.0 b.1, each_counted b.0 rest k both.1 b.2)

  -- as many bound terms as items
  pub bindings_counted : (next : ℕ) (binder : Tree) (k : Gathered) → list_all is_pair (items_of binder) ≡ true → bindings_spelled text scope (nothing_yet next) binder ≡ Ok k
      → length (items_of binder) ≡ length k.parts
  bindings_counted next (Leaf kind start end) k pairs h = ap (λ (j : Gathered). length j.parts) (same_gathered (nothing_yet next) k h)
  bindings_counted next (List' shape row start end) k pairs h = omega (arith, each_counted (nothing_yet next) row k pairs h)

some_there : {X : Type 0} (xs : List X) → 1 ≤ length xs → has_some xs ≡ true
some_there [] h = absurd (omega (arith, h))
some_there (x ∷ xs) h = refl

may_quantify : (b : Bool) (r : Result Spelled Fault) (f : Fault) (s : Spelled) → (if b then r else Err f) ≡ Ok s → (b ≡ true) × (r ≡ Ok s)
may_quantify true r f s h = (refl, h)
may_quantify false r f s h = absurd (cc)

module _ (text : List ℕ) (arena : Arena) (arranged : IsArena arena.nodes) where
  pub let_tells_by : (scope : SpellingScope) (next start : ℕ) (items : List Tree) (g : Gathered) (u : Spelled) → 1 ≤ length items → length items ≡ length g.parts → TellsAll arena scope next g
      → Tells arena (with_lets text scope items g.parts) g.next u → Tells arena scope next (let_spelled start g u)
  let_tells_by scope next start items g u some many all one = (omega (arith, all.0, one.0), told)
    where
      told : (lets : List TermId) → StandIn arena scope lets next → (id : ℕ) → IsTermAt arena lets (let_spelled start g u).term id → ToldIn arena scope lets next (let_spelled start g u).part u.next id
      told lets stand id at =
          let ids : List TermId = at.0 in
          let body : TermId = at.1 in
          let bound = all.1 lets stand ids at.3 in
          let later = stand_later scope.preds arena.nodes scope.quantifies text scope.names lets next stand g.next all.0 in
          let within = stand_lets scope.preds arena.nodes scope.quantifies text scope.names lets g.next later items g.parts ids bound.known many in
          let told_body = one.1 (lets ++ ids) within body.0 at.4 in
          let there : 1 ≤ length ids = omega (arith, some, many, known_length scope.preds arena.nodes scope.quantifies g.parts ids bound.known) in
          told_let scope.preds arena.nodes scope.quantifies scope.names lets arranged id next (let_spelled start g u).part u.next
          (known_let scope.preds arena.nodes scope.quantifies arranged id g.parts ids body u.part.sort u.part.constant at.2.0 bound.known told_body.known)
          (scope.names ++ lets_from text (lets_in scope.names) items g.parts) g.parts ids g.next u.part body at.2.0 (some_there ids there)
          (fit_lets scope.preds arena.nodes scope.quantifies text scope.names lets g.next later items g.parts ids bound.known) bound told_body

  pub quantifier_tells_by : (scope : SpellingScope) (next start : ℕ) (all : Bool) (items : List Tree) (u s : Spelled) → 1 ≤ length items → scope.quantifies ≡ true
      → Tells arena (with_read_variables text scope next items) (next + length items) u → quantified (quantifier all start next (sorts_bound text items)) start u ≡ Ok s → Tells arena scope next s
  quantifier_tells_by scope next start all items u s some may one h =
      let q = may_quantify (same_sort u.part.sort BoolSort) _ _ s h in
      subst (λ (r : Spelled). Tells arena scope next r) (same_spelled _ s q.1) (omega (arith, one.0), told all (equal_sorts u.part.sort BoolSort q.0))
    where
      sorts : List Sort
      sorts = sorts_bound text items

      part : Part
      part = record { start = start; sort = BoolSort; constant = None }

      many : length sorts ≡ length items
      many = length-map items (λ item. sort_or_bool (sort_in text item))

      there : has_some sorts ≡ true
      there = some_there sorts (omega (arith, some, many))

      told_body : (lets : List TermId) → StandIn arena scope lets next → (body : TermId) → IsTermAt arena lets u.term body.0
          → Told scope.preds arena.nodes scope.quantifies (scope.names ++ variables_from text next items) lets (next + length sorts) u.part u.next body.0
      told_body lets stand body at =
          subst (λ (k : ℕ). Told scope.preds arena.nodes scope.quantifies (scope.names ++ variables_from text next items) lets k u.part u.next body.0)
          (let e : next + length items ≡ next + length sorts = omega (arith, many) in e)
          (one.1 lets (stand_variables scope.preds arena.nodes scope.quantifies text scope.names lets next stand items) body.0 at)

      told : (all : Bool) → u.part.sort ≡ BoolSort → (lets : List TermId) → StandIn arena scope lets next → (id : ℕ) → IsTermAt arena lets (quantifier all start next sorts u.term) id
          → ToldIn arena scope lets next part u.next id
      told true bool lets stand id at =
          let body : TermId = at.0 in
          let t = told_body lets stand body at.2 in
          told_forall scope.preds arena.nodes scope.quantifies scope.names lets arranged id next part u.next
          (known_forall scope.preds arena.nodes scope.quantifies arranged id next sorts body u.part.constant at.1.0 may
          (subst (λ (x : Sort). Known scope.preds arena.nodes scope.quantifies x u.part.constant body.0) bool t.known))
          (scope.names ++ variables_from text next items) sorts u.part body at.1.0 there
          (fit_variables scope.preds arena.nodes scope.quantifies text scope.names lets next stand items) t
      told false bool lets stand id at =
          let body : TermId = at.0 in
          let t = told_body lets stand body at.2 in
          told_exists scope.preds arena.nodes scope.quantifies scope.names lets arranged id next part u.next
          (known_exists scope.preds arena.nodes scope.quantifies arranged id next sorts body u.part.constant at.1.0 may
          (subst (λ (x : Sort). Known scope.preds arena.nodes scope.quantifies x u.part.constant body.0) bool t.known))
          (scope.names ++ variables_from text next items) sorts u.part body at.1.0 there
          (fit_variables scope.preds arena.nodes scope.quantifies text scope.names lets next stand items) t
