-- The parts of a term that a text spells start in the order of the text.
use Rattle.std.proofs.Common.{◌≡◌, ℕ, ◌+◌, ◌<◌, ◌≤◌, List, [], ◌∷◌, length, Bool, true, false, refl, ap, sym, ◌∙◌, subst, arith}
use Rattle.std.specs.Prelude.{Option, None, Result, Ok, Err, if◌then◌else◌, codes}
use Rattle.sexp_read.specs.declared.tree.Tree.{Tree, items_hidden-the_row-Tree-0}
use Rattle.sexp_read.specs.declared.tree.Tree.TheViews.{List as ListTree}
use Rattle.sexp_read.specs.Trees.{IsTree, leaf, list, AreTrees, none as no_trees, more as more_trees}
use Rattle.sexp_read.proofs.Public.{IsAhead, next_ahead}
use Rattle.term_tree.specs.declared.sort.Sort.{Sort}
use Rattle.term_tree.specs.declared.sort.Sort.TheVariants.{Bool as BoolSort}
use Rattle.term_tree.specs.declared.refusal.Kind.TheVariants.{SortMismatch}
use Rattle.term_tree.specs.Sorts.{same_sort}
use Rattle.term_check.specs.declared.part.Part.{Part}
use Rattle.term_check.specs.declared.part.Fault.{Fault}
use Rattle.term_check.specs.declared.atom.Atom.{Atom}
use Rattle.term_check.specs.declared.atom.Atom.TheVariants.{Number, Truth, BoundVariable, LetName, Predicate}
use Rattle.term_check.specs.declared.head.Head.{Head}
use Rattle.term_check.specs.declared.head.Head.TheVariants.{Operator, Declared, Constant, Divisibility}
use Rattle.term_check.specs.Rules.{fault, unless, applied, divisible_fault, declared_fault}
use Rattle.term_check.specs.Term.{Term, numeral, truth, variable, let_name, predicate, operation, divisible, binding, universal, existential, Terms, none, more, with_last}
use Rattle.term_check.specs.Spelling.{SpellingScope, Spelled, Gathered, ◌>>=◌, application, atom_term, binder_fault, head_fault, is_word, items_of, leaf_atom, let_names_fault, let_spelled, nothing_yet, number_or_0, quantified, quantifier, quantifier_fault, sorts_bound, sorts_of, spelled, spelled_atom, spelled_head, spells, the_argument, variables_fault, with_lets, with_part, with_read_variables, with_spelled}
use Rattle.term_check.specs.machinery.Reading.{all_bound, any_list, applied_list, each_spelled, item_bound, let_list, next_spelled, quantifier_list, under_lets, under_variables}
use Rattle.term_check.proofs.Public.{bind_ok, spelled-List, unless_ok}
use Rattle.clause_readings.specs.Layout.{IsLaid, AreLaid}
use Rattle.clause_readings.proofs.FoundLemmas.{all_laid_apart}

-- room around what is laid
mutual
  wider : (low high under over : ℕ) (t : Term) → under ≤ low → high ≤ over → IsLaid low high t → IsLaid under over t
  wider low high under over (numeral at value) a b h = (omega (arith, a, h.0), omega (arith, b, h.1))
  wider low high under over (truth at value) a b h = (omega (arith, a, h.0), omega (arith, b, h.1))
  wider low high under over (variable at number sort) a b h = (omega (arith, a, h.0), omega (arith, b, h.1))
  wider low high under over (let_name at number) a b h = (omega (arith, a, h.0), omega (arith, b, h.1))
  wider low high under over (predicate at number args) a b h = (omega (arith, a, h.0), omega (arith, b, h.1), all_wider (at + 1) high over args b h.2)
  wider low high under over (operation at op args) a b h = (omega (arith, a, h.0), omega (arith, b, h.1), all_wider (at + 1) high over args b h.2)
  wider low high under over (divisible at by arg) a b h = (omega (arith, a, h.0), omega (arith, b, h.1), wider (at + 1) high (at + 1) over arg (omega arith) b h.2)
  wider low high under over (binding at bound body) a b h =
      (omega (arith, a, h.0), omega (arith, b, h.1), (h.2.0, h.2.1, wider h.2.0 high h.2.0 over body (omega arith) b h.2.2))
  wider low high under over (universal at first sorts body) a b h = (omega (arith, a, h.0), omega (arith, b, h.1), wider (at + 1) high (at + 1) over body (omega arith) b h.2)
  wider low high under over (existential at first sorts body) a b h = (omega (arith, a, h.0), omega (arith, b, h.1), wider (at + 1) high (at + 1) over body (omega arith) b h.2)

  all_wider : (low high over : ℕ) (ts : Terms) → high ≤ over → AreLaid low high ts → AreLaid low over ts
  all_wider low high over none b h = omega (arith, b, h)
  all_wider low high over (more t ts) b h = (h.0, h.1, all_wider h.0 high over ts b h.2)

-- one more at the end
one_more : (low mid high : ℕ) (ts : Terms) (t : Term) → AreLaid low mid ts → IsLaid mid high t → AreLaid low high (with_last ts t)
one_more low mid high none t h k = (high, wider mid high low high t h (omega arith) k, omega arith)
one_more low mid high (more u us) t h k = (h.0, h.1, one_more h.0 mid high us t h.2 k)

mutual
  tree_past : (text : List ℕ) (depth at : ℕ) (tree : Tree) (after : ℕ) → IsTree text depth at tree after → at < after
  tree_past text _ _ _ _ (leaf depth at kind start end h) = let a = subst (IsAhead text at) h (next_ahead text at) in omega (arith, a.0, a.1)
  tree_past text _ _ _ _ (list depth at start items inner close h below within h') =
      let a = subst (IsAhead text at) h (next_ahead text at) in
      let b = subst (IsAhead text inner) h' (next_ahead text inner) in
      let r = trees_past text (depth + 1) (start + 1) items inner within in
      omega (arith, a.0, b.0, r)

  trees_past : (text : List ℕ) (depth at : ℕ) (trees : List Tree) (after : ℕ) → AreTrees text depth at trees after → at ≤ after
  trees_past text _ _ _ _ (no_trees depth at) = omega arith
  trees_past text _ _ _ _ (more_trees depth at tree mid trees after h rest) =
      let a = tree_past text depth at tree mid h in let r = trees_past text depth mid trees after rest in omega (arith, a, r)

atom_laid : (start high : ℕ) (atom : Atom) → start < high → IsLaid start high (atom_term start atom)
atom_laid start high (Number k) h = (omega arith, h)
atom_laid start high (Truth value) h = (omega arith, h)
atom_laid start high (BoundVariable number sort) h = (omega arith, h)
atom_laid start high (LetName number sort constant) h = (omega arith, h)
atom_laid start high (Predicate number) h = (omega arith, h, omega (arith, h))

abbrev HasTerm : Terms → Type 0
HasTerm none = ⊥
HasTerm (more t ts) = Unit {0}

last_there : (ts : Terms) (t : Term) → HasTerm (with_last ts t)
last_there none t = tt
last_there (more u us) t = tt

argument_laid : (low high : ℕ) (ts : Terms) → HasTerm ts → AreLaid low high ts → IsLaid low high (the_argument ts)
argument_laid low high none h k = absurd h
argument_laid low high (more t ts) h k = let last = all_laid_apart k.0 high ts k.2 in wider low k.0 low high t (omega arith) last k.1

same_term : (x s : Spelled) (r : Result Spelled Fault) → r ≡ Ok x → r ≡ Ok s → s.term ≡ x.term
same_term x s r h k =
    let both : Ok x ≡ Ok s = sym h ∙ k in
    let e : x ≡ s = cc in
    ap (λ (y : Spelled). y.term) (sym e)

with_part_term : (term : Term) (next : ℕ) (r : Result Part Fault) (s : Spelled) → with_part term next r ≡ Ok s → s.term ≡ term
with_part_term term next (Ok part) s h = same_term (record { term = term; part = part; next = next }) s (with_part term next (Ok part)) refl h
with_part_term term next (Err f) s h = absurd (cc)

-- the term of an application
application_laid : (preds : _) (head : Head) (start high : ℕ) (g : Gathered) (s : Spelled) → start < high → AreLaid (start + 1) high g.terms → ((by : Option ℕ) → head ≡ Divisibility by → HasTerm g.terms)
    → application preds head start g ≡ Ok s → IsLaid start high s.term
application_laid preds (Operator op) start high g s h laid some is =
    subst (IsLaid start high) (sym (with_part_term (operation start op g.terms) g.next (applied op start g.parts) s is)) (omega arith, h, laid)
application_laid preds (Declared number) start high g s h laid some is =
    let e = unless_ok (declared_fault (sorts_of preds number) g.parts) (spells (predicate start number g.terms) start BoolSort None g.next) s is in
    subst (IsLaid start high) (sym (same_term _ s (spells (predicate start number g.terms) start BoolSort None g.next) refl e.1)) (omega arith, h, laid)
application_laid preds Constant start high g s h laid some is = absurd (cc)
application_laid preds (Divisibility by) start high g s h laid some is =
    let e = unless_ok (divisible_fault by start g.parts) (spells (divisible start (number_or_0 by) (the_argument g.terms)) start BoolSort None g.next) s is in
    subst (IsLaid start high) (sym (same_term _ s (spells (divisible start (number_or_0 by) (the_argument g.terms)) start BoolSort None g.next) refl e.1))
    (omega arith, h, argument_laid (start + 1) high g.terms (some by refl) laid)

quantified_laid : (all : Bool) (start first high : ℕ) (sorts : List Sort) (body s : Spelled) → start < high → IsLaid (start + 1) high body.term
    → quantified (quantifier all start first sorts) start body ≡ Ok s → IsLaid start high s.term
quantified_laid all start first high sorts body s h laid is = by_test (same_sort body.part.sort BoolSort) refl
  where
    whole : (b : Bool) → IsLaid start high (quantifier b start first sorts body.term)
    whole true = (omega arith, h, laid)
    whole false = (omega arith, h, laid)

    by_test : (t : Bool) → same_sort body.part.sort BoolSort ≡ t → IsLaid start high s.term
    by_test true e =
        let read : spells (quantifier all start first sorts body.term) start BoolSort None body.next ≡ Ok s =
        sym (ap (λ (t : Bool). if t then spells (quantifier all start first sorts body.term) start BoolSort None body.next else Err (fault SortMismatch body.part.start)) e) ∙ is in
        subst (IsLaid start high) (sym (same_term _ s (spells (quantifier all start first sorts body.term) start BoolSort None body.next) refl read)) (whole all)
    by_test false e =
        let read : ◌≡◌ {A = Result Spelled Fault} (Err (fault SortMismatch body.part.start)) (Ok s) =
        sym (ap (λ (t : Bool). if t then spells (quantifier all start first sorts body.term) start BoolSort None body.next else Err (fault SortMismatch body.part.start)) e) ∙ is in
        absurd (cc)

-- arguments that are read are there
each_keeps : (text : List ℕ) (scope : SpellingScope) (g h : Gathered) (trees : List Tree) → HasTerm g.terms → each_spelled text scope g trees ≡ Ok h → HasTerm h.terms
each_keeps text scope g h [] some is = let e : g ≡ h = cc in subst (λ (x : Gathered). HasTerm x.terms) e some
each_keeps text scope g h (tree ∷ trees) some is =
    let m = bind_ok (next_spelled text scope g tree) (λ x. each_spelled text scope x trees) h is in
    let s = bind_ok (spelled text scope g.next tree) (λ x. Ok (with_spelled g x)) m.0 m.1 in
    let e : with_spelled g s.0 ≡ m.0 = cc in
    each_keeps text scope m.0 h trees (subst (λ (x : Gathered). HasTerm x.terms) e (last_there g.terms s.0.term)) m.2

division_some : (text : List ℕ) (scope : SpellingScope) (next start : ℕ) (g : Gathered) (by : Option ℕ) (rest : List Tree) → head_fault scope.preds (Divisibility by) start (length rest) ≡ None
    → each_spelled text scope (nothing_yet next) rest ≡ Ok g → HasTerm g.terms
division_some text scope next start g by [] h is = absurd (cc)
division_some text scope next start g by (tree ∷ trees) h is =
    let m = bind_ok (next_spelled text scope (nothing_yet next) tree) (λ x. each_spelled text scope x trees) g is in
    let s = bind_ok (spelled text scope next tree) (λ x. Ok (with_spelled (nothing_yet next) x)) m.0 m.1 in
    let e : with_spelled (nothing_yet next) s.0 ≡ m.0 = cc in
    each_keeps text scope m.0 g trees (subst (λ (x : Gathered). HasTerm x.terms) e (last_there none s.0.term)) m.2

items_of-List : (items : List Tree) (start end : ℕ) → items_of (ListTree items start end) ≡ items
items_of-List items start end = items_hidden-the_row-Tree-0 items

-- one more term, behind what was laid
next_laid : (text : List ℕ) (scope : SpellingScope) (low at : ℕ) (tree : Tree) (after : ℕ) (g h : Gathered) → ((s : Spelled) → spelled text scope g.next tree ≡ Ok s → IsLaid at after s.term)
    → AreLaid low at g.terms → next_spelled text scope g tree ≡ Ok h → AreLaid low after h.terms
next_laid text scope low at tree after g h read laid is =
    let s = bind_ok (spelled text scope g.next tree) (λ x. Ok (with_spelled g x)) h is in
    let e : with_spelled g s.0 ≡ h = cc in
    subst (λ (x : Gathered). AreLaid low after x.terms) e (one_more low at after g.terms s.0.term laid (read s.0 s.1))

-- the forms of a list, by its first word
worded_laid : (text : List ℕ) (scope : SpellingScope) (next start mid : ℕ) (head : Tree) (rest : List Tree) (inner : ℕ) (s : Spelled) → start + 1 < mid → mid ≤ inner
    → (let_list text scope next start rest ≡ Ok s → IsLaid start inner s.term)
    → ((all : Bool) → quantifier_list text scope next start all rest ≡ Ok s → IsLaid start inner s.term)
    → ((h : Gathered) → each_spelled text scope (nothing_yet next) rest ≡ Ok h → AreLaid (start + 1) inner h.terms)
    → (a b c : Bool)
    → (if a then let_list text scope next start rest
    else if b then unless (quantifier_fault scope.quantifies start) (quantifier_list text scope next start true rest)
    else if c then unless (quantifier_fault scope.quantifies start) (quantifier_list text scope next start false rest)
    else applied_list text scope next start head rest) ≡ Ok s
    → IsLaid start inner s.term
worded_laid text scope next start mid head rest inner s past room lets quantifies each true b c e = lets e
worded_laid text scope next start mid head rest inner s past room lets quantifies each false true c e =
    let q = unless_ok (quantifier_fault scope.quantifies start) (quantifier_list text scope next start true rest) s e in quantifies true q.1
worded_laid text scope next start mid head rest inner s past room lets quantifies each false false true e =
    let q = unless_ok (quantifier_fault scope.quantifies start) (quantifier_list text scope next start false rest) s e in quantifies false q.1
worded_laid text scope next start mid head rest inner s past room lets quantifies each false false false e =
    let h = bind_ok (spelled_head text scope.preds head)
    (λ h. unless (head_fault scope.preds h start (length rest)) (each_spelled text scope (nothing_yet next) rest >>= application scope.preds h start)) s e in
    let u = unless_ok (head_fault scope.preds h.0 start (length rest)) (each_spelled text scope (nothing_yet next) rest >>= application scope.preds h.0 start) s h.2 in
    let g = bind_ok (each_spelled text scope (nothing_yet next) rest) (application scope.preds h.0 start) s u.1 in
    application_laid scope.preds h.0 start inner g.0 s (omega (arith, past, room)) (each g.0 g.1)
    (λ by same. division_some text scope next start g.0 by rest (ap (λ (x : Head). head_fault scope.preds x start (length rest)) (sym same) ∙ u.0) g.1) g.2

mutual
  pub spelled_laid : (text : List ℕ) (scope : SpellingScope) (next depth at : ℕ) (tree : Tree) (after : ℕ) (s : Spelled) → IsTree text depth at tree after → spelled text scope next tree ≡ Ok s
      → IsLaid at after s.term
  spelled_laid text scope next _ _ _ _ s (leaf depth at kind start end h) is =
      let a = subst (IsAhead text at) h (next_ahead text at) in
      let m = bind_ok (leaf_atom text scope.preds scope.names kind start end) (λ atom. Ok (spelled_atom next start atom)) s is in
      let e = same_term (spelled_atom next start m.0) s (Ok (spelled_atom next start m.0)) refl m.2 in
      wider start end at end s.term a.0 (omega arith) (subst (IsLaid start end) (sym e) (atom_laid start end m.0 a.1))
  spelled_laid text scope next _ _ _ _ s (list depth at start items inner close h below within h') is =
      let a = subst (IsAhead text at) h (next_ahead text at) in
      let b = subst (IsAhead text inner) h' (next_ahead text inner) in
      wider start inner at (close + 1) s.term a.0 (omega (arith, b.0)) (list_laid text scope next start (depth + 1) (start + 1) items inner s within (omega arith) (sym (spelled-List text scope next items start (close + 1)) ∙ is))

  list_laid : (text : List ℕ) (scope : SpellingScope) (next start depth at : ℕ) (items : List Tree) (inner : ℕ) (s : Spelled) → AreTrees text depth at items inner → start + 1 ≤ at
      → any_list text scope next start items ≡ Ok s → IsLaid start inner s.term
  list_laid text scope next start _ _ _ _ s (no_trees depth at) from is = absurd (cc)
  list_laid text scope next start _ _ _ _ s (more_trees depth at head mid rest inner first later) from is =
      let past = tree_past text depth at head mid first in
      worded_laid text scope next start mid head rest inner s (omega (arith, past, from)) (trees_past text depth mid rest inner later)
      (λ e. let_laid text scope next start depth mid rest inner s later (omega (arith, past, from)) e)
      (λ all e. quantifier_laid text scope next start depth mid all rest inner s later (omega (arith, past, from)) e)
      (λ h e. each_laid text scope (start + 1) depth mid rest inner (nothing_yet next) h later (omega (arith, past, from)) e)
      (is_word text head (codes "let")) (is_word text head (codes "forall")) (is_word text head (codes "exists")) is

  -- one after another, behind what was laid
  each_laid : (text : List ℕ) (scope : SpellingScope) (low depth at : ℕ) (trees : List Tree) (after : ℕ) (g h : Gathered) → AreTrees text depth at trees after → AreLaid low at g.terms
      → each_spelled text scope g trees ≡ Ok h → AreLaid low after h.terms
  each_laid text scope low _ _ _ _ g h (no_trees depth at) laid is = let e : g ≡ h = cc in subst (λ (x : Gathered). AreLaid low at x.terms) e laid
  each_laid text scope low _ _ _ _ g h (more_trees depth at tree mid trees after first later) laid is =
      let m = bind_ok (next_spelled text scope g tree) (λ x. each_spelled text scope x trees) h is in
      each_laid text scope low depth mid trees after m.0 h later (next_laid text scope low at tree mid g m.0 (λ s e. spelled_laid text scope g.next depth at tree mid s first e) laid m.1) m.2

  let_laid : (text : List ℕ) (scope : SpellingScope) (next start depth at : ℕ) (trees : List Tree) (inner : ℕ) (s : Spelled) → AreTrees text depth at trees inner → start + 1 ≤ at
      → let_list text scope next start trees ≡ Ok s → IsLaid start inner s.term
  let_laid text scope next start _ _ _ _ s (no_trees depth at) past is = absurd (cc)
  let_laid text scope next start _ _ _ _ s (more_trees depth at binder mid _ _ first (no_trees _ _)) past is = absurd (cc)
  let_laid text scope next start _ _ _ _ s (more_trees depth at binder mid _ _ first (more_trees _ _ body end _ _ second (no_trees _ _))) past is =
      let u = unless_ok (binder_fault text binder) (all_bound text scope (nothing_yet next) (items_of binder) >>= under_lets text scope start (items_of binder) body) s is in
      let g = bind_ok (all_bound text scope (nothing_yet next) (items_of binder)) (under_lets text scope start (items_of binder) body) s u.1 in
      let v = unless_ok (let_names_fault text [] (items_of binder)) (spelled text (with_lets text scope (items_of binder) g.0.parts) g.0.next body >>= λ x. Ok (let_spelled start g.0 x)) s g.2 in
      let b = bind_ok (spelled text (with_lets text scope (items_of binder) g.0.parts) g.0.next body) (λ x. Ok (let_spelled start g.0 x)) s v.1 in
      let e = same_term (let_spelled start g.0 b.0) s (Ok (let_spelled start g.0 b.0)) refl b.2 in
      let bound = binder_laid text scope (start + 1) depth at binder mid (nothing_yet next) g.0 first past g.1 in
      let inside = spelled_laid text (with_lets text scope (items_of binder) g.0.parts) g.0.next depth mid body end b.0 second b.1 in
      let p = tree_past text depth at binder mid first in
      let q = tree_past text depth mid body end second in
      subst (IsLaid start end) (sym e) (omega arith, omega (arith, past, p, q), (mid, bound, inside))
  let_laid text scope next start _ _ _ _ s (more_trees depth at binder mid _ _ first (more_trees _ _ body end _ _ second (more_trees _ _ third _ _ _ _ _))) past is = absurd (cc)

  binder_laid : (text : List ℕ) (scope : SpellingScope) (low depth at : ℕ) (binder : Tree) (after : ℕ) (g h : Gathered) → IsTree text depth at binder after → AreLaid low at g.terms
      → all_bound text scope g (items_of binder) ≡ Ok h → AreLaid low after h.terms
  binder_laid text scope low _ _ _ _ g h (leaf depth at kind start end x) laid is =
      let a = subst (IsAhead text at) x (next_ahead text at) in
      let e : g ≡ h = cc in
      all_wider low at end h.terms (omega (arith, a.0, a.1)) (subst (λ (y : Gathered). AreLaid low at y.terms) e laid)
  binder_laid text scope low _ _ _ _ g h (list depth at start items inner close x below within x') laid is =
      let a = subst (IsAhead text at) x (next_ahead text at) in
      let b = subst (IsAhead text inner) x' (next_ahead text inner) in
      all_wider low inner (close + 1) h.terms (omega (arith, b.0))
      (bounds_laid text scope low (depth + 1) (start + 1) items inner g h within (all_wider low at (start + 1) g.terms (omega (arith, a.0)) laid)
      (ap (all_bound text scope g) (sym (items_of-List items start (close + 1))) ∙ is))

  bounds_laid : (text : List ℕ) (scope : SpellingScope) (low depth at : ℕ) (items : List Tree) (after : ℕ) (g h : Gathered) → AreTrees text depth at items after → AreLaid low at g.terms
      → all_bound text scope g items ≡ Ok h → AreLaid low after h.terms
  bounds_laid text scope low _ _ _ _ g h (no_trees depth at) laid is = let e : g ≡ h = cc in subst (λ (x : Gathered). AreLaid low at x.terms) e laid
  bounds_laid text scope low _ _ _ _ g h (more_trees depth at item mid items after first later) laid is =
      let m = bind_ok (item_bound text scope g (items_of item)) (λ x. all_bound text scope x items) h is in
      bounds_laid text scope low depth mid items after m.0 h later (item_laid text scope low depth at item mid g m.0 first laid m.1) m.2

  item_laid : (text : List ℕ) (scope : SpellingScope) (low depth at : ℕ) (item : Tree) (after : ℕ) (g h : Gathered) → IsTree text depth at item after → AreLaid low at g.terms
      → item_bound text scope g (items_of item) ≡ Ok h → AreLaid low after h.terms
  item_laid text scope low _ _ _ _ g h (leaf depth at kind start end x) laid is =
      let a = subst (IsAhead text at) x (next_ahead text at) in
      let e : g ≡ h = cc in
      all_wider low at end h.terms (omega (arith, a.0, a.1)) (subst (λ (y : Gathered). AreLaid low at y.terms) e laid)
  item_laid text scope low _ _ _ _ g h (list depth at start items inner close x below within x') laid is =
      let a = subst (IsAhead text at) x (next_ahead text at) in
      let b = subst (IsAhead text inner) x' (next_ahead text inner) in
      all_wider low inner (close + 1) h.terms (omega (arith, b.0))
      (named_laid text scope low (depth + 1) (start + 1) items inner g h within (all_wider low at (start + 1) g.terms (omega (arith, a.0)) laid)
      (ap (item_bound text scope g) (sym (items_of-List items start (close + 1))) ∙ is))

  named_laid : (text : List ℕ) (scope : SpellingScope) (low depth at : ℕ) (trees : List Tree) (after : ℕ) (g h : Gathered) → AreTrees text depth at trees after → AreLaid low at g.terms
      → item_bound text scope g trees ≡ Ok h → AreLaid low after h.terms
  named_laid text scope low _ _ _ _ g h (no_trees depth at) laid is = let e : g ≡ h = cc in subst (λ (x : Gathered). AreLaid low at x.terms) e laid
  named_laid text scope low _ _ _ _ g h (more_trees depth at name mid _ _ first (no_trees _ _)) laid is =
      let p = tree_past text depth at name mid first in
      let e : g ≡ h = cc in
      all_wider low at mid h.terms (omega (arith, p)) (subst (λ (y : Gathered). AreLaid low at y.terms) e laid)
  named_laid text scope low _ _ _ _ g h (more_trees depth at name mid _ _ first (more_trees _ _ term end _ _ second (no_trees _ _))) laid is =
      let p = tree_past text depth at name mid first in
      next_laid text scope low mid term end g h (λ s e. spelled_laid text scope g.next depth mid term end s second e) (all_wider low at mid g.terms (omega (arith, p)) laid) is
  named_laid text scope low _ _ _ _ g h (more_trees depth at name mid _ after first (more_trees _ _ term end _ _ second (more_trees _ _ third last others _ fourth later))) laid is =
      let p = tree_past text depth at name mid first in
      let q = tree_past text depth mid term end second in
      let r = tree_past text depth end third last fourth in
      let t = trees_past text depth last others after later in
      let e : g ≡ h = cc in
      all_wider low at after h.terms (omega (arith, p, q, r, t)) (subst (λ (y : Gathered). AreLaid low at y.terms) e laid)

  quantifier_laid : (text : List ℕ) (scope : SpellingScope) (next start depth at : ℕ) (all : Bool) (trees : List Tree) (inner : ℕ) (s : Spelled) → AreTrees text depth at trees inner → start + 1 ≤ at
      → quantifier_list text scope next start all trees ≡ Ok s → IsLaid start inner s.term
  quantifier_laid text scope next start _ _ all _ _ s (no_trees depth at) past is = absurd (cc)
  quantifier_laid text scope next start _ _ all _ _ s (more_trees depth at binder mid _ _ first (no_trees _ _)) past is = absurd (cc)
  quantifier_laid text scope next start _ _ all _ _ s (more_trees depth at binder mid _ _ first (more_trees _ _ body end _ _ second (no_trees _ _))) past is =
      let u = unless_ok (binder_fault text binder) (unless (variables_fault text [] (items_of binder)) (under_variables text scope next start all (items_of binder) body)) s is in
      let v = unless_ok (variables_fault text [] (items_of binder)) (under_variables text scope next start all (items_of binder) body) s u.1 in
      let b = bind_ok (spelled text (with_read_variables text scope next (items_of binder)) (next + length (items_of binder)) body)
      (λ x. quantified (quantifier all start next (sorts_bound text (items_of binder))) start x) s v.1 in
      let p = tree_past text depth at binder mid first in
      let q = tree_past text depth mid body end second in
      quantified_laid all start next end (sorts_bound text (items_of binder)) b.0 s (omega (arith, past, p, q))
      (wider mid end (start + 1) end b.0.term (omega (arith, past, p)) (omega arith)
      (spelled_laid text (with_read_variables text scope next (items_of binder)) (next + length (items_of binder)) depth mid body end b.0 second b.1)) b.2
  quantifier_laid text scope next start _ _ all _ _ s (more_trees depth at binder mid _ _ first (more_trees _ _ body end _ _ second (more_trees _ _ third _ _ _ _ _))) past is = absurd (cc)
