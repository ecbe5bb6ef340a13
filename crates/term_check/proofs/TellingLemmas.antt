-- What a tree's reading tells of the term that it spells, wherever an arena has it: leaves and applications.
use Rattle.std.proofs.Common.{◌≡◌, ℕ, ◌+◌, ◌≤◌, List, [], ◌∷◌, ◌++◌, length, Bool, true, false, ◌&&◌, refl, ap, sym, ◌∙◌, subst, arith, length-append, Result, Ok, Err}
use Rattle.std.proofs.lemmas.Bool.Decides.{nat_tests}
use Rattle.std.specs.Prelude.{Option, Some, None, slice_get, ℤ, pos, int_lt, nat_eq, zero, suc}
use Rattle.sexp_read.specs.declared.tree.LeafKind.{LeafKind}
use Rattle.term_tree.specs.declared.sort.Sort.{Sort}
use Rattle.term_tree.specs.declared.sort.Sort.TheVariants.{Int as IntSort}
use Rattle.term_tree.specs.declared.script.Pred.{Pred as Declaration}
use Rattle.term_tree.specs.declared.node.OpKind.{OpKind}
use Rattle.term_tree.specs.declared.node.TermId.{TermId}
use Rattle.term_tree.specs.Arena.{Arena, IsArena}
use Rattle.term_tree.specs.Legal.{carried, is_scoped, next_variable}
use Rattle.term_tree.specs.Sorts.{same_sort}
use Rattle.term_check.specs.declared.part.Part.{Part}
use Rattle.term_check.specs.declared.part.Fault.{Fault}
use Rattle.term_check.specs.declared.atom.Atom.{Atom}
use Rattle.term_check.specs.declared.atom.Atom.TheVariants.{Number, Truth, BoundVariable, LetName, Predicate}
use Rattle.term_check.specs.declared.head.Head.{Head}
use Rattle.term_check.specs.declared.head.Head.TheVariants.{Operator, Declared, Constant, Divisibility}
use Rattle.term_check.specs.Operators.{wanted}
use Rattle.term_check.specs.Rules.{number_fault, sort_fault, linear_fault, result_sort, operator_constant, part_of, applied, first_not, first_fault, divisibility_fault, divisible_fault, declared_fault}
use Rattle.term_check.specs.Term.{Term, operation, Terms, none, more, with_last, IsTermAt, AreTermsAt}
use Rattle.term_check.specs.Spelling.{SpellingScope, Spelled, Gathered, sorts_in, sorts_of, atom_part, spelled_atom, leaf_atom, leaf_term, declared_number_fault, head_fault, with_part, the_argument, number_or_0, application, with_spelled, nothing_yet}
use Rattle.term_check.proofs.AtomLemmas.{IsAtom, leaf_is}
use Rattle.term_check.proofs.KnownLemmas.{Known, known_numeral, known_true, known_false, known_variable, known_name, known_predicate, known_operation, known_divisible}
use Rattle.term_check.proofs.NameLemmas.{Stand, stand_later}
use Rattle.term_check.proofs.OutcomeLemmas.{bind_ok, unless_ok, if_none, not_if, same_numbers, below_is}
use Rattle.term_check.proofs.RuleLemmas.{no_parts}
use Rattle.term_check.proofs.SortLemmas.{equal_sorts, declared_sorted}
use Rattle.term_check.proofs.ToldLemmas.{Told, ToldAll, split_last, told_nothing, told_more, told_numeral, told_true, told_false, told_variable, told_name, told_predicate, told_operation, told_divisible}

-- the names of a scope stand, with the terms of lets at these numbers
abbrev pub StandIn : Arena → SpellingScope → List TermId → ℕ → Type 0
StandIn arena scope lets next = Stand scope.preds arena.nodes scope.quantifies scope.names lets next

abbrev pub ToldIn : Arena → SpellingScope → List TermId → ℕ → Part → ℕ → ℕ → Type 0
ToldIn arena scope lets first part next id = Told scope.preds arena.nodes scope.quantifies scope.names lets first part next id

abbrev pub ToldAllIn : Arena → SpellingScope → List TermId → ℕ → List Part → ℕ → List TermId → Type 0
ToldAllIn arena scope lets first parts next ids = ToldAll scope.preds arena.nodes scope.quantifies scope.names lets first parts next ids

-- the term is told of wherever the arena has it
abbrev pub Tells : Arena → SpellingScope → ℕ → Spelled → Type 0
Tells arena scope next s =
    (next ≤ s.next) × ((lets : List TermId) → StandIn arena scope lets next → (id : ℕ) → IsTermAt arena lets s.term id → ToldIn arena scope lets next s.part s.next id)

abbrev pub TellsAll : Arena → SpellingScope → ℕ → Gathered → Type 0
TellsAll arena scope first g =
    (first ≤ g.next) × ((lets : List TermId) → StandIn arena scope lets first → (ids : List TermId) → AreTermsAt arena lets g.terms ids → ToldAllIn arena scope lets first g.parts g.next ids)

pub same_spelled : (r s : Spelled) → (let o : Result Spelled Fault = Ok r in o) ≡ Ok s → r ≡ s
same_spelled r s h = cc

pub same_gathered : (g k : Gathered) → (let o : Result Gathered Fault = Ok g in o) ≡ Ok k → g ≡ k
same_gathered g k h = cc

positive : (n : ℕ) → nat_eq n 0 ≡ false → int_lt (pos 0) (pos n) ≡ true
positive zero h = absurd (grind (arith, nat_tests))
positive (suc n) h = below_is 0 (suc n) (omega arith)

-- how many terms
abbrev count : Terms → ℕ
count none = 0
count (more t ts) = count ts + 1

count_last : (ts : Terms) (t : Term) → count (with_last ts t) ≡ count ts + 1
count_last none t = refl
count_last (more u us) t = ap (λ (n : ℕ). n + 1) (count_last us t)

-- as many terms as parts
abbrev pub IsEven : Gathered → Type 0
IsEven g = count g.terms ≡ length g.parts

pub added_even : (g : Gathered) (s : Spelled) → IsEven g → IsEven (with_spelled g s)
added_even g s h = omega (arith, count_last g.terms s.term, h, length-append g.parts (s.part ∷ []))

one_number : (o : Option ℕ) (n : ℕ) → carried (λ k. Some k) o ≡ Some n → o ≡ Some n
one_number None n h = h
one_number (Some k) n h = h

one_check : (b : Bool) → (b && true) ≡ true → b ≡ true
one_check true h = refl
one_check false h = h

module _ (arena : Arena) (arranged : IsArena arena.nodes) where
  pub nothing_tells : (scope : SpellingScope) (next : ℕ) → TellsAll arena scope next (nothing_yet next)
  nothing_tells scope next = (omega arith, nothing)
    where
      nothing : (lets : List TermId) → StandIn arena scope lets next → (ids : List TermId) → AreTermsAt arena lets none ids → ToldAllIn arena scope lets next [] next ids
      nothing lets stand [] h = told_nothing scope.preds arena.nodes scope.quantifies scope.names lets next
      nothing lets stand (id ∷ ids) h = absurd h

  pub added_tells : (scope : SpellingScope) (first : ℕ) (g : Gathered) (s : Spelled) → TellsAll arena scope first g → Tells arena scope g.next s → TellsAll arena scope first (with_spelled g s)
  added_tells scope first g s all one = (omega (arith, all.0, one.0), both)
    where
      both : (lets : List TermId) → StandIn arena scope lets first → (ids : List TermId) → AreTermsAt arena lets (with_last g.terms s.term) ids
          → ToldAllIn arena scope lets first (g.parts ++ s.part ∷ []) s.next ids
      both lets stand ids h =
          let split = split_last arena lets g.terms s.term ids h in
          let later : StandIn arena scope lets g.next = stand_later scope.preds arena.nodes scope.quantifies [] scope.names lets first stand g.next all.0 in
          subst (λ (is : List TermId). ToldAllIn arena scope lets first (g.parts ++ s.part ∷ []) s.next is) (sym split.2)
          (told_more scope.preds arena.nodes scope.quantifies scope.names lets first g.parts g.next split.0 s.part s.next split.1
          (all.1 lets stand split.0 split.3) (one.1 lets later split.1.0 split.4))

  -- Leaves.

  atom_tells : (scope : SpellingScope) (next start : ℕ) (atom : Atom) → IsAtom scope.preds scope.names atom → Tells arena scope next (spelled_atom next start atom)
  atom_tells scope next start (Number k) is = (
    omega arith,
    λ lets stand id at.
        told_numeral scope.preds arena.nodes scope.quantifies scope.names lets arranged id next (atom_part start (Number k)) next
        (known_numeral scope.preds arena.nodes scope.quantifies arranged id k at.0 is) k at.0 refl,
  )
  atom_tells scope next start (Truth true) is = (
    omega arith,
    λ lets stand id at.
        told_true scope.preds arena.nodes scope.quantifies scope.names lets arranged id next (atom_part start (Truth true)) next
        (known_true scope.preds arena.nodes scope.quantifies arranged id at.0) at.0 refl,
  )
  atom_tells scope next start (Truth false) is = (
    omega arith,
    λ lets stand id at.
        told_false scope.preds arena.nodes scope.quantifies scope.names lets arranged id next (atom_part start (Truth false)) next
        (known_false scope.preds arena.nodes scope.quantifies arranged id at.0) at.0 refl,
  )
  atom_tells scope next start (BoundVariable number sort) is = (
    omega arith,
    λ lets stand id at.
        told_variable scope.preds arena.nodes scope.quantifies scope.names lets arranged id next (atom_part start (BoundVariable number sort)) next
        (known_variable scope.preds arena.nodes scope.quantifies arranged id number sort at.0) number sort at.0 (λ names fit. fit.variables is.0 number sort is.1) refl,
  )
  atom_tells scope next start (LetName number sort constant) is = (
    omega arith,
    λ lets stand id at.
        told_name scope.preds arena.nodes scope.quantifies scope.names lets arranged id next (atom_part start (LetName number sort constant)) next
        (known_name scope.preds arena.nodes scope.quantifies arranged id at.0 sort constant at.2.0 (stand.known is.0 number sort constant at.0 is.1 at.1)) number at.0 at.2.0 at.1 refl,
  )
  atom_tells scope next start (Predicate number) is = (
    omega arith,
    λ lets stand id at.
        let all = (nothing_tells scope next).1 lets stand at.0 at.2 in
        told_predicate scope.preds arena.nodes scope.quantifies scope.names lets arranged id next (atom_part start (Predicate number)) next
        (known_predicate scope.preds arena.nodes scope.quantifies arranged id number is.0 [] at.0 at.1.0 is.1 (declared_sorted is.0.args [] (sym is.2) (no_parts is.0.args)) all.known) number [] at.0 at.1.0 all,
  )

  pub leaf_tells : (text : List ℕ) (scope : SpellingScope) (next : ℕ) (kind : LeafKind) (start end : ℕ) (s : Spelled) → leaf_term text scope next kind start end ≡ Ok s → Tells arena scope next s
  leaf_tells text scope next kind start end s h =
      let b = bind_ok (leaf_atom text scope.preds scope.names kind start end) _ s h in
      subst (λ (r : Spelled). Tells arena scope next r) (same_spelled (spelled_atom next start b.0) s b.2)
      (atom_tells scope next start b.0 (leaf_is text scope.preds scope.names kind start end b.0 b.1))

  -- Applications.

  the_part : (term : Term) (next : ℕ) (r : Result Part Fault) (s : Spelled) → with_part term next r ≡ Ok s → (p : Part) × (r ≡ Ok p) × ((record { term = term; part = p; next = next }) ≡ s)
  the_part term next (Ok p) s h = (p, refl, same_spelled _ s h)
  the_part term next (Err f) s h = absurd (cc)

  its_constant : (start : ℕ) (sort : Sort) (r : Result (Option ℤ) Fault) (p : Part) → part_of start sort r ≡ Ok p → (c : Option ℤ) × (r ≡ Ok c) × ((record { start = start; sort = sort; constant = c }) ≡ p)
  its_constant start sort (Ok c) p h = (c, refl, cc)
  its_constant start sort (Err f) p h = absurd (cc)

  operator_tells : (scope : SpellingScope) (next start : ℕ) (op : OpKind) (g : Gathered) (s : Spelled) → TellsAll arena scope next g → number_fault op start (length g.parts) ≡ None
      → application scope.preds (Operator op) start g ≡ Ok s → Tells arena scope next s
  operator_tells scope next start op g s all n h =
      let p = the_part (operation start op g.terms) g.next (applied op start g.parts) s h in
      let sorts = unless_ok (sort_fault (wanted op) g.parts) _ p.0 p.1 in
      let linear = unless_ok (linear_fault op start g.parts) _ p.0 sorts.1 in
      let c = its_constant start (result_sort op g.parts) (operator_constant op start g.parts) p.0 linear.1 in
      let part : Part = record { start = start; sort = result_sort op g.parts; constant = c.0 } in
      subst (λ (r : Spelled). Tells arena scope next r) (ap (λ (q : Part). record { term = operation start op g.terms; part = q; next = g.next }) c.2 ∙ p.2) (
        all.0,
        λ lets stand id at.
            let told = all.1 lets stand at.0 at.2 in
            told_operation scope.preds arena.nodes scope.quantifies scope.names lets arranged id next part g.next
            (known_operation scope.preds arena.nodes scope.quantifies arranged id op start g.parts at.0 c.0 at.1.0 n sorts.0 linear.0 c.1 told.known) op g.parts at.0 at.1.0 told,
      )

  -- the number of arguments that the predicate was declared with
  as_declared : (start : ℕ) (o : Option Declaration) (n : ℕ) → declared_number_fault start (length (sorts_in o)) n ≡ None → (p : Declaration) × (o ≡ Some p) × (n ≡ length p.args)
  as_declared start None n h = absurd (cc)
  as_declared start (Some p) n h =
      let some = not_if (nat_eq (length p.args) 0) _ _ h in
      (p, refl, same_numbers n (length p.args) (if_none (nat_eq n (length p.args)) _ _ some.1).0)

  declared_tells : (scope : SpellingScope) (next start number : ℕ) (g : Gathered) (s : Spelled) → TellsAll arena scope next g
      → declared_number_fault start (length (sorts_of scope.preds number)) (length g.parts) ≡ None → application scope.preds (Declared number) start g ≡ Ok s → Tells arena scope next s
  declared_tells scope next start number g s all n h =
      let declared = as_declared start (slice_get scope.preds number) (length g.parts) n in
      let u = unless_ok (declared_fault (sorts_of scope.preds number) g.parts) _ s h in
      let right = declared_sorted declared.0.args g.parts declared.2 (ap (λ (o : Option Declaration). declared_fault (sorts_in o) g.parts) (sym declared.1) ∙ u.0) in
      subst (λ (r : Spelled). Tells arena scope next r) (same_spelled _ s u.1) (
        all.0,
        λ lets stand id at.
            let told = all.1 lets stand at.0 at.2 in
            told_predicate scope.preds arena.nodes scope.quantifies scope.names lets arranged id next _ g.next
            (known_predicate scope.preds arena.nodes scope.quantifies arranged id number declared.0 g.parts at.0 at.1.0 declared.1 right told.known) number g.parts at.0 at.1.0 told,
      )

  none_before : (a b : Option Fault) → first_fault a b ≡ None → (a ≡ None) × (b ≡ None)
  none_before None b h = (refl, h)
  none_before (Some f) b h = absurd (cc)

  by_number : (start : ℕ) (by : Option ℕ) → divisibility_fault start by ≡ None → int_lt (pos 0) (pos (number_or_0 by)) ≡ true
  by_number start None h = absurd (cc)
  by_number start (Some n) h = positive n (not_if (nat_eq n 0) _ _ h).0

  -- the one argument
  one_told : (scope : SpellingScope) (lets : List TermId) (first next : ℕ) (ts : Terms) (ps : List Part) (id : TermId) → count ts ≡ 1 → length ps ≡ 1 → first_not IntSort ps ≡ None
      → ((ids : List TermId) → AreTermsAt arena lets ts ids → ToldAllIn arena scope lets first ps next ids) → IsTermAt arena lets (the_argument ts) id.0
      → (p : Part) × (p.sort ≡ IntSort) × ToldIn arena scope lets first p next id.0
  one_told scope lets first next none ps id c n sorts all at = absurd (omega (arith, c))
  one_told scope lets first next (more t (more u us)) ps id c n sorts all at = absurd (omega (arith, c))
  one_told scope lets first next (more t none) [] id c n sorts all at = absurd (omega (arith, n))
  one_told scope lets first next (more t none) (p ∷ q ∷ ps) id c n sorts all at = absurd (omega (arith, n))
  one_told scope lets first next (more t none) (p ∷ []) id c n sorts all at =
      let told = all (id ∷ []) (at, tt) in (
        p,
        equal_sorts p.sort IntSort (if_none (same_sort p.sort IntSort) _ _ sorts).0,
        record {
          known = told.known.0;
          numbered = one_number (next_variable arena.nodes id.0 first) next told.numbered;
          scoped = λ names fit. one_check (is_scoped arena.nodes id.0 names) (told.scoped names fit);
        },
      )

  divisible_tells : (scope : SpellingScope) (next start : ℕ) (by : Option ℕ) (g : Gathered) (s : Spelled) → TellsAll arena scope next g → IsEven g → length g.parts ≡ 1
      → application scope.preds (Divisibility by) start g ≡ Ok s → Tells arena scope next s
  divisible_tells scope next start by g s all even n h =
      let u = unless_ok (divisible_fault by start g.parts) _ s h in
      let rules = none_before (first_not IntSort g.parts) (divisibility_fault start by) u.0 in
      subst (λ (r : Spelled). Tells arena scope next r) (same_spelled _ s u.1) (
        all.0,
        λ lets stand id at.
            let one = one_told scope lets next g.next g.terms g.parts at.0 (even ∙ n) n rules.0 (all.1 lets stand) at.2 in
            let known = subst (λ (t : Sort). Known scope.preds arena.nodes scope.quantifies t one.0.constant at.0.0) one.1 one.2.known in
            told_divisible scope.preds arena.nodes scope.quantifies scope.names lets arranged id next _ g.next
            (known_divisible scope.preds arena.nodes scope.quantifies arranged id (number_or_0 by) at.0 one.0.constant at.1.0 (by_number start by rules.1) known) (number_or_0 by) at.0 one.0 at.1.0 one.2,
      )

  pub application_tells : (scope : SpellingScope) (next start : ℕ) (head : Head) (g : Gathered) (s : Spelled) → TellsAll arena scope next g → IsEven g
      → head_fault scope.preds head start (length g.parts) ≡ None → application scope.preds head start g ≡ Ok s → Tells arena scope next s
  application_tells scope next start (Operator op) g s all even n h = operator_tells scope next start op g s all n h
  application_tells scope next start (Declared number) g s all even n h = declared_tells scope next start number g s all n h
  application_tells scope next start Constant g s all even n h = absurd (cc)
  application_tells scope next start (Divisibility by) g s all even n h =
      divisible_tells scope next start by g s all even (same_numbers (length g.parts) 1 (if_none (nat_eq (length g.parts) 1) _ _ n).0) h
