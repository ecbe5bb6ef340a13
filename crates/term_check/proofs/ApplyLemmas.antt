-- What terms that were put together tell.
use Rattle.std.proofs.Common.{◌≡◌, ◌<◌, ℕ, ℤ, List, [], ◌∷◌, ◌++◌, length, Bool, true, false, get_or, refl, sym, ap, ◌∙◌, subst, arith}
use Rattle.std.specs.Prelude.{if◌then◌else◌, slice_get, Option, Some, None, Ok, Err, Result, pos, nat_eq, suc, zero}
use Rattle.term_tree.specs.declared.node.TermId.{TermId}
use Rattle.term_tree.specs.declared.node.Node.{Node}
use Rattle.term_tree.specs.declared.node.Node.TheVariants.{Op, Pred as PredNode, Divisible, Let}
use Rattle.term_tree.specs.declared.node.OpKind.{OpKind}
use Rattle.term_tree.specs.declared.script.Pred.{Pred}
use Rattle.term_tree.specs.declared.sort.Sort.{Sort}
use Rattle.term_tree.specs.declared.sort.Sort.TheVariants.{Bool as BoolSort}
use Rattle.term_tree.specs.declared.refusal.Kind.TheVariants.{Arity}
use Rattle.term_tree.specs.Arena.{Arena}
use Rattle.term_tree.specs.Sorts.{same_sort}
use Rattle.term_check.specs.declared.found.Found.{Found}
use Rattle.term_check.specs.declared.head.Head.{Head}
use Rattle.term_check.specs.declared.head.Head.TheVariants.{Operator, Declared, Divisibility}
use Rattle.term_check.specs.declared.part.Part.{Part}
use Rattle.term_check.specs.declared.part.Fault.{Fault}
use Rattle.term_check.specs.declared.stop.TermStop.{TermStop}
use Rattle.term_check.specs.Rules.{fault, unless, applied, declared_fault, divisible_fault}
use Rattle.term_check.specs.Found.{Keeps}
use Rattle.term_check.specs.Term.{Term, operation, predicate, divisible, Terms, none, more, IsNodeAt, IsTermAt, AreTermsAt}
use Rattle.term_check.specs.Spelling.{Spelled, Gathered, head_fault, application, sorts_of, with_part, spells, the_argument, number_or_0, let_spelled, quantified, quantifier}
use Rattle.term_check.specs.machinery.Reading.{IsGathered, IsAdded, Tells, divisor_of, quantifier_node}
use Rattle.term_check.proofs.TermLemmas.{term_stays, terms_stay}
use Rattle.term_check.proofs.ReadingLemmas.{tells_added}

pub operator_told : (preds : List Pred) (head : Head) (op : OpKind) (start : ℕ) (ids ids' : List TermId) (parts : List Part) (next : ℕ) (part : Part) (old new : Arena) (result : Result Found TermStop)
    → head ≡ Operator op → applied op start parts ≡ Ok part → ids' ≡ ids → Keeps old new → IsAdded (Op op ids') start part next new result
    → (lets : List TermId) (g : Gathered) → IsGathered lets old g ids parts next → Tells lets (application preds head start g) new result
operator_told preds head op start ids ids' parts next part old new result is ok same keeps added lets g h =
    tells_added lets (application preds head start g) new result (Op op ids') start part next (record { term = operation start op g.terms; part = part; next = g.next })
    (ap (λ k. application preds k start g) is ∙ ap (λ ps. with_part (operation start op g.terms) g.next (applied op start ps)) h.parts_are ∙ ap (with_part (operation start op g.terms) g.next) ok)
    refl h.next_is
    (λ id at. (ids, subst (λ (xs : List TermId). IsNodeAt new id (Op op xs) start) same at, terms_stay old new keeps lets g.terms ids h.terms))
    added

pub declared_told : (preds : List Pred) (head : Head) (number start : ℕ) (ids ids' : List TermId) (parts : List Part) (next : ℕ) (part : Part) (old new : Arena) (result : Result Found TermStop)
    → head ≡ Declared number → declared_fault (sorts_of preds number) parts ≡ None → part ≡ record { start = start; sort = BoolSort; constant = None } → ids' ≡ ids → Keeps old new
    → IsAdded (PredNode number ids') start part next new result
    → (lets : List TermId) (g : Gathered) → IsGathered lets old g ids parts next → Tells lets (application preds head start g) new result
declared_told preds head number start ids ids' parts next part old new result is ok bool same keeps added lets g h =
    let spelling = spells (predicate start number g.terms) start BoolSort None g.next in
    tells_added lets (application preds head start g) new result (PredNode number ids') start part next
    (record { term = predicate start number g.terms; part = record { start = start; sort = BoolSort; constant = None }; next = g.next })
    (ap (λ k. application preds k start g) is ∙ ap (λ ps. unless (declared_fault (sorts_of preds number) ps) spelling) h.parts_are ∙ ap (λ o. unless o spelling) ok)
    (sym bool) h.next_is
    (λ id at. (ids, subst (λ (xs : List TermId). IsNodeAt new id (PredNode number xs) start) same at, terms_stay old new keeps lets g.terms ids h.terms))
    added

-- the argument of a divisibility
argument_there : (arena : Arena) (lets : List TermId) (ts : Terms) (ids : List TermId) (id : TermId) → AreTermsAt arena lets ts ids → slice_get ids 0 ≡ Some id → IsTermAt arena lets (the_argument ts) id.0
argument_there arena lets none [] id h k = absurd (cc)
argument_there arena lets none (i ∷ ids) id h k = absurd h
argument_there arena lets (more t ts) [] id h k = absurd h
argument_there arena lets (more t ts) (i ∷ ids) id h k =
    let same : Some i ≡ Some id = k in let is : i ≡ id = cc in subst (λ (j : TermId). IsTermAt arena lets t j.0) is h.0

divides : (o : Option Fault) (by : Option ℕ) (k : ℤ) (later : Result Spelled Fault) → unless o (Ok (pos (number_or_0 by))) ≡ Ok k → (unless o later ≡ later) × (pos (number_or_0 by) ≡ k)
divides None by k later h = (refl, cc)
divides (Some f) by k later h = absurd (cc)

refuses : (o : Option Fault) (by : Option ℕ) (f : Fault) (later : Result Spelled Fault) → unless o (Ok (pos (number_or_0 by))) ≡ Err f → unless o later ≡ Err f
refuses None by f later h = absurd (cc)
refuses (Some e) by f later h = let same : ◌≡◌ {A = Result ℤ Fault} (Err e) (Err f) = h in let is : e ≡ f = cc in ap Err is

pub divisible_refused : (preds : List Pred) (head : Head) (by : Option ℕ) (start : ℕ) (parts : List Part) (f : Fault) (g : Gathered) → head ≡ Divisibility by → divisor_of by start parts ≡ Err f → g.parts ≡ parts
    → application preds head start g ≡ Err f
divisible_refused preds head by start parts f g is stop same =
    let spelling = spells (divisible start (number_or_0 by) (the_argument g.terms)) start BoolSort None g.next in
    ap (λ k. application preds k start g) is ∙ ap (λ ps. unless (divisible_fault by start ps) spelling) same ∙ refuses (divisible_fault by start parts) by f spelling stop

pub divisible_told : (preds : List Pred) (head : Head) (by : Option ℕ) (k : ℤ) (start : ℕ) (ids : List TermId) (parts : List Part) (next : ℕ) (arg : TermId) (part : Part) (old new : Arena) (result : Result Found TermStop)
    → head ≡ Divisibility by → divisor_of by start parts ≡ Ok k → part ≡ record { start = start; sort = BoolSort; constant = None } → slice_get ids 0 ≡ Some arg → Keeps old new
    → IsAdded (Divisible k arg) start part next new result
    → (lets : List TermId) (g : Gathered) → IsGathered lets old g ids parts next → Tells lets (application preds head start g) new result
divisible_told preds head by k start ids parts next arg part old new result is ok bool first keeps added lets g h =
    let spelling = spells (divisible start (number_or_0 by) (the_argument g.terms)) start BoolSort None g.next in
    let d = divides (divisible_fault by start parts) by k spelling ok in
    tells_added lets (application preds head start g) new result (Divisible k arg) start part next
    (record { term = divisible start (number_or_0 by) (the_argument g.terms); part = record { start = start; sort = BoolSort; constant = None }; next = g.next })
    (ap (λ k. application preds k start g) is ∙ ap (λ ps. unless (divisible_fault by start ps) spelling) h.parts_are ∙ d.0)
    (sym bool) h.next_is
    (λ id at. (arg, subst (λ (n : ℤ). IsNodeAt new id (Divisible n arg) start) (sym d.1) at, term_stays old new keeps lets (the_argument g.terms) arg.0 (argument_there old lets g.terms ids arg h.terms first)))
    added

-- a divisibility has an argument
one_argument : (n : ℕ) (f : Fault) → (if nat_eq n 1 then None else Some f) ≡ None → 0 < n
one_argument zero f h = absurd (cc)
one_argument (suc n) f h = omega arith

pub one_of_head : (preds : List Pred) (head : Head) (start n : ℕ) (by : Option ℕ) → head ≡ Divisibility by → head_fault preds head start n ≡ None → 0 < n
one_of_head preds head start n by is h = one_argument n (fault Arity start) (sym (ap (λ k. head_fault preds k start n) is) ∙ h)

pub first_there : (ids : List TermId) (x : TermId) → 0 < length ids → x ≡ get_or ids 0 x → slice_get ids 0 ≡ Some x
first_there [] x h is = absurd (omega (arith, h))
first_there (i ∷ ids) x h is = ap Some (sym is)

pub binding_told : (start : ℕ) (ids ids' : List TermId) (found : Found) (part : Part) (old new : Arena) (result : Result Found TermStop)
    → part ≡ record { start = start; sort = found.part.sort; constant = found.part.constant } → ids' ≡ ids → Keeps old new → IsAdded (Let ids' found.id) start part found.next new result
    → (lets : List TermId) (g : Gathered) (s : Spelled) → AreTermsAt old lets g.terms ids → IsTermAt old (lets ++ ids) s.term found.id.0
    → s.part ≡ found.part → s.next ≡ found.next → Tells lets (Ok (let_spelled start g s)) new result
binding_told start ids ids' found part old new result is same keeps added lets g s bound body p n =
    tells_added lets (Ok (let_spelled start g s)) new result (Let ids' found.id) start part found.next (let_spelled start g s) refl
    (ap (λ (q : Part). record { start = start; sort = q.sort; constant = q.constant }) p ∙ sym is) n
    (λ id at. (ids, found.id, subst (λ (xs : List TermId). IsNodeAt new id (Let xs found.id) start) same at, terms_stay old new keeps lets g.terms ids bound, term_stays old new keeps (lets ++ ids) s.term found.id.0 body))
    added

quantifier_there : (all : Bool) (start first : ℕ) (sorts : List Sort) (body : TermId) (arena : Arena) (lets : List TermId) (t : Term) (id : ℕ)
    → IsTermAt arena lets t body.0 → IsNodeAt arena id (quantifier_node all first sorts body) start → IsTermAt arena lets (quantifier all start first sorts t) id
quantifier_there true start first sorts body arena lets t id h at = (body, at, h)
quantifier_there false start first sorts body arena lets t id h at = (body, at, h)

quantified_is : (b : Bool) (x y : Result Spelled Fault) → b ≡ true → (if b then x else y) ≡ x
quantified_is true x y h = refl
quantified_is false x y h = absurd (cc)

pub quantifier_told : (all : Bool) (first : ℕ) (sorts : List Sort) (start : ℕ) (found : Found) (node : Node) (part : Part) (old new : Arena) (result : Result Found TermStop)
    → same_sort found.part.sort BoolSort ≡ true → node ≡ quantifier_node all first sorts found.id → part ≡ record { start = start; sort = BoolSort; constant = None } → Keeps old new
    → IsAdded node start part found.next new result
    → (lets : List TermId) (s : Spelled) → IsTermAt old lets s.term found.id.0 → s.part ≡ found.part → s.next ≡ found.next
    → Tells lets (quantified (quantifier all start first sorts) start s) new result
quantifier_told all first sorts start found node part old new result bool is same keeps added lets s body p n =
    tells_added lets (quantified (quantifier all start first sorts) start s) new result node start part found.next
    (record { term = quantifier all start first sorts s.term; part = record { start = start; sort = BoolSort; constant = None }; next = s.next })
    (quantified_is (same_sort s.part.sort BoolSort) _ _ (ap (λ (q : Part). same_sort q.sort BoolSort) p ∙ bool))
    (sym same) n
    (λ id at. quantifier_there all start first sorts found.id new lets s.term id (term_stays old new keeps lets s.term found.id.0 body) (subst (λ (m : Node). IsNodeAt new id m start) is at))
    added
