-- Terms in an arena, put together from their parts.
use Rattle.std.proofs.Common.{◌≡◌, ◌<◌, ◌≤◌, ◌+◌, ℕ, List, [], ◌∷◌, ◌++◌, length, Bool, true, false, ◌&&◌, refl, sym, ap, ◌∙◌, subst, arith, length-append}
use Rattle.std.proofs.lemmas.Bool.Decides.{nat_tests}
use Rattle.std.proofs.lemmas.Option.{slice_get_within}
use Rattle.std.specs.Prelude.{slice_get, Some, nat_lt, Ok, Err, Result, zero, suc}
use Rattle.std.specs.List.{list_all}
use Rattle.term_tree.specs.declared.node.TermId.{TermId}
use Rattle.term_tree.specs.declared.node.Node.{Node}
use Rattle.term_tree.specs.Arena.{Arena, is_below, has_parts_below}
use Rattle.term_check.specs.declared.atom.Atom.{Atom}
use Rattle.term_check.specs.declared.atom.Atom.TheVariants.{Number, Truth, BoundVariable, LetName, Predicate}
use Rattle.term_check.specs.declared.found.Found.{Found}
use Rattle.term_check.specs.declared.part.Part.{Part}
use Rattle.term_check.specs.declared.part.Fault.{Fault}
use Rattle.term_check.specs.declared.stop.TermStop.{TermStop}
use Rattle.term_check.specs.declared.stop.TermStop.TheVariants.{Memory as OutOfMemory, Fault as Broken}
use Rattle.term_check.specs.machinery.Known.{Known, IsReady}
use Rattle.term_check.specs.Found.{IsAligned, Keeps}
use Rattle.term_check.specs.Term.{Term, numeral, truth, variable, let_name, predicate, operation, divisible, binding, universal, existential, Terms, none, more, with_last, IsNodeAt, IsTermAt, AreTermsAt}
use Rattle.term_check.specs.Spelling.{Spelled, Gathered, with_spelled, atom_term}
use Rattle.term_check.specs.machinery.Reading.{IsAtomNode, IsGathered, IsAdded, Tells, TellsAll}
use Rattle.term_check.proofs.TermLemmas.{terms_stay}

pub keeps_all : (a : Arena) → Keeps a a
keeps_all a = record { nodes = λ id node h. h; offsets = λ id at h. h; aligned = λ h. h }

pub keeps_then : (a b c : Arena) → Keeps a b → Keeps b c → Keeps a c
keeps_then a b c h k = record {
  nodes = λ id node is. k.nodes id node (h.nodes id node is);
  offsets = λ id at is. k.offsets id at (h.offsets id at is);
  aligned = λ is. k.aligned (h.aligned is);
}

-- with one more at the end
pub get_before : {A : Type 0} (xs : List A) (x y : A) (i : ℕ) → slice_get xs i ≡ Some y → slice_get (xs ++ x ∷ []) i ≡ Some y
get_before [] x y i h = absurd (cc)
get_before (z ∷ xs) x y zero h = h
get_before (z ∷ xs) x y (suc i) h = get_before xs x y i h

pub get_last : {A : Type 0} (xs : List A) (x : A) → slice_get (xs ++ x ∷ []) (length xs) ≡ Some x
get_last [] x = refl
get_last (z ∷ xs) x = get_last xs x

pub keeps_added : (old new : Arena) (node : Node) (at : ℕ) → new.nodes ≡ old.nodes ++ node ∷ [] → new.offsets ≡ old.offsets ++ at ∷ [] → Keeps old new
keeps_added old new node at n o = record {
  nodes = λ id m h. ap (λ (ns : List Node). slice_get ns id) n ∙ get_before old.nodes node m id h;
  offsets = λ id k h. ap (λ (os : List ℕ). slice_get os id) o ∙ get_before old.offsets at k id h;
  aligned = λ h. omega (arith, ap (λ (ns : List Node). length ns) n, ap (λ (os : List ℕ). length os) o, length-append old.nodes (node ∷ []), length-append old.offsets (at ∷ []), h);
}

pub node_added : (old new : Arena) (node : Node) (at id : ℕ) → IsAligned old → id ≡ length old.nodes → new.nodes ≡ old.nodes ++ node ∷ [] → new.offsets ≡ old.offsets ++ at ∷ []
    → IsNodeAt new id node at
node_added old new node at id aligned is n o = (
  ap (λ (ns : List Node). slice_get ns id) n ∙ ap (λ k. slice_get (old.nodes ++ node ∷ []) k) is ∙ get_last old.nodes node,
  ap (λ (os : List ℕ). slice_get os id) o ∙ ap (λ k. slice_get (old.offsets ++ at ∷ []) k) (is ∙ sym aligned) ∙ get_last old.offsets at,
)

pub append_term : (arena : Arena) (lets : List TermId) (ts : Terms) (ids : List TermId) (t : Term) (id : TermId) → AreTermsAt arena lets ts ids → IsTermAt arena lets t id.0
    → AreTermsAt arena lets (with_last ts t) (ids ++ id ∷ [])
append_term arena lets none [] t id h k = (k, tt)
append_term arena lets none (i ∷ ids) t id h k = absurd h
append_term arena lets (more u us) [] t id h k = absurd h
append_term arena lets (more u us) (i ∷ ids) t id h k = (h.0, append_term arena lets us ids t id h.1 k)

pub within : (arena : Arena) (lets : List TermId) (t : Term) (id : ℕ) → IsTermAt arena lets t id → id < length arena.nodes
within arena lets (numeral at value) id h = slice_get_within arena.nodes id _ h.0
within arena lets (truth at true) id h = slice_get_within arena.nodes id _ h.0
within arena lets (truth at false) id h = slice_get_within arena.nodes id _ h.0
within arena lets (variable at number sort) id h = slice_get_within arena.nodes id _ h.0
within arena lets (let_name at number) id h = slice_get_within arena.nodes id _ h.2.0
within arena lets (predicate at number args) id h = slice_get_within arena.nodes id _ h.1.0
within arena lets (operation at op args) id h = slice_get_within arena.nodes id _ h.1.0
within arena lets (divisible at by arg) id h = slice_get_within arena.nodes id _ h.1.0
within arena lets (binding at bound body) id h = slice_get_within arena.nodes id _ h.2.0
within arena lets (universal at first sorts body) id h = slice_get_within arena.nodes id _ h.1.0
within arena lets (existential at first sorts body) id h = slice_get_within arena.nodes id _ h.1.0

pub lt_test : (m n : ℕ) → m < n → nat_lt m n ≡ true
lt_test m n h = grind (arith, nat_tests)

pub test_lt : (m n : ℕ) → nat_lt m n ≡ true → m < n
test_lt m n h = grind (arith, nat_tests)

pub both : (a b : Bool) → a ≡ true → b ≡ true → (a && b) ≡ true
both true b h k = k
both false b h k = absurd (cc)

pub first_of_both : (a b : Bool) → (a && b) ≡ true → a ≡ true
first_of_both true b h = refl
first_of_both false b h = absurd (cc)

pub second_of_both : (a b : Bool) → (a && b) ≡ true → b ≡ true
second_of_both true b h = h
second_of_both false b h = absurd (cc)

pub all_below : (arena : Arena) (lets : List TermId) (ts : Terms) (ids : List TermId) → AreTermsAt arena lets ts ids → list_all (is_below (length arena.nodes)) ids ≡ true
all_below arena lets none [] h = refl
all_below arena lets none (i ∷ ids) h = absurd h
all_below arena lets (more t ts) [] h = absurd h
all_below arena lets (more t ts) (i ∷ ids) h = both _ _ (lt_test i.0 (length arena.nodes) (within arena lets t i.0 h.0)) (all_below arena lets ts ids h.1)

-- one of them is below
pub one_below : (n : ℕ) (ids : List TermId) (i : ℕ) (id : TermId) → list_all (is_below n) ids ≡ true → slice_get ids i ≡ Some id → is_below n id ≡ true
one_below n [] i id h k = absurd (cc)
one_below n (j ∷ ids) zero id h k = let same : Some j ≡ Some id = k in let is : j ≡ id = cc in ap (is_below n) (sym is) ∙ first_of_both _ _ h
one_below n (j ∷ ids) (suc i) id h k = one_below n ids i id (second_of_both _ _ h) k

pub below_more : (m n : ℕ) (ids : List TermId) → m ≤ n → list_all (is_below m) ids ≡ true → list_all (is_below n) ids ≡ true
below_more m n [] h k = refl
below_more m n (id ∷ ids) h k =
    let first = test_lt id.0 m (first_of_both _ _ k) in both _ _ (lt_test id.0 n (omega (arith, first, h))) (below_more m n ids h (second_of_both _ _ k))

pub below_both : (n : ℕ) (xs ys : List TermId) → list_all (is_below n) xs ≡ true → list_all (is_below n) ys ≡ true → list_all (is_below n) (xs ++ ys) ≡ true
below_both n [] ys h k = k
below_both n (x ∷ xs) ys h k = both _ _ (first_of_both _ _ h) (below_both n xs ys (second_of_both _ _ h) k)

last_there : {A : Type 0} (xs : List A) (n : ℕ) → suc n ≤ length xs → (x : A) × (slice_get xs n ≡ Some x)
last_there [] n h = absurd (omega arith)
last_there (x ∷ xs) zero h = (x, refl)
last_there (x ∷ xs) (suc n) h = last_there xs n (omega arith)

-- an arena that keeps another is as long
pub keeps_length : (old new : Arena) → Keeps old new → length old.nodes ≤ length new.nodes
keeps_length old new keeps = by (length old.nodes) (omega arith) where
  by : (n : ℕ) → n ≤ length old.nodes → n ≤ length new.nodes
  by zero h = omega arith
  by (suc n) h = let last = last_there old.nodes n h in omega (arith, slice_get_within new.nodes n last.0 (keeps.nodes n last.0 last.1))

pub atom_there : (arena : Arena) (lets : List TermId) (start id : ℕ) (atom : Atom) (node : Node) → IsAtomNode lets atom node → IsNodeAt arena id node start → IsTermAt arena lets (atom_term start atom) id
atom_there arena lets start id (Number k) node is h = subst (λ (n : Node). IsNodeAt arena id n start) is h
atom_there arena lets start id (Truth true) node is h = subst (λ (n : Node). IsNodeAt arena id n start) is h
atom_there arena lets start id (Truth false) node is h = subst (λ (n : Node). IsNodeAt arena id n start) is h
atom_there arena lets start id (BoundVariable number sort) node is h = subst (λ (n : Node). IsNodeAt arena id n start) is h
atom_there arena lets start id (LetName number sort constant) node is h = (is.0, is.1, subst (λ (n : Node). IsNodeAt arena id n start) is.2 h)
atom_there arena lets start id (Predicate number) node is h = ([], subst (λ (n : Node). IsNodeAt arena id n start) is h, tt)

pub atom_below : (n : ℕ) (lets : List TermId) (atom : Atom) (node : Node) → list_all (is_below n) lets ≡ true → IsAtomNode lets atom node → has_parts_below n node ≡ true
atom_below n lets (Number k) node h is = ap (has_parts_below n) is
atom_below n lets (Truth true) node h is = ap (has_parts_below n) is
atom_below n lets (Truth false) node h is = ap (has_parts_below n) is
atom_below n lets (BoundVariable number sort) node h is = ap (has_parts_below n) is
atom_below n lets (LetName number sort constant) node h is = ap (has_parts_below n) is.2 ∙ one_below n lets number is.0 h is.1
atom_below n lets (Predicate number) node h is = ap (has_parts_below n) is

-- what was added is what was to be told
pub tells_added : (lets : List TermId) (outcome : Result Spelled Fault) (arena : Arena) (result : Result Found TermStop) (node : Node) (start : ℕ) (part : Part) (next : ℕ) (s : Spelled)
    → outcome ≡ Ok s → s.part ≡ part → s.next ≡ next → ((id : ℕ) → IsNodeAt arena id node start → IsTermAt arena lets s.term id) → IsAdded node start part next arena result → Tells lets outcome arena result
tells_added lets outcome arena (Ok found) node start part next s is p n there h = (s, is, there found.id.0 h.0, p ∙ sym h.1, n ∙ sym h.2)
tells_added lets outcome arena (Err OutOfMemory) node start part next s is p n there h = tt
tells_added lets outcome arena (Err (Broken f)) node start part next s is p n there h = absurd h

-- an answer that is no term tells the same of all that goes on from there
pub tells_stop : (lets : List TermId) (outcome other : Result Spelled Fault) (arena new : Arena) (stop : TermStop) → ((f : Fault) → outcome ≡ Err f → other ≡ Err f)
    → Tells lets outcome arena (Err stop) → Tells lets other new (Err stop)
tells_stop lets outcome other arena new OutOfMemory go h = tt
tells_stop lets outcome other arena new (Broken f) go h = go f h

pub tells_all_stop : (lets inner : List TermId) (outcome : Result Spelled Fault) (other : Result Gathered Fault) (arena new : Arena) (stop : TermStop) → ((f : Fault) → outcome ≡ Err f → other ≡ Err f)
    → Tells inner outcome arena (Err stop) → TellsAll lets other new (Err stop)
tells_all_stop lets inner outcome other arena new OutOfMemory go h = tt
tells_all_stop lets inner outcome other arena new (Broken f) go h = go f h

pub all_tells_stop : (lets inner : List TermId) (outcome : Result Gathered Fault) (other : Result Spelled Fault) (arena new : Arena) (stop : TermStop) → ((f : Fault) → outcome ≡ Err f → other ≡ Err f)
    → TellsAll inner outcome arena (Err stop) → Tells lets other new (Err stop)
all_tells_stop lets inner outcome other arena new OutOfMemory go h = tt
all_tells_stop lets inner outcome other arena new (Broken f) go h = go f h

pub all_stop : (lets inner : List TermId) (outcome other : Result Gathered Fault) (arena new : Arena) (stop : TermStop) → ((f : Fault) → outcome ≡ Err f → other ≡ Err f)
    → TellsAll inner outcome arena (Err stop) → TellsAll lets other new (Err stop)
all_stop lets inner outcome other arena new OutOfMemory go h = tt
all_stop lets inner outcome other arena new (Broken f) go h = go f h

-- ready for less, in an arena that grew
pub ready_then : (known : Known) (old new : Arena) (next room next' room' : ℕ) → IsReady known old next room → Keeps old new → next' + room' ≤ next + room → room' ≤ room → IsReady known new next' room'
ready_then known old new next room next' room' h keeps fits less = record {
  aligned = keeps.aligned h.aligned;
  numbered = h.numbered;
  bound = h.bound;
  below = below_more (length old.nodes) (length new.nodes) known.lets (keeps_length old new keeps) h.below;
  variables = let v = h.variables in omega (arith, v, fits);
  terms = let t = h.terms in omega (arith, t, less);
}

-- terms stay gathered as the arena grows
pub gathered_stay : (lets : List TermId) (old new : Arena) (g : Gathered) (ids : List TermId) (parts : List Part) (next : ℕ) → Keeps old new → IsGathered lets old g ids parts next → IsGathered lets new g ids parts next
gathered_stay lets old new g ids parts next keeps h =
    record { terms = terms_stay old new keeps lets g.terms ids h.terms; parts_are = h.parts_are; next_is = h.next_is; level = h.level }

-- one more term behind those that are gathered
pub gathered_more : (lets : List TermId) (arena : Arena) (g : Gathered) (ids ids' : List TermId) (parts parts' : List Part) (next : ℕ) (s : Spelled) (found : Found)
    → IsGathered lets arena g ids parts next → IsTermAt arena lets s.term found.id.0 → s.part ≡ found.part → s.next ≡ found.next
    → ids' ≡ ids ++ found.id ∷ [] → parts' ≡ parts ++ found.part ∷ [] → IsGathered lets arena (with_spelled g s) ids' parts' found.next
gathered_more lets arena g ids ids' parts parts' next s found h t p n is ps = record {
  terms = subst (λ (xs : List TermId). AreTermsAt arena lets (with_last g.terms s.term) xs) (sym is) (append_term arena lets g.terms ids s.term found.id h.terms t);
  parts_are = ap (λ (qs : List Part). qs ++ s.part ∷ []) h.parts_are ∙ ap (λ (q : Part). parts ++ q ∷ []) p ∙ sym ps;
  next_is = n;
  level = let l = h.level in omega (arith, l, ap (λ (xs : List TermId). length xs) is, ap (λ (qs : List Part). length qs) ps, length-append ids (found.id ∷ []), length-append parts (found.part ∷ []));
}
