-- Places are put one behind another, and each leads to its literal or disjunction.
use Rattle.std.proofs.Common.{◌≡◌, ℕ, ◌+◌, ◌≤◌, zero, suc, List, [], ◌∷◌, ◌++◌, get_or, length, map, take, Some, refl, ap, sym, ◌∙◌, ◌⊎◌, inl, inr, arith, subst}
use Rattle.std.specs.Prelude.{option_map, slice_get, slice_index_or}
use Rattle.std.specs.List.{flat_map}
use Rattle.std.proofs.lemmas.Grind.{flat_map-append}
use Rattle.std.proofs.lemmas.List.{append-nil, append_assoc, length-append}
use Rattle.std.proofs.lemmas.Option.{none-some, same_Some, slice_get-map, slice_get_read, slice_get_within}
use mathlib.Core.Former.{Count}
use denote.Hole.Carrier.{roll}
use Rattle.lin_atoms.specs.declared.lit.Lit.{Lit}
use Rattle.lin_atoms.specs.declared.form.Form.{Form, And', Or', Row_of-Form, end_of-Form, items_hidden-the_row-Form-0}
use Rattle.lin_atoms.specs.declared.form.Form.TheVariants.{False, Lit as Literal, rolls-Or}
use Rattle.lin_atoms.specs.declared.form.Form.TheViews.{And, Or, roll-Form}
use Rattle.lin_atoms.specs.declared.form.Form.TheFolds.{fold-roll-Form}
use Rattle.lin_atoms.specs.declared.form.Form.TheOpen.{Form-F}
use Rattle.refutation_trees.specs.Flatten.{disjunctions, literals, literals_step}
use Rattle.refutation_trees.proofs.FlattenLemmas.{disjunctions-And, disjunctions-Or, literals-And}
use Rattle.clause_form.specs.declared.clause.Clause.{Clause}
use Rattle.clause_index.specs.Index.{Flat, flat, flat_of}
use Rattle.clause_index.specs.machinery.Places.{Adds, AddsAt, AddsParts, AddsSome, ArePlaces, HavePlaces, HaveSoFar, at, conjuncts, disjuncts, lit_at, lit_step, own_lit, parts_at}
use Rattle.clause_index.specs.declared.places.Place.{Place}
use Rattle.clause_index.specs.declared.places.Places.{Places}

abbrev row_of : Form → (n : Count) × Row_of-Form n
row_of (And' shape row) = (_, row)
row_of (Or' shape row) = (_, row)
row_of _ = (_, end_of-Form)

pub conjuncts-And : (parts : List Form) → conjuncts (And parts) ≡ parts
conjuncts-And parts = let row = row_of (And parts) in items_hidden-the_row-Form-0 parts

pub disjuncts-Or : (parts : List Form) → disjuncts (Or parts) ≡ parts
disjuncts-Or parts = let row = row_of (Or parts) in items_hidden-the_row-Form-0 parts

literals-Or : (parts : List Form) → literals (Or parts) ≡ []
literals-Or parts = ap literals (sym (rolls-Or parts)) ∙ fold-roll-Form (List Lit) literals_step _

literals-False : literals False ≡ own_lit False ∷ []
unfolding roll-Form roll
literals-False = fold-roll-Form (List Lit) literals_step Form-F.False ∙ ap (λ (lit : Lit). lit ∷ []) (sym (fold-roll-Form Lit lit_step Form-F.False))

literals-Literal : (lit : Lit) → literals (Literal lit) ≡ own_lit (Literal lit) ∷ []
unfolding roll-Form roll
literals-Literal lit = fold-roll-Form (List Lit) literals_step (Form-F.Lit lit) ∙ ap (λ (l : Lit). l ∷ []) (sym (fold-roll-Form Lit lit_step (Form-F.Lit lit)))

-- a list and one element more

map-more : {X Y : Type 0} (f : X → Y) (xs : List X) (x : X) → map f (xs ++ x ∷ []) ≡ map f xs ++ f x ∷ []
map-more f [] x = refl
map-more f (y ∷ ys) x = ap (λ zs. f y ∷ zs) (map-more f ys x)

index-of : {X : Type 0} (xs : List X) (i : ℕ) (x d : X) → slice_get xs i ≡ Some x → slice_index_or xs i d ≡ x
index-of [] i x d is = absurd (none-some _ is)
index-of (y ∷ ys) zero x d is = same_Some y x is
index-of (y ∷ ys) (suc i) x d is = index-of ys i x d is

take-more : {X : Type 0} (xs : List X) (i : ℕ) (x : X) → slice_get xs i ≡ Some x → take (suc i) xs ≡ take i xs ++ x ∷ []
take-more [] i x is = absurd (none-some _ is)
take-more (y ∷ ys) zero x is = ap (λ z. z ∷ []) (same_Some y x is)
take-more (y ∷ ys) (suc i) x is = ap (λ zs. y ∷ zs) (take-more ys i x is)

plus-one : (n : ℕ) → n + 1 ≡ suc n
plus-one n = omega arith

take-next : {X : Type 0} (xs : List X) (i : ℕ) (x : X) → slice_get xs i ≡ Some x → take (i + 1) xs ≡ take i xs ++ x ∷ []
take-next xs i x is = ap (λ n. take n xs) (plus-one i) ∙ take-more xs i x is

take-whole : {X : Type 0} (xs : List X) (n : ℕ) → length xs ≤ n → take n xs ≡ xs
take-whole [] zero past = refl
take-whole [] (suc n) past = refl
take-whole (x ∷ xs) zero past = absurd (omega (arith, past))
take-whole (x ∷ xs) (suc n) past = ap (λ ys. x ∷ ys) (take-whole xs n (omega (arith, past)))

given-next : {X Y : Type 0} (f : X → List Y) (xs : List X) (i : ℕ) (x : X) → slice_get xs i ≡ Some x → flat_map f (take i xs) ++ f x ≡ flat_map f (take (i + 1) xs)
given-next f xs i x is =
    ap (λ ys. flat_map f (take i xs) ++ ys) (sym (append-nil (f x))) ∙ sym (flat_map-append f (take i xs) (x ∷ [])) ∙ ap (flat_map f) (sym (take-next xs i x is))

-- where paths lead

at-next : (form : Form) (path : List ℕ) (i : ℕ) → at form (path ++ i ∷ []) ≡ slice_index_or (conjuncts (at form path)) i (at form path)
at-next form [] i = refl
at-next form (j ∷ path) i = at-next (slice_index_or (conjuncts form) j form) path i

at-part : (root : Form) (path : List ℕ) (parts : List Form) (i : ℕ) (part : Form) → conjuncts (at root path) ≡ parts → slice_get parts i ≡ Some part → at root (path ++ i ∷ []) ≡ part
at-part root path parts i part are is = at-next root path i ∙ ap (λ xs. slice_index_or xs i (at root path)) are ∙ index-of parts i part (at root path) is

-- what is put behind

pub adds-none : (root : Form) (old : Places) → Adds root old old [] []
adds-none root old = record { lits = sym (append-nil _); cases = sym (append-nil _) }

adds-both : (root : Form) (a b c : Places) (ls ms : List Lit) (cs ds : List (List Form)) → Adds root a b ls cs → Adds root b c ms ds → Adds root a c (ls ++ ms) (cs ++ ds)
adds-both root a b c ls ms cs ds first second = record {
  lits = second.lits ∙ ap (λ xs. xs ++ ms) first.lits ∙ append_assoc (map (lit_at root) a.lits) ls ms;
  cases = second.cases ∙ ap (λ xs. xs ++ ds) first.cases ∙ append_assoc (map (parts_at root) a.cases) cs ds;
}

adds-same : (root : Form) (a b : Places) (ls ms : List Lit) (cs ds : List (List Form)) → ls ≡ ms → cs ≡ ds → Adds root a b ls cs → Adds root a b ms ds
adds-same root a b ls ms cs ds same alike adds = record {
  lits = adds.lits ∙ ap (λ xs. map (lit_at root) a.lits ++ xs) same;
  cases = adds.cases ∙ ap (λ xs. map (parts_at root) a.cases ++ xs) alike;
}

pub adds-lit : (root form : Form) (old : Places) (place : Place) (new : List Place) → new ≡ old.lits ++ place ∷ [] → at root (place.first ∷ place.second ∷ place.below) ≡ form
    → literals form ≡ own_lit form ∷ [] → disjunctions form ≡ [] → Adds root old (record { lits = new; cases = old.cases }) (literals form) (disjunctions form)
adds-lit root form old place new is leads one none = record {
  lits = ap (map (lit_at root)) is ∙ map-more (lit_at root) old.lits place ∙ ap (λ (f : Form). map (lit_at root) old.lits ++ own_lit f ∷ []) leads ∙ ap (λ (ls : List Lit). map (lit_at root) old.lits ++ ls) (sym one);
  cases = sym (append-nil _) ∙ ap (λ (cs : List (List Form)). map (parts_at root) old.cases ++ cs) (sym none);
}

pub adds-case : (root form : Form) (old : Places) (place : Place) (new : List Place) (parts : List Form) → new ≡ old.cases ++ place ∷ [] → at root (place.first ∷ place.second ∷ place.below) ≡ form
    → form ≡ Or parts → Adds root old (record { lits = old.lits; cases = new }) (literals form) (disjunctions form)
adds-case root form old place new parts is leads same = record {
  lits = sym (append-nil _) ∙ ap (λ (ls : List Lit). map (lit_at root) old.lits ++ ls) (sym (ap literals same ∙ literals-Or parts));
  cases =
      ap (map (parts_at root)) is ∙ map-more (parts_at root) old.cases place ∙ ap (λ (f : Form). map (parts_at root) old.cases ++ disjuncts f ∷ []) (leads ∙ same)
      ∙ ap (λ (ps : List Form). map (parts_at root) old.cases ++ ps ∷ []) (disjuncts-Or parts) ∙ ap (λ (cs : List (List Form)). map (parts_at root) old.cases ++ cs) (sym (ap disjunctions same ∙ disjunctions-Or parts));
}

pub adds-false : (root form : Form) (old : Places) (place : Place) (new : List Place) → new ≡ old.lits ++ place ∷ [] → at root (place.first ∷ place.second ∷ place.below) ≡ form
    → form ≡ False → Adds root old (record { lits = new; cases = old.cases }) (literals form) (disjunctions form)
adds-false root form old place new is leads same = adds-lit root form old place new is leads (ap literals same ∙ literals-False ∙ ap (λ (f : Form). own_lit f ∷ []) (sym same)) (ap disjunctions same)

pub adds-literal : (root form : Form) (old : Places) (place : Place) (new : List Place) (lit : Lit) → new ≡ old.lits ++ place ∷ [] → at root (place.first ∷ place.second ∷ place.below) ≡ form
    → form ≡ Literal lit → Adds root old (record { lits = new; cases = old.cases }) (literals form) (disjunctions form)
adds-literal root form old place new lit is leads same = adds-lit root form old place new is leads (ap literals same ∙ literals-Literal lit ∙ ap (λ (f : Form). own_lit f ∷ []) (sym same)) (ap disjunctions same)

pub adds-parts : (path : List ℕ) (old new : Places) (form : Form) (parts : List Form) → form ≡ And parts → AddsParts path old parts new → AddsAt path old form new
adds-parts path old new form parts is adds root leads =
    adds-same root old new _ (literals form) _ (disjunctions form) (sym (literals-And parts) ∙ ap literals (sym is)) (sym (disjunctions-And parts) ∙ ap disjunctions (sym is))
    (adds root (ap conjuncts (leads ∙ is) ∙ conjuncts-And parts))

pub some-next : (path : List ℕ) (old mid new : Places) (parts : List Form) (i : ℕ) (part : Form) → slice_get parts i ≡ Some part → AddsSome path old parts (take i parts) mid
    → AddsAt (path ++ i ∷ []) mid part new → AddsSome path old parts (take (i + 1) parts) new
some-next path old mid new parts i part is before adds root are =
    adds-same root old new _ _ _ _ (given-next literals parts i part is) (given-next disjunctions parts i part is)
    (adds-both root old mid new _ _ _ _ (before root are) (adds root (at-part root path parts i part are is)))

pub some-all : (path : List ℕ) (old new : Places) (parts : List Form) (n : ℕ) → length parts ≤ n → AddsSome path old parts (take n parts) new → AddsParts path old parts new
some-all path old new parts n past adds root are = adds-same root old new _ _ _ _ (ap (flat_map literals) (take-whole parts n past)) (ap (flat_map disjunctions) (take-whole parts n past)) (adds root are)

-- a whole guard

pub all-of-parts : (guard : Form) (parts : List Form) (old new : Places) → guard ≡ And parts → AddsParts [] old parts new → Adds guard old new (literals guard) (disjunctions guard)
all-of-parts guard parts old new is adds =
    adds-same guard old new _ (literals guard) _ (disjunctions guard) (sym (literals-And parts) ∙ ap literals (sym is)) (sym (disjunctions-And parts) ∙ ap disjunctions (sym is))
    (adds guard (ap conjuncts is ∙ conjuncts-And parts))

-- what is no conjunction is its own part 0
whole : (root form : Form) (path : List ℕ) → at root path ≡ form → conjuncts form ≡ [] → at root (path ++ 0 ∷ []) ≡ form
whole root form path leads none = at-next root path 0 ∙ ap (λ (f : Form). slice_index_or (conjuncts f) 0 f) leads ∙ ap (λ (xs : List Form). slice_index_or xs 0 form) none

no-more : (root : Form) (path : List ℕ) (below : List ℕ) (form : Form) → below ≡ [] → at root path ≡ form → at root (path ++ below) ≡ form
no-more root path below form nothing leads = ap (λ (ns : List ℕ). at root (path ++ ns)) nothing ∙ ap (at root) (append-nil path) ∙ leads

-- a part of a guard

part-there : (root form : Form) (first : ℕ) (below : List ℕ) → below ≡ [] → conjuncts form ≡ [] → at root (first ∷ []) ≡ form → at root (first ∷ 0 ∷ below) ≡ form
part-there root form first below nothing none leads = no-more root (first ∷ 0 ∷ []) below form nothing (whole root form (first ∷ []) leads none)

pub part-case : (first : ℕ) (form : Form) (old : Places) (below : List ℕ) (new : List Place) (parts : List Form) → new ≡ old.cases ++ record { first = first; second = 0; below = below } ∷ [] → below ≡ []
    → form ≡ Or parts → AddsAt (first ∷ []) old form (record { lits = old.lits; cases = new })
part-case first form old below new parts is nothing same root leads = adds-case root form old _ new parts is (part-there root form first below nothing (ap conjuncts same) leads) same

pub part-false : (first : ℕ) (form : Form) (old : Places) (below : List ℕ) (new : List Place) → new ≡ old.lits ++ record { first = first; second = 0; below = below } ∷ [] → below ≡ []
    → form ≡ False → AddsAt (first ∷ []) old form (record { lits = new; cases = old.cases })
part-false first form old below new is nothing same root leads = adds-false root form old _ new is (part-there root form first below nothing (ap conjuncts same) leads) same

pub part-literal : (first : ℕ) (form : Form) (old : Places) (below : List ℕ) (new : List Place) (lit : Lit) → new ≡ old.lits ++ record { first = first; second = 0; below = below } ∷ [] → below ≡ []
    → form ≡ Literal lit → AddsAt (first ∷ []) old form (record { lits = new; cases = old.cases })
part-literal first form old below new lit is nothing same root leads = adds-literal root form old _ new lit is (part-there root form first below nothing (ap conjuncts same) leads) same

-- a guard that is no conjunction

itself : (guard form : Form) (below : List ℕ) → guard ≡ form → conjuncts form ≡ [] → below ≡ [] → at guard (0 ∷ 0 ∷ below) ≡ guard
itself guard form below is none nothing =
    let alone : conjuncts guard ≡ [] = ap conjuncts is ∙ none in
    part-there guard guard 0 below nothing alone (whole guard guard [] refl alone)

pub one-case : (guard : Form) (old : Places) (below : List ℕ) (new : List Place) (parts : List Form) → new ≡ old.cases ++ record { first = 0; second = 0; below = below } ∷ [] → below ≡ []
    → guard ≡ Or parts → Adds guard old (record { lits = old.lits; cases = new }) (literals guard) (disjunctions guard)
one-case guard old below new parts is nothing same = adds-case guard guard old _ new parts is (itself guard (Or parts) below same refl nothing) same

pub one-false : (guard : Form) (old : Places) (below : List ℕ) (new : List Place) → new ≡ old.lits ++ record { first = 0; second = 0; below = below } ∷ [] → below ≡ []
    → guard ≡ False → Adds guard old (record { lits = new; cases = old.cases }) (literals guard) (disjunctions guard)
one-false guard old below new is nothing same = adds-false guard guard old _ new is (itself guard False below same refl nothing) same

pub one-literal : (guard : Form) (old : Places) (below : List ℕ) (new : List Place) (lit : Lit) → new ≡ old.lits ++ record { first = 0; second = 0; below = below } ∷ [] → below ≡ []
    → guard ≡ Literal lit → Adds guard old (record { lits = new; cases = old.cases }) (literals guard) (disjunctions guard)
one-literal guard old below new lit is nothing same = adds-literal guard guard old _ new lit is (itself guard (Literal lit) below same refl nothing) same

-- the guards of clauses

last-of : {X : Type 0} (xs : List X) (x y : X) (i : ℕ) → slice_get (xs ++ x ∷ []) i ≡ Some y → (slice_get xs i ≡ Some y) ⊎ ((i ≡ length xs) × (x ≡ y))
last-of [] x y zero is = inr (refl, same_Some x y is)
last-of [] x y (suc i) is = absurd (none-some _ is)
last-of (z ∷ xs) x y zero is = inl is
last-of (z ∷ xs) x y (suc i) is = elim (last-of xs x y i is) [ inl there ↦ inl there | inr here ↦ inr (ap suc here.0, here.1) ]

place-after : (clause other : Clause) (n : ℕ) (clauses : List Clause) (guards : List Places) (new placed : Places) (i : ℕ) → slice_get clauses n ≡ Some clause → slice_get clauses i ≡ Some other → ArePlaces clause.guard new
    → HaveSoFar clauses n guards → (slice_get guards i ≡ Some placed) ⊎ ((i ≡ length guards) × (new ≡ placed)) → ArePlaces other.guard placed
place-after clause other n clauses guards new placed i at that these before (inl there) = before.each i other placed that there
place-after clause other n clauses guards new placed i at that these before (inr here) =
    let same : Some clause ≡ Some other = sym at ∙ ap (slice_get clauses) (sym (here.0 ∙ before.many)) ∙ that in
    subst (λ (p : Places). ArePlaces other.guard p) here.1 (subst (λ (c : Clause). ArePlaces c.guard new) (same_Some clause other same) these)

pub have-next : (clauses : List Clause) (n : ℕ) (clause : Clause) (guards after : List Places) (new : Places) → slice_get clauses n ≡ Some clause → after ≡ guards ++ new ∷ [] → ArePlaces clause.guard new → HaveSoFar clauses n guards → HaveSoFar clauses (n + 1) after
have-next clauses n clause guards after new at is these before = record {
  many = ap length is ∙ length-append guards (new ∷ []) ∙ ap (λ k. k + 1) before.many;
  each = λ i other placed that there. place-after clause other n clauses guards new placed i at that these before (last-of guards new placed i (ap (λ (ps : List Places). slice_get ps i) (sym is) ∙ there));
}

pub placed-at : (clauses : List Clause) (guards : List Places) (i : ℕ) (clause : Clause) (placed : Places) → HavePlaces clauses guards → slice_get clauses i ≡ Some clause
    → (shown : List Places) → shown ≡ guards → placed ≡ get_or shown i placed → ArePlaces clause.guard placed
placed-at clauses guards i clause placed have at shown same is =
    have.each i clause placed at
    (slice_get_read guards (length clauses) i placed (sym have.many) (slice_get_within clauses i clause at) (is ∙ ap (λ (ps : List Places). get_or ps i placed) same))

pub flat-there : (clauses : List Clause) (i : ℕ) (clause : Clause) (made : Flat) → slice_get clauses i ≡ Some clause → made ≡ flat clause.guard → slice_get (map flat_of clauses) i ≡ Some made
flat-there clauses i clause made at is = slice_get-map flat_of clauses i ∙ ap (option_map flat_of) at ∙ ap Some (sym is)

-- the last number is taken away

abbrev front : {X : Type 0} → List X → List X
front [] = []
front (x ∷ []) = []
front (x ∷ y ∷ ys) = x ∷ front (y ∷ ys)

front-more : {X : Type 0} (xs : List X) (x : X) → front (xs ++ x ∷ []) ≡ xs
front-more [] x = refl
front-more (y ∷ []) x = refl
front-more (y ∷ z ∷ zs) x = ap (λ ws. y ∷ ws) (front-more (z ∷ zs) x)

pub before-last : (xs ys : List ℕ) (x y : ℕ) → xs ++ x ∷ [] ≡ ys ++ y ∷ [] → xs ≡ ys
before-last xs ys x y same = sym (front-more xs x) ∙ ap front same ∙ front-more ys y

pub never-empty : (xs : List ℕ) (x : ℕ) → xs ++ x ∷ [] ≡ [] → ⊥
never-empty xs x none = absurd (omega (arith, sym (length-append xs (x ∷ [])) ∙ ap length none))
