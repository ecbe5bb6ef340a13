-- Definitions in their places.
use Rattle.std.proofs.Common.{◌≡◌, ℕ, zero, suc, ◌+◌, ◌<◌, List, [], ◌∷◌, ◌++◌, length, map, reverse, Bool, true, false, ◌||◌, refl, sym, ap, subst, ◌∙◌, arith}
use Rattle.std.specs.Prelude.{Option, None, Some, nat_eq, slice_get, slice_set, is_some, if◌then◌else◌}
use Rattle.std.proofs.lemmas.Bool.{eqb-true, eqb-false, eq-eqb, ne_eqb}
use Rattle.std.proofs.lemmas.List.{reverse-append}
use Rattle.term_tree.specs.declared.script.Pred.{Pred}
use Rattle.term_tree.specs.declared.definition.Definition.{Definition}
use Rattle.answer_text.specs.Reading.{Defined, is_defined, definition_for, in_order, and_then}
use Rattle.answer_text.specs.Read.{IsDefinition, AreDefinitions}
use Rattle.answer_text.specs.machinery.Places.{AreEmpty, IsPlace, ArePlaces, gathered, with_definition}

-- a place of each number

set_there : {X : Type 0} (xs : List X) (i : ℕ) (x : X) → i < length xs → slice_get (slice_set xs i x) i ≡ Some x
set_there [] i x h = absurd (omega (arith, h))
set_there (y ∷ ys) zero x h = refl
set_there (y ∷ ys) (suc i) x h = set_there ys i x (omega (arith, h))

set_elsewhere : {X : Type 0} (xs : List X) (i j : ℕ) (x : X) → nat_eq i j ≡ false → slice_get (slice_set xs i x) j ≡ slice_get xs j
set_elsewhere [] i j x h = refl
set_elsewhere (y ∷ ys) zero zero x h = absurd (cc)
set_elsewhere (y ∷ ys) zero (suc j) x h = refl
set_elsewhere (y ∷ ys) (suc i) zero x h = refl
set_elsewhere (y ∷ ys) (suc i) (suc j) x h = set_elsewhere ys i j x (ne_eqb i j (λ e. eqb-false (suc i) (suc j) h (ap suc e)))

set_length : {X : Type 0} (xs : List X) (i : ℕ) (x : X) → length (slice_set xs i x) ≡ length xs
set_length [] i x = refl
set_length (y ∷ ys) zero x = refl
set_length (y ∷ ys) (suc i) x = ap suc (set_length ys i x)

-- the definition of a number among some

last_elsewhere : (ds : List Defined) (d : Defined) (n : ℕ) → nat_eq d.pred n ≡ false → definition_for n (ds ++ d ∷ []) ≡ definition_for n ds
last_elsewhere [] d n h = ap (λ (b : Bool). if b then Some d else None) h
last_elsewhere (e ∷ es) d n h = ap (λ (o : Option Defined). if nat_eq e.pred n then Some e else o) (last_elsewhere es d n h)

last_there : (ds : List Defined) (d : Defined) → is_defined ds d.pred ≡ false → definition_for d.pred (ds ++ d ∷ []) ≡ Some d
last_there [] d h = ap (λ (b : Bool). if b then Some d else None) (same d.pred)
  where
    same : (n : ℕ) → nat_eq n n ≡ true
    same n = eq-eqb n n refl
last_there (e ∷ es) d h =
    let both = neither (nat_eq e.pred d.pred) (is_defined es d.pred) h in
    ap (λ (b : Bool). if b then Some e else definition_for d.pred (es ++ d ∷ [])) both.0 ∙ last_there es d both.1
  where
    neither : (a b : Bool) → (a || b) ≡ false → (a ≡ false) × (b ≡ false)
    neither false b h = (refl, h)
    neither true b h = absurd (cc)

is_there : (ds : List Defined) (n : ℕ) → is_some (definition_for n ds) ≡ is_defined ds n
is_there [] n = refl
is_there (d ∷ ds) n = by (nat_eq d.pred n) (is_there ds n)
  where
    by : (b : Bool) → is_some (definition_for n ds) ≡ is_defined ds n → is_some (if b then Some d else definition_for n ds) ≡ (b || is_defined ds n)
    by true h = refl
    by false h = h

same_place : (o : Option Defined) (place : Option Definition) → IsPlace o place → is_some place ≡ is_some o
same_place None None h = refl
same_place (Some d) (Some definition) h = refl
same_place None (Some definition) h = absurd h
same_place (Some d) None h = absurd h

-- a predicate has a definition where its place is taken
pub taken : (before : List Defined) (preds : List Pred) (places : List (Option Definition)) (number : ℕ) (place : Option Definition) → ArePlaces before preds places → slice_get places number ≡ Some place → is_some place ≡ is_defined before number
taken before preds places number place h at = same_place (definition_for number before) place (h.each number place at) ∙ is_there before number

pub none_yet : (preds : List Pred) (places : List (Option Definition)) → AreEmpty (length preds) places → ArePlaces [] preds places
none_yet preds places h = record {
  count_is = h.count_is;
  each = λ number place at. subst (λ (o : Option Definition). IsPlace None o) (sym (h.empty number place at)) tt;
}

the_same : {X : Type 0} (x y : X) → Some x ≡ Some y → x ≡ y
the_same x y h = cc

pub one_more : (before : List Defined) (preds : List Pred) (places : List (Option Definition)) (d : Defined) (definition : Definition) → ArePlaces before preds places → definition.pred < length preds → IsDefinition d definition → is_defined before d.pred ≡ false
    → ArePlaces (before ++ d ∷ []) preds (slice_set places definition.pred (Some definition))
one_more before preds places d definition h within is new = record {
  count_is = set_length places definition.pred (Some definition) ∙ h.count_is;
  each = λ number place at. by number place at (nat_eq d.pred number) refl;
}
  where
    by : (number : ℕ) (place : Option Definition) → slice_get (slice_set places definition.pred (Some definition)) number ≡ Some place → (b : Bool) → nat_eq d.pred number ≡ b → IsPlace (definition_for number (before ++ d ∷ [])) place
    by number place at true e =
        let same : d.pred ≡ number = eqb-true d.pred number e in
        let here : definition.pred ≡ number = is.pred ∙ same in
        let put : slice_get (slice_set places definition.pred (Some definition)) number ≡ Some (Some definition) =
        ap (λ (n : ℕ). slice_get (slice_set places definition.pred (Some definition)) n) (sym here) ∙ set_there places definition.pred (Some definition) (omega (arith, within, h.count_is)) in
        let found : definition_for number (before ++ d ∷ []) ≡ Some d = ap (λ (n : ℕ). definition_for n (before ++ d ∷ [])) (sym same) ∙ last_there before d new in
        subst (λ (o : Option Defined). IsPlace o place) (sym found) (subst (λ (p : Option Definition). IsPlace (Some d) p) (the_same (Some definition) place (sym put ∙ at)) is)
    by number place at false e =
        let old : slice_get places number ≡ Some place = sym (set_elsewhere places definition.pred number (Some definition) (ap (λ (n : ℕ). nat_eq n number) is.pred ∙ e)) ∙ at in
        subst (λ (o : Option Defined). IsPlace o place) (sym (last_elsewhere before d number e)) (h.each number place old)

-- no definitions yet

last_none : (xs : List (Option Definition)) (number : ℕ) (place : Option Definition) → ((n : ℕ) (p : Option Definition) → slice_get xs n ≡ Some p → p ≡ None) → slice_get (xs ++ None ∷ []) number ≡ Some place → place ≡ None
last_none [] zero place h at = sym (the_same None place at)
last_none [] (suc n) place h at = absurd (cc)
last_none (x ∷ xs) zero place h at = h 0 place at
last_none (x ∷ xs) (suc n) place h at = last_none xs n place (λ m p e. h (suc m) p e) at

pub one_more_empty : (places new : List (Option Definition)) → AreEmpty (length places) places → new ≡ places ++ None ∷ [] → AreEmpty (length new) new
one_more_empty places new h is = record { count_is = refl; empty = λ number place at. last_none places number place h.empty (sym (ap (λ (xs : List (Option Definition)). slice_get xs number) is) ∙ at) }

-- all of them in order

abbrev pub Agree : Option (List Defined) → Option (List Definition) → Type 0
Agree None None = Unit {0}
Agree (Some ds) (Some definitions) = AreDefinitions ds definitions
Agree None (Some definitions) = ⊥
Agree (Some ds) None = ⊥

joined : (o : Option Defined) (os : Option (List Defined)) (place : Option Definition) (places : List (Option Definition)) → IsPlace o place → Agree os (gathered places) → Agree (and_then o os) (gathered (place ∷ places))
joined None os None places h k = tt
joined (Some d) os (Some definition) places h k = by os (gathered places) k
  where
    by : (os : Option (List Defined)) (ps : Option (List Definition)) → Agree os ps → Agree (and_then (Some d) os) (with_definition definition ps)
    by None None k = tt
    by (Some ds) (Some definitions) k = (h, k)
    by None (Some definitions) k = absurd k
    by (Some ds) None k = absurd k
joined None os (Some definition) places h k = absurd h
joined (Some d) os None places h k = absurd h

agree_from : (ds : List Defined) (preds : List Pred) (number : ℕ) (places : List (Option Definition)) → length places ≡ length preds
    → ((n : ℕ) (place : Option Definition) → slice_get places n ≡ Some place → IsPlace (definition_for (number + n) ds) place) → Agree (in_order ds number preds) (gathered places)
agree_from ds [] number [] count each = tt
agree_from ds [] number (place ∷ places) count each = absurd (omega (arith, count))
agree_from ds (p ∷ preds) number [] count each = absurd (omega (arith, count))
agree_from ds (p ∷ preds) number (place ∷ places) count each =
    joined (definition_for number ds) (in_order ds (number + 1) preds) place places first
    (agree_from ds preds (number + 1) places (omega (arith, count)) later)
  where
    first : IsPlace (definition_for number ds) place
    first = let e : number + 0 ≡ number = omega arith in subst (λ (n : ℕ). IsPlace (definition_for n ds) place) e (each 0 place refl)

    later : (n : ℕ) (q : Option Definition) → slice_get places n ≡ Some q → IsPlace (definition_for (number + 1 + n) ds) q
    later n q at = let e : number + suc n ≡ number + 1 + n = omega arith in subst (λ (m : ℕ). IsPlace (definition_for m ds) q) e (each (suc n) q at)

pub agree : (ds : List Defined) (preds : List Pred) (places : List (Option Definition)) → ArePlaces ds preds places → Agree (in_order ds 0 preds) (gathered places)
agree ds preds places h = agree_from ds preds 0 places h.count_is (λ n place at. let e : n ≡ 0 + n = omega arith in subst (λ (m : ℕ). IsPlace (definition_for m ds) place) e (h.each n place at))

-- gathering from the back

pub all_there : (xs : List Definition) → gathered (map Some xs) ≡ Some xs
all_there [] = refl
all_there (x ∷ xs) = ap (with_definition x) (all_there xs)

pub one_missing : (places rest : List (Option Definition)) → gathered (places ++ None ∷ rest) ≡ None
one_missing [] rest = refl
one_missing (None ∷ places) rest = refl
one_missing (Some d ∷ places) rest = ap (with_definition d) (one_missing places rest)

pub append_one : {X : Type 0} (ys : List X) (a : X) (bs : List X) → (ys ++ a ∷ []) ++ bs ≡ ys ++ a ∷ bs
append_one [] a bs = refl
append_one (c ∷ cs) a bs = ap (λ ys. c ∷ ys) (append_one cs a bs)

pub from_the_back : (places : List (Option Definition)) (x : Definition) (xs : List Definition) → (places ++ Some x ∷ []) ++ map Some (reverse xs) ≡ places ++ map Some (reverse (xs ++ x ∷ []))
from_the_back places x xs = append_one places (Some x) (map Some (reverse xs)) ∙ ap (λ (ys : List Definition). places ++ map Some ys) (sym (reverse-append xs (x ∷ [])))
