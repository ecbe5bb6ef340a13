-- Lists of clauses by their heads: each is put behind those of its head, and the others stay.
use Rattle.std.proofs.Common.{◌≡◌, ℕ, ◌+◌, ◌<◌, ◌≤◌, zero, suc, List, [], ◌∷◌, ◌++◌, drop, length, get_or, replicate, Bool, true, false, cond, Option, None, Some, refl, ap, sym, ◌∙◌, arith}
use Rattle.std.specs.Prelude.{◌==◌, nat_lt, slice_get, slice_index_or, slice_set}
use Rattle.std.specs.List.{list_all}
use Rattle.std.proofs.lemmas.Bool.Decides.{nat_tests}
use Rattle.std.proofs.lemmas.List.{append-nil, append_assoc}
use mathlib.Core.Bool.{true≢false}
use Rattle.term_tree.specs.declared.sort.Sort.{Sort}
use Rattle.clause_form.specs.System.{Clauses, is_clause, is_head as has_arguments_in, is_system}
use Rattle.clause_form.specs.declared.atom.Atom.{Atom}
use Rattle.clause_form.specs.declared.clause.Clause.{Clause}
use Rattle.clause_form.proofs.KeptLemmas.{keeps, keeps_atom}
use Rattle.book_rules.specs.Proofs.{is_head}
use Rattle.book_rules.proofs.ListLemmas.{both_true}
use Rattle.clause_index.specs.Index.{numbers_from, numbers_of}
use Rattle.clause_index.specs.machinery.Heads.{AreListed, Filled, IsPlaced, is_listed, listed}
use Rattle.clause_index.specs.declared.heads.Heads.{Heads}

-- one place of a list is set

set-there : {X : Type 0} (xs : List X) (i : ℕ) (x d : X) → i < length xs → slice_index_or (slice_set xs i x) i d ≡ x
set-there [] i x d h = absurd (omega (arith, h))
set-there (y ∷ ys) zero x d h = refl
set-there (y ∷ ys) (suc i) x d h = set-there ys i x d (omega (arith, h))

set-elsewhere : {X : Type 0} (xs : List X) (i j : ℕ) (x d : X) → (j ≡ i → ⊥) → slice_index_or (slice_set xs i x) j d ≡ slice_index_or xs j d
set-elsewhere [] i j x d h = refl
set-elsewhere (y ∷ ys) zero zero x d h = absurd (h refl)
set-elsewhere (y ∷ ys) zero (suc j) x d h = refl
set-elsewhere (y ∷ ys) (suc i) zero x d h = refl
set-elsewhere (y ∷ ys) (suc i) (suc j) x d h = set-elsewhere ys i j x d (λ e. h (ap suc e))

set-length : {X : Type 0} (xs : List X) (i : ℕ) (x : X) → length (slice_set xs i x) ≡ length xs
set-length [] i x = refl
set-length (y ∷ ys) zero x = refl
set-length (y ∷ ys) (suc i) x = ap suc (set-length ys i x)

abbrev none : List ℕ
none = []

nothing-there : (n i : ℕ) → slice_index_or (replicate n none) i none ≡ none
nothing-there zero i = refl
nothing-there (suc n) zero = refl
nothing-there (suc n) (suc i) = nothing-there n i

number-is : (m n : ℕ) → (m == n) ≡ true → m ≡ n
number-is m n h = grind (arith, nat_tests)

number-is-not : (m n : ℕ) → (m == n) ≡ false → m ≡ n → ⊥
number-is-not m n h e = let f : (m == n) ≡ true = grind (arith, nat_tests) in true≢false (sym f ∙ h)

is-below : (m n : ℕ) → nat_lt m n ≡ true → m < n
is-below m n h = grind (arith, nat_tests)

tests-below : (m n : ℕ) → m < n → nat_lt m n ≡ true
tests-below m n h = grind (arith, nat_tests)

-- what a clause adds to the list of a head
abbrev own : Bool → ℕ → List ℕ
own b n = cond {A = List ℕ} b (n ∷ []) []

in-place : (old : List (List ℕ)) (i j n : ℕ) (b : Bool) → (j == i) ≡ b → i < length old
    → slice_index_or (slice_set old i (slice_index_or old i [] ++ n ∷ [])) j [] ≡ slice_index_or old j [] ++ own b n
in-place old i j n true is within =
    let same : j ≡ i = number-is j i is in
    ap (λ (k : ℕ). slice_index_or (slice_set old i (slice_index_or old i [] ++ n ∷ [])) k []) same ∙ set-there old i _ [] within
    ∙ ap (λ (k : ℕ). slice_index_or old k [] ++ n ∷ []) (sym same)
in-place old i j n false is within = set-elsewhere old i j _ [] (number-is-not j i is) ∙ sym (append-nil _)

now-listed : (old new : Heads) (head : Option Atom) (n : ℕ) (pred : Option ℕ) → is_listed old head ≡ true → IsPlaced old head n new → listed new pred ≡ listed old pred ++ own (is_head pred head) n
now-listed old new None n None there is = is.0
now-listed old new None n (Some pred) there is = ap (λ (of : List (List ℕ)). slice_index_or of pred []) is.1 ∙ sym (append-nil _)
now-listed old new (Some atom) n None there is = is.0 ∙ sym (append-nil _)
now-listed old new (Some atom) n (Some pred) there is =
    ap (λ (of : List (List ℕ)). slice_index_or of pred []) is.1 ∙ in-place old.of.items atom.pred pred n (pred == atom.pred) refl (is-below _ _ there)

now-many : (old new : Heads) (head : Option Atom) (n : ℕ) → IsPlaced old head n new → length new.of.items ≡ length old.of.items
now-many old new None n is = ap length is.1
now-many old new (Some atom) n is = ap length is.1 ∙ set-length old.of.items atom.pred _

-- the rest of a list begins with its next item

rest-suc : {X : Type 0} (xs : List X) (i : ℕ) (x : X) → slice_get xs i ≡ Some x → drop i xs ≡ x ∷ drop (suc i) xs
rest-suc [] i x is = absurd (cc)
rest-suc (y ∷ xs) zero x is = let same : y ≡ x = cc in ap (λ z. z ∷ xs) same
rest-suc (y ∷ xs) (suc i) x is = rest-suc xs i x is

rest-end : {X : Type 0} (xs : List X) (i : ℕ) → length xs ≤ i → drop i xs ≡ []
rest-end [] zero past = refl
rest-end [] (suc i) past = refl
rest-end (x ∷ xs) zero past = absurd (omega arith)
rest-end (x ∷ xs) (suc i) past = rest-end xs i (omega arith)

own-at : {X : Type 0} (xs : List X) (i : ℕ) (x : X) → i < length xs → x ≡ get_or xs i x → slice_get xs i ≡ Some x
own-at [] i x within is = absurd (omega arith)
own-at (y ∷ xs) zero x within is = ap Some (sym is)
own-at (y ∷ xs) (suc i) x within is = own-at xs i x (omega arith) is

pub at-of : {X : Type 0} (xs ys : List X) (i : ℕ) (x : X) → xs ≡ ys → i < length xs → x ≡ get_or xs i x → slice_get ys i ≡ Some x
at-of {X = X} xs ys i x same within is = ap (λ (zs : List X). slice_get zs i) (sym same) ∙ own-at xs i x within is

plus-one : (n : ℕ) → n + 1 ≡ suc n
plus-one n = omega arith

from-next : (b : Bool) (n : ℕ) (before rest : List ℕ) → (before ++ own b n) ++ rest ≡ before ++ cond {A = List ℕ} b (n ∷ rest) rest
from-next true n before rest = append_assoc before (n ∷ []) rest
from-next false n before rest = ap (λ xs. xs ++ rest) (append-nil before)

pub filled-next : (sys : Clauses) (i : ℕ) (clause : Clause) (old new : Heads) → slice_get sys.clauses i ≡ Some clause → is_listed old clause.head ≡ true → IsPlaced old clause.head i new → Filled sys i old → Filled sys (i + 1) new
filled-next sys i clause old new at there is filled = record {
  many = now-many old new clause.head i is ∙ filled.many;
  each = λ pred.
      ap (λ (xs : List ℕ). xs ++ numbers_from pred (i + 1) (drop (i + 1) sys.clauses)) (now-listed old new clause.head i pred there is)
      ∙ from-next (is_head pred clause.head) i (listed old pred) (numbers_from pred (i + 1) (drop (i + 1) sys.clauses))
      ∙ ap (λ (k : ℕ). listed old pred ++ numbers_from pred i (clause ∷ drop k sys.clauses)) (plus-one i)
      ∙ ap (λ (cs : List Clause). listed old pred ++ numbers_from pred i cs) (sym (rest-suc sys.clauses i clause at))
      ∙ filled.each pred;
}

pub filled-all : (sys : Clauses) (i : ℕ) (heads : Heads) → length sys.clauses ≤ i → Filled sys i heads → AreListed sys heads
filled-all sys i heads past filled pred =
    sym (append-nil _) ∙ ap (λ (cs : List Clause). listed heads pred ++ numbers_from pred i cs) (sym (rest-end sys.clauses i past)) ∙ filled.each pred

pub filled-none : (sys : Clauses) (heads : Heads) → heads.queries ≡ [] → heads.of.items ≡ replicate (length sys.preds) [] → Filled sys 0 heads
filled-none sys heads nothing empty = record { many = ap length empty ∙ many (length sys.preds); each = each }
  where
    many : (n : ℕ) → length (replicate n none) ≡ n
    many zero = refl
    many (suc n) = ap suc (many n)

    each : (pred : Option ℕ) → listed heads pred ++ numbers_from pred 0 sys.clauses ≡ numbers_of sys pred
    each None = ap (λ (xs : List ℕ). xs ++ numbers_from None 0 sys.clauses) nothing
    each (Some pred) = ap (λ (xs : List ℕ). xs ++ numbers_from (Some pred) 0 sys.clauses) (ap (λ (of : List (List ℕ)). slice_index_or of pred []) empty ∙ nothing-there (length sys.preds) pred)

-- a system has the predicate of each head

all-at : {X : Type 0} (p : X → Bool) (xs : List X) (i : ℕ) (x : X) → slice_get xs i ≡ Some x → list_all p xs ≡ true → p x ≡ true
all-at p [] i x is h = absurd (cc)
all-at p (y ∷ xs) zero x is h = let same : y ≡ x = cc in ap p (sym same) ∙ (both_true (p y) (list_all p xs) h).0
all-at p (y ∷ xs) (suc i) x is h = all-at p xs i x is (both_true (p y) (list_all p xs) h).1

there-within : {X : Type 0} (xs : List X) (i : ℕ) (x : X) → slice_get xs i ≡ Some x → i < length xs
there-within [] i x is = absurd (cc)
there-within (y ∷ xs) zero x is = omega arith
there-within (y ∷ xs) (suc i) x is = let rest = there-within xs i x is in omega (arith, rest)

head-there : (preds : List (List Sort)) (n : ℕ) (heads : Heads) (head : Option Atom) → length heads.of.items ≡ length preds → has_arguments_in preds n head ≡ true → is_listed heads head ≡ true
head-there preds n heads None many is = refl
head-there preds n heads (Some atom) many is =
    let kept = keeps_atom preds n atom is in
    let within = there-within preds atom.pred kept.sorts kept.there in
    tests-below atom.pred (length heads.of.items) (omega (arith, within, many))

pub is-listed-at : (sys : Clauses) (i : ℕ) (clause : Clause) (heads : Heads) → is_system sys ≡ true → slice_get sys.clauses i ≡ Some clause → Filled sys i heads → is_listed heads clause.head ≡ true
is-listed-at sys i clause heads legal at filled =
    let kept = keeps sys.preds clause (all-at (is_clause sys.preds) sys.clauses i clause at legal) in
    head-there sys.preds (length clause.sorts) heads clause.head filled.many kept.head
