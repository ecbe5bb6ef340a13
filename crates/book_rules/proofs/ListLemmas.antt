-- Tests of lists, and what holds of each item.
use Rattle.std.proofs.Common.{◌≡◌, ℕ, ◌+◌, zero, suc, List, [], ◌∷◌, ◌++◌, Bool, true, false, ◌&&◌, ◌||◌, not, cond, Some, None, refl, ap, sym, ◌∙◌, subst}
use Rattle.std.specs.Prelude.{Option, option_map, slice_get, slice_set}
use Rattle.std.specs.List.{list_all, list_any}
use mathlib.Core.Bool.{true≢false}
use Rattle.book_rules.specs.Walks.{AllOf, number_from, first_number, or_else, first_told}

pub both_true : (a b : Bool) → (a && b) ≡ true → (a ≡ true) × (b ≡ true)
both_true true b h = (refl, h)
both_true false b h = absurd (cc)

pub from_both : (a b : Bool) → a ≡ true → b ≡ true → (a && b) ≡ true
from_both true b h k = k
from_both false b h k = absurd (cc)

pub true_not_false : {A : Type 0} (b : Bool) → b ≡ true → b ≡ false → A
true_not_false b t f = absurd (true≢false (sym t ∙ f))

pub still_false : (b c : Bool) → (c ≡ true → b ≡ true) → b ≡ false → c ≡ false
still_false b true f h = absurd (true≢false (sym (f refl) ∙ h))
still_false b false f h = refl

pub not_true : (b : Bool) → not b ≡ true → b ≡ false
not_true true h = absurd (true≢false (sym h))
not_true false h = refl

pub not_false : (b : Bool) → not b ≡ false → b ≡ true
not_false true h = refl
not_false false h = absurd (true≢false h)

pub is_not : (b : Bool) → b ≡ false → not b ≡ true
is_not true h = absurd (true≢false h)
is_not false h = refl

pub either_is : (a b : Bool) (P : Type 0) → (a ≡ true → P) → (b ≡ true → P) → (a || b) ≡ true → P
either_is true b P f g h = f refl
either_is false b P f g h = g h

pub both_false : (a b : Bool) → (a || b) ≡ false → (a ≡ false) × (b ≡ false)
both_false true b h = absurd (true≢false h)
both_false false b h = (refl, h)

-- lists

pub all_weaken : {X : Type 0} (p q : X → Bool) → ((x : X) → p x ≡ true → q x ≡ true) → (xs : List X) → list_all p xs ≡ true → list_all q xs ≡ true
all_weaken p q f [] h = refl
all_weaken p q f (x ∷ xs) h =
    let both = both_true (p x) (list_all p xs) h in
    from_both (q x) (list_all q xs) (f x both.0) (all_weaken p q f xs both.1)

pub all_at : {X : Type 0} (p : X → Bool) (xs : List X) (i : ℕ) (x : X) → slice_get xs i ≡ Some x → list_all p xs ≡ true → p x ≡ true
all_at p [] i x is h = absurd (cc)
all_at p (y ∷ xs) zero x is h = let same : y ≡ x = cc in ap p (sym same) ∙ (both_true (p y) (list_all p xs) h).0
all_at p (y ∷ xs) (suc i) x is h = all_at p xs i x is (both_true (p y) (list_all p xs) h).1

pub all_tested : {X : Type 0} (P : X → Type 0) (p : X → Bool) → ((x : X) → P x → p x ≡ true) → (xs : List X) → AllOf P xs → list_all p xs ≡ true
all_tested P p f [] h = refl
all_tested P p f (x ∷ xs) h = from_both (p x) (list_all p xs) (f x h.0) (all_tested P p f xs h.1)

pub all_of-map : {X : Type 0} (P Q : X → Type 0) → ((x : X) → P x → Q x) → (xs : List X) → AllOf P xs → AllOf Q xs
all_of-map P Q f [] h = tt
all_of-map P Q f (x ∷ xs) h = (f x h.0, all_of-map P Q f xs h.1)

pub all_of-push : {X : Type 0} (P : X → Type 0) (xs : List X) (x : X) → AllOf P xs → P x → AllOf P (xs ++ x ∷ [])
all_of-push P [] x h k = (k, tt)
all_of-push P (y ∷ xs) x h k = (h.0, all_of-push P xs x h.1 k)

pub all_of-set : {X : Type 0} (P : X → Type 0) (xs : List X) (i : ℕ) (x : X) → AllOf P xs → P x → AllOf P (slice_set xs i x)
all_of-set P [] i x h k = tt
all_of-set P (y ∷ xs) zero x h k = (k, h.1)
all_of-set P (y ∷ xs) (suc i) x h k = (h.0, all_of-set P xs i x h.1 k)

pub all_of-at : {X : Type 0} (P : X → Type 0) (xs : List X) (i : ℕ) (x : X) → slice_get xs i ≡ Some x → AllOf P xs → P x
all_of-at P [] i x is h = absurd (cc)
all_of-at P (y ∷ xs) zero x is h = let same : y ≡ x = cc in subst P same h.0
all_of-at P (y ∷ xs) (suc i) x is h = all_of-at P xs i x is h.1

-- an item that passes a test, in a list of items of which P holds
pub any_of : {X : Type 0} (P : X → Type 0) (test : X → Bool) (xs : List X) → AllOf P xs → list_any test xs ≡ true → (x : X) × P x × (test x ≡ true)
any_of P test [] all h = absurd (true≢false (sym h))
any_of {X = X} P test (x ∷ xs) all h = either_is (test x) (list_any test xs) ((y : X) × P y × (test y ≡ true)) (λ is. (x, all.0, is)) (any_of P test xs all.1) h

pub any_at : {X : Type 0} (test : X → Bool) (xs : List X) → list_any test xs ≡ true → (i : ℕ) × (x : X) × (slice_get xs i ≡ Some x) × (test x ≡ true)
any_at test [] h = absurd (true≢false (sym h))
any_at {X = X} test (x ∷ xs) h = either_is (test x) (list_any test xs) ((i : ℕ) × (y : X) × (slice_get (x ∷ xs) i ≡ Some y) × (test y ≡ true)) (λ is. (zero, x, refl, is))
    (λ t. let rest = any_at test xs t in (suc rest.0, rest.1, rest.2, rest.3)) h

-- where no item is told, none passes
none_then : {B : Type 0} (b : Bool) (told rest : Option B) → cond {A = Option B} b told rest ≡ None → (told ≡ None → ⊥) → (b ≡ false) × (rest ≡ None)
none_then true told rest h never = absurd (never h)
none_then false told rest h never = (refl, h)

some_is : {B : Type 0} (b : B) → Some b ≡ None → ⊥
some_is b h = cc

pub none_passes : {X : Type 0} (n : ℕ) (test : X → Bool) (xs : List X) → number_from n test xs ≡ None → list_any test xs ≡ false
none_passes n test [] h = refl
none_passes n test (x ∷ xs) h =
    let here = none_then (test x) (Some n) (number_from (n + 1) test xs) h (some_is n) in
    ap (λ b. b || list_any test xs) here.0 ∙ none_passes (n + 1) test xs here.1

pub untold_passes : {X B : Type 0} (f : ℕ → B) (test : X → Bool) (xs : List X) → option_map f (first_number test xs) ≡ None → list_any test xs ≡ false
untold_passes f test xs h = none_passes 0 test xs (inner (first_number test xs) h) where
  inner : (o : Option ℕ) → option_map f o ≡ None → o ≡ None
  inner None h' = refl
  inner (Some n) h' = absurd (some_is (f n) h')

pub neither : {B : Type 0} (a b : Option B) → or_else a b ≡ None → (a ≡ None) × (b ≡ None)
neither None b h = (refl, h)
neither (Some x) b h = absurd (some_is x h)

pub none_told : {X B : Type 0} (tell : X → Option B) (P : X → Type 0) → ((x : X) → tell x ≡ None → P x) → (xs : List X) → first_told tell xs ≡ None → AllOf P xs
none_told tell P f [] h = tt
none_told tell P f (x ∷ xs) h =
    let here = neither (tell x) (first_told tell xs) h in
    (f x here.0, none_told tell P f xs here.1)

pub cond_none : {B : Type 0} (b : Bool) (told : B) (rest : Option B) → cond {A = Option B} b (Some told) rest ≡ None → (b ≡ false) × (rest ≡ None)
cond_none b told rest h = none_then b (Some told) rest h (some_is told)

pub unless_none : {B : Type 0} (b : Bool) (told : B) (rest : Option B) → cond {A = Option B} b rest (Some told) ≡ None → (b ≡ true) × (rest ≡ None)
unless_none true told rest h = (refl, h)
unless_none false told rest h = absurd (some_is told h)

pub any_false : {X : Type 0} (test : X → Bool) (xs : List X) → list_any test xs ≡ false → list_all (λ x. not (test x)) xs ≡ true
any_false test [] h = refl
any_false test (x ∷ xs) h =
    let both = both_false (test x) (list_any test xs) h in
    from_both (not (test x)) _ (is_not (test x) both.0) (any_false test xs both.1)
