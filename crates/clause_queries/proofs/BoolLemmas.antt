-- Small facts on tests.
use Rattle.std.proofs.Common.{◌≡◌, ℕ, zero, suc, List, [], ◌∷◌, Bool, true, false, ◌||◌, not, Some, refl, ap, sym, ◌∙◌, arith}
use Rattle.std.specs.Prelude.{slice_get, ◌==◌}
use Rattle.std.specs.List.{list_all, list_any}
use Rattle.std.proofs.lemmas.Bool.Decides.{nat_tests}
use mathlib.Core.Bool.{true≢false}
use Rattle.book_rules.proofs.ListLemmas.{both_true, from_both}

pub same_some : {X : Type 0} (x y : X) → Some x ≡ Some y → x ≡ y
same_some x y h = cc

pub implied : (a b : Bool) → (not a || b) ≡ true → a ≡ true → b ≡ true
implied true b h is = h
implied false b h is = absurd (true≢false (sym is))

pub implies : (a b : Bool) → (a ≡ true → b ≡ true) → (not a || b) ≡ true
implies true b f = f refl
implies false b f = refl

pub either_left : (a b : Bool) → a ≡ true → (a || b) ≡ true
either_left true b h = refl
either_left false b h = absurd (true≢false (sym h))

pub either_right : (a b : Bool) → b ≡ true → (a || b) ≡ true
either_right true b h = refl
either_right false b h = h

pub all_from : {X : Type 0} (p : X → Bool) → ((x : X) → p x ≡ true) → (xs : List X) → list_all p xs ≡ true
all_from p f [] = refl
all_from p f (x ∷ xs) = from_both (p x) _ (f x) (all_from p f xs)

pub all_with : {X : Type 0} (p q r : X → Bool) → ((x : X) → p x ≡ true → q x ≡ true → r x ≡ true) → (xs : List X) → list_all p xs ≡ true → list_all q xs ≡ true → list_all r xs ≡ true
all_with p q r f [] h k = refl
all_with p q r f (x ∷ xs) h k =
    let first = both_true (p x) _ h in
    let second = both_true (q x) _ k in
    from_both (r x) _ (f x first.0 second.0) (all_with p q r f xs first.1 second.1)

-- an item of a list passes, and so one does
pub any_from : {X : Type 0} (p : X → Bool) (xs : List X) (i : ℕ) (x : X) → slice_get xs i ≡ Some x → p x ≡ true → list_any p xs ≡ true
any_from p [] i x there is = absurd (cc)
any_from p (y ∷ xs) zero x there is = either_left (p y) _ (ap p (same_some y x there) ∙ is)
any_from p (y ∷ xs) (suc i) x there is = either_right (p y) _ (any_from p xs i x there is)

pub number_is : (m n : ℕ) → (m == n) ≡ true → m ≡ n
number_is m n h = grind (arith, nat_tests)

pub own_number : (n : ℕ) → (n == n) ≡ true
own_number n = grind (arith, nat_tests)
