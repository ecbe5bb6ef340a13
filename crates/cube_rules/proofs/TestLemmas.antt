-- Tests that agree, and tests of lists.
use Rattle.std.proofs.Common.{◌≡◌, ◌↔◌, ℕ, ◌+◌, zero, suc, List, [], ◌∷◌, ◌++◌, Bool, true, false, ◌&&◌, ◌||◌, not, get_or, Some, None, refl, ap, sym, ◌∙◌, arith}
use Rattle.std.specs.Prelude.{IsTrue, slice_get}
use Rattle.std.specs.List.{list_all, list_any}
use mathlib.Core.Bool.{true≢false}
use Rattle.lin_atoms.specs.declared.lit.Lit.{Lit}
use Rattle.book_rules.specs.Same.{same_cube, same_lit}
use Rattle.book_rules.proofs.Public.{cubes_equal}

pub agree : (r s : Bool) (P : Type 0) → (IsTrue r ↔ P) → ((s ≡ true) ↔ P) → r ≡ s
agree true true P f g = refl
agree true false P f g = sym (g.1 (f.0 refl))
agree false true P f g = f.1 (g.0 refl)
agree false false P f g = refl

-- the next number, as the code counts and as lists are taken apart
pub plus-one : (n : ℕ) → n + 1 ≡ suc n
plus-one n = omega arith

pub plus-none : (n : ℕ) → n ≡ n + 0
plus-none n = omega arith

pub both_true : (a b : Bool) → (a && b) ≡ true → (a ≡ true) × (b ≡ true)
both_true true b h = (refl, h)
both_true false b h = absurd (cc)

pub from_both : (a b : Bool) → a ≡ true → b ≡ true → (a && b) ≡ true
from_both true b h k = k
from_both false b h k = absurd (cc)

pub still_false : (b c : Bool) → (c ≡ true → b ≡ true) → b ≡ false → c ≡ false
still_false b true f h = absurd (true≢false (sym (f refl) ∙ h))
still_false b false f h = refl

pub lits_equal : (a b : Lit) → (same_lit a b ≡ true) ↔ (a ≡ b)
lits_equal a b = (
  λ h. ap (λ (xs : List Lit). get_or xs 0 a) ((cubes_equal (a ∷ []) (b ∷ [])).0 (from_both (same_lit a b) true h refl)),
  λ is. (both_true (same_lit a b) true ((cubes_equal (a ∷ []) (b ∷ [])).1 (ap (λ (x : Lit). x ∷ []) is))).0,
)

pub lit_is : (a b : Lit) → same_lit a b ≡ true → a ≡ b
lit_is a b h = (lits_equal a b).0 h

pub all_weaken : {X : Type 0} (p q : X → Bool) → ((x : X) → p x ≡ true → q x ≡ true) → (xs : List X) → list_all p xs ≡ true → list_all q xs ≡ true
all_weaken p q f [] h = refl
all_weaken p q f (x ∷ xs) h =
    let both = both_true (p x) (list_all p xs) h in
    from_both (q x) (list_all q xs) (f x both.0) (all_weaken p q f xs both.1)

pub all_at : {X : Type 0} (p : X → Bool) (xs : List X) (i : ℕ) (x : X) → slice_get xs i ≡ Some x → list_all p xs ≡ true → p x ≡ true
all_at p [] i x is h = absurd (cc)
all_at p (y ∷ xs) zero x is h = let same : y ≡ x = cc in ap p (sym same) ∙ (both_true (p y) (list_all p xs) h).0
all_at p (y ∷ xs) (suc i) x is h = all_at p xs i x is (both_true (p y) (list_all p xs) h).1

either_is : (a b : Bool) (P : Type 0) → (a ≡ true → P) → (b ≡ true → P) → (a || b) ≡ true → P
either_is true b P f g h = f refl
either_is false b P f g h = g h

pub any_at : {X : Type 0} (test : X → Bool) (xs : List X) → list_any test xs ≡ true → (i : ℕ) × (x : X) × (slice_get xs i ≡ Some x) × (test x ≡ true)
any_at test [] h = absurd (true≢false (sym h))
any_at {X = X} test (x ∷ xs) h = either_is (test x) (list_any test xs) ((i : ℕ) × (y : X) × (slice_get (x ∷ xs) i ≡ Some y) × (test y ≡ true)) (λ is. (zero, x, refl, is))
    (λ t. let rest = any_at test xs t in (suc rest.0, rest.1, rest.2, rest.3)) h
