-- Loops that go down a list: what is still to come brings all to an end.
use Rattle.std.proofs.Common.{◌≡◌, ℕ, zero, suc, ◌+◌, ◌<◌, ◌≤◌, List, [], ◌∷◌, ◌++◌, length, drop, get_or, Bool, true, false, ◌||◌, refl, ap, sym, ◌∙◌, subst, arith}
use Rattle.std.specs.Prelude.{ℤ}
use Rattle.std.specs.List.{list_all, list_any}
use mathlib.Core.Bool.{true≢false}
use Rattle.lin_atoms.specs.declared.lit.Lit.{Lit}
use Rattle.cube_rules.proofs.Public.{both_true}
use Rattle.area_literals.specs.machinery.Growing.{Grows, GrowsBy}
use Rattle.area_literals.proofs.GrowLemmas.{by-none, by-one}

plus-one : (n : ℕ) → n + 1 ≡ suc n
plus-one n = omega arith

rest-suc : {X : Type 0} (xs : List X) (i : ℕ) (x : X) → i < length xs → x ≡ get_or xs i x → drop i xs ≡ x ∷ drop (suc i) xs
rest-suc [] i x within is = absurd (omega arith)
rest-suc (y ∷ xs) zero x within is = ap (λ z. z ∷ xs) (sym is)
rest-suc (y ∷ xs) (suc i) x within is = rest-suc xs i x (omega arith) is

pub rest-is : {X : Type 0} (xs : List X) (i : ℕ) (x : X) → i < length xs → x ≡ get_or xs i x → drop i xs ≡ x ∷ drop (i + 1) xs
rest-is xs i x within is = rest-suc xs i x within is ∙ ap (λ k. x ∷ drop k xs) (sym (plus-one i))

pub rest-end : {X : Type 0} (xs : List X) (i : ℕ) → length xs ≤ i → drop i xs ≡ []
rest-end [] zero past = refl
rest-end [] (suc i) past = refl
rest-end (x ∷ xs) zero past = absurd (omega arith)
rest-end (x ∷ xs) (suc i) past = rest-end xs i (omega arith)

-- what the rest adds now ends in what all were to add
abbrev pub IsUnderWay : {X : Type 0} → List ℤ → (X → Lit → Bool) → (X → List Lit → Bool) → List X → List Lit → List X → List Lit → Type 0
IsUnderWay point stands has xs old rest now = (end : List Lit) → GrowsBy point stands has rest now end → GrowsBy point stands has xs old end

pub under-way : {X : Type 0} (point : List ℤ) (stands : X → Lit → Bool) (has : X → List Lit → Bool) (xs : List X) (old : List Lit) (rest : List X) (now : List Lit) (x : X) (later : List X) (new : List Lit)
    → ((lits more : List Lit) → has x lits ≡ true → has x (lits ++ more) ≡ true)
    → rest ≡ x ∷ later → Grows point (stands x) (has x) now new → IsUnderWay point stands has xs old rest now → IsUnderWay point stands has xs old later new
under-way {X = X} point stands has xs old rest now x later new stays split one before end brings =
    before end (subst (λ (ys : List X). GrowsBy point stands has ys now end) (sym split) (by-one point stands has x later now new end stays one brings))

pub at-end : {X : Type 0} (point : List ℤ) (stands : X → Lit → Bool) (has : X → List Lit → Bool) (xs : List X) (old : List Lit) (rest : List X) (now : List Lit)
    → rest ≡ [] → IsUnderWay point stands has xs old rest now → GrowsBy point stands has xs old now
at-end {X = X} point stands has xs old rest now none before = before now (subst (λ (ys : List X). GrowsBy point stands has ys now now) (sym none) (by-none point stands has now))

-- tests of all and of some

pub all-get : {X : Type 0} (p : X → Bool) (xs : List X) (i : ℕ) (x : X) → i < length xs → x ≡ get_or xs i x → list_all p xs ≡ true → p x ≡ true
all-get p [] i x within is all = absurd (omega arith)
all-get p (y ∷ xs) zero x within is all = ap p is ∙ (both_true (p y) (list_all p xs) all).0
all-get p (y ∷ xs) (suc i) x within is all = all-get p xs i x (omega arith) is (both_true (p y) (list_all p xs) all).1

pub any-on : {X : Type 0} (test : X → Bool) (xs : List X) (x : X) (ys : List X) → xs ≡ x ∷ ys → test x ≡ false → list_any test xs ≡ true → list_any test ys ≡ true
any-on test xs x ys split fails h = sym (ap (list_any test) split ∙ ap (λ b. b || list_any test ys) fails) ∙ h

pub any-end : {X : Type 0} (test : X → Bool) (xs : List X) → xs ≡ [] → list_any test xs ≡ true → ⊥
any-end test xs none h = true≢false (sym h ∙ ap (list_any test) none)
