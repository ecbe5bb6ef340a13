-- What the tests of equality find equal is equal.
use Rattle.std.proofs.Common.{◌≡◌, ℕ, List, [], ◌∷◌, Bool, true, refl, ap, sym, ◌∙◌}
use Rattle.std.specs.Prelude.{ℤ, ◌==◌}
use Rattle.std.specs.Ordering.{int_eq}
use Rattle.std.proofs.lemmas.Bool.{eqb-true}
use Rattle.std.proofs.lemmas.Bool.Decides.{Decides-int_eq}
use mathlib.Core.Bool.{true≢false}
use Rattle.lin_atoms.specs.Linear.{Linear}
use Rattle.lin_atoms.specs.declared.lit.Lit.{Lit}
use Rattle.lin_atoms.specs.declared.lit.Lit.TheVariants.{Le, Eq, Div, NDiv}
use Rattle.book_rules.specs.Same.{same_list, same_tuple, same_term, same_linear, same_lit, same_cube}
use Rattle.book_rules.specs.Frames.{Lemma, same_lemma}
use Rattle.book_rules.proofs.ListLemmas.{both_true}

pub list_is : {A : Type 0} (same : A → A → Bool) → ((a b : A) → same a b ≡ true → a ≡ b) → (xs ys : List A) → same_list same xs ys ≡ true → xs ≡ ys
list_is same is [] [] h = refl
list_is same is [] (y ∷ ys) h = absurd (true≢false (sym h))
list_is same is (x ∷ xs) [] h = absurd (true≢false (sym h))
list_is same is (x ∷ xs) (y ∷ ys) h =
    let both = both_true (same x y) (same_list same xs ys) h in
    ap (λ z. z ∷ xs) (is x y both.0) ∙ ap (λ zs. y ∷ zs) (list_is same is xs ys both.1)

pub int_is : (a b : ℤ) → int_eq a b ≡ true → a ≡ b
int_is a b h = (Decides-int_eq a b).0 h

pub tuple_is : (a b : List ℤ) → same_tuple a b ≡ true → a ≡ b
tuple_is = list_is int_eq int_is

term_is : (s t : ℕ × ℤ) → same_term s t ≡ true → s ≡ t
term_is s t h =
    let both = both_true (s.0 == t.0) (int_eq s.1 t.1) h in
    let variable : s.0 ≡ t.0 = eqb-true s.0 t.0 both.0 in
    let value : s.1 ≡ t.1 = int_is s.1 t.1 both.1 in
    let pair : s ≡ t = rw (variable, value) refl in
    pair

linear_is : (a b : Linear) → same_linear a b ≡ true → a ≡ b
linear_is a b h =
    let both = both_true (same_list same_term a.terms b.terms) (int_eq a.constant b.constant) h in
    let terms : a.terms ≡ b.terms = list_is same_term term_is a.terms b.terms both.0 in
    let constant : a.constant ≡ b.constant = int_is a.constant b.constant both.1 in
    let whole : a ≡ b = rw (terms, constant) refl in
    whole

pub lit_is : (a b : Lit) → same_lit a b ≡ true → a ≡ b
lit_is (Le a) (Le b) h = ap Le (linear_is a b h)
lit_is (Eq a) (Eq b) h = ap Eq (linear_is a b h)
lit_is (Div d a) (Div e b) h =
    let both = both_true (d == e) (same_linear a b) h in
    ap (λ n. Div n a) (eqb-true d e both.0) ∙ ap (λ l. Div e l) (linear_is a b both.1)
lit_is (NDiv d a) (NDiv e b) h =
    let both = both_true (d == e) (same_linear a b) h in
    ap (λ n. NDiv n a) (eqb-true d e both.0) ∙ ap (λ l. NDiv e l) (linear_is a b both.1)
lit_is _ _ h = absurd (true≢false (sym h))

pub cube_is : (a b : List Lit) → same_cube a b ≡ true → a ≡ b
cube_is = list_is same_lit lit_is

pub lemma_is : (a b : Lemma) → same_lemma a b ≡ true → a ≡ b
lemma_is a b h =
    let both = both_true (a.pred == b.pred) (same_cube a.cube b.cube) h in
    let pred : a.pred ≡ b.pred = eqb-true a.pred b.pred both.0 in
    let cube : a.cube ≡ b.cube = cube_is a.cube b.cube both.1 in
    let whole : a ≡ b = rw (pred, cube) refl in
    whole
