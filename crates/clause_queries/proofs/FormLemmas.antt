-- Which variables and multiples stand in literals at arguments, in lemmas there, and in conjunctions.
use Rattle.std.proofs.Common.{◌≡◌, ℕ, ◌<◌, zero, suc, List, [], ◌∷◌, map, length, Bool, true, false, ◌&&◌, cond, refl, ap, sym, ◌∙◌, subst, arith}
use Rattle.std.specs.Prelude.{ℤ, ◌+ℤ◌, nat_abs, nat_lt, ◌==◌, slice_index_or}
use Rattle.std.specs.List.{flat_map, list_all}
use Rattle.std.proofs.lemmas.Bool.Decides.{nat_tests}
use Rattle.std.proofs.lemmas.List.Folds.{list_all-append}
use denote.Hole.Carrier.{roll}
use Rattle.lin_atoms.specs.Algebra.{collected, name_in, negated_terms, renamed, term_on, with_term}
use Rattle.lin_atoms.specs.Denial.{denial}
use Rattle.lin_atoms.specs.Linear.{Linear, lin_all}
use Rattle.lin_atoms.specs.Truth.{below_step, is_below, lit_all, lit_is_below}
use Rattle.lin_atoms.specs.declared.lit.Lit.{Lit}
use Rattle.lin_atoms.specs.declared.lit.Lit.TheVariants.{Le, Eq, Div, NDiv}
use Rattle.lin_atoms.specs.declared.form.Form.{Form, map-Form}
use Rattle.lin_atoms.specs.declared.form.Form.TheOpen.{Form-F}
use Rattle.lin_atoms.specs.declared.form.Form.TheVariants.{False, Lit as Literal}
use Rattle.lin_atoms.specs.declared.form.Form.TheViews.{roll-Form}
use Rattle.lin_atoms.specs.declared.form.Form.TheFolds.{fold-roll-Form, ind-Form}
use Rattle.lin_atoms.proofs.Public.{is_below-Or}
use Rattle.clause_form.specs.System.{has_short_guard, guard_step}
use Rattle.clause_form.specs.System.{has_short_in_guard}
use Rattle.cube_forms.specs.Cubes.{cube_at, cube_is_below, cube_is_short, denials, lemma_at, lit_at, lit_is_short, or_of}
use Rattle.lia_node.specs.Known.{has_short_constant}
use Rattle.lia_search.specs.Decides.{has_short_multiples, short_step}
use Rattle.lia_search.proofs.Public.{short-Or}
use Rattle.book_rules.proofs.ListLemmas.{both_true, from_both}

-- variables

abbrev pub terms_pass : (ℕ → Bool) → List (ℕ × ℤ) → Bool
terms_pass test ts = list_all (λ (t : ℕ × ℤ). test t.0) ts

on-pass : (test : ℕ → Bool) (b : Bool) (v : ℕ) (a : ℤ) (ts : List (ℕ × ℤ)) → test v ≡ true → terms_pass test ts ≡ true → terms_pass test (cond {A = List (ℕ × ℤ)} b ts ((v, a) ∷ ts)) ≡ true
on-pass test true v a ts is h = h
on-pass test false v a ts is h = from_both (test v) _ is h

chosen-pass : (test : ℕ → Bool) (b c : Bool) (xs ys zs : List (ℕ × ℤ)) → terms_pass test xs ≡ true → terms_pass test ys ≡ true → terms_pass test zs ≡ true
    → terms_pass test (cond {A = List (ℕ × ℤ)} b xs (cond {A = List (ℕ × ℤ)} c ys zs)) ≡ true
chosen-pass test true c xs ys zs x y z = x
chosen-pass test false true xs ys zs x y z = y
chosen-pass test false false xs ys zs x y z = z

with-pass : (test : ℕ → Bool) (v : ℕ) (a : ℤ) (ts : List (ℕ × ℤ)) → test v ≡ true → terms_pass test ts ≡ true → terms_pass test (with_term v a ts) ≡ true
with-pass test v a [] is h = on-pass test (nat_abs a == 0) v a [] is refl
with-pass test v a (t ∷ ts) is h =
    let both = both_true (test t.0) (terms_pass test ts) h in
    chosen-pass test (nat_lt v t.0) (v == t.0) (term_on v a (t ∷ ts)) (term_on v (a +ℤ t.1) ts) (t ∷ with_term v a ts)
    (on-pass test (nat_abs a == 0) v a (t ∷ ts) is h)
    (on-pass test (nat_abs (a +ℤ t.1) == 0) v (a +ℤ t.1) ts is both.1)
    (from_both (test t.0) _ both.0 (with-pass test v a ts is both.1))

pub collected-pass : (test : ℕ → Bool) (ts : List (ℕ × ℤ)) → terms_pass test ts ≡ true → terms_pass test (collected ts) ≡ true
collected-pass test [] h = refl
collected-pass test (t ∷ ts) h = let both = both_true (test t.0) (terms_pass test ts) h in with-pass test t.0 t.1 (collected ts) both.0 (collected-pass test ts both.1)

pub named-pass : (test other : ℕ → Bool) (f : ℕ → ℕ) → ((v : ℕ) → other v ≡ true → test (f v) ≡ true) → (ts : List (ℕ × ℤ)) → terms_pass other ts ≡ true → terms_pass test (map (λ (t : ℕ × ℤ). (f t.0, t.1)) ts) ≡ true
named-pass test other f each [] h = refl
named-pass test other f each (t ∷ ts) h = let both = both_true (other t.0) (terms_pass other ts) h in from_both (test (f t.0)) _ (each t.0 both.0) (named-pass test other f each ts both.1)

-- the argument at a place that is there
arg-pass : (test : ℕ → Bool) (args : List ℕ) (v d : ℕ) → list_all test args ≡ true → v < length args → test (slice_index_or args v d) ≡ true
arg-pass test [] v d h below = absurd (omega arith)
arg-pass test (a ∷ args) zero d h below = (both_true (test a) _ h).0
arg-pass test (a ∷ args) (suc v) d h below = arg-pass test args v d (both_true (test a) _ h).1 (omega (arith, below))

lin-at : (test : ℕ → Bool) (args : List ℕ) (lin : Linear) → list_all test args ≡ true → lin_all (λ v. nat_lt v (length args)) lin ≡ true → lin_all test (renamed (name_in args) lin) ≡ true
lin-at test args lin h below =
    collected-pass test (map (λ (t : ℕ × ℤ). (name_in args t.0, t.1)) lin.terms)
    (named-pass test (λ v. nat_lt v (length args)) (name_in args) (λ v is. let less : v < length args = grind (arith, nat_tests, is) in arg-pass test args v v h less) lin.terms below)

lit-at : (test : ℕ → Bool) (args : List ℕ) (lit : Lit) → list_all test args ≡ true → lit_is_below (length args) lit ≡ true → lit_all test (lit_at args lit) ≡ true
lit-at test args (Le lin) h below = lin-at test args lin h below
lit-at test args (Eq lin) h below = lin-at test args lin h below
lit-at test args (Div d lin) h below = lin-at test args lin h below
lit-at test args (NDiv d lin) h below = lin-at test args lin h below

pub cube-at : (test : ℕ → Bool) (args : List ℕ) (cube : List Lit) → list_all test args ≡ true → cube_is_below (length args) cube ≡ true → list_all (lit_all test) (cube_at args cube) ≡ true
cube-at test args [] h below = refl
cube-at test args (lit ∷ lits) h below = let both = both_true (lit_is_below (length args) lit) _ below in from_both (lit_all test (lit_at args lit)) _ (lit-at test args lit h both.0) (cube-at test args lits h both.1)

negated-pass : (test : ℕ → Bool) (ts : List (ℕ × ℤ)) → terms_pass test ts ≡ true → terms_pass test (negated_terms ts) ≡ true
negated-pass test [] h = refl
negated-pass test (t ∷ ts) h = let both = both_true (test t.0) (terms_pass test ts) h in from_both (test t.0) _ both.0 (negated-pass test ts both.1)

denial-pass : (test : ℕ → Bool) (lit : Lit) → lit_all test lit ≡ true → list_all (lit_all test) (denial lit) ≡ true
denial-pass test (Le lin) h = from_both _ _ (negated-pass test lin.terms h) refl
denial-pass test (Eq lin) h = from_both _ _ h (from_both _ _ (negated-pass test lin.terms h) refl)
denial-pass test (Div d lin) h = from_both _ _ h refl
denial-pass test (NDiv d lin) h = from_both _ _ h refl

denials-pass : (test : ℕ → Bool) (lits : List Lit) → list_all (lit_all test) lits ≡ true → list_all (lit_all test) (flat_map denial lits) ≡ true
denials-pass test [] h = refl
denials-pass test (lit ∷ lits) h =
    let both = both_true (lit_all test lit) _ h in
    list_all-append (lit_all test) (denial lit) (flat_map denial lits) ∙ from_both _ _ (denial-pass test lit both.0) (denials-pass test lits both.1)

-- forms of one literal, and disjunctions of literals

pub below-Literal : (n : ℕ) (lit : Lit) → is_below n (Literal lit) ≡ lit_is_below n lit
unfolding roll-Form roll
below-Literal n lit = fold-roll-Form Bool (below_step n) (Form-F.Lit lit)

below-False : (n : ℕ) → is_below n False ≡ true
unfolding roll-Form roll
below-False n = fold-roll-Form Bool (below_step n) Form-F.False

pub below-literals : (n : ℕ) (lits : List Lit) → list_all (lit_is_below n) lits ≡ true → list_all (is_below n) (map Literal lits) ≡ true
below-literals n [] h = refl
below-literals n (lit ∷ lits) h = let both = both_true (lit_is_below n lit) _ h in from_both (is_below n (Literal lit)) _ (below-Literal n lit ∙ both.0) (below-literals n lits both.1)

below-or_of : (n : ℕ) (parts : List Form) → list_all (is_below n) parts ≡ true → is_below n (or_of parts) ≡ true
below-or_of n [] h = below-False n
below-or_of n (part ∷ []) h = (both_true (is_below n part) _ h).0
below-or_of n (part ∷ next ∷ parts) h = is_below-Or n (part ∷ next ∷ parts) ∙ h

pub below-lemma : (n : ℕ) (args : List ℕ) (cube : List Lit) → list_all (λ v. nat_lt v n) args ≡ true → cube_is_below (length args) cube ≡ true → is_below n (lemma_at args cube) ≡ true
below-lemma n args cube h below =
    below-or_of n (map Literal (denials args cube)) (below-literals n (denials args cube) (denials-pass (λ v. nat_lt v n) (cube_at args cube) (cube-at (λ v. nat_lt v n) args cube h below)))

-- multiples: the constants of divisibilities

pub short-Literal : (lit : Lit) → has_short_multiples (Literal lit) ≡ has_short_constant lit
unfolding roll-Form roll
short-Literal lit = fold-roll-Form Bool short_step (Form-F.Lit lit)

short-False : has_short_multiples False ≡ true
unfolding roll-Form roll
short-False = fold-roll-Form Bool short_step Form-F.False

short-lit : (args : List ℕ) (lit : Lit) → lit_is_short lit ≡ true → has_short_constant (lit_at args lit) ≡ true
short-lit args (Le lin) h = refl
short-lit args (Eq lin) h = refl
short-lit args (Div d lin) h = (both_true _ _ h).1
short-lit args (NDiv d lin) h = (both_true _ _ h).1

pub short-cube : (args : List ℕ) (cube : List Lit) → cube_is_short cube ≡ true → list_all has_short_constant (cube_at args cube) ≡ true
short-cube args [] h = refl
short-cube args (lit ∷ lits) h = let both = both_true (lit_is_short lit) _ h in from_both _ _ (short-lit args lit both.0) (short-cube args lits both.1)

short-denial : (lit : Lit) → has_short_constant lit ≡ true → list_all has_short_constant (denial lit) ≡ true
short-denial (Le lin) h = refl
short-denial (Eq lin) h = refl
short-denial (Div d lin) h = from_both _ _ h refl
short-denial (NDiv d lin) h = from_both _ _ h refl

short-denials : (lits : List Lit) → list_all has_short_constant lits ≡ true → list_all has_short_constant (flat_map denial lits) ≡ true
short-denials [] h = refl
short-denials (lit ∷ lits) h =
    let both = both_true (has_short_constant lit) _ h in
    list_all-append has_short_constant (denial lit) (flat_map denial lits) ∙ from_both _ _ (short-denial lit both.0) (short-denials lits both.1)

pub short-literals : (lits : List Lit) → list_all has_short_constant lits ≡ true → list_all has_short_multiples (map Literal lits) ≡ true
short-literals [] h = refl
short-literals (lit ∷ lits) h = let both = both_true (has_short_constant lit) _ h in from_both _ _ (short-Literal lit ∙ both.0) (short-literals lits both.1)

short-or_of : (parts : List Form) → list_all has_short_multiples parts ≡ true → has_short_multiples (or_of parts) ≡ true
short-or_of [] h = short-False
short-or_of (part ∷ []) h = (both_true (has_short_multiples part) _ h).0
short-or_of (part ∷ next ∷ parts) h = short-Or (part ∷ next ∷ parts) ∙ h

pub short-lemma : (args : List ℕ) (cube : List Lit) → cube_is_short cube ≡ true → has_short_multiples (lemma_at args cube) ≡ true
short-lemma args cube h = short-or_of (map Literal (denials args cube)) (short-literals (denials args cube) (short-denials (cube_at args cube) (short-cube args cube h)))

-- the guard's own word for it

same-lit : (lit : Lit) → has_short_in_guard lit ≡ has_short_constant lit
same-lit (Le lin) = refl
same-lit (Eq lin) = refl
same-lit (Div d lin) = refl
same-lit (NDiv d lin) = refl

abbrev IsSame : Form → Type 0
IsSame form = has_short_guard form ≡ has_short_multiples form

same-parts : (ys : List ((form : Form) × IsSame form)) → list_all (λ b. b) (map has_short_guard (map (λ y. y.0) ys)) ≡ list_all (λ b. b) (map has_short_multiples (map (λ y. y.0) ys))
same-parts [] = refl
same-parts (y ∷ ys) = ap (λ b. b && list_all (λ c. c) (map has_short_guard (map (λ y. y.0) ys))) y.1 ∙ ap (λ b. has_short_multiples y.0 && b) (same-parts ys)

same-node : (y : Form-F ((form : Form) × IsSame form))
    → guard_step (map-Form Form Bool has_short_guard (map-Form ((form : Form) × IsSame form) Form (λ e. e.0) y)) ≡ short_step (map-Form Form Bool has_short_multiples (map-Form ((form : Form) × IsSame form) Form (λ e. e.0) y))
same-node Form-F.True = refl
same-node Form-F.False = refl
same-node (Form-F.Lit lit) = same-lit lit
same-node (Form-F.And ys) = same-parts ys
same-node (Form-F.Or ys) = same-parts ys

from-node : (x : Form-F Form) → guard_step (map-Form Form Bool has_short_guard x) ≡ short_step (map-Form Form Bool has_short_multiples x) → IsSame (roll-Form x)
from-node x h = fold-roll-Form Bool guard_step x ∙ h ∙ sym (fold-roll-Form Bool short_step x)

pub short-guard : (form : Form) → has_short_guard form ≡ has_short_multiples form
short-guard = ind-Form IsSame (λ x y is. subst (λ z. IsSame (roll-Form z)) is (from-node _ (same-node y)))
