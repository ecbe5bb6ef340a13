-- What is below a number ends there.
use Rattle.std.proofs.Common.{◌≡◌, ℕ, ◌≤◌, List, [], ◌∷◌, map, sym, ◌∙◌, subst, arith, true, Bool}
use Rattle.std.specs.Prelude.{ℤ, nat_lt}
use Rattle.std.specs.List.{list_all}
use Rattle.std.proofs.lemmas.Bool.{ltb-true}
use Rattle.lin_atoms.specs.Denial.{linear_of}
use Rattle.lin_atoms.specs.Truth.{below_step, is_below, lit_is_below}
use Rattle.lin_atoms.specs.declared.lit.Lit.{Lit}
use Rattle.lin_atoms.specs.declared.lit.Lit.TheVariants.{Le, Eq, Div, NDiv}
use Rattle.lin_atoms.specs.declared.form.Form.{Form, map-Form}
use Rattle.lin_atoms.specs.declared.form.Form.TheOpen.{Form-F}
use Rattle.lin_atoms.specs.declared.form.Form.TheViews.{roll-Form}
use Rattle.lin_atoms.specs.declared.form.Form.TheFolds.{fold-roll-Form, ind-Form}
use Rattle.lin_atoms.proofs.Public.{both_true}
use Rattle.refutation_trees.specs.Combination.{lits_end, terms_end}
use Rattle.refutation_trees.specs.Refutation.{end_step, form_end, greatest_of}

-- the variables of literals below a number end there
terms-end : (n : ℕ) (ts : List (ℕ × ℤ)) → list_all (λ (t : ℕ × ℤ). nat_lt t.0 n) ts ≡ true → terms_end ts ≤ n
terms-end n [] h = omega arith
terms-end n (t ∷ ts) h =
    let both = both_true (nat_lt t.0 n) _ h in
    let less = ltb-true _ _ both.0 in
    let rest = terms-end n ts both.1 in
    omega (arith, less, rest)

lit-end : (n : ℕ) (lit : Lit) → lit_is_below n lit ≡ true → terms_end (linear_of lit).terms ≤ n
lit-end n (Le lin) h = terms-end n lin.terms h
lit-end n (Eq lin) h = terms-end n lin.terms h
lit-end n (Div d lin) h = terms-end n lin.terms h
lit-end n (NDiv d lin) h = terms-end n lin.terms h

pub lits-end : (n : ℕ) (lits : List Lit) → list_all (lit_is_below n) lits ≡ true → lits_end lits ≤ n
lits-end n [] h = omega arith
lits-end n (l ∷ lits) h =
    let both = both_true (lit_is_below n l) _ h in
    let here = lit-end n l both.0 in
    let rest = lits-end n lits both.1 in
    omega (arith, here, rest)

-- and so does a form
abbrev EndsBelow : ℕ → Form → Type 0
EndsBelow n form = is_below n form ≡ true → form_end form ≤ n

parts-end : (n : ℕ) (ys : List ((form : Form) × EndsBelow n form)) → list_all (λ b. b) (map (is_below n) (map (λ y. y.0) ys)) ≡ true → greatest_of (map form_end (map (λ y. y.0) ys)) ≤ n
parts-end n [] h = omega arith
parts-end n (y ∷ ys) h =
    let both = both_true (is_below n y.0) _ h in
    let here = y.1 both.0 in
    let rest = parts-end n ys both.1 in
    omega (arith, here, rest)

node-end : (n : ℕ) (y : Form-F ((form : Form) × EndsBelow n form)) → below_step n (map-Form Form Bool (is_below n) (map-Form ((form : Form) × EndsBelow n form) Form (λ e. e.0) y)) ≡ true
    → end_step (map-Form Form ℕ form_end (map-Form ((form : Form) × EndsBelow n form) Form (λ e. e.0) y)) ≤ n
node-end n Form-F.True h = omega arith
node-end n Form-F.False h = omega arith
node-end n (Form-F.Lit lit) h = lit-end n lit h
node-end n (Form-F.And ys) h = parts-end n ys h
node-end n (Form-F.Or ys) h = parts-end n ys h

from-node : (n : ℕ) (x : Form-F Form) → (below_step n (map-Form Form Bool (is_below n) x) ≡ true → end_step (map-Form Form ℕ form_end x) ≤ n) → EndsBelow n (roll-Form x)
from-node n x f h = subst (λ (m : ℕ). m ≤ n) (sym (fold-roll-Form ℕ end_step x)) (f (sym (fold-roll-Form Bool (below_step n) x) ∙ h))

pub form-ends : (n : ℕ) (form : Form) → EndsBelow n form
form-ends n = ind-Form (EndsBelow n) (λ x y is. subst (λ z. EndsBelow n (roll-Form z)) is (from-node n _ (node-end n y)))
