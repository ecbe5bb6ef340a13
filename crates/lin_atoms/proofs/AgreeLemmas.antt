-- A formula has one truth at two points that agree on its variables.
use Rattle.std.proofs.Common.{◌≡◌, ℕ, List, [], ◌∷◌, map, Bool, true, refl, ap, sym, ◌∙◌, ◌&&◌, ◌||◌, subst, nat_abs}
use Rattle.std.specs.Prelude.{ℤ, pos, int_le, not, ◌==◌}
use Rattle.std.specs.List.{list_all, list_any}
use Rattle.lin_atoms.specs.Multiples.{is_multiple}
use Rattle.lin_atoms.specs.Linear.{variable_at}
use Rattle.lin_atoms.specs.Truth.{truth, truth_step, all_variables, variables_step, lit_truth, lit_all}
use Rattle.lin_atoms.specs.declared.lit.Lit.{Lit}
use Rattle.lin_atoms.specs.declared.lit.Lit.TheVariants.{Le, Eq, Div, NDiv}
use Rattle.lin_atoms.specs.declared.form.Form.{Form, map-Form}
use Rattle.lin_atoms.specs.declared.form.Form.TheOpen.{Form-F}
use Rattle.lin_atoms.specs.declared.form.Form.TheViews.{roll-Form}
use Rattle.lin_atoms.specs.declared.form.Form.TheFolds.{fold-roll-Form, ind-Form}
use Rattle.lin_atoms.proofs.LinearLemmas.{both_true}
use Rattle.lin_atoms.proofs.ValueLemmas.{value_at-agree}

pub lit-agree : (test : ℕ → Bool) (p q : List ℤ) (lit : Lit) → ((v : ℕ) → test v ≡ true → variable_at p v ≡ variable_at q v) → lit_all test lit ≡ true → lit_truth p lit ≡ lit_truth q lit
lit-agree test p q (Le lin) same h = ap (λ z. int_le z (pos 0)) (value_at-agree test p q lin same h)
lit-agree test p q (Eq lin) same h = ap (λ z. nat_abs z == 0) (value_at-agree test p q lin same h)
lit-agree test p q (Div d lin) same h = ap (is_multiple (pos d)) (value_at-agree test p q lin same h)
lit-agree test p q (NDiv d lin) same h = ap (λ z. not (is_multiple (pos d) z)) (value_at-agree test p q lin same h)

abbrev Agrees : (ℕ → Bool) → List ℤ → List ℤ → Form → Type 0
Agrees test p q form = all_variables test form ≡ true → truth p form ≡ truth q form

all_agree : (test : ℕ → Bool) (p q : List ℤ) (ys : List ((form : Form) × Agrees test p q form)) → list_all (λ b. b) (map (all_variables test) (map (λ y. y.0) ys)) ≡ true
    → list_all (λ b. b) (map (truth p) (map (λ y. y.0) ys)) ≡ list_all (λ b. b) (map (truth q) (map (λ y. y.0) ys))
all_agree test p q [] h = refl
all_agree test p q (y ∷ ys) h =
    let parts = both_true (all_variables test y.0) _ h in
    ap (λ b. b && list_all (λ b. b) (map (truth p) (map (λ y. y.0) ys))) (y.1 parts.0) ∙ ap (λ b. truth q y.0 && b) (all_agree test p q ys parts.1)

any_agree : (test : ℕ → Bool) (p q : List ℤ) (ys : List ((form : Form) × Agrees test p q form)) → list_all (λ b. b) (map (all_variables test) (map (λ y. y.0) ys)) ≡ true
    → list_any (λ b. b) (map (truth p) (map (λ y. y.0) ys)) ≡ list_any (λ b. b) (map (truth q) (map (λ y. y.0) ys))
any_agree test p q [] h = refl
any_agree test p q (y ∷ ys) h =
    let parts = both_true (all_variables test y.0) _ h in
    ap (λ b. b || list_any (λ b. b) (map (truth p) (map (λ y. y.0) ys))) (y.1 parts.0) ∙ ap (λ b. truth q y.0 || b) (any_agree test p q ys parts.1)

node-agree : (test : ℕ → Bool) (p q : List ℤ) → ((v : ℕ) → test v ≡ true → variable_at p v ≡ variable_at q v) → (y : Form-F ((form : Form) × Agrees test p q form))
    → variables_step test (map-Form Form Bool (all_variables test) (map-Form ((form : Form) × Agrees test p q form) Form (λ e. e.0) y)) ≡ true
    → truth_step p (map-Form Form Bool (truth p) (map-Form ((form : Form) × Agrees test p q form) Form (λ e. e.0) y)) ≡ truth_step q (map-Form Form Bool (truth q) (map-Form ((form : Form) × Agrees test p q form) Form (λ e. e.0) y))
node-agree test p q same Form-F.True h = refl
node-agree test p q same Form-F.False h = refl
node-agree test p q same (Form-F.Lit lit) h = lit-agree test p q lit same h
node-agree test p q same (Form-F.And ys) h = all_agree test p q ys h
node-agree test p q same (Form-F.Or ys) h = any_agree test p q ys h

from-node : (test : ℕ → Bool) (p q : List ℤ) (x : Form-F Form)
    → (variables_step test (map-Form Form Bool (all_variables test) x) ≡ true → truth_step p (map-Form Form Bool (truth p) x) ≡ truth_step q (map-Form Form Bool (truth q) x))
    → Agrees test p q (roll-Form x)
from-node test p q x f h = fold-roll-Form Bool (truth_step p) x ∙ f (sym (fold-roll-Form Bool (variables_step test) x) ∙ h) ∙ sym (fold-roll-Form Bool (truth_step q) x)

pub form-agree : (test : ℕ → Bool) (p q : List ℤ) (form : Form) → ((v : ℕ) → test v ≡ true → variable_at p v ≡ variable_at q v) → all_variables test form ≡ true → truth p form ≡ truth q form
form-agree test p q form same = ind-Form (Agrees test p q) (λ x y is. subst (λ z. Agrees test p q (roll-Form z)) is (from-node test p q _ (node-agree test p q same y))) form
