-- What a form that holds gives: its literals and its open disjunctions hold.
use Rattle.std.proofs.Common.{◌≡◌, ◌≤◌, ◌<◌, ℕ, List, [], ◌∷◌, map, Bool, true, ◌&&◌, refl, ap, sym, ◌∙◌, subst, arith}
use Rattle.std.specs.Prelude.{ℤ, nat_lt}
use Rattle.std.specs.List.{list_all, list_any, flat_map}
use Rattle.std.proofs.Math.Bool.{and-true}
use Rattle.std.proofs.lemmas.List.Folds.{list_all-append}
use denote.Hole.Carrier.{roll}
use Rattle.lin_atoms.specs.Denial.{linear_of}
use Rattle.lin_atoms.specs.Truth.{below_step, is_below, lit_is_below, lit_truth, truth, truth_step}
use Rattle.lin_atoms.specs.declared.lit.Lit.{Lit}
use Rattle.lin_atoms.specs.declared.lit.Lit.TheVariants.{Le, Eq, Div, NDiv}
use Rattle.lin_atoms.specs.declared.form.Form.{Form, map-Form}
use Rattle.lin_atoms.specs.declared.form.Form.TheOpen.{Form-F}
use Rattle.lin_atoms.specs.declared.form.Form.TheViews.{And, Or, roll-Form}
use Rattle.lin_atoms.specs.declared.form.Form.TheVariants.{rolls-And, rolls-Or}
use Rattle.lin_atoms.specs.declared.form.Form.TheFolds.{fold-roll-Form, ind-Form}
use Rattle.lin_atoms.proofs.Public.{both_true, is_below-And, is_below-Or, truth-And, truth-Or}
use Rattle.refutation_trees.specs.Combination.{terms_end}
use Rattle.refutation_trees.specs.Flatten.{literals, literals_step, disjunctions}
use Rattle.refutation_trees.specs.Refutation.{end_step, form_end, greatest_of}
use Rattle.refutation_trees.proofs.FlattenLemmas.{disjunctions-And, disjunctions-Or}

-- truth, and that variables lie below a number
pub record Passes (q : Form → Bool) (r : List Form → Bool) : Type 0 where
  pub and : (parts : List Form) → q (And parts) ≡ true → list_all q parts ≡ true
  pub or : (parts : List Form) → q (Or parts) ≡ true → r parts ≡ true

abbrev Opens : (Form → Bool) → (List Form → Bool) → Form → Type 0
Opens q r form = q form ≡ true → list_all r (disjunctions form) ≡ true

parts_open : (q : Form → Bool) (r : List Form → Bool) (ys : List ((form : Form) × Opens q r form)) → list_all q (map (λ y. y.0) ys) ≡ true
    → list_all r (flat_map disjunctions (map (λ y. y.0) ys)) ≡ true
parts_open q r [] h = refl
parts_open q r (y ∷ ys) h =
    let both = both_true (q y.0) _ h in
    list_all-append r (disjunctions y.0) _ ∙ ap (λ b. b && list_all r (flat_map disjunctions (map (λ y. y.0) ys))) (y.1 both.0) ∙ parts_open q r ys both.1

node_open : (q : Form → Bool) (r : List Form → Bool) → Passes q r → (y : Form-F ((form : Form) × Opens q r form)) → Opens q r (roll-Form (map-Form ((form : Form) × Opens q r form) Form (λ e. e.0) y))
unfolding roll-Form roll
node_open q r p Form-F.True h = refl
node_open q r p Form-F.False h = refl
node_open q r p (Form-F.Lit lit) h = refl
node_open q r p (Form-F.And ys) h =
    let parts = map (λ (y : (form : Form) × Opens q r form). y.0) ys in
    let known : q (And parts) ≡ true = ap q (sym (rolls-And parts)) ∙ h in
    ap (λ form. list_all r (disjunctions form)) (rolls-And parts) ∙ ap (list_all r) (disjunctions-And parts) ∙ parts_open q r ys (p.and parts known)
node_open q r p (Form-F.Or ys) h =
    let parts = map (λ (y : (form : Form) × Opens q r form). y.0) ys in
    let known : q (Or parts) ≡ true = ap q (sym (rolls-Or parts)) ∙ h in
    ap (λ form. list_all r (disjunctions form)) (rolls-Or parts) ∙ ap (list_all r) (disjunctions-Or parts) ∙ ap (λ b. b && true) (p.or parts known)

opens : (q : Form → Bool) (r : List Form → Bool) → Passes q r → (form : Form) → Opens q r form
opens q r p = ind-Form (Opens q r) (λ x y is. subst (λ z. Opens q r (roll-Form z)) is (node_open q r p y))

truth_passes : (point : List ℤ) → Passes (truth point) (list_any (truth point))
truth_passes point = record { and = λ parts h. sym (truth-And point parts) ∙ h; or = λ parts h. sym (truth-Or point parts) ∙ h }

below_passes : (n : ℕ) → Passes (is_below n) (list_all (is_below n))
below_passes n = record { and = λ parts h. sym (is_below-And n parts) ∙ h; or = λ parts h. sym (is_below-Or n parts) ∙ h }

pub disjunctions_true : (point : List ℤ) (form : Form) → truth point form ≡ true → list_all (list_any (truth point)) (disjunctions form) ≡ true
disjunctions_true point = opens (truth point) (list_any (truth point)) (truth_passes point)

pub disjunctions_below : (n : ℕ) (form : Form) → is_below n form ≡ true → list_all (list_all (is_below n)) (disjunctions form) ≡ true
disjunctions_below n = opens (is_below n) (list_all (is_below n)) (below_passes n)

-- the literals of a true form are true
abbrev AreTrue : List ℤ → Form → Type 0
AreTrue point form = truth point form ≡ true → list_all (lit_truth point) (literals form) ≡ true

all_true : (point : List ℤ) (ys : List ((form : Form) × AreTrue point form)) → list_all (λ b. b) (map (truth point) (map (λ y. y.0) ys)) ≡ true
    → list_all (lit_truth point) (flat_map (λ lits. lits) (map literals (map (λ y. y.0) ys))) ≡ true
all_true point [] h = refl
all_true point (y ∷ ys) h =
    let both = both_true (truth point y.0) _ h in
    list_all-append (lit_truth point) (literals y.0) _ ∙ ap (λ b. b && list_all (lit_truth point) (flat_map (λ lits. lits) (map literals (map (λ y. y.0) ys)))) (y.1 both.0) ∙ all_true point ys both.1

node_true : (point : List ℤ) (y : Form-F ((form : Form) × AreTrue point form))
    → truth_step point (map-Form Form Bool (truth point) (map-Form ((form : Form) × AreTrue point form) Form (λ e. e.0) y)) ≡ true
    → list_all (lit_truth point) (literals_step (map-Form Form (List Lit) literals (map-Form ((form : Form) × AreTrue point form) Form (λ e. e.0) y))) ≡ true
node_true point Form-F.True h = refl
node_true point Form-F.False h = absurd (cc)
node_true point (Form-F.Lit lit) h = and-true (lit_truth point lit) ∙ h
node_true point (Form-F.And ys) h = all_true point ys h
node_true point (Form-F.Or ys) h = refl

from_node : (point : List ℤ) (x : Form-F Form)
    → (truth_step point (map-Form Form Bool (truth point) x) ≡ true → list_all (lit_truth point) (literals_step (map-Form Form (List Lit) literals x)) ≡ true)
    → AreTrue point (roll-Form x)
from_node point x f h = ap (list_all (lit_truth point)) (fold-roll-Form (List Lit) literals_step x) ∙ f (sym (fold-roll-Form Bool (truth_step point) x) ∙ h)

pub literals_true : (point : List ℤ) (form : Form) → AreTrue point form
literals_true point = ind-Form (AreTrue point) (λ x y is. subst (λ z. AreTrue point (roll-Form z)) is (from_node point _ (node_true point y)))

-- every variable is below the end
pub terms_below : (n : ℕ) (ts : List (ℕ × ℤ)) → terms_end ts ≤ n → list_all (λ t. nat_lt t.0 n) ts ≡ true
terms_below n [] h = refl
terms_below n (t ∷ ts) h =
    let rest = terms_below n ts (omega arith) in
    let here : t.0 < n = omega arith in
    grind arith

pub lit_below : (n : ℕ) (lit : Lit) → terms_end (linear_of lit).terms ≤ n → lit_is_below n lit ≡ true
lit_below n (Le lin) h = terms_below n lin.terms h
lit_below n (Eq lin) h = terms_below n lin.terms h
lit_below n (Div d lin) h = terms_below n lin.terms h
lit_below n (NDiv d lin) h = terms_below n lin.terms h

abbrev Below : ℕ → Form → Type 0
Below n form = form_end form ≤ n → is_below n form ≡ true

all_below : (n : ℕ) (ys : List ((form : Form) × Below n form)) → greatest_of (map form_end (map (λ y. y.0) ys)) ≤ n
    → list_all (λ b. b) (map (is_below n) (map (λ y. y.0) ys)) ≡ true
all_below n [] h = refl
all_below n (y ∷ ys) h =
    let here = y.1 (omega arith) in
    let rest = all_below n ys (omega arith) in
    ap (λ b. b && list_all (λ b. b) (map (is_below n) (map (λ y. y.0) ys))) here ∙ rest

node_below : (n : ℕ) (y : Form-F ((form : Form) × Below n form))
    → end_step (map-Form Form ℕ form_end (map-Form ((form : Form) × Below n form) Form (λ e. e.0) y)) ≤ n
    → below_step n (map-Form Form Bool (is_below n) (map-Form ((form : Form) × Below n form) Form (λ e. e.0) y)) ≡ true
node_below n Form-F.True h = refl
node_below n Form-F.False h = refl
node_below n (Form-F.Lit lit) h = lit_below n lit h
node_below n (Form-F.And ys) h = all_below n ys h
node_below n (Form-F.Or ys) h = all_below n ys h

from_below : (n : ℕ) (x : Form-F Form)
    → (end_step (map-Form Form ℕ form_end x) ≤ n → below_step n (map-Form Form Bool (is_below n) x) ≡ true)
    → Below n (roll-Form x)
from_below n x f h = fold-roll-Form Bool (below_step n) x ∙ f (subst (λ m. m ≤ n) (fold-roll-Form ℕ end_step x) h)

pub form_below : (n : ℕ) (form : Form) → Below n form
form_below n = ind-Form (Below n) (λ x y is. subst (λ z. Below n (roll-Form z)) is (from_below n _ (node_below n y)))
