-- The tests of equality are equality: of cubes, tuples and formulas.
use Rattle.std.proofs.Common.{◌≡◌, ◌↔◌, ℕ, List, [], ◌∷◌, map, Bool, true, ◌&&◌, refl, ap, sym, ◌∙◌, subst, arith}
use Rattle.std.specs.Prelude.{ℤ, ◌==◌}
use Rattle.std.specs.Ordering.{int_eq}
use Rattle.std.proofs.lemmas.Bool.Decides.{Decides-int_eq, nat_tests}
use mathlib.Core.Bool.{true≢false}
use mathlib.Core.Former.{Count}
use denote.Hole.Carrier.{roll}
use Rattle.lin_atoms.specs.Linear.{Linear}
use Rattle.lin_atoms.specs.declared.lit.Lit.{Lit}
use Rattle.lin_atoms.specs.declared.lit.Lit.TheVariants.{Le, Eq, Div, NDiv}
use Rattle.lin_atoms.specs.declared.form.Form.{Form, And', Or', Row_of-Form, end_of-Form, more_of-Form, items-the_row-Form, items_hidden-the_row-Form-0, map-Form}
use Rattle.lin_atoms.specs.declared.form.Form.TheOpen.{Form-F}
use Rattle.lin_atoms.specs.declared.form.Form.TheVariants.{Lit as Literal, rolls-And, rolls-Or}
use Rattle.lin_atoms.specs.declared.form.Form.TheViews.{And, Or, roll-Form}
use Rattle.lin_atoms.specs.declared.form.Form.TheFolds.{ind-Form}
use Rattle.book_rules.specs.Same.{same_list, same_tuple, same_term, same_linear, same_lit, same_cube, same_form, same_row}
use Rattle.book_rules.proofs.ListLemmas.{both_true, from_both}
use Rattle.book_rules.proofs.SameLemmas.{lit_is, cube_is, tuple_is}

-- each is the same as itself

list_same : {A : Type 0} (same : A → A → Bool) → ((a : A) → same a a ≡ true) → (xs : List A) → same_list same xs xs ≡ true
list_same same is [] = refl
list_same same is (x ∷ xs) = from_both (same x x) _ (is x) (list_same same is xs)

int_same : (a : ℤ) → int_eq a a ≡ true
int_same a = (Decides-int_eq a a).1 refl

nat_same : (n : ℕ) → (n == n) ≡ true
nat_same n = grind (arith, nat_tests)

linear_same : (a : Linear) → same_linear a a ≡ true
linear_same a = from_both (same_list same_term a.terms a.terms) _ (list_same same_term (λ t. from_both (t.0 == t.0) _ (nat_same t.0) (int_same t.1)) a.terms) (int_same a.constant)

lit_same : (lit : Lit) → same_lit lit lit ≡ true
lit_same (Le a) = linear_same a
lit_same (Eq a) = linear_same a
lit_same (Div d a) = from_both (d == d) _ (nat_same d) (linear_same a)
lit_same (NDiv d a) = from_both (d == d) _ (nat_same d) (linear_same a)

pub cubes_equal : (a b : List Lit) → (same_cube a b ≡ true) ↔ (a ≡ b)
cubes_equal a b = (cube_is a b, λ is. subst (λ (c : List Lit). same_cube a c ≡ true) is (list_same same_lit lit_same a))

pub tuples_equal : (a b : List ℤ) → (same_tuple a b ≡ true) ↔ (a ≡ b)
tuples_equal a b = (tuple_is a b, λ is. subst (λ (c : List ℤ). same_tuple a c ≡ true) is (list_same int_eq int_same a))

-- formulas of parts

rows_same : (m : Count) (xs : Row_of-Form m) (n : Count) (ys : Row_of-Form n) → same_row xs ys ≡ same_list same_form (items-the_row-Form m xs) (items-the_row-Form n ys)
rows_same m end_of-Form n end_of-Form = refl
rows_same m end_of-Form n (more_of-Form y ys) = refl
rows_same m (more_of-Form x xs) n end_of-Form = refl
rows_same m (more_of-Form x xs) n (more_of-Form y ys) = ap (λ b. same_form x y && b) (rows_same _ xs _ ys)

abbrev row_of : Form → (n : Count) × Row_of-Form n
row_of (And' shape row) = (_, row)
row_of (Or' shape row) = (_, row)
row_of _ = (_, end_of-Form)

same-And : (xs ys : List Form) → same_form (And xs) (And ys) ≡ same_list same_form xs ys
same-And xs ys =
    let row = row_of (And xs) in
    let other = row_of (And ys) in
    rows_same row.0 row.1 other.0 other.1 ∙ ap (λ (zs : List Form). same_list same_form zs (items-the_row-Form other.0 other.1)) (items_hidden-the_row-Form-0 xs) ∙ ap (same_list same_form xs) (items_hidden-the_row-Form-0 ys)

same-Or : (xs ys : List Form) → same_form (Or xs) (Or ys) ≡ same_list same_form xs ys
same-Or xs ys =
    let row = row_of (Or xs) in
    let other = row_of (Or ys) in
    rows_same row.0 row.1 other.0 other.1 ∙ ap (λ (zs : List Form). same_list same_form zs (items-the_row-Form other.0 other.1)) (items_hidden-the_row-Form-0 xs) ∙ ap (same_list same_form xs) (items_hidden-the_row-Form-0 ys)

-- formulas by their nodes

-- each formula is a node over its parts
abbrev IsNode : Form → Type 0
IsNode b = (x : Form-F Form) × (roll-Form x ≡ b)

node_of : (b : Form) → IsNode b
node_of = ind-Form IsNode (λ x y is. (x, refl))

abbrev IsSelf : Form → Type 0
IsSelf a = (b : Form) → same_form a b ≡ true → a ≡ b

parts_is : (ys : List ((form : Form) × IsSelf form)) (zs : List Form) → same_list same_form (map (λ y. y.0) ys) zs ≡ true → map (λ y. y.0) ys ≡ zs
parts_is [] [] h = refl
parts_is [] (z ∷ zs) h = absurd (true≢false (sym h))
parts_is (y ∷ ys) [] h = absurd (true≢false (sym h))
parts_is (y ∷ ys) (z ∷ zs) h =
    let both = both_true (same_form y.0 z) _ h in
    ap (λ x. x ∷ map (λ y. y.0) ys) (y.1 z both.0) ∙ ap (λ xs. z ∷ xs) (parts_is ys zs both.1)

abbrev forms_of : Form-F ((form : Form) × IsSelf form) → Form-F Form
forms_of y = map-Form ((form : Form) × IsSelf form) Form (λ e. e.0) y

node_is : (y : Form-F ((form : Form) × IsSelf form)) (z : Form-F Form) → same_form (roll-Form (forms_of y)) (roll-Form z) ≡ true → roll-Form (forms_of y) ≡ roll-Form z
unfolding roll-Form roll
node_is Form-F.True Form-F.True h = refl
node_is Form-F.False Form-F.False h = refl
node_is (Form-F.Lit a) (Form-F.Lit b) h = ap Literal (lit_is a b h)
node_is (Form-F.And ys) (Form-F.And zs) h = rolls-And (map (λ y. y.0) ys) ∙ ap And (parts_is ys zs (sym (same-And (map (λ y. y.0) ys) zs) ∙ h)) ∙ sym (rolls-And zs)
node_is (Form-F.Or ys) (Form-F.Or zs) h = rolls-Or (map (λ y. y.0) ys) ∙ ap Or (parts_is ys zs (sym (same-Or (map (λ y. y.0) ys) zs) ∙ h)) ∙ sym (rolls-Or zs)
node_is _ _ h = absurd (true≢false (sym h))

form_is : (a : Form) → IsSelf a
form_is = ind-Form IsSelf (λ x y is. subst (λ z. IsSelf (roll-Form z)) is (from_nodes y)) where
  from_nodes : (y : Form-F ((form : Form) × IsSelf form)) → IsSelf (roll-Form (forms_of y))
  from_nodes y b h =
      let node = node_of b in
      node_is y node.0 (ap (same_form (roll-Form (forms_of y))) node.1 ∙ h) ∙ node.1

abbrev IsSame : Form → Type 0
IsSame a = same_form a a ≡ true

parts_same : (ys : List ((form : Form) × IsSame form)) → same_list same_form (map (λ y. y.0) ys) (map (λ y. y.0) ys) ≡ true
parts_same [] = refl
parts_same (y ∷ ys) = from_both (same_form y.0 y.0) _ y.1 (parts_same ys)

node_same : (y : Form-F ((form : Form) × IsSame form)) → IsSame (roll-Form (map-Form ((form : Form) × IsSame form) Form (λ e. e.0) y))
unfolding roll-Form roll
node_same Form-F.True = refl
node_same Form-F.False = refl
node_same (Form-F.Lit a) = lit_same a
node_same (Form-F.And ys) = subst IsSame (sym (rolls-And (map (λ y. y.0) ys))) (same-And (map (λ y. y.0) ys) (map (λ y. y.0) ys) ∙ parts_same ys)
node_same (Form-F.Or ys) = subst IsSame (sym (rolls-Or (map (λ y. y.0) ys))) (same-Or (map (λ y. y.0) ys) (map (λ y. y.0) ys) ∙ parts_same ys)

form_same : (a : Form) → IsSame a
form_same = ind-Form IsSame (λ x y is. subst (λ z. IsSame (roll-Form z)) is (node_same y))

pub forms_equal : (a b : Form) → (same_form a b ≡ true) ↔ (a ≡ b)
forms_equal a b = (form_is a b, λ is. subst (λ (c : Form). same_form a c ≡ true) is (form_same a))
