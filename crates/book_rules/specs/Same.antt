-- Equality of literals, cubes, tuples and formulas, as tests.
use Rattle.std.specs.Prelude.{ℕ, ℤ, List, [], ◌∷◌, Bool, true, false, ◌&&◌, ◌==◌}
use Rattle.std.specs.Ordering.{int_eq}
use Rattle.lin_atoms.specs.Linear.{Linear}
use Rattle.lin_atoms.specs.declared.lit.Lit.{Lit}
use Rattle.lin_atoms.specs.declared.lit.Lit.TheVariants.{Le, Eq, Div, NDiv}
use Rattle.lin_atoms.specs.declared.form.Form.{Form, And', Or', Row_of-Form, end_of-Form, more_of-Form}
use Rattle.lin_atoms.specs.declared.form.Form.TheVariants.{True, False, Lit as Literal}

-- whether two lists are equally long and have items that are the same by the test, place by place
abbrev pub same_list : {A : Type 0} → (A → A → Bool) → List A → List A → Bool
same_list same [] [] = true
same_list same [] (y ∷ ys) = false
same_list same (x ∷ xs) [] = false
same_list same (x ∷ xs) (y ∷ ys) = same x y && same_list same xs ys

abbrev pub same_tuple : List ℤ → List ℤ → Bool
same_tuple = same_list int_eq

-- whether two terms have the same variable with the same coefficient
abbrev pub same_term : ℕ × ℤ → ℕ × ℤ → Bool
same_term s t = (s.0 == t.0) && int_eq s.1 t.1

-- whether two linear forms have the same terms in the same order, and the same constant
abbrev pub same_linear : Linear → Linear → Bool
same_linear a b = same_list same_term a.terms b.terms && int_eq a.constant b.constant

-- whether two literals claim the same of the same form; for divisibilities, by the same divisor
abbrev pub same_lit : Lit → Lit → Bool
same_lit (Le a) (Le b) = same_linear a b
same_lit (Eq a) (Eq b) = same_linear a b
same_lit (Div d a) (Div e b) = (d == e) && same_linear a b
same_lit (NDiv d a) (NDiv e b) = (d == e) && same_linear a b
same_lit _ _ = false

-- whether two cubes have the same literals in the same order; in another order they aren't the same
abbrev pub same_cube : List Lit → List Lit → Bool
same_cube = same_list same_lit

-- formulas are trees: the same kind of node with the same parts, in order
abbrev mutual
  pub same_form : Form → Form → Bool
  same_form True True = true
  same_form False False = true
  same_form (Literal a) (Literal b) = same_lit a b
  same_form (And' shape parts) (And' other others) = same_row parts others
  same_form (Or' shape parts) (Or' other others) = same_row parts others
  same_form _ _ = false

  pub same_row : {m n : _} → Row_of-Form m → Row_of-Form n → Bool
  same_row end_of-Form end_of-Form = true
  same_row end_of-Form (more_of-Form other others) = false
  same_row (more_of-Form part parts) end_of-Form = false
  same_row (more_of-Form part parts) (more_of-Form other others) = same_form part other && same_row parts others
