-- Small forms that are given up.
use Rattle.std.specs.Prelude.{ℕ, ◌+◌, ◌^◌, [], ◌∷◌, pos, neg_ℤ}
use Rattle.lin_atoms.specs.declared.lit.Lit.{Lit}
use Rattle.lin_atoms.specs.declared.lit.Lit.TheVariants.{Eq, Div}
use Rattle.lin_atoms.specs.declared.form.Form.{Form}
use Rattle.lin_atoms.specs.declared.form.Form.TheVariants.{Lit as Literal}
use Rattle.lin_atoms.specs.declared.form.Form.TheViews.{And}

abbrev pub both : Lit → Lit → Form
both l m = And (Literal l ∷ Literal m ∷ [])

-- two such numbers have a product of 2 ^ 124 and more
abbrev pub large : ℕ
large = 2 ^ 62 + 1

-- a * x + y = 3, where a is large
abbrev pub large_on_first : Lit
large_on_first = Eq (record { terms = (0, pos large) ∷ (1, pos 1) ∷ []; constant = neg_ℤ (pos 3) })

-- x + a * y = 5
abbrev pub large_on_second : Lit
large_on_second = Eq (record { terms = (0, pos 1) ∷ (1, pos large) ∷ []; constant = neg_ℤ (pos 5) })

-- y = 2 * x
abbrev pub is_double : Lit
is_double = Eq (record { terms = (0, neg_ℤ (pos 2)) ∷ (1, pos 1) ∷ []; constant = pos 0 })

-- y = 1
abbrev pub is_one : Lit
is_one = Eq (record { terms = (1, pos 1) ∷ []; constant = neg_ℤ (pos 1) })

-- x = 2 ^ 62 * y
abbrev pub is_multiple_of_second : Lit
is_multiple_of_second = Eq (record { terms = (0, pos 1) ∷ (1, neg_ℤ (pos (2 ^ 62))) ∷ []; constant = pos 0 })

-- y = 2
abbrev pub is_two : Lit
is_two = Eq (record { terms = (1, pos 1) ∷ []; constant = neg_ℤ (pos 2) })

-- 2 divides x
abbrev pub is_even : Lit
is_even = Div 2 (record { terms = (0, pos 1) ∷ []; constant = pos 0 })

-- x = 1
abbrev pub first_is_one : Lit
first_is_one = Eq (record { terms = (0, pos 1) ∷ []; constant = neg_ℤ (pos 1) })
