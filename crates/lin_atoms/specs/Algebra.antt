-- Sums, multiples and renamings of linear forms: the module of linear polynomials over the integers, each in its normal form with rising variables and without zeros.
use Rattle.std.specs.Prelude.{ℕ, List, [], ◌∷◌, ◌++◌, ℤ, ◌+ℤ◌, ◌*ℤ◌, neg_ℤ, nat_abs, nat_le, nat_lt, ◌==◌, Bool, map, slice_index_or, if◌then◌else◌}
use Rattle.std.specs.List.{list_all}
use Rattle.lin_atoms.specs.Linear.{Linear}

-- a term before others, unless its coefficient is 0
abbrev pub term_on : ℕ → ℤ → List (ℕ × ℤ) → List (ℕ × ℤ)
term_on v a ts = if nat_abs a == 0 then ts else (v, a) ∷ ts

-- a term among others whose variables rise, added to the variable's own where it has one
abbrev pub with_term : ℕ → ℤ → List (ℕ × ℤ) → List (ℕ × ℤ)
with_term v a [] = term_on v a []
with_term v a (t ∷ ts) = if nat_lt v t.0 then term_on v a (t ∷ ts) else (if v == t.0 then term_on v (a +ℤ t.1) ts else t ∷ with_term v a ts)

-- terms in any order, added up
abbrev pub collected : List (ℕ × ℤ) → List (ℕ × ℤ)
collected [] = []
collected (t ∷ ts) = with_term t.0 t.1 (collected ts)

-- the sum of two forms
abbrev pub added : Linear → Linear → Linear
added a b = record { terms = collected (a.terms ++ b.terms); constant = a.constant +ℤ b.constant }

-- a multiple of each coefficient; a term whose product is 0 is left out, and the order of variables stays
abbrev pub scaled_terms : ℤ → List (ℕ × ℤ) → List (ℕ × ℤ)
scaled_terms k [] = []
scaled_terms k (t ∷ ts) = term_on t.0 (k *ℤ t.1) (scaled_terms k ts)

-- a multiple of a form
abbrev pub scaled : ℤ → Linear → Linear
scaled k lin = record { terms = scaled_terms k lin.terms; constant = k *ℤ lin.constant }

-- each coefficient with the other sign, and the variables as they stand
abbrev pub negated_terms : List (ℕ × ℤ) → List (ℕ × ℤ)
negated_terms [] = []
negated_terms (t ∷ ts) = (t.0, neg_ℤ t.1) ∷ negated_terms ts

-- minus the form, whose value at each point has the other sign
abbrev pub negated : Linear → Linear
negated lin = record { terms = negated_terms lin.terms; constant = neg_ℤ lin.constant }

-- a form and a number
abbrev pub plus : Linear → ℤ → Linear
plus lin k = record { terms = lin.terms; constant = lin.constant +ℤ k }

-- the form with other variables, where two may become one
abbrev pub renamed : (ℕ → ℕ) → Linear → Linear
renamed f lin = record { terms = collected (map (λ t. (f t.0, t.1)) lin.terms); constant = lin.constant }

-- y for x
abbrev pub put_for : ℕ → ℕ → ℕ → ℕ
put_for y x v = if v == x then y else v

-- by a list of names: that of a variable stands at its number, and a variable past the end keeps its own
abbrev pub name_in : List ℕ → ℕ → ℕ
name_in names v = slice_index_or names v v

-- a bound on the coefficients
abbrev pub are_within : ℕ → List (ℕ × ℤ) → Bool
are_within k ts = list_all (λ t. nat_le (nat_abs t.1) k) ts
