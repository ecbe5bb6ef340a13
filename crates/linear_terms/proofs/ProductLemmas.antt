-- The value of a product of which at most one factor isn't constant.
use Rattle.std.proofs.Common.{◌≡◌, ◌+◌, ◌≤◌, List, [], ◌∷◌, length, refl, ap, sym, ◌∙◌, arith}
use Rattle.std.specs.Prelude.{fold, Option, Some, None, ℤ, pos, ◌*ℤ◌}
use Rattle.std.proofs.Math.IntN.{*ℤ_comm}
use Rattle.std.proofs.lemmas.Int.{ints}
use Rattle.base.proofs.Public.{*ℤ_assoc}
use Rattle.term_tree.specs.Constants.{constants_among}
use Rattle.term_tree.specs.Operators.{product_of}
use Rattle.lin_atoms.specs.Linear.{Linear, value_at}
use Rattle.lin_atoms.proofs.Public.{value_at-scaled}
use Rattle.linear_terms.specs.Linear.{varying_form, multiple_of, product_form}

prod : List ℤ → ℤ
prod [] = pos 1
prod (n ∷ ns) = n *ℤ prod ns

one_times : (a : ℤ) → pos 1 *ℤ a ≡ a
one_times a = omega (arith, ints)

fold_prod : (a : ℤ) (ns : List ℤ) → fold (λ x n. x *ℤ n) a ns ≡ a *ℤ prod ns
unfolding prod
fold_prod a [] = sym (*ℤ_comm a (pos 1) ∙ one_times a)
fold_prod a (n ∷ ns) = fold_prod (a *ℤ n) ns ∙ *ℤ_assoc a n (prod ns)

is_prod : (ns : List ℤ) → product_of ns ≡ prod ns
is_prod ns = fold_prod (pos 1) ns ∙ one_times (prod ns)

-- the forms have these values, and so have the constants among the factors
abbrev pub HaveValues : List ℤ → List (Option ℤ) → List Linear → List ℤ → Type 0
HaveValues point [] [] [] = Unit {0}
HaveValues point (None ∷ ks) (f ∷ fs) (n ∷ ns) = (value_at point f ≡ n) × HaveValues point ks fs ns
HaveValues point (Some k ∷ ks) (f ∷ fs) (n ∷ ns) = (value_at point f ≡ n) × (n ≡ k) × HaveValues point ks fs ns
HaveValues point _ _ _ = ⊥

fewer : (ks : List (Option ℤ)) → length (constants_among ks) ≤ length ks
fewer [] = omega arith
fewer (None ∷ ks) = omega (arith, fewer ks)
fewer (Some k ∷ ks) = omega (arith, fewer ks)

all_constant_prod : (point : List ℤ) (ks : List (Option ℤ)) (fs : List Linear) (ns : List ℤ) → HaveValues point ks fs ns → length ks ≤ length (constants_among ks)
    → prod (constants_among ks) ≡ prod ns
unfolding prod
all_constant_prod point [] [] [] h all = refl
all_constant_prod point [] [] (n ∷ ns) h all = absurd h
all_constant_prod point [] (f ∷ fs) ns h all = absurd h
all_constant_prod point (None ∷ ks) [] ns h all = absurd h
all_constant_prod point (None ∷ ks) (f ∷ fs) [] h all = absurd h
all_constant_prod point (None ∷ ks) (f ∷ fs) (n ∷ ns) h all = absurd (omega (arith, fewer ks))
all_constant_prod point (Some k ∷ ks) [] ns h all = absurd h
all_constant_prod point (Some k ∷ ks) (f ∷ fs) [] h all = absurd h
all_constant_prod point (Some k ∷ ks) (f ∷ fs) (n ∷ ns) h all =
    ap (λ (x : ℤ). x *ℤ prod (constants_among ks)) (sym h.1) ∙ ap (λ (x : ℤ). n *ℤ x) (all_constant_prod point ks fs ns h.2 (omega arith))

varied_prod : (point : List ℤ) (ks : List (Option ℤ)) (fs : List Linear) (ns : List ℤ) (f : Linear) → HaveValues point ks fs ns → length ks ≤ length (constants_among ks) + 1
    → varying_form ks fs ≡ Some f → prod (constants_among ks) *ℤ value_at point f ≡ prod ns
unfolding prod
varied_prod point [] fs ns f h one is = absurd (cc)
varied_prod point (k ∷ ks) [] ns f h one is = absurd (cc)
varied_prod point (None ∷ ks) (g ∷ fs) [] f h one is = absurd h
varied_prod point (None ∷ ks) (g ∷ fs) (n ∷ ns) f h one is =
    let same : g ≡ f = cc in
    let rest = all_constant_prod point ks fs ns h.1 (omega arith) in
    *ℤ_comm (prod (constants_among ks)) (value_at point f) ∙ ap (λ (x : ℤ). x *ℤ prod (constants_among ks)) (ap (value_at point) (sym same) ∙ h.0) ∙ ap (λ (x : ℤ). n *ℤ x) rest
varied_prod point (Some k ∷ ks) (g ∷ fs) [] f h one is = absurd h
varied_prod point (Some k ∷ ks) (g ∷ fs) (n ∷ ns) f h one is =
    *ℤ_assoc k (prod (constants_among ks)) (value_at point f) ∙ ap (λ (x : ℤ). x *ℤ (prod (constants_among ks) *ℤ value_at point f)) (sym h.1)
    ∙ ap (λ (x : ℤ). n *ℤ x) (varied_prod point ks fs ns f h.2 (omega arith) is)

none_varied : (point : List ℤ) (ks : List (Option ℤ)) (fs : List Linear) (ns : List ℤ) → HaveValues point ks fs ns → varying_form ks fs ≡ None → length ks ≤ length (constants_among ks)
none_varied point [] fs ns h is = omega arith
none_varied point (None ∷ ks) [] ns h is = absurd h
none_varied point (None ∷ ks) (f ∷ fs) ns h is = absurd (cc)
none_varied point (Some k ∷ ks) [] ns h is = absurd h
none_varied point (Some k ∷ ks) (f ∷ fs) [] h is = absurd h
none_varied point (Some k ∷ ks) (f ∷ fs) (n ∷ ns) h is = omega (arith, none_varied point ks fs ns h.2 is)

multiple_value : (point : List ℤ) (ks : List (Option ℤ)) (fs : List Linear) (ns : List ℤ) → HaveValues point ks fs ns → 1 ≤ length ks
    → length ks ≤ length (constants_among ks) + 1 → (found : Option Linear) → varying_form ks fs ≡ found → value_at point (multiple_of found ks fs) ≡ prod ns
unfolding prod
multiple_value point ks fs ns h some one (Some f) is =
    value_at-scaled point (product_of (constants_among ks)) f ∙ ap (λ (x : ℤ). x *ℤ value_at point f) (is_prod (constants_among ks)) ∙ varied_prod point ks fs ns f h one is
multiple_value point [] fs ns h some one None is = absurd (omega arith)
multiple_value point (None ∷ ks) [] ns h some one None is = absurd h
multiple_value point (Some k ∷ ks) [] ns h some one None is = absurd h
multiple_value point (None ∷ ks) (f ∷ fs) ns h some one None is = absurd (cc)
multiple_value point (Some k ∷ ks) (f ∷ fs) [] h some one None is = absurd h
multiple_value point (Some k ∷ ks) (f ∷ fs) (n ∷ ns) h some one None is =
    value_at-scaled point (product_of (constants_among ks)) f
    ∙ *ℤ_comm (product_of (constants_among ks)) (value_at point f)
    ∙ ap (λ (x : ℤ). x *ℤ product_of (constants_among ks)) h.0
    ∙ ap (λ (x : ℤ). n *ℤ x) (is_prod (constants_among ks) ∙ all_constant_prod point ks fs ns h.2 (none_varied point ks fs ns h.2 is))

-- the product has the product of the values
pub product_value : (point : List ℤ) (ks : List (Option ℤ)) (fs : List Linear) (ns : List ℤ) → HaveValues point ks fs ns → 1 ≤ length ks
    → length ks ≤ length (constants_among ks) + 1 → value_at point (product_form ks fs) ≡ product_of ns
product_value point ks fs ns h some one = multiple_value point ks fs ns h some one (varying_form ks fs) refl ∙ sym (is_prod ns)
