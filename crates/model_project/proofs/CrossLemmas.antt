-- A form that is crossed with an equation, and what the equation leaves, by their numbers.
use Rattle.std.proofs.Common.{◌≡◌, ◌<◌, ◌≤◌, ◌*◌, ◌^◌, ◌&&◌, ◌++◌, ℕ, suc, zero, List, [], ◌∷◌, refl, ap, sym, ◌∙◌, subst, arith, true, false, Bool, ◌==◌, cond, not, length, Some, None}
use Rattle.std.specs.Prelude.{ℤ, pos, neg_ℤ, ◌+ℤ◌, ◌*ℤ◌, ◌<ℤ◌, nat_abs, nat_lt}
use Rattle.std.specs.List.{filter}
use Rattle.std.proofs.lemmas.Int.{ints}
use Rattle.std.proofs.lemmas.Bool.Decides.{nat_tests}
use Rattle.lin_atoms.specs.Linear.{Linear, are_ordered, are_short, is_linear, is_short}
use Rattle.lin_atoms.specs.Algebra.{collected, scaled_terms}
use Rattle.lin_atoms.specs.Denial.{linear_of}
use Rattle.lin_atoms.specs.declared.lit.Lit.{Lit}
use Rattle.lin_atoms.specs.declared.lit.Lit.TheVariants.{Le, Eq, Div, NDiv}
use Rattle.lin_atoms.proofs.Public.{both_true}
use Rattle.model_project.specs.Substitution.{coefficient, crossed, crossed_lit, left_over, without}
use Rattle.model_project.specs.Elimination.{has_variable, has_short_numbers, tidied}
use Rattle.model_project.specs.machinery.Steps.{one}
use Rattle.model_project.proofs.JudgeLemmas.{one_ground, one_kept, one_wide}

test : (n : ℕ) → 0 < n → nat_lt 0 n ≡ true
test n h = grind (arith, nat_tests)

pub some_terms : (ts us : List (ℕ × ℤ)) → ts ≡ us → 0 < length ts → nat_lt 0 (length us) ≡ true
some_terms ts us e h = ap (λ xs. nat_lt 0 (length xs)) (sym e) ∙ test (length ts) h

pub no_terms : (ts us : List (ℕ × ℤ)) → ts ≡ us → length ts ≡ 0 → nat_lt 0 (length us) ≡ false
no_terms ts us e h = ap (λ xs. nat_lt 0 (length xs)) (sym e) ∙ ap (nat_lt 0) h

pub both_small : (b c : Bool) → b ≡ true → c ≡ true → (b && (c && true)) ≡ true
both_small true true h g = refl
both_small true false h g = absurd (cc)
both_small false c h g = absurd (cc)

pub first_wide : (b c : Bool) → b ≡ false → (b && (c && true)) ≡ false
first_wide true c h = absurd (cc)
first_wide false c h = refl

pub second_wide : (b c : Bool) → c ≡ false → (b && (c && true)) ≡ false
second_wide true true h = absurd (cc)
second_wide true false h = refl
second_wide false c h = refl

pub not_false : (b : Bool) → (b ≡ false → ⊥) → b ≡ true
not_false true h = refl
not_false false h = absurd (h refl)

-- what an equation leaves
small_here : (t : ℕ × ℤ) (ts : List (ℕ × ℤ)) (b : Bool) → is_short t.1 ≡ true → are_short ts ≡ true → are_short (cond b (t ∷ ts) ts) ≡ true
small_here t ts true h g = ap (λ b. b && are_short ts) h ∙ g
small_here t ts false h g = g

pub filter_small : (test : ℕ × ℤ → Bool) (ts : List (ℕ × ℤ)) → are_short ts ≡ true → are_short (filter test ts) ≡ true
filter_small test [] h = refl
filter_small test (t ∷ ts) h = let both = both_true (is_short t.1) _ h in small_here t (filter test ts) (test t) both.0 (filter_small test ts both.1)

pub short_test : (n : ℕ) → n < 2 ^ 63 → nat_lt n (2 ^ 63) ≡ true
short_test n h = grind (arith, nat_tests)

pub long_test : (n : ℕ) → 2 ^ 63 ≤ n → nat_lt n (2 ^ 63) ≡ false
long_test n h = grind (arith, nat_tests)

not_one : (a : ℤ) → pos 0 <ℤ a → (a ≡ pos 1 → ⊥) → nat_abs a ≡ 1 → ⊥
not_one a some other h = other (omega (arith, ints, some, h))

test_not : (n : ℕ) → (n ≡ 1 → ⊥) → (n == 1) ≡ false
test_not n h = grind (arith, nat_tests)

pub left_is : (v : ℕ) (l : Linear) → pos 0 <ℤ coefficient v l → (coefficient v l ≡ pos 1 → ⊥) → left_over v l ≡ Div (nat_abs (coefficient v l)) (without v l) ∷ []
left_is v l some other = ap (λ b. cond b [] (Div (nat_abs (coefficient v l)) (without v l) ∷ [])) (test_not (nat_abs (coefficient v l)) (not_one (coefficient v l) some other))

three_true : (a b c : Bool) → a ≡ true → b ≡ true → c ≡ true → (a && (b && c)) ≡ true
three_true true b c h g k = ap (λ x. x && c) g ∙ k
three_true false b c h g k = absurd (cc)

pub left_made : (v : ℕ) (l : Linear) (made : Lit) → pos 0 <ℤ coefficient v l → (coefficient v l ≡ pos 1 → ⊥) → nat_abs (coefficient v l) < 2 ^ 63 → 0 < length (without v l).terms → are_short l.terms ≡ true → is_short l.constant ≡ true → made ≡ Div (nat_abs (coefficient v l)) (without v l)
    → tidied (left_over v l) ≡ Some (one made)
left_made v l made some other small has terms constant e =
    let lit = Div (nat_abs (coefficient v l)) (without v l) in
    let narrow : has_short_numbers lit ≡ true = three_true (are_short (without v l).terms) (is_short l.constant) (nat_lt (nat_abs (coefficient v l)) (2 ^ 63)) (filter_small (λ t. not (t.0 == v)) l.terms terms) constant (short_test (nat_abs (coefficient v l)) small) in
    ap tidied (left_is v l some other) ∙ one_kept lit (some_terms (without v l).terms (without v l).terms refl has) narrow ∙ ap (λ x. Some (one x)) (sym e)

-- a crossed literal, by its form
pub kept_le : (v : ℕ) (l m : Linear) (made : Linear) → made ≡ crossed v l m → has_variable (Eq (crossed v l m)) ≡ true → has_short_numbers (Eq (crossed v l m)) ≡ true → tidied (crossed_lit v l (Le m) ∷ []) ≡ Some (one (Le made))
kept_le v l m made e h n = one_kept (Le (crossed v l m)) h n ∙ ap (λ x. Some (one (Le x))) (sym e)

pub kept_eq : (v : ℕ) (l m : Linear) (made : Linear) → made ≡ crossed v l m → has_variable (Eq (crossed v l m)) ≡ true → has_short_numbers (Eq (crossed v l m)) ≡ true → tidied (crossed_lit v l (Eq m) ∷ []) ≡ Some (one (Eq made))
kept_eq v l m made e h n = one_kept (Eq (crossed v l m)) h n ∙ ap (λ x. Some (one (Eq x))) (sym e)

with_divisor : (a b c d : Bool) → (a && (b && c)) ≡ true → d ≡ true → (a && (b && d)) ≡ true
with_divisor true true c d h g = g
with_divisor true false c d h g = absurd (cc)
with_divisor false b c d h g = absurd (cc)

pub kept_div : (v : ℕ) (l m : Linear) (d n : ℕ) (made : Linear) → made ≡ crossed v l m → n ≡ nat_abs (coefficient v l) * d → nat_abs (coefficient v l) * d < 2 ^ 63 → has_variable (Eq (crossed v l m)) ≡ true → has_short_numbers (Eq (crossed v l m)) ≡ true → tidied (crossed_lit v l (Div d m) ∷ []) ≡ Some (one (Div n made))
kept_div v l m d n made e f small h is =
    let c = crossed v l m in
    one_kept (Div (nat_abs (coefficient v l) * d) c) h (with_divisor (are_short c.terms) (is_short c.constant) (nat_lt 1 (2 ^ 63)) (nat_lt (nat_abs (coefficient v l) * d) (2 ^ 63)) is (short_test (nat_abs (coefficient v l) * d) small))
    ∙ ap (λ x. Some (one (Div x c))) (sym f) ∙ ap (λ x. Some (one (Div n x))) (sym e)

pub kept_ndiv : (v : ℕ) (l m : Linear) (d n : ℕ) (made : Linear) → made ≡ crossed v l m → n ≡ nat_abs (coefficient v l) * d → nat_abs (coefficient v l) * d < 2 ^ 63 → has_variable (Eq (crossed v l m)) ≡ true → has_short_numbers (Eq (crossed v l m)) ≡ true → tidied (crossed_lit v l (NDiv d m) ∷ []) ≡ Some (one (NDiv n made))
kept_ndiv v l m d n made e f small h is =
    let c = crossed v l m in
    one_kept (NDiv (nat_abs (coefficient v l) * d) c) h (with_divisor (are_short c.terms) (is_short c.constant) (nat_lt 1 (2 ^ 63)) (nat_lt (nat_abs (coefficient v l) * d) (2 ^ 63)) is (short_test (nat_abs (coefficient v l) * d) small))
    ∙ ap (λ x. Some (one (NDiv x c))) (sym f) ∙ ap (λ x. Some (one (NDiv n x))) (sym e)

-- without a variable it is left out, with any ground literal in its place
crossed_has : (v : ℕ) (l : Linear) (lit : Lit) → has_variable (crossed_lit v l lit) ≡ has_variable (Eq (crossed v l (linear_of lit)))
crossed_has v l (Le m) = refl
crossed_has v l (Eq m) = refl
crossed_has v l (Div d m) = refl
crossed_has v l (NDiv d m) = refl

pub ground_crossed : (v : ℕ) (l : Linear) (lit g : Lit) → has_variable (Eq (crossed v l (linear_of lit))) ≡ false → has_variable g ≡ false → tidied (crossed_lit v l lit ∷ []) ≡ Some (one g)
ground_crossed v l lit g h n = one_ground (crossed_lit v l lit) g (crossed_has v l lit ∙ h) n

-- and wide where its form is, or its divisor
wide_parts : (a b c d : Bool) → c ≡ true → (a && (b && c)) ≡ false → (a && (b && d)) ≡ false
wide_parts true true c d t h = absurd (cc)
wide_parts true false c d t h = refl
wide_parts false b c d t h = refl

crossed_wide : (v : ℕ) (l : Linear) (lit : Lit) → has_short_numbers (Eq (crossed v l (linear_of lit))) ≡ false → has_short_numbers (crossed_lit v l lit) ≡ false
crossed_wide v l (Le m) h = h
crossed_wide v l (Eq m) h = h
crossed_wide v l (Div d m) h = wide_parts (are_short (crossed v l m).terms) (is_short (crossed v l m).constant) (nat_lt 1 (2 ^ 63)) (nat_lt (nat_abs (coefficient v l) * d) (2 ^ 63)) refl h
crossed_wide v l (NDiv d m) h = wide_parts (are_short (crossed v l m).terms) (is_short (crossed v l m).constant) (nat_lt 1 (2 ^ 63)) (nat_lt (nat_abs (coefficient v l) * d) (2 ^ 63)) refl h

pub wide_crossed : (v : ℕ) (l : Linear) (lit : Lit) → has_variable (Eq (crossed v l (linear_of lit))) ≡ true → has_short_numbers (Eq (crossed v l (linear_of lit))) ≡ false → tidied (crossed_lit v l lit ∷ []) ≡ None
wide_crossed v l lit h n = one_wide (crossed_lit v l lit) (crossed_has v l lit ∙ h) (crossed_wide v l lit n)

last_wide : (a b d : Bool) → d ≡ false → (a && (b && d)) ≡ false
last_wide true true d h = h
last_wide true false d h = refl
last_wide false b d h = refl

pub wide_div : (v : ℕ) (l m : Linear) (d : ℕ) → has_variable (Eq (crossed v l m)) ≡ true → 2 ^ 63 ≤ nat_abs (coefficient v l) * d → tidied (crossed_lit v l (Div d m) ∷ []) ≡ None
wide_div v l m d h wide = one_wide (Div (nat_abs (coefficient v l) * d) (crossed v l m)) h (last_wide (are_short (crossed v l m).terms) (is_short (crossed v l m).constant) (nat_lt (nat_abs (coefficient v l) * d) (2 ^ 63)) (long_test (nat_abs (coefficient v l) * d) wide))

pub wide_ndiv : (v : ℕ) (l m : Linear) (d : ℕ) → has_variable (Eq (crossed v l m)) ≡ true → 2 ^ 63 ≤ nat_abs (coefficient v l) * d → tidied (crossed_lit v l (NDiv d m) ∷ []) ≡ None
wide_ndiv v l m d h wide = one_wide (NDiv (nat_abs (coefficient v l) * d) (crossed v l m)) h (last_wide (are_short (crossed v l m).terms) (is_short (crossed v l m).constant) (nat_lt (nat_abs (coefficient v l) * d) (2 ^ 63)) (long_test (nat_abs (coefficient v l) * d) wide))

pub product_some : (a d : ℕ) → 0 < a → 0 < d → 0 < a * d
product_some (suc a) (suc d) h g = omega arith
product_some zero d h g = absurd (omega arith)
product_some (suc a) zero h g = absurd (omega arith)

pub narrow_eq : (lin : Linear) → is_linear lin ≡ true → is_short lin.constant ≡ true → has_short_numbers (Eq lin) ≡ true
narrow_eq lin h small =
    let parts = both_true (are_ordered 0 lin.terms) _ h in
    let terms = both_true (are_short lin.terms) _ parts.1 in
    both_small (are_short lin.terms) (is_short lin.constant) terms.0 small

pub has_test : (c : ℤ) → 0 < nat_abs c → nat_lt 0 (nat_abs c) ≡ true
has_test c h = test (nat_abs c) h

-- the numbers of a crossed form, as they are computed
pub crossed_terms : (v : ℕ) (l lin : Linear) (k m c : ℤ) (ts us made : List (ℕ × ℤ)) → k ≡ coefficient v l → m ≡ neg_ℤ c → c ≡ coefficient v lin → ts ≡ lin.terms → us ≡ l.terms → made ≡ collected (scaled_terms k ts ++ scaled_terms m us) → made ≡ (crossed v l lin).terms
crossed_terms v l lin k m c ts us made e f g h i is =
    is ∙ ap (λ k. collected (scaled_terms k ts ++ scaled_terms m us)) e ∙ ap (λ m. collected (scaled_terms (coefficient v l) ts ++ scaled_terms m us)) (f ∙ ap neg_ℤ g)
    ∙ ap (λ ts. collected (scaled_terms (coefficient v l) ts ++ scaled_terms (neg_ℤ (coefficient v lin)) us)) h ∙ ap (λ us. collected (scaled_terms (coefficient v l) lin.terms ++ scaled_terms (neg_ℤ (coefficient v lin)) us)) i

pub crossed_constant : (v : ℕ) (l lin : Linear) (k m c a b : ℤ) → k ≡ coefficient v l → m ≡ neg_ℤ c → c ≡ coefficient v lin → a ≡ lin.constant → b ≡ l.constant → k *ℤ a +ℤ m *ℤ b ≡ (crossed v l lin).constant
crossed_constant v l lin k m c a b e f g h i =
    ap (λ k. k *ℤ a +ℤ m *ℤ b) e ∙ ap (λ m. coefficient v l *ℤ a +ℤ m *ℤ b) (f ∙ ap neg_ℤ g) ∙ ap (λ a. coefficient v l *ℤ a +ℤ neg_ℤ (coefficient v lin) *ℤ b) h ∙ ap (λ b. coefficient v l *ℤ lin.constant +ℤ neg_ℤ (coefficient v lin) *ℤ b) i

pub true_not_false : (b : Bool) → (b ≡ false → true ≡ false) → b ≡ true
true_not_false true h = refl
true_not_false false h = absurd (let bad = h refl in cc)

pub left_from : (v : ℕ) (l : Linear) (a constant : ℤ) (rest : List (ℕ × ℤ)) (made : Lit) → a ≡ coefficient v l → pos 0 <ℤ coefficient v l → (a ≡ pos 1 → ⊥) → nat_abs a < 2 ^ 63 → rest ≡ (without v l).terms → 0 < length rest → are_short l.terms ≡ true → constant ≡ l.constant → is_short l.constant ≡ true
    → made ≡ Div (nat_abs a) (record { terms = rest; constant = constant }) → tidied (left_over v l) ≡ Some (one made)
left_from v l a constant rest made e some other small f has terms g short is =
    let same : made ≡ Div (nat_abs (coefficient v l)) (without v l) = is ∙ ap (λ z. Div (nat_abs z) (record { terms = rest; constant = constant })) e ∙ ap (λ ts. Div (nat_abs (coefficient v l)) (record { terms = ts; constant = constant })) f ∙ ap (λ k. Div (nat_abs (coefficient v l)) (record { terms = (without v l).terms; constant = k })) g in
    left_made v l made some (λ h. other (e ∙ h)) (subst (λ z. nat_abs z < 2 ^ 63) e small) (subst (λ ts. 0 < length ts) f has) terms short same
