-- What literals say has rising variables, and a lone variable has the coefficient 1 or -1.
use Rattle.std.proofs.Common.{◌≡◌, ℕ, suc, zero, List, [], ◌∷◌, ◌++◌, refl, ap, sym, ◌∙◌, arith, ◌<◌, ◌≤◌, ◌+◌, ◌*◌, ◌^◌, subst, true, false, Bool, cond, ◌==◌, ◌&&◌, length, map}
use Rattle.std.specs.Prelude.{ℤ, pos, neg_ℤ, ◌*ℤ◌, ◌<ℤ◌, nat_abs, nat_le, nat_lt}
use Rattle.std.specs.Int.{int_div_euclid}
use Rattle.std.specs.List.{list_all}
use Rattle.std.proofs.lemmas.Bool.{and_from, eq-eqb, le-leb, ltb-true}
use Rattle.std.proofs.lemmas.Int.{ints, unsigned_abs-mul}
use Rattle.std.proofs.lemmas.Nat.Gcd.{dvd_refl}
use Rattle.std.proofs.lemmas.List.Folds.{list_all-append}
use Rattle.lin_atoms.specs.Linear.{Linear, are_ordered, is_linear, lin_is_below}
use Rattle.lin_atoms.specs.Truth.{lit_is_below}
use Rattle.lin_atoms.specs.declared.lit.Lit.{Lit}
use Rattle.lin_atoms.specs.declared.lit.Lit.TheVariants.{Le, Eq, Div, NDiv}
use Rattle.lin_atoms.proofs.Public.{both_true, exact_quotient}
use Rattle.int_rows.specs.Node.{all_bounds, bounds_of, quotients}
use Rattle.int_rows.specs.Ready.{bounded, less_multiple, lin_content, ready, tightened}
use Rattle.int_rows.specs.Rows.{content}
use Rattle.int_rows.specs.declared.bounds.Bounded.{Bounded}
use Rattle.int_rows.specs.declared.bounds.Ready.TheVariants.{Truth, Bounds}
use Rattle.int_rows.proofs.ContentLemmas.{Divides, coefficients-divided}
use Rattle.int_rows.proofs.Public.{content-most}
use Rattle.lia_node.specs.Known.{are_known, is_legal}
use Rattle.lia_node.specs.machinery.Solved.{is_tidy, is_unit_alone, names_rise}
use Rattle.lia_node.proofs.FitLemmas.{linear-parts, some-terms}

rise-ordered : (from : ℕ) (ts : List (ℕ × ℤ)) → are_ordered from ts ≡ true → names_rise from ts ≡ true
rise-ordered from [] h = refl
rise-ordered from (t ∷ ts) h =
    let both = both_true (nat_le from t.0) _ h in
    and_from _ _ both.0 (rise-ordered (t.0 + 1) ts (both_true (nat_lt 0 (nat_abs t.1)) _ both.1).1)

rise-divided : (from : ℕ) (d : ℤ) (ts : List (ℕ × ℤ)) → names_rise from ts ≡ true → names_rise from (map (λ (t : ℕ × ℤ). (t.0, int_div_euclid t.1 d)) ts) ≡ true
rise-divided from d [] h = refl
rise-divided from d (t ∷ ts) h = let both = both_true (nat_le from t.0) _ h in and_from _ _ both.0 (rise-divided (t.0 + 1) d ts both.1)

rise-last : (from q : ℕ) (a : ℤ) (ts : List (ℕ × ℤ)) → from ≤ q → names_rise from ts ≡ true → list_all (λ (t : ℕ × ℤ). nat_lt t.0 q) ts ≡ true → names_rise from (ts ++ (q, a) ∷ []) ≡ true
rise-last from q a [] le h below = and_from _ _ (le-leb from q le) refl
rise-last from q a (t ∷ ts) le h below =
    let both = both_true (nat_le from t.0) _ h in
    let parts = both_true (nat_lt t.0 q) _ below in
    let less : t.0 < q = ltb-true _ _ parts.0 in
    and_from _ _ both.0 (rise-last (t.0 + 1) q a ts (omega (arith, less)) both.1 parts.1)

unit-last : (q : ℕ) (a : ℤ) (ts : List (ℕ × ℤ)) → 0 < length ts → is_unit_alone (ts ++ (q, a) ∷ []) ≡ true
unit-last q a [] h = absurd (omega arith)
unit-last q a (t ∷ []) h = refl
unit-last q a (t ∷ u ∷ ts) h = refl

one-from : (k g a : ℕ) → k * g ≡ a → a ≤ g → 0 < a → k ≡ 1
one-from zero g a whole le some = absurd (omega (arith, whole, some))
one-from (suc zero) g a whole le some = refl
one-from (suc (suc k)) g a whole le some = absurd (omega (arith, whole, le, some))

magnitude-product : (q a : ℤ) (g : ℕ) → q *ℤ pos g ≡ a → nat_abs q * g ≡ nat_abs a
magnitude-product q a g h = sym (unsigned_abs-mul q (pos g)) ∙ ap nat_abs h

-- the quotient of a coefficient by what divides it alone
unit-quotient : (a : ℤ) → 0 < nat_abs a → 0 < content (a ∷ []) → Divides (content (a ∷ [])) (a ∷ []) → nat_abs (int_div_euclid a (pos (content (a ∷ [])))) ≡ 1
unit-quotient a some positive divides =
    let g = content (a ∷ []) in
    let above : pos 0 <ℤ pos g = omega (arith, ints) in
    let exact = exact_quotient a (pos g) above divides.0 in
    let most = content-most (nat_abs a) (a ∷ []) (dvd_refl (nat_abs a), tt) positive in
    one-from (nat_abs (int_div_euclid a (pos g))) g (nat_abs a) (magnitude-product (int_div_euclid a (pos g)) a g exact) most some

tidy-tight : (lin : Linear) (ts : List (ℕ × ℤ)) → lin.terms ≡ ts → 0 < length lin.terms → are_ordered 0 lin.terms ≡ true → is_unit_alone (tightened lin).terms ≡ true
tidy-tight lin [] e some h = absurd (let none = ap length e in omega (arith, some, none))
tidy-tight lin (t ∷ []) e some h =
    let found = coefficients-divided lin some h in
    let row : map (λ (u : ℕ × ℤ). u.1) lin.terms ≡ t.1 ∷ [] = ap (map (λ (u : ℕ × ℤ). u.1)) e in
    let positive : 0 < content (t.1 ∷ []) = subst (λ (r : List ℤ). 0 < content r) row found.0 in
    let divides : Divides (content (t.1 ∷ [])) (t.1 ∷ []) = subst (λ (r : List ℤ). Divides (content r) r) row found.1 in
    let first = both_true (nat_le 0 t.0) _ (subst (λ (ts : List (ℕ × ℤ)). are_ordered 0 ts ≡ true) e h) in
    let nonzero : 0 < nat_abs t.1 = ltb-true _ _ (both_true (nat_lt 0 (nat_abs t.1)) _ first.1).0 in
    let one = unit-quotient t.1 nonzero positive divides in
    ap (λ (ts : List (ℕ × ℤ)). is_unit_alone (map (λ (u : ℕ × ℤ). (u.0, int_div_euclid u.1 (pos (content (map (λ (w : ℕ × ℤ). w.1) ts))))) ts)) e ∙ eq-eqb (nat_abs (int_div_euclid t.1 (pos (content (t.1 ∷ []))))) 1 one
tidy-tight lin (t ∷ u ∷ ts) e some h =
    ap (λ (ts : List (ℕ × ℤ)). is_unit_alone (map (λ (u : ℕ × ℤ). (u.0, int_div_euclid u.1 (pos (content (map (λ (w : ℕ × ℤ). w.1) ts))))) ts)) e

tight-tidy : (lin : Linear) → 0 < length lin.terms → is_linear lin ≡ true → (names_rise 0 (tightened lin).terms && is_unit_alone (tightened lin).terms) ≡ true
tight-tidy lin some h =
    let ordered = (linear-parts lin h).0 in
    and_from _ _ (rise-divided 0 (pos (lin_content lin)) lin.terms (rise-ordered 0 lin.terms ordered)) (tidy-tight lin lin.terms refl some ordered)

division-tidy : (q n : ℕ) (lin : Linear) → 0 < length lin.terms → is_linear lin ≡ true → lin_is_below q lin ≡ true → (names_rise 0 (less_multiple n q lin).terms && is_unit_alone (less_multiple n q lin).terms) ≡ true
division-tidy q n lin some h below =
    and_from _ _ (rise-last 0 q (neg_ℤ (pos n)) lin.terms (omega arith) (rise-ordered 0 lin.terms (linear-parts lin h).0) below) (unit-last q (neg_ℤ (pos n)) lin.terms some)

step : (b t : Bool) (made : Bounded) → (b ≡ false → is_tidy made ≡ true) → list_all is_tidy (bounds_of (cond b (Truth t) (Bounds made))) ≡ true
step true t made h = refl
step false t made h = and_from _ _ (h refl) refl

said-tidy : (q : ℕ) (lit : Lit) → is_legal lit ≡ true → lit_is_below q lit ≡ true → list_all is_tidy (bounds_of (ready q lit)) ≡ true
said-tidy q (Le lin) legal below = step (length lin.terms == 0) _ (bounded q (Le lin)) (λ e. tight-tidy lin (some-terms lin e) legal)
said-tidy q (Eq lin) legal below = step (length lin.terms == 0) _ (bounded q (Eq lin)) (λ e. tight-tidy lin (some-terms lin e) legal)
said-tidy q (Div n lin) legal below = step (length lin.terms == 0) _ (bounded q (Div n lin)) (λ e. division-tidy q n lin (some-terms lin e) (both_true (nat_lt n (2 ^ 63)) _ (both_true (nat_lt 0 n) _ legal).1).1 below)
said-tidy q (NDiv n lin) legal below = step (length lin.terms == 0) _ (bounded q (NDiv n lin)) (λ e. division-tidy q n lin (some-terms lin e) (both_true (nat_lt n (2 ^ 63)) _ (both_true (nat_lt 0 n) _ legal).1).1 below)

-- all that literals say is tidy
pub all-tidy : (q : ℕ) (lits : List Lit) → list_all is_legal lits ≡ true → are_known q lits ≡ true → list_all is_tidy (all_bounds q lits) ≡ true
all-tidy q [] legal known = refl
all-tidy q (lit ∷ lits) legal known =
    let both = both_true (is_legal lit) _ legal in
    let parts = both_true (lit_is_below q lit) _ known in
    list_all-append is_tidy (bounds_of (ready q lit)) (all_bounds (q + quotients lit) lits) ∙ and_from _ _ (said-tidy q lit both.0 parts.0) (all-tidy (q + quotients lit) lits both.1 parts.1)
