-- The numbers of a literal made ready have room.
use Rattle.std.proofs.Common.{◌≡◌, ℕ, List, [], ◌∷◌, ◌++◌, refl, ◌∙◌, arith, ◌<◌, ◌≤◌, ◌^◌, true, false, Bool, cond, ◌==◌, length, map}
use Rattle.std.specs.Prelude.{ℤ, pos, negsuc, neg_ℤ, nat_abs, nat_lt, ◌-ℤ◌, ◌+ℤ◌, ◌*ℤ◌, ◌<ℤ◌}
use Rattle.std.specs.Int.{int_div_euclid, int_rem_euclid}
use Rattle.std.proofs.lemmas.Int.{ints}
use Rattle.std.proofs.lemmas.Bool.{and_from, eqb-false, lt-ltb, ltb-true}
use Rattle.std.proofs.lemmas.List.Folds.{list_all-append}
use Rattle.lin_atoms.specs.Linear.{Linear, are_ordered, are_short, fits, is_linear, is_long, is_short}
use Rattle.lin_atoms.specs.declared.lit.Lit.{Lit}
use Rattle.lin_atoms.specs.declared.lit.Lit.TheVariants.{Le, Eq, Div, NDiv}
use Rattle.lin_atoms.proofs.DivisionLemmas.{quotient_above, quotient_below}
use Rattle.lin_atoms.proofs.Public.{both_true, quotient-rest, rest-below, rest-natural}
use Rattle.int_rows.specs.Ready.{between, bounded_fits, less_multiple, lin_content, least, most, ready, ready_fits, tightened, without_constant}
use Rattle.int_rows.specs.declared.bounds.Bounded.{Bounded}
use Rattle.int_rows.specs.declared.bounds.Ready.TheVariants.{Truth, Bounds}
use Rattle.int_rows.proofs.ContentLemmas.{coefficients-content}
use Rattle.lia_node.specs.Known.{has_short_constant, is_legal}

-- a quotient isn't greater than the number
pub quotient-small : (a : ℤ) (g : ℕ) → 0 < g → nat_abs (int_div_euclid a (pos g)) ≤ nat_abs a
quotient-small (pos n) g some =
    let above : pos 0 <ℤ pos g = omega (arith, ints) in
    let a = pos n in
    let q = int_div_euclid a (pos g) in
    let r = nat_abs (int_rem_euclid a (pos g)) in
    let whole : q *ℤ pos g +ℤ pos r ≡ a = let rest = quotient-rest a (pos g) above in let natural = rest-natural a (pos g) in omega (arith, ints, rest, natural) in
    let found = quotient_above a q (pos g) r above whole (rest-below a (pos g) above) (omega (arith, ints)) in
    omega (arith, ints, found)
quotient-small (negsuc n) g some =
    let above : pos 0 <ℤ pos g = omega (arith, ints) in
    let a = negsuc n in
    let q = int_div_euclid a (pos g) in
    let r = nat_abs (int_rem_euclid a (pos g)) in
    let whole : q *ℤ pos g +ℤ pos r ≡ a = let rest = quotient-rest a (pos g) above in let natural = rest-natural a (pos g) in omega (arith, ints, rest, natural) in
    let found = quotient_below a q (pos g) r above whole (rest-below a (pos g) above) (omega (arith, ints)) in
    omega (arith, ints, found)

short-divided : (ts : List (ℕ × ℤ)) (g : ℕ) → 0 < g → are_short ts ≡ true → are_short (map (λ t. (t.0, int_div_euclid t.1 (pos g))) ts) ≡ true
short-divided [] g some h = refl
short-divided (t ∷ ts) g some h =
    let both = both_true (is_short t.1) _ h in
    let small : nat_abs t.1 < 2 ^ 63 = ltb-true _ _ both.0 in
    let less : nat_abs (int_div_euclid t.1 (pos g)) < 2 ^ 63 = omega (arith, small, quotient-small t.1 g some) in
    and_from _ _ (lt-ltb _ _ less) (short-divided ts g some both.1)

-- the parts of what the code keeps of a form
pub linear-parts : (lin : Linear) → is_linear lin ≡ true → (are_ordered 0 lin.terms ≡ true) × (are_short lin.terms ≡ true) × (nat_abs lin.constant < 2 ^ 64)
linear-parts lin h =
    let both = both_true (are_ordered 0 lin.terms) _ h in
    let rest = both_true (are_short lin.terms) _ both.1 in
    (both.0, rest.0, ltb-true _ _ rest.1)

tight-fits : (lin : Linear) → 0 < length lin.terms → is_linear lin ≡ true → fits (without_constant (tightened lin)) ≡ true
tight-fits lin some h =
    let positive = (coefficients-content lin some h).0 in
    and_from _ _ (short-divided lin.terms (lin_content lin) positive (linear-parts lin h).1) refl

most-fits : (lin : Linear) → 0 < length lin.terms → is_linear lin ≡ true → is_long (most lin) ≡ true
most-fits lin some h =
    let positive = (coefficients-content lin some h).0 in
    let small = (linear-parts lin h).2 in
    let less = quotient-small (neg_ℤ lin.constant) (lin_content lin) positive in
    let there : nat_abs (most lin) < 2 ^ 64 = omega (arith, ints, small, less) in
    lt-ltb _ _ there

least-fits : (lin : Linear) → 0 < length lin.terms → is_linear lin ≡ true → is_long (least lin) ≡ true
least-fits lin some h =
    let positive = (coefficients-content lin some h).0 in
    let small = (linear-parts lin h).2 in
    let turned : neg_ℤ (neg_ℤ lin.constant) ≡ lin.constant = omega (arith, ints) in
    let less = quotient-small (neg_ℤ (neg_ℤ lin.constant)) (lin_content lin) positive in
    let there : nat_abs (least lin) < 2 ^ 64 = omega (arith, ints, small, less, turned) in
    lt-ltb _ _ there

between-fits : (q n : ℕ) (low high : ℤ) (lin : Linear) → n < 2 ^ 63 → is_linear lin ≡ true → nat_abs (low -ℤ lin.constant) < 2 ^ 64 → nat_abs (high -ℤ lin.constant) < 2 ^ 64 → bounded_fits (between low high (less_multiple n q lin)) ≡ true
between-fits q n low high lin small h lower upper =
    let last : is_short (neg_ℤ (pos n)) ≡ true = let less : nat_abs (neg_ℤ (pos n)) < 2 ^ 63 = omega (arith, ints, small) in lt-ltb _ _ less in
    let terms : are_short (lin.terms ++ (q, neg_ℤ (pos n)) ∷ []) ≡ true = list_all-append (λ (t : ℕ × ℤ). is_short t.1) lin.terms ((q, neg_ℤ (pos n)) ∷ []) ∙ and_from _ _ (linear-parts lin h).1 (and_from _ _ last refl) in
    and_from _ _ (and_from _ _ terms refl) (and_from _ _ (lt-ltb _ _ lower) (lt-ltb _ _ upper))

step : (b t : Bool) (made : Bounded) → (b ≡ false → bounded_fits made ≡ true) → ready_fits (cond b (Truth t) (Bounds made)) ≡ true
step true t made h = refl
step false t made h = h refl

pub some-terms : (lin : Linear) → (length lin.terms == 0) ≡ false → 0 < length lin.terms
some-terms lin h = let some = eqb-false _ _ h in omega (arith, some)

-- a literal made ready has room
pub ready-fits : (q : ℕ) (lit : Lit) → is_legal lit ≡ true → has_short_constant lit ≡ true → ready_fits (ready q lit) ≡ true
ready-fits q (Le lin) legal short = step (length lin.terms == 0) _ _ (λ e.
    let some = some-terms lin e in
    and_from _ _ (tight-fits lin some legal) (and_from _ _ refl (most-fits lin some legal)))
ready-fits q (Eq lin) legal short = step (length lin.terms == 0) _ _ (λ e.
    let some = some-terms lin e in
    and_from _ _ (tight-fits lin some legal) (and_from _ _ (least-fits lin some legal) (most-fits lin some legal)))
ready-fits q (Div n lin) legal short = step (length lin.terms == 0) _ _ (λ e.
    let both = both_true (nat_lt 0 n) _ legal in
    let rest = both_true (nat_lt n (2 ^ 63)) _ both.1 in
    let small : nat_abs lin.constant < 2 ^ 63 = ltb-true _ _ short in
    between-fits q n (pos 0) (pos 0) lin (ltb-true _ _ rest.0) rest.1 (omega (arith, ints, small)) (omega (arith, ints, small)))
ready-fits q (NDiv n lin) legal short = step (length lin.terms == 0) _ _ (λ e.
    let both = both_true (nat_lt 0 n) _ legal in
    let rest = both_true (nat_lt n (2 ^ 63)) _ both.1 in
    let small : nat_abs lin.constant < 2 ^ 63 = ltb-true _ _ short in
    let less : n < 2 ^ 63 = ltb-true _ _ rest.0 in
    let some : 0 < n = ltb-true _ _ both.0 in
    between-fits q n (pos 1) (pos n -ℤ pos 1) lin less rest.1 (omega (arith, ints, small)) (omega (arith, ints, small, less, some)))
