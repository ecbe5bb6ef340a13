-- The variables of what the literals say.
use Rattle.std.proofs.Common.{◌≡◌, ℕ, List, [], ◌∷◌, ◌++◌, refl, ◌∙◌, arith, ◌<◌, ◌≤◌, ◌+◌, true, false, Bool, cond, ◌==◌, length, map}
use Rattle.std.specs.Prelude.{ℤ, nat_lt, pos, neg_ℤ}
use Rattle.std.specs.Int.{int_div_euclid}
use Rattle.std.specs.List.{list_all}
use Rattle.std.proofs.lemmas.Bool.{and_from, lt-ltb, ltb-true}
use Rattle.std.proofs.lemmas.List.Folds.{list_all-append}
use Rattle.lin_atoms.specs.Linear.{lin_is_below}
use Rattle.lin_atoms.specs.Truth.{lit_is_below}
use Rattle.lin_atoms.specs.declared.lit.Lit.{Lit}
use Rattle.lin_atoms.specs.declared.lit.Lit.TheVariants.{Le, Eq, Div, NDiv}
use Rattle.lin_atoms.proofs.Public.{both_true}
use Rattle.int_rows.specs.Node.{all_bounds, bounds_of, end_of_quotients, has_row, in_rows, quotients}
use Rattle.int_rows.specs.Ready.{bounded, lin_content, ready}
use Rattle.int_rows.specs.declared.bounds.Bounded.{Bounded}
use Rattle.int_rows.specs.declared.bounds.Ready.TheVariants.{Truth, Bounds}
use Rattle.lia_node.specs.Known.{are_known}
use Rattle.lia_node.specs.machinery.Columns.{is_said_below}

pub terms-weaker : (m n : ℕ) (ts : List (ℕ × ℤ)) → m ≤ n → list_all (λ (t : ℕ × ℤ). nat_lt t.0 m) ts ≡ true → list_all (λ (t : ℕ × ℤ). nat_lt t.0 n) ts ≡ true
terms-weaker m n [] le h = refl
terms-weaker m n (t ∷ ts) le h =
    let both = both_true (nat_lt t.0 m) _ h in
    let less : t.0 < m = ltb-true _ _ both.0 in
    and_from _ _ (lt-ltb t.0 n (omega (arith, less, le))) (terms-weaker m n ts le both.1)

terms-divided : (n : ℕ) (d : ℤ) (ts : List (ℕ × ℤ)) → list_all (λ (t : ℕ × ℤ). nat_lt t.0 n) ts ≡ true → list_all (λ (t : ℕ × ℤ). nat_lt t.0 n) (map (λ (t : ℕ × ℤ). (t.0, int_div_euclid t.1 d)) ts) ≡ true
terms-divided n d [] h = refl
terms-divided n d (t ∷ ts) h = let both = both_true (nat_lt t.0 n) _ h in and_from _ _ both.0 (terms-divided n d ts both.1)

terms-last : (q : ℕ) (a : ℤ) (ts : List (ℕ × ℤ)) → list_all (λ (t : ℕ × ℤ). nat_lt t.0 q) ts ≡ true → list_all (λ (t : ℕ × ℤ). nat_lt t.0 (q + 1)) (ts ++ (q, a) ∷ []) ≡ true
terms-last q a ts h =
    list_all-append (λ (t : ℕ × ℤ). nat_lt t.0 (q + 1)) ts ((q, a) ∷ []) ∙ and_from _ _ (terms-weaker q (q + 1) ts (omega arith) h) (and_from _ _ (lt-ltb q (q + 1) (omega arith)) refl)

said-tight : (q : ℕ) (truth : Bool) (made : Bounded) (b : Bool) → is_said_below q made ≡ true → list_all (is_said_below q) (bounds_of (cond b (Truth truth) (Bounds made))) ≡ true
said-tight q truth made true h = refl
said-tight q truth made false h = and_from _ _ h refl

said-division : (q : ℕ) (truth : Bool) (made : Bounded) (b : Bool) → is_said_below (q + 1) made ≡ true → list_all (is_said_below (q + cond b 0 1)) (bounds_of (cond b (Truth truth) (Bounds made))) ≡ true
said-division q truth made true h = refl
said-division q truth made false h = and_from _ _ h refl

said-weaker : (m n : ℕ) (bs : List Bounded) → m ≤ n → list_all (is_said_below m) bs ≡ true → list_all (is_said_below n) bs ≡ true
said-weaker m n [] le h = refl
said-weaker m n (b ∷ bs) le h = let both = both_true (is_said_below m b) _ h in and_from _ _ (terms-weaker m n b.form.terms le both.0) (said-weaker m n bs le both.1)

pub said-below : (q : ℕ) (lit : Lit) → lit_is_below q lit ≡ true → list_all (is_said_below (q + quotients lit)) (bounds_of (ready q lit)) ≡ true
said-below q (Le lin) h = said-weaker q (q + 0) (bounds_of (ready q (Le lin))) (omega arith) (said-tight q _ (bounded q (Le lin)) (length lin.terms == 0) (terms-divided q (pos (lin_content lin)) lin.terms h))
said-below q (Eq lin) h = said-weaker q (q + 0) (bounds_of (ready q (Eq lin))) (omega arith) (said-tight q _ (bounded q (Eq lin)) (length lin.terms == 0) (terms-divided q (pos (lin_content lin)) lin.terms h))
said-below q (Div n lin) h = said-division q _ (bounded q (Div n lin)) (length lin.terms == 0) (terms-last q (neg_ℤ (pos n)) lin.terms h)
said-below q (NDiv n lin) h = said-division q _ (bounded q (NDiv n lin)) (length lin.terms == 0) (terms-last q (neg_ℤ (pos n)) lin.terms h)

pub ends-more : (q : ℕ) (lits : List Lit) → q ≤ end_of_quotients q lits
ends-more q [] = omega arith
ends-more q (lit ∷ lits) = let rest = ends-more (q + quotients lit) lits in omega (arith, rest)

-- all that is said speaks of variables and quotients
pub all-below : (q : ℕ) (lits : List Lit) → are_known q lits ≡ true → list_all (is_said_below (end_of_quotients q lits)) (all_bounds q lits) ≡ true
all-below q [] h = refl
all-below q (lit ∷ lits) h =
    let both = both_true (lit_is_below q lit) _ h in
    let n = end_of_quotients q (lit ∷ lits) in
    let here = said-weaker (q + quotients lit) n (bounds_of (ready q lit)) (ends-more (q + quotients lit) lits) (said-below q lit both.0) in
    list_all-append (is_said_below n) (bounds_of (ready q lit)) (all_bounds (q + quotients lit) lits) ∙ and_from _ _ here (all-below (q + quotients lit) lits both.1)

kept-step : (n : ℕ) (b : Bounded) (bs : List Bounded) (test : Bool) → has_row b ≡ test → is_said_below n b ≡ true → list_all (lin_is_below n) (map (λ c. c.form) (in_rows bs)) ≡ true → list_all (lin_is_below n) (map (λ c. c.form) (in_rows (b ∷ bs))) ≡ true
kept-step n b bs true e here rest = rw e (and_from _ _ here rest)
kept-step n b bs false e here rest = rw e rest

-- and so do the forms of the rows
pub rows-below : (n : ℕ) (bs : List Bounded) → list_all (is_said_below n) bs ≡ true → list_all (lin_is_below n) (map (λ b. b.form) (in_rows bs)) ≡ true
rows-below n [] h = refl
rows-below n (b ∷ bs) h = let both = both_true (is_said_below n b) _ h in kept-step n b bs (has_row b) refl both.0 (rows-below n bs both.1)
