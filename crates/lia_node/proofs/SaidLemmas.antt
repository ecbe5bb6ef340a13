-- A literal is true where what it says holds.
use Rattle.std.proofs.Common.{◌≡◌, ℕ, List, [], ◌∷◌, refl, ap, sym, ◌∙◌, arith, ◌<◌, ◌+◌, true, false, Bool, cond, ◌==◌, length}
use Rattle.std.specs.Prelude.{ℤ, pos, neg_ℤ, ◌+ℤ◌, ◌-ℤ◌, ◌*ℤ◌, ◌≤ℤ◌, int_le, nat_abs, nat_lt, not, ◌||◌}
use Rattle.std.specs.Int.{int_rem_euclid}
use Rattle.std.specs.List.{list_all}
use Rattle.std.proofs.Math.IntN.{*ℤ_comm}
use Rattle.std.proofs.lemmas.Bool.{and_from, ltb-true}
use Rattle.std.proofs.lemmas.Int.{ints}
use Rattle.std.proofs.lemmas.List.Folds.{list_all-append}
use Rattle.base.proofs.Public.{neg_ℤ-*ℤ}
use Rattle.lin_atoms.specs.Linear.{Linear, sum_at, value_at, variable_at}
use Rattle.lin_atoms.specs.Multiples.{is_multiple}
use Rattle.lin_atoms.specs.Truth.{lit_truth}
use Rattle.lin_atoms.specs.declared.lit.Lit.{Lit}
use Rattle.lin_atoms.specs.declared.lit.Lit.TheVariants.{Le, Eq, Div, NDiv}
use Rattle.lin_atoms.proofs.Public.{both_true, sum_at-++}
use Rattle.int_rows.specs.Node.{all_bounds, bounds_of, quotients}
use Rattle.int_rows.specs.Ready.{between, bounded, is_bounded_at, less_multiple, ready, ready_truth}
use Rattle.int_rows.specs.declared.bounds.Bounded.{Bounded}
use Rattle.int_rows.specs.declared.bounds.Ready.TheVariants.{Truth, Bounds}
use Rattle.int_rows.proofs.ReadyLemmas.{le-true, ready-eq, ready-le, true-zero, zero-true}
use Rattle.lin_atoms.proofs.DivisionLemmas.{multiple_where, rest_is}
use Rattle.lia_node.specs.Known.{is_legal}
use Rattle.lia_node.specs.Whole.{is_met}
use Rattle.lia_node.proofs.FitLemmas.{linear-parts}

multiple-true : (v x : ℤ) (n : ℕ) → 0 < n → v ≡ x *ℤ pos n → is_multiple (pos n) v ≡ true
multiple-true v x n some e =
    let whole : x *ℤ pos n +ℤ pos 0 ≡ v = omega (arith, ints, e) in
    sym (multiple_where v n some) ∙ zero-true (int_rem_euclid v (pos n)) (rest_is v x n 0 whole some)

not-false : (b : Bool) → (b ≡ true → ⊥) → not b ≡ true
not-false true h = absurd (h refl)
not-false false h = refl

-- the rest by a quotient lies between two numbers
rest-at : (low high : ℤ) (q n : ℕ) (p : List ℤ) (lin : Linear) → is_bounded_at p (between low high (less_multiple n q lin)) ≡ true
    → (low ≤ℤ (value_at p lin -ℤ variable_at p q *ℤ pos n)) × ((value_at p lin -ℤ variable_at p q *ℤ pos n) ≤ℤ high)
rest-at low high q n p lin t =
    let x = variable_at p q in
    let s = sum_at p (less_multiple n q lin).terms in
    let parts = sum_at-++ p lin.terms ((q, neg_ℤ (pos n)) ∷ []) in
    let here : neg_ℤ (pos n) *ℤ x ≡ neg_ℤ (x *ℤ pos n) = neg_ℤ-*ℤ (pos n) x ∙ ap neg_ℤ (*ℤ_comm (pos n) x) in
    let both = both_true (int_le (low -ℤ lin.constant) s) _ t in
    let first = le-true (low -ℤ lin.constant) s both.0 in
    let second = le-true s (high -ℤ lin.constant) both.1 in
    (omega (arith, ints, parts, here, first), omega (arith, ints, parts, here, second))

div-from : (q n : ℕ) (p : List ℤ) (lin : Linear) → 0 < n → is_bounded_at p (bounded q (Div n lin)) ≡ true → lit_truth p (Div n lin) ≡ true
div-from q n p lin some t =
    let both = rest-at (pos 0) (pos 0) q n p lin t in
    multiple-true (value_at p lin) (variable_at p q) n some (omega (arith, ints, both))

ndiv-from : (q n : ℕ) (p : List ℤ) (lin : Linear) → 0 < n → is_bounded_at p (bounded q (NDiv n lin)) ≡ true → lit_truth p (NDiv n lin) ≡ true
ndiv-from q n p lin some t =
    let v = value_at p lin in
    let x = variable_at p q in
    let both = rest-at (pos 1) (pos n -ℤ pos 1) q n p lin t in
    let r = nat_abs (v -ℤ x *ℤ pos n) in
    let whole : x *ℤ pos n +ℤ pos r ≡ v = omega (arith, ints, both) in
    let small : r < n = omega (arith, ints, both) in
    let rest = rest_is v x n r whole small in
    not-false (is_multiple (pos n) v) (λ yes. let none = true-zero (int_rem_euclid v (pos n)) (multiple_where v n some ∙ yes) in let some_rest : r ≡ 0 = omega (arith, ints, rest, none) in absurd (omega (arith, ints, both, some_rest)))

-- by cases on whether there is a variable
by-variable : (p : List ℤ) (b t : Bool) (made : Bounded) (truth : Bool) → list_all (is_bounded_at p) (bounds_of (cond b (Truth t) (Bounds made))) ≡ true → (b ≡ false → is_bounded_at p made ≡ true → truth ≡ true) → (b || truth) ≡ true
by-variable p true t made truth h some = refl
by-variable p false t made truth h some = some refl (both_true (is_bounded_at p made) _ h).0

-- a literal is true, or has no variable, where what it says holds
pub said-lit : (q : ℕ) (p : List ℤ) (lit : Lit) → is_legal lit ≡ true → list_all (is_bounded_at p) (bounds_of (ready q lit)) ≡ true → is_met p lit ≡ true
said-lit q p (Le lin) legal h =
    let t = lit_truth [] (Le lin) in
    let made = bounded q (Le lin) in
    by-variable p (length lin.terms == 0) t made (lit_truth p (Le lin)) h
    (λ e holds. sym (ready-le q p lin (linear-parts lin legal).0) ∙ ap (λ b. ready_truth p (cond b (Truth t) (Bounds made))) e ∙ holds)
said-lit q p (Eq lin) legal h =
    let t = lit_truth [] (Eq lin) in
    let made = bounded q (Eq lin) in
    by-variable p (length lin.terms == 0) t made (lit_truth p (Eq lin)) h
    (λ e holds. sym (ready-eq q p lin (linear-parts lin legal).0) ∙ ap (λ b. ready_truth p (cond b (Truth t) (Bounds made))) e ∙ holds)
said-lit q p (Div n lin) legal h =
    by-variable p (length lin.terms == 0) (lit_truth [] (Div n lin)) (bounded q (Div n lin)) (lit_truth p (Div n lin)) h
    (λ e holds. div-from q n p lin (ltb-true _ _ (both_true (nat_lt 0 n) _ legal).0) holds)
said-lit q p (NDiv n lin) legal h =
    by-variable p (length lin.terms == 0) (lit_truth [] (NDiv n lin)) (bounded q (NDiv n lin)) (lit_truth p (NDiv n lin)) h
    (λ e holds. ndiv-from q n p lin (ltb-true _ _ (both_true (nat_lt 0 n) _ legal).0) holds)

pub said-lits : (q : ℕ) (p : List ℤ) (lits : List Lit) → list_all is_legal lits ≡ true → list_all (is_bounded_at p) (all_bounds q lits) ≡ true → list_all (is_met p) lits ≡ true
said-lits q p [] legal h = refl
said-lits q p (lit ∷ lits) legal h =
    let both = both_true (is_legal lit) _ legal in
    let apart = sym (list_all-append (is_bounded_at p) (bounds_of (ready q lit)) (all_bounds (q + quotients lit) lits)) ∙ h in
    let parts = both_true (list_all (is_bounded_at p) (bounds_of (ready q lit))) _ apart in
    and_from _ _ (said-lit q p lit both.0 parts.0) (said-lits (q + quotients lit) p lits both.1 parts.1)
