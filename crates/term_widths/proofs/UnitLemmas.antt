-- Coefficients as what terms are worth at points that are 1 at one variable and 0 at the others.
use Rattle.std.proofs.Common.{◌≡◌, ℕ, zero, suc, ◌+◌, ◌<◌, ◌≤◌, ◌==◌, List, [], ◌∷◌, ◌++◌, Bool, true, not, ◌&&◌, inl, inr, refl, ap, sym, ◌∙◌, arith}
use Rattle.std.specs.Prelude.{ℤ, pos, ◌+ℤ◌, ◌*ℤ◌}
use Rattle.std.specs.List.{list_all}
use Rattle.std.proofs.lemmas.Int.{ints}
use Rattle.std.proofs.lemmas.Bool.{cases_eq}
use Rattle.term_tree.proofs.Public.{eqb_self}
use Rattle.lin_atoms.specs.Linear.{are_ordered, are_short, is_short, sum_at, variable_at}
use Rattle.lin_atoms.specs.Algebra.{collected}
use Rattle.lin_atoms.proofs.Public.{both_true, collected-ordered, ordered, sum_at-++}
use Rattle.lin_atoms.proofs.TermLemmas.{sum_at-collected}

-- 1 at this variable, and 0 at every other one
abbrev pub unit : ℕ → List ℤ
unit zero = pos 1 ∷ []
unit (suc v) = pos 0 ∷ unit v

pub unit_self : (v : ℕ) → variable_at (unit v) v ≡ pos 1
unit_self zero = refl
unit_self (suc v) = unit_self v

pub unit_other : (v u : ℕ) → (v ≡ u → ⊥) → variable_at (unit v) u ≡ pos 0
unit_other zero zero differ = absurd (differ refl)
unit_other zero (suc u) differ = refl
unit_other (suc v) zero differ = refl
unit_other (suc v) (suc u) differ = unit_other v u (λ e. differ (ap suc e))

-- nothing at a variable below all
pub times_zero : (x : ℤ) → x *ℤ pos 0 ≡ pos 0
times_zero x = omega (arith, ints)

times_one : (x : ℤ) → x *ℤ pos 1 ≡ x
times_one x = omega (arith, ints)

pub worth_of_absent : (v from : ℕ) (ts : List (ℕ × ℤ)) → v < from → are_ordered from ts ≡ true → sum_at (unit v) ts ≡ pos 0
worth_of_absent v from [] less h = refl
worth_of_absent v from (t ∷ ts) less h =
    let o = ordered from t ts h in
    let at_least : from ≤ t.0 = o.above in
    let here : t.1 *ℤ variable_at (unit v) t.0 ≡ pos 0 = ap (λ (x : ℤ). t.1 *ℤ x) (unit_other v t.0 (λ e. absurd (omega (arith, e)))) ∙ times_zero t.1 in
    let rest : sum_at (unit v) ts ≡ pos 0 = worth_of_absent v (t.0 + 1) ts (omega arith) o.rest in
    omega (arith, ints)

-- at the first variable
pub worth_of_first : (from : ℕ) (t : ℕ × ℤ) (ts : List (ℕ × ℤ)) → are_ordered from (t ∷ ts) ≡ true → sum_at (unit t.0) (t ∷ ts) ≡ t.1
worth_of_first from t ts h =
    let o = ordered from t ts h in
    let here : t.1 *ℤ variable_at (unit t.0) t.0 ≡ t.1 = ap (λ (x : ℤ). t.1 *ℤ x) (unit_self t.0) ∙ times_one t.1 in
    let rest : sum_at (unit t.0) ts ≡ pos 0 = worth_of_absent t.0 (t.0 + 1) ts (omega arith) o.rest in
    omega (arith, ints)

-- at another one
pub worth_behind : (v : ℕ) (t : ℕ × ℤ) (ts : List (ℕ × ℤ)) → (v ≡ t.0 → ⊥) → sum_at (unit v) (t ∷ ts) ≡ sum_at (unit v) ts
worth_behind v t ts differ =
    let here : t.1 *ℤ variable_at (unit v) t.0 ≡ pos 0 = ap (λ (x : ℤ). t.1 *ℤ x) (unit_other v t.0 differ) ∙ times_zero t.1 in
    omega (arith, ints)

pub short_by_units : (from : ℕ) (ts : List (ℕ × ℤ)) → are_ordered from ts ≡ true → ((v : ℕ) → is_short (sum_at (unit v) ts) ≡ true) → are_short ts ≡ true
short_by_units from [] h each = refl
short_by_units from (t ∷ ts) h each =
    let o = ordered from t ts h in
    let first : sum_at (unit t.0) (t ∷ ts) ≡ t.1 = worth_of_first from t ts h in
    let here : is_short t.1 ≡ true = sym (ap is_short first) ∙ each t.0 in
    ap (λ (b : Bool). b && are_short ts) here
    ∙ short_by_units (t.0 + 1) ts o.rest (λ v. elim (cases_eq v t.0) [
      | inl same ↦ ap is_short (worth_of_absent v (t.0 + 1) ts (omega (arith, same)) o.rest)
      | inr differ ↦ sym (ap is_short (worth_behind v t ts differ)) ∙ each v
    ])

pub units_are_short : (from : ℕ) (ts : List (ℕ × ℤ)) → are_ordered from ts ≡ true → are_short ts ≡ true → (v : ℕ) → is_short (sum_at (unit v) ts) ≡ true
units_are_short from [] h short v = refl
units_are_short from (t ∷ ts) h short v =
    let o = ordered from t ts h in
    let both = both_true (is_short t.1) (are_short ts) short in
    elim (cases_eq v t.0) [
      | inl same ↦ ap (λ (u : ℕ). is_short (sum_at (unit u) (t ∷ ts))) same ∙ ap is_short (worth_of_first from t ts h) ∙ both.0
      | inr differ ↦ ap is_short (worth_behind v t ts differ) ∙ units_are_short (t.0 + 1) ts o.rest both.1 v
    ]

-- a variable that doesn't occur has none
pub worth_without : (v : ℕ) (ts : List (ℕ × ℤ)) → list_all (λ t. not (t.0 == v)) ts ≡ true → sum_at (unit v) ts ≡ pos 0
worth_without v [] h = refl
worth_without v (t ∷ ts) h =
    let both = both_true (not (t.0 == v)) (list_all (λ u. not (u.0 == v)) ts) h in
    worth_behind v t ts (λ same. own_differs (t.0 == v) both.0 (ap (λ (k : ℕ). t.0 == k) same ∙ eqb_self t.0)) ∙ worth_without v ts both.1
  where
    own_differs : (b : Bool) → not b ≡ true → b ≡ true → ⊥
    own_differs b isnt is = absurd (cc)

-- terms of two lists, of which the coefficients of each variable add up to short numbers
pub sums_short : (xs ys : List (ℕ × ℤ)) → ((u : ℕ) → is_short (sum_at (unit u) xs +ℤ sum_at (unit u) ys) ≡ true) → are_short (collected (xs ++ ys)) ≡ true
sums_short xs ys each =
    short_by_units 0 (collected (xs ++ ys)) (collected-ordered (xs ++ ys)) (λ u. ap is_short (sum_at-collected (unit u) (xs ++ ys) ∙ sum_at-++ (unit u) xs ys) ∙ each u)
