-- Greatest common divisors by Euclid's algorithm, and least common multiples.
use Rattle.std.proofs.Common.{◌≡◌, ◌<◌, ◌≤◌, ◌*◌, ◌/◌, ◌%◌, ℕ, suc, zero, List, [], ◌∷◌, refl, ap, sym, ◌∙◌, subst, arith, true, false, Bool, ◌==◌, cond}
use Rattle.std.specs.Int.{◌∣◌, IsGcd}
use Rattle.std.proofs.Math.Nat.{div-mul_cancel, dvd-mul_left_of_dvd, mul-le-mul_left}
use Rattle.std.proofs.lemmas.Nat.Gcd.{IsGcd-from_mod, IsGcd-from_zero, dvd_refl, dvd_trans, same_from_IsGcd}
use Rattle.std.proofs.lemmas.Bool.{eqb-true, eqb-false, ltb-true}
use Rattle.std.specs.List.{list_all}
use Rattle.lin_atoms.proofs.Public.{both_true}
use Rattle.lin_atoms.specs.declared.lit.Lit.{Lit}
use Rattle.model_project.specs.Elimination.{divisor, gcd_in, greatest_divisor, least_multiple, period}
use Rattle.model_project.specs.Substitution.{occurs}
use Rattle.model_project.specs.machinery.Steps.{has_divisor}

gcd_step : (turns a b : ℕ) (c : Bool) → (b == 0) ≡ c → b < suc turns → ((x y : ℕ) → y < turns → IsGcd x y (gcd_in turns x y)) → IsGcd a b (cond c a (gcd_in turns b (a % b)))
gcd_step turns a b true e h rest = IsGcd-from_zero a b (eqb-true _ _ e)
gcd_step turns a b false e h rest =
    let some : 0 < b = omega (arith, eqb-false _ _ e) in
    let less : a % b < b = omega (arith, some) in
    IsGcd-from_mod a b (gcd_in turns b (a % b)) (rest b (a % b) (omega (arith, less, h)))

gcd_turns : (turns a b : ℕ) → b < turns → IsGcd a b (gcd_in turns a b)
gcd_turns zero a b h = absurd (omega arith)
gcd_turns (suc turns) a b h = gcd_step turns a b (b == 0) refl h (gcd_turns turns)

pub greatest_divisor_is : (a b : ℕ) → IsGcd a b (greatest_divisor a b)
unfolding greatest_divisor
greatest_divisor_is a b = gcd_turns (suc b) a b (omega arith)

pub same_divisor : (a b g : ℕ) → IsGcd a b g → g ≡ greatest_divisor a b
same_divisor a b g is = same_from_IsGcd a b g (greatest_divisor a b) is (greatest_divisor_is a b)

pub least_multiple_by : (a b g : ℕ) → IsGcd a b g → least_multiple a b ≡ a * (b / g)
unfolding least_multiple
least_multiple_by a b g is = ap (λ n. a * (b / n)) (sym (same_divisor a b g is))

pub first-dvd : (a b : ℕ) → a ∣ least_multiple a b
unfolding least_multiple
first-dvd a b = let turned : b / greatest_divisor a b * a ≡ a * (b / greatest_divisor a b) = omega arith in subst (λ n. a ∣ n) turned (dvd-mul_left_of_dvd a (dvd_refl a) (b / greatest_divisor a b))

pub second-dvd : (a b : ℕ) → b ∣ least_multiple a b
unfolding least_multiple
second-dvd a b =
    let g = greatest_divisor a b in
    let is = greatest_divisor_is a b in
    let whole : a / g * g ≡ a = div-mul_cancel g is.0 in
    let other : b / g * g ≡ b = div-mul_cancel g is.1 in
    let grouped : a / g * (b / g * g) ≡ a / g * g * (b / g) = omega arith in
    let turned : a / g * b ≡ a * (b / g) = ap (λ n. a / g * n) (sym other) ∙ grouped ∙ ap (λ n. n * (b / g)) whole in
    subst (λ n. b ∣ n) turned (dvd-mul_left_of_dvd b (dvd_refl b) (a / g))

by_quotient : (q g b : ℕ) → q * g ≡ b → 0 < b → 0 < q
by_quotient zero g b e some = absurd (omega arith)
by_quotient (suc q) g b e some = omega arith

quotient-some : (g b : ℕ) → g ∣ b → 0 < b → 0 < b / g
quotient-some g b divides some =
    let whole : b / g * g ≡ b = div-mul_cancel g divides in
    by_quotient (b / g) g b whole some

-- it is no less than the first number
pub least_multiple-le : (a b : ℕ) → 0 < b → a ≤ least_multiple a b
unfolding least_multiple
least_multiple-le a b some =
    let g = greatest_divisor a b in
    let one : 1 ≤ b / g = quotient-some g b (greatest_divisor_is a b).1 some in
    let le : a * 1 ≤ a * (b / g) = mul-le-mul_left a one in
    omega (arith, le)

-- each divisor of a literal in which v occurs divides the number
abbrev pub Divides : ℕ → ℕ → List Lit → Type 0
Divides n v [] = Unit {0}
Divides n v (lit ∷ lits) = (occurs v lit ≡ true → divisor lit ∣ n) × Divides n v lits

divides-more : (n m v : ℕ) (lits : List Lit) → n ∣ m → Divides n v lits → Divides m v lits
divides-more n m v [] h d = tt
divides-more n m v (lit ∷ lits) h d = (λ e. dvd_trans (divisor lit) (d.0 e) h, divides-more n m v lits h d.1)

period_here : (v : ℕ) (lit : Lit) (lits : List Lit) (b : Bool) → occurs v lit ≡ b → Divides (period v lits) v lits → Divides (cond b (least_multiple (period v lits) (divisor lit)) (period v lits)) v (lit ∷ lits)
period_here v lit lits true e rest = (λ t. second-dvd (period v lits) (divisor lit), divides-more (period v lits) _ v lits (first-dvd (period v lits) (divisor lit)) rest)
period_here v lit lits false e rest = (λ t. absurd (cc), rest)

pub period_divides : (v : ℕ) (lits : List Lit) → Divides (period v lits) v lits
period_divides v [] = tt
period_divides v (lit ∷ lits) = period_here v lit lits (occurs v lit) refl (period_divides v lits)

-- the divisors are above 0, and so is the period
period_above : (v : ℕ) (lit : Lit) (lits : List Lit) (b : Bool) → 0 < divisor lit → 0 < period v lits → 0 < cond b (least_multiple (period v lits) (divisor lit)) (period v lits)
period_above v lit lits true some rest = let le = least_multiple-le (period v lits) (divisor lit) some in omega (arith, le, rest)
period_above v lit lits false some rest = rest

pub period_some : (v : ℕ) (lits : List Lit) → list_all has_divisor lits ≡ true → 0 < period v lits
period_some v [] h = omega arith
period_some v (lit ∷ lits) h =
    let both = both_true (has_divisor lit) _ h in
    period_above v lit lits (occurs v lit) (ltb-true _ _ both.0) (period_some v lits both.1)
