-- Which forms have room.
use Rattle.std.proofs.Common.{◌≡◌, ℕ, ◌+◌, ◌*◌, ◌<◌, ◌≤◌, ◌^◌, List, [], ◌∷◌, ◌++◌, length, Bool, true, false, ◌&&◌, inl, inr, refl, ap, sym, ◌∙◌, subst, arith}
use Rattle.std.specs.Prelude.{ℤ, pos, negsuc, neg_ℤ, nat_abs, nat_le, ◌+ℤ◌, ◌*ℤ◌, ◌==◌, if◌then◌else◌}
use Rattle.std.proofs.lemmas.Int.{ints}
use Rattle.std.proofs.lemmas.Bool.{cases_eq, leb-true, ltb-true, lt-ltb}
use Rattle.lin_atoms.specs.Linear.{Linear, are_ordered, are_short, fits, is_long, is_short, sum_at, variable_at}
use Rattle.lin_atoms.specs.Algebra.{added, are_within, collected, negated_terms, plus, scaled, term_on}
use Rattle.base.proofs.Public.{neg_ℤ-*ℤ}
use Rattle.lin_atoms.proofs.Public.{both_true, value_at-negated, within-collected}
use Rattle.lin_atoms.proofs.TermLemmas.{sum_at-term_on}
use Rattle.linear_terms.specs.Linear.{all_constants, all_terms, is_narrow, less, sum_form, variable_form}
use Rattle.term_widths.proofs.UnitLemmas.{sums_short, unit, unit_other, unit_self, units_are_short, worth_without}
use Rattle.term_formulas.specs.machinery.Parts.{AreBits, IsApart, IsBit}

pub both : (a b : Bool) → a ≡ true → b ≡ true → (a && b) ≡ true
both true b h is = is
both false b h is = h

long_sum : (a b : ℤ) → is_short a ≡ true → is_short b ≡ true → is_long (a +ℤ b) ≡ true
long_sum a b x y =
    let p : nat_abs a < 2 ^ 63 = ltb-true _ _ x in
    let q : nat_abs b < 2 ^ 63 = ltb-true _ _ y in
    lt-ltb _ _ (omega (arith, ints))

-- a constant below 2^63 and a number below 2^63 are below 2^64 together
pub moved_fits : (lin : Linear) (k : ℤ) → is_narrow lin ≡ true → is_short k ≡ true → fits (plus lin k) ≡ true
moved_fits lin k narrow short =
    let parts = both_true (are_short lin.terms) (is_short lin.constant) narrow in both (are_short lin.terms) (is_long (lin.constant +ℤ k)) parts.0 (long_sum lin.constant k parts.1 short)

within-short : (m : ℕ) (ts : List (ℕ × ℤ)) → m < 2 ^ 63 → are_within m ts ≡ true → are_short ts ≡ true
within-short m [] h is = refl
within-short m (t ∷ ts) h is =
    let parts = both_true (nat_le (nat_abs t.1) m) _ is in
    let le : nat_abs t.1 ≤ m = leb-true _ _ parts.0 in
    both (is_short t.1) (are_short ts) (lt-ltb _ _ (omega (arith, le))) (within-short m ts h parts.1)

within_both : (m : ℕ) (xs ys : List (ℕ × ℤ)) → are_within m xs ≡ true → are_within m ys ≡ true → are_within m (xs ++ ys) ≡ true
within_both m [] ys h is = is
within_both m (x ∷ xs) ys h is =
    let parts = both_true (nat_le (nat_abs x.1) m) (are_within m xs) h in both (nat_le (nat_abs x.1) m) (are_within m (xs ++ ys)) parts.0 (within_both m xs ys parts.1 is)

-- a bit has one term at most, with the coefficient 1, and the constant 0 or 1
pub record IsSmall (n : ℕ) (ts : List (ℕ × ℤ)) (constant : ℤ) : Type 0 where
  pub within : are_within 1 ts ≡ true
  pub few : length {A = ℕ × ℤ} ts ≤ n
  pub low : nat_abs constant ≤ n

bit_small : (form : Linear) → IsBit form → IsSmall 1 form.terms form.constant
bit_small form (inl x) = subst (λ (f : Linear). IsSmall 1 f.terms f.constant) (sym x.1) (record { within = refl; few = omega arith; low = omega arith })
bit_small form (inr (inl x)) = subst (λ (f : Linear). IsSmall 1 f.terms f.constant) (sym x) (record { within = refl; few = omega arith; low = omega arith })
bit_small form (inr (inr x)) = subst (λ (f : Linear). IsSmall 1 f.terms f.constant) (sym x) (record { within = refl; few = omega arith; low = omega arith })

length_both : (xs ys : List (ℕ × ℤ)) → length {A = ℕ × ℤ} (xs ++ ys) ≡ length {A = ℕ × ℤ} xs + length {A = ℕ × ℤ} ys
length_both [] ys = omega arith
length_both (x ∷ xs) ys = let rest = length_both xs ys in omega (arith, rest)

bits_small : (bits : List Linear) → AreBits bits → IsSmall (length bits) (all_terms bits) (all_constants bits)
bits_small [] are = record { within = refl; few = omega arith; low = omega arith }
bits_small (bit ∷ bits) are =
    let first = bit_small bit are.0 in
    let rest = bits_small bits are.1 in
    record {
      within = within_both 1 bit.terms (all_terms bits) first.within rest.within;
      few = omega (arith, first.few, rest.few, length_both bit.terms (all_terms bits));
      low = omega (arith, sums_low bit.constant (all_constants bits) (length bits) first.low rest.low);
    }
  where
    sums_low : (a b : ℤ) (n : ℕ) → nat_abs a ≤ 1 → nat_abs b ≤ n → nat_abs (a +ℤ b) ≤ n + 1
    sums_low a b n x y = omega (arith, ints)

-- no coefficient of a sum of bits is above their number, nor is the constant
pub bits_narrow : (bits : List Linear) → AreBits bits → length bits < 2 ^ 63 → is_narrow (sum_form bits) ≡ true
bits_narrow bits are few =
    let small = bits_small bits are in
    let count : length {A = ℕ × ℤ} (all_terms bits) * 1 < 2 ^ 63 = omega (arith, small.few, few) in
    both (are_short (collected (all_terms bits))) (is_short (all_constants bits))
    (within-short (length {A = ℕ × ℤ} (all_terms bits) * 1) (collected (all_terms bits)) count (within-collected 1 (all_terms bits) small.within))
    (lt-ltb _ _ (omega (arith, small.low, few)))

pub bit_narrow : (lin : Linear) → IsBit lin → is_narrow lin ≡ true
bit_narrow lin is =
    let small = bit_small lin is in
    both (are_short lin.terms) (is_short lin.constant) (within-short 1 lin.terms (omega arith) small.within) (lt-ltb _ _ (omega (arith, small.low)))

sum_within : (xs ys : List (ℕ × ℤ)) → are_within 1 xs ≡ true → are_within 1 ys ≡ true → length {A = ℕ × ℤ} xs ≤ 1 → length {A = ℕ × ℤ} ys ≤ 1 → are_short (collected (xs ++ ys)) ≡ true
sum_within xs ys x y first second =
    let count : length {A = ℕ × ℤ} (xs ++ ys) * 1 < 2 ^ 63 = omega (arith, length_both xs ys, first, second) in
    within-short (length {A = ℕ × ℤ} (xs ++ ys) * 1) (collected (xs ++ ys)) count (within-collected 1 (xs ++ ys) (within_both 1 xs ys x y))

same_size : (k : ℤ) → nat_abs (neg_ℤ k) ≡ nat_abs k
same_size k = omega (arith, ints)

negated_within : (m : ℕ) (ts : List (ℕ × ℤ)) → are_within m ts ≡ true → are_within m (negated_terms ts) ≡ true
negated_within m [] h = refl
negated_within m (t ∷ ts) h =
    let parts = both_true (nat_le (nat_abs t.1) m) (are_within m ts) h in
    both (nat_le (nat_abs (neg_ℤ t.1)) m) (are_within m (negated_terms ts)) (ap (λ (n : ℕ). nat_le n m) (same_size t.1) ∙ parts.0) (negated_within m ts parts.1)

length_negated : (ts : List (ℕ × ℤ)) → length {A = ℕ × ℤ} (negated_terms ts) ≡ length {A = ℕ × ℤ} ts
length_negated [] = refl
length_negated (t ∷ ts) = let rest = length_negated ts in omega (arith, rest)

-- the sum of two, the sum less 1, and the difference
pub two_bits_add : (a b : Linear) → IsBit a → IsBit b → fits (added a b) ≡ true
two_bits_add a b x y =
    let first = bit_small a x in
    let second = bit_small b y in
    both (are_short (collected (a.terms ++ b.terms))) (is_long (a.constant +ℤ b.constant))
    (sum_within a.terms b.terms first.within second.within first.few second.few) (sum_low a.constant b.constant first.low second.low)
  where
    sum_low : (m n : ℤ) → nat_abs m ≤ 1 → nat_abs n ≤ 1 → is_long (m +ℤ n) ≡ true
    sum_low m n x y = lt-ltb _ _ (omega (arith, ints))

pub two_bits_fit : (a b : Linear) → IsBit a → IsBit b → fits (plus (added a b) (negsuc 0)) ≡ true
two_bits_fit a b x y =
    let first = bit_small a x in
    let second = bit_small b y in
    both (are_short (collected (a.terms ++ b.terms))) (is_long ((a.constant +ℤ b.constant) +ℤ negsuc 0))
    (sum_within a.terms b.terms first.within second.within first.few second.few) (sum_low a.constant b.constant first.low second.low)
  where
    sum_low : (m n : ℤ) → nat_abs m ≤ 1 → nat_abs n ≤ 1 → is_long ((m +ℤ n) +ℤ negsuc 0) ≡ true
    sum_low m n x y = lt-ltb _ _ (omega (arith, ints))

pub two_bits_differ : (a b : Linear) → IsBit a → IsBit b → is_narrow (less a b) ≡ true
two_bits_differ a b x y =
    let first = bit_small a x in
    let second = bit_small b y in
    let few = second.few in
    let turned_few : length {A = ℕ × ℤ} (negated_terms b.terms) ≤ 1 = omega (arith, length_negated b.terms, few) in
    both (are_short (collected (a.terms ++ negated_terms b.terms))) (is_short (a.constant +ℤ neg_ℤ b.constant))
    (sum_within a.terms (negated_terms b.terms) first.within (negated_within 1 b.terms second.within) first.few turned_few)
    (difference_low a.constant b.constant first.low second.low)
  where
    difference_low : (m n : ℤ) → nat_abs m ≤ 1 → nat_abs n ≤ 1 → is_short (m +ℤ neg_ℤ n) ≡ true
    difference_low m n x y = lt-ltb _ _ (omega (arith, ints))

-- For places: a multiple of a variable that doesn't occur in a form, less the form, or the form less it, or both added. At each
-- variable one of the two has the coefficient 0.
times_one : (x : ℤ) → x *ℤ pos 1 ≡ x
times_one x = omega (arith, ints)

times_zero : (x : ℤ) → x *ℤ pos 0 ≡ pos 0
times_zero x = omega (arith, ints)

one_coefficient : (k : ℤ) (v u : ℕ) → sum_at (unit u) (scaled k (variable_form v)).terms ≡ k *ℤ variable_at (unit u) v
one_coefficient k v u =
    sum_at-term_on (unit u) v (k *ℤ pos 1) []
    ∙ ap (λ (a : ℤ). a *ℤ variable_at (unit u) v +ℤ pos 0) (times_one k)
    ∙ no_more (k *ℤ variable_at (unit u) v)
  where
    no_more : (x : ℤ) → x +ℤ pos 0 ≡ x
    no_more x = omega (arith, ints)

negated_coefficient : (u : ℕ) (ts : List (ℕ × ℤ)) → sum_at (unit u) (negated_terms ts) ≡ neg_ℤ (sum_at (unit u) ts)
negated_coefficient u ts =
    let form : Linear = record { terms = ts; constant = pos 0 } in
    let same : sum_at (unit u) (negated_terms ts) +ℤ neg_ℤ (pos 0) ≡ neg_ℤ (sum_at (unit u) ts +ℤ pos 0) = value_at-negated (unit u) form in
    omega (arith, ints)

-- one list has the coefficient of the variable, and the other those of the form up to their signs
each_short : (k : ℤ) (v : ℕ) (lin : Linear) (xs ys : List (ℕ × ℤ)) → are_ordered 0 lin.terms ≡ true → is_short k ≡ true → IsApart v lin
    → ((u : ℕ) → sum_at (unit u) xs ≡ k *ℤ variable_at (unit u) v) → ((u : ℕ) → nat_abs (sum_at (unit u) ys) ≡ nat_abs (sum_at (unit u) lin.terms))
    → (u : ℕ) → is_short (sum_at (unit u) xs +ℤ sum_at (unit u) ys) ≡ true
each_short k v lin xs ys rise short apart one others u = elim (cases_eq u v) [
  | inl same ↦
      let none : sum_at (unit u) lin.terms ≡ pos 0 = ap (λ (w : ℕ). sum_at (unit w) lin.terms) same ∙ worth_without v lin.terms apart.1 in
      let here : k *ℤ variable_at (unit u) v ≡ k = ap (λ (w : ℕ). k *ℤ variable_at (unit w) v) same ∙ ap (λ (x : ℤ). k *ℤ x) (unit_self v) ∙ times_one k in
      let size : nat_abs (sum_at (unit u) ys) ≡ 0 = others u ∙ ap nat_abs none in
      ap is_short (only_first (sum_at (unit u) xs) (sum_at (unit u) ys) k (one u ∙ here) size) ∙ short
  | inr differ ↦
      let here : k *ℤ variable_at (unit u) v ≡ pos 0 = ap (λ (x : ℤ). k *ℤ x) (unit_other u v differ) ∙ times_zero k in
      let room : is_short (sum_at (unit u) lin.terms) ≡ true = units_are_short 0 lin.terms rise (both_true (are_short lin.terms) (is_short lin.constant) apart.0).0 u in
      only_second (sum_at (unit u) xs) (sum_at (unit u) ys) (sum_at (unit u) lin.terms) (one u ∙ here) (others u) room
]
  where
    only_first : (a b c : ℤ) → a ≡ c → nat_abs b ≡ 0 → a +ℤ b ≡ c
    only_first a b c x y = omega (arith, ints)

    only_second : (a b c : ℤ) → a ≡ pos 0 → nat_abs b ≡ nat_abs c → is_short c ≡ true → is_short (a +ℤ b) ≡ true
    only_second a b c x y z = let less : nat_abs c < 2 ^ 63 = ltb-true _ _ z in let size : nat_abs (a +ℤ b) ≡ nat_abs c = omega (arith, ints) in lt-ltb _ _ (omega (arith, less, size))

sign_free : (a b : ℤ) → a ≡ neg_ℤ b → nat_abs a ≡ nat_abs b
sign_free a b h = omega (arith, ints)

less_none : (a b : ℤ) → nat_abs a ≡ 0 → nat_abs (a +ℤ neg_ℤ b) ≡ nat_abs b
less_none a b none = omega (arith, ints)

none_less : (a b : ℤ) → nat_abs a ≡ 0 → nat_abs (b +ℤ neg_ℤ a) ≡ nat_abs b
none_less a b none = omega (arith, ints)

none_more : (a b : ℤ) → nat_abs a ≡ 0 → nat_abs (a +ℤ b) ≡ nat_abs b
none_more a b none = omega (arith, ints)

short_constant : (a b : ℤ) → nat_abs a ≡ 0 → is_short b ≡ true → (is_short (a +ℤ neg_ℤ b) ≡ true) × (is_short (b +ℤ neg_ℤ a) ≡ true) × (is_long (a +ℤ b) ≡ true)
short_constant a b zero_a h =
    let less : nat_abs b < 2 ^ 63 = ltb-true _ _ h in
    let x = less_none a b zero_a in
    let y = none_less a b zero_a in
    let z = none_more a b zero_a in
    (lt-ltb _ _ (omega (arith, less, x)), lt-ltb _ _ (omega (arith, less, y)), lt-ltb _ _ (omega (arith, less, z)))

no_constant : (k : ℤ) → nat_abs (k *ℤ pos 0) ≡ 0
no_constant k = ap nat_abs (times_zero k)

turned : (x y z : ℤ) → is_short (x +ℤ y) ≡ true → z ≡ y +ℤ x → is_short z ≡ true
turned x y z h same = let swap : z ≡ x +ℤ y = omega (arith, ints) in ap is_short swap ∙ h

module _ (v : ℕ) (lin : Linear) (rise : are_ordered 0 lin.terms ≡ true) (apart : IsApart v lin) where
  private_constant : is_short lin.constant ≡ true
  private_constant = (both_true (are_short lin.terms) (is_short lin.constant) apart.0).1

  pub multiple_less : (k : ℤ) → is_short k ≡ true → is_narrow (less (scaled k (variable_form v)) lin) ≡ true
  multiple_less k short =
      let xs : List (ℕ × ℤ) = (scaled k (variable_form v)).terms in
      both (are_short (collected (xs ++ negated_terms lin.terms))) (is_short ((k *ℤ pos 0) +ℤ neg_ℤ lin.constant))
      (sums_short xs (negated_terms lin.terms)
      (each_short k v lin xs (negated_terms lin.terms) rise short apart (one_coefficient k v) (λ u. sign_free _ _ (negated_coefficient u lin.terms))))
      (short_constant (k *ℤ pos 0) lin.constant (no_constant k) private_constant).0

  -- the form less the multiple, where the multiple's coefficient has the other sign
  pub less_multiple : (k : ℤ) → is_short k ≡ true → is_narrow (less lin (scaled k (variable_form v))) ≡ true
  less_multiple k short =
      let ys : List (ℕ × ℤ) = negated_terms (scaled k (variable_form v)).terms in
      let other : is_short (neg_ℤ k) ≡ true = negative_short k short in
      let one : (u : ℕ) → sum_at (unit u) ys ≡ neg_ℤ k *ℤ variable_at (unit u) v =
      λ u. negated_coefficient u (scaled k (variable_form v)).terms ∙ ap neg_ℤ (one_coefficient k v u) ∙ sym (neg_ℤ-*ℤ k (variable_at (unit u) v)) in
      both (are_short (collected (lin.terms ++ ys))) (is_short (lin.constant +ℤ neg_ℤ (k *ℤ pos 0)))
      (sums_short lin.terms ys (λ u. turned (sum_at (unit u) ys) (sum_at (unit u) lin.terms) _ (each_short (neg_ℤ k) v lin ys lin.terms rise other apart one (λ w. refl) u) refl))
      (short_constant (k *ℤ pos 0) lin.constant (no_constant k) private_constant).1
    where
      negative_short : (n : ℤ) → is_short n ≡ true → is_short (neg_ℤ n) ≡ true
      negative_short n h = let less : nat_abs n < 2 ^ 63 = ltb-true _ _ h in let size : nat_abs (neg_ℤ n) ≡ nat_abs n = omega (arith, ints) in lt-ltb _ _ (omega (arith, less, size))

  variable_coefficient : (u : ℕ) → sum_at (unit u) (variable_form v).terms ≡ pos 1 *ℤ variable_at (unit u) v
  variable_coefficient u = omega (arith, ints)

  pub variable_less : is_narrow (less (variable_form v) lin) ≡ true
  variable_less =
      both (are_short (collected ((variable_form v).terms ++ negated_terms lin.terms))) (is_short (pos 0 +ℤ neg_ℤ lin.constant))
      (sums_short (variable_form v).terms (negated_terms lin.terms)
      (each_short (pos 1) v lin (variable_form v).terms (negated_terms lin.terms) rise refl apart variable_coefficient (λ u. sign_free _ _ (negated_coefficient u lin.terms))))
      (short_constant (pos 0) lin.constant refl private_constant).0

  pub variable_added : fits (added (variable_form v) lin) ≡ true
  variable_added =
      both (are_short (collected ((variable_form v).terms ++ lin.terms))) (is_long (pos 0 +ℤ lin.constant))
      (sums_short (variable_form v).terms lin.terms (each_short (pos 1) v lin (variable_form v).terms lin.terms rise refl apart variable_coefficient (λ u. refl)))
      (short_constant (pos 0) lin.constant refl private_constant).2

  pub less_variable : is_narrow (less lin (variable_form v)) ≡ true
  less_variable = less_multiple (pos 1) refl

-- a multiple of a variable
pub multiple_fits : (k : ℤ) (v : ℕ) → is_short k ≡ true → fits (scaled k (variable_form v)) ≡ true
multiple_fits k v short =
    both (are_short (term_on v (k *ℤ pos 1) [])) (is_long (k *ℤ pos 0)) (one_short (nat_abs (k *ℤ pos 1) == 0) (k *ℤ pos 1) (ap is_short (times_one k) ∙ short)) (ap is_long (times_zero k))
  where
    one_short : (b : Bool) (a : ℤ) → is_short a ≡ true → are_short (if b then [] else (v, a) ∷ []) ≡ true
    one_short true a h = refl
    one_short false a h = both (is_short a) true h refl
