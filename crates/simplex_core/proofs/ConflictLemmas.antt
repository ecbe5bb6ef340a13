-- Multipliers of bounds that contradict (Farkas, Theorie der einfachen Ungleichungen, 1902).
use Rattle.std.proofs.Common.{◌≡◌, ℕ, List, [], ◌∷◌, refl, ap, sym, ◌∙◌, arith, ◌<◌, ◌≤◌, ◌+◌, true, false, Bool, cond, map, flat_map, ⊎_elim}
use Rattle.std.specs.Prelude.{ℤ, pos, neg_ℤ, ◌-ℤ◌, ◌*ℤ◌, ◌<ℤ◌, int_le, int_lt, ◌==◌, Option, Some, None}
use Rattle.std.specs.Option.{unwrap_or}
use Rattle.std.specs.List.{range_with_len}
use Rattle.std.proofs.lemmas.Int.{ints}
use Rattle.std.proofs.Math.IntN.{*ℤ_comm}
use Rattle.std.proofs.lemmas.Bool.{cases_lt, eq-eqb, ne_eqb}
use Rattle.base.proofs.Public.{neg_ℤ-*ℤ}
use Rattle.int_rows.proofs.Public.{lt-true}
use Rattle.simplex_core.specs.Run.{are_crossed, are_crossed_at, crossed}
use Rattle.simplex_core.proofs.RangeLemmas.{find-within}
use Rattle.std.proofs.lemmas.List.{get_or_past, length-map}
use Rattle.simplex_core.proofs.PairLemmas.{Pairs, made-at, made-length, pairs-first, pairs-length, pairs-natural, pairs-second}
use Rattle.simplex_core.proofs.SumLemmas.{dot-made, total, total-but, total-minus, total-same, total-zero}
use Rattle.lin_atoms.specs.Dot.{dot}
use Rattle.int_rows.specs.Basis.{bound}
use Rattle.int_rows.specs.Rows.{Follows, entry}
use Rattle.int_rows.specs.Table.{IsTable, Table, width}
use Rattle.simplex_core.specs.Answer.{crossing, crossing_at}
use Rattle.simplex_core.specs.Meaning.{IsConflict, of_lower, of_upper, summed, summed_bounds}

-- the two parts of a number
abbrev pub plus_part : ℤ → ℤ
plus_part a = cond (int_lt (pos 0) a) a (pos 0)

abbrev pub minus_part : ℤ → ℤ
minus_part a = cond (int_lt a (pos 0)) (neg_ℤ a) (pos 0)

pub plus-natural : (a : ℤ) → int_le (pos 0) (plus_part a) ≡ true
plus-natural a = grind (arith, ints)

pub minus-natural : (a : ℤ) → int_le (pos 0) (minus_part a) ≡ true
minus-natural a = grind (arith, ints)

pub parts-apart : (a : ℤ) → minus_part a -ℤ plus_part a ≡ neg_ℤ a
parts-apart a = grind (arith, ints)

pub above-parts : (a : ℤ) → pos 0 <ℤ a → (plus_part a ≡ a) × (minus_part a ≡ pos 0)
above-parts a h = (grind (arith, ints), grind (arith, ints))

pub below-parts : (a : ℤ) → a <ℤ pos 0 → (plus_part a ≡ pos 0) × (minus_part a ≡ neg_ℤ a)
below-parts a h = (grind (arith, ints), grind (arith, ints))

pub zero-parts : (a : ℤ) → a ≡ pos 0 → (plus_part a ≡ pos 0) × (minus_part a ≡ pos 0)
zero-parts a h = (grind (arith, ints), grind (arith, ints))

dot-zeros : (rows : List (List ℤ)) (v : ℕ) → dot (map (λ (r : List ℤ). pos 0) rows) (map (λ r. entry r v) rows) ≡ pos 0
dot-zeros [] v = refl
dot-zeros (r ∷ rows) v =
    let rest = dot-zeros rows v in
    omega (arith, ints)

-- a row of zeros follows from any rows
follows-zero : (rows : List (List ℤ)) (row : List ℤ) → ((v : ℕ) → entry row v ≡ pos 0) → Follows rows row
follows-zero rows row e = record {
  multiple = 1;
  multipliers = map (λ (r : List ℤ). pos 0) rows;
  positive = omega arith;
  each = length-map rows (λ (r : List ℤ). pos 0);
  combination = λ v. let zeros = dot-zeros rows v in let here = e v in omega (arith, ints);
}

-- a row with the same entries follows, and one with the other signs
pub follows-like : (rows : List (List ℤ)) (row other : List ℤ) → ((v : ℕ) → entry other v ≡ entry row v) → Follows rows row → Follows rows other
follows-like rows row other e f = record {
  multiple = f.multiple;
  multipliers = f.multipliers;
  positive = f.positive;
  each = f.each;
  combination = λ v. ap (λ z. pos f.multiple *ℤ z) (e v) ∙ f.combination v;
}

dot-negated : (ks : List ℤ) (ys : List ℤ) → dot (map neg_ℤ ks) ys ≡ neg_ℤ (dot ks ys)
dot-negated [] ys = refl
dot-negated (k ∷ ks) [] = refl
dot-negated (k ∷ ks) (y ∷ ys) =
    let rest = dot-negated ks ys in
    let first = neg_ℤ-*ℤ k y in
    omega (arith, ints)

pub follows-turned : (rows : List (List ℤ)) (row other : List ℤ) → ((v : ℕ) → entry other v ≡ neg_ℤ (entry row v)) → Follows rows row → Follows rows other
follows-turned rows row other e f = record {
  multiple = f.multiple;
  multipliers = map neg_ℤ f.multipliers;
  positive = f.positive;
  each = length-map f.multipliers neg_ℤ ∙ f.each;
  combination = λ v.
      let k = pos f.multiple in
      let turned : k *ℤ entry other v ≡ neg_ℤ (k *ℤ entry row v) = ap (λ z. k *ℤ z) (e v) ∙ *ℤ_comm k (neg_ℤ (entry row v)) ∙ neg_ℤ-*ℤ (entry row v) k ∙ ap neg_ℤ (*ℤ_comm (entry row v) k) in
      turned ∙ ap neg_ℤ (f.combination v) ∙ sym (dot-negated f.multipliers (map (λ r. entry r v) rows));
}

-- the sum of the multiples as a row and as a number, where the multipliers of each column are known
pub summed-at : (f : ℕ → List ℤ) (x y : ℕ → ℤ) → Pairs f x y → (n v : ℕ) → v < n → entry (summed n (flat_map f (range_with_len 0 n))) v ≡ y v -ℤ x v
summed-at f x y h n v k =
    let ms = flat_map f (range_with_len 0 n) in
    let same : 0 + v ≡ v = omega arith in
    let low : of_lower ms v ≡ x v = pairs-first f x y h 0 n v k ∙ ap x same in
    let up : of_upper ms v ≡ y v = pairs-second f x y h 0 n v k ∙ ap y same in
    made-at (λ c. of_upper ms c -ℤ of_lower ms c) n v k ∙ ap (λ z. z -ℤ of_lower ms v) up ∙ ap (λ z. y v -ℤ z) low

pub summed-past : (n : ℕ) (ms : List ℤ) (v : ℕ) → n ≤ v → entry (summed n ms) v ≡ pos 0
summed-past n ms v h = get_or_past (summed n ms) v (pos 0) (omega (arith, made-length (λ c. of_upper ms c -ℤ of_lower ms c) n))

abbrev pub low_at : Table → ℕ → ℤ
low_at t v = unwrap_or (bound t.lower v) (pos 0)

abbrev pub up_at : Table → ℕ → ℤ
up_at t v = unwrap_or (bound t.upper v) (pos 0)

-- what a column adds to the constant
abbrev pub adds : Table → (ℕ → ℤ) → (ℕ → ℤ) → ℕ → ℤ
adds t x y v = x v *ℤ low_at t v -ℤ y v *ℤ up_at t v

pub constant-is : (t : Table) (f : ℕ → List ℤ) (x y : ℕ → ℤ) → Pairs f x y → summed_bounds t (flat_map f (range_with_len 0 (width t))) ≡ total (adds t x y) 0 (width t)
constant-is t f x y h =
    let n = width t in
    let ms = flat_map f (range_with_len 0 n) in
    let first = dot-made (of_lower ms) (low_at t) 0 n in
    let second = dot-made (of_upper ms) (up_at t) 0 n in
    let apart = total-minus (λ v. of_lower ms v *ℤ low_at t v) (λ v. of_upper ms v *ℤ up_at t v) 0 n in
    let same : total (λ v. of_lower ms v *ℤ low_at t v -ℤ of_upper ms v *ℤ up_at t v) 0 n ≡ total (adds t x y) 0 n =
    total-same (λ v. of_lower ms v *ℤ low_at t v -ℤ of_upper ms v *ℤ up_at t v) (adds t x y) 0 n (λ v low high.
    let within : v < n = omega arith in
    let place : 0 + v ≡ v = omega arith in
    ap (λ z. z *ℤ low_at t v -ℤ of_upper ms v *ℤ up_at t v) (pairs-first f x y h 0 n v within ∙ ap x place)
    ∙ ap (λ z. x v *ℤ low_at t v -ℤ z *ℤ up_at t v) (pairs-second f x y h 0 n v within ∙ ap y place)) in
    omega (arith, ints)

-- crossed bounds of one column
one_at : ℕ → ℕ → ℤ
one_at column v = cond (v == column) (pos 1) (pos 0)

crossing-pairs : (column : ℕ) → Pairs (crossing_at column) (one_at column) (one_at column)
unfolding one_at
crossing-pairs column v = by (v == column) where
  by : (b : Bool) → cond b (pos 1 ∷ pos 1 ∷ []) (pos 0 ∷ pos 0 ∷ []) ≡ cond b (pos 1) (pos 0) ∷ cond b (pos 1) (pos 0) ∷ []
  by true = refl
  by false = refl

one-natural : (column v : ℕ) → int_le (pos 0) (one_at column v) ≡ true
unfolding one_at
one-natural column v = by (v == column) where
  by : (b : Bool) → int_le (pos 0) (cond b (pos 1) (pos 0)) ≡ true
  by true = refl
  by false = refl

one-here : (column : ℕ) → one_at column column ≡ pos 1
unfolding one_at
one-here column = ap (λ b. cond b (pos 1) (pos 0)) (eq-eqb column column refl)

one-other : (column v : ℕ) → (v ≡ column → ⊥) → one_at column v ≡ pos 0
unfolding one_at
one-other column v ne = ap (λ b. cond b (pos 1) (pos 0)) (ne_eqb v column ne)

crossed-some : (l u : Option ℤ) → are_crossed l u ≡ true → (p : ℤ) × (q : ℤ) × (l ≡ Some p) × (u ≡ Some q) × (q <ℤ p)
crossed-some None u e = absurd (cc)
crossed-some (Some l) None e = absurd (cc)
crossed-some (Some l) (Some u) e = (l, u, refl, refl, lt-true u l e)

pub crossed-means : (t : Table) (c : ℕ) → IsTable t → crossed t ≡ Some c → IsConflict t (crossing t c)
unfolding crossed
crossed-means t c is e =
    let n = width t in
    let x = one_at c in
    let f = crossing_at c in
    let pairs = crossing-pairs c in
    let found = find-within (are_crossed_at t) 0 n c e in
    let within : c < n = omega (arith, found.1) in
    let there = crossed-some (bound t.lower c) (bound t.upper c) found.2 in
    let none_lower : (v : ℕ) → bound t.lower v ≡ None → v ≡ c → ⊥ = λ v none same. let no : None ≡ Some there.0 = sym none ∙ ap (bound t.lower) same ∙ there.2 in absurd (cc) in
    let none_upper : (v : ℕ) → bound t.upper v ≡ None → v ≡ c → ⊥ = λ v none same. let no : None ≡ Some there.1 = sym none ∙ ap (bound t.upper) same ∙ there.3 in absurd (cc) in
    let here : adds t x x c ≡ there.0 -ℤ there.1 =
    ap (λ z. z *ℤ low_at t c -ℤ z *ℤ up_at t c) (one-here c)
    ∙ ap (λ o. pos 1 *ℤ unwrap_or o (pos 0) -ℤ pos 1 *ℤ up_at t c) there.2
    ∙ ap (λ o. pos 1 *ℤ there.0 -ℤ pos 1 *ℤ unwrap_or o (pos 0)) there.3
    ∙ omega (arith, ints) in
    let rest = total-but (λ v. pos 0) (adds t x x) c 0 n (omega arith) (omega arith) (λ v low high ne. let zeros : adds t x x v ≡ pos 0 = ap (λ z. z *ℤ low_at t v -ℤ z *ℤ up_at t v) (one-other c v ne) ∙ omega (arith, ints) in omega (arith, ints)) in
    let zeros = total-zero (λ v. pos 0) 0 n (λ v. refl) in
    let constant = constant-is t f x x pairs in
    record {
      each = pairs-length f x x pairs 0 n;
      natural = pairs-natural f x x pairs (one-natural c) (one-natural c) 0 n;
      lower = λ v k none. pairs-first f x x pairs 0 n v k ∙ one-other c (0 + v) (λ same. none_lower v none (omega (arith, same)));
      upper = λ v k none. pairs-second f x x pairs 0 n v k ∙ one-other c (0 + v) (λ same. none_upper v none (omega (arith, same)));
      follows = follows-zero t.rows (summed n (crossing t c)) (λ v. ⊎_elim (λ k. summed-at f x x pairs n v k ∙ omega (arith, ints)) (λ k. summed-past n (crossing t c) v k) (cases_lt v n));
      above = omega (arith, ints, rest, zeros, here, constant, there.4);
    }
