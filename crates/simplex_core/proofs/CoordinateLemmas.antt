-- Sums of products of a row by values, without one column.
use Rattle.std.proofs.Common.{◌≡◌, ℕ, suc, ◌+◌, ◌<◌, ◌≤◌, List, [], ◌∷◌, length, drop, filter, get_or, set, ap, sym, ◌∙◌, arith, Bool, true, false, cond, eqb, ◌==◌, refl}
use Rattle.std.specs.Prelude.{ℤ, pos, neg_ℤ, nat_abs, ◌+ℤ◌, ◌-ℤ◌, ◌*ℤ◌}
use Rattle.std.proofs.lemmas.Bool.{eqb-true}
use Rattle.std.proofs.lemmas.Bool.Decides.{Decides-eqb}
use Rattle.std.proofs.lemmas.Grind.{get_or-set_at}
use Rattle.std.proofs.lemmas.Int.{ints}
use Rattle.std.proofs.lemmas.List.{get_or-set_other, length-set}
use Rattle.std.specs.List.{range_with_len}
use Rattle.std.proofs.lemmas.Bool.{not-false}
use Rattle.std.proofs.lemmas.List.Elements.{All-filter}
use Rattle.std.proofs.lemmas.List.FromFn.{get_or-range_with_len, length-range_with_len}
use Rattle.int_rows.specs.Rows.{entry}
use Rattle.simplex_core.specs.Coordinate.{held, is_held, others}
use Rattle.simplex_core.proofs.SumLemmas.{dot-total, sum_over, sum_over-more, total-kept}

pub masked-at : (row : List ℤ) (own column : ℕ) → own < length row → get_or (set row own (pos 0)) column (pos 0) ≡ cond (eqb column own) (pos 0) (get_or row column (pos 0))
masked-at row own column h = here (eqb column own) refl where
  here : (b : Bool) → eqb column own ≡ b → get_or (set row own (pos 0)) column (pos 0) ≡ cond b (pos 0) (get_or row column (pos 0))
  here true e = get_or-set_at row own column (pos 0) (pos 0) (eqb-true column own e) h
  here false e = get_or-set_other row own column (pos 0) (pos 0) (λ same. let no : false ≡ true = sym e ∙ (Decides-eqb column own).1 same in absurd (cc))

-- what a column takes away
abbrev pub product_at : List ℤ → List ℤ → ℕ → ℕ → ℤ
product_at row values own c = entry (set row own (pos 0)) c *ℤ entry values c

not-held : (values : List ℤ) (c : ℕ) → is_held values c ≡ false → entry values c ≡ pos 0
not-held values c e =
    let zero : nat_abs (entry values c) ≡ 0 = eqb-true (nat_abs (entry values c)) 0 (not-false (nat_abs (entry values c) == 0) e) in
    omega (arith, ints)

-- the columns whose value is 0 may be left out
pub others-held : (row values : List ℤ) (own : ℕ) → length row ≡ length values → sum_over (product_at row values own) (held values) ≡ others row values own
others-held row values own same =
    total-kept (product_at row values own) (is_held values) (λ c e. ap (λ z. entry (set row own (pos 0)) c *ℤ z) (not-held values c e) ∙ omega (arith, ints)) 0 (length values)
    ∙ sym (dot-total (set row own (pos 0)) values (length values) (length-set row own (pos 0) ∙ same) refl)

-- each is a column, and there are no more than columns
pub held-within : (values : List ℤ) (k : ℕ) → k < length (held values) → get_or (held values) k 0 < length values
held-within values k h = All-filter (is_held values) (λ c. c < length values) (range_with_len 0 (length values)) (λ i d j.
    let within : i < length values = omega (arith, j, length-range_with_len 0 (length values)) in
    omega (arith, get_or-range_with_len 0 (length values) i d within)) k 0 h

filter-most : (p : ℕ → Bool) (xs : List ℕ) → length (filter p xs) ≤ length xs
filter-most p [] = omega arith
filter-most p (x ∷ xs) = by (p x) (filter-most p xs) where
  by : (b : Bool) → length (filter p xs) ≤ length xs → length (cond b (x ∷ filter p xs) (filter p xs)) ≤ suc (length xs)
  by true h = omega arith
  by false h = omega arith

pub held-most : (values : List ℤ) → length (held values) ≤ length values
held-most values = omega (arith, filter-most (is_held values) (range_with_len 0 (length values)), length-range_with_len 0 (length values))

-- one more product is taken away
pub others-more : (row values : List ℤ) (places : List ℕ) (own i : ℕ) (now new whole : ℤ) → i < length places → own < length row
    → neg_ℤ now +ℤ sum_over (product_at row values own) (drop i places) ≡ whole
    → new ≡ now -ℤ cond (eqb (get_or places i 0) own) (pos 0) (entry row (get_or places i 0)) *ℤ entry values (get_or places i 0)
    → neg_ℤ new +ℤ sum_over (product_at row values own) (drop (i + 1) places) ≡ whole
others-more row values places own i now new whole within inside was told =
    let column = get_or places i 0 in
    let product : cond (eqb column own) (pos 0) (entry row column) *ℤ entry values column ≡ product_at row values own column = ap (λ z. z *ℤ entry values column) (sym (masked-at row own column inside)) in
    let more = sum_over-more (product_at row values own) places i within in
    omega (arith, ints, more, product)
