-- Rows that follow from rows: by multipliers, entry by entry.
use Rattle.std.proofs.Common.{◌≡◌, ℕ, suc, zero, List, [], ◌∷◌, refl, ap, sym, ◌∙◌, arith, ◌<◌, ◌≤◌, ◌*◌, true, false, Bool, cond, ◌==◌, length, get_or, map, ⊎_elim}
use Rattle.std.specs.Prelude.{ℤ, pos, neg_ℤ, nat_abs, ◌+ℤ◌, ◌-ℤ◌, ◌*ℤ◌}
use Rattle.std.specs.List.{All}
use Rattle.std.proofs.Math.IntN.{*ℤ_comm, *ℤ-zero, zero-*ℤ}
use Rattle.std.proofs.Math.Nat.{mul-le-mul_right}
use Rattle.std.proofs.lemmas.Bool.{cases_lt}
use Rattle.std.proofs.lemmas.Int.{ints}
use Rattle.std.proofs.lemmas.List.{get_or_default, get_or_past, length-map}
use Rattle.base.proofs.Public.{*ℤ-+ℤ, *ℤ_assoc, +ℤ-*ℤ, neg_ℤ-*ℤ}
use Rattle.lin_atoms.specs.Dot.{dot}
use Rattle.int_rows.specs.Pivot.{combined, crossed, eliminated, turned}
use Rattle.int_rows.specs.Rows.{Follows, Solves, SolvesAll, content, entry}
use Rattle.int_rows.specs.Basis.{IsBasicRow}
use Rattle.int_rows.specs.Table.{IsTable, Table, basic_at, row_at, width}
use Rattle.int_rows.proofs.CombineLemmas.{length-combined, length-reduced}
use Rattle.int_rows.proofs.PivotLemmas.{Crossed, crossed-entry, dot-combined, some-magnitude, zero-factor}

-- the sum of multiples of what a function gives for the rows
abbrev pub total : List ℤ → (List ℤ → ℤ) → List (List ℤ) → ℤ
total ms f rows = dot ms (map f rows)

total-same : (ms : List ℤ) (f g : List ℤ → ℤ) (rows : List (List ℤ)) → ((r : List ℤ) → f r ≡ g r) → total ms f rows ≡ total ms g rows
total-same [] f g rows h = refl
total-same (m ∷ ms) f g [] h = refl
total-same (m ∷ ms) f g (r ∷ rows) h = ap (λ z. m *ℤ z +ℤ total ms f rows) (h r) ∙ ap (λ z. m *ℤ g r +ℤ z) (total-same ms f g rows h)

total-none : (ms : List ℤ) (f : List ℤ → ℤ) (rows : List (List ℤ)) → All (λ r. f r ≡ pos 0) rows → total ms f rows ≡ pos 0
total-none [] f rows h = refl
total-none (m ∷ ms) f [] h = refl
total-none (m ∷ ms) f (r ∷ rows) h =
    let first : m *ℤ f r ≡ pos 0 = ap (λ z. m *ℤ z) (h zero [] (omega arith)) ∙ *ℤ-zero m in
    let rest = total-none ms f rows (λ i d less. h (suc i) d (omega arith)) in
    omega (arith, ints, first, rest)

total-more : (ms : List ℤ) (f g : List ℤ → ℤ) (z : ℤ) (rows : List (List ℤ)) → total ms (λ r. f r *ℤ z +ℤ g r) rows ≡ total ms f rows *ℤ z +ℤ total ms g rows
total-more [] f g z rows = let none = zero-*ℤ z in omega (arith, ints, none)
total-more (m ∷ ms) f g z [] = let none = zero-*ℤ z in omega (arith, ints, none)
total-more (m ∷ ms) f g z (r ∷ rows) =
    let rest = total-more ms f g z rows in
    let first = *ℤ-+ℤ m (f r *ℤ z) (g r) in
    let one = *ℤ_assoc m (f r) z in
    let apart = +ℤ-*ℤ (m *ℤ f r) (total ms f rows) z in
    omega (arith, ints, rest, first, one, apart)

total-map : (ms : List ℤ) (f : List ℤ → ℤ) (t : List ℤ → List ℤ) (rows : List (List ℤ)) → total ms f (map t rows) ≡ total ms (λ r. f (t r)) rows
total-map [] f t rows = refl
total-map (m ∷ ms) f t [] = refl
total-map (m ∷ ms) f t (r ∷ rows) = ap (λ z. m *ℤ f (t r) +ℤ z) (total-map ms f t rows)

-- a row without its first entry
abbrev pub tail : List ℤ → List ℤ
tail [] = []
tail (a ∷ row) = row

tail-entry : (row : List ℤ) (v : ℕ) → entry (tail row) v ≡ entry row (suc v)
tail-entry [] v = refl
tail-entry (a ∷ row) v = refl

dot-none : (row : List ℤ) → dot row [] ≡ pos 0
dot-none [] = refl
dot-none (a ∷ row) = refl

dot-first : (row : List ℤ) (z : ℤ) (point : List ℤ) → dot row (z ∷ point) ≡ entry row 0 *ℤ z +ℤ dot (tail row) point
dot-first [] z point = let none = zero-*ℤ z in omega (arith, ints, none)
dot-first (a ∷ row) z point = refl

-- what holds entry by entry holds of the products with a point
spread : (k : ℤ) (ms row point : List ℤ) (rows : List (List ℤ)) → ((v : ℕ) → k *ℤ entry row v ≡ total ms (λ r. entry r v) rows) → k *ℤ dot row point ≡ total ms (λ r. dot r point) rows
spread k ms row [] rows h = ap (λ z. k *ℤ z) (dot-none row) ∙ *ℤ-zero k ∙ sym (total-none ms (λ r. dot r []) rows (λ i d less. dot-none (get_or rows i d)))
spread k ms row (z ∷ point) rows h =
    let rest = spread k ms (tail row) point (map tail rows) (λ v. ap (λ e. k *ℤ e) (tail-entry row v) ∙ h (suc v) ∙ sym (total-map ms (λ r. entry r v) tail rows ∙ total-same ms (λ r. entry (tail r) v) (λ r. entry r (suc v)) rows (λ r. tail-entry r v))) in
    let first : k *ℤ dot row (z ∷ point) ≡ k *ℤ (entry row 0 *ℤ z) +ℤ k *ℤ dot (tail row) point = ap (λ e. k *ℤ e) (dot-first row z point) ∙ *ℤ-+ℤ k (entry row 0 *ℤ z) (dot (tail row) point) in
    let one : k *ℤ (entry row 0 *ℤ z) ≡ total ms (λ r. entry r 0) rows *ℤ z = sym (*ℤ_assoc k (entry row 0) z) ∙ ap (λ e. e *ℤ z) (h 0) in
    let two = rest ∙ total-map ms (λ r. dot r point) tail rows in
    let whole = total-same ms (λ r. dot r (z ∷ point)) (λ r. entry r 0 *ℤ z +ℤ dot (tail r) point) rows (λ r. dot-first r z point) ∙ total-more ms (λ r. entry r 0) (λ r. dot (tail r) point) z rows in
    omega (arith, ints, first, one, two, whole)

-- each solution of the rows solves a row that follows
pub follows-solved : (rows : List (List ℤ)) (row point : List ℤ) → Follows rows row → SolvesAll point rows → Solves point row
follows-solved rows row point is all =
    let whole = spread (pos is.multiple) is.multipliers row point rows is.combination in
    let none = total-none is.multipliers (λ r. dot r point) rows all in
    zero-factor (dot row point) is.multiple is.positive (*ℤ_comm (dot row point) (pos is.multiple) ∙ whole ∙ none)

abbrev zeros : List (List ℤ) → List ℤ
zeros rows = map (λ r. pos 0) rows

zeros-total : (f : List ℤ → ℤ) (rows : List (List ℤ)) → total (zeros rows) f rows ≡ pos 0
zeros-total f [] = refl
zeros-total f (r ∷ rows) = let rest = zeros-total f rows in let first = zero-*ℤ (f r) in omega (arith, ints, rest, first)

-- 1 for the row's own place, 0 for the others
abbrev units : List (List ℤ) → ℕ → List ℤ
units [] i = []
units (r ∷ rows) zero = pos 1 ∷ zeros rows
units (r ∷ rows) (suc i) = pos 0 ∷ units rows i

length-units : (rows : List (List ℤ)) (i : ℕ) → length (units rows i) ≡ length rows
length-units [] i = refl
length-units (r ∷ rows) zero = ap suc (length-map rows (λ r. pos 0))
length-units (r ∷ rows) (suc i) = ap suc (length-units rows i)

one-times : (a : ℤ) → pos 1 *ℤ a ≡ a
one-times a = grind (arith, ints)

units-total : (f : List ℤ → ℤ) (rows : List (List ℤ)) (i : ℕ) (d : List ℤ) → i < length rows → total (units rows i) f rows ≡ f (get_or rows i d)
units-total f [] i d h = absurd (omega arith)
units-total f (r ∷ rows) zero d h = let rest = zeros-total f rows in let first = one-times (f r) in omega (arith, ints, rest, first)
units-total f (r ∷ rows) (suc i) d h = let rest = units-total f rows i d (omega arith) in let first = zero-*ℤ (f r) in omega (arith, ints, rest, first)

-- each of the rows follows from them
pub follows-own : (rows : List (List ℤ)) (i : ℕ) → i < length rows → Follows rows (row_at rows i)
follows-own rows i h = record {
  multiple = 1;
  multipliers = units rows i;
  positive = omega arith;
  each = length-units rows i;
  combination = λ v. one-times (entry (row_at rows i) v) ∙ sym (units-total (λ r. entry r v) rows i [] h);
}

-- the rows of a tableau are those of its basis
pub table-basic : (t : Table) → IsTable t → (i : ℕ) → i < length t.rows → IsBasicRow (width t) t.rows t.basic (basic_at t.basic i) (row_at t.rows i)
table-basic t is i h =
    let solved = is.solved i h in
    let row = row_at t.rows i in
    record {
      width = solved.width;
      follows = follows-own t.rows i h;
      primitive = solved.primitive;
      positive = solved.positive;
      zero = λ other inside away.
          let j = inside.0 in
          let same : basic_at t.basic j ≡ other = get_or_default t.basic j 0 other inside.1 ∙ inside.2 in
          let apart : j ≡ i → ⊥ = λ e. away (sym same ∙ ap (basic_at t.basic) e) in
          ap (entry row) (sym same) ∙ solved.zero j inside.1 apart;
    }

at-length : (row : List ℤ) (v n : ℕ) → length row ≡ n → n ≤ v → entry row v ≡ pos 0
at-length row v n long past = get_or_past row v (pos 0) (omega (arith, long, past))

-- the entries of a crossing, also past the end
pub crossed-combination : (column v : ℕ) (other row : List ℤ) → length row ≡ length other → 0 < content (crossed column row other)
    → pos (content (crossed column row other)) *ℤ entry (Crossed column other row) v ≡ pos (nat_abs (entry other column)) *ℤ entry row v -ℤ turned (entry other column) (entry row column) *ℤ entry other v
crossed-combination column v other row same some =
    let p = pos (nat_abs (entry other column)) in
    let q = turned (entry other column) (entry row column) in
    let g = pos (content (crossed column row other)) in
    ⊎_elim (λ less. *ℤ_comm g (entry (Crossed column other row) v) ∙ crossed-entry column v other row same less some) (λ past.
    let made = ap (λ z. g *ℤ z) (at-length (Crossed column other row) v (length row) (length-reduced g p q row other same) past) ∙ *ℤ-zero g in
    let first = ap (λ z. p *ℤ z) (at-length row v (length row) refl past) ∙ *ℤ-zero p in
    let second = ap (λ z. q *ℤ z) (at-length other v (length row) (sym same) past) ∙ *ℤ-zero q in
    omega (arith, ints, made, first, second)) (cases_lt v (length row))

crossed-follows : (column : ℕ) (other row : List ℤ) → length row ≡ length other → 0 < content (crossed column row other) → Follows (row ∷ other ∷ []) (Crossed column other row)
crossed-follows column other row same some =
    let p = pos (nat_abs (entry other column)) in
    let q = turned (entry other column) (entry row column) in
    record {
      multiple = content (crossed column row other);
      multipliers = p ∷ neg_ℤ q ∷ [];
      positive = some;
      each = refl;
      combination = λ v.
          let whole = crossed-combination column v other row same some in
          let minus = neg_ℤ-*ℤ q (entry other v) in
          omega (arith, ints, whole, minus);
    }

crossed-follows-back : (column : ℕ) (other row : List ℤ) → length row ≡ length other → (entry other column ≡ pos 0 → ⊥) → 0 < content (crossed column row other) → Follows (Crossed column other row ∷ other ∷ []) row
crossed-follows-back column other row same factor some =
    let q = turned (entry other column) (entry row column) in
    let g = pos (content (crossed column row other)) in
    record {
      multiple = nat_abs (entry other column);
      multipliers = g ∷ q ∷ [];
      positive = some-magnitude (entry other column) factor;
      each = refl;
      combination = λ v. let whole = crossed-combination column v other row same some in omega (arith, ints, whole);
    }

made-cases : (column : ℕ) (other row : List ℤ) (b : Bool) → length row ≡ length other → 0 < content (crossed column row other) → Follows (row ∷ other ∷ []) (cond b row (Crossed column other row))
made-cases column other row true same some = follows-own (row ∷ other ∷ []) 0 (omega arith)
made-cases column other row false same some = crossed-follows column other row same some

back-cases : (column : ℕ) (other row : List ℤ) (b : Bool) → length row ≡ length other → (entry other column ≡ pos 0 → ⊥) → 0 < content (crossed column row other) → Follows (cond b row (Crossed column other row) ∷ other ∷ []) row
back-cases column other row true same factor some = follows-own (row ∷ other ∷ []) 0 (omega arith)
back-cases column other row false same factor some = crossed-follows-back column other row same factor some

-- a row without the column follows from the two rows that it was made of
pub eliminated-follows : (column : ℕ) (other row : List ℤ) → length row ≡ length other → 0 < content (crossed column row other) → Follows (row ∷ other ∷ []) (eliminated column other row)
eliminated-follows column other row same some = made-cases column other row (nat_abs (entry row column) == 0) same some

-- and the row follows from what it became and the other
pub eliminated-follows-back : (column : ℕ) (other row : List ℤ) → length row ≡ length other → (entry other column ≡ pos 0 → ⊥) → 0 < content (crossed column row other) → Follows (eliminated column other row ∷ other ∷ []) row
eliminated-follows-back column other row same factor some = back-cases column other row (nat_abs (entry row column) == 0) same factor some

some-product : (a b : ℕ) → 0 < a → 0 < b → 0 < a * b
some-product a b h k = let le : 1 * b ≤ a * b = mul-le-mul_right b h in omega (arith, le, k)

swap-factors : (a b m e : ℤ) → (a *ℤ b) *ℤ (m *ℤ e) ≡ (b *ℤ m) *ℤ (a *ℤ e)
swap-factors a b m e =
    *ℤ_assoc a b (m *ℤ e) ∙ ap (λ z. a *ℤ z) (sym (*ℤ_assoc b m e)) ∙ sym (*ℤ_assoc a (b *ℤ m) e) ∙ ap (λ z. z *ℤ e) (*ℤ_comm a (b *ℤ m)) ∙ *ℤ_assoc (b *ℤ m) a e

-- one term more under a common multiple
common-multiple : (a b m e t : ℤ) → (a *ℤ b) *ℤ (m *ℤ e +ℤ t) ≡ (b *ℤ m) *ℤ (a *ℤ e) -ℤ neg_ℤ a *ℤ (b *ℤ t)
common-multiple a b m e t =
    let apart = *ℤ-+ℤ (a *ℤ b) (m *ℤ e) t in
    let first = swap-factors a b m e in
    let second = *ℤ_assoc a b t in
    let minus = neg_ℤ-*ℤ a (b *ℤ t) in
    omega (arith, ints, apart, first, second, minus)

-- a positive multiple of a combination of the others is one of the rows
record Gathered (rows others : List (List ℤ)) (ms : List ℤ) : Type 0 where
  pub multiple : ℕ
  pub multipliers : List ℤ
  pub positive : 0 < multiple
  pub each : length multipliers ≡ length rows
  pub combination : (v : ℕ) → pos multiple *ℤ total ms (λ r. entry r v) others ≡ total multipliers (λ r. entry r v) rows

gather : (rows others : List (List ℤ)) (ms : List ℤ) → All (Follows rows) others → Gathered rows others ms
gather rows others [] all = record { multiple = 1; multipliers = zeros rows; positive = omega arith; each = length-map rows (λ r. pos 0); combination = λ v. one-times (pos 0) ∙ sym (zeros-total (λ r. entry r v) rows) }
gather rows [] (m ∷ ms) all = record { multiple = 1; multipliers = zeros rows; positive = omega arith; each = length-map rows (λ r. pos 0); combination = λ v. one-times (pos 0) ∙ sym (zeros-total (λ r. entry r v) rows) }
gather rows (r ∷ others) (m ∷ ms) all =
    let here : Follows rows r = all zero [] (omega arith) in
    let rest = gather rows others ms (λ i d less. all (suc i) d (omega arith)) in
    let a = here.multiple in
    let b = rest.multiple in
    let p = pos b *ℤ m in
    let q = neg_ℤ (pos a) in
    let same : length here.multipliers ≡ length rest.multipliers = here.each ∙ sym rest.each in
    record {
      multiple = a * b;
      multipliers = combined p q here.multipliers rest.multipliers;
      positive = some-product a b here.positive rest.positive;
      each = length-combined p q here.multipliers rest.multipliers same ∙ here.each;
      combination = λ v.
          common-multiple (pos a) (pos b) m (entry r v) (total ms (λ r. entry r v) others)
          ∙ ap (λ z. p *ℤ z -ℤ q *ℤ (pos b *ℤ total ms (λ r. entry r v) others)) (here.combination v)
          ∙ ap (λ z. p *ℤ total here.multipliers (λ r. entry r v) rows -ℤ q *ℤ z) (rest.combination v)
          ∙ sym (dot-combined p q here.multipliers rest.multipliers (map (λ r. entry r v) rows) same);
    }

-- what follows from rows that follow follows from the same rows as they
pub follows-trans : (rows others : List (List ℤ)) (row : List ℤ) → All (Follows rows) others → Follows others row → Follows rows row
follows-trans rows others row all is =
    let gathered = gather rows others is.multipliers all in
    record {
      multiple = gathered.multiple * is.multiple;
      multipliers = gathered.multipliers;
      positive = some-product gathered.multiple is.multiple gathered.positive is.positive;
      each = gathered.each;
      combination = λ v. *ℤ_assoc (pos gathered.multiple) (pos is.multiple) (entry row v) ∙ ap (λ z. pos gathered.multiple *ℤ z) (is.combination v) ∙ gathered.combination v;
    }
