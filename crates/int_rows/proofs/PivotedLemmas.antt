-- A pivot, row by row: the rows are solved for the new basis.
use Rattle.std.proofs.Common.{◌≡◌, ℕ, suc, zero, List, [], ◌∷◌, refl, ap, sym, ◌∙◌, arith, subst, ◌<◌, ◌≤◌, ◌+◌, ◌%◌, true, false, Bool, cond, ◌==◌, ◌&&◌, length, get_or, map, set, take, drop, ◌++◌}
use Rattle.std.specs.Prelude.{ℤ, pos, neg_ℤ, nat_abs, ◌-ℤ◌, ◌*ℤ◌, ◌<ℤ◌, int_lt, max}
use Rattle.std.specs.List.{list_all}
use Rattle.std.proofs.Math.IntN.{*ℤ_comm, *ℤ-zero}
use Rattle.std.proofs.lemmas.Bool.{eqb-true, eqb-false}
use Rattle.std.proofs.lemmas.Int.{ints}
use Rattle.std.proofs.lemmas.List.{append-nil, drop_all, drop_more, get_or-map, get_or-set_other, get_or-set_same, get_or_at, length-map, length-set, length-take-le, map-append, set_at, take_all}
use Rattle.lin_atoms.specs.Linear.{is_short}
use Rattle.lin_atoms.proofs.Public.{both_true}
use Rattle.int_rows.specs.Pivot.{CanCross, crossed, eliminated, turned}
use Rattle.int_rows.specs.Rows.{are_short, content, divides_all, entry, greatest_divisor, greatest_magnitude, is_primitive}
use Rattle.int_rows.specs.Table.{CanPivot, IsSolved, IsTable, Table, basic_at, facing, pivoted, row_at, width}
use Rattle.int_rows.proofs.CombineLemmas.{combined-at, length-combined, length-reduced}
use Rattle.int_rows.proofs.ContentLemmas.{content-positive}
use Rattle.int_rows.proofs.EquationLemmas.{all-at}
use Rattle.int_rows.proofs.FollowLemmas.{crossed-combination}
use Rattle.int_rows.proofs.PivotLemmas.{Crossed, eliminated-gone, eliminated-positive, eliminated-primitive, lt-true, positive-product, some-magnitude, zero-factor}

pub length-pivoted : (i column : ℕ) (rows : List (List ℤ)) → length (pivoted i column rows) ≡ length rows
length-pivoted i column rows = length-set (map (eliminated column (row_at rows i)) rows) i (facing column (row_at rows i)) ∙ length-map rows (eliminated column (row_at rows i))

-- the row that pivots, and each other one
pub pivoted-own : (i column : ℕ) (rows : List (List ℤ)) → i < length rows → row_at (pivoted i column rows) i ≡ facing column (row_at rows i)
pivoted-own i column rows h = get_or-set_same (map (eliminated column (row_at rows i)) rows) i (facing column (row_at rows i)) [] (omega (arith, h, length-map rows (eliminated column (row_at rows i))))

pub pivoted-other : (i j column : ℕ) (rows : List (List ℤ)) → j < length rows → (j ≡ i → ⊥) → row_at (pivoted i column rows) j ≡ eliminated column (row_at rows i) (row_at rows j)
pivoted-other i j column rows h away = get_or-set_other (map (eliminated column (row_at rows i)) rows) i j (facing column (row_at rows i)) [] away ∙ get_or-map (eliminated column (row_at rows i)) rows j [] [] h

pub neg-entry : (row : List ℤ) (v : ℕ) → entry (map neg_ℤ row) v ≡ neg_ℤ (entry row v)
neg-entry [] v = refl
neg-entry (a ∷ row) zero = refl
neg-entry (a ∷ row) (suc v) = neg-entry row v

abs-neg : (a : ℤ) → nat_abs (neg_ℤ a) ≡ nat_abs a
abs-neg a = omega (arith, ints)

small-neg : (row : List ℤ) → are_short row ≡ true → are_short (map neg_ℤ row) ≡ true
small-neg [] h = refl
small-neg (a ∷ row) h =
    let both = both_true (is_short a) _ h in
    ap (λ n. is_short (pos n) && are_short (map neg_ℤ row)) (abs-neg a) ∙ ap (λ b. b && are_short (map neg_ℤ row)) both.0 ∙ small-neg row both.1

magnitude-neg : (row : List ℤ) → greatest_magnitude (map neg_ℤ row) ≡ greatest_magnitude row
magnitude-neg [] = refl
magnitude-neg (a ∷ row) = ap (λ n. max n (greatest_magnitude (map neg_ℤ row))) (abs-neg a) ∙ ap (max (nat_abs a)) (magnitude-neg row)

divides-neg : (d : ℕ) (row : List ℤ) → divides_all d (map neg_ℤ row) ≡ divides_all d row
divides-neg d [] = refl
divides-neg d (a ∷ row) = ap (λ n. (n % d == 0) && divides_all d (map neg_ℤ row)) (abs-neg a) ∙ ap (λ b. (nat_abs a % d == 0) && b) (divides-neg d row)

divisor-neg : (n : ℕ) (row : List ℤ) → greatest_divisor n (map neg_ℤ row) ≡ greatest_divisor n row
unfolding greatest_divisor
divisor-neg zero row = refl
divisor-neg (suc n) row = ap (λ b. cond b (suc n) (greatest_divisor n (map neg_ℤ row))) (divides-neg (suc n) row) ∙ ap (λ k. cond (divides_all (suc n) row) (suc n) k) (divisor-neg n row)

content-neg : (row : List ℤ) → content (map neg_ℤ row) ≡ content row
unfolding content
content-neg row = ap (λ n. greatest_divisor n (map neg_ℤ row)) (magnitude-neg row) ∙ divisor-neg (greatest_magnitude row) row

turned-length : (b : Bool) (row : List ℤ) → length (cond b (map neg_ℤ row) row) ≡ length row
turned-length true row = length-map row neg_ℤ
turned-length false row = refl

turned-small : (b : Bool) (row : List ℤ) → are_short row ≡ true → are_short (cond b (map neg_ℤ row) row) ≡ true
turned-small true row h = small-neg row h
turned-small false row h = h

turned-primitive : (b : Bool) (row : List ℤ) → is_primitive row ≡ true → is_primitive (cond b (map neg_ℤ row) row) ≡ true
turned-primitive true row h = ap (λ n. n == 1) (content-neg row) ∙ h
turned-primitive false row h = h

turned-zero : (b : Bool) (row : List ℤ) (v : ℕ) → entry row v ≡ pos 0 → entry (cond b (map neg_ℤ row) row) v ≡ pos 0
turned-zero true row v h = neg-entry row v ∙ ap neg_ℤ h
turned-zero false row v h = h

lt-false : (a b : ℤ) → int_lt a b ≡ false → a <ℤ b → ⊥
lt-false a b h less = grind (arith, ints)

turned-positive : (b : Bool) (row : List ℤ) (v : ℕ) → int_lt (entry row v) (pos 0) ≡ b → (entry row v ≡ pos 0 → ⊥) → pos 0 <ℤ entry (cond b (map neg_ℤ row) row) v
turned-positive true row v e some = let less = lt-true (entry row v) (pos 0) e in let at = neg-entry row v in omega (arith, ints, less, at)
turned-positive false row v e some = let most = lt-false (entry row v) (pos 0) e in omega (arith, ints, most, some)

-- the row that pivots has the same length and content
pub facing-length : (column : ℕ) (row : List ℤ) → length (facing column row) ≡ length row
facing-length column row = turned-length (int_lt (entry row column) (pos 0)) row

pub facing-small : (column : ℕ) (row : List ℤ) → are_short row ≡ true → are_short (facing column row) ≡ true
facing-small column row h = turned-small (int_lt (entry row column) (pos 0)) row h

-- a row as in a tableau, whether it has room or not
pub record Solved (columns : ℕ) (basic : List ℕ) (i : ℕ) (row : List ℤ) : Type 0 where
  pub width : length row ≡ columns
  pub primitive : is_primitive row ≡ true
  pub positive : pos 0 <ℤ entry row (basic_at basic i)
  pub zero : (j : ℕ) → j < length basic → (j ≡ i → ⊥) → entry row (basic_at basic j) ≡ pos 0

pub record SolvedRows (columns : ℕ) (basic : List ℕ) (rows : List (List ℤ)) : Type 0 where
  pub basics : length basic ≡ length rows
  pub within : (i : ℕ) → i < length basic → basic_at basic i < columns
  pub solved : (i : ℕ) → i < length rows → Solved columns basic i (row_at rows i)

pub table-solved : (t : Table) → IsTable t → SolvedRows (width t) t.basic t.rows
table-solved t is = record {
  basics = is.basics;
  within = is.within;
  solved = λ i h. let solved = is.solved i h in record { width = solved.width; primitive = solved.primitive; positive = solved.positive; zero = solved.zero };
}

facing-solved : (columns i column : ℕ) (basic : List ℕ) (row : List ℤ) → i < length basic → (entry row column ≡ pos 0 → ⊥) → Solved columns basic i row → Solved columns (set basic i column) i (facing column row)
facing-solved columns i column basic row h some is =
    let test = int_lt (entry row column) (pos 0) in
    let own : basic_at (set basic i column) i ≡ column = get_or-set_same basic i column 0 h in
    record {
      width = facing-length column row ∙ is.width;
      primitive = turned-primitive test row is.primitive;
      positive = subst (λ v. pos 0 <ℤ entry (facing column row) v) (sym own) (turned-positive test row column refl some);
      zero = λ j less away.
          let same : basic_at (set basic i column) j ≡ basic_at basic j = get_or-set_other basic i j column 0 away in
          let none = is.zero j (omega (arith, less, length-set basic i column)) away in
          ap (entry (facing column row)) same ∙ turned-zero test row (basic_at basic j) none;
    }

length-cases : (column : ℕ) (other row : List ℤ) (b : Bool) → length row ≡ length other → length (cond b row (Crossed column other row)) ≡ length row
length-cases column other row true same = refl
length-cases column other row false same = length-reduced (pos (content (crossed column row other))) (pos (nat_abs (entry other column))) (turned (entry other column) (entry row column)) row other same

pub length-eliminated : (column : ℕ) (other row : List ℤ) → length row ≡ length other → length (eliminated column other row) ≡ length row
length-eliminated column other row same = length-cases column other row (nat_abs (entry row column) == 0) same

zero-cases : (column v : ℕ) (other row : List ℤ) (b : Bool) → length row ≡ length other → 0 < content (crossed column row other) → entry other v ≡ pos 0 → entry row v ≡ pos 0 → entry (cond b row (Crossed column other row)) v ≡ pos 0
zero-cases column v other row true same some none nil = nil
zero-cases column v other row false same some none nil =
    let g = content (crossed column row other) in
    let p = pos (nat_abs (entry other column)) in
    let q = turned (entry other column) (entry row column) in
    let whole = crossed-combination column v other row same some in
    let first : p *ℤ entry row v ≡ pos 0 = ap (λ z. p *ℤ z) nil ∙ *ℤ-zero p in
    let second : q *ℤ entry other v ≡ pos 0 = ap (λ z. q *ℤ z) none ∙ *ℤ-zero q in
    zero-factor (entry (Crossed column other row) v) g some (*ℤ_comm (entry (Crossed column other row) v) (pos g) ∙ omega (arith, ints, whole, first, second))

-- it is 0 where both rows are
pub eliminated-zero : (column v : ℕ) (other row : List ℤ) → length row ≡ length other → 0 < content (crossed column row other) → entry other v ≡ pos 0 → entry row v ≡ pos 0 → entry (eliminated column other row) v ≡ pos 0
eliminated-zero column v other row same some none nil = zero-cases column v other row (nat_abs (entry row column) == 0) same some none nil

same-cases : (X : Type 0) (j i : ℕ) (b : Bool) → (j == i) ≡ b → (j ≡ i → X) → ((j ≡ i → ⊥) → X) → X
same-cases X j i true e same away = same (eqb-true _ _ e)
same-cases X j i false e same away = away (eqb-false _ _ e)

-- by whether two numbers are the same
pub by-same : (X : Type 0) (j i : ℕ) → (j ≡ i → X) → ((j ≡ i → ⊥) → X) → X
by-same X j i same away = same-cases X j i (j == i) refl same away

-- the crossing of a row by another isn't 0 everywhere where the row is positive in a column in which the other is 0
pub crossed-positive : (column v : ℕ) (other row : List ℤ) → length row ≡ length other → v < length row → (entry other column ≡ pos 0 → ⊥) → entry other v ≡ pos 0 → pos 0 <ℤ entry row v → 0 < content (crossed column row other)
crossed-positive column v other row same place factor nil positive =
    let n = nat_abs (entry other column) in
    let q = turned (entry other column) (entry row column) in
    let inside : v < length (crossed column row other) = omega (arith, place, length-combined (pos n) q row other same) in
    let value : get_or (crossed column row other) v (pos 0) ≡ pos n *ℤ entry row v -ℤ q *ℤ entry other v = combined-at (pos n) q row other v (pos 0) place same in
    let none : q *ℤ entry other v ≡ pos 0 = ap (λ z. q *ℤ z) nil ∙ *ℤ-zero q in
    let product = positive-product n (entry row v) (some-magnitude (entry other column) factor) positive in
    content-positive (crossed column row other) v inside (omega (arith, ints, value, none, product))

-- so is that of two rows of a tableau
crossed-some : (columns i j column : ℕ) (basic : List ℕ) (other row : List ℤ) → (j ≡ i → ⊥) → j < length basic → basic_at basic j < columns → (entry other column ≡ pos 0 → ⊥)
    → Solved columns basic i other → Solved columns basic j row → 0 < content (crossed column row other)
crossed-some columns i j column basic other row away k within factor own is =
    crossed-positive column (basic_at basic j) other row (is.width ∙ sym own.width) (omega (arith, within, is.width)) factor (own.zero j k away) is.positive

eliminated-solved-row : (columns i j column : ℕ) (basic : List ℕ) (other row : List ℤ) → (j ≡ i → ⊥) → i < length basic → j < length basic → basic_at basic j < columns → column < columns → (entry other column ≡ pos 0 → ⊥) → 0 < content (crossed column row other)
    → Solved columns basic i other → Solved columns basic j row → Solved columns (set basic i column) j (eliminated column other row)
eliminated-solved-row columns i j column basic other row away h k within there factor some own is =
    let same : length row ≡ length other = is.width ∙ sym own.width in
    let at : basic_at (set basic i column) j ≡ basic_at basic j = get_or-set_other basic i j column 0 away in
    let v = basic_at basic j in
    let place : v < length row = omega (arith, within, is.width) in
    let gone = eliminated-gone column other row same (omega (arith, there, is.width)) some in
    record {
      width = length-eliminated column other row same ∙ is.width;
      primitive = eliminated-primitive column other row is.primitive some;
      positive = subst (λ v. pos 0 <ℤ entry (eliminated column other row) v) (sym at) (eliminated-positive column v other row same place factor some (own.zero j k away) is.positive);
      zero = λ l less apart.
          let inside : l < length basic = omega (arith, less, length-set basic i column) in
          by-same (entry (eliminated column other row) (basic_at (set basic i column) l) ≡ pos 0) l i
          (λ e. ap (λ l. entry (eliminated column other row) (basic_at (set basic i column) l)) e ∙ ap (entry (eliminated column other row)) (get_or-set_same basic i column 0 h) ∙ gone)
          (λ other_one. ap (entry (eliminated column other row)) (get_or-set_other basic i l column 0 other_one) ∙ eliminated-zero column (basic_at basic l) other row same some (own.zero l inside other_one) (is.zero l inside apart));
    }

-- a pivot solves the rows for the new basis
pub pivoted-solved : (columns i column : ℕ) (basic : List ℕ) (rows : List (List ℤ)) → SolvedRows columns basic rows → i < length rows → column < columns → (entry (row_at rows i) column ≡ pos 0 → ⊥) → SolvedRows columns (set basic i column) (pivoted i column rows)
pivoted-solved columns i column basic rows is h there factor =
    let count = length-pivoted i column rows in
    let basics = length-set basic i column in
    let inside : i < length basic = omega (arith, h, is.basics) in
    record {
      basics = basics ∙ is.basics ∙ sym count;
      within = λ j less.
          let k : j < length basic = omega (arith, less, basics) in
          by-same (basic_at (set basic i column) j < columns) j i
          (λ e. subst (λ l. basic_at (set basic i column) l < columns) (sym e) (let at = get_or-set_same basic i column 0 inside in omega (arith, at, there)))
          (λ away. let at = get_or-set_other basic i j column 0 away in let old = is.within j k in omega (arith, at, old));
      solved = λ j less.
          let other = row_at rows i in
          let row = row_at rows j in
          let there_is : j < length rows = omega (arith, less, count) in
          let k : j < length basic = omega (arith, there_is, is.basics) in
          by-same (Solved columns (set basic i column) j (row_at (pivoted i column rows) j)) j i
          (λ e. subst (λ l. Solved columns (set basic i column) l (row_at (pivoted i column rows) l)) (sym e) (subst (Solved columns (set basic i column) i) (sym (pivoted-own i column rows h)) (facing-solved columns i column basic other inside factor (is.solved i h))))
          (λ away.
          let some = crossed-some columns i j column basic other row away k (is.within j k) factor (is.solved i h) (is.solved j there_is) in
          subst (Solved columns (set basic i column) j) (sym (pivoted-other i j column rows there_is away)) (eliminated-solved-row columns i j column basic other row away inside k (is.within j k) there factor some (is.solved i h) (is.solved j there_is)));
    }

-- rows of a tableau can pivot
pub table-pivots : (t : Table) (i column : ℕ) → IsTable t → i < length t.rows → column < width t → (entry (row_at t.rows i) column ≡ pos 0 → ⊥) → CanPivot i column t.rows
table-pivots t i column is h there factor =
    let own = is.solved i h in
    let all = table-solved t is in
    record {
      within = h;
      short = own.short;
      there = omega (arith, there, own.width);
      others = λ j less away.
          let k : j < length t.basic = omega (arith, less, is.basics) in
          let row = is.solved j less in
          record {
            short = row.short;
            same = row.width ∙ sym own.width;
            there = omega (arith, there, row.width);
            some = crossed-some (width t) i j column t.basic (row_at t.rows i) (row_at t.rows j) away k (is.within j k) factor (all.solved i h) (all.solved j less);
          };
    }

-- a tableau after a pivot
abbrev pub after : Table → ℕ → ℕ → Table
after t i column = record t { rows = pivoted i column t.rows; basic = set t.basic i column }

-- a pivot keeps a tableau
pub pivoted-table : (t : Table) (i column : ℕ) → IsTable t → i < length t.rows → column < width t → (entry (row_at t.rows i) column ≡ pos 0 → ⊥) → list_all are_short (pivoted i column t.rows) ≡ true → IsTable (after t i column)
pivoted-table t i column is h there factor room =
    let rows = pivoted i column t.rows in
    let count = length-pivoted i column t.rows in
    let all = pivoted-solved (width t) i column t.basic t.rows (table-solved t is) h there factor in
    let wide : t.variables + length rows ≡ width t = ap (λ n. t.variables + n) count in
    record {
      basics = all.basics;
      within = λ j less. subst (λ n. basic_at (set t.basic i column) j < n) (sym wide) (all.within j less);
      solved = λ j less.
          let solved = all.solved j less in
          subst (λ n. IsSolved n (set t.basic i column) j (row_at rows j)) (sym wide) (record { width = solved.width; short = all-at are_short rows j [] less room; primitive = solved.primitive; positive = solved.positive; zero = solved.zero });
      lowers = is.lowers ∙ sym wide;
      uppers = is.uppers ∙ sym wide;
      few = omega (arith, count, is.few);
      long_lower = is.long_lower;
      long_upper = is.long_upper;
    }

-- a list over which a function is written from the front: what is read, and the end
pub over-read : {X : Type 0} (f : X → X) (xs ys : List X) (i : ℕ) (d : X) → i < length xs → ys ≡ map f (take i xs) ++ drop i xs → get_or ys i d ≡ get_or xs i d
over-read f xs ys i d h is =
    let front : length (map f (take i xs)) ≡ i = length-map (take i xs) f ∙ length-take-le i xs (omega arith) in
    ap (λ l. get_or l i d) (is ∙ ap (λ rest. map f (take i xs) ++ rest) (drop_more xs i d h)) ∙ get_or_at (map f (take i xs)) (get_or xs i d) (drop (i + 1) xs) d i front

pub over-end : {X : Type 0} (f : X → X) (xs ys : List X) (i : ℕ) → length xs ≤ i → ys ≡ map f (take i xs) ++ drop i xs → ys ≡ map f xs
over-end f xs ys i past is = is ∙ ap (λ rest. map f (take i xs) ++ rest) (drop_all i xs past) ∙ append-nil (map f (take i xs)) ∙ ap (map f) (take_all i xs past)

-- a list put in place of one as long
pub refilled : {X : Type 0} (n : ℕ) (ws xs : List X) → length ws ≡ n → length xs ≡ n → take n (ws ++ drop (length ws) xs) ≡ ws
refilled n ws xs e f = ap (λ rest. take n (ws ++ rest)) (drop_all (length ws) xs (omega (arith, e, f))) ∙ ap (take n) (append-nil ws) ∙ take_all n ws (omega (arith, e))

-- the others of the rows that pivot, by what they are
pub cross-at : (i column j : ℕ) (rows : List (List ℤ)) (other row : List ℤ) → CanPivot i column rows → j < length rows → (j ≡ i → ⊥) → other ≡ row_at rows i → row ≡ row_at rows j → CanCross column other row
cross-at i column j rows other row can h away own at = subst (λ r. CanCross column r row) (sym own) (subst (CanCross column (row_at rows i)) (sym at) (can.others j h away))

pub room-at : (i column j : ℕ) (rows : List (List ℤ)) (other row : List ℤ) → list_all are_short (pivoted i column rows) ≡ true → j < length rows → (j ≡ i → ⊥) → other ≡ row_at rows i → row ≡ row_at rows j → are_short (eliminated column other row) ≡ true
room-at i column j rows other row room h away own at =
    ap (λ r. are_short (eliminated column r row)) own ∙ ap (λ r. are_short (eliminated column (row_at rows i) r)) at ∙ ap are_short (sym (pivoted-other i j column rows h away))
    ∙ all-at are_short (pivoted i column rows) j [] (omega (arith, h, length-pivoted i column rows)) room

-- a pivot by the rows before and after
pub pivoted-split : (i column : ℕ) (front back : List (List ℤ)) (row : List ℤ) → length front ≡ i → pivoted i column (front ++ row ∷ back) ≡ map (eliminated column row) front ++ facing column row ∷ map (eliminated column row) back
pivoted-split i column front back row e =
    let whole = front ++ row ∷ back in
    let own : row_at whole i ≡ row = get_or_at front row back [] i e in
    let f = eliminated column row in
    ap (λ r. set (map (eliminated column r) whole) i (facing column r)) own
    ∙ ap (λ l. set l i (facing column row)) (map-append f front (row ∷ back))
    ∙ set_at (map f front) (f row) (map f back) (facing column row) i (length-map front f ∙ e)

pub one-item : {X : Type 0} (xs : List X) (d : X) → length xs ≡ 1 → xs ≡ get_or xs 0 d ∷ []
one-item [] d e = absurd (omega arith)
one-item (x ∷ []) d e = refl
one-item (x ∷ y ∷ xs) d e = absurd (omega arith)
