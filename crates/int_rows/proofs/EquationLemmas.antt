-- Equations of forms and slacks, entry by entry.
use Rattle.std.proofs.Common.{eq-eqb, ◌≡◌, ℕ, suc, zero, List, [], ◌∷◌, ◌++◌, refl, ap, sym, ◌∙◌, arith, subst, ◌<◌, ◌≤◌, ◌+◌, ◌^◌, true, false, Bool, cond, ◌==◌, ◌&&◌, length, get_or, map, replicate, take, ⊎_elim}
use Rattle.std.specs.Prelude.{ℤ, pos, neg_ℤ, ◌<ℤ◌, nat_abs, nat_lt, Option, Some, None}
use Rattle.std.specs.Int.{◌∣◌}
use Rattle.std.specs.List.{list_all, range_with_len}
use Rattle.std.proofs.lemmas.Bool.{cases_lt, eqb-true, ltb-true}
use Rattle.std.proofs.lemmas.Int.{ints}
use Rattle.std.proofs.lemmas.List.{get_or-replicate, get_or_past, length-map, length-replicate, length-take-le, map-id, take_more}
use Rattle.std.proofs.lemmas.List.FromFn.{get_or-map-range_with_len, get_or-range_with_len, length-range_with_len, map-range_with_len_more}
use Rattle.std.proofs.lemmas.List.Folds.{list_all-append}
use Rattle.lin_atoms.specs.Linear.{Linear, are_ordered, are_short, is_linear, is_short, lin_is_below, of_constant}
use Rattle.lin_atoms.proofs.Public.{both_true}
use Rattle.int_rows.specs.Basis.{bound}
use Rattle.int_rows.specs.Node.{coefficient, equation, equations}
use Rattle.int_rows.specs.Rows.{content}
use Rattle.int_rows.specs.Table.{IsSolved, IsTable, first_table}
use Rattle.int_rows.proofs.CombineLemmas.{small-test}
use Rattle.int_rows.proofs.ContentLemmas.{by-one, content-is, divides-at}

small-step : (t : ℕ × ℤ) (v : ℕ) (rest : ℤ) (b : Bool) → nat_abs t.1 < 2 ^ 63 → nat_abs rest < 2 ^ 63 → nat_abs (cond b t.1 rest) < 2 ^ 63
small-step t v rest true h k = h
small-step t v rest false h k = k

pub coefficient-small : (ts : List (ℕ × ℤ)) (v : ℕ) → are_short ts ≡ true → nat_abs (coefficient ts v) < 2 ^ 63
coefficient-small [] v h = omega arith
coefficient-small (t ∷ ts) v h =
    let both = both_true (is_short t.1) _ h in
    small-step t v (coefficient ts v) (t.0 == v) (ltb-true _ _ both.0) (coefficient-small ts v both.1)

pub other-entry : (b : Bool) (x y : ℤ) → (b ≡ true → ⊥) → cond b x y ≡ y
other-entry true x y h = absurd (h refl)
other-entry false x y h = refl

pub range-more : (a n : ℕ) → range_with_len a (n + 1) ≡ range_with_len a n ++ (a + n) ∷ []
range-more a n = sym (map-id (range_with_len a (n + 1))) ∙ map-range_with_len_more (λ k. k) a n (a + n) refl ∙ ap (λ ks. ks ++ (a + n) ∷ []) (map-id (range_with_len a n))

-- one equation more
pub equations-++ : (columns slack : ℕ) (lins : List Linear) (lin : Linear) → equations columns slack (lins ++ lin ∷ []) ≡ equations columns slack lins ++ equation columns (slack + length lins) lin ∷ []
equations-++ columns slack [] lin = let e : slack ≡ slack + 0 = omega arith in ap (λ s. equation columns s lin ∷ []) e
equations-++ columns slack (l ∷ lins) lin =
    let e : slack + 1 + length lins ≡ slack + suc (length lins) = omega arith in
    ap (λ rows. equation columns slack l ∷ rows) (equations-++ columns (slack + 1) lins lin ∙ ap (λ s. equations columns (slack + 1) lins ++ equation columns s lin ∷ []) e)

pub equations-more : (columns slack : ℕ) (lins : List Linear) (i : ℕ) (d : Linear) → i < length lins → equations columns slack (take (i + 1) lins) ≡ equations columns slack (take i lins) ++ equation columns (slack + i) (get_or lins i d) ∷ []
equations-more columns slack lins i d h =
    ap (equations columns slack) (take_more lins i d h) ∙ equations-++ columns slack (take i lins) (get_or lins i d)
    ∙ ap (λ n. equations columns slack (take i lins) ++ equation columns (slack + n) (get_or lins i d) ∷ []) (length-take-le i lins (omega arith))

pub all-more : {X : Type 0} (p : X → Bool) (xs : List X) (i : ℕ) (d : X) → i < length xs → list_all p (take i xs) ≡ true → p (get_or xs i d) ≡ true → list_all p (take (i + 1) xs) ≡ true
all-more p xs i d h front here =
    ap (list_all p) (take_more xs i d h) ∙ list_all-append p (take i xs) (get_or xs i d ∷ []) ∙ ap (λ b. b && (p (get_or xs i d) && true)) front ∙ ap (λ b. b && true) here

pub all-at : {X : Type 0} (p : X → Bool) (xs : List X) (i : ℕ) (d : X) → i < length xs → list_all p xs ≡ true → p (get_or xs i d) ≡ true
all-at p [] i d h all = absurd (omega arith)
all-at p (x ∷ xs) zero d h all = (both_true (p x) _ all).0
all-at p (x ∷ xs) (suc i) d h all = all-at p xs i d (omega arith) (both_true (p x) _ all).1

all-mapped : {X Y : Type 0} (p : Y → Bool) (f : X → Y) (xs : List X) → ((x : X) → p (f x) ≡ true) → list_all p (map f xs) ≡ true
all-mapped p f [] h = refl
all-mapped p f (x ∷ xs) h = ap (λ b. b && list_all p (map f xs)) (h x) ∙ all-mapped p f xs h

below-none : (n v : ℕ) (t : ℕ × ℤ) (rest : ℤ) → t.0 < n → n ≤ v → rest ≡ pos 0 → cond (t.0 == v) t.1 rest ≡ pos 0
below-none n v t rest h le none = other-entry (t.0 == v) t.1 rest (λ e. let same = eqb-true _ _ e in absurd (omega arith)) ∙ none

pub coefficient-none : (n v : ℕ) (ts : List (ℕ × ℤ)) → list_all (λ t. nat_lt t.0 n) ts ≡ true → n ≤ v → coefficient ts v ≡ pos 0
coefficient-none n v [] h le = refl
coefficient-none n v (t ∷ ts) h le =
    let both = both_true (nat_lt t.0 n) _ h in
    below-none n v t (coefficient ts v) (ltb-true _ _ both.0) le (coefficient-none n v ts both.1 le)

-- the entry of a variable in an equation
abbrev pub equation_entry : ℕ → Linear → ℕ → ℤ
equation_entry slack lin c = cond (c == slack) (pos 1) (neg_ℤ (coefficient lin.terms c))

range-at : (a n i d : ℕ) → i < n → get_or (range_with_len a n) i d ≡ a + i
range-at a n i d h = get_or-range_with_len a n i d h

pub equation-at : (columns slack : ℕ) (lin : Linear) (v : ℕ) → v < columns → get_or (equation columns slack lin) v (pos 0) ≡ equation_entry slack lin v
equation-at columns slack lin v h = get_or-map-range_with_len (equation_entry slack lin) 0 columns v v (pos 0) h (omega arith)

pub equations-at : (columns slack : ℕ) (lins : List Linear) (i : ℕ) (d : Linear) → i < length lins → get_or (equations columns slack lins) i [] ≡ equation columns (slack + i) (get_or lins i d)
equations-at columns slack [] i d h = absurd (omega arith)
equations-at columns slack (l ∷ lins) zero d h = let e : slack ≡ slack + 0 = omega arith in ap (λ s. equation columns s l) e
equations-at columns slack (l ∷ lins) (suc i) d h = let e : slack + 1 + i ≡ slack + suc i = omega arith in equations-at columns (slack + 1) lins i d (omega arith) ∙ ap (λ s. equation columns s (get_or lins i d)) e

pub length-equations : (columns slack : ℕ) (lins : List Linear) → length (equations columns slack lins) ≡ length lins
length-equations columns slack [] = refl
length-equations columns slack (l ∷ lins) = ap suc (length-equations columns (slack + 1) lins)

-- a row with an entry 1 is primitive
pub one-primitive : (row : List ℤ) (i : ℕ) → i < length row → get_or row i (pos 0) ≡ pos 1 → content row ≡ 1
one-primitive row i h one =
    content-is 1 row (record { common = by-one row; greatest = λ d all. subst (λ z. d ∣ nat_abs z) one (divides-at d row i h all) })

small-entry : (slack : ℕ) (lin : Linear) (c : ℕ) (b : Bool) → are_short lin.terms ≡ true → is_short (cond b (pos 1) (neg_ℤ (coefficient lin.terms c))) ≡ true
small-entry slack lin c true h = refl
small-entry slack lin c false h = let small = coefficient-small lin.terms c h in let less : nat_abs (neg_ℤ (coefficient lin.terms c)) < 2 ^ 63 = omega (arith, ints, small) in small-test (neg_ℤ (coefficient lin.terms c)) less

same-test : (n : ℕ) → (n == n) ≡ true
same-test n = eq-eqb n n refl

-- the equation is solved for its slack
pub equation-solved : (variables count i : ℕ) (lin : Linear) → i < count → are_short lin.terms ≡ true → lin_is_below variables lin ≡ true → IsSolved (variables + count) (range_with_len variables count) i (equation (variables + count) (variables + i) lin)
equation-solved variables count i lin h small below =
    let columns = variables + count in
    let slack = variables + i in
    let row = equation columns slack lin in
    let long : length row ≡ columns = length-map (range_with_len 0 columns) _ ∙ length-range_with_len 0 columns in
    let within : slack < columns = omega arith in
    let place : slack < length row = omega (arith, long, within) in
    let own : get_or row slack (pos 0) ≡ pos 1 = equation-at columns slack lin slack within ∙ ap (λ b. cond b (pos 1) (neg_ℤ (coefficient lin.terms slack))) (same-test slack) in
    let basic = range-at variables count i 0 h in
    record {
      width = long;
      short = all-mapped is_short (equation_entry slack lin) (range_with_len 0 columns) (λ c. small-entry slack lin c (c == slack) small);
      primitive = eq-eqb (content row) 1 (one-primitive row slack place own);
      positive = subst (λ v. pos 0 <ℤ get_or row v (pos 0)) (sym basic) (subst (λ z. pos 0 <ℤ z) (sym own) (omega (arith, ints)));
      zero = λ j less other.
          let inside : j < count = omega (arith, less, length-range_with_len variables count) in
          let v = variables + j in
          let at : get_or row v (pos 0) ≡ equation_entry slack lin v = equation-at columns slack lin v (omega arith) in
          let none = coefficient-none variables v lin.terms below (omega arith) in
          let away : equation_entry slack lin v ≡ neg_ℤ (coefficient lin.terms v) = other-entry (v == slack) (pos 1) (neg_ℤ (coefficient lin.terms v)) (λ e. let same = eqb-true _ _ e in other (omega arith)) in
          ap (λ w. get_or row w (pos 0)) (range-at variables count j 0 inside) ∙ at ∙ away ∙ ap neg_ℤ none;
    }

no-bound : (n v : ℕ) → bound (replicate n None) v ≡ None
no-bound n v = ⊎_elim (λ less. get_or-replicate n v None None less) (λ past. get_or_past (replicate n None) v None (omega (arith, past, length-replicate {A = Option ℤ} n None))) (cases_lt v n)

none-some : (o : Option ℤ) (b : ℤ) → o ≡ None → o ≡ Some b → ⊥
none-some o b none some = cc

-- the first tableau
pub first-solved : (variables : ℕ) (lins : List Linear) → list_all (lin_is_below variables) lins ≡ true → list_all is_linear lins ≡ true → length lins ≤ 1024 → IsTable (first_table variables lins)
first-solved variables lins below legal few =
    let rows = equations (variables + length lins) variables lins in
    let n = length lins in
    let count : length rows ≡ n = length-equations (variables + length lins) variables lins in
    let basics : length (range_with_len variables n) ≡ n = length-range_with_len variables n in
    record {
      basics = basics ∙ sym count;
      within = λ i h. let inside : i < n = omega (arith, h, basics) in let at = range-at variables n i 0 inside in omega (arith, at, count, inside);
      solved = λ i h.
          let inside : i < n = omega (arith, h, count) in
          let lin = get_or lins i (of_constant (pos 0)) in
          let small = both_true (are_ordered 0 lin.terms) _ (all-at is_linear lins i (of_constant (pos 0)) inside legal) in
          let solved = equation-solved variables n i lin inside (both_true (are_short lin.terms) _ small.1).0 (all-at (lin_is_below variables) lins i (of_constant (pos 0)) inside below) in
          let row = equations-at (variables + n) variables lins i (of_constant (pos 0)) inside in
          subst (λ k. IsSolved (variables + k) (range_with_len variables n) i (get_or rows i [])) (sym count) (subst (λ r. IsSolved (variables + n) (range_with_len variables n) i r) (sym row) solved);
      lowers = length-replicate (variables + n) None ∙ ap (λ k. variables + k) (sym count);
      uppers = length-replicate (variables + n) None ∙ ap (λ k. variables + k) (sym count);
      few = omega (arith, count, few);
      long_lower = λ v b some. absurd (none-some (bound (replicate (variables + n) None) v) b (no-bound (variables + n) v) some);
      long_upper = λ v b some. absurd (none-some (bound (replicate (variables + n) None) v) b (no-bound (variables + n) v) some);
    }
