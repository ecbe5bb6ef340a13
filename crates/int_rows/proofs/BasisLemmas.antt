-- Bases of tableaux, in order of number.
use Rattle.std.proofs.Common.{◌≡◌, ℕ, suc, zero, List, [], ◌∷◌, refl, ap, sym, ◌∙◌, arith, subst, ◌<◌, ◌≤◌, ◌+◌, true, false, Bool, cond, ◌==◌, ◌&&◌, length, get_or, set, eq-eqb}
use Rattle.std.specs.Prelude.{ℤ, pos, ◌||◌, nat_le, nat_lt}
use Rattle.std.specs.List.{All, Contains, filter, list_all, range_with_len}
use Rattle.std.proofs.lemmas.Bool.{eqb-false, eqb-true, ne_eqb}
use Rattle.std.proofs.lemmas.Bool.Decides.{nat_tests}
use Rattle.std.proofs.lemmas.Int.{ints}
use Rattle.std.proofs.lemmas.List.{get_or_default}
use Rattle.std.proofs.lemmas.List.Folds.{list_any_none}
use Rattle.std.proofs.lemmas.List.FromFn.{get_or-range_with_len, length-range_with_len}
use Rattle.int_rows.specs.Basis.{IsBasicRow, IsBasis, IsWideRow, are_rising, in_order, is_in}
use Rattle.int_rows.specs.Rows.{Follows, entry}
use Rattle.int_rows.specs.Table.{HasWide, IsTable, Table, basic_at, pivoted, row_at, width}
use Rattle.int_rows.proofs.PivotedLemmas.{SolvedRows, by-same, length-pivoted, pivoted-solved, table-pivots, table-solved}
use Rattle.int_rows.proofs.SpaceLemmas.{all-own, pivoted-follows}

le-test : (a b : ℕ) → a ≤ b → nat_le a b ≡ true
le-test a b h = grind (arith, nat_tests)

lt-test : (a b : ℕ) → a < b → nat_lt a b ≡ true
lt-test a b h = grind (arith, nat_tests)

rising-step : (from a : ℕ) (rest : List ℕ) (b : Bool) → from ≤ a → are_rising (a + 1) rest ≡ true → are_rising from rest ≡ true → are_rising from (cond b (a ∷ rest) rest) ≡ true
rising-step from a rest true h more same = ap (λ t. t && are_rising (a + 1) rest) (le-test from a h) ∙ more
rising-step from a rest false h more same = same

-- some of the numbers in a row rise
rising-some : (p : ℕ → Bool) (from a n : ℕ) → from ≤ a → are_rising from (filter p (range_with_len a n)) ≡ true
rising-some p from a zero h = refl
rising-some p from a (suc n) h = rising-step from a (filter p (range_with_len (a + 1) n)) (p a) h (rising-some p (a + 1) (a + 1) n (omega arith)) (rising-some p from (a + 1) n (omega arith))

within-step : (columns a : ℕ) (rest : List ℕ) (b : Bool) → a < columns → list_all (λ c. nat_lt c columns) rest ≡ true → list_all (λ c. nat_lt c columns) (cond b (a ∷ rest) rest) ≡ true
within-step columns a rest true h more = ap (λ t. t && list_all (λ c. nat_lt c columns) rest) (lt-test a columns h) ∙ more
within-step columns a rest false h more = more

within-some : (p : ℕ → Bool) (a n columns : ℕ) → a + n ≤ columns → list_all (λ c. nat_lt c columns) (filter p (range_with_len a n)) ≡ true
within-some p a zero columns h = refl
within-some p a (suc n) columns h = within-step columns a (filter p (range_with_len (a + 1) n)) (p a) (omega arith) (within-some p (a + 1) n columns (omega arith))

both-true : (b : Bool) → b ≡ true → b ≡ false → ⊥
both-true true h k = cc
both-true false h k = cc

or-step : (x : ℕ) (either first second : List ℕ) (b d : Bool) → (b ≡ true → d ≡ false) → length either ≡ length first + length second → length (cond (b || d) (x ∷ either) either) ≡ length (cond b (x ∷ first) first) + length (cond d (x ∷ second) second)
or-step x either first second true true h e = absurd (both-true true refl (h refl))
or-step x either first second true false h e = omega (arith, e)
or-step x either first second false true h e = omega (arith, e)
or-step x either first second false false h e = e

-- how many pass one of two tests that never pass together
count-or : (p q : ℕ → Bool) (xs : List ℕ) → ((c : ℕ) → p c ≡ true → q c ≡ false) → length (filter (λ c. p c || q c) xs) ≡ length (filter p xs) + length (filter q xs)
count-or p q [] h = refl
count-or p q (x ∷ xs) h = or-step x (filter (λ c. p c || q c) xs) (filter p xs) (filter q xs) (p x) (q x) (h x) (count-or p q xs h)

one-step : (x : ℕ) (rest : List ℕ) (b : Bool) (n : ℕ) → (b ≡ true → length rest + 1 ≡ n) → (b ≡ false → length rest ≡ n) → length (cond b (x ∷ rest) rest) ≡ n
one-step x rest true n h k = let e = h refl in omega (arith, e)
one-step x rest false n h k = k refl

count-none : (b a n : ℕ) → b < a → length (filter (λ c. b == c) (range_with_len a n)) ≡ 0
count-none b a zero h = refl
count-none b a (suc n) h = one-step a (filter (λ c. b == c) (range_with_len (a + 1) n)) (b == a) 0 (λ t. let same = eqb-true _ _ t in absurd (omega (arith, h, same))) (λ f. count-none b (a + 1) n (omega (arith, h)))

count-one : (b a n : ℕ) → a ≤ b → b < a + n → length (filter (λ c. b == c) (range_with_len a n)) ≡ 1
count-one b a zero h k = absurd (omega (arith, h, k))
count-one b a (suc n) h k =
    one-step a (filter (λ c. b == c) (range_with_len (a + 1) n)) (b == a) 1
    (λ t. let same = eqb-true _ _ t in let none = count-none b (a + 1) n (omega (arith, same)) in omega (arith, none))
    (λ f. let away = eqb-false _ _ f in count-one b (a + 1) n (omega (arith, h, away)) (omega (arith, k)))

count-never : (xs : List ℕ) → length (filter (λ c. false) xs) ≡ 0
count-never [] = refl
count-never (x ∷ xs) = count-never xs

-- no number stands twice in the list
abbrev Distinct : List ℕ → Type 0
Distinct [] = Unit {0}
Distinct (b ∷ bs) = (is_in bs b ≡ false) × Distinct bs

count-all : (bs : List ℕ) (n : ℕ) → Distinct bs → ((i : ℕ) → i < length bs → basic_at bs i < n) → length (filter (is_in bs) (range_with_len 0 n)) ≡ length bs
count-all [] n apart within = count-never (range_with_len 0 n)
count-all (b ∷ bs) n apart within =
    let whole = count-or (λ c. b == c) (is_in bs) (range_with_len 0 n) (λ c t. subst (λ v. is_in bs v ≡ false) (eqb-true _ _ t) apart.0) in
    let here : b < n = within 0 (omega arith) in
    let one = count-one b 0 n (omega arith) (omega (arith, here)) in
    let rest = count-all bs n apart.1 (λ i h. within (suc i) (omega (arith, h))) in
    omega (arith, whole, one, rest)

distinct : (bs : List ℕ) → ((i j : ℕ) → i < length bs → j < length bs → basic_at bs i ≡ basic_at bs j → i ≡ j) → Distinct bs
distinct [] h = tt
distinct (b ∷ bs) h = (
  list_any_none (λ x. x == b) bs (λ k d less. ne_eqb (get_or bs k d) b (λ e.
      let same = h (suc k) 0 (omega (arith, less)) (omega arith) (get_or_default bs k 0 d less ∙ e) in
      absurd (omega (arith, same)))),
  distinct bs (λ i j less lower e. let same = h (suc i) (suc j) (omega (arith, less)) (omega (arith, lower)) e in omega (arith, same)),
)

passes-step : (p : ℕ → Bool) (x : ℕ) (rest : List ℕ) (b : Bool) → p x ≡ b → ((k d : ℕ) → k < length rest → p (get_or rest k d) ≡ true) → (k d : ℕ) → k < length (cond b (x ∷ rest) rest) → p (get_or (cond b (x ∷ rest) rest) k d) ≡ true
passes-step p x rest true e h zero d less = e
passes-step p x rest true e h (suc k) d less = h k d (omega (arith, less))
passes-step p x rest false e h k d less = h k d less

-- what is filtered passes, and what passes is there
passes : (p : ℕ → Bool) (xs : List ℕ) (k d : ℕ) → k < length (filter p xs) → p (get_or (filter p xs) k d) ≡ true
passes p [] k d less = absurd (omega (arith, less))
passes p (x ∷ xs) k d less = passes-step p x (filter p xs) (p x) refl (λ k d less. passes p xs k d less) k d less

passes-contained : (p : ℕ → Bool) (xs : List ℕ) (c : ℕ) → Contains (filter p xs) c → p c ≡ true
passes-contained p xs c inside = ap p (sym inside.2) ∙ passes p xs inside.0 c inside.1

kept-step : (x c : ℕ) (rest : List ℕ) (b : Bool) → Contains rest c → Contains (cond b (x ∷ rest) rest) c
kept-step x c rest true inside = (suc inside.0, omega (arith, inside.1), inside.2)
kept-step x c rest false inside = inside

kept : (p : ℕ → Bool) (xs : List ℕ) (c k : ℕ) → p c ≡ true → k < length xs → get_or xs k c ≡ c → Contains (filter p xs) c
kept p [] c k pass less e = absurd (omega (arith, less))
kept p (x ∷ xs) c zero pass less e = subst (λ b. Contains (cond b (x ∷ filter p xs) (filter p xs)) c) (sym (ap p e ∙ pass)) (zero, omega arith, e)
kept p (x ∷ xs) c (suc k) pass less e = kept-step x c (filter p xs) (p x) (kept p xs c k pass (omega (arith, less)) e)

abbrev Place : List ℕ → ℕ → Type 0
Place bs c = (i : ℕ) × (i < length bs) × (basic_at bs i ≡ c)

place-step : (b c : ℕ) (bs : List ℕ) (t : Bool) → (b == c) ≡ t → (t || is_in bs c) ≡ true → (is_in bs c ≡ true → Place bs c) → Place (b ∷ bs) c
place-step b c bs true e h rest = (zero, omega arith, eqb-true _ _ e)
place-step b c bs false e h rest = let found = rest h in (suc found.0, omega (arith, found.1), found.2)

-- where a column of the list stands
place : (bs : List ℕ) (c : ℕ) → is_in bs c ≡ true → Place bs c
place [] c h = absurd (both-true false h refl)
place (b ∷ bs) c h = place-step b c bs (b == c) refl h (λ k. place bs c k)

or-right : (t d : Bool) → d ≡ true → (t || d) ≡ true
or-right true d h = refl
or-right false d h = h

in-at : (bs : List ℕ) (j : ℕ) → j < length bs → is_in bs (basic_at bs j) ≡ true
in-at [] j h = absurd (omega (arith, h))
in-at (b ∷ bs) zero h = ap (λ t. t || is_in bs b) (eq-eqb b b refl)
in-at (b ∷ bs) (suc j) h = or-right (b == basic_at bs j) (is_in bs (basic_at bs j)) (in-at bs j (omega (arith, h)))

one-place : (columns : ℕ) (basic : List ℕ) (rows : List (List ℤ)) → SolvedRows columns basic rows → (i j : ℕ) → i < length basic → j < length basic → basic_at basic i ≡ basic_at basic j → i ≡ j
one-place columns basic rows is i j h k e =
    by-same (i ≡ j) j i (λ same. sym same) (λ away.
    let solved = is.solved i (omega (arith, h, is.basics)) in
    let positive = solved.positive in
    let none : entry (row_at rows i) (basic_at basic i) ≡ pos 0 = ap (entry (row_at rows i)) e ∙ solved.zero j k away in
    absurd (omega (arith, ints, positive, none)))

pub solved-row : (columns i : ℕ) (basic : List ℕ) (rows others : List (List ℤ)) → SolvedRows columns basic rows → All (Follows others) rows → i < length rows → IsBasicRow columns others (in_order columns basic) (basic_at basic i) (row_at rows i)
solved-row columns i basic rows others is all h =
    let solved = is.solved i h in
    record {
      width = solved.width;
      follows = all i [] h;
      primitive = solved.primitive;
      positive = solved.positive;
      zero = λ other inside away.
          let at = place basic other (passes-contained (is_in basic) (range_with_len 0 columns) other inside) in
          let apart : at.0 ≡ i → ⊥ = λ e. away (sym at.2 ∙ ap (basic_at basic) e) in
          ap (entry (row_at rows i)) (sym at.2) ∙ solved.zero at.0 at.1 apart;
    }

-- rows that are solved have the basis of their basic columns
pub solved-basis : (columns : ℕ) (basic : List ℕ) (rows others : List (List ℤ)) → SolvedRows columns basic rows → length rows ≡ length others → All (Follows others) rows → IsBasis columns others (in_order columns basic)
solved-basis columns basic rows others is count all = record {
  rising = rising-some (is_in basic) 0 0 columns (omega arith);
  within = within-some (is_in basic) 0 columns columns (omega arith);
  full = count-all basic columns (distinct basic (one-place columns basic rows is)) is.within ∙ is.basics ∙ count;
  rows = λ column inside.
      let at = place basic column (passes-contained (is_in basic) (range_with_len 0 columns) column inside) in
      let row = solved-row columns at.0 basic rows others is all (omega (arith, at.1, is.basics)) in
      (row_at rows at.0, subst (λ c. IsBasicRow columns others (in_order columns basic) c (row_at rows at.0)) at.2 row);
}

pub solved-wide : (columns : ℕ) (basic : List ℕ) (rows others : List (List ℤ)) (j : ℕ) (wide : ℤ) → SolvedRows columns basic rows → length rows ≡ length others → All (Follows others) rows → HasWide rows j wide → IsWideRow columns others (in_order columns basic) wide
solved-wide columns basic rows others j wide is count all has =
    let row = row_at rows j in
    let k = has.contains.0 in
    let less : j < length basic = omega (arith, has.within, is.basics) in
    let c = basic_at basic j in
    let inside : c < columns = is.within j less in
    record {
      is_basis = solved-basis columns basic rows others is count all;
      column = c;
      basic = kept (is_in basic) (range_with_len 0 columns) c c (in-at basic j less) (omega (arith, inside, length-range_with_len 0 columns)) (get_or-range_with_len 0 columns c c inside ∙ omega arith);
      row = row;
      is_row = solved-row columns j basic rows others is all has.within;
      place = k;
      is_entry = get_or_default row k (pos 0) wide has.contains.1 ∙ has.contains.2;
      is_wide = has.is_wide;
    }

-- the basis of a tableau, and after a pivot, with or without room
pub table-basis : (t : Table) → IsTable t → IsBasis (width t) t.rows (in_order (width t) t.basic)
table-basis t is = solved-basis (width t) t.basic t.rows t.rows (table-solved t is) refl (all-own t.rows)

pub pivoted-basis : (t : Table) → IsTable t → (i column : ℕ) → i < length t.rows → column < width t → (entry (row_at t.rows i) column ≡ pos 0 → ⊥) → IsBasis (width t) t.rows (in_order (width t) (set t.basic i column))
pivoted-basis t is i column h there factor =
    solved-basis (width t) (set t.basic i column) (pivoted i column t.rows) t.rows (pivoted-solved (width t) i column t.basic t.rows (table-solved t is) h there factor) (length-pivoted i column t.rows) (pivoted-follows i column t.rows (table-pivots t i column is h there factor))

pub pivoted-wide : (t : Table) → IsTable t → (i column j : ℕ) (wide : ℤ) → i < length t.rows → column < width t → (entry (row_at t.rows i) column ≡ pos 0 → ⊥) → HasWide (pivoted i column t.rows) j wide → IsWideRow (width t) t.rows (in_order (width t) (set t.basic i column)) wide
pivoted-wide t is i column j wide h there factor has =
    solved-wide (width t) (set t.basic i column) (pivoted i column t.rows) t.rows j wide (pivoted-solved (width t) i column t.basic t.rows (table-solved t is) h there factor) (length-pivoted i column t.rows) (pivoted-follows i column t.rows (table-pivots t i column is h there factor)) has
