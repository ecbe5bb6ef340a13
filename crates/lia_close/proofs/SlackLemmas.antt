-- What is taken of the bounds of slacks, and sums over columns.
use Rattle.std.proofs.Common.{◌≡◌, ℕ, zero, suc, ◌+◌, ◌<◌, ◌≤◌, List, [], ◌∷◌, ◌++◌, length, map, get_or, refl, ap, sym, ◌∙◌, arith, true, false, Bool, cond, ◌==◌}
use Rattle.std.specs.Prelude.{ℤ, pos, ◌+ℤ◌, ◌-ℤ◌, ◌*ℤ◌, nat_abs, nat_lt, Some, slice_get}
use Rattle.std.specs.List.{flat_map, list_all, range_with_len}
use Rattle.std.specs.Option.{unwrap_or}
use Rattle.std.proofs.Math.IntN.{zero-*ℤ}
use Rattle.std.proofs.lemmas.Bool.{ltb-true}
use Rattle.std.proofs.lemmas.Int.{ints}
use Rattle.std.proofs.lemmas.List.FromFn.{get_or-map-range_with_len}
use Rattle.lin_atoms.specs.Linear.{sum_at, variable_at}
use Rattle.lin_atoms.proofs.Public.{both_true}
use Rattle.int_rows.specs.Node.{bounds_of, has_row, in_rows}
use Rattle.int_rows.specs.declared.bounds.Bounded.{Bounded}
use Rattle.int_rows.specs.declared.bounds.Ready.{Ready}
use Rattle.int_rows.specs.declared.bounds.Ready.TheVariants.{Truth, Bounds}
use Rattle.int_rows.proofs.ReadyLemmas.{true-zero}
use Rattle.simplex_core.specs.Meaning.{of_lower, of_upper}
use Rattle.simplex_core.proofs.SumLemmas.{total}
use Rattle.lia_node.proofs.HoldLemmas.{no_bounded}
use Rattle.lia_close.specs.declared.side.Side.{Side}
use Rattle.lia_close.specs.declared.side.Side.TheVariants.{Lower, Upper}
use Rattle.lia_close.specs.declared.side.Taken.{Taken}
use Rattle.lia_close.specs.machinery.Taken.{said_value, slacks_from, taken_by, taken_value}
use Rattle.lia_close.proofs.LoneLemmas.{said-high, said-low}
use Rattle.lia_close.proofs.TightestLemmas.{into-first, into-rest}

pub taken-++ : (point : List ℤ) (readied : List Ready) (these those : List Taken) → taken_value point readied (these ++ those) ≡ taken_value point readied these +ℤ taken_value point readied those
taken-++ point readied [] those = omega (arith, ints)
taken-++ point readied (taken ∷ these) those = let rest = taken-++ point readied these those in omega (arith, ints, rest)

-- a bound m times, also where m is 0
pub value-by : (point : List ℤ) (readied : List Ready) (at : ℕ) (side : Side) (m : ℤ) → taken_value point readied (taken_by at side m) ≡ m *ℤ said_value point side (slice_get readied at)
value-by point readied at side m = by-test (nat_abs m == 0) refl where
  by-test : (b : Bool) → (nat_abs m == 0) ≡ b → taken_value point readied (cond b [] (record { literal = at; side = side; times = m } ∷ [])) ≡ m *ℤ said_value point side (slice_get readied at)
  by-test true e = sym (ap (λ z. z *ℤ said_value point side (slice_get readied at)) (true-zero m e) ∙ zero-*ℤ (said_value point side (slice_get readied at)))
  by-test false e = omega (arith, ints)

-- the bounds of one column, each times its multiplier
abbrev pub slack_part : List ℤ → List ℤ → ℕ → Bounded → ℤ
slack_part point ms column b = of_lower ms column *ℤ (unwrap_or b.lower (pos 0) -ℤ sum_at point b.form.terms) +ℤ of_upper ms column *ℤ (sum_at point b.form.terms -ℤ unwrap_or b.upper (pos 0))

-- and of all slacks
abbrev pub slack_sum : List ℤ → List ℤ → ℕ → List Bounded → ℤ
slack_sum point ms column [] = pos 0
slack_sum point ms column (b ∷ bs) = slack_part point ms column b +ℤ slack_sum point ms (column + 1) bs

slack-turn : (point ms : List ℤ) (readied : List Ready) (at column : ℕ) (b : Bounded) (rest other : List Taken) (rows : List Bounded) → slice_get readied at ≡ Some (Bounds b) → b.form.constant ≡ pos 0 → taken_value point readied rest ≡ slack_sum point ms (column + 1) rows
    → taken_value point readied other ≡ slack_sum point ms column rows → (h : Bool) → taken_value point readied (cond h (taken_by at Lower (of_lower ms column) ++ (taken_by at Upper (of_upper ms column) ++ rest)) other) ≡ slack_sum point ms column (cond h (b ∷ rows) rows)
slack-turn point ms readied at column b rest other rows there none more same true =
    let lo = of_lower ms column in
    let up = of_upper ms column in
    let s = sum_at point b.form.terms in
    let first = taken-++ point readied (taken_by at Lower lo) (taken_by at Upper up ++ rest) in
    let second = taken-++ point readied (taken_by at Upper up) rest in
    let low : taken_value point readied (taken_by at Lower lo) ≡ lo *ℤ (unwrap_or b.lower (pos 0) -ℤ s) = value-by point readied at Lower lo ∙ ap (λ o. lo *ℤ said_value point Lower o) there ∙ ap (λ z. lo *ℤ z) (said-low point b none) in
    let high : taken_value point readied (taken_by at Upper up) ≡ up *ℤ (s -ℤ unwrap_or b.upper (pos 0)) = value-by point readied at Upper up ∙ ap (λ o. up *ℤ said_value point Upper o) there ∙ ap (λ z. up *ℤ z) (said-high point b none) in
    first ∙ ap (λ z. taken_value point readied (taken_by at Lower lo) +ℤ z) second
    ∙ ap (λ z. z +ℤ (taken_value point readied (taken_by at Upper up) +ℤ taken_value point readied rest)) low
    ∙ ap (λ z. lo *ℤ (unwrap_or b.lower (pos 0) -ℤ s) +ℤ (z +ℤ taken_value point readied rest)) high
    ∙ ap (λ z. lo *ℤ (unwrap_or b.lower (pos 0) -ℤ s) +ℤ (up *ℤ (s -ℤ unwrap_or b.upper (pos 0)) +ℤ z)) more
    ∙ grouped (lo *ℤ (unwrap_or b.lower (pos 0) -ℤ s)) (up *ℤ (s -ℤ unwrap_or b.upper (pos 0))) (slack_sum point ms (column + 1) rows) where
      grouped : (x y z : ℤ) → x +ℤ (y +ℤ z) ≡ x +ℤ y +ℤ z
      grouped x y z = omega (arith, ints)
slack-turn point ms readied at column b rest other rows there none more same false = same

pub slacks-sum : (point ms : List ℤ) (readied rs : List Ready) (at column : ℕ) → ((k : ℕ) (one : Ready) → slice_get rs k ≡ Some one → slice_get readied (at + k) ≡ Some one) → ((k : ℕ) (b : Bounded) → slice_get readied k ≡ Some (Bounds b) → b.form.constant ≡ pos 0)
    → taken_value point readied (slacks_from ms at column rs) ≡ slack_sum point ms column (in_rows (flat_map bounds_of rs))
slacks-sum point ms readied [] at column into none = refl
slacks-sum point ms readied (Truth t ∷ rs) at column into none = slacks-sum point ms readied rs (at + 1) column (into-rest readied rs (Truth t) at into) none
slacks-sum point ms readied (Bounds b ∷ rs) at column into none =
    let behind = into-rest readied rs (Bounds b) at into in
    let there = into-first readied rs (Bounds b) at into in
    slack-turn point ms readied at column b (slacks_from ms (at + 1) (column + 1) rs) (slacks_from ms (at + 1) column rs) (in_rows (flat_map bounds_of rs)) there (none at b there)
    (slacks-sum point ms readied rs (at + 1) (column + 1) behind none) (slacks-sum point ms readied rs (at + 1) column behind none) (has_row b)

-- as a sum over the columns of slacks
pub slack-total : (point ms : List ℤ) (f : ℕ → ℤ) (column : ℕ) (rows : List Bounded) → ((i : ℕ) → i < length rows → f (column + i) ≡ slack_part point ms (column + i) (get_or rows i no_bounded)) → slack_sum point ms column rows ≡ total f column (length rows)
slack-total point ms f column [] e = refl
slack-total point ms f column (b ∷ bs) e =
    let here : column ≡ column + 0 = omega arith in
    let first : f column ≡ slack_part point ms column b = ap f here ∙ e 0 (omega arith) ∙ ap (λ (k : ℕ). slack_part point ms k b) (sym here) in
    let rest = slack-total point ms f (column + 1) bs (λ i less.
    let next : column + 1 + i ≡ column + suc i = omega arith in
    ap f next ∙ e (suc i) (omega (arith, less)) ∙ ap (λ (k : ℕ). slack_part point ms k (get_or bs i no_bounded)) (sym next)) in
    ap (λ z. z +ℤ slack_sum point ms (column + 1) bs) (sym first) ∙ ap (λ z. f column +ℤ z) rest

-- the columns below a number, and those from it on
pub total-join : (h : ℕ → ℤ) (a n m : ℕ) → total h a n +ℤ total h (a + n) m ≡ total h a (n + m)
total-join h a zero m =
    let none : a + zero ≡ a = omega arith in
    let start : zero + m ≡ m = omega arith in
    let same = ap (λ (k : ℕ). total h k m) none in
    let whole = ap (λ (k : ℕ). total h a k) start in
    omega (arith, ints, same, whole)
total-join h a (suc n) m =
    let rest = total-join h (a + 1) n m in
    let next : a + suc n ≡ a + 1 + n = omega arith in
    let same = ap (λ (k : ℕ). total h k m) next in
    let more : suc n + m ≡ suc (n + m) = omega arith in
    let whole = ap (λ (k : ℕ). total h a k) more in
    omega (arith, ints, rest, same, whole)

-- what is taken of all numbers of a range
pub range-total : (point : List ℤ) (readied : List Ready) (f : ℕ → List Taken) (g : ℕ → ℤ) (a n : ℕ) → ((v : ℕ) → a ≤ v → v < a + n → taken_value point readied (f v) ≡ g v) → taken_value point readied (flat_map f (range_with_len a n)) ≡ total g a n
range-total point readied f g a zero e = refl
range-total point readied f g a (suc n) e =
    let rest = range-total point readied f g (a + 1) n (λ v low high. e v (omega arith) (omega arith)) in
    let first = e a (omega arith) (omega arith) in
    taken-++ point readied (f a) (flat_map f (range_with_len (a + 1) n)) ∙ ap (λ z. z +ℤ taken_value point readied (flat_map f (range_with_len (a + 1) n))) first ∙ ap (λ z. g a +ℤ z) rest

-- the first values of a point
abbrev pub values : List ℤ → ℕ → List ℤ
values point n = map (variable_at point) (range_with_len 0 n)

pub values-at : (point : List ℤ) (n v : ℕ) → v < n → variable_at (values point n) v ≡ variable_at point v
values-at point n v less = get_or-map-range_with_len (variable_at point) 0 n v v (pos 0) less (omega arith)

pub sum-values : (point : List ℤ) (n : ℕ) (ts : List (ℕ × ℤ)) → list_all (λ (t : ℕ × ℤ). nat_lt t.0 n) ts ≡ true → sum_at (values point n) ts ≡ sum_at point ts
sum-values point n [] h = refl
sum-values point n (t ∷ ts) h =
    let both = both_true (nat_lt t.0 n) _ h in
    let first = ap (λ z. t.1 *ℤ z) (values-at point n t.0 (ltb-true _ _ both.0)) in
    let rest = sum-values point n ts both.1 in
    omega (arith, ints, first, rest)
