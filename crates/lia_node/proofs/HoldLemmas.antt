-- What is said holds at whole coordinates of a solution within the bounds.
use Rattle.std.proofs.Common.{◌≡◌, ℕ, suc, zero, List, [], ◌∷◌, ◌++◌, refl, ap, sym, ◌∙◌, arith, subst, ◌<◌, ◌+◌, true, false, Bool, cond, ◌==◌, ◌&&◌, length, map, get_or}
use Rattle.std.specs.Prelude.{ℤ, pos, negsuc, neg_ℤ, ◌+ℤ◌, ◌-ℤ◌, ◌*ℤ◌, ◌≤ℤ◌, ◌<ℤ◌, int_le, nat_abs, nat_lt, Option, Some, None}
use Rattle.std.specs.List.{list_all, range_with_len}
use Rattle.std.specs.Option.{option_map, option_map_or}
use Rattle.std.proofs.lemmas.Bool.{and_from, eq-eqb, eqb-true, ltb-false, ltb-true}
use Rattle.std.proofs.lemmas.Int.{by_lt_z, ints}
use Rattle.std.proofs.lemmas.List.{get_or-append-add, get_or-map, get_or_append_left, length-map}
use Rattle.std.proofs.lemmas.List.FromFn.{get_or-map-range_with_len, length-range_with_len}
use Rattle.base.proofs.Public.{+ℤ-*ℤ}
use Rattle.lin_atoms.specs.Dot.{dot}
use Rattle.lin_atoms.specs.Linear.{Linear, lin_is_below, of_constant, sum_at, variable_at}
use Rattle.lin_atoms.proofs.Public.{both_true}
use Rattle.int_rows.specs.Basis.{MeetsBounds, Point, bound}
use Rattle.int_rows.specs.Node.{equation, equations, greater, greatest_lower, has_row, in_rows, least_upper, lesser, lower_on, system_of, upper_on}
use Rattle.int_rows.specs.Ready.{is_bounded_at}
use Rattle.int_rows.specs.Rows.{SolvesAll, entry}
use Rattle.int_rows.specs.declared.bounds.Bounded.{Bounded}
use Rattle.int_rows.proofs.EquationLemmas.{equations-at}
use Rattle.int_rows.proofs.Public.{length-equations}
use Rattle.int_rows.proofs.ReadyLemmas.{le-true, true-le}
use Rattle.lia_node.specs.machinery.Columns.{is_said_below}
use Rattle.lia_node.specs.machinery.Solved.{AreAbove, AreBelow, is_tidy, is_unit_alone, names_rise}
use Rattle.lia_node.specs.Whole.{AreWhole}
use Rattle.lia_node.proofs.BelowLemmas.{terms-weaker}
use Rattle.lia_node.proofs.ColumnLemmas.{all-at}
use Rattle.lia_node.proofs.RowLemmas.{dot-equation, sum-whole}

not-both : (b : Bool) → b ≡ true → b ≡ false → ⊥
not-both true h e = cc
not-both false h e = cc

pub none-some : (k : ℤ) → None ≡ Some k → ⊥
none-some k e = cc

pub some-same : (j k : ℤ) → Some j ≡ Some k → j ≡ k
some-same j k e = cc

-- numbers over one denominator
times-mono : (s k : ℤ) (d : ℕ) → s ≤ℤ k → (s *ℤ pos d) ≤ℤ (k *ℤ pos d)
times-mono s k d le =
    let parts = +ℤ-*ℤ s (pos (nat_abs (k -ℤ s))) (pos d) in
    let whole : (s +ℤ pos (nat_abs (k -ℤ s))) *ℤ pos d ≡ k *ℤ pos d = let e : s +ℤ pos (nat_abs (k -ℤ s)) ≡ k = omega (arith, ints) in ap (λ z. z *ℤ pos d) e in
    omega (arith, ints, parts, whole)

pub times-le : (s k : ℤ) (d : ℕ) → 0 < d → (s *ℤ pos d) ≤ℤ (k *ℤ pos d) → s ≤ℤ k
times-le s k d some le = by_lt_z k s (λ less.
    let more = times-mono (k +ℤ pos 1) s d (omega (arith, ints, less)) in
    let parts = +ℤ-*ℤ k (pos 1) (pos d) in
    let one : pos 1 *ℤ pos d ≡ pos d = grind (arith, ints) in
    absurd (omega (arith, ints, more, parts, one, le, some))) (λ h. h)

bounded-by : (s : ℤ) (low high : Option ℤ) → ((l : ℤ) → low ≡ Some l → l ≤ℤ s) → ((u : ℤ) → high ≡ Some u → s ≤ℤ u) → (option_map_or (λ l. int_le l s) low true && option_map_or (λ u. int_le s u) high true) ≡ true
bounded-by s None None f g = refl
bounded-by s None (Some u) f g = and_from _ _ refl (true-le s u (g u refl))
bounded-by s (Some l) None f g = and_from _ _ (true-le l s (f l refl)) refl
bounded-by s (Some l) (Some u) f g = and_from _ _ (true-le l s (f l refl)) (true-le s u (g u refl))

abbrev pub no_bounded : Bounded
no_bounded = record { form = of_constant (pos 0); lower = None; upper = None }

-- the bounds of a slack, and of a variable
pub bound-slack : (f : Bounded → Option ℤ) (front : List (Option ℤ)) (rows : List Bounded) (n i : ℕ) → length front ≡ n → i < length rows → bound (front ++ map f rows) (n + i) ≡ f (get_or rows i no_bounded)
bound-slack f front rows n i long h =
    ap (λ k. get_or (front ++ map f rows) (k + i) None) (sym long) ∙ get_or-append-add front (map f rows) i None ∙ get_or-map f rows i no_bounded None h

pub bound-variable : (f : ℕ → Option ℤ) (back : List (Option ℤ)) (n v : ℕ) → v < n → bound (map f (range_with_len 0 n) ++ back) v ≡ f v
bound-variable f back n v h =
    let long = length-map (range_with_len 0 n) f ∙ length-range_with_len 0 n in
    get_or_append_left (map f (range_with_len 0 n)) back None v (omega (arith, long, h)) ∙ get_or-map-range_with_len f 0 n v v None h (omega arith)

-- a row's bounds hold
row-holds : (n : ℕ) (bs : List Bounded) (p : Point) (whole : List ℤ) (i : ℕ) → list_all is_tidy (in_rows bs) ≡ true → list_all (is_said_below n) (in_rows bs) ≡ true → 0 < p.den → length p.nums ≡ n + length (in_rows bs) → AreWhole n p whole
    → SolvesAll p.nums (system_of n bs).equations → MeetsBounds (system_of n bs) p → i < length (in_rows bs) → is_bounded_at whole (get_or (in_rows bs) i no_bounded) ≡ true
row-holds n bs p whole i tidy below some long are solves meets h =
    let rows = in_rows bs in
    let b = get_or rows i no_bounded in
    let lins = map (λ (b : Bounded). b.form) rows in
    let columns = n + length rows in
    let count : length lins ≡ length rows = length-map rows (λ (b : Bounded). b.form) in
    let slack = n + i in
    let form : get_or lins i (of_constant (pos 0)) ≡ b.form = get_or-map (λ (b : Bounded). b.form) rows i no_bounded (of_constant (pos 0)) h in
    let row = equations-at columns n lins i (of_constant (pos 0)) (omega (arith, h, count)) ∙ ap (λ (lin : Linear). equation columns slack lin) form in
    let made : length (equations columns n lins) ≡ length rows = length-equations columns n lins ∙ count in
    let zero_at : dot (get_or (equations columns n lins) i []) p.nums ≡ pos 0 = solves i [] (omega (arith, h, made)) in
    let here : dot (equation columns slack b.form) p.nums ≡ pos 0 = ap (λ (r : List ℤ). dot r p.nums) (sym row) ∙ zero_at in
    let good = both_true (names_rise 0 b.form.terms) _ (all-at is_tidy rows i no_bounded h tidy) in
    let said = all-at (is_said_below n) rows i no_bounded h below in
    let split = dot-equation columns slack b.form p.nums long good.0 (terms-weaker n slack b.form.terms (omega arith) said) in
    let s = sum_at whole b.form.terms in
    let scaled : sum_at p.nums b.form.terms ≡ s *ℤ pos p.den = sum-whole n p whole b.form.terms are said in
    let value : entry p.nums slack ≡ s *ℤ pos p.den = omega (arith, ints, here, split, scaled) in
    let lower : (l : ℤ) → b.lower ≡ Some l → l ≤ℤ s = λ l e. times-le l s p.den some (let met = meets.lower slack l (bound-slack (λ b. b.lower) (map (greatest_lower bs) (range_with_len 0 n)) rows n i (length-map (range_with_len 0 n) (greatest_lower bs) ∙ length-range_with_len 0 n) h ∙ e) in omega (arith, ints, met, value)) in
    let upper : (u : ℤ) → b.upper ≡ Some u → s ≤ℤ u = λ u e. times-le s u p.den some (let met = meets.upper slack u (bound-slack (λ b. b.upper) (map (least_upper bs) (range_with_len 0 n)) rows n i (length-map (range_with_len 0 n) (least_upper bs) ∙ length-range_with_len 0 n) h ∙ e) in omega (arith, ints, met, value)) in
    bounded-by s b.lower b.upper lower upper

all-from : {X : Type 0} (test : X → Bool) (xs : List X) (d : X) → ((i : ℕ) → i < length xs → test (get_or xs i d) ≡ true) → list_all test xs ≡ true
all-from test [] d h = refl
all-from test (x ∷ xs) d h = and_from _ _ (h 0 (omega arith)) (all-from test xs d (λ i less. h (suc i) (omega (arith, less))))

pub kept : (test : Bounded → Bool) (bs : List Bounded) → list_all test bs ≡ true → list_all test (in_rows bs) ≡ true
kept test [] h = refl
kept test (b ∷ bs) h = let both = both_true (test b) _ h in step (has_row b) both.0 (kept test bs both.1) where
  step : (c : Bool) → test b ≡ true → list_all test (in_rows bs) ≡ true → list_all test (cond c (b ∷ in_rows bs) (in_rows bs)) ≡ true
  step true here rest = and_from _ _ here rest
  step false here rest = rest

-- the tightest bound is as tight as each
le-greater : (j k m w : ℤ) (b : Bool) → int_le j k ≡ b → cond b k j ≤ℤ w → (j ≤ℤ w) × (k ≤ℤ w)
le-greater j k m w true e h = let le = le-true j k e in (omega (arith, ints, le, h), h)
le-greater j k m w false e h = let less : k <ℤ j = by_lt_z k j (λ l. l) (λ l. absurd (not-both (int_le j k) (true-le j k l) e)) in (h, omega (arith, ints, less, h))

greater-parts : (x y : Option ℤ) (w : ℤ) → ((m : ℤ) → greater x y ≡ Some m → m ≤ℤ w) → ((l : ℤ) → x ≡ Some l → l ≤ℤ w) × ((l : ℤ) → y ≡ Some l → l ≤ℤ w)
greater-parts None y w h = (λ l e. absurd (none-some l e), h)
greater-parts (Some j) None w h = (h, λ l e. absurd (none-some l e))
greater-parts (Some j) (Some k) w h =
    let both = le-greater j k j w (int_le j k) refl (h (cond (int_le j k) k j) refl) in
    (λ l e. subst (λ z. z ≤ℤ w) (some-same j l e) both.0, λ l e. subst (λ z. z ≤ℤ w) (some-same k l e) both.1)

le-lesser : (j k w : ℤ) (b : Bool) → int_le j k ≡ b → w ≤ℤ cond b j k → (w ≤ℤ j) × (w ≤ℤ k)
le-lesser j k w true e h = let le = le-true j k e in (h, omega (arith, ints, le, h))
le-lesser j k w false e h = let less : k <ℤ j = by_lt_z k j (λ l. l) (λ l. absurd (not-both (int_le j k) (true-le j k l) e)) in (omega (arith, ints, less, h), h)

lesser-parts : (x y : Option ℤ) (w : ℤ) → ((m : ℤ) → lesser x y ≡ Some m → w ≤ℤ m) → ((l : ℤ) → x ≡ Some l → w ≤ℤ l) × ((l : ℤ) → y ≡ Some l → w ≤ℤ l)
lesser-parts None y w h = (λ l e. absurd (none-some l e), h)
lesser-parts (Some j) None w h = (h, λ l e. absurd (none-some l e))
lesser-parts (Some j) (Some k) w h =
    let both = le-lesser j k w (int_le j k) refl (h (cond (int_le j k) j k) refl) in
    (λ l e. subst (λ z. w ≤ℤ z) (some-same j l e) both.0, λ l e. subst (λ z. w ≤ℤ z) (some-same k l e) both.1)

-- what is said of one variable alone
abbrev pub said_of : List (ℕ × ℤ) → ℤ → Option ℤ → Option ℤ → Bounded
said_of ts k low high = record { form = record { terms = ts; constant = k }; lower = low; upper = high }

same-test : (n : ℕ) → (n == n) ≡ true
same-test n = eq-eqb n n refl

plain-holds : (x : ℕ) (k : ℤ) (low high : Option ℤ) (whole : List ℤ) → ((l : ℤ) → lower_on x (said_of ((x, pos 1) ∷ []) k low high) ≡ Some l → l ≤ℤ variable_at whole x) → ((u : ℤ) → upper_on x (said_of ((x, pos 1) ∷ []) k low high) ≡ Some u → variable_at whole x ≤ℤ u)
    → is_bounded_at whole (said_of ((x, pos 1) ∷ []) k low high) ≡ true
plain-holds x k low high whole above below =
    let s = sum_at whole ((x, pos 1) ∷ []) in
    let value : s ≡ variable_at whole x = grind (arith, ints) in
    let first : lower_on x (said_of ((x, pos 1) ∷ []) k low high) ≡ low = rw (same-test x) refl in
    let second : upper_on x (said_of ((x, pos 1) ∷ []) k low high) ≡ high = rw (same-test x) refl in
    bounded-by s low high (λ l e. let le = above l (first ∙ e) in omega (arith, ints, le, value)) (λ u e. let le = below u (second ∙ e) in omega (arith, ints, le, value))

turned-holds : (x : ℕ) (k : ℤ) (low high : Option ℤ) (whole : List ℤ) → ((l : ℤ) → lower_on x (said_of ((x, negsuc 0) ∷ []) k low high) ≡ Some l → l ≤ℤ variable_at whole x) → ((u : ℤ) → upper_on x (said_of ((x, negsuc 0) ∷ []) k low high) ≡ Some u → variable_at whole x ≤ℤ u)
    → is_bounded_at whole (said_of ((x, negsuc 0) ∷ []) k low high) ≡ true
turned-holds x k low high whole above below =
    let s = sum_at whole ((x, negsuc 0) ∷ []) in
    let value : s ≡ neg_ℤ (variable_at whole x) = grind (arith, ints) in
    let first : lower_on x (said_of ((x, negsuc 0) ∷ []) k low high) ≡ option_map neg_ℤ high = rw (same-test x) refl in
    let second : upper_on x (said_of ((x, negsuc 0) ∷ []) k low high) ≡ option_map neg_ℤ low = rw (same-test x) refl in
    bounded-by s low high
    (λ l e. let le = below (neg_ℤ l) (second ∙ ap (option_map neg_ℤ) e) in omega (arith, ints, le, value))
    (λ u e. let le = above (neg_ℤ u) (first ∙ ap (option_map neg_ℤ) e) in omega (arith, ints, le, value))

one-holds : (x : ℕ) (a k : ℤ) (low high : Option ℤ) (whole : List ℤ) → (nat_abs a == 1) ≡ true → ((l : ℤ) → lower_on x (said_of ((x, a) ∷ []) k low high) ≡ Some l → l ≤ℤ variable_at whole x) → ((u : ℤ) → upper_on x (said_of ((x, a) ∷ []) k low high) ≡ Some u → variable_at whole x ≤ℤ u)
    → is_bounded_at whole (said_of ((x, a) ∷ []) k low high) ≡ true
one-holds x (pos zero) k low high whole e = absurd (let one = eqb-true 0 1 e in omega (arith, one))
one-holds x (pos (suc zero)) k low high whole e = plain-holds x k low high whole
one-holds x (pos (suc (suc n))) k low high whole e = absurd (let one = eqb-true (suc (suc n)) 1 e in omega (arith, one))
one-holds x (negsuc zero) k low high whole e = turned-holds x k low high whole
one-holds x (negsuc (suc n)) k low high whole e = absurd (let one = eqb-true (suc (suc n)) 1 e in omega (arith, one))

lone-holds : (n : ℕ) (ts : List (ℕ × ℤ)) (k : ℤ) (low high : Option ℤ) (whole : List ℤ) → is_unit_alone ts ≡ true → nat_lt 1 (length ts) ≡ false → lin_is_below n (record { terms = ts; constant = k }) ≡ true
    → ((v : ℕ) (l : ℤ) → v < n → lower_on v (said_of ts k low high) ≡ Some l → l ≤ℤ variable_at whole v) → ((v : ℕ) (u : ℤ) → v < n → upper_on v (said_of ts k low high) ≡ Some u → variable_at whole v ≤ℤ u)
    → is_bounded_at whole (said_of ts k low high) ≡ true
lone-holds n [] k low high whole unit row below f g = absurd (cc)
lone-holds n (t ∷ u ∷ ts) k low high whole unit row below f g = absurd (let le = ltb-false _ _ row in omega (arith, le))
lone-holds n (t ∷ []) k low high whole unit row below f g =
    let less = ltb-true _ _ (both_true (nat_lt t.0 n) _ below).0 in
    one-holds t.0 t.1 k low high whole unit (λ l e. f t.0 l less e) (λ u e. g t.0 u less e)

-- all that is said holds, where it holds of the rows and the tightest bounds do
all-hold : (n : ℕ) (whole : List ℤ) (bs : List Bounded) → list_all is_tidy bs ≡ true → list_all (is_said_below n) bs ≡ true → list_all (is_bounded_at whole) (in_rows bs) ≡ true → AreAbove n whole bs → AreBelow n whole bs → list_all (is_bounded_at whole) bs ≡ true
all-hold n whole [] tidy below rows f g = refl
all-hold n whole (b ∷ bs) tidy below rows f g =
    let good = both_true (is_tidy b) _ tidy in
    let said = both_true (is_said_below n b) _ below in
    let rest : list_all (is_bounded_at whole) (in_rows bs) ≡ true → list_all (is_bounded_at whole) bs ≡ true = λ h. all-hold n whole bs good.1 said.1 h
    (λ v l less e. (greater-parts (lower_on v b) (greatest_lower bs v) (variable_at whole v) (λ m k. f v m less k)).1 l e)
    (λ v u less e. (lesser-parts (upper_on v b) (least_upper bs v) (variable_at whole v) (λ m k. g v m less k)).1 u e) in
    by-row (has_row b) refl rows rest
    (λ row. lone-holds n b.form.terms b.form.constant b.lower b.upper whole (both_true (names_rise 0 b.form.terms) _ good.0).1 row said.0
    (λ v l less e. (greater-parts (lower_on v b) (greatest_lower bs v) (variable_at whole v) (λ m k. f v m less k)).0 l e)
    (λ v u less e. (lesser-parts (upper_on v b) (least_upper bs v) (variable_at whole v) (λ m k. g v m less k)).0 u e)) where
      by-row : (c : Bool) → has_row b ≡ c → list_all (is_bounded_at whole) (cond c (b ∷ in_rows bs) (in_rows bs)) ≡ true → (list_all (is_bounded_at whole) (in_rows bs) ≡ true → list_all (is_bounded_at whole) bs ≡ true) → (has_row b ≡ false → is_bounded_at whole b ≡ true) → list_all (is_bounded_at whole) (b ∷ bs) ≡ true
      by-row true e h more here = let both = both_true (is_bounded_at whole b) _ h in and_from _ _ both.0 (more both.1)
      by-row false e h more here = and_from _ _ (here e) (more h)

-- all that is said holds at whole coordinates of a solution within the bounds
pub solution-holds : (n : ℕ) (bs : List Bounded) (p : Point) (whole : List ℤ) → list_all is_tidy bs ≡ true → list_all (is_said_below n) bs ≡ true → 0 < p.den → length p.nums ≡ n + length (in_rows bs) → AreWhole n p whole
    → SolvesAll p.nums (system_of n bs).equations → MeetsBounds (system_of n bs) p → list_all (is_bounded_at whole) bs ≡ true
solution-holds n bs p whole tidy below some long are solves meets =
    let rows = all-from (is_bounded_at whole) (in_rows bs) no_bounded (λ i h. row-holds n bs p whole i (kept is_tidy bs tidy) (kept (is_said_below n) bs below) some long are solves meets h) in
    all-hold n whole bs tidy below rows
    (λ v l less e. times-le l (variable_at whole v) p.den some (let met = meets.lower v l (bound-variable (greatest_lower bs) (map (λ b. b.lower) (in_rows bs)) n v less ∙ e) in let at = are v less in omega (arith, ints, met, at)))
    (λ v u less e. times-le (variable_at whole v) u p.den some (let met = meets.upper v u (bound-variable (least_upper bs) (map (λ b. b.upper) (in_rows bs)) n v less ∙ e) in let at = are v less in omega (arith, ints, met, at)))
