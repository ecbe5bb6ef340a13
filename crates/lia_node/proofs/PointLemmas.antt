-- Integer values at which all that is said holds, with the slacks that they give, are a solution within the bounds.
use Rattle.std.proofs.Common.{◌≡◌, ℕ, suc, zero, List, [], ◌∷◌, ◌++◌, refl, ap, sym, ◌∙◌, arith, subst, ◌<◌, ◌≤◌, ◌+◌, ◌-◌, true, false, Bool, cond, ◌==◌, length, map, get_or, ⊎_elim}
use Rattle.std.specs.Prelude.{ℤ, pos, negsuc, neg_ℤ, ◌*ℤ◌, ◌≤ℤ◌, int_le, nat_abs, Option, Some, None}
use Rattle.std.specs.List.{list_all, range_with_len}
use Rattle.std.specs.Option.{option_map, option_map_or}
use Rattle.std.proofs.lemmas.Bool.{cases_lt, eq-eqb, eqb-true, ne_eqb}
use Rattle.std.proofs.lemmas.Int.{ints}
use Rattle.std.proofs.lemmas.List.{get_or-append-add, get_or-map, get_or_append_left, get_or_past, length-append, length-map}
use Rattle.std.proofs.lemmas.List.Elements.{All-from_get_or}
use Rattle.std.proofs.lemmas.List.FromFn.{length-range_with_len}
use Rattle.lin_atoms.specs.Dot.{dot}
use Rattle.lin_atoms.specs.Linear.{Linear, of_constant, sum_at, variable_at}
use Rattle.lin_atoms.proofs.Public.{both_true}
use Rattle.int_rows.specs.Basis.{MeetsBounds, Point, bound}
use Rattle.int_rows.specs.Node.{equation, equations, greater, greatest_lower, in_rows, least_upper, lesser, lower_on, system_of, upper_on}
use Rattle.int_rows.specs.Ready.{is_bounded_at}
use Rattle.int_rows.specs.Rows.{Solves, SolvesAll, entry}
use Rattle.int_rows.specs.declared.bounds.Bounded.{Bounded}
use Rattle.int_rows.proofs.EquationLemmas.{equations-at}
use Rattle.int_rows.proofs.Public.{length-equations}
use Rattle.int_rows.proofs.ReadyLemmas.{le-true}
use Rattle.lia_node.specs.machinery.Columns.{is_said_below}
use Rattle.lia_node.specs.machinery.Solved.{is_tidy, is_unit_alone, names_rise}
use Rattle.lia_node.specs.Whole.{AreWhole}
use Rattle.lia_node.proofs.BelowLemmas.{terms-weaker}
use Rattle.lia_node.proofs.ColumnLemmas.{all-at}
use Rattle.lia_node.proofs.HoldLemmas.{bound-slack, bound-variable, kept, no_bounded, none-some, said_of, some-same}
use Rattle.lia_node.proofs.RowLemmas.{dot-equation, sum-whole}

low-holds : (s : ℤ) (low : Option ℤ) (l : ℤ) → option_map_or (λ l. int_le l s) low true ≡ true → low ≡ Some l → l ≤ℤ s
low-holds s None l h e = absurd (none-some l e)
low-holds s (Some k) l h e = subst (λ z. z ≤ℤ s) (some-same k l e) (le-true k s h)

high-holds : (s : ℤ) (high : Option ℤ) (u : ℤ) → option_map_or (λ u. int_le s u) high true ≡ true → high ≡ Some u → s ≤ℤ u
high-holds s None u h e = absurd (none-some u e)
high-holds s (Some k) u h e = subst (λ z. s ≤ℤ z) (some-same k u e) (le-true s k h)

turned-some : (o : Option ℤ) (l : ℤ) → option_map neg_ℤ o ≡ Some l → o ≡ Some (neg_ℤ l)
turned-some None l e = absurd (none-some l e)
turned-some (Some k) l e = let same = some-same (neg_ℤ k) l e in ap Some (let z : k ≡ neg_ℤ l = omega (arith, ints, same) in z)

-- what one variable is said to be at least and at most
record Within (v : ℕ) (b : Bounded) (whole : List ℤ) : Type 0 where
  above : (l : ℤ) → lower_on v b ≡ Some l → l ≤ℤ variable_at whole v
  below : (u : ℤ) → upper_on v b ≡ Some u → variable_at whole v ≤ℤ u

plain-within : (x : ℕ) (k : ℤ) (low high : Option ℤ) (whole : List ℤ) → is_bounded_at whole (said_of ((x, pos 1) ∷ []) k low high) ≡ true → Within x (said_of ((x, pos 1) ∷ []) k low high) whole
plain-within x k low high whole h =
    let s = sum_at whole ((x, pos 1) ∷ []) in
    let value : s ≡ variable_at whole x = grind (arith, ints) in
    let both = both_true (option_map_or (λ l. int_le l s) low true) _ h in
    let same = eq-eqb x x refl in
    let first : lower_on x (said_of ((x, pos 1) ∷ []) k low high) ≡ low = rw same refl in
    let second : upper_on x (said_of ((x, pos 1) ∷ []) k low high) ≡ high = rw same refl in
    record {
      above = λ l e. let le = low-holds s low l both.0 (sym first ∙ e) in omega (arith, ints, le, value);
      below = λ u e. let le = high-holds s high u both.1 (sym second ∙ e) in omega (arith, ints, le, value);
    }

turned-within : (x : ℕ) (k : ℤ) (low high : Option ℤ) (whole : List ℤ) → is_bounded_at whole (said_of ((x, negsuc 0) ∷ []) k low high) ≡ true → Within x (said_of ((x, negsuc 0) ∷ []) k low high) whole
turned-within x k low high whole h =
    let s = sum_at whole ((x, negsuc 0) ∷ []) in
    let value : s ≡ neg_ℤ (variable_at whole x) = grind (arith, ints) in
    let both = both_true (option_map_or (λ l. int_le l s) low true) _ h in
    let same = eq-eqb x x refl in
    let first : lower_on x (said_of ((x, negsuc 0) ∷ []) k low high) ≡ option_map neg_ℤ high = rw same refl in
    let second : upper_on x (said_of ((x, negsuc 0) ∷ []) k low high) ≡ option_map neg_ℤ low = rw same refl in
    record {
      above = λ l e. let le = high-holds s high (neg_ℤ l) both.1 (turned-some high l (sym first ∙ e)) in omega (arith, ints, le, value);
      below = λ u e. let le = low-holds s low (neg_ℤ u) both.0 (turned-some low u (sym second ∙ e)) in omega (arith, ints, le, value);
    }

one-within : (x : ℕ) (a k : ℤ) (low high : Option ℤ) (whole : List ℤ) → (nat_abs a == 1) ≡ true → is_bounded_at whole (said_of ((x, a) ∷ []) k low high) ≡ true → Within x (said_of ((x, a) ∷ []) k low high) whole
one-within x (pos zero) k low high whole e = absurd (let one = eqb-true 0 1 e in omega (arith, one))
one-within x (pos (suc zero)) k low high whole e = plain-within x k low high whole
one-within x (pos (suc (suc n))) k low high whole e = absurd (let one = eqb-true (suc (suc n)) 1 e in omega (arith, one))
one-within x (negsuc zero) k low high whole e = turned-within x k low high whole
one-within x (negsuc (suc n)) k low high whole e = absurd (let one = eqb-true (suc (suc n)) 1 e in omega (arith, one))

said-nothing : (v : ℕ) (b : Bounded) (whole : List ℤ) → lower_on v b ≡ None → upper_on v b ≡ None → Within v b whole
said-nothing v b whole low high = record { above = λ l e. absurd (none-some l (sym low ∙ e)); below = λ u e. absurd (none-some u (sym high ∙ e)) }

other-within : (x : ℕ) (a k : ℤ) (low high : Option ℤ) (v : ℕ) (whole : List ℤ) (b : Bool) → (x == v) ≡ b → (nat_abs a == 1) ≡ true → is_bounded_at whole (said_of ((x, a) ∷ []) k low high) ≡ true → Within v (said_of ((x, a) ∷ []) k low high) whole
other-within x a k low high v whole true e one h = subst (λ (w : ℕ). Within w (said_of ((x, a) ∷ []) k low high) whole) (eqb-true x v e) (one-within x a k low high whole one h)
other-within x a k low high v whole false e one h = said-nothing v (said_of ((x, a) ∷ []) k low high) whole (rw e refl) (rw e refl)

terms-within : (v : ℕ) (ts : List (ℕ × ℤ)) (k : ℤ) (low high : Option ℤ) (whole : List ℤ) → is_unit_alone ts ≡ true → is_bounded_at whole (said_of ts k low high) ≡ true → Within v (said_of ts k low high) whole
terms-within v [] k low high whole unit h = absurd (cc)
terms-within v (t ∷ []) k low high whole unit h = other-within t.0 t.1 k low high v whole (t.0 == v) refl unit h
terms-within v (t ∷ u ∷ ts) k low high whole unit h =
    let many : (length (t ∷ u ∷ ts) == 1) ≡ false = ne_eqb (length (t ∷ u ∷ ts)) 1 (λ e. absurd (omega (arith, e))) in
    said-nothing v (said_of (t ∷ u ∷ ts) k low high) whole (rw many refl) (rw many refl)

greater-most : (x y : Option ℤ) (w : ℤ) → ((l : ℤ) → x ≡ Some l → l ≤ℤ w) → ((l : ℤ) → y ≡ Some l → l ≤ℤ w) → (m : ℤ) → greater x y ≡ Some m → m ≤ℤ w
greater-most None y w f g m e = g m e
greater-most (Some j) None w f g m e = f m e
greater-most (Some j) (Some k) w f g m e = subst (λ z. z ≤ℤ w) (some-same (cond (int_le j k) k j) m e) (chosen (int_le j k)) where
  chosen : (b : Bool) → cond b k j ≤ℤ w
  chosen true = g k refl
  chosen false = f j refl

lesser-least : (x y : Option ℤ) (w : ℤ) → ((l : ℤ) → x ≡ Some l → w ≤ℤ l) → ((l : ℤ) → y ≡ Some l → w ≤ℤ l) → (m : ℤ) → lesser x y ≡ Some m → w ≤ℤ m
lesser-least None y w f g m e = g m e
lesser-least (Some j) None w f g m e = f m e
lesser-least (Some j) (Some k) w f g m e = subst (λ z. w ≤ℤ z) (some-same (cond (int_le j k) j k) m e) (chosen (int_le j k)) where
  chosen : (b : Bool) → w ≤ℤ cond b j k
  chosen true = f j refl
  chosen false = g k refl

-- the tightest bounds on each variable hold
tightest-holds : (v : ℕ) (bs : List Bounded) (whole : List ℤ) → list_all is_tidy bs ≡ true → list_all (is_bounded_at whole) bs ≡ true → ((l : ℤ) → greatest_lower bs v ≡ Some l → l ≤ℤ variable_at whole v) × ((u : ℤ) → least_upper bs v ≡ Some u → variable_at whole v ≤ℤ u)
tightest-holds v [] whole tidy h = (λ l e. absurd (none-some l e), λ u e. absurd (none-some u e))
tightest-holds v (b ∷ bs) whole tidy h =
    let good = both_true (is_tidy b) _ tidy in
    let both = both_true (is_bounded_at whole b) _ h in
    let here = terms-within v b.form.terms b.form.constant b.lower b.upper whole (both_true (names_rise 0 b.form.terms) _ good.0).1 both.0 in
    let rest = tightest-holds v bs whole good.1 both.1 in
    (greater-most (lower_on v b) (greatest_lower bs v) (variable_at whole v) here.above rest.0, lesser-least (upper_on v b) (least_upper bs v) (variable_at whole v) here.below rest.1)

-- the values of the slacks, and the whole point
abbrev slack_at : List ℤ → Bounded → ℤ
slack_at whole b = sum_at whole b.form.terms

abbrev pub with_slacks : List ℤ → List Bounded → Point
with_slacks whole bs = record { nums = whole ++ map (slack_at whole) (in_rows bs); den = 1 }

times-one : (z : ℤ) → z *ℤ pos 1 ≡ z
times-one z = grind (arith, ints)

pub slacks-whole : (n : ℕ) (whole : List ℤ) (bs : List Bounded) → length whole ≡ n → AreWhole n (with_slacks whole bs) whole
slacks-whole n whole bs long v less = get_or_append_left whole (map (slack_at whole) (in_rows bs)) (pos 0) v (omega (arith, less, long)) ∙ sym (times-one (variable_at whole v))

pub slacks-width : (n : ℕ) (whole : List ℤ) (bs : List Bounded) → length whole ≡ n → length (with_slacks whole bs).nums ≡ n + length (in_rows bs)
slacks-width n whole bs long =
    let both = length-append whole (map (slack_at whole) (in_rows bs)) in
    let last = length-map (in_rows bs) (slack_at whole) in
    omega (arith, both, last, long)

slack-entry : (n i : ℕ) (whole : List ℤ) (bs : List Bounded) → length whole ≡ n → i < length (in_rows bs) → entry (with_slacks whole bs).nums (n + i) ≡ slack_at whole (get_or (in_rows bs) i no_bounded)
slack-entry n i whole bs long h =
    ap (λ k. get_or (whole ++ map (slack_at whole) (in_rows bs)) (k + i) (pos 0)) (sym long) ∙ get_or-append-add whole (map (slack_at whole) (in_rows bs)) i (pos 0) ∙ get_or-map (slack_at whole) (in_rows bs) i no_bounded (pos 0) h

pub slacks-solve : (n : ℕ) (whole : List ℤ) (bs : List Bounded) → length whole ≡ n → list_all is_tidy bs ≡ true → list_all (is_said_below n) bs ≡ true → SolvesAll (with_slacks whole bs).nums (system_of n bs).equations
slacks-solve n whole bs long tidy below =
    let rows = in_rows bs in
    let p = with_slacks whole bs in
    let lins = map (λ (b : Bounded). b.form) rows in
    let columns = n + length rows in
    let count : length lins ≡ length rows = length-map rows (λ (b : Bounded). b.form) in
    let made : length (equations columns n lins) ≡ length rows = length-equations columns n lins ∙ count in
    All-from_get_or (Solves p.nums) (equations columns n lins) [] (λ i h.
    let less : i < length rows = omega (arith, h, made) in
    let b = get_or rows i no_bounded in
    let form : get_or lins i (of_constant (pos 0)) ≡ b.form = get_or-map (λ (b : Bounded). b.form) rows i no_bounded (of_constant (pos 0)) less in
    let row = equations-at columns n lins i (of_constant (pos 0)) (omega (arith, less, count)) ∙ ap (λ (lin : Linear). equation columns (n + i) lin) form in
    let good = both_true (names_rise 0 b.form.terms) _ (all-at is_tidy rows i no_bounded less (kept is_tidy bs tidy)) in
    let said = all-at (is_said_below n) rows i no_bounded less (kept (is_said_below n) bs below) in
    let split = dot-equation columns (n + i) b.form p.nums (slacks-width n whole bs long) good.0 (terms-weaker n (n + i) b.form.terms (omega arith) said) in
    let own = slack-entry n i whole bs long less in
    let same = sum-whole n p whole b.form.terms (slacks-whole n whole bs long) said ∙ times-one (sum_at whole b.form.terms) in
    ap (λ (r : List ℤ). dot r p.nums) row ∙ (let e : dot (equation columns (n + i) b.form) p.nums ≡ pos 0 = omega (arith, ints, split, own, same) in e))

-- a bound of a column past the variables
past-bound : (f : Bounded → Option ℤ) (front : List (Option ℤ)) (rows : List Bounded) (n c : ℕ) (k : ℤ) → length front ≡ n → n ≤ c → bound (front ++ map f rows) c ≡ Some k → (i : ℕ) × (c ≡ n + i) × (i < length rows) × (f (get_or rows i no_bounded) ≡ Some k)
past-bound f front rows n c k long le e =
    let i = c - n in
    let at : c ≡ n + i = omega (arith, le) in
    ⊎_elim (λ less. (i, at, less, sym (bound-slack f front rows n i long less) ∙ sym (ap (bound (front ++ map f rows)) at) ∙ e))
    (λ past. absurd (none-some k (sym (get_or_past (front ++ map f rows) c None (let both = length-append front (map f rows) in let last = length-map rows f in omega (arith, both, last, long, at, past))) ∙ e)))
    (cases_lt i (length rows))

pub slacks-meet : (n : ℕ) (whole : List ℤ) (bs : List Bounded) → length whole ≡ n → list_all is_tidy bs ≡ true → list_all (is_bounded_at whole) bs ≡ true → MeetsBounds (system_of n bs) (with_slacks whole bs)
slacks-meet n whole bs long tidy h =
    let p = with_slacks whole bs in
    let rows = in_rows bs in
    let held = kept (is_bounded_at whole) bs h in
    record {
      lower = λ c l e. ⊎_elim (λ less.
          let le = (tightest-holds c bs whole tidy h).0 l (sym (bound-variable (greatest_lower bs) (map (λ b. b.lower) rows) n c less) ∙ e) in
          let at = slacks-whole n whole bs long c less in
          let one = times-one (variable_at whole c) in
          let here = times-one l in
          omega (arith, ints, le, at, one, here))
          (λ past.
          let found = past-bound (λ b. b.lower) (map (greatest_lower bs) (range_with_len 0 n)) rows n c l (length-map (range_with_len 0 n) (greatest_lower bs) ∙ length-range_with_len 0 n) past e in
          let b = get_or rows found.0 no_bounded in
          let both = both_true (option_map_or (λ l. int_le l (slack_at whole b)) b.lower true) _ (all-at (is_bounded_at whole) rows found.0 no_bounded found.2 held) in
          let le = low-holds (slack_at whole b) b.lower l both.0 found.3 in
          let at = ap (entry p.nums) found.1 ∙ slack-entry n found.0 whole bs long found.2 in
          let here = times-one l in
          omega (arith, ints, le, at, here))
          (cases_lt c n);
      upper = λ c u e. ⊎_elim (λ less.
          let le = (tightest-holds c bs whole tidy h).1 u (sym (bound-variable (least_upper bs) (map (λ b. b.upper) rows) n c less) ∙ e) in
          let at = slacks-whole n whole bs long c less in
          let one = times-one (variable_at whole c) in
          let here = times-one u in
          omega (arith, ints, le, at, one, here))
          (λ past.
          let found = past-bound (λ b. b.upper) (map (least_upper bs) (range_with_len 0 n)) rows n c u (length-map (range_with_len 0 n) (least_upper bs) ∙ length-range_with_len 0 n) past e in
          let b = get_or rows found.0 no_bounded in
          let both = both_true (option_map_or (λ l. int_le l (slack_at whole b)) b.lower true) _ (all-at (is_bounded_at whole) rows found.0 no_bounded found.2 held) in
          let le = high-holds (slack_at whole b) b.upper u both.1 found.3 in
          let at = ap (entry p.nums) found.1 ∙ slack-entry n found.0 whole bs long found.2 in
          let here = times-one u in
          omega (arith, ints, le, at, here))
          (cases_lt c n);
    }
