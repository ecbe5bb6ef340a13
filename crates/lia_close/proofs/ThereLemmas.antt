-- Each bound that multipliers of a conflict take is there: a bound that is missing has the multiplier 0.
use Rattle.std.proofs.Common.{◌≡◌, ℕ, zero, suc, ◌+◌, ◌*◌, ◌<◌, List, [], ◌∷◌, ◌++◌, length, map, get_or, refl, ap, sym, ◌∙◌, subst, arith, true, false, Bool, cond, ◌==◌}
use Rattle.std.specs.Prelude.{ℤ, pos, ◌≤ℤ◌, int_le, nat_abs, Option, None, Some, slice_get}
use Rattle.std.specs.List.{flat_map, list_all, range_with_len}
use Rattle.std.proofs.lemmas.Int.{ints}
use Rattle.std.proofs.lemmas.List.{length-map}
use Rattle.std.proofs.lemmas.List.Elements.{All-append, All-cons, All-nil, All-weaker}
use Rattle.std.proofs.lemmas.List.FromFn.{length-range_with_len}
use Rattle.lin_atoms.specs.Linear.{is_short}
use Rattle.lin_atoms.specs.declared.lit.Lit.{Lit}
use Rattle.lin_atoms.proofs.Public.{both_true}
use Rattle.int_rows.specs.Node.{all_bounds, bounds_of, end_of_quotients, greatest_lower, has_row, in_rows, least_upper}
use Rattle.int_rows.specs.Rows.{entry}
use Rattle.int_rows.specs.Table.{width}
use Rattle.int_rows.specs.declared.bounds.Bounded.{Bounded}
use Rattle.int_rows.specs.declared.bounds.Ready.{Ready}
use Rattle.int_rows.specs.declared.bounds.Ready.TheVariants.{Truth, Bounds}
use Rattle.int_rows.proofs.ReadyLemmas.{le-true}
use Rattle.simplex_core.specs.Meaning.{IsConflict, of_lower, of_upper}
use Rattle.lia_node.specs.Nodes.{node_table}
use Rattle.lia_node.proofs.ColumnLemmas.{length-system}
use Rattle.lia_node.proofs.HoldLemmas.{bound-slack, no_bounded}
use Rattle.lia_close.specs.declared.side.Side.{Side}
use Rattle.lia_close.specs.declared.side.Side.TheVariants.{Lower, Upper}
use Rattle.lia_close.specs.declared.side.Taken.{Taken}
use Rattle.lia_close.specs.machinery.Closing.{AreOf, IsOf}
use Rattle.lia_close.specs.machinery.Taken.{AreTaken, IsTaken, all_ready, all_taken, bound_on, slacks_from, taken_by, taken_by_found, taken_of}
use Rattle.lia_close.specs.machinery.Tightest.{greatest_found, least_found}
use Rattle.lia_close.proofs.LoneLemmas.{above-number, below-number}
use Rattle.lia_close.proofs.MadeLemmas.{made-at, ready-bounds}
use Rattle.lia_close.proofs.TightestLemmas.{greatest-is, into-all, into-first, into-rest, least-is}

natural-at : (ms : List ℤ) (k : ℕ) → list_all (λ k. int_le (pos 0) k) ms ≡ true → pos 0 ≤ℤ entry ms k
natural-at [] k h = omega (arith, ints)
natural-at (m ∷ ms) zero h = le-true (pos 0) m (both_true (int_le (pos 0) m) _ h).0
natural-at (m ∷ ms) (suc k) h = natural-at ms k (both_true (int_le (pos 0) m) _ h).1

short-at : (ms : List ℤ) (k : ℕ) → list_all is_short ms ≡ true → is_short (entry ms k) ≡ true
short-at [] k h = refl
short-at (m ∷ ms) zero h = (both_true (is_short m) _ h).0
short-at (m ∷ ms) (suc k) h = short-at ms k (both_true (is_short m) _ h).1

-- one bound
taken-there : (readied : List Ready) (at : ℕ) (side : Side) (m : ℤ) (b : Bounded) (number : ℤ) → slice_get readied at ≡ Some (Bounds b) → bound_on side b ≡ Some number → pos 0 ≤ℤ m → is_short m ≡ true → AreTaken readied (taken_by at side m)
taken-there readied at side m b number there e natural short = by-test (nat_abs m == 0) where
  by-test : (h : Bool) → AreTaken readied (cond h [] (record { literal = at; side = side; times = m } ∷ []))
  by-test true = All-nil (IsTaken readied)
  by-test false = All-cons (IsTaken readied) (record { literal = at; side = side; times = m }) [] (record { bounded = b; there = there; number = number; bound = e; natural = natural; short = short }) (All-nil (IsTaken readied))

none-taken : (readied : List Ready) (at : ℕ) (side : Side) (m : ℤ) → m ≡ pos 0 → AreTaken readied (taken_by at side m)
none-taken readied at side m e = subst (λ (z : ℤ). AreTaken readied (taken_by at side z)) (sym e) (All-nil (IsTaken readied))

side-there : (readied : List Ready) (at : ℕ) (side : Side) (m : ℤ) (b : Bounded) (o : Option ℤ) → slice_get readied at ≡ Some (Bounds b) → bound_on side b ≡ o → (o ≡ None → m ≡ pos 0) → pos 0 ≤ℤ m → is_short m ≡ true → AreTaken readied (taken_by at side m)
side-there readied at side m b None there e none natural short = none-taken readied at side m (none refl)
side-there readied at side m b (Some k) there e none natural short = taken-there readied at side m b k there e natural short

-- the bounds of a variable
found-low : (readied : List Ready) (v : ℕ) (m : ℤ) → pos 0 ≤ℤ m → is_short m ≡ true → AreTaken readied (taken_by_found (greatest_found readied v) m)
found-low readied v m natural short = by-found (greatest_found readied v) refl where
  by-found : (o : Option (ℕ × Side)) → greatest_found readied v ≡ o → AreTaken readied (taken_by_found o m)
  by-found None e = All-nil (IsTaken readied)
  by-found (Some found) e =
      let is = greatest-is readied v found e in
      let number = below-number v is.bounded is.number found.1 is.side in
      taken-there readied found.0 found.1 m is.bounded number.0 is.there number.1 natural short

found-high : (readied : List Ready) (v : ℕ) (m : ℤ) → pos 0 ≤ℤ m → is_short m ≡ true → AreTaken readied (taken_by_found (least_found readied v) m)
found-high readied v m natural short = by-found (least_found readied v) refl where
  by-found : (o : Option (ℕ × Side)) → least_found readied v ≡ o → AreTaken readied (taken_by_found o m)
  by-found None e = All-nil (IsTaken readied)
  by-found (Some found) e =
      let is = least-is readied v found e in
      let number = above-number v is.bounded is.number found.1 is.side in
      taken-there readied found.0 found.1 m is.bounded number.0 is.there number.1 natural short

every-range : (readied : List Ready) (f : ℕ → List Taken) (a n : ℕ) → ((v : ℕ) → AreTaken readied (f v)) → AreTaken readied (flat_map f (range_with_len a n))
every-range readied f a zero e = All-nil (IsTaken readied)
every-range readied f a (suc n) e = All-append (IsTaken readied) (f a) (flat_map f (range_with_len (a + 1) n)) (e a) (every-range readied f (a + 1) n e)

-- a slack without a bound isn't taken
abbrev AreMissing : List ℤ → ℕ → List Bounded → Type 0
AreMissing ms column rows = (i : ℕ) → i < length rows → ((get_or rows i no_bounded).lower ≡ None → of_lower ms (column + i) ≡ pos 0) × ((get_or rows i no_bounded).upper ≡ None → of_upper ms (column + i) ≡ pos 0)

missing-rest : (ms : List ℤ) (column : ℕ) (b : Bounded) (rows : List Bounded) → AreMissing ms column (b ∷ rows) → AreMissing ms (column + 1) rows
missing-rest ms column b rows missing i less =
    let next : column + 1 + i ≡ column + suc i = omega arith in
    let here = missing (suc i) (omega (arith, less)) in
    (λ e. ap (of_lower ms) next ∙ here.0 e, λ e. ap (of_upper ms) next ∙ here.1 e)

slack-there : (readied : List Ready) (ms : List ℤ) (at column : ℕ) (b : Bounded) (rest other : List Taken) (rows : List Bounded) → list_all (λ k. int_le (pos 0) k) ms ≡ true → list_all is_short ms ≡ true → slice_get readied at ≡ Some (Bounds b) → (AreMissing ms (column + 1) rows → AreTaken readied rest)
    → (AreMissing ms column rows → AreTaken readied other) → (h : Bool) → AreMissing ms column (cond h (b ∷ rows) rows) → AreTaken readied (cond h (taken_by at Lower (of_lower ms column) ++ (taken_by at Upper (of_upper ms column) ++ rest)) other)
slack-there readied ms at column b rest other rows natural short there more same true missing =
    let here : column ≡ column + 0 = omega arith in
    let none = missing 0 (omega arith) in
    All-append (IsTaken readied) (taken_by at Lower (of_lower ms column)) (taken_by at Upper (of_upper ms column) ++ rest)
    (side-there readied at Lower (of_lower ms column) b b.lower there refl (λ e. ap (of_lower ms) here ∙ none.0 e) (natural-at ms (2 * column) natural) (short-at ms (2 * column) short))
    (All-append (IsTaken readied) (taken_by at Upper (of_upper ms column)) rest
    (side-there readied at Upper (of_upper ms column) b b.upper there refl (λ e. ap (of_upper ms) here ∙ none.1 e) (natural-at ms (2 * column + 1) natural) (short-at ms (2 * column + 1) short))
    (more (missing-rest ms column b rows missing)))
slack-there readied ms at column b rest other rows natural short there more same false missing = same missing

slacks-there : (readied rs : List Ready) (ms : List ℤ) (at column : ℕ) → ((k : ℕ) (one : Ready) → slice_get rs k ≡ Some one → slice_get readied (at + k) ≡ Some one) → list_all (λ k. int_le (pos 0) k) ms ≡ true → list_all is_short ms ≡ true → AreMissing ms column (in_rows (flat_map bounds_of rs))
    → AreTaken readied (slacks_from ms at column rs)
slacks-there readied [] ms at column into natural short missing = All-nil (IsTaken readied)
slacks-there readied (Truth t ∷ rs) ms at column into natural short missing = slacks-there readied rs ms (at + 1) column (into-rest readied rs (Truth t) at into) natural short missing
slacks-there readied (Bounds b ∷ rs) ms at column into natural short missing =
    let behind = into-rest readied rs (Bounds b) at into in
    slack-there readied ms at column b (slacks_from ms (at + 1) (column + 1) rs) (slacks_from ms (at + 1) column rs) (in_rows (flat_map bounds_of rs)) natural short (into-first readied rs (Bounds b) at into)
    (λ less. slacks-there readied rs ms (at + 1) (column + 1) behind natural short less) (λ same. slacks-there readied rs ms (at + 1) column behind natural short same) (has_row b) missing

all-missing : (q : ℕ) (lits : List Lit) (ms : List ℤ) → IsConflict (node_table q lits) ms → AreMissing ms (end_of_quotients q lits) (in_rows (all_bounds q lits))
all-missing q lits ms is i less =
    let n = end_of_quotients q lits in
    let bs = all_bounds q lits in
    let rows = in_rows bs in
    let long = length-system n bs in
    let inside : n + i < width (node_table q lits) = omega (arith, less, long) in
    let low = bound-slack (λ (b : Bounded). b.lower) (map (greatest_lower bs) (range_with_len 0 n)) rows n i (length-map (range_with_len 0 n) (greatest_lower bs) ∙ length-range_with_len 0 n) less in
    let high = bound-slack (λ (b : Bounded). b.upper) (map (least_upper bs) (range_with_len 0 n)) rows n i (length-map (range_with_len 0 n) (least_upper bs) ∙ length-range_with_len 0 n) less in
    (λ e. is.lower (n + i) inside (low ∙ e), λ e. is.upper (n + i) inside (high ∙ e))

pub all-there : (q : ℕ) (lits : List Lit) (ms : List ℤ) → IsConflict (node_table q lits) ms → list_all is_short ms ≡ true → AreTaken (all_ready q lits) (all_taken (all_ready q lits) ms (end_of_quotients q lits))
all-there q lits ms is short =
    let readied = all_ready q lits in
    let n = end_of_quotients q lits in
    let missing = subst (λ (cs : List Bounded). AreMissing ms n (in_rows cs)) (sym (ready-bounds q lits)) (all-missing q lits ms is) in
    All-append (IsTaken readied) (flat_map (taken_of readied ms) (range_with_len 0 n)) (slacks_from ms 0 n readied)
    (every-range readied (taken_of readied ms) 0 n (λ v.
    All-append (IsTaken readied) (taken_by_found (greatest_found readied v) (of_lower ms v)) (taken_by_found (least_found readied v) (of_upper ms v))
    (found-low readied v (of_lower ms v) (natural-at ms (2 * v) is.natural) (short-at ms (2 * v) short))
    (found-high readied v (of_upper ms v) (natural-at ms (2 * v + 1) is.natural) (short-at ms (2 * v + 1) short))))
    (slacks-there readied readied ms 0 n (into-all readied) is.natural short missing)

-- and it is of a literal with a variable
pub all-of : (q : ℕ) (lits : List Lit) (takens : List Taken) → AreTaken (all_ready q lits) takens → AreOf lits takens
all-of q lits takens all = All-weaker (IsTaken (all_ready q lits)) (IsOf lits) (λ taken is. let made = made-at q lits taken.literal is.bounded is.there in record { lit = made.lit; there = made.there; variable = made.variable; short = is.short }) takens all
