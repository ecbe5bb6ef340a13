-- A point of the literals has values for their quotients.
use Rattle.std.proofs.Common.{◌≡◌, ℕ, List, [], ◌∷◌, ◌++◌, refl, ap, sym, ◌∙◌, arith, ◌≤◌, ◌+◌, true, false, Bool, cond, ◌==◌, ◌&&◌, length, append_assoc, append-nil}
use Rattle.std.specs.Prelude.{ℤ, pos, ◌*ℤ◌, int_le, nat_lt}
use Rattle.std.specs.Option.{option_map_or}
use Rattle.std.specs.List.{list_all}
use Rattle.std.proofs.lemmas.Bool.{and_from, ltb-true}
use Rattle.std.proofs.lemmas.Int.{ints}
use Rattle.std.proofs.lemmas.List.{get_or_append_left, length-append}
use Rattle.std.proofs.lemmas.List.Folds.{list_all-append}
use Rattle.lin_atoms.specs.Linear.{sum_at}
use Rattle.lin_atoms.specs.Truth.{lit_is_below, lit_truth}
use Rattle.lin_atoms.specs.declared.lit.Lit.{Lit}
use Rattle.lin_atoms.specs.declared.lit.Lit.TheVariants.{Le, Eq, Div, NDiv}
use Rattle.lin_atoms.proofs.Public.{both_true, lit-agree}
use Rattle.int_rows.specs.Basis.{Point}
use Rattle.int_rows.specs.Node.{all_bounds, bounds_of, end_of_quotients, quotients}
use Rattle.int_rows.specs.Ready.{bounded, is_bounded_at, ready, ready_truth}
use Rattle.int_rows.specs.declared.bounds.Bounded.{Bounded}
use Rattle.int_rows.specs.declared.bounds.Ready.{Ready}
use Rattle.int_rows.specs.declared.bounds.Ready.TheVariants.{Truth, Bounds}
use Rattle.int_rows.proofs.QuotientLemmas.{ready-div, ready-ndiv}
use Rattle.int_rows.proofs.ReadyLemmas.{ready-eq, ready-le}
use Rattle.lia_node.specs.Known.{are_known, is_legal}
use Rattle.lia_node.specs.machinery.Columns.{is_said_below}
use Rattle.lia_node.specs.Whole.{Extends, IsWholeSolution}
use Rattle.lia_node.proofs.BelowLemmas.{all-below, said-below, terms-weaker}
use Rattle.lia_node.proofs.FitLemmas.{linear-parts}
use Rattle.lia_node.proofs.TidyLemmas.{all-tidy}
use Rattle.lia_node.proofs.PointLemmas.{slacks-meet, slacks-solve, slacks-whole, slacks-width, with_slacks}

-- what one literal says holds, with a value for its quotient where it has one
said-holds : (p : List ℤ) (r : Ready) → ready_truth p r ≡ true → list_all (is_bounded_at p) (bounds_of r) ≡ true
said-holds p (Truth t) h = refl
said-holds p (Bounds b) h = and_from _ _ h refl

-- values for the quotient of one literal
record IsHead (q : ℕ) (lit : Lit) (point values : List ℤ) : Type 0 where
  long : length (point ++ values) ≡ q + quotients lit
  holds : list_all (is_bounded_at (point ++ values)) (bounds_of (ready q lit)) ≡ true

plain-head : (q : ℕ) (lit : Lit) (point : List ℤ) → quotients lit ≡ 0 → length point ≡ q → ready_truth point (ready q lit) ≡ true → IsHead q lit point []
plain-head q lit point none long h = record {
  long = let same = ap length (append-nil point) in omega (arith, same, long, none);
  holds = ap (λ (p : List ℤ). list_all (is_bounded_at p) (bounds_of (ready q lit))) (append-nil point) ∙ said-holds point (ready q lit) h;
}

record IsDivision (k : ℕ) (r : Ready) (q : ℕ) (point values : List ℤ) : Type 0 where
  long : length (point ++ values) ≡ q + k
  holds : list_all (is_bounded_at (point ++ values)) (bounds_of r) ≡ true

division-head : (q : ℕ) (point : List ℤ) (x : ℤ) (t : Bool) (made : Ready) (b : Bool) → length point ≡ q → ready_truth (point ++ x ∷ []) (cond b (Truth t) made) ≡ true → (values : List ℤ) × IsDivision (cond b 0 1) (cond b (Truth t) made) q point values
division-head q point x t made true long h = ([], record { long = let same = ap length (append-nil point) in omega (arith, same, long); holds = refl })
division-head q point x t made false long h = (x ∷ [], record { long = let more = length-append point (x ∷ []) in omega (arith, more, long); holds = said-holds (point ++ x ∷ []) made h })

head : (q : ℕ) (lit : Lit) (point : List ℤ) → is_legal lit ≡ true → lit_is_below q lit ≡ true → length point ≡ q → lit_truth point lit ≡ true → (values : List ℤ) × IsHead q lit point values
head q (Le lin) point legal below long h = ([], plain-head q (Le lin) point refl long (ready-le q point lin (linear-parts lin legal).0 ∙ h))
head q (Eq lin) point legal below long h = ([], plain-head q (Eq lin) point refl long (ready-eq q point lin (linear-parts lin legal).0 ∙ h))
head q (Div n lin) point legal below long h =
    let found = (ready-div q n point lin (ltb-true _ _ (both_true (nat_lt 0 n) _ legal).0) long below).0 h in
    let made = division-head q point found.0 (lit_truth [] (Div n lin)) (Bounds (bounded q (Div n lin))) (length lin.terms == 0) long found.1 in
    (made.0, record { long = made.1.long; holds = made.1.holds })
head q (NDiv n lin) point legal below long h =
    let found = (ready-ndiv q n point lin (ltb-true _ _ (both_true (nat_lt 0 n) _ legal).0) long below).0 h in
    let made = division-head q point found.0 (lit_truth [] (NDiv n lin)) (Bounds (bounded q (NDiv n lin))) (length lin.terms == 0) long found.1 in
    (made.0, record { long = made.1.long; holds = made.1.holds })

-- what holds at a point holds at a longer one
sum-longer : (p r : List ℤ) (ts : List (ℕ × ℤ)) → list_all (λ (t : ℕ × ℤ). nat_lt t.0 (length p)) ts ≡ true → sum_at (p ++ r) ts ≡ sum_at p ts
sum-longer p r [] h = refl
sum-longer p r (t ∷ ts) h =
    let both = both_true (nat_lt t.0 (length p)) _ h in
    let first = ap (λ z. t.1 *ℤ z) (get_or_append_left p r (pos 0) t.0 (ltb-true _ _ both.0)) in
    let rest = sum-longer p r ts both.1 in
    omega (arith, ints, first, rest)

bounded-longer : (p r : List ℤ) (bs : List Bounded) (n : ℕ) → n ≡ length p → list_all (is_said_below n) bs ≡ true → list_all (is_bounded_at p) bs ≡ true → list_all (is_bounded_at (p ++ r)) bs ≡ true
bounded-longer p r [] n long below h = refl
bounded-longer p r (b ∷ bs) n long below h =
    let said = both_true (is_said_below n b) _ below in
    let both = both_true (is_bounded_at p b) _ h in
    let same = sum-longer p r b.form.terms (ap (λ k. list_all (λ (t : ℕ × ℤ). nat_lt t.0 k) b.form.terms) (sym long) ∙ said.0) in
    and_from _ _ (ap (λ s. option_map_or (λ l. int_le l s) b.lower true && option_map_or (λ u. int_le s u) b.upper true) same ∙ both.0) (bounded-longer p r bs n long said.1 both.1)

lit-weaker : (m n : ℕ) (lit : Lit) → m ≤ n → lit_is_below m lit ≡ true → lit_is_below n lit ≡ true
lit-weaker m n (Le lin) le h = terms-weaker m n lin.terms le h
lit-weaker m n (Eq lin) le h = terms-weaker m n lin.terms le h
lit-weaker m n (Div d lin) le h = terms-weaker m n lin.terms le h
lit-weaker m n (NDiv d lin) le h = terms-weaker m n lin.terms le h

lits-weaker : (m n : ℕ) (lits : List Lit) → m ≤ n → list_all (lit_is_below m) lits ≡ true → list_all (lit_is_below n) lits ≡ true
lits-weaker m n [] le h = refl
lits-weaker m n (lit ∷ lits) le h = let both = both_true (lit_is_below m lit) _ h in and_from _ _ (lit-weaker m n lit le both.0) (lits-weaker m n lits le both.1)

lits-longer : (q : ℕ) (p r : List ℤ) (lits : List Lit) → length p ≡ q → list_all (lit_is_below q) lits ≡ true → list_all (lit_truth p) lits ≡ true → list_all (lit_truth (p ++ r)) lits ≡ true
lits-longer q p r [] long below h = refl
lits-longer q p r (lit ∷ lits) long below h =
    let said = both_true (lit_is_below q lit) _ below in
    let both = both_true (lit_truth p lit) _ h in
    let same = lit-agree (λ v. nat_lt v q) p (p ++ r) lit (λ v e. let less = ltb-true v q e in sym (get_or_append_left p r (pos 0) v (omega (arith, less, long)))) said.0 in
    and_from _ _ (sym same ∙ both.0) (lits-longer q p r lits long said.1 both.1)

-- values for all quotients
extended : (q : ℕ) (lits : List Lit) (point : List ℤ) → list_all is_legal lits ≡ true → list_all (lit_is_below q) lits ≡ true → length point ≡ q → list_all (lit_truth point) lits ≡ true
    → (values : List ℤ) × (length (point ++ values) ≡ end_of_quotients q lits) × (list_all (is_bounded_at (point ++ values)) (all_bounds q lits) ≡ true)
extended q [] point legal below long h = ([], ap length (append-nil point) ∙ long, refl)
extended q (lit ∷ lits) point legal below long h =
    let made = both_true (is_legal lit) _ legal in
    let said = both_true (lit_is_below q lit) _ below in
    let both = both_true (lit_truth point lit) _ h in
    let first = head q lit point made.0 said.0 long both.0 in
    let next = q + quotients lit in
    let here = point ++ first.0 in
    let rest = extended next lits here made.1 (lits-weaker q next lits (omega arith) said.1) first.1.long (lits-longer q point first.0 lits long said.1 both.1) in
    let same : here ++ rest.0 ≡ point ++ (first.0 ++ rest.0) = append_assoc point first.0 rest.0 in (
      first.0 ++ rest.0,
      ap length (sym same) ∙ rest.1,
      ap (λ (p : List ℤ). list_all (is_bounded_at p) (all_bounds q (lit ∷ lits))) (sym same)
          ∙ list_all-append (is_bounded_at (here ++ rest.0)) (bounds_of (ready q lit)) (all_bounds next lits)
          ∙ and_from _ _ (bounded-longer here rest.0 (bounds_of (ready q lit)) next (sym first.1.long) (said-below q lit said.0) first.1.holds) rest.2,
    )

known-below : (q n : ℕ) (lits : List Lit) → q ≤ n → list_all (lit_is_below q) lits ≡ true → are_known n lits ≡ true
known-below q n [] le h = refl
known-below q n (lit ∷ lits) le h = let both = both_true (lit_is_below q lit) _ h in and_from _ _ (lit-weaker q n lit le both.0) (known-below q (n + quotients lit) lits (omega (arith, le)) both.1)

-- a point is a whole solution
pub point-solution : (q : ℕ) (lits : List Lit) (point : List ℤ) → list_all is_legal lits ≡ true → list_all (lit_is_below q) lits ≡ true → length point ≡ q → list_all (lit_truth point) lits ≡ true → (whole : List ℤ) × (p : Point) × Extends (end_of_quotients q lits) point whole × IsWholeSolution q lits p whole
point-solution q lits point legal below long h =
    let found = extended q lits point legal below long h in
    let n = end_of_quotients q lits in
    let bs = all_bounds q lits in
    let whole = point ++ found.0 in
    let known = known-below q q lits (omega arith) below in
    let tidy = all-tidy q lits legal known in
    let said = all-below q lits known in (
      whole,
      with_slacks whole bs,
      record { quotients = found.0; is = refl; long = found.1 },
      record {
        positive = omega arith;
        width = slacks-width n whole bs found.1;
        values = slacks-whole n whole bs found.1;
        solves = slacks-solve n whole bs found.1 tidy said;
        meets = slacks-meet n whole bs found.1 tidy found.2;
      },
    )
