-- What multipliers of a conflict take of the literals' bounds is the conflict's number, at each point.
use Rattle.std.proofs.Common.{◌≡◌, ℕ, ◌+◌, ◌<◌, List, ◌++◌, length, map, get_or, refl, ap, sym, ◌∙◌, arith, true}
use Rattle.std.specs.Prelude.{ℤ, pos, ◌+ℤ◌, ◌-ℤ◌, ◌*ℤ◌, Option, None, Some, slice_get}
use Rattle.std.specs.List.{flat_map, list_all, range_with_len}
use Rattle.std.specs.Option.{unwrap_or}
use Rattle.std.proofs.Math.IntN.{zero-*ℤ}
use Rattle.std.proofs.lemmas.Int.{ints}
use Rattle.std.proofs.lemmas.List.{get_or-append-add, get_or-map, get_or_append_left, length-map}
use Rattle.std.proofs.lemmas.List.FromFn.{get_or-map-range_with_len, length-range_with_len}
use Rattle.base.proofs.Public.{*ℤ-+ℤ, +ℤ-*ℤ}
use Rattle.lin_atoms.specs.Dot.{dot}
use Rattle.lin_atoms.specs.Linear.{sum_at, variable_at}
use Rattle.lin_atoms.specs.declared.lit.Lit.{Lit}
use Rattle.int_rows.specs.Basis.{bound}
use Rattle.int_rows.specs.Node.{all_bounds, bounds_of, end_of_quotients, greatest_lower, in_rows, least_upper}
use Rattle.int_rows.specs.Rows.{SolvesAll, entry}
use Rattle.int_rows.specs.Table.{width}
use Rattle.int_rows.specs.declared.bounds.Bounded.{Bounded}
use Rattle.int_rows.specs.declared.bounds.Ready.{Ready}
use Rattle.int_rows.specs.declared.bounds.Ready.TheVariants.{Bounds}
use Rattle.int_rows.proofs.FollowLemmas.{follows-solved}
use Rattle.simplex_core.specs.Meaning.{IsConflict, of_lower, of_upper, summed, summed_bounds}
use Rattle.simplex_core.proofs.SumLemmas.{dot-made, dot-total, total, total-minus, total-same}
use Rattle.lia_node.specs.Known.{are_known, is_legal}
use Rattle.lia_node.specs.Nodes.{node_table}
use Rattle.lia_node.specs.machinery.Columns.{is_said_below}
use Rattle.lia_node.specs.machinery.Solved.{is_tidy}
use Rattle.lia_node.proofs.BelowLemmas.{all-below}
use Rattle.lia_node.proofs.ColumnLemmas.{all-at, length-system}
use Rattle.lia_node.proofs.HoldLemmas.{bound-slack, bound-variable, kept, no_bounded}
use Rattle.lia_node.proofs.PointLemmas.{slacks-solve, slacks-width, with_slacks}
use Rattle.lia_node.proofs.TidyLemmas.{all-tidy}
use Rattle.lia_close.specs.declared.side.Side.{Side}
use Rattle.lia_close.specs.machinery.Taken.{all_ready, all_taken, said_value, slacks_from, taken_by_found, taken_of, taken_value}
use Rattle.lia_close.specs.machinery.Tightest.{greatest_found, least_found}
use Rattle.lia_close.proofs.LoneLemmas.{lone-high, lone-low}
use Rattle.lia_close.proofs.MadeLemmas.{made-plain, made-tidy, ready-bounds}
use Rattle.lia_close.proofs.SlackLemmas.{range-total, slack-total, slack_part, slack_sum, slacks-sum, sum-values, taken-++, total-join, value-by, values, values-at}
use Rattle.lia_close.proofs.TightestLemmas.{greatest-is, greatest-none, into-all, least-is, least-none}

-- a form of one variable has the coefficient 1 or -1, and no form has a constant
abbrev ArePlain : List Ready → Type 0
ArePlain readied = (k : ℕ) (b : Bounded) → slice_get readied k ≡ Some (Bounds b) → (b.form.constant ≡ pos 0) × (is_tidy b ≡ true)

low-taken : (point : List ℤ) (readied : List Ready) (v : ℕ) (m : ℤ) → ArePlain readied → (greatest_lower (flat_map bounds_of readied) v ≡ None → m ≡ pos 0)
    → taken_value point readied (taken_by_found (greatest_found readied v) m) ≡ m *ℤ (unwrap_or (greatest_lower (flat_map bounds_of readied) v) (pos 0) -ℤ variable_at point v)
low-taken point readied v m plain missing = by-found (greatest_found readied v) refl where
  by-found : (o : Option (ℕ × Side)) → greatest_found readied v ≡ o → taken_value point readied (taken_by_found o m) ≡ m *ℤ (unwrap_or (greatest_lower (flat_map bounds_of readied) v) (pos 0) -ℤ variable_at point v)
  by-found None e =
      let right = unwrap_or (greatest_lower (flat_map bounds_of readied) v) (pos 0) -ℤ variable_at point v in
      sym (ap (λ z. z *ℤ right) (missing (greatest-none readied v e)) ∙ zero-*ℤ right)
  by-found (Some found) e =
      let is = greatest-is readied v found e in
      let about = plain found.0 is.bounded is.there in
      value-by point readied found.0 found.1 m ∙ ap (λ o. m *ℤ said_value point found.1 o) is.there ∙ ap (λ z. m *ℤ z) (lone-low point v is.bounded is.number found.1 about.0 about.1 is.side)
      ∙ ap (λ (o : Option ℤ). m *ℤ (unwrap_or o (pos 0) -ℤ variable_at point v)) (sym is.greatest)

high-taken : (point : List ℤ) (readied : List Ready) (v : ℕ) (m : ℤ) → ArePlain readied → (least_upper (flat_map bounds_of readied) v ≡ None → m ≡ pos 0)
    → taken_value point readied (taken_by_found (least_found readied v) m) ≡ m *ℤ (variable_at point v -ℤ unwrap_or (least_upper (flat_map bounds_of readied) v) (pos 0))
high-taken point readied v m plain missing = by-found (least_found readied v) refl where
  by-found : (o : Option (ℕ × Side)) → least_found readied v ≡ o → taken_value point readied (taken_by_found o m) ≡ m *ℤ (variable_at point v -ℤ unwrap_or (least_upper (flat_map bounds_of readied) v) (pos 0))
  by-found None e =
      let right = variable_at point v -ℤ unwrap_or (least_upper (flat_map bounds_of readied) v) (pos 0) in
      sym (ap (λ z. z *ℤ right) (missing (least-none readied v e)) ∙ zero-*ℤ right)
  by-found (Some found) e =
      let is = least-is readied v found e in
      let about = plain found.0 is.bounded is.there in
      value-by point readied found.0 found.1 m ∙ ap (λ o. m *ℤ said_value point found.1 o) is.there ∙ ap (λ z. m *ℤ z) (lone-high point v is.bounded is.number found.1 about.0 about.1 is.side)
      ∙ ap (λ (o : Option ℤ). m *ℤ (variable_at point v -ℤ unwrap_or o (pos 0))) (sym is.least)

-- the value of every column at a point: its variables and quotients, and the forms of its rows
abbrev pub at_columns : ℕ → List Lit → List ℤ → List ℤ
at_columns q lits point = (with_slacks (values point (end_of_quotients q lits)) (all_bounds q lits)).nums

long-values : (point : List ℤ) (n : ℕ) → length (values point n) ≡ n
long-values point n = length-map (range_with_len 0 n) (variable_at point) ∙ length-range_with_len 0 n

-- they solve the rows: the slack is the form's value there
columns-solve : (q : ℕ) (lits : List Lit) (point : List ℤ) → list_all is_legal lits ≡ true → are_known q lits ≡ true → SolvesAll (at_columns q lits point) (node_table q lits).rows
columns-solve q lits point legal known =
    let n = end_of_quotients q lits in
    slacks-solve n (values point n) (all_bounds q lits) (long-values point n) (all-tidy q lits legal known) (all-below q lits known)

variable-column : (q : ℕ) (lits : List Lit) (point : List ℤ) (v : ℕ) → v < end_of_quotients q lits → entry (at_columns q lits point) v ≡ variable_at point v
variable-column q lits point v less =
    let n = end_of_quotients q lits in
    let whole = values point n in
    let long = long-values point n in
    get_or_append_left whole (map (λ (b : Bounded). sum_at whole b.form.terms) (in_rows (all_bounds q lits))) (pos 0) v (omega (arith, less, long)) ∙ values-at point n v less

slack-column : (q : ℕ) (lits : List Lit) (point : List ℤ) (i : ℕ) → are_known q lits ≡ true → i < length (in_rows (all_bounds q lits)) → entry (at_columns q lits point) (end_of_quotients q lits + i) ≡ sum_at point (get_or (in_rows (all_bounds q lits)) i no_bounded).form.terms
slack-column q lits point i known less =
    let n = end_of_quotients q lits in
    let whole = values point n in
    let rows = in_rows (all_bounds q lits) in
    let said = all-at (is_said_below n) rows i no_bounded less (kept (is_said_below n) (all_bounds q lits) (all-below q lits known)) in
    ap (λ (k : ℕ). get_or (whole ++ map (λ (b : Bounded). sum_at whole b.form.terms) rows) (k + i) (pos 0)) (sym (long-values point n)) ∙ get_or-append-add whole (map (λ (b : Bounded). sum_at whole b.form.terms) rows) i (pos 0)
    ∙ get_or-map (λ (b : Bounded). sum_at whole b.form.terms) rows i no_bounded (pos 0) less ∙ sum-values point n (get_or rows i no_bounded).form.terms said

-- what is taken of the bounds of a column, by the column's value: l - x times the one, and x - u times the other
abbrev part : ℕ → List Lit → List ℤ → List ℤ → ℕ → ℤ
part q lits ms point c = of_lower ms c *ℤ (unwrap_or (bound (node_table q lits).lower c) (pos 0) -ℤ entry (at_columns q lits point) c) +ℤ of_upper ms c *ℤ (entry (at_columns q lits point) c -ℤ unwrap_or (bound (node_table q lits).upper c) (pos 0))

same-part : (lo up l m s t h k : ℤ) → l ≡ m → s ≡ t → h ≡ k → lo *ℤ (l -ℤ s) +ℤ up *ℤ (s -ℤ h) ≡ lo *ℤ (m -ℤ t) +ℤ up *ℤ (t -ℤ k)
same-part lo up l m s t h k e f g =
    ap (λ z. lo *ℤ (z -ℤ s) +ℤ up *ℤ (s -ℤ h)) e ∙ ap (λ z. lo *ℤ (m -ℤ z) +ℤ up *ℤ (z -ℤ h)) f ∙ ap (λ z. lo *ℤ (m -ℤ t) +ℤ up *ℤ (t -ℤ z)) g

taken-variable : (q : ℕ) (lits : List Lit) (ms point : List ℤ) (v : ℕ) → list_all is_legal lits ≡ true → are_known q lits ≡ true → IsConflict (node_table q lits) ms → v < end_of_quotients q lits → taken_value point (all_ready q lits) (taken_of (all_ready q lits) ms v) ≡ part q lits ms point v
taken-variable q lits ms point v legal known is less =
    let n = end_of_quotients q lits in
    let bs = all_bounds q lits in
    let readied = all_ready q lits in
    let plain : ArePlain readied = λ k b e. (made-plain q lits k b e, made-tidy q lits k b legal known e) in
    let inside : v < width (node_table q lits) = omega (arith, less) in
    let low : greatest_lower (flat_map bounds_of readied) v ≡ bound (node_table q lits).lower v = ap (λ (cs : List Bounded). greatest_lower cs v) (ready-bounds q lits) ∙ sym (bound-variable (greatest_lower bs) (map (λ (b : Bounded). b.lower) (in_rows bs)) n v less) in
    let high : least_upper (flat_map bounds_of readied) v ≡ bound (node_table q lits).upper v = ap (λ (cs : List Bounded). least_upper cs v) (ready-bounds q lits) ∙ sym (bound-variable (least_upper bs) (map (λ (b : Bounded). b.upper) (in_rows bs)) n v less) in
    let first = low-taken point readied v (of_lower ms v) plain (λ e. is.lower v inside (sym low ∙ e)) in
    let second = high-taken point readied v (of_upper ms v) plain (λ e. is.upper v inside (sym high ∙ e)) in
    taken-++ point readied (taken_by_found (greatest_found readied v) (of_lower ms v)) (taken_by_found (least_found readied v) (of_upper ms v))
    ∙ ap (λ z. z +ℤ taken_value point readied (taken_by_found (least_found readied v) (of_upper ms v))) first
    ∙ ap (λ z. of_lower ms v *ℤ (unwrap_or (greatest_lower (flat_map bounds_of readied) v) (pos 0) -ℤ variable_at point v) +ℤ z) second
    ∙ same-part (of_lower ms v) (of_upper ms v) (unwrap_or (greatest_lower (flat_map bounds_of readied) v) (pos 0)) (unwrap_or (bound (node_table q lits).lower v) (pos 0)) (variable_at point v) (entry (at_columns q lits point) v) (unwrap_or (least_upper (flat_map bounds_of readied) v) (pos 0)) (unwrap_or (bound (node_table q lits).upper v) (pos 0))
    (ap (λ (o : Option ℤ). unwrap_or o (pos 0)) low) (sym (variable-column q lits point v less)) (ap (λ (o : Option ℤ). unwrap_or o (pos 0)) high)

taken-slack : (q : ℕ) (lits : List Lit) (ms point : List ℤ) (i : ℕ) → are_known q lits ≡ true → i < length (in_rows (all_bounds q lits)) → part q lits ms point (end_of_quotients q lits + i) ≡ slack_part point ms (end_of_quotients q lits + i) (get_or (in_rows (all_bounds q lits)) i no_bounded)
taken-slack q lits ms point i known less =
    let n = end_of_quotients q lits in
    let bs = all_bounds q lits in
    let rows = in_rows bs in
    let b = get_or rows i no_bounded in
    let low = bound-slack (λ (b : Bounded). b.lower) (map (greatest_lower bs) (range_with_len 0 n)) rows n i (length-map (range_with_len 0 n) (greatest_lower bs) ∙ length-range_with_len 0 n) less in
    let high = bound-slack (λ (b : Bounded). b.upper) (map (least_upper bs) (range_with_len 0 n)) rows n i (length-map (range_with_len 0 n) (least_upper bs) ∙ length-range_with_len 0 n) less in
    same-part (of_lower ms (n + i)) (of_upper ms (n + i)) (unwrap_or (bound (node_table q lits).lower (n + i)) (pos 0)) (unwrap_or b.lower (pos 0)) (entry (at_columns q lits point) (n + i)) (sum_at point b.form.terms) (unwrap_or (bound (node_table q lits).upper (n + i)) (pos 0)) (unwrap_or b.upper (pos 0))
    (ap (λ (o : Option ℤ). unwrap_or o (pos 0)) low) (slack-column q lits point i known less) (ap (λ (o : Option ℤ). unwrap_or o (pos 0)) high)

taken-total : (q : ℕ) (lits : List Lit) (ms point : List ℤ) → list_all is_legal lits ≡ true → are_known q lits ≡ true → IsConflict (node_table q lits) ms
    → taken_value point (all_ready q lits) (all_taken (all_ready q lits) ms (end_of_quotients q lits)) ≡ total (part q lits ms point) 0 (width (node_table q lits))
taken-total q lits ms point legal known is =
    let n = end_of_quotients q lits in
    let bs = all_bounds q lits in
    let readied = all_ready q lits in
    let rows = in_rows bs in
    let f = part q lits ms point in
    let variables = range-total point readied (taken_of readied ms) f 0 n (λ v from less. taken-variable q lits ms point v legal known is (omega (arith, less))) in
    let slacks : taken_value point readied (slacks_from ms 0 n readied) ≡ total f n (length rows) =
    slacks-sum point ms readied readied 0 n (into-all readied) (made-plain q lits) ∙ ap (λ (cs : List Bounded). slack_sum point ms n (in_rows cs)) (ready-bounds q lits) ∙ slack-total point ms f n rows (λ i less. taken-slack q lits ms point i known less) in
    let start : total f n (length rows) ≡ total f (0 + n) (length rows) = ap (λ (k : ℕ). total f k (length rows)) (let same : n ≡ 0 + n = omega arith in same) in
    let wide : n + length rows ≡ width (node_table q lits) = ap (λ (k : ℕ). n + k) (sym (length-system n bs)) in
    taken-++ point readied (flat_map (taken_of readied ms) (range_with_len 0 n)) (slacks_from ms 0 n readied)
    ∙ ap (λ z. z +ℤ taken_value point readied (slacks_from ms 0 n readied)) variables ∙ ap (λ z. total f 0 n +ℤ z) (slacks ∙ start)
    ∙ total-join f 0 n (length rows) ∙ ap (λ (k : ℕ). total f 0 k) wide

times-minus : (a b c : ℤ) → a *ℤ (b -ℤ c) ≡ a *ℤ b -ℤ a *ℤ c
times-minus a b c =
    let parts = *ℤ-+ℤ a (b -ℤ c) c in
    let whole : a *ℤ ((b -ℤ c) +ℤ c) ≡ a *ℤ b = let e : (b -ℤ c) +ℤ c ≡ b = omega (arith, ints) in ap (λ z. a *ℤ z) e in
    omega (arith, ints, parts, whole)

minus-times : (a b z : ℤ) → (a -ℤ b) *ℤ z ≡ a *ℤ z -ℤ b *ℤ z
minus-times a b z =
    let parts = +ℤ-*ℤ (a -ℤ b) b z in
    let whole : ((a -ℤ b) +ℤ b) *ℤ z ≡ a *ℤ z = let e : (a -ℤ b) +ℤ b ≡ a = omega (arith, ints) in ap (λ y. y *ℤ z) e in
    omega (arith, ints, parts, whole)

-- without what the column's value adds
part-less : (lo up l s h : ℤ) → (lo *ℤ (l -ℤ s) +ℤ up *ℤ (s -ℤ h)) -ℤ (up -ℤ lo) *ℤ s ≡ lo *ℤ l -ℤ up *ℤ h
part-less lo up l s h =
    let first = times-minus lo l s in
    let second = times-minus up s h in
    let third = minus-times up lo s in
    omega (arith, ints, first, second, third)

-- the values of all columns at a point solve the rows, so that what follows from them is 0 there: what is left is the number of the conflict
pub taken-is : (q : ℕ) (lits : List Lit) (ms point : List ℤ) → list_all is_legal lits ≡ true → are_known q lits ≡ true → IsConflict (node_table q lits) ms → taken_value point (all_ready q lits) (all_taken (all_ready q lits) ms (end_of_quotients q lits)) ≡ summed_bounds (node_table q lits) ms
taken-is q lits ms point legal known is =
    let t = node_table q lits in
    let n = width t in
    let nums = at_columns q lits point in
    let bs = all_bounds q lits in
    let m = end_of_quotients q lits in
    let x : ℕ → ℤ = entry nums in
    let lo : ℕ → ℤ = of_lower ms in
    let up : ℕ → ℤ = of_upper ms in
    let low : ℕ → ℤ = λ v. unwrap_or (bound t.lower v) (pos 0) in
    let high : ℕ → ℤ = λ v. unwrap_or (bound t.upper v) (pos 0) in
    let row = summed n ms in
    let wide : length row ≡ n = length-map (range_with_len 0 n) (λ v. of_upper ms v -ℤ of_lower ms v) ∙ length-range_with_len 0 n in
    let long : length nums ≡ n = slacks-width m (values point m) bs (long-values point m) ∙ ap (λ (k : ℕ). m + k) (sym (length-system m bs)) in
    let solved : dot row nums ≡ pos 0 = follows-solved t.rows row nums is.follows (columns-solve q lits point legal known) in
    let spread = dot-total row nums n wide long in
    let each : total (λ c. entry row c *ℤ x c) 0 n ≡ total (λ c. (up c -ℤ lo c) *ℤ x c) 0 n =
    total-same (λ c. entry row c *ℤ x c) (λ c. (up c -ℤ lo c) *ℤ x c) 0 n (λ c from less. ap (λ z. z *ℤ x c) (get_or-map-range_with_len (λ v. of_upper ms v -ℤ of_lower ms v) 0 n c c (pos 0) (omega (arith, less)) (omega arith))) in
    let none : total (λ c. (up c -ℤ lo c) *ℤ x c) 0 n ≡ pos 0 = sym each ∙ sym spread ∙ solved in
    let lows = dot-made lo low 0 n in
    let highs = dot-made up high 0 n in
    let both = total-minus (λ c. lo c *ℤ low c) (λ c. up c *ℤ high c) 0 n in
    let constant = total (λ c. lo c *ℤ low c -ℤ up c *ℤ high c) 0 n in
    let constant_is : summed_bounds t ms ≡ constant = omega (arith, ints, lows, highs, both) in
    let less_value = total-minus (part q lits ms point) (λ c. (up c -ℤ lo c) *ℤ x c) 0 n in
    let left : total (λ c. part q lits ms point c -ℤ (up c -ℤ lo c) *ℤ x c) 0 n ≡ constant =
    total-same (λ c. part q lits ms point c -ℤ (up c -ℤ lo c) *ℤ x c) (λ c. lo c *ℤ low c -ℤ up c *ℤ high c) 0 n (λ c from less. part-less (lo c) (up c) (low c) (x c) (high c)) in
    let sum : total (part q lits ms point) 0 n ≡ summed_bounds t ms = omega (arith, ints, none, constant_is, less_value, left) in
    taken-total q lits ms point legal known is ∙ sum
