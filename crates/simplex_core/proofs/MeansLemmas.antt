-- What the ends of a run say of a moment's equations and bounds.
use Rattle.std.proofs.Common.{◌≡◌, ℕ, List, refl, ap, sym, ◌∙◌, subst, arith, ◌<◌, ◌≤◌, ◌+◌, ◌*◌, ◌^◌, true, false, Bool, length, inl, inr, set, map, ⊎_elim}
use Rattle.std.specs.Prelude.{ℤ, pos, ◌<ℤ◌, nat_abs, Option, None, not}
use Rattle.std.specs.Int.{int_div_euclid}
use Rattle.std.specs.List.{range_with_len}
use Rattle.std.specs.Option.{unwrap_or}
use Rattle.std.specs.Prelude.{◌-ℤ◌}
use Rattle.lin_atoms.specs.Dot.{dot}
use Rattle.std.proofs.lemmas.Bool.{ltb-false}
use Rattle.lin_atoms.specs.Linear.{is_short}
use Rattle.lin_atoms.specs.Ratio.{Fraction}
use Rattle.int_rows.specs.Basis.{IsBasicPoint, IsWideCoordinate, IsWideRow, Point, System, bound, in_order}
use Rattle.int_rows.specs.Rows.{Follows, entry}
use Rattle.int_rows.specs.Space.{SameSpace}
use Rattle.int_rows.specs.Table.{HasWide, IsTable, Table, basic_at, pivoted, row_at, width}
use Rattle.int_rows.proofs.Public.{length-pivoted, pivoted-wide, same-basis, same-follows, same-solutions, same-wide}
use Rattle.simplex_core.specs.Answer.{basis, outer}
use Rattle.simplex_core.specs.Standings.{AreStandings}
use Rattle.simplex_core.specs.Meaning.{IsConflict, IsVertex, of_lower, of_upper, summed, summed_bounds, system_of}
use Rattle.simplex_core.specs.Run.{after_pivot, columns, coordinate_at, crossed, has_wide_floor, is_wide, leaving, moment, restood}
use Rattle.simplex_core.specs.declared.standing.Standing.{Standing}
use Rattle.simplex_core.specs.declared.turn.Side.{Side}
use Rattle.simplex_core.proofs.BasicPointLemmas.{basic-point}
use Rattle.simplex_core.proofs.FractionLemmas.{floor_elsewhere, wide_elsewhere}
use Rattle.simplex_core.proofs.OuterLemmas.{basis-same}
use Rattle.simplex_core.proofs.PointLemmas.{den-positive, point-at, point_of}
use Rattle.simplex_core.proofs.VertexLemmas.{vertex-meets}

-- a coordinate without room
pub wide-means : (t : Table) (standings : List Standing) (c : ℕ) → IsTable t → AreStandings t standings → c < width t → is_wide (coordinate_at (moment t standings) c) ≡ true → IsWideCoordinate (system_of t) (basis (columns t) standings) (outer (moment t standings)) c
wide-means t standings c is are h wide =
    let m = moment t standings in
    let q = coordinate_at m c in
    let p = point_of m in
    let there = basic-point t standings is are in
    let found = wide_elsewhere q (entry p.nums c) p.den (den-positive t standings c is are h) there.positive (sym (point-at t standings c is are h)) wide in
    record { point = p; is_basic = there; within = h; wide = inl (record { num = found.0; lowest = found.1; is_wide = found.2 }) }

not-small : (z : ℤ) → not (is_short z) ≡ true → 2 ^ 63 ≤ nat_abs z
not-small z h = ltb-false (nat_abs z) (2 ^ 63) (turned (is_short z) h) where
  turned : (b : Bool) → not b ≡ true → b ≡ false
  turned true e = absurd (cc)
  turned false e = refl

-- a variable of a vertex whose floor has no room
pub floor-means : (t : Table) (standings : List Standing) (c : ℕ) → IsTable t → AreStandings t standings → crossed t ≡ None → leaving (moment t standings) ≡ None → c < t.variables → has_wide_floor (coordinate_at (moment t standings) c) ≡ true → IsWideCoordinate (system_of t) (basis (columns t) standings) (outer (moment t standings)) c
floor-means t standings c is are uncrossed settled h wide =
    let m = moment t standings in
    let q = coordinate_at m c in
    let p = point_of m in
    let within : c < width t = omega arith in
    let there = basic-point t standings is are in
    let some = den-positive t standings c is are within in
    let same : int_div_euclid (entry p.nums c) (pos p.den) ≡ int_div_euclid q.num q.den = floor_elsewhere q (entry p.nums c) p.den some there.positive (sym (point-at t standings c is are within)) in
    let large : 2 ^ 63 ≤ nat_abs (int_div_euclid q.num q.den) = not-small (int_div_euclid q.num q.den) wide in
    record {
      point = p;
      is_basic = there;
      within = within;
      wide = inr (record { variable = h; vertex = vertex-meets t standings is are uncrossed settled; is_wide = subst (λ (z : ℤ). 2 ^ 63 ≤ nat_abs z) (sym same) large });
    }

-- a pivot after which an entry has no room
pub row-means : (t : Table) (standings : List Standing) (i c j : ℕ) (side : Side) (wide : ℤ) → IsTable t → i < length t.rows → c < width t → (entry (row_at t.rows i) c ≡ pos 0 → ⊥) → HasWide (pivoted i c t.rows) j wide
    → AreStandings (after_pivot t i c) (restood t standings (basic_at t.basic i) c side) → IsWideRow (width t) t.rows (basis (columns t) (restood t standings (basic_at t.basic i) c side)) wide
row-means t standings i c j side wide is within h some has are =
    let new = restood t standings (basic_at t.basic i) c side in
    let same : width (after_pivot t i c) ≡ width t = ap (λ n. t.variables + n) (length-pivoted i c t.rows) in
    let basic = set t.basic i c in
    let told : in_order (width t) basic ≡ basis (columns t) new =
    ap (λ n. in_order n basic) (sym same) ∙ sym (basis-same (after_pivot t i c) new are) ∙ ap (λ n. basis (range_with_len 0 n) new) same in
    subst (λ (b : List ℕ). IsWideRow (width t) t.rows b wide) told (pivoted-wide t is i c j wide within h some has)

-- the same equations and bounds in other rows
pub record AreAlike (t old : Table) : Type 0 where
  pub space : SameSpace t.rows old.rows
  pub rows : length t.rows ≡ length old.rows
  pub variables : t.variables ≡ old.variables
  pub lower : t.lower ≡ old.lower
  pub upper : t.upper ≡ old.upper

width-alike : (t old : Table) → AreAlike t old → width t ≡ width old
width-alike t old alike = omega (arith, alike.rows, alike.variables)

-- the system with the other rows
abbrev with_rows : Table → List (List ℤ) → System
with_rows t rows = record { variables = t.variables; columns = width t; equations = rows; lower = t.lower; upper = t.upper }

system-alike : (t old : Table) → AreAlike t old → with_rows t old.rows ≡ system_of old
system-alike t old alike =
    let made : ℕ → ℕ → List (Option ℤ) → List (Option ℤ) → System = λ v n ls us. record { variables = v; columns = n; equations = old.rows; lower = ls; upper = us } in
    ap (λ v. made v (width t) t.lower t.upper) alike.variables
    ∙ ap (λ n. made old.variables n t.lower t.upper) (width-alike t old alike)
    ∙ ap (λ ls. made old.variables (width old) ls t.upper) alike.lower
    ∙ ap (made old.variables (width old) old.lower) alike.upper

basic-rows : (t old : Table) (bs : List ℕ) (values : List ℤ) (point : Point) → AreAlike t old → IsBasicPoint (system_of t) bs values point → IsBasicPoint (with_rows t old.rows) bs values point
basic-rows t old bs values point alike h = record {
  is_basis = same-basis (width t) t.rows old.rows bs alike.rows alike.space h.is_basis;
  positive = h.positive;
  width = h.width;
  solves = (same-solutions t.rows old.rows point.nums alike.space).0 h.solves;
  each = h.each;
  stand = h.stand;
  outer = h.outer;
}

pub vertex-moves : (t old : Table) (qs : List Fraction) → AreAlike t old → IsVertex (system_of t) qs → IsVertex (system_of old) qs
vertex-moves t old qs alike h =
    let other : IsVertex (with_rows t old.rows) qs = record {
      basis = h.basis;
      outside = h.outside;
      point = h.point;
      is_basic = basic-rows t old h.basis h.outside h.point alike h.is_basic;
      meets = record { lower = h.meets.lower; upper = h.meets.upper };
      each = h.each;
      positive = h.positive;
      same = h.same;
    } in
    subst (λ (s : System). IsVertex s qs) (system-alike t old alike) other

pub coordinate-moves : (t old : Table) (bs : List ℕ) (values : List ℤ) (c : ℕ) → AreAlike t old → IsWideCoordinate (system_of t) bs values c → IsWideCoordinate (system_of old) bs values c
coordinate-moves t old bs values c alike h =
    let other : IsWideCoordinate (with_rows t old.rows) bs values c = record {
      point = h.point;
      is_basic = basic-rows t old bs values h.point alike h.is_basic;
      within = h.within;
      wide = ⊎_elim (λ n. inl n) (λ f. inr (record { variable = f.variable; vertex = record { lower = f.vertex.lower; upper = f.vertex.upper }; is_wide = f.is_wide })) h.wide;
    } in
    subst (λ (s : System). IsWideCoordinate s bs values c) (system-alike t old alike) other

pub row-moves : (t old : Table) (bs : List ℕ) (wide : ℤ) → AreAlike t old → IsWideRow (width t) t.rows bs wide → IsWideRow (width old) old.rows bs wide
row-moves t old bs wide alike h = subst (λ (n : ℕ). IsWideRow n old.rows bs wide) (width-alike t old alike) (same-wide (width t) t.rows old.rows bs wide alike.rows alike.space h)

pub conflict-moves : (t old : Table) (ms : List ℤ) → AreAlike t old → IsConflict t ms → IsConflict old ms
conflict-moves t old ms alike h =
    let w = width-alike t old alike in
    let constant : ℕ → List (Option ℤ) → List (Option ℤ) → ℤ =
    λ n ls us. dot (map (of_lower ms) (range_with_len 0 n)) (map (λ v. unwrap_or (bound ls v) (pos 0)) (range_with_len 0 n)) -ℤ dot (map (of_upper ms) (range_with_len 0 n)) (map (λ v. unwrap_or (bound us v) (pos 0)) (range_with_len 0 n)) in
    let same : summed_bounds t ms ≡ summed_bounds old ms =
    ap (λ n. constant n t.lower t.upper) w ∙ ap (λ ls. constant (width old) ls t.upper) alike.lower ∙ ap (constant (width old) old.lower) alike.upper in
    record {
      each = h.each ∙ ap (λ n. 2 * n) w;
      natural = h.natural;
      lower = λ v k none. h.lower v (omega (arith, w)) (ap (λ ls. bound ls v) alike.lower ∙ none);
      upper = λ v k none. h.upper v (omega (arith, w)) (ap (λ us. bound us v) alike.upper ∙ none);
      follows = subst (λ (n : ℕ). Follows old.rows (summed n ms)) w (same-follows t.rows old.rows (summed (width t) ms) alike.space h.follows);
      above = subst (λ (z : ℤ). pos 0 <ℤ z) same h.above;
    }
