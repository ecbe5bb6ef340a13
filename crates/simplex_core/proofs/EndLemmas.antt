-- What an answer at the end of a run says of the tableau that was handed in.
use Rattle.std.proofs.Common.{◌≡◌, ℕ, List, ap, sym, ◌∙◌, arith, ◌<◌, ◌^◌, true, false, Bool, cond, get_or, refl, Some, None, subst, ⊎_elim, take, Result, Ok, Err, IfOk}
use Rattle.std.specs.Prelude.{ℤ, pos, not, nat_abs, ◌*ℤ◌, ◌<ℤ◌}
use Rattle.std.specs.Int.{int_div_euclid}
use Rattle.std.specs.List.{list_all}
use Rattle.std.proofs.lemmas.Int.{ints}
use Rattle.std.proofs.lemmas.List.{get_or-take, length-take-le}
use Rattle.lin_atoms.specs.Linear.{is_short}
use Rattle.lin_atoms.specs.Ratio.{Fraction}
use Rattle.lin_atoms.proofs.Public.{positive}
use Rattle.base.specs.declared.memory.Memory.{Memory}
use Rattle.int_rows.specs.Basis.{IsWideCoordinate, IsWideRow}
use Rattle.int_rows.specs.Rows.{are_short}
use Rattle.int_rows.specs.Space.{SameSpace}
use Rattle.int_rows.specs.Table.{IsTable, Table, pivoted, width}
use Rattle.int_rows.proofs.Public.{same-symmetric}
use Rattle.simplex_core.specs.Answer.{AreCoordinates, IsEnd, IsRun, basis, crossing, multipliers, outer}
use Rattle.simplex_core.specs.Standings.{AreStandings}
use Rattle.simplex_core.specs.Meaning.{HasSameBounds, HasShortFloors, IsConflict, Means, system_of}
use Rattle.simplex_core.specs.Run.{Moment, Next, Ended, after, columns, coordinate_at, coordinates, has_wide_floor, is_wide, next, outcome, turn, wide, wide_floor}
use Rattle.simplex_core.specs.declared.answer.Feasible.{Feasible}
use Rattle.simplex_core.specs.declared.answer.Feasible.TheVariants.{Vertex as AtVertex, Conflict as InConflict, Wide as IsWide}
use Rattle.simplex_core.specs.declared.answer.WideEvidence.TheVariants.{Row, Coordinate}
use Rattle.simplex_core.specs.declared.turn.Side.{Side}
use Rattle.simplex_core.specs.declared.turn.Turn.{Turn}
use Rattle.simplex_core.specs.declared.turn.Turn.TheVariants.{Crossed, Wide, Vertex, Conflict, Pivot}
use Rattle.simplex_core.proofs.FractionLemmas.{floor_elsewhere}
use Rattle.simplex_core.proofs.GoodLemmas.{IsGood, leaves-row, pivots-row, restood-legal, run-good}
use Rattle.simplex_core.proofs.ConflictLemmas.{crossed-means}
use Rattle.simplex_core.proofs.MeansLemmas.{AreAlike, conflict-moves, coordinate-moves, floor-means, row-means, row-moves, vertex-moves, wide-means}
use Rattle.simplex_core.proofs.MomentLemmas.{coordinates-at, coordinates-length}
use Rattle.simplex_core.proofs.PointLemmas.{den-positive}
use Rattle.simplex_core.proofs.RangeLemmas.{position-none, position-some}
use Rattle.simplex_core.proofs.StuckLemmas.{stuck-means}
use Rattle.simplex_core.proofs.TurnLemmas.{turn-conflicts, turn-crosses, turn-vertex, turn-wides}
use Rattle.simplex_core.proofs.VertexLemmas.{vertex-means}

ended-cases : (m : Moment) (i c : ℕ) (side : Side) (x : Turn) (b : Bool) → cond b (Next (after m i c side)) (Ended (Pivot i c side)) ≡ Ended x → Pivot i c side ≡ x
ended-cases m i c side x true e = absurd (cc)
ended-cases m i c side x false e = cc

outcome-ended : (m : Moment) (t x : Turn) → outcome m t ≡ Ended x → t ≡ x
outcome-ended m (Crossed c) x e = cc
outcome-ended m (Wide c) x e = cc
outcome-ended m Vertex x e = cc
outcome-ended m (Conflict i side) x e = cc
outcome-ended m (Pivot i c side) x e = ended-cases m i c side x (list_all are_short (pivoted i c m.table.rows)) e

-- the run ends at a moment with what the moment is
pub end-turn : (m : Moment) (x : Turn) → next m ≡ Ended x → turn m ≡ x
end-turn m x e = outcome-ended m (turn m) x e

pub good-alike : (t : Table) (m : Moment) → IsGood t m → AreAlike m.table t
good-alike t m good = record { space = same-symmetric t.rows m.table.rows good.space; rows = good.count; variables = good.variables; lower = good.lower; upper = good.upper }

wide-at : (m : Moment) (c : ℕ) → wide m ≡ Some c → (c < width m.table) × (is_wide (coordinate_at m c) ≡ true)
unfolding wide
wide-at m c e =
    let d : Fraction = record { num = pos 0; den = pos 1 } in
    let found = position-some is_wide (coordinates m) c d e in
    let within : c < width m.table = omega (arith, found.0, coordinates-length m) in
    (within, ap is_wide (sym (coordinates-at m c d within)) ∙ found.1)

floor-at : (m : Moment) (c : ℕ) → wide_floor m ≡ Some c → (c < m.table.variables) × (has_wide_floor (coordinate_at m c) ≡ true)
unfolding wide_floor
floor-at m c e =
    let d : Fraction = record { num = pos 0; den = pos 1 } in
    let count = coordinates-length m in
    let found = position-some has_wide_floor (take m.table.variables (coordinates m)) c d e in
    let size = length-take-le m.table.variables (coordinates m) (omega (arith, count)) in
    let within : c < m.table.variables = omega (arith, found.0, size) in
    let same : get_or (take m.table.variables (coordinates m)) c d ≡ get_or (coordinates m) c d = get_or-take m.table.variables (coordinates m) c d within in
    (within, ap has_wide_floor (sym (coordinates-at m c d (omega (arith, within)))) ∙ ap has_wide_floor (sym same) ∙ found.1)

coordinate-means : (m : Moment) (c : ℕ) → IsTable m.table → AreStandings m.table m.standings → turn m ≡ Wide c → IsWideCoordinate (system_of m.table) (basis (columns m.table) m.standings) (outer m) c
coordinate-means m c table legal e =
    ⊎_elim
    (λ w. let at = wide-at m c w in wide-means m.table m.standings c table legal at.0 at.1)
    (λ f. let at = floor-at m c f.2 in floor-means m.table m.standings c table legal f.0 f.1 at.0 at.1)
    (turn-wides m c e)

conflict-means : (m : Moment) (i : ℕ) (side : Side) → IsTable m.table → AreStandings m.table m.standings → turn m ≡ Conflict i side → IsConflict m.table (multipliers m.table i side)
conflict-means m i side table legal e =
    let c = turn-conflicts m i side e in
    let row = leaves-row m i side table legal c.leaves in
    stuck-means m.table m.standings i side (record { table = table; legal = legal; row = row.within; broken = row.broken; none = c.none })

-- an answer at a moment says what it means of that moment's tableau, and so of the one that the run began with
pub end-means : (t : Table) (m : Moment) (answer : Feasible) → IsGood t m → IsEnd m answer → Means t answer
end-means t m (AtVertex ratios) good is =
    let v = turn-vertex m (end-turn m Vertex is.0) in
    vertex-moves m.table t ratios.items (good-alike t m good) (vertex-means m.table m.standings ratios.items good.table good.legal v.ordered v.within is.1)
end-means t m (InConflict ms) good is =
    ⊎_elim
    (λ x. subst (IsConflict t) (sym x.2) (conflict-moves m.table t (crossing m.table x.0) (good-alike t m good) (crossed-means m.table x.0 good.table (turn-crosses m x.0 (end-turn m (Crossed x.0) x.1)))))
    (λ y. subst (IsConflict t) (sym y.3) (conflict-moves m.table t (multipliers m.table y.0 y.1) (good-alike t m good) (conflict-means m y.0 y.1 good.table good.legal (end-turn m (Conflict y.0 y.1) y.2))))
    is
end-means t m (IsWide (Row columns_in wide)) good is =
    let turns = end-turn m (Pivot is.0 is.1 is.2) is.4 in
    let p = pivots-row m is.0 is.1 is.2 good.table good.legal turns in
    subst (λ (b : List ℕ). IsWideRow (width t) t.rows b wide) (sym is.5) (row-moves m.table t _ wide (good-alike t m good) (row-means m.table m.standings is.0 is.1 is.3 is.2 wide good.table p.row.within p.within p.some is.6 (restood-legal m is.0 is.1 is.2 good.table good.legal p)))
end-means t m (IsWide (Coordinate columns_in outside c)) good is =
    subst (λ (b : List ℕ). IsWideCoordinate (system_of t) b outside.items c) (sym is.1)
    (subst (λ (o : List ℤ). IsWideCoordinate (system_of t) (basis (columns m.table) m.standings) o c) (sym is.2)
    (coordinate-moves m.table t (basis (columns m.table) m.standings) (outer m) c (good-alike t m good) (coordinate-means m c good.table good.legal (end-turn m (Wide c) is.0))))

shown-short : (b : Bool) → not b ≡ false → b ≡ true
shown-short true h = refl
shown-short false h = absurd (cc)

-- the floor of a variable that is no slack, at a vertex
floor-short : (m : Moment) (v : ℕ) → IsTable m.table → wide_floor m ≡ None → v < m.table.variables → is_short (int_div_euclid (coordinate_at m v).num (coordinate_at m v).den) ≡ true
unfolding wide_floor
floor-short m v is none h =
    let d : Fraction = record { num = pos 0; den = pos 1 } in
    let count = coordinates-length m in
    let size = length-take-le m.table.variables (coordinates m) (omega (arith, count)) in
    let same : get_or (take m.table.variables (coordinates m)) v d ≡ coordinate_at m v = get_or-take m.table.variables (coordinates m) v d h ∙ coordinates-at m v d (omega (arith, h)) in
    shown-short _ (ap has_wide_floor (sym same) ∙ position-none has_wide_floor (take m.table.variables (coordinates m)) v d none (omega (arith, h, size)))

fraction-short : (q r : Fraction) → pos 0 <ℤ q.den → pos 0 <ℤ r.den → r.num *ℤ q.den ≡ q.num *ℤ r.den → is_short (int_div_euclid q.num q.den) ≡ true → is_short (int_div_euclid r.num r.den) ≡ true
fraction-short q r some more same h =
    let e = nat_abs r.den in
    let den : r.den ≡ pos e = positive r.den more in
    let some' : 0 < e = omega (arith, ints) in
    let turned : q.num *ℤ pos e ≡ r.num *ℤ q.den = ap (λ z. q.num *ℤ z) (sym den) ∙ sym same in
    ap (λ z. is_short (int_div_euclid r.num z)) den ∙ ap is_short (floor_elsewhere q r.num e some some' turned) ∙ h

vertex-floors : (t : Table) (m : Moment) (qs : List Fraction) → IsGood t m → next m ≡ Ended Vertex → AreCoordinates m qs → (v : ℕ) (d : Fraction) → v < t.variables → is_short (int_div_euclid (get_or qs v d).num (get_or qs v d).den) ≡ true
vertex-floors t m qs good is are v d h =
    let at = turn-vertex m (end-turn m Vertex is) in
    let here : v < m.table.variables = omega (arith, h, good.variables) in
    let within : v < width m.table = omega (arith, here) in
    fraction-short (coordinate_at m v) (get_or qs v d) (den-positive m.table m.standings v good.table good.legal within) (are.positive v d within) (are.same v d within) (floor-short m v good.table at.floors here)

-- at a vertex the floors of the variables that are no slacks have room
floors-end : (t : Table) (m : Moment) (answer : Feasible) → IsGood t m → IsEnd m answer → HasShortFloors t answer
floors-end t m (AtVertex ratios) good is = vertex-floors t m ratios.items good is.0 is.1
floors-end t m (InConflict ms) good is = tt
floors-end t m (IsWide evidence) good is = tt

result-means : (t : Table) (last : Moment) (r : Result Feasible Memory) → IsGood t last → IfOk r (IsEnd last) → IfOk r (Means t) × IfOk r (HasShortFloors t)
result-means t last (Ok answer) good is = (end-means t last answer good is, floors-end t last answer good is)
result-means t last (Err stop) good is = (tt, tt)

-- what a run that was followed says
pub run-means : (old new : Table) (r : Result Feasible Memory) → IsTable old → width old < 2 ^ 32 → IsRun old new r → IfOk r (Means old) × IfOk r (HasShortFloors old) × SameSpace old.rows new.rows × HasSameBounds old new
run-means old new r table few is =
    let good = run-good old table few is.steps is.last is.reached in
    let told = result-means old is.last r good is.ends in (
      told.0,
      told.1,
      subst (λ (t : Table). SameSpace old.rows t.rows) (sym is.table) good.space,
      subst (HasSameBounds old) (sym is.table) (record { variables = good.variables; lower = good.lower; upper = good.upper }),
    )
