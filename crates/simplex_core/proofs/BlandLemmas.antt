-- A row of one moment at the values of another (Bland 1977): where the greatest variable that comes and goes enters at the one and left at the other, the row can't hold at both.
use Rattle.std.proofs.Common.{◌≡◌, ℕ, refl, arith, ◌<◌, true, false, Bool, Option, Some, None}
use Rattle.std.specs.Prelude.{ℤ, pos, ◌&&◌, ◌*ℤ◌, ◌<ℤ◌, ◌≤ℤ◌, is_some}
use Rattle.std.proofs.lemmas.Int.{ints}
use Rattle.int_rows.specs.Basis.{bound}
use Rattle.int_rows.specs.Rows.{entry}
use Rattle.int_rows.specs.Table.{IsTable, width}
use Rattle.simplex_core.specs.Standings.{AreStandings}
use Rattle.simplex_core.specs.Run.{Moment, broken_at, coordinate_at, crossed, is_basic, may_leave, standing_at, stood_at}
use Rattle.simplex_core.specs.declared.turn.Side.{Side}
use Rattle.simplex_core.specs.declared.turn.Side.TheVariants.{Lower, Upper}
use Rattle.simplex_core.proofs.FractionLemmas.{keeps}
use Rattle.simplex_core.proofs.GapLemmas.{scaled-over, scaled-under}
use Rattle.simplex_core.proofs.PointLemmas.{common-some, den-positive, dens-positive, point-at, point-outer, point_of}
use Rattle.simplex_core.proofs.StuckLemmas.{own-high, own-low}
use Rattle.simplex_core.proofs.VertexLemmas.{fine, scaled-above, scaled-below, stands-above, stands-below, within-lower, within-upper}

-- the point of a moment: its numerators and its denominator
abbrev pub at : Moment → ℕ → ℤ
at m c = entry (point_of m).nums c

abbrev pub den : Moment → ℕ
den m = (point_of m).den

pub den-some : (m : Moment) → IsTable m.table → AreStandings m.table m.standings → 0 < den m
den-some m table legal = common-some _ (dens-positive m.table m.standings table legal)

none-broken : (m : Moment) (c : ℕ) → is_basic (standing_at m.standings c) ≡ true → may_leave m c ≡ false → broken_at m c ≡ None
none-broken m c basic e = none (broken_at m c) (and-false (is_basic (standing_at m.standings c)) (is_some (broken_at m c)) basic e) where
  and-false : (a b : Bool) → a ≡ true → (a && b) ≡ false → b ≡ false
  and-false true b h k = k
  and-false false b h k = absurd (cc)

  none : (o : Option Side) → is_some o ≡ false → o ≡ None
  none None h = refl
  none (Some x) h = absurd (cc)

-- a column that isn't outside its bounds is at least its lower bound, and at most its upper one
low-basic : (m : Moment) (c : ℕ) (l : ℤ) → IsTable m.table → AreStandings m.table m.standings → c < width m.table → broken_at m c ≡ None → bound m.table.lower c ≡ Some l → (l *ℤ pos (den m)) ≤ℤ at m c
low-basic m c l table legal h none e =
    scaled-below (coordinate_at m c) l (at m c) (den m) (den-positive m.table m.standings c table legal h) (within-lower m.table m.standings c l none e) (point-at m.table m.standings c table legal h)

high-basic : (m : Moment) (c : ℕ) (u : ℤ) → IsTable m.table → AreStandings m.table m.standings → c < width m.table → broken_at m c ≡ None → bound m.table.upper c ≡ Some u → at m c ≤ℤ (u *ℤ pos (den m))
high-basic m c u table legal h none e =
    scaled-above (coordinate_at m c) u (at m c) (den m) (den-positive m.table m.standings c table legal h) (within-upper m.table m.standings c u none e) (point-at m.table m.standings c table legal h)

low-outer : (m : Moment) (c : ℕ) (l : ℤ) → IsTable m.table → AreStandings m.table m.standings → c < width m.table → crossed m.table ≡ None → is_basic (standing_at m.standings c) ≡ false → bound m.table.lower c ≡ Some l → (l *ℤ pos (den m)) ≤ℤ at m c
low-outer m c l table legal h ordered out e =
    let above = stands-above (bound m.table.lower c) (bound m.table.upper c) (standing_at m.standings c) l e (legal.stand c h) out (fine m.table c ordered h) in
    let grown = keeps l (stood_at m c) (den m) above in
    let here = point-outer m.table m.standings c table legal h out in
    omega (arith, ints, grown, here)

high-outer : (m : Moment) (c : ℕ) (u : ℤ) → IsTable m.table → AreStandings m.table m.standings → c < width m.table → crossed m.table ≡ None → is_basic (standing_at m.standings c) ≡ false → bound m.table.upper c ≡ Some u → at m c ≤ℤ (u *ℤ pos (den m))
high-outer m c u table legal h ordered out e =
    let below = stands-below (bound m.table.lower c) (bound m.table.upper c) (standing_at m.standings c) u e (legal.stand c h) out (fine m.table c ordered h) in
    let grown = keeps (stood_at m c) u (den m) below in
    let here = point-outer m.table m.standings c table legal h out in
    omega (arith, ints, grown, here)

low-cases : (m : Moment) (c : ℕ) (l : ℤ) (b : Bool) → is_basic (standing_at m.standings c) ≡ b → IsTable m.table → AreStandings m.table m.standings → c < width m.table → crossed m.table ≡ None → may_leave m c ≡ false → bound m.table.lower c ≡ Some l → (l *ℤ pos (den m)) ≤ℤ at m c
low-cases m c l true e table legal h ordered stays k = low-basic m c l table legal h (none-broken m c e stays) k
low-cases m c l false e table legal h ordered stays k = low-outer m c l table legal h ordered e k

pub low : (m : Moment) (c : ℕ) (l : ℤ) → IsTable m.table → AreStandings m.table m.standings → c < width m.table → crossed m.table ≡ None → may_leave m c ≡ false → bound m.table.lower c ≡ Some l → (l *ℤ pos (den m)) ≤ℤ at m c
low m c l table legal h ordered stays k = low-cases m c l (is_basic (standing_at m.standings c)) refl table legal h ordered stays k

high-cases : (m : Moment) (c : ℕ) (u : ℤ) (b : Bool) → is_basic (standing_at m.standings c) ≡ b → IsTable m.table → AreStandings m.table m.standings → c < width m.table → crossed m.table ≡ None → may_leave m c ≡ false → bound m.table.upper c ≡ Some u → at m c ≤ℤ (u *ℤ pos (den m))
high-cases m c u true e table legal h ordered stays k = high-basic m c u table legal h (none-broken m c e stays) k
high-cases m c u false e table legal h ordered stays k = high-outer m c u table legal h ordered e k

pub high : (m : Moment) (c : ℕ) (u : ℤ) → IsTable m.table → AreStandings m.table m.standings → c < width m.table → crossed m.table ≡ None → may_leave m c ≡ false → bound m.table.upper c ≡ Some u → at m c ≤ℤ (u *ℤ pos (den m))
high m c u table legal h ordered stays k = high-cases m c u (is_basic (standing_at m.standings c)) refl table legal h ordered stays k

-- a column that breaks a bound is below, or above, it
pub under : (m : Moment) (c : ℕ) → IsTable m.table → AreStandings m.table m.standings → c < width m.table → broken_at m c ≡ Some Lower → (l : ℤ) × (bound m.table.lower c ≡ Some l) × (at m c <ℤ (l *ℤ pos (den m)))
under m c table legal h e =
    let told = own-low m.table m.standings c e in
    (told.0, told.1, scaled-under (coordinate_at m c) told.0 (at m c) (den m) (den-positive m.table m.standings c table legal h) (den-some m table legal) told.2 (point-at m.table m.standings c table legal h))

pub over : (m : Moment) (c : ℕ) → IsTable m.table → AreStandings m.table m.standings → c < width m.table → broken_at m c ≡ Some Upper → (u : ℤ) × (bound m.table.upper c ≡ Some u) × ((u *ℤ pos (den m)) <ℤ at m c)
over m c table legal h e =
    let told = own-high m.table m.standings c e in
    (told.0, told.1, scaled-over (coordinate_at m c) told.0 (at m c) (den m) (den-positive m.table m.standings c table legal h) (den-some m table legal) told.2 (point-at m.table m.standings c table legal h))
