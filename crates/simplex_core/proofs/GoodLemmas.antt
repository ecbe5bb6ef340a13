-- What each moment of a run keeps: a tableau with the same space and bounds, and standings that fit it.
use Rattle.std.proofs.Common.{◌≡◌, ℕ, suc, zero, List, [], ◌∷◌, refl, ap, sym, ◌∙◌, arith, ◌<◌, ◌+◌, ◌^◌, true, false, Bool, cond, length, set, Option, Some, None, ◌==◌, subst, ⊎_elim}
use Rattle.std.specs.Prelude.{ℤ, pos, not, is_some, ◌||◌}
use Rattle.std.specs.List.{list_all}
use Rattle.std.specs.Ordering.{int_eq}
use Rattle.std.proofs.lemmas.Bool.{cases_eq, eq-eqb, ne_eqb}
use Rattle.std.proofs.lemmas.Int.{ints}
use Rattle.std.proofs.lemmas.List.{get_or-set_other, get_or-set_same, length-set}
use Rattle.lin_atoms.specs.Ratio.{Fraction}
use Rattle.int_rows.specs.Basis.{bound, is_in}
use Rattle.int_rows.specs.Rows.{are_short, entry}
use Rattle.int_rows.specs.Space.{SameSpace}
use Rattle.int_rows.specs.Table.{IsTable, Table, basic_at, pivoted, row_at, width}
use Rattle.int_rows.proofs.Public.{length-pivoted, pivoted-same, pivoted-table, same-reflexive, same-transitive, table-pivots}
use Rattle.simplex_core.specs.Standings.{AreStandings, may_stand}
use Rattle.simplex_core.specs.Run.{Moment, Outcome, Next, Ended, after, after_pivot, broken_at, coordinate_at, crossed, first_moment, is_above, is_basic, is_below, may_enter, may_leave, next, proceed, restood, row_of, run, settled, standing_at, turn}
use Rattle.simplex_core.specs.declared.standing.Standing.{Standing}
use Rattle.simplex_core.specs.declared.standing.Standing.TheVariants.{Basic, AtLower, AtUpper}
use Rattle.simplex_core.specs.declared.turn.Side.{Side}
use Rattle.simplex_core.specs.declared.turn.Side.TheVariants.{Lower, Upper}
use Rattle.simplex_core.specs.declared.turn.Turn.TheVariants.{Pivot}
use Rattle.simplex_core.proofs.MomentLemmas.{first-legal, row_of-at, row_of-within}
use Rattle.simplex_core.proofs.TurnLemmas.{Leaves, enters-outside, enters-some, next-is, turn-pivots}

-- the row of a leaving variable, and the variable
pub record LeavesRow (m : Moment) (i : ℕ) (side : Side) : Type 0 where
  pub within : i < length m.table.rows
  pub column : basic_at m.table.basic i < width m.table
  pub basic : is_basic (standing_at m.standings (basic_at m.table.basic i)) ≡ true
  pub broken : broken_at m (basic_at m.table.basic i) ≡ Some side
  pub least : (d : ℕ) → d < basic_at m.table.basic i → may_leave m d ≡ false

pub leaves-row : (m : Moment) (i : ℕ) (side : Side) → IsTable m.table → AreStandings m.table m.standings → Leaves m i side → LeavesRow m i side
leaves-row m i side table legal l =
    let basic = m.table.basic in
    let inside : is_in basic l.leaver ≡ true = sym (legal.basic l.leaver l.within) ∙ l.basic in
    let within : row_of basic l.leaver < length basic = row_of-within basic l.leaver inside in
    let same : basic_at basic i ≡ l.leaver = ap (basic_at basic) l.row ∙ row_of-at basic l.leaver inside in
    record {
      within = omega (arith, within, l.row, table.basics);
      column = subst (λ c. c < width m.table) (sym same) l.within;
      basic = subst (λ c. is_basic (standing_at m.standings c) ≡ true) (sym same) l.basic;
      broken = subst (λ c. broken_at m c ≡ Some side) (sym same) l.broken;
      least = λ d h. l.least d (omega (arith, h, same));
    }

in-set-cases : (b c q : ℕ) (basic : List ℕ) → (b == q) ≡ false → (c == q) ≡ false → is_in (c ∷ basic) q ≡ is_in (b ∷ basic) q
in-set-cases b c q basic e f = ap (λ t. t || is_in basic q) f ∙ sym (ap (λ t. t || is_in basic q) e)

-- a column that was and is no item stays so
in-set-other : (basic : List ℕ) (i c q : ℕ) → (basic_at basic i == q) ≡ false → (c == q) ≡ false → is_in (set basic i c) q ≡ is_in basic q
in-set-other [] i c q e f = refl
in-set-other (b ∷ basic) zero c q e f = in-set-cases b c q basic e f
in-set-other (b ∷ basic) (suc i) c q e f = ap (λ t. (b == q) || t) (in-set-other basic i c q e f)

or-true : (a b : Bool) → b ≡ true → (a || b) ≡ true
or-true true b h = refl
or-true false b h = h

in-set-same : (basic : List ℕ) (i c : ℕ) → i < length basic → is_in (set basic i c) c ≡ true
in-set-same [] i c h = absurd (omega arith)
in-set-same (b ∷ basic) zero c h = ap (λ t. t || is_in basic c) (eq-eqb c c refl)
in-set-same (b ∷ basic) (suc i) c h = or-true (b == c) (is_in (set basic i c) c) (in-set-same basic i c (omega arith))

or-none : (a b : Bool) → a ≡ false → b ≡ false → (a || b) ≡ false
or-none a b h k = ap (λ t. t || b) h ∙ k

none-in : (basic : List ℕ) (q : ℕ) → ((j : ℕ) → j < length basic → basic_at basic j ≡ q → ⊥) → is_in basic q ≡ false
none-in [] q h = refl
none-in (b ∷ basic) q h = or-none (b == q) (is_in basic q) (ne_eqb b q (λ e. h zero (omega arith) e)) (none-in basic q (λ j less e. h (suc j) (omega arith) e))

-- no basic column is basic in two rows
distinct-basic : (t : Table) (i j : ℕ) → IsTable t → i < length t.rows → j < length t.basic → (j ≡ i → ⊥) → basic_at t.basic j ≡ basic_at t.basic i → ⊥
distinct-basic t i j is h k apart same =
    let solved = is.solved i h in
    let zero_there : entry (row_at t.rows i) (basic_at t.basic i) ≡ pos 0 = ap (entry (row_at t.rows i)) (sym same) ∙ solved.zero j k apart in
    let positive = solved.positive in
    omega (arith, ints, zero_there, positive)

gone-cases : (t : Table) (i c j : ℕ) → IsTable t → i < length t.rows → (c ≡ basic_at t.basic i → ⊥) → j < length (set t.basic i c) → (j ≡ i) → basic_at (set t.basic i c) j ≡ basic_at t.basic i → ⊥
gone-cases t i c j is h other k same e =
    let inside : i < length t.basic = omega (arith, is.basics, h) in
    other (sym (get_or-set_same t.basic i c 0 inside) ∙ ap (basic_at (set t.basic i c)) (sym same) ∙ e)

leaver-gone : (t : Table) (i c : ℕ) → IsTable t → i < length t.rows → (c ≡ basic_at t.basic i → ⊥) → is_in (set t.basic i c) (basic_at t.basic i) ≡ false
leaver-gone t i c is h other =
    none-in (set t.basic i c) (basic_at t.basic i) (λ j k e. ⊎_elim
    (λ same. gone-cases t i c j is h other k same e)
    (λ apart. distinct-basic t i j is h (omega (arith, k, length-set t.basic i c)) apart (sym (get_or-set_other t.basic i j c 0 apart) ∙ e))
    (cases_eq j i))

equal-outside : (b : Bool) → is_basic (cond b AtLower AtUpper) ≡ false
equal-outside true = refl
equal-outside false = refl

pub settled-outside : (lower upper : Option ℤ) (side : Side) → is_basic (settled lower upper side) ≡ false
settled-outside lower upper Lower = refl
settled-outside None upper Upper = refl
settled-outside (Some l) None Upper = refl
settled-outside (Some l) (Some u) Upper = equal-outside (int_eq l u)

equal-stands : (l u : ℤ) (b : Bool) → int_eq l u ≡ b → may_stand (Some l) (Some u) (cond b AtLower AtUpper) ≡ true
equal-stands l u true e = refl
equal-stands l u false e = ap not e

lower-stands : (lower upper : Option ℤ) (q : Fraction) → is_below lower q ≡ true → is_some lower ≡ true
lower-stands None upper q h = cc
lower-stands (Some l) upper q h = refl

upper-stands : (lower upper : Option ℤ) (q : Fraction) → is_above upper q ≡ true → may_stand lower upper (settled lower upper Upper) ≡ true
upper-stands lower None q h = cc
upper-stands None (Some u) q h = refl
upper-stands (Some l) (Some u) q h = equal-stands l u (int_eq l u) refl

broken-stands : (lower upper : Option ℤ) (q : Fraction) (side : Side) (below above : Bool) → is_below lower q ≡ below → is_above upper q ≡ above → cond below (Some Lower) (cond above (Some Upper) None) ≡ Some side → may_stand lower upper (settled lower upper side) ≡ true
broken-stands lower upper q Lower true above b a e = lower-stands lower upper q b
broken-stands lower upper q Upper true above b a e = cc
broken-stands lower upper q Upper false true b a e = upper-stands lower upper q a
broken-stands lower upper q Lower false true b a e = cc
broken-stands lower upper q side false false b a e = cc

-- a column that leaves may stand at the bound that it breaks
settled-stands : (m : Moment) (l : ℕ) (side : Side) → broken_at m l ≡ Some side → may_stand (bound m.table.lower l) (bound m.table.upper l) (settled (bound m.table.lower l) (bound m.table.upper l) side) ≡ true
unfolding broken_at
settled-stands m l side e = broken-stands (bound m.table.lower l) (bound m.table.upper l) (coordinate_at m l) side (is_below (bound m.table.lower l) (coordinate_at m l)) (is_above (bound m.table.upper l) (coordinate_at m l)) refl refl e

-- the standings after a pivot, column by column
pub restood-enterer : (t : Table) (standings : List Standing) (l c : ℕ) (side : Side) → c < length standings → standing_at (restood t standings l c side) c ≡ Basic
restood-enterer t standings l c side h =
    let made = set standings l (settled (bound t.lower l) (bound t.upper l) side) in
    get_or-set_same made c Basic Basic (omega (arith, h, length-set standings l (settled (bound t.lower l) (bound t.upper l) side)))

pub restood-leaver : (t : Table) (standings : List Standing) (l c : ℕ) (side : Side) → l < length standings → (l ≡ c → ⊥) → standing_at (restood t standings l c side) l ≡ settled (bound t.lower l) (bound t.upper l) side
restood-leaver t standings l c side h apart =
    let x = settled (bound t.lower l) (bound t.upper l) side in
    get_or-set_other (set standings l x) c l Basic Basic apart ∙ get_or-set_same standings l x Basic h

pub restood-other : (t : Table) (standings : List Standing) (l c q : ℕ) (side : Side) → (q ≡ l → ⊥) → (q ≡ c → ⊥) → standing_at (restood t standings l c side) q ≡ standing_at standings q
restood-other t standings l c q side first second =
    let x = settled (bound t.lower l) (bound t.upper l) side in
    get_or-set_other (set standings l x) c q Basic Basic second ∙ get_or-set_other standings l q x Basic first

both-ways : (b : Bool) → b ≡ true → b ≡ false → ⊥
both-ways b t f = cc

-- what is known of a pivot
pub record PivotsRow (m : Moment) (i c : ℕ) (side : Side) : Type 0 where
  pub row : LeavesRow m i side
  pub within : c < width m.table
  pub outside : is_basic (standing_at m.standings c) ≡ false
  pub some : entry (row_at m.table.rows i) c ≡ pos 0 → ⊥
  pub apart : c ≡ basic_at m.table.basic i → ⊥
  pub enters : may_enter m i side c ≡ true
  pub least : (d : ℕ) → d < c → may_enter m i side d ≡ false
  pub ordered : crossed m.table ≡ None

pub pivots-row : (m : Moment) (i c : ℕ) (side : Side) → IsTable m.table → AreStandings m.table m.standings → turn m ≡ Pivot i c side → PivotsRow m i c side
pivots-row m i c side table legal e =
    let p = turn-pivots m i c side e in
    let row = leaves-row m i side table legal p.leaves in
    let outside = enters-outside m i c side p.enters in
    record {
      row = row;
      within = p.within;
      outside = outside;
      some = enters-some m i c side p.enters;
      apart = λ same. both-ways (is_basic (standing_at m.standings c)) (subst (λ k. is_basic (standing_at m.standings k) ≡ true) (sym same) row.basic) outside;
      enters = p.enters;
      least = p.least;
      ordered = p.ordered;
    }

basic-cases : (m : Moment) (i c q : ℕ) (side : Side) → IsTable m.table → AreStandings m.table m.standings → PivotsRow m i c side → q < width m.table → is_basic (standing_at (restood m.table m.standings (basic_at m.table.basic i) c side) q) ≡ is_in (set m.table.basic i c) q
basic-cases m i c q side table legal p h =
    let l = basic_at m.table.basic i in
    let inside : i < length m.table.basic = omega (arith, table.basics, p.row.within) in
    let l_long : l < length m.standings = omega (arith, legal.each, p.row.column) in
    ⊎_elim
    (λ e. subst (λ k. is_basic (standing_at (restood m.table m.standings l c side) k) ≡ is_in (set m.table.basic i c) k) (sym e)
    (ap is_basic (restood-enterer m.table m.standings l c side (omega (arith, legal.each, p.within))) ∙ sym (in-set-same m.table.basic i c inside)))
    (λ other. ⊎_elim
    (λ e. subst (λ k. is_basic (standing_at (restood m.table m.standings l c side) k) ≡ is_in (set m.table.basic i c) k) (sym e)
    (ap is_basic (restood-leaver m.table m.standings l c side l_long (λ s. p.apart (sym s))) ∙ settled-outside (bound m.table.lower l) (bound m.table.upper l) side ∙ sym (leaver-gone m.table i c table p.row.within p.apart)))
    (λ third. ap is_basic (restood-other m.table m.standings l c q side third other) ∙ legal.basic q h ∙ sym (in-set-other m.table.basic i c q (ne_eqb l q (λ s. third (sym s))) (ne_eqb c q (λ s. other (sym s)))))
    (cases_eq q l))
    (cases_eq q c)

stand-cases : (m : Moment) (i c q : ℕ) (side : Side) → AreStandings m.table m.standings → PivotsRow m i c side → q < width m.table → may_stand (bound m.table.lower q) (bound m.table.upper q) (standing_at (restood m.table m.standings (basic_at m.table.basic i) c side) q) ≡ true
stand-cases m i c q side legal p h =
    let l = basic_at m.table.basic i in
    let l_long : l < length m.standings = omega (arith, legal.each, p.row.column) in
    let P : ℕ → Type 0 = λ k. may_stand (bound m.table.lower k) (bound m.table.upper k) (standing_at (restood m.table m.standings l c side) k) ≡ true in
    ⊎_elim
    (λ e. subst P (sym e) (ap (may_stand (bound m.table.lower c) (bound m.table.upper c)) (restood-enterer m.table m.standings l c side (omega (arith, legal.each, p.within)))))
    (λ other. ⊎_elim
    (λ e. subst P (sym e) (ap (may_stand (bound m.table.lower l) (bound m.table.upper l)) (restood-leaver m.table m.standings l c side l_long (λ s. p.apart (sym s))) ∙ settled-stands m l side p.row.broken))
    (λ third. ap (may_stand (bound m.table.lower q) (bound m.table.upper q)) (restood-other m.table m.standings l c q side third other) ∙ legal.stand q h)
    (cases_eq q l))
    (cases_eq q c)

width-after : (t : Table) (i c : ℕ) → width (after_pivot t i c) ≡ width t
width-after t i c = ap (λ n. t.variables + n) (length-pivoted i c t.rows)

-- the standings after a pivot fit the tableau after it, whether it has room or not
pub restood-legal : (m : Moment) (i c : ℕ) (side : Side) → IsTable m.table → AreStandings m.table m.standings → PivotsRow m i c side → AreStandings (after_pivot m.table i c) (restood m.table m.standings (basic_at m.table.basic i) c side)
restood-legal m i c side table legal p =
    let l = basic_at m.table.basic i in
    let same = width-after m.table i c in
    let x = settled (bound m.table.lower l) (bound m.table.upper l) side in
    record {
      each = length-set (set m.standings l x) c Basic ∙ length-set m.standings l x ∙ legal.each ∙ sym same;
      few = omega (arith, legal.few, same);
      basic = λ q h. basic-cases m i c q side table legal p (omega (arith, h, same));
      stand = λ q h. stand-cases m i c q side legal p (omega (arith, h, same));
    }

-- what a moment keeps of the tableau that the run began with
pub record IsGood (t : Table) (m : Moment) : Type 0 where
  pub table : IsTable m.table
  pub legal : AreStandings m.table m.standings
  pub variables : m.table.variables ≡ t.variables
  pub count : length m.table.rows ≡ length t.rows
  pub lower : m.table.lower ≡ t.lower
  pub upper : m.table.upper ≡ t.upper
  pub space : SameSpace t.rows m.table.rows

good-after : (t : Table) (m : Moment) (i c : ℕ) (side : Side) → IsGood t m → turn m ≡ Pivot i c side → list_all are_short (pivoted i c m.table.rows) ≡ true → IsGood t (after m i c side)
good-after t m i c side good turns small =
    let p = pivots-row m i c side good.table good.legal turns in
    record {
      table = pivoted-table m.table i c good.table p.row.within p.within p.some small;
      legal = restood-legal m i c side good.table good.legal p;
      variables = good.variables;
      count = length-pivoted i c m.table.rows ∙ good.count;
      lower = good.lower;
      upper = good.upper;
      space = same-transitive t.rows m.table.rows (pivoted i c m.table.rows) good.space (pivoted-same i c m.table.rows (table-pivots m.table i c good.table p.row.within p.within p.some) p.some);
    }

pub good-next : (t : Table) (m n : Moment) → IsGood t m → next m ≡ Next n → IsGood t n
good-next t m n good e =
    let is = next-is m n e in
    subst (IsGood t) (sym is.moment) (good-after t m is.row is.column is.side good is.turns is.short)

pub good-first : (t : Table) → IsTable t → width t < 2 ^ 32 → IsGood t (first_moment t)
good-first t table few = record { table = table; legal = first-legal t few; variables = refl; count = refl; lower = refl; upper = refl; space = same-reflexive t.rows }

proceed-cases : (t : Table) (o : Outcome) (n : Moment) → ((m : Moment) → o ≡ Next m → IsGood t m) → proceed o ≡ Next n → IsGood t n
proceed-cases t (Next m) n before e = good-next t m n (before m refl) e
proceed-cases t (Ended turn) n before e = absurd (cc)

-- each moment of the run is good
pub run-good : (t : Table) → IsTable t → width t < 2 ^ 32 → (k : ℕ) (m : Moment) → run t k ≡ Next m → IsGood t m
unfolding run
run-good t table few zero m e = subst (IsGood t) (let same : first_moment t ≡ m = cc in same) (good-first t table few)
run-good t table few (suc k) m e = proceed-cases t (run t k) m (run-good t table few k) e
