-- A row at the values of two moments: the greatest variable that comes and goes left at the one and enters at the other.
use Rattle.std.proofs.Common.{◌≡◌, ℕ, suc, zero, refl, ap, sym, ◌∙◌, arith, ◌<◌, ◌+◌, true, false, Bool, cond, [], Option, Some, None, subst, ⊎_elim}
use Rattle.std.specs.Prelude.{ℤ, pos, neg_ℤ, int_lt, not, ◌+ℤ◌, ◌-ℤ◌, ◌*ℤ◌, ◌<ℤ◌, ◌≤ℤ◌}
use Rattle.std.specs.Option.{option_map_or}
use Rattle.std.specs.Ordering.{int_eq}
use Rattle.std.proofs.Math.IntN.{*ℤ_comm, zero-*ℤ}
use Rattle.std.proofs.lemmas.Bool.{and_parts, cases_order}
use Rattle.std.proofs.lemmas.Int.{ints}
use Rattle.base.proofs.Public.{*ℤ-+ℤ, *ℤ_assoc, +ℤ-*ℤ, neg_ℤ-*ℤ}
use Rattle.int_rows.specs.Basis.{bound}
use Rattle.int_rows.specs.Rows.{entry}
use Rattle.int_rows.specs.Space.{SameSpace}
use Rattle.int_rows.specs.Table.{IsTable, basic_at, row_at, width}
use Rattle.int_rows.proofs.Public.{same-solutions}
use Rattle.simplex_core.specs.Standings.{AreStandings}
use Rattle.simplex_core.specs.Run.{Moment, broken_at, crossed, is_basic, may_enter, may_leave, seen_from, settled, standing_at, stood, stood_at}
use Rattle.simplex_core.specs.declared.standing.Standing.TheVariants.{AtLower, AtUpper}
use Rattle.simplex_core.specs.declared.turn.Side.{Side}
use Rattle.simplex_core.specs.declared.turn.Side.TheVariants.{Lower, Upper}
use Rattle.simplex_core.proofs.BlandLemmas.{at, den, den-some, high, low, over, under}
use Rattle.simplex_core.proofs.FractionLemmas.{keeps}
use Rattle.simplex_core.proofs.GapLemmas.{gap, gap-above, gap-below, gap-less, gap-more, gap-none, gap-over, gap-under, no-gap, no-product, other-sign, other-strict, same-sign, same-strict, signs, weakly}
use Rattle.simplex_core.proofs.GoodLemmas.{LeavesRow}
use Rattle.simplex_core.proofs.MomentLemmas.{helps-above, helps-below}
use Rattle.simplex_core.proofs.PointLemmas.{nums-length, other-zero, point-outer, point-solves, point_of}
use Rattle.simplex_core.proofs.StuckLemmas.{rise-stop, sink-stop}
use Rattle.simplex_core.proofs.SumLemmas.{dot-total, total, total-but, total-minus, total-neg, total-same, total-zero}

-- at the moment p the variable leaves, at q it enters by the row, and it is the greatest that comes and goes
pub record Clash (p q : Moment) (r i : ℕ) (side left : Side) : Type 0 where
  pub p_table : IsTable p.table
  pub p_legal : AreStandings p.table p.standings
  pub q_table : IsTable q.table
  pub q_legal : AreStandings q.table q.standings
  pub lower : p.table.lower ≡ q.table.lower
  pub upper : p.table.upper ≡ q.table.upper
  pub columns : width p.table ≡ width q.table
  pub space : SameSpace p.table.rows q.table.rows
  pub p_ordered : crossed p.table ≡ None
  pub within : r < width q.table
  pub broken : broken_at p r ≡ Some left
  pub p_least : (d : ℕ) → d < r → may_leave p d ≡ false
  pub row : LeavesRow q i side
  pub enters : may_enter q i side r ≡ true
  pub q_least : (d : ℕ) → d < r → may_enter q i side d ≡ false
  pub outside : is_basic (standing_at q.standings r) ≡ false
  pub stands : standing_at q.standings r ≡ settled (bound q.table.lower r) (bound q.table.upper r) left
  pub later : (c : ℕ) → r < c → c < width q.table → standing_at p.standings c ≡ standing_at q.standings c
  pub leaver : basic_at q.table.basic i < r

-- the column's entry in the row, with the sign of the side, and how much greater its value is at p
abbrev factor : Moment → ℕ → Side → ℕ → ℤ
factor q i side c = seen_from side (entry (row_at q.table.rows i) c)

abbrev apart : Moment → Moment → ℕ → ℤ
apart p q c = gap (at p c) (den p) (at q c) (den q)

abbrev part : Moment → Moment → ℕ → Side → ℕ → ℤ
part p q i side c = factor q i side c *ℤ apart p q c

seen-zero : (side : Side) (a : ℤ) → a ≡ pos 0 → seen_from side a ≡ pos 0
seen-zero Lower a e = e
seen-zero Upper a e = ap neg_ℤ e

lower-moves : (p q : Moment) (c : ℕ) (l : ℤ) → p.table.lower ≡ q.table.lower → bound q.table.lower c ≡ Some l → bound p.table.lower c ≡ Some l
lower-moves p q c l e h = ap (λ ls. bound ls c) e ∙ h

upper-moves : (p q : Moment) (c : ℕ) (u : ℤ) → p.table.upper ≡ q.table.upper → bound q.table.upper c ≡ Some u → bound p.table.upper c ≡ Some u
upper-moves p q c u e h = ap (λ us. bound us c) e ∙ h

above-at : (m : Moment) (c : ℕ) (u : ℤ) → at m c ≡ stood_at m c *ℤ pos (den m) → u ≤ℤ stood_at m c → (u *ℤ pos (den m)) ≤ℤ at m c
above-at m c u here h = let grown = keeps u (stood_at m c) (den m) h in omega (arith, ints, here, grown)

below-at : (m : Moment) (c : ℕ) (l : ℤ) → at m c ≡ stood_at m c *ℤ pos (den m) → stood_at m c ≤ℤ l → at m c ≤ℤ (l *ℤ pos (den m))
below-at m c l here h = let grown = keeps (stood_at m c) l (den m) h in omega (arith, ints, here, grown)

-- a column before r that stands outside the basis at q
outer-part : (p q : Moment) (r i c : ℕ) (side left : Side) → Clash p q r i side left → c < r → is_basic (standing_at q.standings c) ≡ false → pos 0 ≤ℤ part p q i side c
outer-part p q r i c side left k less out =
    let a = factor q i side c in
    let h : c < width q.table = omega (arith, less, k.within) in
    let there : c < width p.table = omega (arith, h, k.columns) in
    let here = point-outer q.table q.standings c k.q_table k.q_legal h out in
    ⊎_elim
    (λ below.
    let stop = rise-stop q.table q.standings c out (sym (helps-below q a c below) ∙ k.q_least c less) in
    let first = high p c stop.0 k.p_table k.p_legal there k.p_ordered (k.p_least c less) (upper-moves p q c stop.0 k.upper stop.1) in
    other-sign a (apart p q c) below (gap-below (at p c) (at q c) stop.0 (den p) (den q) first (above-at q c stop.0 here stop.2)))
    (λ rest. ⊎_elim (λ none. no-product a (apart p q c) none) (λ above.
    let stop = sink-stop q.table q.standings c out (sym (helps-above q a c above) ∙ k.q_least c less) in
    let first = low p c stop.0 k.p_table k.p_legal there k.p_ordered (k.p_least c less) (lower-moves p q c stop.0 k.lower stop.1) in
    same-sign a (apart p q c) above (gap-above (at p c) (at q c) stop.0 (den p) (den q) first (below-at q c stop.0 here stop.2))) rest)
    (signs a)

basic-cases : (p q : Moment) (r i c : ℕ) (side left : Side) → Clash p q r i side left → c < width q.table → (c ≡ basic_at q.table.basic i → ⊥) → is_basic (standing_at q.standings c) ≡ true → pos 0 ≤ℤ part p q i side c
basic-cases p q r i c side left k h other basic =
    no-product (factor q i side c) (apart p q c) (seen-zero side (entry (row_at q.table.rows i) c) (other-zero q.table q.standings i c k.q_table k.q_legal k.row.within h other basic))

-- a column after r
later-cases : (p q : Moment) (r i c : ℕ) (side left : Side) (b : Bool) → is_basic (standing_at q.standings c) ≡ b → Clash p q r i side left → r < c → c < width q.table → pos 0 ≤ℤ part p q i side c
later-cases p q r i c side left true e k more h = basic-cases p q r i c side left k h (λ same. absurd (omega (arith, same, more, k.leaver))) e
later-cases p q r i c side left false e k more h =
    let there : c < width p.table = omega (arith, h, k.columns) in
    let stands = k.later c more h in
    let first = point-outer p.table p.standings c k.p_table k.p_legal there (ap is_basic stands ∙ e) in
    let second = point-outer q.table q.standings c k.q_table k.q_legal h e in
    let same : stood_at p c ≡ stood_at q c =
    ap (λ ls. stood (bound ls c) (bound p.table.upper c) (standing_at p.standings c)) k.lower
    ∙ ap (λ us. stood (bound q.table.lower c) (bound us c) (standing_at p.standings c)) k.upper
    ∙ ap (stood (bound q.table.lower c) (bound q.table.upper c)) stands in
    no-gap (factor q i side c) (apart p q c) (gap-none (at p c) (at q c) (stood_at q c) (den p) (den q) (first ∙ ap (λ v. v *ℤ pos (den p)) same) second)

same-not-less : (k : ℤ) → int_lt k k ≡ true → ⊥
same-not-less k h = grind (arith, ints)

equal-not-less : (l u : ℤ) → int_eq l u ≡ true → int_lt l u ≡ true → ⊥
equal-not-less l u e h = grind (arith, ints)

equal-is : (l u : ℤ) → int_eq l u ≡ true → l ≡ u
equal-is l u e = grind (arith, ints)

rise-cases : (l u : ℤ) (b : Bool) → int_eq l u ≡ b → int_lt (stood (Some l) (Some u) (cond b AtLower AtUpper)) u ≡ true → ⊥
rise-cases l u true e h = equal-not-less l u e h
rise-cases l u false e h = same-not-less u h

-- what left at its upper bound can't rise
no-rise : (lower upper : Option ℤ) (u : ℤ) → upper ≡ Some u → option_map_or (λ k. int_lt (stood lower upper (settled lower upper Upper)) k) upper true ≡ true → ⊥
no-rise lower None u e h = cc
no-rise None (Some k) u e h = same-not-less k h
no-rise (Some l) (Some k) u e h = rise-cases l k (int_eq l k) refl h

-- what left at its lower bound can't sink
no-sink : (lower upper : Option ℤ) (l : ℤ) → lower ≡ Some l → option_map_or (λ k. int_lt k (stood lower upper (settled lower upper Lower))) lower true ≡ true → ⊥
no-sink None upper l e h = cc
no-sink (Some k) upper l e h = same-not-less k h

upper-cases : (l u : ℤ) (b : Bool) → int_eq l u ≡ b → stood (Some l) (Some u) (cond b AtLower AtUpper) ≡ u
upper-cases l u true e = equal-is l u e
upper-cases l u false e = refl

upper-value : (lower upper : Option ℤ) (u : ℤ) → upper ≡ Some u → stood lower upper (settled lower upper Upper) ≡ u
upper-value lower None u e = absurd (cc)
upper-value None (Some k) u e = cc
upper-value (Some l) (Some k) u e = upper-cases l k (int_eq l k) refl ∙ (let same : k ≡ u = cc in same)

lower-value : (lower upper : Option ℤ) (l : ℤ) → lower ≡ Some l → stood lower upper (settled lower upper Lower) ≡ l
lower-value None upper l e = absurd (cc)
lower-value (Some k) upper l e = cc

-- r itself, by the side at which it left
own-cases : (p q : Moment) (r i : ℕ) (side left : Side) → Clash p q r i side left → pos 0 ≤ℤ part p q i side r
own-cases p q r i side Lower k =
    let a = factor q i side r in
    let there : r < width p.table = omega (arith, k.within, k.columns) in
    let broken = under p r k.p_table k.p_legal there k.broken in
    let bounded : bound q.table.lower r ≡ Some broken.0 = ap (λ ls. bound ls r) (sym k.lower) ∙ broken.1 in
    let here = point-outer q.table q.standings r k.q_table k.q_legal k.within k.outside in
    let value : stood_at q r ≡ broken.0 = ap (stood (bound q.table.lower r) (bound q.table.upper r)) k.stands ∙ lower-value (bound q.table.lower r) (bound q.table.upper r) broken.0 bounded in
    ⊎_elim
    (λ below. weakly _ (other-strict a (apart p q r) below (gap-under (at p r) (at q r) broken.0 (den p) (den q) (den-some q k.q_table k.q_legal) broken.2 (above-at q r broken.0 here (omega (arith, ints, value))))))
    (λ rest. ⊎_elim (λ none. no-product a (apart p q r) none) (λ above.
    let sinks = (and_parts (not (is_basic (standing_at q.standings r))) _ (sym (helps-above q a r above) ∙ k.enters)).1 in
    absurd (no-sink (bound q.table.lower r) (bound q.table.upper r) broken.0 bounded (ap (λ s. option_map_or (λ l. int_lt l (stood (bound q.table.lower r) (bound q.table.upper r) s)) (bound q.table.lower r) true) (sym k.stands) ∙ sinks))) rest)
    (signs a)
own-cases p q r i side Upper k =
    let a = factor q i side r in
    let there : r < width p.table = omega (arith, k.within, k.columns) in
    let broken = over p r k.p_table k.p_legal there k.broken in
    let bounded : bound q.table.upper r ≡ Some broken.0 = ap (λ us. bound us r) (sym k.upper) ∙ broken.1 in
    let here = point-outer q.table q.standings r k.q_table k.q_legal k.within k.outside in
    let value : stood_at q r ≡ broken.0 = ap (stood (bound q.table.lower r) (bound q.table.upper r)) k.stands ∙ upper-value (bound q.table.lower r) (bound q.table.upper r) broken.0 bounded in
    ⊎_elim
    (λ below.
    let rises = (and_parts (not (is_basic (standing_at q.standings r))) _ (sym (helps-below q a r below) ∙ k.enters)).1 in
    absurd (no-rise (bound q.table.lower r) (bound q.table.upper r) broken.0 bounded (ap (λ s. option_map_or (λ u. int_lt (stood (bound q.table.lower r) (bound q.table.upper r) s) u) (bound q.table.upper r) true) (sym k.stands) ∙ rises)))
    (λ rest. ⊎_elim (λ none. no-product a (apart p q r) none) (λ above.
    weakly _ (same-strict a (apart p q r) above (gap-over (at p r) (at q r) broken.0 (den p) (den q) (den-some q k.q_table k.q_legal) broken.2 (below-at q r broken.0 here (omega (arith, ints, value)))))) rest)
    (signs a)

-- no part is negative but perhaps that of the leaving variable of the row
part-cases : (p q : Moment) (r i c : ℕ) (side left : Side) (b : Bool) → is_basic (standing_at q.standings c) ≡ b → Clash p q r i side left → c < width q.table → (c ≡ basic_at q.table.basic i → ⊥) → c < r → pos 0 ≤ℤ part p q i side c
part-cases p q r i c side left true e k h other less = basic-cases p q r i c side left k h other e
part-cases p q r i c side left false e k h other less = outer-part p q r i c side left k less e

no-negative : (p q : Moment) (r i c : ℕ) (side left : Side) → Clash p q r i side left → c < width q.table → (c ≡ basic_at q.table.basic i → ⊥) → pos 0 ≤ℤ part p q i side c
no-negative p q r i c side left k h other =
    ⊎_elim
    (λ same. subst (λ d. pos 0 ≤ℤ part p q i side d) (sym same) (own-cases p q r i side left k))
    (λ rest. ⊎_elim (λ less. part-cases p q r i c side left (is_basic (standing_at q.standings c)) refl k h other less) (λ more. later-cases p q r i c side left (is_basic (standing_at q.standings c)) refl k more h) rest)
    (cases_order c r)

-- that of the leaving variable is positive
leaver-cases : (p q : Moment) (r i : ℕ) (side left : Side) → Clash p q r i side left → pos 0 <ℤ part p q i side (basic_at q.table.basic i)
leaver-cases p q r i Lower left k =
    let l = basic_at q.table.basic i in
    let there : l < width p.table = omega (arith, k.row.column, k.columns) in
    let broken = under q l k.q_table k.q_legal k.row.column k.row.broken in
    let first = low p l broken.0 k.p_table k.p_legal there k.p_ordered (k.p_least l k.leaver) (lower-moves p q l broken.0 k.lower broken.1) in
    same-strict (factor q i Lower l) (apart p q l) (k.q_table.solved i k.row.within).positive (gap-more (at p l) (at q l) broken.0 (den p) (den q) (den-some p k.p_table k.p_legal) first broken.2)
leaver-cases p q r i Upper left k =
    let l = basic_at q.table.basic i in
    let there : l < width p.table = omega (arith, k.row.column, k.columns) in
    let broken = over q l k.q_table k.q_legal k.row.column k.row.broken in
    let first = high p l broken.0 k.p_table k.p_legal there k.p_ordered (k.p_least l k.leaver) (upper-moves p q l broken.0 k.upper broken.1) in
    let positive = (k.q_table.solved i k.row.within).positive in
    other-strict (factor q i Upper l) (apart p q l) (omega (arith, ints, positive)) (gap-less (at p l) (at q l) broken.0 (den p) (den q) (den-some p k.p_table k.p_legal) first broken.2)

-- multiples of a sum
total-times : (f : ℕ → ℤ) (k : ℤ) (a n : ℕ) → total (λ c. f c *ℤ k) a n ≡ total f a n *ℤ k
total-times f k a zero = sym (zero-*ℤ k)
total-times f k a (suc n) =
    let rest = total-times f k (a + 1) n in
    let apart_is = +ℤ-*ℤ (f a) (total f (a + 1) n) k in
    omega (arith, ints, rest, apart_is)

split : (a x y p q : ℤ) → a *ℤ (x *ℤ q -ℤ y *ℤ p) ≡ (a *ℤ x) *ℤ q -ℤ (a *ℤ y) *ℤ p
split a x y p q =
    let first = *ℤ_assoc a x q in
    let second = *ℤ_assoc a y p in
    let apart_is = *ℤ-+ℤ a (x *ℤ q) (neg_ℤ (y *ℤ p)) in
    let minus : a *ℤ neg_ℤ (y *ℤ p) ≡ neg_ℤ (a *ℤ (y *ℤ p)) = *ℤ_comm a (neg_ℤ (y *ℤ p)) ∙ neg_ℤ-*ℤ (y *ℤ p) a ∙ ap neg_ℤ (*ℤ_comm (y *ℤ p) a) in
    let same : x *ℤ q -ℤ y *ℤ p ≡ x *ℤ q +ℤ neg_ℤ (y *ℤ p) = omega (arith, ints) in
    let whole = ap (λ z. a *ℤ z) same in
    omega (arith, ints, first, second, apart_is, minus, whole)

-- the row holds at both, so that its parts add up to 0
lower-sum : (p q : Moment) (r i : ℕ) (side left : Side) → Clash p q r i side left → total (λ c. entry (row_at q.table.rows i) c *ℤ apart p q c) 0 (width q.table) ≡ pos 0
lower-sum p q r i side left k =
    let row = row_at q.table.rows i in
    let n = width q.table in
    let long = (k.q_table.solved i k.row.within).width in
    let at_q = point-solves q.table q.standings k.q_table k.q_legal i [] k.row.within in
    let at_p = (same-solutions p.table.rows q.table.rows (point_of p).nums k.space).0 (point-solves p.table p.standings k.p_table k.p_legal) i [] k.row.within in
    let first : total (λ c. entry row c *ℤ at p c) 0 n ≡ pos 0 = sym (dot-total row (point_of p).nums n long (nums-length p ∙ k.columns)) ∙ at_p in
    let second : total (λ c. entry row c *ℤ at q c) 0 n ≡ pos 0 = sym (dot-total row (point_of q).nums n long (nums-length q)) ∙ at_q in
    let one : total (λ c. (entry row c *ℤ at p c) *ℤ pos (den q)) 0 n ≡ pos 0 = total-times (λ c. entry row c *ℤ at p c) (pos (den q)) 0 n ∙ ap (λ z. z *ℤ pos (den q)) first ∙ zero-*ℤ (pos (den q)) in
    let two : total (λ c. (entry row c *ℤ at q c) *ℤ pos (den p)) 0 n ≡ pos 0 = total-times (λ c. entry row c *ℤ at q c) (pos (den p)) 0 n ∙ ap (λ z. z *ℤ pos (den p)) second ∙ zero-*ℤ (pos (den p)) in
    let minus = total-minus (λ c. (entry row c *ℤ at p c) *ℤ pos (den q)) (λ c. (entry row c *ℤ at q c) *ℤ pos (den p)) 0 n in
    let each = total-same (λ c. entry row c *ℤ apart p q c) (λ c. (entry row c *ℤ at p c) *ℤ pos (den q) -ℤ (entry row c *ℤ at q c) *ℤ pos (den p)) 0 n (λ c low' high'. split (entry row c) (at p c) (at q c) (pos (den p)) (pos (den q))) in
    omega (arith, ints, one, two, minus, each)

side-sum : (p q : Moment) (r i : ℕ) (side left : Side) → Clash p q r i side left → total (part p q i side) 0 (width q.table) ≡ pos 0
side-sum p q r i Lower left k = lower-sum p q r i Lower left k
side-sum p q r i Upper left k =
    let f : ℕ → ℤ = λ c. entry (row_at q.table.rows i) c *ℤ apart p q c in
    let n = width q.table in
    let turned = total-same (part p q i Upper) (λ c. neg_ℤ (f c)) 0 n (λ c low' high'. neg_ℤ-*ℤ (entry (row_at q.table.rows i) c) (apart p q c)) in
    let minus = total-neg f 0 n in
    let none = lower-sum p q r i Upper left k in
    omega (arith, ints, turned, minus, none)

-- there are no two such moments
pub no-clash : (p q : Moment) (r i : ℕ) (side left : Side) → Clash p q r i side left → ⊥
no-clash p q r i side left k =
    let n = width q.table in
    let l = basic_at q.table.basic i in
    let some = leaver-cases p q r i side left k in
    let more = total-but (λ c. pos 0) (part p q i side) l 0 n (omega arith) (omega (arith, k.row.column)) (λ c low' high' other. no-negative p q r i c side left k (omega (arith, high')) other) in
    let zeros = total-zero (λ c. pos 0) 0 n (λ c. refl) in
    let none = side-sum p q r i side left k in
    omega (arith, ints, some, more, zeros, none)
