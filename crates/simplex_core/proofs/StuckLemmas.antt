-- Where no column can move so that the leaving one comes nearer to its bound, its row and the bounds contradict.
use Rattle.std.proofs.Common.{◌≡◌, ℕ, List, refl, ap, sym, ◌∙◌, subst, arith, ◌<◌, ◌+◌, true, false, Bool, cond, length, set, ⊎_elim}
use Rattle.std.specs.Prelude.{ℤ, pos, neg_ℤ, ◌+ℤ◌, ◌-ℤ◌, ◌*ℤ◌, ◌<ℤ◌, ◌≤ℤ◌, int_lt, ◌&&◌, not, nat_abs, Option, Some, None}
use Rattle.std.specs.Option.{option_map_or, unwrap_or}
use Rattle.std.proofs.Math.IntN.{*ℤ_comm}
use Rattle.std.proofs.lemmas.Bool.{cases_lt, eq-eqb, ne_eqb}
use Rattle.std.proofs.lemmas.Int.{ints, by_lt_z}
use Rattle.std.proofs.lemmas.List.{get_or_past, length-set}
use Rattle.base.proofs.Public.{neg_ℤ-*ℤ}
use Rattle.lin_atoms.specs.Ratio.{Fraction}
use Rattle.lin_atoms.proofs.Public.{positive}
use Rattle.int_rows.specs.Basis.{bound}
use Rattle.int_rows.specs.Rows.{Follows, entry}
use Rattle.int_rows.specs.Table.{IsTable, Table, basic_at, row_at, width}
use Rattle.int_rows.proofs.Public.{follows-own, lt-true}
use Rattle.simplex_core.specs.Answer.{multipliers, multipliers_at}
use Rattle.simplex_core.specs.Coordinate.{others}
use Rattle.simplex_core.specs.Standings.{AreStandings}
use Rattle.simplex_core.specs.Meaning.{IsConflict, summed}
use Rattle.simplex_core.specs.Run.{broken_at, can_rise, can_sink, coordinate_at, entering, helps, is_above, is_basic, is_below, may_enter, moment, seen_from, standing_at, stood_at, values}
use Rattle.simplex_core.specs.declared.standing.Standing.{Standing}
use Rattle.simplex_core.specs.declared.turn.Side.{Side}
use Rattle.simplex_core.specs.declared.turn.Side.TheVariants.{Lower, Upper}
use Rattle.simplex_core.proofs.ConflictLemmas.{above-parts, adds, below-parts, constant-is, follows-like, follows-turned, low_at, minus-natural, minus_part, parts-apart, plus-natural, plus_part, summed-at, summed-past, up_at, zero-parts}
use Rattle.simplex_core.proofs.CoordinateLemmas.{masked-at}
use Rattle.simplex_core.proofs.FractionLemmas.{keeps}
use Rattle.simplex_core.proofs.MomentLemmas.{helps-above, helps-below, values-at, values-length}
use Rattle.simplex_core.proofs.PairLemmas.{Pairs, pairs-first, pairs-length, pairs-natural, pairs-second}
use Rattle.simplex_core.proofs.PointLemmas.{decided, other-zero, own-coordinate}
use Rattle.simplex_core.proofs.RangeLemmas.{find-nowhere}
use Rattle.simplex_core.proofs.SumLemmas.{dot-total, total, total-but, total-neg}
use Rattle.simplex_core.proofs.VertexLemmas.{not-less}

-- a test that fails where a bound is, or isn't there
stopped : (o : Option ℤ) (test : ℤ → Bool) → option_map_or test o true ≡ false → (k : ℤ) × (o ≡ Some k) × (test k ≡ false)
stopped None test e = absurd (cc)
stopped (Some k) test e = (k, refl, e)

and-rest : (a b : Bool) → a ≡ false → (not a && b) ≡ false → b ≡ false
and-rest true b h e = absurd (cc)
and-rest false b h e = e

pub sink-stop : (t : Table) (standings : List Standing) (c : ℕ) → is_basic (standing_at standings c) ≡ false → can_sink (moment t standings) c ≡ false → (l : ℤ) × (bound t.lower c ≡ Some l) × (stood_at (moment t standings) c ≤ℤ l)
sink-stop t standings c out stop =
    let m = moment t standings in
    let rest = and-rest (is_basic (standing_at standings c)) (option_map_or (λ l. int_lt l (stood_at m c)) (bound t.lower c) true) out stop in
    let there = stopped (bound t.lower c) (λ l. int_lt l (stood_at m c)) rest in
    (there.0, there.1, not-less there.0 (stood_at m c) there.2)

pub rise-stop : (t : Table) (standings : List Standing) (c : ℕ) → is_basic (standing_at standings c) ≡ false → can_rise (moment t standings) c ≡ false → (u : ℤ) × (bound t.upper c ≡ Some u) × (u ≤ℤ stood_at (moment t standings) c)
rise-stop t standings c out stop =
    let m = moment t standings in
    let rest = and-rest (is_basic (standing_at standings c)) (option_map_or (λ u. int_lt (stood_at m c) u) (bound t.upper c) true) out stop in
    let there = stopped (bound t.upper c) (λ u. int_lt (stood_at m c) u) rest in
    (there.0, there.1, not-less (stood_at m c) there.0 there.2)

-- a bound that is broken
low-cases : (o : Option ℤ) (q : Fraction) (d : Bool) → cond (is_below o q) (Some Lower) (cond d (Some Upper) None) ≡ Some Lower → (l : ℤ) × (o ≡ Some l) × (q.num <ℤ (q.den *ℤ l))
low-cases None q true e = absurd (cc)
low-cases None q false e = absurd (cc)
low-cases (Some l) q d e = (l, refl, by (int_lt q.num (q.den *ℤ l)) refl e) where
  by : (b : Bool) → int_lt q.num (q.den *ℤ l) ≡ b → cond b (Some Lower) (cond d (Some Upper) None) ≡ Some Lower → q.num <ℤ (q.den *ℤ l)
  by true h e' = lt-true q.num (q.den *ℤ l) h
  by false h e' = absurd (no d e') where
    no : (d : Bool) → cond d (Some Upper) None ≡ Some Lower → ⊥
    no true x = cc
    no false x = cc

high-cases : (b : Bool) (o : Option ℤ) (q : Fraction) → cond b (Some Lower) (cond (is_above o q) (Some Upper) None) ≡ Some Upper → (u : ℤ) × (o ≡ Some u) × ((q.den *ℤ u) <ℤ q.num)
high-cases true o q e = absurd (cc)
high-cases false None q e = absurd (cc)
high-cases false (Some u) q e = (u, refl, by (int_lt (q.den *ℤ u) q.num) refl e) where
  by : (b : Bool) → int_lt (q.den *ℤ u) q.num ≡ b → cond b (Some Upper) None ≡ Some Upper → (q.den *ℤ u) <ℤ q.num
  by true h e' = lt-true (q.den *ℤ u) q.num h
  by false h e' = absurd (cc)

pub own-low : (t : Table) (standings : List Standing) (c : ℕ) → broken_at (moment t standings) c ≡ Some Lower → (l : ℤ) × (bound t.lower c ≡ Some l) × ((coordinate_at (moment t standings) c).num <ℤ ((coordinate_at (moment t standings) c).den *ℤ l))
unfolding broken_at
own-low t standings c e = let q = coordinate_at (moment t standings) c in low-cases (bound t.lower c) q (is_above (bound t.upper c) q) e

pub own-high : (t : Table) (standings : List Standing) (c : ℕ) → broken_at (moment t standings) c ≡ Some Upper → (u : ℤ) × (bound t.upper c ≡ Some u) × (((coordinate_at (moment t standings) c).den *ℤ u) <ℤ (coordinate_at (moment t standings) c).num)
unfolding broken_at
own-high t standings c e = let q = coordinate_at (moment t standings) c in high-cases (is_below (bound t.lower c) q) (bound t.upper c) q e

-- multiples by a positive number are in the same order
times : (a x y : ℤ) → pos 0 <ℤ a → x ≤ℤ y → (a *ℤ x) ≤ℤ (a *ℤ y)
times a x y some le =
    let d = nat_abs a in
    let same : a ≡ pos d = positive a some in
    let grown = keeps x y d le in
    let left : a *ℤ x ≡ x *ℤ pos d = ap (λ z. z *ℤ x) same ∙ *ℤ_comm (pos d) x in
    let right : a *ℤ y ≡ y *ℤ pos d = ap (λ z. z *ℤ y) same ∙ *ℤ_comm (pos d) y in
    omega (arith, ints)

-- a column that can't move adds no less than its value does
adds-above : (a s l : ℤ) (low : Option ℤ) (up : ℤ) → pos 0 <ℤ a → low ≡ Some l → s ≤ℤ l → (a *ℤ s) ≤ℤ (plus_part a *ℤ unwrap_or low (pos 0) -ℤ minus_part a *ℤ up)
adds-above a s l low up some is le =
    let p = above-parts a some in
    let grown = times a s l some le in
    let first : plus_part a *ℤ unwrap_or low (pos 0) ≡ a *ℤ l = ap (λ z. z *ℤ unwrap_or low (pos 0)) p.0 ∙ ap (λ o. a *ℤ unwrap_or o (pos 0)) is in
    let second : minus_part a *ℤ up ≡ pos 0 = ap (λ z. z *ℤ up) p.1 ∙ omega (arith, ints) in
    omega (arith, ints, grown, first, second)

adds-below : (a s u low : ℤ) (up : Option ℤ) → a <ℤ pos 0 → up ≡ Some u → u ≤ℤ s → (a *ℤ s) ≤ℤ (plus_part a *ℤ low -ℤ minus_part a *ℤ unwrap_or up (pos 0))
adds-below a s u low up some is le =
    let p = below-parts a some in
    let some' : pos 0 <ℤ neg_ℤ a = omega (arith, ints) in
    let grown = times (neg_ℤ a) u s some' le in
    let first : plus_part a *ℤ low ≡ pos 0 = ap (λ z. z *ℤ low) p.0 ∙ omega (arith, ints) in
    let second : minus_part a *ℤ unwrap_or up (pos 0) ≡ neg_ℤ a *ℤ u = ap (λ z. z *ℤ unwrap_or up (pos 0)) p.1 ∙ ap (λ o. neg_ℤ a *ℤ unwrap_or o (pos 0)) is in
    let turned = neg_ℤ-*ℤ a s in
    omega (arith, ints, grown, first, second, turned)

adds-zero : (a s low up : ℤ) → a ≡ pos 0 → (a *ℤ s) ≤ℤ (plus_part a *ℤ low -ℤ minus_part a *ℤ up)
adds-zero a s low up e =
    let p = zero-parts a e in
    let first : plus_part a *ℤ low ≡ pos 0 = ap (λ z. z *ℤ low) p.0 ∙ omega (arith, ints) in
    let second : minus_part a *ℤ up ≡ pos 0 = ap (λ z. z *ℤ up) p.1 ∙ omega (arith, ints) in
    let third : a *ℤ s ≡ pos 0 = ap (λ z. z *ℤ s) e ∙ omega (arith, ints) in
    omega (arith, ints, first, second, third)

seen-zero : (side : Side) (a : ℤ) → a ≡ pos 0 → seen_from side a ≡ pos 0
seen-zero Lower a e = e
seen-zero Upper a e = ap neg_ℤ e

-- what is known where the run is stuck at a row
pub record IsStuck (t : Table) (standings : List Standing) (i : ℕ) (side : Side) : Type 0 where
  pub table : IsTable t
  pub legal : AreStandings t standings
  pub row : i < length t.rows
  pub broken : broken_at (moment t standings) (basic_at t.basic i) ≡ Some side
  pub none : entering (moment t standings) i side ≡ None

no_help : (t : Table) (standings : List Standing) (i c : ℕ) (side : Side) → IsStuck t standings i side → c < width t → helps (moment t standings) (seen_from side (entry (row_at t.rows i) c)) c ≡ false
unfolding entering
no_help t standings i c side stuck h = find-nowhere (may_enter (moment t standings) i side) 0 (width t) stuck.none c (omega arith) (omega arith)

-- a column whose entry isn't 0 isn't basic
outside_where : (t : Table) (standings : List Standing) (i c : ℕ) (side : Side) → IsStuck t standings i side → c < width t → (c ≡ basic_at t.basic i → ⊥) → (seen_from side (entry (row_at t.rows i) c) ≡ pos 0 → ⊥) → is_basic (standing_at standings c) ≡ false
outside_where t standings i c side stuck h ne some = by (is_basic (standing_at standings c)) refl where
  by : (b : Bool) → is_basic (standing_at standings c) ≡ b → b ≡ false
  by false e = refl
  by true e = absurd (some (seen-zero side (entry (row_at t.rows i) c) (other-zero t standings i c stuck.table stuck.legal stuck.row h ne e)))

pub low-there : (t : Table) (standings : List Standing) (i c : ℕ) (side : Side) → IsStuck t standings i side → c < width t → (c ≡ basic_at t.basic i → ⊥) → pos 0 <ℤ seen_from side (entry (row_at t.rows i) c) → (l : ℤ) × (bound t.lower c ≡ Some l) × (stood_at (moment t standings) c ≤ℤ l)
low-there t standings i c side stuck h ne some =
    let m = moment t standings in
    let a = seen_from side (entry (row_at t.rows i) c) in
    let out = outside_where t standings i c side stuck h ne (λ e. omega (arith, ints, e, some)) in
    sink-stop t standings c out (sym (helps-above m a c some) ∙ no_help t standings i c side stuck h)

pub high-there : (t : Table) (standings : List Standing) (i c : ℕ) (side : Side) → IsStuck t standings i side → c < width t → (c ≡ basic_at t.basic i → ⊥) → seen_from side (entry (row_at t.rows i) c) <ℤ pos 0 → (u : ℤ) × (bound t.upper c ≡ Some u) × (u ≤ℤ stood_at (moment t standings) c)
high-there t standings i c side stuck h ne some =
    let m = moment t standings in
    let a = seen_from side (entry (row_at t.rows i) c) in
    let out = outside_where t standings i c side stuck h ne (λ e. omega (arith, ints, e, some)) in
    rise-stop t standings c out (sym (helps-below m a c some) ∙ no_help t standings i c side stuck h)

-- the parts of what is seen of the row
abbrev pub plus_at : Table → ℕ → Side → ℕ → ℤ
plus_at t i side c = plus_part (seen_from side (entry (row_at t.rows i) c))

abbrev pub minus_at : Table → ℕ → Side → ℕ → ℤ
minus_at t i side c = minus_part (seen_from side (entry (row_at t.rows i) c))

column-adds : (t : Table) (standings : List Standing) (i c : ℕ) (side : Side) → IsStuck t standings i side → c < width t → (c ≡ basic_at t.basic i → ⊥) → (seen_from side (entry (row_at t.rows i) c) *ℤ stood_at (moment t standings) c) ≤ℤ adds t (plus_at t i side) (minus_at t i side) c
column-adds t standings i c side stuck h ne =
    let s = stood_at (moment t standings) c in
    let a = seen_from side (entry (row_at t.rows i) c) in
    by_lt_z a (pos 0)
    (λ lt. let there = high-there t standings i c side stuck h ne lt in adds-below a s there.0 (low_at t c) (bound t.upper c) lt there.1 there.2)
    (λ ge. by_lt_z (pos 0) a
    (λ gt. let there = low-there t standings i c side stuck h ne gt in adds-above a s there.0 (bound t.lower c) (up_at t c) gt there.1 there.2)
    (λ le. adds-zero a s (low_at t c) (up_at t c) (omega (arith, ints))))

seen-total : (side : Side) (g : ℕ → ℤ) (n : ℕ) → total (λ c. seen_from side (g c)) 0 n ≡ seen_from side (total g 0 n)
seen-total Lower g n = refl
seen-total Upper g n = total-neg g 0 n

seen-times : (side : Side) (a s : ℤ) → seen_from side (a *ℤ s) ≡ seen_from side a *ℤ s
seen-times Lower a s = refl
seen-times Upper a s = sym (neg_ℤ-*ℤ a s)

-- the other columns' products, as they are seen
abbrev seen_at : Table → List Standing → ℕ → Side → ℕ → ℤ
seen_at t standings i side c = seen_from side (entry (set (row_at t.rows i) (basic_at t.basic i) (pos 0)) c *ℤ entry (values (moment t standings)) c)

seen-others : (t : Table) (standings : List Standing) (i : ℕ) (side : Side) → IsStuck t standings i side → total (seen_at t standings i side) 0 (width t) ≡ seen_from side (others (row_at t.rows i) (values (moment t standings)) (basic_at t.basic i))
seen-others t standings i side stuck =
    let m = moment t standings in
    let row = row_at t.rows i in
    let masked = set row (basic_at t.basic i) (pos 0) in
    let solved = stuck.table.solved i stuck.row in
    let long : length masked ≡ width t = length-set row (basic_at t.basic i) (pos 0) ∙ solved.width in
    seen-total side (λ c. entry masked c *ℤ entry (values m) c) (width t) ∙ ap (seen_from side) (sym (dot-total masked (values m) (width t) long (values-length m)))

own-within : (t : Table) (standings : List Standing) (i : ℕ) (side : Side) → IsStuck t standings i side → basic_at t.basic i < width t
own-within t standings i side stuck = stuck.table.within i (let h = stuck.row in let e = stuck.table.basics in omega arith)

own-none : (t : Table) (standings : List Standing) (i : ℕ) (side : Side) → IsStuck t standings i side → seen_at t standings i side (basic_at t.basic i) ≡ pos 0
own-none t standings i side stuck =
    let row = row_at t.rows i in
    let b = basic_at t.basic i in
    let v = entry (values (moment t standings)) b in
    let inside : b < length row = omega (arith, (stuck.table.solved i stuck.row).width, own-within t standings i side stuck) in
    let zero' : entry (set row b (pos 0)) b ≡ pos 0 = masked-at row b b inside ∙ ap (λ e. cond e (pos 0) (entry row b)) (eq-eqb b b refl) in
    let none : entry (set row b (pos 0)) b *ℤ v ≡ pos 0 = ap (λ z. z *ℤ v) zero' ∙ omega (arith, ints) in
    seen-zero side (entry (set row b (pos 0)) b *ℤ v) none

seen-below : (t : Table) (standings : List Standing) (i c : ℕ) (side : Side) → IsStuck t standings i side → c < width t → (c ≡ basic_at t.basic i → ⊥) → seen_at t standings i side c ≤ℤ adds t (plus_at t i side) (minus_at t i side) c
seen-below t standings i c side stuck h ne =
    let m = moment t standings in
    let row = row_at t.rows i in
    let b = basic_at t.basic i in
    let inside : b < length row = omega (arith, (stuck.table.solved i stuck.row).width, own-within t standings i side stuck) in
    let there : entry (set row b (pos 0)) c ≡ entry row c = masked-at row b c inside ∙ ap (λ e. cond e (pos 0) (entry row c)) (ne_eqb c b ne) in
    let same : seen_at t standings i side c ≡ seen_from side (entry row c) *ℤ stood_at m c =
    ap (λ z. seen_from side (z *ℤ entry (values m) c)) there ∙ ap (λ z. seen_from side (entry row c *ℤ z)) (values-at m c (pos 0) h) ∙ seen-times side (entry row c) (stood_at m c) in
    let P : ℤ → Type 0 = λ z. z ≤ℤ adds t (plus_at t i side) (minus_at t i side) c in
    subst P (sym same) (column-adds t standings i c side stuck h ne)

-- the multiple of the broken bound, with the others, is above 0
own-above : (t : Table) (standings : List Standing) (i : ℕ) (side : Side) → IsStuck t standings i side → pos 0 <ℤ (seen_from side (others (row_at t.rows i) (values (moment t standings)) (basic_at t.basic i)) +ℤ adds t (plus_at t i side) (minus_at t i side) (basic_at t.basic i))
own-above t standings i Lower stuck =
    let m = moment t standings in
    let row = row_at t.rows i in
    let b = basic_at t.basic i in
    let r = entry row b in
    let there = own-low t standings b stuck.broken in
    let P : Fraction → Type 0 = λ q. q.num <ℤ (q.den *ℤ there.0) in
    let less : neg_ℤ (others row (values m) b) <ℤ (r *ℤ there.0) = subst P (own-coordinate t standings i stuck.table stuck.legal stuck.row) there.2 in
    let p = above-parts r (stuck.table.solved i stuck.row).positive in
    let first : plus_part r *ℤ low_at t b ≡ r *ℤ there.0 = ap (λ z. z *ℤ low_at t b) p.0 ∙ ap (λ o. r *ℤ unwrap_or o (pos 0)) there.1 in
    let second : minus_part r *ℤ up_at t b ≡ pos 0 = ap (λ z. z *ℤ up_at t b) p.1 ∙ omega (arith, ints) in
    omega (arith, ints, less, first, second)
own-above t standings i Upper stuck =
    let m = moment t standings in
    let row = row_at t.rows i in
    let b = basic_at t.basic i in
    let r = entry row b in
    let some : pos 0 <ℤ r = (stuck.table.solved i stuck.row).positive in
    let there = own-high t standings b stuck.broken in
    let P : Fraction → Type 0 = λ q. (q.den *ℤ there.0) <ℤ q.num in
    let less : (r *ℤ there.0) <ℤ neg_ℤ (others row (values m) b) = subst P (own-coordinate t standings i stuck.table stuck.legal stuck.row) there.2 in
    let under : neg_ℤ r <ℤ pos 0 = omega (arith, ints) in
    let p = below-parts (neg_ℤ r) under in
    let twice : neg_ℤ (neg_ℤ r) ≡ r = omega (arith, ints) in
    let first : plus_part (neg_ℤ r) *ℤ low_at t b ≡ pos 0 = ap (λ z. z *ℤ low_at t b) p.0 ∙ omega (arith, ints) in
    let second : minus_part (neg_ℤ r) *ℤ up_at t b ≡ r *ℤ there.0 = ap (λ z. z *ℤ up_at t b) (p.1 ∙ twice) ∙ ap (λ o. r *ℤ unwrap_or o (pos 0)) there.1 in
    omega (arith, ints, less, first, second)

-- a positive part has a lower bound, and a negative part an upper one
own-plus : (t : Table) (standings : List Standing) (i : ℕ) (side : Side) → IsStuck t standings i side → pos 0 <ℤ seen_from side (entry (row_at t.rows i) (basic_at t.basic i)) → (l : ℤ) × (bound t.lower (basic_at t.basic i) ≡ Some l)
own-plus t standings i Lower stuck h = let there = own-low t standings (basic_at t.basic i) stuck.broken in (there.0, there.1)
own-plus t standings i Upper stuck h = absurd (let some = (stuck.table.solved i stuck.row).positive in omega (arith, ints))

own-minus : (t : Table) (standings : List Standing) (i : ℕ) (side : Side) → IsStuck t standings i side → seen_from side (entry (row_at t.rows i) (basic_at t.basic i)) <ℤ pos 0 → (u : ℤ) × (bound t.upper (basic_at t.basic i) ≡ Some u)
own-minus t standings i Lower stuck h = absurd (let some = (stuck.table.solved i stuck.row).positive in omega (arith, ints))
own-minus t standings i Upper stuck h = let there = own-high t standings (basic_at t.basic i) stuck.broken in (there.0, there.1)

none-some : (o : Option ℤ) (k : ℤ) → o ≡ None → o ≡ Some k → ⊥
none-some o k e f = let both : None ≡ Some k = sym e ∙ f in cc

not-above-part : (a : ℤ) → a ≤ℤ pos 0 → plus_part a ≡ pos 0
not-above-part a h = grind (arith, ints)

not-below-part : (a : ℤ) → pos 0 ≤ℤ a → minus_part a ≡ pos 0
not-below-part a h = grind (arith, ints)

no-plus : (t : Table) (standings : List Standing) (i v : ℕ) (side : Side) → IsStuck t standings i side → v < width t → bound t.lower v ≡ None → plus_at t i side v ≡ pos 0
no-plus t standings i v side stuck h none =
    let row = row_at t.rows i in
    let b = basic_at t.basic i in
    let a = seen_from side (entry row v) in
    by_lt_z (pos 0) a
    (λ gt. absurd (⊎_elim
    (λ same. let there = own-plus t standings i side stuck (subst (λ (c : ℕ). pos 0 <ℤ seen_from side (entry row c)) same gt) in none-some (bound t.lower v) there.0 none (ap (bound t.lower) same ∙ there.1))
    (λ ne. let there = low-there t standings i v side stuck h ne gt in none-some (bound t.lower v) there.0 none there.1)
    (decided v b)))
    (λ le. not-above-part a le)

no-minus : (t : Table) (standings : List Standing) (i v : ℕ) (side : Side) → IsStuck t standings i side → v < width t → bound t.upper v ≡ None → minus_at t i side v ≡ pos 0
no-minus t standings i v side stuck h none =
    let row = row_at t.rows i in
    let b = basic_at t.basic i in
    let a = seen_from side (entry row v) in
    by_lt_z a (pos 0)
    (λ lt. absurd (⊎_elim
    (λ same. let there = own-minus t standings i side stuck (subst (λ (c : ℕ). seen_from side (entry row c) <ℤ pos 0) same lt) in none-some (bound t.upper v) there.0 none (ap (bound t.upper) same ∙ there.1))
    (λ ne. let there = high-there t standings i v side stuck h ne lt in none-some (bound t.upper v) there.0 none there.1)
    (decided v b)))
    (λ ge. not-below-part a ge)

seen-follows : (rows : List (List ℤ)) (row other : List ℤ) (side : Side) → ((v : ℕ) → entry other v ≡ neg_ℤ (seen_from side (entry row v))) → Follows rows row → Follows rows other
seen-follows rows row other Lower e f = follows-turned rows row other e f
seen-follows rows row other Upper e f = follows-like rows row other (λ v. e v ∙ omega (arith, ints)) f

pub stuck-means : (t : Table) (standings : List Standing) (i : ℕ) (side : Side) → IsStuck t standings i side → IsConflict t (multipliers t i side)
stuck-means t standings i side stuck =
    let n = width t in
    let row = row_at t.rows i in
    let b = basic_at t.basic i in
    let f = multipliers_at t i side in
    let x = plus_at t i side in
    let y = minus_at t i side in
    let pairs : Pairs f x y = λ c. refl in
    let b_within = own-within t standings i side stuck in
    let rest = total-but (seen_at t standings i side) (adds t x y) b 0 n (omega arith) (omega (arith, b_within)) (λ c low high ne. seen-below t standings i c side stuck (omega arith) ne) in
    let constant = constant-is t f x y pairs in
    record {
      each = pairs-length f x y pairs 0 n;
      natural = pairs-natural f x y pairs (λ c. plus-natural (seen_from side (entry row c))) (λ c. minus-natural (seen_from side (entry row c))) 0 n;
      lower = λ v k none. let place : 0 + v ≡ v = omega arith in pairs-first f x y pairs 0 n v k ∙ ap x place ∙ no-plus t standings i v side stuck k none;
      upper = λ v k none. let place : 0 + v ≡ v = omega arith in pairs-second f x y pairs 0 n v k ∙ ap y place ∙ no-minus t standings i v side stuck k none;
      follows = seen-follows t.rows row (summed n (multipliers t i side)) side (λ v. ⊎_elim
          (λ k. summed-at f x y pairs n v k ∙ parts-apart (seen_from side (entry row v)))
          (λ k. let past : entry row v ≡ pos 0 = get_or_past row v (pos 0) (omega (arith, (stuck.table.solved i stuck.row).width)) in summed-past n (multipliers t i side) v k ∙ sym (ap neg_ℤ (seen-zero side (entry row v) past)))
          (cases_lt v n)) (follows-own t.rows i stuck.row);
      above = omega (arith, ints, rest, constant, seen-others t standings i side stuck, own-none t standings i side stuck, own-above t standings i side stuck);
    }
