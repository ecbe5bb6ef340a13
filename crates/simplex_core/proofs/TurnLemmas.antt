-- What a moment is, taken apart.
use Rattle.std.proofs.Common.{◌≡◌, ℕ, refl, ap, sym, ◌∙◌, arith, ◌<◌, true, false, Bool, cond, Option, Some, None, option_map, List, [], take, ◌^◌, nat_abs, inl, inr, ⊎_elim, ◌⊎◌, subst}
use Rattle.std.specs.Prelude.{ℤ, pos, neg_ℤ, is_some, int_lt}
use Rattle.std.specs.List.{list_all}
use Rattle.std.specs.Option.{unwrap_or}
use Rattle.std.proofs.lemmas.Bool.{and_parts, le-ltb, cond-false, cond-true, not-true, or_cases}
use Rattle.std.proofs.lemmas.List.{length-take-le}
use Rattle.std.proofs.lemmas.List.Folds.{list_all_at}
use Rattle.lin_atoms.specs.Linear.{is_short}
use Rattle.lin_atoms.specs.Ratio.{Fraction}
use Rattle.int_rows.specs.Rows.{are_short, entry}
use Rattle.int_rows.specs.Table.{HasWide, pivoted, row_at, width}
use Rattle.simplex_core.specs.Run.{Moment, Next, Ended, after, broken_at, can_rise, can_sink, coordinates, crossed, enter, entering, first_of, has_wide_floor, helps, is_basic, is_wide, leave, leaving, may_enter, may_leave, next, outcome, row_of, seen_from, settle, standing_at, turn, wide, wide_floor}
use Rattle.simplex_core.specs.declared.turn.Side.{Side}
use Rattle.simplex_core.specs.declared.turn.Side.TheVariants.{Lower, Upper}
use Rattle.simplex_core.specs.declared.turn.Turn.{Turn}
use Rattle.simplex_core.specs.declared.turn.Turn.TheVariants.{Crossed, Wide, Vertex, Conflict, Pivot}
use Rattle.simplex_core.proofs.MomentLemmas.{coordinates-length}
use Rattle.simplex_core.proofs.RangeLemmas.{find-least, find-within, position-some}

pub turn-crossed : (m : Moment) (c : ℕ) → crossed m.table ≡ Some c → turn m ≡ Crossed c
unfolding turn
turn-crossed m c e = rw e refl

pub turn-wide : (m : Moment) (c : ℕ) → crossed m.table ≡ None → wide m ≡ Some c → turn m ≡ Wide c
unfolding turn
turn-wide m c e w = rw (e, w) refl

pub turn-settles : (m : Moment) (o : Option ℕ) → crossed m.table ≡ None → wide m ≡ None → leaving m ≡ o → turn m ≡ settle m o
unfolding turn
turn-settles m o e w l = rw (e, w, l) refl

-- the three ways in which a turn comes about
abbrev pub Comes : Option ℕ → Option ℕ → Turn → Turn → Type 0
Comes a b rest t = ((c : ℕ) × (a ≡ Some c) × (t ≡ Crossed c)) ⊎ (((c : ℕ) × (a ≡ None) × (b ≡ Some c) × (t ≡ Wide c)) ⊎ ((a ≡ None) × (b ≡ None) × (rest ≡ t)))

comes : (a b : Option ℕ) (rest t : Turn) → first_of (option_map Crossed a) (first_of (option_map Wide b) rest) ≡ t → Comes a b rest t
comes (Some c) b rest t e = inl (c, refl, sym e)
comes None (Some c) rest t e = inr (inl (c, refl, refl, sym e))
comes None None rest t e = inr (inr (refl, refl, e))

pub turn-comes : (m : Moment) (t : Turn) → turn m ≡ t → Comes (crossed m.table) (wide m) (settle m (leaving m)) t
unfolding turn
turn-comes m t e = comes (crossed m.table) (wide m) (settle m (leaving m)) t e

-- the moment has a leaving variable, basic in the row
pub record Leaves (m : Moment) (i : ℕ) (side : Side) : Type 0 where
  pub leaver : ℕ
  pub within : leaver < width m.table
  pub basic : is_basic (standing_at m.standings leaver) ≡ true
  pub row : i ≡ row_of m.table.basic leaver
  pub broken : broken_at m leaver ≡ Some side
  pub least : (d : ℕ) → d < leaver → may_leave m d ≡ false

some-is : {X : Type 0} (o : Option X) (d : X) → is_some o ≡ true → o ≡ Some (unwrap_or o d)
some-is None d h = cc
some-is (Some x) d h = refl

leaves : (m : Moment) (l i : ℕ) (side : Side) → leaving m ≡ Some l → row_of m.table.basic l ≡ i → unwrap_or (broken_at m l) Lower ≡ side → Leaves m i side
unfolding leaving
leaves m l i side e r s =
    let found = find-within (may_leave m) 0 (width m.table) l e in
    let both = and_parts (is_basic (standing_at m.standings l)) (is_some (broken_at m l)) found.2 in
    record {
      leaver = l;
      within = omega (arith, found.1);
      basic = both.0;
      row = sym r;
      broken = some-is (broken_at m l) Lower both.1 ∙ ap Some s;
      least = λ d h. find-least (may_leave m) 0 (width m.table) l e d (omega arith) h;
    }

-- what a row and a column that enters have to do with one another
pub record Pivots (m : Moment) (i c : ℕ) (side : Side) : Type 0 where
  pub leaves : Leaves m i side
  pub within : c < width m.table
  pub enters : may_enter m i side c ≡ true
  pub least : (d : ℕ) → d < c → may_enter m i side d ≡ false
  pub ordered : crossed m.table ≡ None

entered-pivot : (i j c : ℕ) (side other : Side) (o : Option ℕ) → enter j other o ≡ Pivot i c side → (j ≡ i) × (other ≡ side) × (o ≡ Some c)
entered-pivot i j c side other None e = absurd (cc)
entered-pivot i j c side other (Some d) e = (cc, cc, cc)

entered-conflict : (i j : ℕ) (side other : Side) (o : Option ℕ) → enter j other o ≡ Conflict i side → (j ≡ i) × (other ≡ side) × (o ≡ None)
entered-conflict i j side other None e = (cc, cc, refl)
entered-conflict i j side other (Some d) e = absurd (cc)

no-pivot : (i c : ℕ) (side : Side) (o : Option ℕ) → first_of (option_map Wide o) Vertex ≡ Pivot i c side → ⊥
no-pivot i c side None e = cc
no-pivot i c side (Some d) e = cc

no-conflict : (i : ℕ) (side : Side) (o : Option ℕ) → first_of (option_map Wide o) Vertex ≡ Conflict i side → ⊥
no-conflict i side None e = cc
no-conflict i side (Some d) e = cc

pivot-moved : (m : Moment) (i j c : ℕ) (side other : Side) → j ≡ i → other ≡ side → entering m j other ≡ Some c → entering m i side ≡ Some c
pivot-moved m i j c side other e f h = subst (λ k. entering m k side ≡ Some c) e (subst (λ s. entering m j s ≡ Some c) f h)

none-moved : (m : Moment) (i j : ℕ) (side other : Side) → j ≡ i → other ≡ side → entering m j other ≡ None → entering m i side ≡ None
none-moved m i j side other e f h = subst (λ k. entering m k side ≡ None) e (subst (λ s. entering m j s ≡ None) f h)

enters : (m : Moment) (i c : ℕ) (side : Side) → entering m i side ≡ Some c → (c < width m.table) × (may_enter m i side c ≡ true) × ((d : ℕ) → d < c → may_enter m i side d ≡ false)
unfolding entering
enters m i c side e = let found = find-within (may_enter m i side) 0 (width m.table) c e in (omega (arith, found.1), found.2, λ d h. find-least (may_enter m i side) 0 (width m.table) c e d (omega arith) h)

settled-pivot : (m : Moment) (i c : ℕ) (side : Side) (o : Option ℕ) → crossed m.table ≡ None → leaving m ≡ o → settle m o ≡ Pivot i c side → Pivots m i c side
settled-pivot m i c side None x l e = absurd (no-pivot i c side (wide_floor m) e)
settled-pivot m i c side (Some v) x l e =
    let parts = entered-pivot i (row_of m.table.basic v) c side (unwrap_or (broken_at m v) Lower) (entering m (row_of m.table.basic v) (unwrap_or (broken_at m v) Lower)) e in
    let enterer = enters m i c side (pivot-moved m i (row_of m.table.basic v) c side (unwrap_or (broken_at m v) Lower) parts.0 parts.1 parts.2) in
    record { leaves = leaves m v i side l parts.0 parts.1; within = enterer.0; enters = enterer.1; least = enterer.2; ordered = x }

pub turn-pivots : (m : Moment) (i c : ℕ) (side : Side) → turn m ≡ Pivot i c side → Pivots m i c side
turn-pivots m i c side e =
    ⊎_elim (λ x. absurd (let bad : Pivot i c side ≡ Crossed x.0 = x.2 in cc)) (λ rest. ⊎_elim (λ x. absurd (let bad : Pivot i c side ≡ Wide x.0 = x.3 in cc)) (λ s. settled-pivot m i c side (leaving m) s.0 refl s.2) rest) (turn-comes m (Pivot i c side) e)

-- no column helps
pub record Conflicts (m : Moment) (i : ℕ) (side : Side) : Type 0 where
  pub leaves : Leaves m i side
  pub none : entering m i side ≡ None
  pub ordered : crossed m.table ≡ None

settled-conflict : (m : Moment) (i : ℕ) (side : Side) (o : Option ℕ) → crossed m.table ≡ None → leaving m ≡ o → settle m o ≡ Conflict i side → Conflicts m i side
settled-conflict m i side None x l e = absurd (no-conflict i side (wide_floor m) e)
settled-conflict m i side (Some v) x l e =
    let parts = entered-conflict i (row_of m.table.basic v) side (unwrap_or (broken_at m v) Lower) (entering m (row_of m.table.basic v) (unwrap_or (broken_at m v) Lower)) e in
    record { leaves = leaves m v i side l parts.0 parts.1; none = (none-moved m i (row_of m.table.basic v) side (unwrap_or (broken_at m v) Lower) parts.0 parts.1 parts.2); ordered = x }

pub turn-conflicts : (m : Moment) (i : ℕ) (side : Side) → turn m ≡ Conflict i side → Conflicts m i side
turn-conflicts m i side e =
    ⊎_elim (λ x. absurd (let bad : Conflict i side ≡ Crossed x.0 = x.2 in cc)) (λ rest. ⊎_elim (λ x. absurd (let bad : Conflict i side ≡ Wide x.0 = x.3 in cc)) (λ s. settled-conflict m i side (leaving m) s.0 refl s.2) rest) (turn-comes m (Conflict i side) e)

-- a column that helps is outside the basis, and its entry isn't 0
helps-outside : (m : Moment) (a : ℤ) (c : ℕ) → helps m a c ≡ true → is_basic (standing_at m.standings c) ≡ false
unfolding helps
helps-outside m a c h =
    ⊎_elim
    (λ l. not-true _ (and_parts _ _ (and_parts (int_lt a (pos 0)) (can_rise m c) l).1).0)
    (λ r. not-true _ (and_parts _ _ (and_parts (int_lt (pos 0) a) (can_sink m c) r).1).0)
    (or_cases _ _ h)

helps-some : (m : Moment) (a : ℤ) (c : ℕ) → helps m a c ≡ true → a ≡ pos 0 → ⊥
unfolding helps
helps-some m a c h zero =
    let none : helps m (pos 0) c ≡ true = subst (λ z. helps m z c ≡ true) zero h in
    cc

pub enters-outside : (m : Moment) (i c : ℕ) (side : Side) → may_enter m i side c ≡ true → is_basic (standing_at m.standings c) ≡ false
enters-outside m i c side h = helps-outside m (seen_from side (entry (row_at m.table.rows i) c)) c h

seen-zero : (side : Side) (a : ℤ) → a ≡ pos 0 → seen_from side a ≡ pos 0
seen-zero Lower a e = e
seen-zero Upper a e = ap neg_ℤ e

pub enters-some : (m : Moment) (i c : ℕ) (side : Side) → may_enter m i side c ≡ true → entry (row_at m.table.rows i) c ≡ pos 0 → ⊥
enters-some m i c side h zero = helps-some m (seen_from side (entry (row_at m.table.rows i) c)) c h (seen-zero side (entry (row_at m.table.rows i) c) zero)

-- what comes next
pub next-pivot : (m : Moment) (i c : ℕ) (side : Side) → turn m ≡ Pivot i c side → list_all are_short (pivoted i c m.table.rows) ≡ true → next m ≡ Next (after m i c side)
next-pivot m i c side e small = ap (outcome m) e ∙ cond-true (list_all are_short (pivoted i c m.table.rows)) (Next (after m i c side)) (Ended (Pivot i c side)) small

pub next-wide : (m : Moment) (i c : ℕ) (side : Side) → turn m ≡ Pivot i c side → list_all are_short (pivoted i c m.table.rows) ≡ false → next m ≡ Ended (Pivot i c side)
next-wide m i c side e small = ap (outcome m) e ∙ cond-false (list_all are_short (pivoted i c m.table.rows)) (Next (after m i c side)) (Ended (Pivot i c side)) small

-- a next moment is one after a pivot
pub record IsNext (m n : Moment) : Type 0 where
  pub row : ℕ
  pub column : ℕ
  pub side : Side
  pub turns : turn m ≡ Pivot row column side
  pub short : list_all are_short (pivoted row column m.table.rows) ≡ true
  pub moment : n ≡ after m row column side

next-cases : (m n : Moment) (i c : ℕ) (side : Side) (b : Bool) → turn m ≡ Pivot i c side → list_all are_short (pivoted i c m.table.rows) ≡ b → cond b (Next (after m i c side)) (Ended (Pivot i c side)) ≡ Next n → IsNext m n
next-cases m n i c side true t small e = record { row = i; column = c; side = side; turns = t; short = small; moment = cc }
next-cases m n i c side false t small e = absurd (cc)

outcome-next : (m n : Moment) (t : Turn) → turn m ≡ t → outcome m t ≡ Next n → IsNext m n
outcome-next m n (Crossed c) t e = absurd (cc)
outcome-next m n (Wide c) t e = absurd (cc)
outcome-next m n Vertex t e = absurd (cc)
outcome-next m n (Conflict i side) t e = absurd (cc)
outcome-next m n (Pivot i c side) t e = next-cases m n i c side (list_all are_short (pivoted i c m.table.rows)) t refl e

pub next-is : (m n : Moment) → next m ≡ Next n → IsNext m n
next-is m n e = outcome-next m n (turn m) refl e

pub leaving-basic : (m : Moment) (l : ℕ) → leaving m ≡ Some l → (l < width m.table) × (is_basic (standing_at m.standings l) ≡ true)
unfolding leaving
leaving-basic m l e =
    let found = find-within (may_leave m) 0 (width m.table) l e in
    (omega (arith, found.1), (and_parts (is_basic (standing_at m.standings l)) (is_some (broken_at m l)) found.2).0)

pub settle-none : (m : Moment) → leaving m ≡ None → wide_floor m ≡ None → settle m (leaving m) ≡ Vertex
settle-none m l w = ap (settle m) l ∙ ap (λ o. first_of (option_map Wide o) Vertex) w

pub settle-wide : (m : Moment) (c : ℕ) → leaving m ≡ None → wide_floor m ≡ Some c → settle m (leaving m) ≡ Wide c
settle-wide m c l w = ap (settle m) l ∙ ap (λ o. first_of (option_map Wide o) Vertex) w

pub settle-some : (m : Moment) (l : ℕ) → leaving m ≡ Some l → settle m (leaving m) ≡ leave m (row_of m.table.basic l) (unwrap_or (broken_at m l) Lower)
settle-some m l e = ap (settle m) e

floor-wide : (c : ℕ) (o : Option ℕ) → first_of (option_map Wide o) Vertex ≡ Wide c → o ≡ Some c
floor-wide c None e = absurd (cc)
floor-wide c (Some d) e = cc

enter-wide : (i c : ℕ) (side : Side) (o : Option ℕ) → enter i side o ≡ Wide c → ⊥
enter-wide i c side None e = cc
enter-wide i c side (Some d) e = cc

enter-vertex : (i : ℕ) (side : Side) (o : Option ℕ) → enter i side o ≡ Vertex → ⊥
enter-vertex i side None e = cc
enter-vertex i side (Some d) e = cc

floor-vertex : (o : Option ℕ) → first_of (option_map Wide o) Vertex ≡ Vertex → o ≡ None
floor-vertex None e = refl
floor-vertex (Some d) e = absurd (cc)

-- the column's value has no room, or it has none rounded down at a vertex
abbrev pub Wides : Moment → ℕ → Type 0
Wides m c = (wide m ≡ Some c) ⊎ ((crossed m.table ≡ None) × (leaving m ≡ None) × (wide_floor m ≡ Some c))

settled-wide : (m : Moment) (c : ℕ) (o : Option ℕ) → leaving m ≡ o → settle m o ≡ Wide c → (leaving m ≡ None) × (wide_floor m ≡ Some c)
settled-wide m c None l e = (l, floor-wide c (wide_floor m) e)
settled-wide m c (Some v) l e = absurd (enter-wide (row_of m.table.basic v) c (unwrap_or (broken_at m v) Lower) (entering m (row_of m.table.basic v) (unwrap_or (broken_at m v) Lower)) e)

pub turn-wides : (m : Moment) (c : ℕ) → turn m ≡ Wide c → Wides m c
turn-wides m c e =
    ⊎_elim (λ x. absurd (let bad : Wide c ≡ Crossed x.0 = x.2 in cc)) (λ rest. ⊎_elim (λ x. inl (let same : Wide c ≡ Wide x.0 = x.3 in let number : c ≡ x.0 = cc in x.2 ∙ ap (λ k. Some k) (sym number))) (λ s. let both = settled-wide m c (leaving m) refl s.2 in inr (s.0, both.0, both.1)) rest) (turn-comes m (Wide c) e)

-- a vertex: all bounds are in order, all values have room, and none is outside its bounds
pub record IsAtVertex (m : Moment) : Type 0 where
  pub ordered : crossed m.table ≡ None
  pub fitting : wide m ≡ None
  pub within : leaving m ≡ None
  pub floors : wide_floor m ≡ None

settled-vertex : (m : Moment) (o : Option ℕ) → leaving m ≡ o → settle m o ≡ Vertex → (leaving m ≡ None) × (wide_floor m ≡ None)
settled-vertex m None l e = (l, floor-vertex (wide_floor m) e)
settled-vertex m (Some v) l e = absurd (enter-vertex (row_of m.table.basic v) (unwrap_or (broken_at m v) Lower) (entering m (row_of m.table.basic v) (unwrap_or (broken_at m v) Lower)) e)

pub turn-vertex : (m : Moment) → turn m ≡ Vertex → IsAtVertex m
turn-vertex m e =
    ⊎_elim (λ x. absurd (let bad : Vertex ≡ Crossed x.0 = x.2 in cc)) (λ rest. ⊎_elim (λ x. absurd (let bad : Vertex ≡ Wide x.0 = x.3 in cc)) (λ s. let both = settled-vertex m (leaving m) refl s.2 in record { ordered = s.0; fitting = s.1; within = both.0; floors = both.1 }) rest) (turn-comes m Vertex e)

pub wides-within : (m : Moment) (c : ℕ) → Wides m c → c < width m.table
unfolding wide wide_floor
wides-within m c w =
    let d : Fraction = record { num = pos 0; den = pos 1 } in
    let count = coordinates-length m in
    ⊎_elim (λ x. let found = (position-some is_wide (coordinates m) c d x).0 in omega (arith, found, count)) (λ x. let found = (position-some has_wide_floor (take m.table.variables (coordinates m)) c d x.2).0 in let less = length-take-le m.table.variables (coordinates m) (omega (arith, count)) in omega (arith, found, less)) w

crossed-floor : (c : ℕ) (o : Option ℕ) → first_of (option_map Wide o) Vertex ≡ Crossed c → ⊥
crossed-floor c None e = cc
crossed-floor c (Some d) e = cc

enter-crossed : (i c : ℕ) (side : Side) (o : Option ℕ) → enter i side o ≡ Crossed c → ⊥
enter-crossed i c side None e = cc
enter-crossed i c side (Some d) e = cc

settled-crossed : (m : Moment) (c : ℕ) (o : Option ℕ) → settle m o ≡ Crossed c → ⊥
settled-crossed m c None e = crossed-floor c (wide_floor m) e
settled-crossed m c (Some v) e = enter-crossed (row_of m.table.basic v) c (unwrap_or (broken_at m v) Lower) (entering m (row_of m.table.basic v) (unwrap_or (broken_at m v) Lower)) e

-- the crossed column
pub turn-crosses : (m : Moment) (c : ℕ) → turn m ≡ Crossed c → crossed m.table ≡ Some c
turn-crosses m c e =
    ⊎_elim (λ x. let same : Crossed c ≡ Crossed x.0 = x.2 in let number : c ≡ x.0 = cc in x.1 ∙ ap (λ k. Some k) (sym number)) (λ rest. absurd (⊎_elim (λ x. let bad : Crossed c ≡ Wide x.0 = x.3 in cc) (λ s. settled-crossed m c (leaving m) s.2) rest)) (turn-comes m (Crossed c) e)

-- rows with an entry without room
pub wide-list : (rows : List (List ℤ)) (j : ℕ) (wide : ℤ) → HasWide rows j wide → list_all are_short rows ≡ false
wide-list rows j wide h = list_all_at are_short rows j [] h.within (list_all_at is_short (row_at rows j) h.contains.0 wide h.contains.1 (ap is_short h.contains.2 ∙ le-ltb (nat_abs wide) (2 ^ 63) h.is_wide))
