-- Values and coordinates at a moment, column by column.
use Rattle.std.proofs.Common.{◌≡◌, ℕ, suc, List, [], ◌∷◌, refl, ap, ◌∙◌, arith, ◌<◌, ◌≤◌, ◌+◌, true, false, Bool, cond, length, get_or, drop, ◌==◌}
use Rattle.std.specs.Prelude.{ℤ, pos, int_lt, ◌<ℤ◌, ◌||◌, ◌^◌, Option, Some, None}
use Rattle.std.proofs.lemmas.Bool.{cond-true, cond-false, eqb-true}
use Rattle.std.proofs.lemmas.Int.{ints}
use Rattle.std.proofs.lemmas.List.{drop_more, drop_all}
use Rattle.std.proofs.lemmas.List.FromFn.{get_or-map-range_with_len, length-map-range_with_len}
use Rattle.lin_atoms.specs.Ratio.{Fraction}
use Rattle.int_rows.specs.Basis.{bound, is_in}
use Rattle.int_rows.specs.Table.{Table, basic_at, width}
use Rattle.simplex_core.specs.Standings.{AreStandings, may_stand}
use Rattle.simplex_core.specs.Run.{Moment, can_rise, can_sink, coordinate_at, coordinates, first_standing, first_standing_at, first_standings, helps, is_basic, row_of, row_value, standing_at, stood_at, values}
use Rattle.simplex_core.specs.declared.standing.Standing.TheVariants.{Basic}

pub values-length : (m : Moment) → length (values m) ≡ width m.table
unfolding values
values-length m = length-map-range_with_len (stood_at m) 0 (width m.table)

pub values-at : (m : Moment) (c : ℕ) (d : ℤ) → c < width m.table → get_or (values m) c d ≡ stood_at m c
unfolding values
values-at m c d h = get_or-map-range_with_len (stood_at m) 0 (width m.table) c c d h (omega arith)

pub coordinates-length : (m : Moment) → length (coordinates m) ≡ width m.table
unfolding coordinates
coordinates-length m = length-map-range_with_len (coordinate_at m) 0 (width m.table)

pub coordinates-at : (m : Moment) (c : ℕ) (d : Fraction) → c < width m.table → get_or (coordinates m) c d ≡ coordinate_at m c
unfolding coordinates
coordinates-at m c d h = get_or-map-range_with_len (coordinate_at m) 0 (width m.table) c c d h (omega arith)

or-false : (a : Bool) → (a || false) ≡ a
or-false true = refl
or-false false = refl

below : (a : ℤ) → a <ℤ pos 0 → int_lt a (pos 0) ≡ true
below a h = grind (arith, ints)

above : (a : ℤ) → pos 0 <ℤ a → int_lt (pos 0) a ≡ true
above a h = grind (arith, ints)

not-below : (a : ℤ) → pos 0 <ℤ a → int_lt a (pos 0) ≡ false
not-below a h = grind (arith, ints)

not-above : (a : ℤ) → a <ℤ pos 0 → int_lt (pos 0) a ≡ false
not-above a h = grind (arith, ints)

pub helps-below : (m : Moment) (a : ℤ) (c : ℕ) → a <ℤ pos 0 → helps m a c ≡ can_rise m c
unfolding helps
helps-below m a c h = rw (below a h, not-above a h) (or-false (can_rise m c))

pub helps-above : (m : Moment) (a : ℤ) (c : ℕ) → pos 0 <ℤ a → helps m a c ≡ can_sink m c
unfolding helps
helps-above m a c h = rw (not-below a h, above a h) refl

pub helps-zero : (m : Moment) (a : ℤ) (c : ℕ) → a ≡ pos 0 → helps m a c ≡ false
unfolding helps
helps-zero m a c h = rw h refl

-- a column in a list, from a place on
pub is_in-more : (basic : List ℕ) (i c : ℕ) → i < length basic → (basic_at basic i == c) ≡ false → is_in (drop i basic) c ≡ is_in (drop (i + 1) basic) c
is_in-more basic i c h e = ap (λ xs. is_in xs c) (drop_more basic i 0 h) ∙ ap (λ b. b || is_in (drop (i + 1) basic) c) e

pub is_in-here : (basic : List ℕ) (i c : ℕ) → i < length basic → (basic_at basic i == c) ≡ true → is_in (drop i basic) c ≡ true
is_in-here basic i c h e = ap (λ xs. is_in xs c) (drop_more basic i 0 h) ∙ ap (λ b. b || is_in (drop (i + 1) basic) c) e

pub is_in-end : (basic : List ℕ) (i c : ℕ) → length basic ≤ i → is_in (drop i basic) c ≡ false
is_in-end basic i c h = ap (λ xs. is_in xs c) (drop_all i basic h)

pub row_of-more : (basic : List ℕ) (i c : ℕ) → i < length basic → (basic_at basic i == c) ≡ false → row_of (drop i basic) c ≡ suc (row_of (drop (i + 1) basic) c)
row_of-more basic i c h e = ap (λ xs. row_of xs c) (drop_more basic i 0 h) ∙ cond-false (basic_at basic i == c) 0 (suc (row_of (drop (i + 1) basic) c)) e

pub row_of-here : (basic : List ℕ) (i c : ℕ) → i < length basic → (basic_at basic i == c) ≡ true → row_of (drop i basic) c ≡ 0
row_of-here basic i c h e = ap (λ xs. row_of xs c) (drop_more basic i 0 h) ∙ cond-true (basic_at basic i == c) 0 (suc (row_of (drop (i + 1) basic) c)) e

pub row_of-end : (basic : List ℕ) (i c : ℕ) → length basic ≤ i → row_of (drop i basic) c ≡ 0
row_of-end basic i c h = ap (λ xs. row_of xs c) (drop_all i basic h)

within-cases : (b : ℕ) (basic : List ℕ) (c : ℕ) (t : Bool) → (is_in basic c ≡ true → row_of basic c < length basic) → (t || is_in basic c) ≡ true → cond t 0 (suc (row_of basic c)) < suc (length basic)
within-cases b basic c true rest h = omega arith
within-cases b basic c false rest h = omega (arith, rest h)

-- the row of a column in the list is there
pub row_of-within : (basic : List ℕ) (c : ℕ) → is_in basic c ≡ true → row_of basic c < length basic
row_of-within [] c h = cc
row_of-within (b ∷ basic) c h = within-cases b basic c (b == c) (row_of-within basic c) h

at-cases : (b : ℕ) (basic : List ℕ) (c : ℕ) (t : Bool) → (b == c) ≡ t → (is_in basic c ≡ true → basic_at basic (row_of basic c) ≡ c) → (t || is_in basic c) ≡ true → basic_at (b ∷ basic) (cond t 0 (suc (row_of basic c))) ≡ c
at-cases b basic c true e rest h = eqb-true b c e
at-cases b basic c false e rest h = rest h

-- and the column is basic there
pub row_of-at : (basic : List ℕ) (c : ℕ) → is_in basic c ≡ true → basic_at basic (row_of basic c) ≡ c
row_of-at [] c h = cc
row_of-at (b ∷ basic) c h = at-cases b basic c (b == c) refl (row_of-at basic c) h

pub basic-coordinate : (m : Moment) (c : ℕ) → is_basic (standing_at m.standings c) ≡ true → coordinate_at m c ≡ row_value m (row_of m.table.basic c)
unfolding coordinate_at
basic-coordinate m c h = cond-true (is_basic (standing_at m.standings c)) (row_value m (row_of m.table.basic c)) (record { num = stood_at m c; den = pos 1 }) h

pub outer-coordinate : (m : Moment) (c : ℕ) → is_basic (standing_at m.standings c) ≡ false → coordinate_at m c ≡ record { num = stood_at m c; den = pos 1 }
unfolding coordinate_at
outer-coordinate m c h = cond-false (is_basic (standing_at m.standings c)) (row_value m (row_of m.table.basic c)) (record { num = stood_at m c; den = pos 1 }) h

pub first-at : (t : Table) (c : ℕ) → c < width t → standing_at (first_standings t) c ≡ first_standing_at t c
unfolding first_standings
first-at t c h = get_or-map-range_with_len (first_standing_at t) 0 (width t) c c Basic h (omega arith)

first-basic : (b : Bool) (l u : Option ℤ) → is_basic (cond b Basic (first_standing l u)) ≡ b
first-basic true l u = refl
first-basic false (Some l) u = refl
first-basic false None (Some u) = refl
first-basic false None None = refl

first-stands : (b : Bool) (l u : Option ℤ) → may_stand l u (cond b Basic (first_standing l u)) ≡ true
first-stands true l u = refl
first-stands false (Some l) u = refl
first-stands false None (Some u) = refl
first-stands false None None = refl

pub first-legal : (t : Table) → width t < 2 ^ 32 → AreStandings t (first_standings t)
unfolding first_standings
first-legal t few = record {
  each = length-map-range_with_len (first_standing_at t) 0 (width t);
  few = few;
  basic = λ c h. ap is_basic (first-at t c h) ∙ first-basic (is_in t.basic c) (bound t.lower c) (bound t.upper c);
  stand = λ c h. ap (may_stand (bound t.lower c) (bound t.upper c)) (first-at t c h) ∙ first-stands (is_in t.basic c) (bound t.lower c) (bound t.upper c);
}
