-- Lists over all columns that are written over for the basic ones, the last row first.
use Rattle.std.proofs.Common.{◌≡◌, ℕ, suc, zero, refl, ap, ap₂, sym, ◌∙◌, arith, ◌<◌, ◌≤◌, ◌+◌, List, ◌∷◌, true, false, Bool, length, map, drop, get_or, set, ◌==◌}
use Rattle.std.specs.Prelude.{ℤ, if◌then◌else◌}
use Rattle.std.specs.List.{range_with_len}
use Rattle.std.proofs.lemmas.Bool.{cond-true, cond-false, eq-eqb, eqb-true, ne_eqb}
use Rattle.std.proofs.lemmas.List.{get_or-set_other, get_or-set_same, length-set}
use Rattle.std.proofs.lemmas.List.FromFn.{fill_by_all, get_or-map-range_with_len, length-map-range_with_len}
use Rattle.std.proofs.lemmas.Simd.{map-map}
use Rattle.int_rows.specs.Basis.{is_in}
use Rattle.int_rows.specs.Table.{Table, basic_at, width}
use Rattle.simplex_core.specs.Standings.{AreStandings}
use Rattle.simplex_core.specs.machinery.Filled.{coordinate_from, filled_at, integer, standing_from}
use Rattle.simplex_core.specs.Run.{Moment, coordinate_at, coordinates, first_standings, is_basic, row_of, row_value, standing_at, stood_at, values}
use Rattle.simplex_core.proofs.MomentLemmas.{is_in-end, is_in-here, is_in-more, row_of-here, row_of-more}

agree : {X : Type 0} (f g : ℕ → X) (a n : ℕ) → ((c : ℕ) → c < a + n → f c ≡ g c) → map f (range_with_len a n) ≡ map g (range_with_len a n)
agree f g a zero same = refl
agree f g a (suc n) same = ap₂ (λ x xs. x ∷ xs) (same a (omega arith)) (agree f g (a + 1) n (λ c h. same c (omega (arith, h))))

set-cases : {X : Type 0} (f g : ℕ → X) (n i k : ℕ) (x : X) (b : Bool) → (k == i) ≡ b → i < n → k < n → x ≡ g i → ((c : ℕ) → (c ≡ i → ⊥) → f c ≡ g c) → get_or (set (map f (range_with_len 0 n)) i x) k x ≡ g k
set-cases f g n i k x true e less within is same =
    let here : k ≡ i = eqb-true k i e in
    ap (λ j. get_or (set (map f (range_with_len 0 n)) i x) j x) here
    ∙ get_or-set_same (map f (range_with_len 0 n)) i x x (omega (arith, less, length-map-range_with_len f 0 n))
    ∙ is ∙ ap g (sym here)
set-cases f g n i k x false e less within is same =
    let other : k ≡ i → ⊥ = λ h. let both : true ≡ false = sym (eq-eqb k i h) ∙ e in absurd (cc) in
    get_or-set_other (map f (range_with_len 0 n)) i k x x other ∙ get_or-map-range_with_len f 0 n k k x within (omega arith) ∙ same k other

-- what is made of each, written over at one place
set-range : {X : Type 0} (f g : ℕ → X) (n i : ℕ) (x : X) → i < n → x ≡ g i → ((c : ℕ) → (c ≡ i → ⊥) → f c ≡ g c) → set (map f (range_with_len 0 n)) i x ≡ map g (range_with_len 0 n)
set-range f g n i x less is same =
    fill_by_all g (set (map f (range_with_len 0 n)) i x) n x (length-set (map f (range_with_len 0 n)) i x ∙ length-map-range_with_len f 0 n) (λ k within. set-cases f g n i k x (k == i) refl less within is same)

filled-here : {X : Type 0} (own outer : ℕ → X) (basic : List ℕ) (i : ℕ) → i < length basic → own i ≡ filled_at own outer basic i (basic_at basic i)
unfolding filled_at
filled-here own outer basic i h =
    let test : (basic_at basic i == basic_at basic i) ≡ true = eq-eqb (basic_at basic i) (basic_at basic i) refl in
    let row : i ≡ i + row_of (drop i basic) (basic_at basic i) = omega (arith, row_of-here basic i (basic_at basic i) h test) in
    ap own row ∙ sym (cond-true (is_in (drop i basic) (basic_at basic i)) (own (i + row_of (drop i basic) (basic_at basic i))) (outer (basic_at basic i)) (is_in-here basic i (basic_at basic i) h test))

filled-other : {X : Type 0} (own outer : ℕ → X) (basic : List ℕ) (i c : ℕ) → i < length basic → (c ≡ basic_at basic i → ⊥) → filled_at own outer basic (i + 1) c ≡ filled_at own outer basic i c
unfolding filled_at
filled-other own outer basic i c h other =
    let test : (basic_at basic i == c) ≡ false = ne_eqb (basic_at basic i) c (λ same. other (sym same)) in
    let row : i + 1 + row_of (drop (i + 1) basic) c ≡ i + row_of (drop i basic) c = omega (arith, row_of-more basic i c h test) in
    ap₂ (λ b k. if b then own k else outer c) (sym (is_in-more basic i c h test)) row

-- one row more
pub filled-more : {X : Type 0} (own outer : ℕ → X) (basic : List ℕ) (i j n : ℕ) (xs : List X) (x : X) → j ≡ i + 1 → i < length basic → basic_at basic i < n → xs ≡ map (filled_at own outer basic j) (range_with_len 0 n) → x ≡ own i → set xs (basic_at basic i) x ≡ map (filled_at own outer basic i) (range_with_len 0 n)
filled-more own outer basic i j n xs x next less within were is =
    ap (λ ys. set ys (basic_at basic i) x) (were ∙ ap (λ k. map (filled_at own outer basic k) (range_with_len 0 n)) next)
    ∙ set-range (filled_at own outer basic (i + 1)) (filled_at own outer basic i) n (basic_at basic i) x within (is ∙ filled-here own outer basic i less) (λ c other. filled-other own outer basic i c less other)

-- before the first row
pub filled-none : {X : Type 0} (own outer : ℕ → X) (basic : List ℕ) (j n : ℕ) → length basic ≤ j → map outer (range_with_len 0 n) ≡ map (filled_at own outer basic j) (range_with_len 0 n)
unfolding filled_at
filled-none own outer basic j n past = agree outer (filled_at own outer basic j) 0 n (λ c h. sym (cond-false (is_in (drop j basic) c) (own (j + row_of (drop j basic) c)) (outer c) (is_in-end basic j c past)))

pub filled-integers : (m : Moment) (j : ℕ) (vs : List ℤ) → length m.table.basic ≤ j → vs ≡ values m → map integer vs ≡ map (coordinate_from m j) (range_with_len 0 (width m.table))
unfolding values
filled-integers m j vs past is =
    ap (map integer) is ∙ map-map integer (stood_at m) (range_with_len 0 (width m.table)) ∙ filled-none (row_value m) (λ k. integer (stood_at m k)) m.table.basic j (width m.table) past

-- after the last one: where each column stands first
pub filled-standings : (t : Table) (i : ℕ) → i ≡ 0 → map (standing_from t i) (range_with_len 0 (width t)) ≡ first_standings t
unfolding filled_at first_standings
filled-standings t i none = ap (λ k. map (standing_from t k) (range_with_len 0 (width t))) none

-- and the values of all columns
pub filled-coordinates : (m : Moment) (i : ℕ) → i ≡ 0 → AreStandings m.table m.standings → map (coordinate_from m i) (range_with_len 0 (width m.table)) ≡ coordinates m
unfolding filled_at coordinate_at coordinates
filled-coordinates m i none legal =
    ap (λ k. map (coordinate_from m k) (range_with_len 0 (width m.table))) none
    ∙ agree (coordinate_from m 0) (coordinate_at m) 0 (width m.table) (λ c h.
    let row : 0 + row_of m.table.basic c ≡ row_of m.table.basic c = omega arith in
    ap₂ (λ b k. if b then row_value m k else integer (stood_at m c)) (sym (legal.basic c (omega (arith, h)))) row)
