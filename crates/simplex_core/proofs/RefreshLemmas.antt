-- A column that a pivot doesn't change keeps its value.
use Rattle.std.proofs.Common.{◌≡◌, ℕ, suc, zero, List, [], ◌∷◌, refl, ap, sym, ◌∙◌, arith, ◌<◌, ◌≤◌, ◌+◌, true, false, Bool, cond, length, get_or, set, map, below_more, eqb, ◌==◌, ⊎_elim}
use Rattle.std.specs.Prelude.{ℤ, find, pos, neg_ℤ, ◌*ℤ◌, nat_abs, not, ◌&&◌, ◌||◌}
use Rattle.std.proofs.lemmas.Bool.{cond-true, eq-eqb, ne_eqb, eqb-true}
use Rattle.std.proofs.lemmas.Int.{ints}
use Rattle.std.proofs.lemmas.List.{get_or-set_other, get_or-set_same, length-set}
use Rattle.std.specs.List.{range_with_len}
use Rattle.lin_atoms.specs.Ratio.{Fraction}
use Rattle.int_rows.specs.Basis.{bound, is_in}
use Rattle.int_rows.specs.Rows.{entry}
use Rattle.int_rows.specs.Table.{IsTable, Table, basic_at, pivoted, row_at, width}
use Rattle.int_rows.proofs.Public.{length-pivoted, pivoted-other}
use Rattle.simplex_core.specs.Coordinate.{coordinate, others}
use Rattle.simplex_core.specs.Standings.{AreStandings}
use Rattle.simplex_core.specs.machinery.Refresh.{changes}
use Rattle.simplex_core.specs.Run.{Moment, after, after_pivot, are_crossed_at, coordinate_at, coordinates, crossed, is_basic, moment, restood, row_of, row_value, settled, standing_at, stood, stood_at, values}
use Rattle.simplex_core.specs.declared.standing.Standing.{Standing}
use Rattle.simplex_core.specs.declared.standing.Standing.TheVariants.{Basic}
use Rattle.simplex_core.specs.declared.turn.Side.{Side}
use Rattle.simplex_core.proofs.CoordinateLemmas.{masked-at}
use Rattle.simplex_core.proofs.GoodLemmas.{PivotsRow}
use Rattle.simplex_core.proofs.MomentLemmas.{basic-coordinate, coordinates-at, coordinates-length, outer-coordinate, row_of-at, row_of-within, values-at, values-length}
use Rattle.simplex_core.proofs.PointLemmas.{decided}
use Rattle.simplex_core.proofs.SumLemmas.{dot-total, total-same}

pub width-kept : (t : Table) (i c : ℕ) → width (after_pivot t i c) ≡ width t
width-kept t i c = ap (λ n. t.variables + n) (length-pivoted i c t.rows)

-- a pivot changes no bounds
pub crossed-kept : (t : Table) (i c : ℕ) → crossed (after_pivot t i c) ≡ crossed t
unfolding crossed
crossed-kept t i c = ap (λ n. find (are_crossed_at t) (range_with_len 0 n)) (width-kept t i c)

or-none : (a b : Bool) → (a || b) ≡ false → (a ≡ false) × (b ≡ false)
or-none true b e = absurd (cc)
or-none false b e = (refl, e)

and-none : (a b : Bool) → a ≡ true → (a && not b) ≡ false → b ≡ true
and-none true true h e = refl
and-none true false h e = absurd (cc)
and-none false b h e = absurd (cc)

-- what isn't changed is another column than the entering one, and where it is basic its row lacks that column
pub unchanged : (t : Table) (column c : ℕ) → changes t column c ≡ false → ((c ≡ column → ⊥) × (is_in t.basic c ≡ true → entry (row_at t.rows (row_of t.basic c)) column ≡ pos 0))
unchanged t column c e =
    let a = entry (row_at t.rows (row_of t.basic c)) column in
    let parts = or-none (c == column) (is_in t.basic c && not (nat_abs a == 0)) e in (
      λ same. let yes' = eq-eqb c column same in let both : false ≡ true = sym parts.0 ∙ yes' in absurd (cc),
      λ there. let none : nat_abs a ≡ 0 = eqb-true (nat_abs a) 0 (and-none (is_in t.basic c) (nat_abs a == 0) there parts.1) in omega (arith, ints),
    )

row_of-set : (basic : List ℕ) (i c q : ℕ) → (basic_at basic i ≡ q → ⊥) → (c ≡ q → ⊥) → row_of (set basic i c) q ≡ row_of basic q
row_of-set [] i c q e f = refl
row_of-set (b ∷ basic) zero c q e f = ap (λ t. cond t 0 (suc (row_of basic q))) (ne_eqb c q f) ∙ sym (ap (λ t. cond t 0 (suc (row_of basic q))) (ne_eqb b q e))
row_of-set (b ∷ basic) (suc i) c q e f = ap (λ n. cond (b == q) 0 (suc n)) (row_of-set basic i c q e f)

-- what is known of a pivot and of a column that it doesn't change
pub record IsUnchanged (t : Table) (standings : List Standing) (i c : ℕ) (side : Side) (q : ℕ) : Type 0 where
  pub table : IsTable t
  pub legal : AreStandings t standings
  pub pivots : PivotsRow (moment t standings) i c side
  pub within : q < width t
  pub same : changes t c q ≡ false

abbrev Leaver : Table → ℕ → ℕ
Leaver t i = basic_at t.basic i

in_there : (basic : List ℕ) (i : ℕ) → i < length basic → is_in basic (basic_at basic i) ≡ true
in_there [] i h = absurd (omega arith)
in_there (b ∷ basic) zero h = ap (λ t. t || is_in basic b) (eq-eqb b b refl)
in_there (b ∷ basic) (suc i) h = ap (λ t. (b == basic_at basic i) || t) (in_there basic i (omega arith)) ∙ late (b == basic_at basic i) where
  late : (b : Bool) → (b || true) ≡ true
  late true = refl
  late false = refl

-- the leaving column is changed
no-leaver : (t : Table) (standings : List Standing) (i c q : ℕ) (side : Side) → IsUnchanged t standings i c side q → q ≡ basic_at t.basic i → ⊥
no-leaver t standings i c q side u same =
    let within : i < length t.basic = omega (arith, u.pivots.row.within, u.table.basics) in
    let there : is_in t.basic q ≡ true = ap (is_in t.basic) same ∙ in_there t.basic i within in
    let k = row_of t.basic q in
    let k_within : k < length t.basic = row_of-within t.basic q there in
    let at : basic_at t.basic k ≡ basic_at t.basic i = row_of-at t.basic q there ∙ same in
    let none = (unchanged t c q u.same).1 there in
    ⊎_elim
    (λ e. u.pivots.some (sym (ap (λ j. entry (row_at t.rows j) c) e) ∙ none))
    (λ ne. let solved = u.table.solved i u.pivots.row.within in
    let nil : entry (row_at t.rows i) (basic_at t.basic i) ≡ pos 0 = sym (ap (entry (row_at t.rows i)) at) ∙ solved.zero k k_within ne in
    let some = solved.positive in
    omega (arith, ints, nil, some))
    (decided k i)

stands-same : (t : Table) (standings : List Standing) (i c q : ℕ) (side : Side) → IsUnchanged t standings i c side q → standing_at (restood t standings (basic_at t.basic i) c side) q ≡ standing_at standings q
stands-same t standings i c q side u =
    let l = basic_at t.basic i in
    let x = settled (bound t.lower l) (bound t.upper l) side in
    get_or-set_other (set standings l x) c q Basic Basic (unchanged t c q u.same).0 ∙ get_or-set_other standings l q x Basic (no-leaver t standings i c q side u)

-- any other column has the value that it had
value-same : (t : Table) (standings : List Standing) (i c v : ℕ) (side : Side) → v < width t → (v ≡ c → ⊥) → (v ≡ basic_at t.basic i → ⊥) → entry (values (after (moment t standings) i c side)) v ≡ entry (values (moment t standings)) v
value-same t standings i c v side h one two =
    let l = basic_at t.basic i in
    let x = settled (bound t.lower l) (bound t.upper l) side in
    let m' = after (moment t standings) i c side in
    let there : standing_at m'.standings v ≡ standing_at standings v = get_or-set_other (set standings l x) c v Basic Basic one ∙ get_or-set_other standings l v x Basic two in
    let h' : v < width m'.table = omega (arith, h, width-kept t i c) in
    values-at m' v (pos 0) h' ∙ ap (stood (bound t.lower v) (bound t.upper v)) there ∙ sym (values-at (moment t standings) v (pos 0) h)

zero-product : (a x y : ℤ) → a ≡ pos 0 → a *ℤ x ≡ a *ℤ y
zero-product a x y e = ap (λ z. z *ℤ x) e ∙ omega (arith, ints) ∙ sym (ap (λ z. z *ℤ y) e)

cond-zero : (b : Bool) (a : ℤ) → a ≡ pos 0 → cond b (pos 0) a ≡ pos 0
cond-zero true a e = refl
cond-zero false a e = e

-- the others of a row that lacks both columns
others-same : (t : Table) (standings : List Standing) (i c k : ℕ) (side : Side) → IsTable t → AreStandings t standings → PivotsRow (moment t standings) i c side → k < length t.rows → (k ≡ i → ⊥) → entry (row_at t.rows k) c ≡ pos 0
    → others (row_at t.rows k) (values (after (moment t standings) i c side)) (basic_at t.basic k) ≡ others (row_at t.rows k) (values (moment t standings)) (basic_at t.basic k)
others-same t standings i c k side table legal pivots h away none =
    let m = moment t standings in
    let m' = after m i c side in
    let n = width t in
    let row = row_at t.rows k in
    let own = basic_at t.basic k in
    let masked = set row own (pos 0) in
    let solved = table.solved k h in
    let inside : own < length row = omega (arith, table.within k (omega (arith, table.basics)), solved.width) in
    let long : length masked ≡ n = length-set row own (pos 0) ∙ solved.width in
    let nil : (v : ℕ) → entry row v ≡ pos 0 → entry masked v ≡ pos 0 = λ v e. masked-at row own v inside ∙ cond-zero (eqb v own) (entry row v) e in
    let leaver : entry row (basic_at t.basic i) ≡ pos 0 = solved.zero i (omega (arith, pivots.row.within, table.basics)) (λ e. away (sym e)) in
    let each : (v : ℕ) → 0 ≤ v → v < 0 + n → entry masked v *ℤ entry (values m') v ≡ entry masked v *ℤ entry (values m) v =
    λ v low high. ⊎_elim
    (λ e. zero-product (entry masked v) (entry (values m') v) (entry (values m) v) (nil v (ap (entry row) e ∙ none)))
    (λ one. ⊎_elim
    (λ e. zero-product (entry masked v) (entry (values m') v) (entry (values m) v) (nil v (ap (entry row) e ∙ leaver)))
    (λ two. ap (λ z. entry masked v *ℤ z) (value-same t standings i c v side (omega arith) one two))
    (decided v (basic_at t.basic i)))
    (decided v c) in
    dot-total masked (values m') n long (values-length m' ∙ width-kept t i c)
    ∙ total-same (λ v. entry masked v *ℤ entry (values m') v) (λ v. entry masked v *ℤ entry (values m) v) 0 n each
    ∙ sym (dot-total masked (values m) n long (values-length m))

basic-same : (t : Table) (standings : List Standing) (i c q : ℕ) (side : Side) → IsUnchanged t standings i c side q → is_basic (standing_at standings q) ≡ true → coordinate_at (after (moment t standings) i c side) q ≡ coordinate_at (moment t standings) q
basic-same t standings i c q side u basic =
    let m = moment t standings in
    let m' = after m i c side in
    let table = u.table in
    let there : is_in t.basic q ≡ true = sym (u.legal.basic q u.within) ∙ basic in
    let k = row_of t.basic q in
    let k_within : k < length t.basic = row_of-within t.basic q there in
    let k_row : k < length t.rows = omega (arith, table.basics, k_within) in
    let at : basic_at t.basic k ≡ q = row_of-at t.basic q there in
    let away : k ≡ i → ⊥ = λ e. no-leaver t standings i c q side u (sym at ∙ ap (basic_at t.basic) e) in
    let parts = unchanged t c q u.same in
    let none : entry (row_at t.rows k) c ≡ pos 0 = parts.1 there in
    let rows : row_at (pivoted i c t.rows) k ≡ row_at t.rows k = pivoted-other i k c t.rows k_row away ∙ cond-true (nat_abs (entry (row_at t.rows k) c) == 0) (row_at t.rows k) _ (eq-eqb (nat_abs (entry (row_at t.rows k) c)) 0 (ap nat_abs none)) in
    let own : basic_at (set t.basic i c) k ≡ basic_at t.basic k = get_or-set_other t.basic i k c 0 away in
    let place : row_of (set t.basic i c) q ≡ k = row_of-set t.basic i c q (λ e. no-leaver t standings i c q side u (sym e)) (λ e. parts.0 (sym e)) in
    let made : List ℤ → List ℤ → ℕ → Fraction = λ row vs b. coordinate row vs b in
    let other = others-same t standings i c k side table u.legal u.pivots k_row away none in
    basic-coordinate m' q (ap is_basic (stands-same t standings i c q side u) ∙ basic)
    ∙ ap (row_value m') place
    ∙ ap (λ (row : List ℤ). coordinate row (values m') (basic_at (set t.basic i c) k)) rows
    ∙ ap (λ b. coordinate (row_at t.rows k) (values m') b) own
    ∙ ap (λ (o : ℤ). record { num = neg_ℤ o; den = entry (row_at t.rows k) (basic_at t.basic k) }) other
    ∙ sym (basic-coordinate m q basic)

outer-same : (t : Table) (standings : List Standing) (i c q : ℕ) (side : Side) → IsUnchanged t standings i c side q → is_basic (standing_at standings q) ≡ false → coordinate_at (after (moment t standings) i c side) q ≡ coordinate_at (moment t standings) q
outer-same t standings i c q side u out =
    let m = moment t standings in
    let m' = after m i c side in
    let stands = stands-same t standings i c q side u in
    let value : stood_at m' q ≡ stood_at m q = ap (stood (bound t.lower q) (bound t.upper q)) stands in
    outer-coordinate m' q (ap is_basic stands ∙ out) ∙ ap (λ (z : ℤ). record { num = z; den = pos 1 }) value ∙ sym (outer-coordinate m q out)

pub coordinate-same : (t : Table) (standings : List Standing) (i c q : ℕ) (side : Side) → IsUnchanged t standings i c side q → coordinate_at (after (moment t standings) i c side) q ≡ coordinate_at (moment t standings) q
coordinate-same t standings i c q side u = by (is_basic (standing_at standings q)) refl where
  by : (b : Bool) → is_basic (standing_at standings q) ≡ b → coordinate_at (after (moment t standings) i c side) q ≡ coordinate_at (moment t standings) q
  by true e = basic-same t standings i c q side u e
  by false e = outer-same t standings i c q side u e

-- the values that are taken anew so far, and those as they were
pub record AreRenewed (f : ℕ → Fraction) (old kept : List Fraction) (i : ℕ) : Type 0 where
  pub done : (c : ℕ) → c < i → (d : Fraction) → get_or kept c d ≡ f c
  pub rest : (c : ℕ) (d : Fraction) → i ≤ c → get_or kept c d ≡ get_or old c d
  pub long : length kept ≡ length old

pub renewed-more : (f : ℕ → Fraction) (old kept : List Fraction) (i : ℕ) (mark : Bool) → i < length old → AreRenewed f old kept i → (mark ≡ false → (d : Fraction) → get_or old i d ≡ f i) → AreRenewed f old (cond mark (set kept i (f i)) kept) (i + 1)
renewed-more f old kept i true h are same =
    let P : ℕ → Type 0 = λ c. (d : Fraction) → get_or (set kept i (f i)) c d ≡ f c in
    record {
      done = below_more P i
          (λ c k d. get_or-set_other kept i c (f i) d (λ e. omega (arith, e)) ∙ are.done c k d)
          (λ d. get_or-set_same kept i (f i) d (omega (arith, are.long)));
      rest = λ c d k. get_or-set_other kept i c (f i) d (λ e. omega (arith, e)) ∙ are.rest c d (omega arith);
      long = length-set kept i (f i) ∙ are.long;
    }
renewed-more f old kept i false h are same =
    let P : ℕ → Type 0 = λ c. (d : Fraction) → get_or kept c d ≡ f c in
    record {
      done = below_more P i are.done (λ d. are.rest i d (omega arith) ∙ same refl d);
      rest = λ c d k. are.rest c d (omega arith);
      long = are.long;
    }

pub values-kept : (t : Table) (standings : List Standing) (i c : ℕ) → values (moment (after_pivot t i c) standings) ≡ values (moment t standings)
unfolding values
values-kept t standings i c = ap (λ n. map (stood_at (moment t standings)) (range_with_len 0 n)) (width-kept t i c)

-- all values are those of the moment
pub renewed-all : (m : Moment) (old kept : List Fraction) (i : ℕ) → length old ≡ width m.table → width m.table ≤ i → AreRenewed (coordinate_at m) old kept i → kept ≡ coordinates m
renewed-all m old kept i e h are =
    let none : Fraction = record { num = pos 0; den = pos 1 } in
    same_list kept (coordinates m) none (are.long ∙ e ∙ sym (coordinates-length m)) (λ c k. let within : c < width m.table = omega (arith, k, are.long, e) in are.done c (omega arith) none ∙ sym (coordinates-at m c none within)) where
      same_list : (xs ys : List Fraction) (d : Fraction) → length xs ≡ length ys → ((c : ℕ) → c < length xs → get_or xs c d ≡ get_or ys c d) → xs ≡ ys
      same_list [] [] d e h = refl
      same_list [] (y ∷ ys) d e h = absurd (omega arith)
      same_list (x ∷ xs) [] d e h = absurd (omega arith)
      same_list (x ∷ xs) (y ∷ ys) d e h = ap (λ z. z ∷ xs) (h 0 (omega arith)) ∙ ap (λ zs. y ∷ zs) (same_list xs ys d (omega arith) (λ c k. h (suc c) (omega arith)))

-- a mark that isn't there wasn't there before, and isn't of the column that was marked
pub marked-more : (made : List Bool) (b : ℕ) (keep : Bool) (x : ℕ) → b < length made → get_or (cond keep (set made b true) made) x false ≡ false → (get_or made x false ≡ false) × (x ≡ b → keep ≡ false)
marked-more made b false x h e = (e, λ same. refl)
marked-more made b true x h e = ⊎_elim
    (λ same. let there : get_or (set made b true) x false ≡ true = ap (λ k. get_or (set made b true) k false) same ∙ get_or-set_same made b true false h in let both : true ≡ false = sym there ∙ e in absurd (cc))
    (λ other. (sym (get_or-set_other made b x true false other) ∙ e, λ same. absurd (other same)))
    (decided x b)

pub length-marked : (made : List Bool) (b : ℕ) (keep : Bool) → length (cond keep (set made b true) made) ≡ length made
length-marked made b true = length-set made b true
length-marked made b false = refl

-- the rows so far whose basic column has no mark lack the column
abbrev pub AreMarked : Table → ℕ → List Bool → ℕ → Type 0
AreMarked t column made i = (j : ℕ) → j < i → get_or made (basic_at t.basic j) false ≡ false → not (nat_abs (entry (row_at t.rows j) column) == 0) ≡ false

pub marked-row : (t : Table) (column i : ℕ) (made : List Bool) (keep : Bool) → basic_at t.basic i < length made → keep ≡ not (nat_abs (entry (row_at t.rows i) column) == 0) → AreMarked t column made i → AreMarked t column (cond keep (set made (basic_at t.basic i) true) made) (i + 1)
marked-row t column i made keep h is before =
    let new = cond keep (set made (basic_at t.basic i) true) made in
    let P : ℕ → Type 0 = λ j. get_or new (basic_at t.basic j) false ≡ false → not (nat_abs (entry (row_at t.rows j) column) == 0) ≡ false in
    below_more P i
    (λ j k e. before j k (marked-more made (basic_at t.basic i) keep (basic_at t.basic j) h e).0)
    (λ e. sym is ∙ (marked-more made (basic_at t.basic i) keep (basic_at t.basic i) h e).1 refl)

changes-none : (b d z : Bool) → b ≡ false → (d ≡ true → z ≡ false) → (b || (d && z)) ≡ false
changes-none true d z e f = absurd (cc)
changes-none false true z e f = f refl
changes-none false false z e f = refl

pub marked-all : (t : Table) (column i c : ℕ) (made : List Bool) → IsTable t → length t.rows ≤ i → column < length made → AreMarked t column made i → get_or (set made column true) c false ≡ false → changes t column c ≡ false
marked-all t column i c made table all h marked e =
    let last = marked-more made column true c h e in
    let ne : (c == column) ≡ false = ne_eqb c column (λ same. let no' : true ≡ false = last.1 same in absurd (cc)) in
    changes-none (c == column) (is_in t.basic c) (not (nat_abs (entry (row_at t.rows (row_of t.basic c)) column) == 0)) ne (λ there.
    let k = row_of t.basic c in
    let within : k < i = omega (arith, row_of-within t.basic c there, table.basics, all) in
    marked k within (ap (λ x. get_or made x false) (row_of-at t.basic c there) ∙ last.0))
