-- A form more before the first pivot.
use Rattle.std.proofs.Common.{◌≡◌, ℕ, suc, List, [], ◌∷◌, ◌++◌, ap, sym, ◌∙◌, refl, arith, ◌<◌, ◌≤◌, ◌+◌, true, false, Bool, cond, ◌==◌, length, map, replicate}
use Rattle.std.specs.Prelude.{ℤ, pos, neg_ℤ, nat_abs, Option, None}
use Rattle.std.specs.List.{list_all, range_with_len}
use Rattle.std.proofs.lemmas.Bool.{eqb-true}
use Rattle.std.proofs.lemmas.List.{length-append, map-append, replicate_more}
use Rattle.std.proofs.lemmas.List.FromFn.{get_or-range_with_len, length-range_with_len}
use Rattle.std.proofs.lemmas.List.Folds.{list_all-append}
use Rattle.lin_atoms.specs.Linear.{Linear, lin_is_below}
use Rattle.lin_atoms.proofs.Public.{both_true}
use Rattle.int_rows.specs.Node.{coefficient, equation, equations}
use Rattle.int_rows.specs.Pivot.{eliminated}
use Rattle.int_rows.specs.Pushed.{freed, next_equation, pushed, widened}
use Rattle.int_rows.specs.Rows.{entry}
use Rattle.int_rows.specs.Table.{Table, basic_at, first_table, width}
use Rattle.int_rows.proofs.EquationLemmas.{coefficient-none, equation-at, equation_entry, equations-++, length-equations, other-entry, range-more}
use Rattle.int_rows.proofs.PivotLemmas.{Crossed}

-- an equation is 0 in a column that is neither its slack nor a variable of its form
beside : (variables columns slack v : ℕ) (lin : Linear) → lin_is_below variables lin ≡ true → variables ≤ v → (v ≡ slack → ⊥) → equation_entry slack lin v ≡ pos 0
beside variables columns slack v lin below past away =
    other-entry (v == slack) (pos 1) (neg_ℤ (coefficient lin.terms v)) (λ e. away (eqb-true _ _ e)) ∙ ap neg_ℤ (coefficient-none variables v lin.terms below past)

-- an equation with a column more
wider-equation : (variables columns slack : ℕ) (lin : Linear) → lin_is_below variables lin ≡ true → variables ≤ columns → slack < columns → equation columns slack lin ++ pos 0 ∷ [] ≡ equation (columns + 1) slack lin
wider-equation variables columns slack lin below past h =
    let f = equation_entry slack lin in
    let none : f columns ≡ pos 0 = beside variables columns slack columns lin below past (λ e. absurd (omega (arith, h, e))) in
    let range : range_with_len 0 (columns + 1) ≡ range_with_len 0 columns ++ columns ∷ [] = range-more 0 columns ∙ (let e : 0 + columns ≡ columns = omega arith in ap (λ n. range_with_len 0 columns ++ n ∷ []) e) in
    ap (λ z. map f (range_with_len 0 columns) ++ z ∷ []) (sym none) ∙ sym (map-append f (range_with_len 0 columns) (columns ∷ [])) ∙ ap (map f) (sym range)

wider-equations : (variables columns slack : ℕ) (lins : List Linear) → list_all (lin_is_below variables) lins ≡ true → variables ≤ columns → slack + length lins ≤ columns → widened (equations columns slack lins) ≡ equations (columns + 1) slack lins
wider-equations variables columns slack [] below past h = refl
wider-equations variables columns slack (lin ∷ lins) below past h =
    let both = both_true (lin_is_below variables lin) _ below in
    ap (λ (row : List ℤ). row ∷ widened (equations columns (slack + 1) lins)) (wider-equation variables columns slack lin both.0 past (omega (arith, h)))
    ∙ ap (λ (rows : List (List ℤ)). equation (columns + 1) slack lin ∷ rows) (wider-equations variables columns (slack + 1) lins both.1 past (omega (arith, h)))

kept-row : (b : Bool) (row made : List ℤ) → b ≡ true → cond b row made ≡ row
kept-row true row made e = refl
kept-row false row made e = absurd (cc)

-- a row that is 0 in a column has nothing to be freed of
eliminated-none : (column : ℕ) (other row : List ℤ) → entry row column ≡ pos 0 → eliminated column other row ≡ row
eliminated-none column other row none = kept-row (nat_abs (entry row column) == 0) row (Crossed column other row) (ap (λ z. nat_abs z == 0) none)

freed-none : (basic : List ℕ) (others : List (List ℤ)) (row : List ℤ) → ((i : ℕ) → i < length basic → entry row (basic_at basic i) ≡ pos 0) → freed basic others row ≡ row
freed-none [] others row none = refl
freed-none (c ∷ basic) [] row none = refl
freed-none (c ∷ basic) (o ∷ others) row none = ap (freed basic others) (eliminated-none c o row (none 0 (omega arith))) ∙ freed-none basic others row (λ i h. none (suc i) (omega (arith, h)))

pub first-push : (variables : ℕ) (lins : List Linear) (lin : Linear) → list_all (lin_is_below variables) (lins ++ lin ∷ []) ≡ true → pushed lin (first_table variables lins) ≡ first_table variables (lins ++ lin ∷ [])
first-push variables lins lin below =
    let v = variables in
    let n = length lins in
    let t = first_table v lins in
    let both = both_true (list_all (lin_is_below v) lins) _ (sym (list_all-append (lin_is_below v) lins (lin ∷ [])) ∙ below) in
    let own = (both_true (lin_is_below v lin) _ both.1).0 in
    let next : width t ≡ v + n = ap (λ k. v + k) (length-equations (v + n) v lins) in
    let count : length (lins ++ lin ∷ []) ≡ n + 1 = length-append lins (lin ∷ []) in
    let columns : v + n + 1 ≡ v + length (lins ++ lin ∷ []) = omega (arith, count) in
    let row = equation (v + n + 1) (v + n) lin in
    let wide = widened (equations (v + n) v lins) in
    let none = freed-none (range_with_len v n) wide row (λ i h.
    let less : i < n = omega (arith, h, length-range_with_len v n) in
    ap (entry row) (get_or-range_with_len v n i 0 less) ∙ equation-at (v + n + 1) (v + n) lin (v + i) (omega (arith, less)) ∙ beside v (v + n + 1) (v + n) (v + i) lin own (omega arith) (λ e. absurd (omega (arith, e, less)))) in
    let rows : wide ++ freed (range_with_len v n) wide (next_equation t lin) ∷ [] ≡ equations (v + length (lins ++ lin ∷ [])) v (lins ++ lin ∷ []) =
    ap (λ s. wide ++ freed (range_with_len v n) wide (equation (s + 1) s lin) ∷ []) next
    ∙ ap (λ (r : List ℤ). wide ++ r ∷ []) none
    ∙ ap (λ (rs : List (List ℤ)). rs ++ row ∷ []) (wider-equations v (v + n) v lins both.0 (omega arith) (omega arith))
    ∙ sym (equations-++ (v + n + 1) v lins lin)
    ∙ ap (λ k. equations k v (lins ++ lin ∷ [])) columns in
    let basic : range_with_len v n ++ width t ∷ [] ≡ range_with_len v (length (lins ++ lin ∷ [])) = ap (λ s. range_with_len v n ++ s ∷ []) next ∙ sym (range-more v n) ∙ ap (range_with_len v) (sym count) in
    let bounds : replicate {A = Option ℤ} (v + n) None ++ None ∷ [] ≡ replicate (v + length (lins ++ lin ∷ [])) None = replicate_more (v + n) None ∙ ap (λ k. replicate {A = Option ℤ} k None) columns in
    let made : List (List ℤ) → List ℕ → List (Option ℤ) → List (Option ℤ) → Table = λ rs bs ls us. record { variables = v; rows = rs; basic = bs; lower = ls; upper = us } in
    let old = pushed lin t in
    let new = first_table v (lins ++ lin ∷ []) in
    ap (λ (rs : List (List ℤ)). made rs old.basic old.lower old.upper) rows
    ∙ ap (λ (bs : List ℕ). made new.rows bs old.lower old.upper) basic
    ∙ ap (λ (ls : List (Option ℤ)). made new.rows new.basic ls old.upper) bounds
    ∙ ap (λ (us : List (Option ℤ)). made new.rows new.basic new.lower us) bounds
