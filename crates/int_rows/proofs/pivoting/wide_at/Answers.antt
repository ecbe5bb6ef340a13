use Rattle.std.proofs.Common.{◌≡◌, ◌<◌, ◌≤◌, ◌^◌, [], arith, ap, sym, ◌∙◌, subst, List, ℤ, length, map, nat_abs, true}
use Rattle.std.specs.Prelude.{IfSome, IsNone}
use Rattle.std.specs.List.{Contains}
use Rattle.std.proofs.lemmas.List.{get_or-map, length-map}
use Rattle.int_rows.specs.Pivot.{CanCross, eliminated}
use Rattle.int_rows.specs.Rows.{are_short}
use Rattle.int_rows.specs.Table.{pivoted, row_at}
use Rattle.int_rows.proofs.PivotedLemmas.{facing-small, pivoted-other, pivoted-own}
use Rattle.int_rows.proofs.pivoting.wide_at.Goals as goal

pub returns-then-i-pivot-clause-none : goal.returns-then-i-pivot-clause-none
returns-then-i-pivot-clause-none c = λ none.
    let rows : List (List ℤ) = map (λ r. r.items) c.args.rows.now in
    let pivot = c.args.pivot in
    let column = c.args.column in
    ap (λ j. are_short (row_at (pivoted pivot column rows) j)) c.if-i-pivot.true
    ∙ ap are_short (pivoted-own pivot column rows c.requires.can.within)
    ∙ facing-small column (row_at rows pivot) c.requires.can.short

row-is : (c : goal.After-as_slice-2) → c.as_slice.result.now ≡ row_at (map (λ r. r.items) c.args.rows.now) c.args.i
row-is c = c.as_slice.ensures.value ∙ ap (λ r. r.items) c.index-rows-i.is ∙ sym (get_or-map (λ r. r.items) c.args.rows.now c.args.i c.index-rows-i.result [] c.requires.within)

other-is : (c : goal.After-as_slice-2) → c.as_slice-2.result.now ≡ row_at (map (λ r. r.items) c.args.rows.now) c.args.pivot
other-is c =
    let within : c.args.pivot < length c.args.rows.now = omega (arith, c.requires.can.within, length-map c.args.rows.now (λ r. r.items)) in
    c.as_slice-2.ensures.value ∙ ap (λ r. r.items) c.index-rows-pivot.is ∙ sym (get_or-map (λ r. r.items) c.args.rows.now c.args.pivot c.index-rows-pivot.result [] within)

cross : (c : goal.After-as_slice-2) → CanCross c.args.column c.as_slice-2.result.now c.as_slice.result.now
cross c =
    let rows : List (List ℤ) = map (λ r. r.items) c.args.rows.now in
    let within : c.args.i < length rows = omega (arith, c.requires.within, length-map c.args.rows.now (λ r. r.items)) in
    let can : CanCross c.args.column (row_at rows c.args.pivot) (row_at rows c.args.i) = c.requires.can.others c.args.i within c.if-i-pivot.false in
    subst (λ (r : List ℤ). CanCross c.args.column r c.as_slice.result.now) (sym (other-is c)) (subst (λ (r : List ℤ). CanCross c.args.column (row_at rows c.args.pivot) r) (sym (row-is c)) can)

pub wide_elimination-requires-clause-row : goal.wide_elimination-requires-clause-row
wide_elimination-requires-clause-row c = (cross c).short

pub wide_elimination-requires-clause-other : goal.wide_elimination-requires-clause-other
wide_elimination-requires-clause-other c = ap are_short (other-is c) ∙ c.requires.can.short

pub wide_elimination-requires-clause-same : goal.wide_elimination-requires-clause-same
wide_elimination-requires-clause-same c = (cross c).same

pub wide_elimination-requires-clause-within : goal.wide_elimination-requires-clause-within
wide_elimination-requires-clause-within c = (cross c).there

pub wide_elimination-requires-clause-some : goal.wide_elimination-requires-clause-some
wide_elimination-requires-clause-some c = (cross c).some

after-is : (c : goal.After-wide_elimination) → eliminated c.args.column c.as_slice-2.result.now c.as_slice.result.now ≡ row_at (pivoted c.args.pivot c.args.column (map (λ r. r.items) c.args.rows.now)) c.args.i
after-is c =
    let rows : List (List ℤ) = map (λ r. r.items) c.args.rows.now in
    let column = c.args.column in
    let within : c.args.i < length rows = omega (arith, c.requires.within, length-map c.args.rows.now (λ r. r.items)) in
    let inside : c.args.pivot < length c.args.rows.now = omega (arith, c.requires.can.within, length-map c.args.rows.now (λ r. r.items)) in
    let row : c.as_slice.result.now ≡ row_at rows c.args.i = c.as_slice.ensures.value ∙ ap (λ r. r.items) c.index-rows-i.is ∙ sym (get_or-map (λ r. r.items) c.args.rows.now c.args.i c.index-rows-i.result [] c.requires.within) in
    let other : c.as_slice-2.result.now ≡ row_at rows c.args.pivot = c.as_slice-2.ensures.value ∙ ap (λ r. r.items) c.index-rows-pivot.is ∙ sym (get_or-map (λ r. r.items) c.args.rows.now c.args.pivot c.index-rows-pivot.result [] inside) in
    ap (λ r. eliminated column r c.as_slice.result.now) other ∙ ap (eliminated column (row_at rows c.args.pivot)) row ∙ sym (pivoted-other c.args.pivot c.args.i column rows within c.if-i-pivot.false)

pub returns-clause-some : goal.returns-clause-some
returns-clause-some c = subst (λ (r : List ℤ). IfSome c.wide_elimination.result (λ wide. Contains r wide × (2 ^ 63 ≤ nat_abs wide))) (after-is c) c.wide_elimination.ensures.some

pub returns-clause-none : goal.returns-clause-none
returns-clause-none c = subst (λ (r : List ℤ). IsNone c.wide_elimination.result → are_short r ≡ true) (after-is c) c.wide_elimination.ensures.none

pub bounds-rows-pivot : goal.bounds-rows-pivot
bounds-rows-pivot c = subst (λ n. c.args.pivot < n) (length-map c.args.rows.now (λ r. r.items)) c.requires.can.within
