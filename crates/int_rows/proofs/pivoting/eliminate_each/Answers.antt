use Rattle.std.proofs.Common.{◌≡◌, ◌<◌, ◌≤◌, ◌++◌, [], ℕ, take, drop, arith, ap, sym, ◌∙◌, subst, List, ℤ, get_or, length, map, set, true, Vec, Global}
use Rattle.std.specs.Vec.{with_items}
use Rattle.std.proofs.lemmas.List.{get_or-map, length-map, map-set}
use Rattle.std.proofs.lemmas.List.Edits.{map_over_more}
use Rattle.int_rows.specs.Pivot.{CanCross, eliminated}
use Rattle.int_rows.specs.Rows.{are_short}
use Rattle.int_rows.proofs.PivotedLemmas.{length-eliminated, over-end, over-read, refilled}
use Rattle.int_rows.proofs.pivoting.eliminate_each.Goals as goal

-- the row of this turn is as it was
read : (f : List ℤ → List ℤ) (olds rows : List (Vec ℤ Global)) (i : ℕ) (d : Vec ℤ Global) → i < length olds → length rows ≡ length olds
    → map (λ r. r.items) rows ≡ map f (take i (map (λ r. r.items) olds)) ++ drop i (map (λ r. r.items) olds) → (get_or rows i d).items ≡ (get_or olds i d).items
read f olds rows i d h same is =
    let inside : i < length (map (λ r. r.items) olds) = omega (arith, h, length-map olds (λ r. r.items)) in
    sym (get_or-map (λ r. r.items) rows i d [] (omega (arith, h, same))) ∙ over-read f (map (λ r. r.items) olds) (map (λ r. r.items) rows) i [] inside is ∙ get_or-map (λ r. r.items) olds i d [] h

row-is : (c : goal.After-as_mut_slice) → c.as_mut_slice.result.now ≡ (get_or c.args.rows.now c.loop-i.i c.index-rows-i.result).items
row-is c = c.as_mut_slice.ensures.value ∙ read (eliminated c.args.column c.args.other.now) c.args.rows.now c.loop-i.rows c.loop-i.i c.index-rows-i.result c.loop-i-test.true c.loop-i.auto.rows c.loop-i.invariant

cross : (c : goal.After-as_mut_slice) → CanCross c.args.column c.args.other.now c.as_mut_slice.result.now
cross c = subst (CanCross c.args.column c.args.other.now) (sym (row-is c)) (c.requires.can c.loop-i.i c.index-rows-i.result c.loop-i-test.true)

pub eliminate-requires-clause-row : goal.eliminate-requires-clause-row
eliminate-requires-clause-row c = (cross c).short

pub eliminate-requires-clause-same : goal.eliminate-requires-clause-same
eliminate-requires-clause-same c = (cross c).same

pub eliminate-requires-clause-within : goal.eliminate-requires-clause-within
eliminate-requires-clause-within c = (cross c).there

pub eliminate-requires-clause-some : goal.eliminate-requires-clause-some
eliminate-requires-clause-some c = (cross c).some

pub eliminate-requires-clause-room : goal.eliminate-requires-clause-room
eliminate-requires-clause-room c = subst (λ (r : List ℤ). are_short (eliminated c.args.column c.args.other.now r) ≡ true) (sym (row-is c)) (c.requires.room c.loop-i.i c.index-rows-i.result c.loop-i-test.true)

same : (c : goal.After-rows-1) → length c.as_mut_slice.result.now ≡ length c.args.other.now
same c =
    let row = c.as_mut_slice.ensures.value ∙ read (eliminated c.args.column c.args.other.now) c.args.rows.now c.loop-i.rows c.loop-i.i c.index-rows-i.result c.loop-i-test.true c.loop-i.auto.rows c.loop-i.invariant in
    ap length row ∙ (c.requires.can c.loop-i.i c.index-rows-i.result c.loop-i-test.true).same

pub loop-i-preserved : goal.loop-i-preserved
loop-i-preserved c =
    let f : List ℤ → List ℤ = eliminated c.args.column c.args.other.now in
    let olds : List (List ℤ) = map (λ r. r.items) c.args.rows.now in
    let news : List (List ℤ) = map (λ r. r.items) c.loop-i.rows in
    let i = c.loop-i.i in
    let d = c.index-rows-i.result in
    let row : List ℤ = c.as_mut_slice.result.now in
    let here : i < length c.loop-i.rows = omega (arith, c.loop-i-test.true, c.loop-i.auto.rows) in
    let inside : i < length olds = omega (arith, c.loop-i-test.true, length-map c.args.rows.now (λ r. r.items)) in
    let here_is : row ≡ get_or news i row = c.as_mut_slice.ensures.value ∙ sym (get_or-map (λ r. r.items) c.loop-i.rows i d row here) in
    let old : Vec ℤ Global = get_or c.loop-i.rows i d in
    let whole : length old.items ≡ old.len = sym old.ok.0 in
    let value : length row ≡ old.len = ap length c.as_mut_slice.ensures.value ∙ whole in
    let long : length c.eliminate.new.row ≡ old.len = ap length c.eliminate.ensures ∙ length-eliminated c.args.column c.args.other.now row (same c) ∙ value in
    map-set (λ r. r.items) c.loop-i.rows i (with_items old c.eliminate.new.row)
    ∙ ap (set news i) (refilled old.len c.eliminate.new.row old.items long whole)
    ∙ ap (set news i) c.eliminate.ensures
    ∙ map_over_more f olds news i row inside c.loop-i.invariant here_is

pub returns : goal.returns
returns c =
    let past : length (map (λ r. r.items) c.args.rows.now) ≤ c.loop-i.i = omega (arith, c.loop-i-test.false, length-map c.args.rows.now (λ r. r.items)) in
    over-end (eliminated c.args.column c.args.other.now) (map (λ r. r.items) c.args.rows.now) (map (λ r. r.items) c.loop-i.rows) c.loop-i.i past c.loop-i.invariant
