use Rattle.std.proofs.Common.{◌≡◌, ◌<◌, ◌+◌, [], ℕ, suc, arith, refl, ap, sym, ◌∙◌, subst, rules, FitsSigned, List, ℤ, get_or, length, map, Vec, Global}
use Rattle.std.specs.Int.{w128}
use Rattle.std.proofs.lemmas.Int.{to_z-of_z}
use Rattle.std.proofs.lemmas.List.{get_or-map, length-map}
use Rattle.int_rows.specs.Pivot.{CanCross, eliminated}
use Rattle.int_rows.specs.Pushed.{freed_of}
use Rattle.int_rows.specs.Table.{basic_at, row_at}
use Rattle.int_rows.specs.machinery.Freeing.{CanFree}
use Rattle.int_rows.proofs.PushLemmas.{freed-cross, freed-more, room-next, wide-next}
use Rattle.int_rows.proofs.pushing.free.Goals as goal

-- the rows as lists
abbrev lines : List (Vec ℤ Global) → List (List ℤ)
lines rows = map (λ r. r.items) rows

within : (rows : List (Vec ℤ Global)) (i : ℕ) → i < length rows → i < length (lines rows)
within rows i h = omega (arith, h, length-map rows (λ r. r.items))

other-is : (rows : List (Vec ℤ Global)) (i : ℕ) (d : Vec ℤ Global) (other : List ℤ) → i < length rows → other ≡ d.items → d ≡ get_or rows i d → other ≡ row_at (lines rows) i
other-is rows i d other h value at = value ∙ ap (λ r. r.items) at ∙ sym (get_or-map (λ r. r.items) rows i d [] h)

-- one column more
more : (basic : List ℕ) (others : List (List ℤ)) (row now other : List ℤ) (i : ℕ) → CanFree basic others row → i < length others → now ≡ freed_of i basic others row → other ≡ row_at others i → eliminated (basic_at basic i) other now ≡ freed_of (suc i) basic others row
more basic others row now other i can h now_is other_is =
    ap (λ (o : List ℤ). eliminated (basic_at basic i) o now) other_is ∙ ap (eliminated (basic_at basic i) (row_at others i)) now_is ∙ sym (freed-more basic others row i (omega (arith, h, can.each)) h)

pub free_of-requires-clause-can : goal.free_of-requires-clause-can
free_of-requires-clause-can c =
    let rows : List (Vec ℤ Global) = c.args.others.now in
    let i = c.loop-i.i in
    let column = basic_at c.args.columns.now i in
    let other = other-is rows i c.index-others-i.result c.as_slice.result.now c.loop-i-test.true c.as_slice.ensures.value c.index-others-i.is in
    subst (λ (o : List ℤ). CanCross column o c.loop-i.row) (sym other)
    (subst (CanCross column (row_at (lines rows) i)) (sym c.loop-i.invariant.row)
    (freed-cross c.args.columns.now (lines rows) c.args.row.now i c.requires (within rows i c.loop-i-test.true) (c.loop-i.invariant.room i (omega arith))))

pub returns-in-Some-clause-some : goal.returns-in-Some-clause-some
returns-in-Some-clause-some c =
    let rows : List (Vec ℤ Global) = c.args.others.now in
    let i = c.loop-i.i in
    let basic : List ℕ = c.args.columns.now in
    let here = within rows i c.loop-i-test.true in
    let other = other-is rows i c.index-others-i.result c.as_slice.result.now c.loop-i-test.true c.as_slice.ensures.value c.index-others-i.is in
    let made = more basic (lines rows) c.args.row.now c.loop-i.row c.as_slice.result.now i c.requires here c.loop-i.invariant.row other in
    let e_fits : FitsSigned w128 c.in-Some.entry = search rules in
    let told = c.in-Some.ensures.some in
    simp to_z-of_z (wide-next basic (lines rows) c.args.row.now (eliminated (basic_at basic i) c.as_slice.result.now c.loop-i.row) i (i + 1) c.in-Some.entry c.loop-i.invariant.room here (omega arith) made told.0 told.1)

pub loop-i-preserved : goal.loop-i-preserved
loop-i-preserved c =
    let rows : List (Vec ℤ Global) = c.args.others.now in
    let i = c.loop-i.i in
    let basic : List ℕ = c.args.columns.now in
    let here = within rows i c.loop-i-test.true in
    let other = other-is rows i c.index-others-i.result c.as_slice.result.now c.loop-i-test.true c.as_slice.ensures.value c.index-others-i.is in
    let made = more basic (lines rows) c.args.row.now c.loop-i.row c.as_slice.result.now i c.requires here c.loop-i.invariant.row other in
    let next : suc i ≡ i + 1 = omega arith in
    record {
      row = c.in_default.ensures.none refl ∙ made ∙ ap (λ n. freed_of n basic (lines rows) c.args.row.now) next;
      room = λ k h. room-next basic (lines rows) c.args.row.now (eliminated (basic_at basic i) c.as_slice.result.now c.loop-i.row) i k c.loop-i.invariant.room made (c.in_default.ensures.room refl) (omega (arith, h));
    }
