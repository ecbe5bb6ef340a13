use Rattle.std.proofs.Common.{◌≡◌, ℕ, ◌<◌, ◌+◌, ◌++◌, ◌∷◌, [], arith, ap, sym, subst, ◌∙◌, List, ℤ, get_or, length, map, set, Vec, Global}
use Rattle.std.specs.List.{SameBelow, TailFrom}
use Rattle.std.specs.Vec.{with_items}
use Rattle.std.proofs.lemmas.List.{get_or-map, get_or_default, length-map, map-append}
use Rattle.int_rows.specs.Pivot.{eliminated}
use Rattle.int_rows.specs.Rows.{are_short}
use Rattle.int_rows.specs.Table.{facing, pivoted, row_at}
use Rattle.int_rows.proofs.PivotedLemmas.{cross-at, facing-length, one-item, pivoted-split, refilled, room-at}
use Rattle.int_rows.proofs.pivoting.pivot_rows.Goals as goal

-- the rows as lists
abbrev lines : List (Vec ℤ Global) → List (List ℤ)
lines rows = map (λ r. r.items) rows

own-is : (rows rest own : List (Vec ℤ Global)) (i : ℕ) (d : Vec ℤ Global) → i < length (lines rows) → SameBelow rest own 1 → TailFrom rows rest i → (get_or own 0 d).items ≡ row_at (lines rows) i
own-is rows rest own i d h same tail =
    let within : i < length rows = omega (arith, h, length-map rows (λ r. r.items)) in
    let here : i + 0 ≡ i = omega arith in
    ap (λ r. r.items) (same 0 d (omega arith) ∙ tail 0 d ∙ ap (λ k. get_or rows k d) here) ∙ sym (get_or-map (λ r. r.items) rows i d [] within)

front-is : (rows before : List (Vec ℤ Global)) (i k : ℕ) (d : Vec ℤ Global) → k < i → k < length (lines rows) → SameBelow rows before i → (get_or before k d).items ≡ row_at (lines rows) k
front-is rows before i k d h inside same =
    let within : k < length rows = omega (arith, inside, length-map rows (λ r. r.items)) in
    ap (λ r. r.items) (same k d h) ∙ sym (get_or-map (λ r. r.items) rows k d [] within)

back-is : (rows rest after : List (Vec ℤ Global)) (i k : ℕ) (d : Vec ℤ Global) → i + (1 + k) < length (lines rows) → TailFrom rows rest i → TailFrom rest after 1 → (get_or after k d).items ≡ row_at (lines rows) (i + (1 + k))
back-is rows rest after i k d inside tail next =
    let within : i + (1 + k) < length rows = omega (arith, inside, length-map rows (λ r. r.items)) in
    ap (λ r. r.items) (next k d ∙ tail (1 + k) d) ∙ sym (get_or-map (λ r. r.items) rows (i + (1 + k)) d [] within)

pub eliminate_each-requires-clause-can : goal.eliminate_each-requires-clause-can
eliminate_each-requires-clause-can c = λ k d h.
    let rows : List (Vec ℤ Global) = c.args.rows.now in
    let i = c.args.pivot in
    let less : k < i = omega (arith, h, c.split_at_mut-before.ensures.front_len) in
    let inside : k < length (lines rows) = omega (arith, less, c.requires.can.within) in
    let own = c.as_slice.ensures.value ∙ own-is rows c.split_at_mut-before.result.1.now c.split_at_mut-own.result.0.now i c.index-own-0.result c.requires.can.within c.split_at_mut-own.ensures.by_index.0 c.split_at_mut-before.ensures.by_index.1 in
    cross-at i c.args.column k (lines rows) c.as_slice.result.now _ c.requires.can inside (λ e. absurd (omega (arith, less, e))) own (front-is rows c.split_at_mut-before.result.0.now i k d less inside c.split_at_mut-before.ensures.by_index.0)

pub eliminate_each-requires-clause-room : goal.eliminate_each-requires-clause-room
eliminate_each-requires-clause-room c = λ k d h.
    let rows : List (Vec ℤ Global) = c.args.rows.now in
    let i = c.args.pivot in
    let less : k < i = omega (arith, h, c.split_at_mut-before.ensures.front_len) in
    let inside : k < length (lines rows) = omega (arith, less, c.requires.can.within) in
    let own = c.as_slice.ensures.value ∙ own-is rows c.split_at_mut-before.result.1.now c.split_at_mut-own.result.0.now i c.index-own-0.result c.requires.can.within c.split_at_mut-own.ensures.by_index.0 c.split_at_mut-before.ensures.by_index.1 in
    room-at i c.args.column k (lines rows) c.as_slice.result.now _ c.requires.room inside (λ e. absurd (omega (arith, less, e))) own (front-is rows c.split_at_mut-before.result.0.now i k d less inside c.split_at_mut-before.ensures.by_index.0)

pub eliminate_each-requires-2-clause-can : goal.eliminate_each-requires-2-clause-can
eliminate_each-requires-2-clause-can c = λ k d h.
    let rows : List (Vec ℤ Global) = c.args.rows.now in
    let i = c.args.pivot in
    let inside : i + (1 + k) < length (lines rows) = omega (arith, h, length-map rows (λ r. r.items), c.split_at_mut-before.ensures.back_len, c.split_at_mut-own.ensures.back_len) in
    let own = c.as_slice-2.ensures.value ∙ own-is rows c.split_at_mut-before.result.1.now c.split_at_mut-own.result.0.now i c.index-own-0-2.result c.requires.can.within c.split_at_mut-own.ensures.by_index.0 c.split_at_mut-before.ensures.by_index.1 in
    cross-at i c.args.column (i + (1 + k)) (lines rows) c.as_slice-2.result.now _ c.requires.can inside (λ e. absurd (omega (arith, e))) own (back-is rows c.split_at_mut-before.result.1.now c.split_at_mut-own.result.1.now i k d inside c.split_at_mut-before.ensures.by_index.1 c.split_at_mut-own.ensures.by_index.1)

pub eliminate_each-requires-2-clause-room : goal.eliminate_each-requires-2-clause-room
eliminate_each-requires-2-clause-room c = λ k d h.
    let rows : List (Vec ℤ Global) = c.args.rows.now in
    let i = c.args.pivot in
    let inside : i + (1 + k) < length (lines rows) = omega (arith, h, length-map rows (λ r. r.items), c.split_at_mut-before.ensures.back_len, c.split_at_mut-own.ensures.back_len) in
    let own = c.as_slice-2.ensures.value ∙ own-is rows c.split_at_mut-before.result.1.now c.split_at_mut-own.result.0.now i c.index-own-0-2.result c.requires.can.within c.split_at_mut-own.ensures.by_index.0 c.split_at_mut-before.ensures.by_index.1 in
    room-at i c.args.column (i + (1 + k)) (lines rows) c.as_slice-2.result.now _ c.requires.room inside (λ e. absurd (omega (arith, e))) own (back-is rows c.split_at_mut-before.result.1.now c.split_at_mut-own.result.1.now i k d inside c.split_at_mut-before.ensures.by_index.1 c.split_at_mut-own.ensures.by_index.1)

pub face-requires-clause-short : goal.face-requires-clause-short
face-requires-clause-short c =
    let rows : List (Vec ℤ Global) = c.args.rows.now in
    let own = c.as_mut_slice.ensures.value ∙ own-is rows c.split_at_mut-before.result.1.now c.split_at_mut-own.result.0.now c.args.pivot c.index-own-0-3.result c.requires.can.within c.split_at_mut-own.ensures.by_index.0 c.split_at_mut-before.ensures.by_index.1 in
    ap are_short own ∙ c.requires.can.short

pub face-requires-clause-there : goal.face-requires-clause-there
face-requires-clause-there c =
    let rows : List (Vec ℤ Global) = c.args.rows.now in
    let own = c.as_mut_slice.ensures.value ∙ own-is rows c.split_at_mut-before.result.1.now c.split_at_mut-own.result.0.now c.args.pivot c.index-own-0-3.result c.requires.can.within c.split_at_mut-own.ensures.by_index.0 c.split_at_mut-before.ensures.by_index.1 in
    subst (λ (row : List ℤ). c.args.column < length row) (sym own) c.requires.can.there

pub eliminate_each-requires-clause-short : goal.eliminate_each-requires-clause-short
eliminate_each-requires-clause-short c =
    let rows : List (Vec ℤ Global) = c.args.rows.now in
    let own = c.as_slice.ensures.value ∙ own-is rows c.split_at_mut-before.result.1.now c.split_at_mut-own.result.0.now c.args.pivot c.index-own-0.result c.requires.can.within c.split_at_mut-own.ensures.by_index.0 c.split_at_mut-before.ensures.by_index.1 in
    ap are_short own ∙ c.requires.can.short

pub eliminate_each-requires-2-clause-short : goal.eliminate_each-requires-2-clause-short
eliminate_each-requires-2-clause-short c =
    let rows : List (Vec ℤ Global) = c.args.rows.now in
    let own = c.as_slice-2.ensures.value ∙ own-is rows c.split_at_mut-before.result.1.now c.split_at_mut-own.result.0.now c.args.pivot c.index-own-0-2.result c.requires.can.within c.split_at_mut-own.ensures.by_index.0 c.split_at_mut-before.ensures.by_index.1 in
    ap are_short own ∙ c.requires.can.short

-- a row of the same length in place of the only one
one-written : (own : List (Vec ℤ Global)) (d : Vec ℤ Global) (row : List ℤ) → length own ≡ 1 → length row ≡ length (get_or own 0 d).items → lines (set own 0 (with_items (get_or own 0 d) row)) ≡ row ∷ []
one-written [] d row e long = absurd (omega (arith, e))
one-written (o ∷ []) d row e long = let whole : length o.items ≡ o.len = sym o.ok.0 in ap (λ r. r ∷ []) (refilled o.len row o.items (long ∙ whole) whole)
one-written (o ∷ p ∷ own) d row e long = absurd (omega (arith, e))

pub returns : goal.returns
returns c =
    let rows : List (Vec ℤ Global) = c.args.rows.now in
    let before : List (Vec ℤ Global) = c.split_at_mut-before.result.0.now in
    let rest : List (Vec ℤ Global) = c.split_at_mut-before.result.1.now in
    let own : List (Vec ℤ Global) = c.split_at_mut-own.result.0.now in
    let after : List (Vec ℤ Global) = c.split_at_mut-own.result.1.now in
    let i = c.args.pivot in
    let column = c.args.column in
    let d = c.index-own-0-3.result in
    let row : List ℤ = (get_or own 0 d).items in
    let some : 0 < length own = omega (arith, c.split_at_mut-own.ensures.front_len) in
    let first : c.as_slice.result.now ≡ row = c.as_slice.ensures.value ∙ ap (λ r. r.items) (get_or_default own 0 c.index-own-0.result d some) in
    let second : c.as_slice-2.result.now ≡ row = c.as_slice-2.ensures.value ∙ ap (λ r. r.items) (get_or_default own 0 c.index-own-0-2.result d some) in
    let made : c.face.new.row ≡ facing column row = c.face.ensures ∙ ap (facing column) c.as_mut_slice.ensures.value in
    let one : length own ≡ 1 = c.split_at_mut-own.ensures.front_len in
    let written = one-written own d c.face.new.row one (ap length made ∙ facing-length column row) in
    let lines_of : lines rows ≡ lines before ++ row ∷ lines after =
    ap lines (c.split_at_mut-before.ensures.value ∙ ap (λ r. before ++ r) c.split_at_mut-own.ensures.value)
    ∙ map-append (λ r. r.items) before (own ++ after)
    ∙ ap (λ l. lines before ++ l) (ap (λ o. lines (o ++ after)) (one-item own d one)) in
    let long : length (lines before) ≡ i = length-map before (λ r. r.items) ∙ c.split_at_mut-before.ensures.front_len in
    let front : lines c.eliminate_each.new.rows ≡ map (eliminated column row) (lines before) = c.eliminate_each.ensures ∙ ap (λ r. map (eliminated column r) (lines before)) first in
    let back : lines c.eliminate_each-2.new.rows ≡ map (eliminated column row) (lines after) = c.eliminate_each-2.ensures ∙ ap (λ r. map (eliminated column r) (lines after)) second in
    let owns : List (Vec ℤ Global) = set own 0 (with_items (get_or own 0 d) c.face.new.row) in
    map-append (λ r. r.items) c.eliminate_each.new.rows (owns ++ c.eliminate_each-2.new.rows)
    ∙ ap (λ l. l ++ lines (owns ++ c.eliminate_each-2.new.rows)) front
    ∙ ap (λ l. map (eliminated column row) (lines before) ++ l) (map-append (λ r. r.items) owns c.eliminate_each-2.new.rows ∙ ap (λ l. l ++ lines c.eliminate_each-2.new.rows) (written ∙ ap (λ r. r ∷ []) made) ∙ ap (λ l. facing column row ∷ l) back)
    ∙ sym (ap (pivoted i column) lines_of ∙ pivoted-split i column (lines before) (lines after) row long)
