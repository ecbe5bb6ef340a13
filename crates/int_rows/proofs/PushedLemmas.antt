-- A tableau with one form more.
use Rattle.std.proofs.Common.{◌≡◌, ℕ, suc, zero, List, [], ◌∷◌, ◌++◌, ap, sym, ◌∙◌, refl, arith, subst, ◌<◌, ◌≤◌, ◌+◌, true, ◌&&◌, eq-eqb, length, get_or, take, ⊎_elim}
use Rattle.std.specs.Prelude.{ℤ, pos, ◌<ℤ◌, None}
use Rattle.std.specs.Int.{◌∣◌}
use Rattle.std.specs.List.{All, Contains, range_with_len}
use Rattle.std.proofs.lemmas.Bool.{cases_lt, eqb-true}
use Rattle.std.proofs.lemmas.Int.{ints}
use Rattle.std.proofs.lemmas.List.{get_or-map, get_or-take, get_or_append_left, get_or_at, get_or_past, length-append, length-map, length-take, take_all}
use Rattle.std.proofs.lemmas.List.FromFn.{get_or-range_with_len}
use Rattle.std.proofs.lemmas.List.Folds.{list_all-append}
use Rattle.std.proofs.lemmas.Nat.Gcd.{dvd-zero, dvd_refl}
use Rattle.lin_atoms.specs.Linear.{Linear, are_ordered, are_short as terms_short, is_linear, is_short, lin_is_below}
use Rattle.lin_atoms.proofs.Public.{both_true}
use Rattle.int_rows.specs.Basis.{IsBasicRow, IsBasis, IsWideRow, in_order}
use Rattle.int_rows.specs.Node.{equation}
use Rattle.int_rows.specs.Pushed.{HasRoom, IsFirstWide, freed, freed_of, next_equation, pushed, widened}
use Rattle.int_rows.specs.Rows.{Follows, are_short, content, entry, is_primitive}
use Rattle.int_rows.specs.Space.{SameSpace}
use Rattle.int_rows.specs.Table.{HasWide, IsSolved, IsTable, Table, basic_at, row_at, width}
use Rattle.int_rows.specs.machinery.Freeing.{CanFree}
use Rattle.int_rows.proofs.BasisLemmas.{solved-basis, solved-row, solved-wide}
use Rattle.int_rows.proofs.ContentLemmas.{Divides, by-one, content-is, content-most}
use Rattle.int_rows.proofs.EquationLemmas.{equation-solved}
use Rattle.int_rows.proofs.PivotedLemmas.{Solved, SolvedRows}
use Rattle.int_rows.proofs.PushLemmas.{AllFree, Kept, freed-gone, freed-kept, freed-primitive, freed-same, take-free}

-- a default behind a list is read as past its end
padded : {X : Type 0} (xs : List X) (d : X) (v : ℕ) → get_or (xs ++ d ∷ []) v d ≡ get_or xs v d
padded [] d zero = refl
padded [] d (suc v) = refl
padded (x ∷ xs) d zero = refl
padded (x ∷ xs) d (suc v) = padded xs d v

divides-front : (d : ℕ) (row : List ℤ) → Divides d (row ++ pos 0 ∷ []) → Divides d row
divides-front d [] h = tt
divides-front d (a ∷ row) h = (h.0, divides-front d row h.1)

one-divides : (d : ℕ) (row : List ℤ) → content row ≡ 1 → Divides d row → d ∣ 1
one-divides zero row one h = let none = content-is 0 row (record { common = h; greatest = λ d all. dvd-zero d }) in absurd (omega (arith, one, none))
one-divides (suc zero) row one h = dvd_refl 1
one-divides (suc (suc d)) row one h = let most = content-most (suc (suc d)) row h (omega (arith, one)) in absurd (omega (arith, one, most))

wider-primitive : (row : List ℤ) → is_primitive row ≡ true → is_primitive (row ++ pos 0 ∷ []) ≡ true
wider-primitive row h =
    let wide = row ++ pos 0 ∷ [] in
    eq-eqb (content wide) 1 (content-is 1 wide (record { common = by-one wide; greatest = λ d all. one-divides d row (eqb-true _ _ h) (divides-front d row all) }))

wider-small : (row : List ℤ) → are_short row ≡ true → are_short (row ++ pos 0 ∷ []) ≡ true
wider-small row h = list_all-append is_short row (pos 0 ∷ []) ∙ ap (λ b. b && true) h

wider-at : (rows : List (List ℤ)) (i : ℕ) → i < length rows → row_at (widened rows) i ≡ row_at rows i ++ pos 0 ∷ []
wider-at rows i h = get_or-map (λ r. r ++ pos 0 ∷ []) rows i [] [] h

pub length-widened : (rows : List (List ℤ)) → length (widened rows) ≡ length rows
length-widened rows = length-map rows (λ r. r ++ pos 0 ∷ [])

-- the old rows in the new columns
widened-solved : (t : Table) → IsTable t → SolvedRows (width t + 1) t.basic (widened t.rows)
widened-solved t is = record {
  basics = is.basics ∙ sym (length-widened t.rows);
  within = λ i h. let inside = is.within i h in omega (arith, inside);
  solved = λ i h.
      let less : i < length t.rows = omega (arith, h, length-widened t.rows) in
      let row = row_at t.rows i in
      let old = is.solved i less in
      subst (Solved (width t + 1) t.basic i) (sym (wider-at t.rows i less)) (record {
        width = length-append row (pos 0 ∷ []) ∙ ap (λ n. n + 1) old.width;
        primitive = wider-primitive row old.primitive;
        positive = subst (λ z. pos 0 <ℤ z) (sym (padded row (pos 0) (basic_at t.basic i))) old.positive;
        zero = λ j inside away. padded row (pos 0) (basic_at t.basic j) ∙ old.zero j inside away;
      });
}

widened-free : (t : Table) → IsTable t → AllFree (width t) (width t + 1) t.basic (widened t.rows)
widened-free t is = λ i h.
    let less : i < length t.rows = omega (arith, h, length-widened t.rows) in
    let row = row_at t.rows i in
    let old = is.solved i less in
    let solved = (widened-solved t is).solved i h in
    let inside = is.within i (omega (arith, less, is.basics)) in
    let at = wider-at t.rows i less in
    record {
      width = solved.width;
      short = ap are_short at ∙ wider-small row old.short;
      there = omega (arith, inside);
      some = λ none. let positive = solved.positive in absurd (omega (arith, ints, none, positive));
      none = ap (λ (r : List ℤ). entry r (width t)) at ∙ padded row (pos 0) (width t) ∙ get_or_past row (width t) (pos 0) (omega (arith, old.width));
    }

-- the first of solved rows
take-solved : (columns k : ℕ) (basic : List ℕ) (rows : List (List ℤ)) → SolvedRows columns basic rows → SolvedRows columns (take k basic) (take k rows)
take-solved columns k basic rows is =
    let some = length-take k basic in
    let count = length-take k rows in
    record {
      basics = omega (arith, some, count, is.basics);
      within = λ i h. let inside = is.within i (omega (arith, h, some)) in let at = get_or-take k basic i 0 (omega (arith, h, some)) in omega (arith, inside, at);
      solved = λ i h.
          let old = is.solved i (omega (arith, h, count)) in
          let at = get_or-take k basic i 0 (omega (arith, h, count)) in
          subst (Solved columns (take k basic) i) (sym (get_or-take k rows i [] (omega (arith, h, count)))) (record {
            width = old.width;
            primitive = old.primitive;
            positive = subst (λ v. pos 0 <ℤ entry (row_at rows i) v) (sym at) old.positive;
            zero = λ j less away. ap (entry (row_at rows i)) (get_or-take k basic j 0 (omega (arith, less, some))) ∙ old.zero j (omega (arith, less, some)) away;
          });
    }

-- a basic column of the old ones, or the slack
basic-old : (basic : List ℕ) (slack i : ℕ) → i < length basic → basic_at (basic ++ slack ∷ []) i ≡ basic_at basic i
basic-old basic slack i h = get_or_append_left basic (slack ∷ []) 0 i h

basic-new : (basic : List ℕ) (slack i : ℕ) → length basic ≡ i → basic_at (basic ++ slack ∷ []) i ≡ slack
basic-new basic slack i e = get_or_at basic slack [] 0 i e

old-solved : (slack columns i : ℕ) (basic : List ℕ) (row : List ℤ) → i < length basic → entry row slack ≡ pos 0 → Solved columns basic i row → Solved columns (basic ++ slack ∷ []) i row
old-solved slack columns i basic row h none is = record {
  width = is.width;
  primitive = is.primitive;
  positive = subst (λ v. pos 0 <ℤ entry row v) (sym (basic-old basic slack i h)) is.positive;
  zero = λ j less away.
      ⊎_elim (λ inside. ap (entry row) (basic-old basic slack j inside) ∙ is.zero j inside away)
      (λ past. ap (entry row) (basic-new basic slack j (omega (arith, less, past, length-append basic (slack ∷ [])))) ∙ none) (cases_lt j (length basic));
}

new-solved : (slack columns i : ℕ) (basic : List ℕ) (row : List ℤ) → length basic ≡ i → Kept slack columns row → is_primitive row ≡ true → ((j : ℕ) → j < length basic → entry row (basic_at basic j) ≡ pos 0) → Solved columns (basic ++ slack ∷ []) i row
new-solved slack columns i basic row e is primitive gone = record {
  width = is.width;
  primitive = primitive;
  positive = subst (λ v. pos 0 <ℤ entry row v) (sym (basic-new basic slack i e)) is.positive;
  zero = λ j less away.
      let inside : j < length basic = omega (arith, less, away, e, length-append basic (slack ∷ [])) in
      ap (entry row) (basic-old basic slack j inside) ∙ gone j inside;
}

-- the freed row is solved for the slack, beside the rows that freed it
pub freed-solved : (slack columns : ℕ) (basic : List ℕ) (others : List (List ℤ)) (row : List ℤ) → SolvedRows columns basic others → AllFree slack columns basic others → Kept slack columns row → is_primitive row ≡ true
    → SolvedRows columns (basic ++ slack ∷ []) (others ++ freed basic others row ∷ [])
freed-solved slack columns basic others row is all kept primitive =
    let made = freed basic others row in
    let some = length-append basic (slack ∷ []) in
    let count = length-append others (made ∷ []) in
    record {
      basics = omega (arith, some, count, is.basics);
      within = λ i h.
          ⊎_elim (λ inside. let at = basic-old basic slack i inside in let old = is.within i inside in omega (arith, at, old))
          (λ past. let at = basic-new basic slack i (omega (arith, h, past, some)) in omega (arith, at, kept.there)) (cases_lt i (length basic));
      solved = λ i h.
          ⊎_elim
          (λ inside.
          let there : i < length basic = omega (arith, inside, is.basics) in
          subst (Solved columns (basic ++ slack ∷ []) i) (sym (get_or_append_left others (made ∷ []) [] i inside)) (old-solved slack columns i basic (row_at others i) there (all i inside).none (is.solved i inside)))
          (λ past.
          let e : length others ≡ i = omega (arith, h, past, count) in
          subst (Solved columns (basic ++ slack ∷ []) i) (sym (get_or_at others made [] [] i e))
          (new-solved slack columns i basic made (is.basics ∙ e) (freed-kept slack columns basic others row kept all) (freed-primitive slack columns basic others row kept all primitive)
          (λ j less. freed-gone slack columns j basic others row kept all (λ k l inside lower away. (is.solved k inside).zero l lower away) less (omega (arith, less, is.basics)))))
          (cases_lt i (length others));
    }

-- the equation of a form
record NextRow (t : Table) (lin : Linear) : Type 0 where
  pub kept : Kept (width t) (width t + 1) (next_equation t lin)
  pub short : are_short (next_equation t lin) ≡ true
  pub primitive : is_primitive (next_equation t lin) ≡ true

next-row : (t : Table) (lin : Linear) → is_linear lin ≡ true → lin_is_below t.variables lin ≡ true → NextRow t lin
next-row t lin legal below =
    let n = length t.rows in
    let slack = width t in
    let small = (both_true (terms_short lin.terms) _ (both_true (are_ordered 0 lin.terms) _ legal).1).0 in
    let count : t.variables + (n + 1) ≡ slack + 1 = omega arith in
    let solved = subst (λ m. IsSolved m (range_with_len t.variables (n + 1)) n (equation m slack lin)) count (equation-solved t.variables (n + 1) n lin (omega arith) small below) in
    record {
      kept = record { width = solved.width; there = omega arith; positive = subst (λ v. pos 0 <ℤ entry (next_equation t lin) v) (get_or-range_with_len t.variables (n + 1) n 0 (omega arith)) solved.positive };
      short = solved.short;
      primitive = solved.primitive;
    }

-- it can be freed of the basic columns
pub push-can : (t : Table) (lin : Linear) → IsTable t → is_linear lin ≡ true → lin_is_below t.variables lin ≡ true → CanFree t.basic (widened t.rows) (next_equation t lin)
push-can t lin is legal below =
    let next = next-row t lin legal below in
    record {
      slack = width t;
      there = omega (arith, next.kept.width);
      short = next.short;
      positive = next.kept.positive;
      each = is.basics ∙ sym (length-widened t.rows);
      free = subst (λ m. AllFree (width t) m t.basic (widened t.rows)) (sym next.kept.width) (widened-free t is);
    }

-- the rows span the same space as the old ones and the equation
pub pushed-same : (t : Table) (lin : Linear) → IsTable t → is_linear lin ≡ true → lin_is_below t.variables lin ≡ true → SameSpace (widened t.rows ++ next_equation t lin ∷ []) (pushed lin t).rows
pushed-same t lin is legal below = freed-same (width t) (width t + 1) t.basic (widened t.rows) (next_equation t lin) (next-row t lin legal below).kept (widened-free t is)

-- without the first k basic columns, beside the rows that freed it
abbrev part : Table → Linear → ℕ → List (List ℤ)
part t lin k = take k (widened t.rows) ++ freed_of k t.basic (widened t.rows) (next_equation t lin) ∷ []

part-solved : (t : Table) (lin : Linear) (k : ℕ) → IsTable t → is_linear lin ≡ true → lin_is_below t.variables lin ≡ true → SolvedRows (width t + 1) (take k t.basic ++ width t ∷ []) (part t lin k)
part-solved t lin k is legal below =
    let next = next-row t lin legal below in
    freed-solved (width t) (width t + 1) (take k t.basic) (take k (widened t.rows)) (next_equation t lin) (take-solved (width t + 1) k t.basic (widened t.rows) (widened-solved t is)) (take-free (width t) (width t + 1) k t.basic (widened t.rows) (widened-free t is)) next.kept next.primitive

part-follows : (t : Table) (lin : Linear) (k : ℕ) → IsTable t → is_linear lin ≡ true → lin_is_below t.variables lin ≡ true → All (Follows (take k (widened t.rows) ++ next_equation t lin ∷ [])) (part t lin k)
part-follows t lin k is legal below =
    (freed-same (width t) (width t + 1) (take k t.basic) (take k (widened t.rows)) (next_equation t lin) (next-row t lin legal below).kept (take-free (width t) (width t + 1) k t.basic (widened t.rows) (widened-free t is))).0

part-count : (others : List (List ℤ)) (row made : List ℤ) → length (others ++ made ∷ []) ≡ length (others ++ row ∷ [])
part-count others row made = length-append others (made ∷ []) ∙ sym (length-append others (row ∷ []))

-- its basic columns are a basis, in which it is the slack's row
pub freed-basis : (t : Table) (lin : Linear) (k : ℕ) → IsTable t → is_linear lin ≡ true → lin_is_below t.variables lin ≡ true → IsBasis (width t + 1) (take k (widened t.rows) ++ next_equation t lin ∷ []) (in_order (width t + 1) (take k t.basic ++ width t ∷ []))
freed-basis t lin k is legal below =
    let others = take k (widened t.rows) in
    let row = next_equation t lin in
    solved-basis (width t + 1) (take k t.basic ++ width t ∷ []) (part t lin k) (others ++ row ∷ []) (part-solved t lin k is legal below) (part-count others row (freed (take k t.basic) others row)) (part-follows t lin k is legal below)

pub freed-basic : (t : Table) (lin : Linear) (k : ℕ) → IsTable t → is_linear lin ≡ true → lin_is_below t.variables lin ≡ true
    → IsBasicRow (width t + 1) (take k (widened t.rows) ++ next_equation t lin ∷ []) (in_order (width t + 1) (take k t.basic ++ width t ∷ [])) (width t) (freed_of k t.basic (widened t.rows) (next_equation t lin))
freed-basic t lin k is legal below =
    let slack = width t in
    let basic = take k t.basic in
    let others = take k (widened t.rows) in
    let row = next_equation t lin in
    let made = freed basic others row in
    let n = length others in
    let same : length basic ≡ n = omega (arith, is.basics, length-widened t.rows, length-take k t.basic, length-take k (widened t.rows)) in
    let found = solved-row (slack + 1) n (basic ++ slack ∷ []) (part t lin k) (others ++ row ∷ []) (part-solved t lin k is legal below) (part-follows t lin k is legal below) (omega (arith, length-append others (made ∷ []))) in
    subst (λ c. IsBasicRow (slack + 1) (others ++ row ∷ []) (in_order (slack + 1) (basic ++ slack ∷ [])) c made) (basic-new basic slack n same)
    (subst (IsBasicRow (slack + 1) (others ++ row ∷ []) (in_order (slack + 1) (basic ++ slack ∷ [])) (basic_at (basic ++ slack ∷ []) n)) (get_or_at others made [] [] n refl) found)

-- the first entry without room is one of that row
pub pushed-wide : (t : Table) (lin : Linear) (k : ℕ) (wide : ℤ) → IsTable t → is_linear lin ≡ true → lin_is_below t.variables lin ≡ true → IsFirstWide t.basic (widened t.rows) (next_equation t lin) k wide
    → IsWideRow (width t + 1) (take k (widened t.rows) ++ next_equation t lin ∷ []) (in_order (width t + 1) (take k t.basic ++ width t ∷ [])) wide
pushed-wide t lin k wide is legal below first =
    let others = take k (widened t.rows) in
    let row = next_equation t lin in
    let made = freed (take k t.basic) others row in
    let has : HasWide (part t lin k) (length others) wide = record {
      within = omega (arith, length-append others (made ∷ []));
      contains = subst (λ (r : List ℤ). Contains r wide) (sym (get_or_at others made [] [] (length others) refl)) first.contains;
      is_wide = first.is_wide;
    } in
    solved-wide (width t + 1) (take k t.basic ++ width t ∷ []) (part t lin k) (others ++ row ∷ []) (length others) wide (part-solved t lin k is legal below) (part-count others row made) (part-follows t lin k is legal below) has

-- the rows have room where the row had it all the time
pub push-room : (t : Table) (row : List ℤ) → IsTable t → HasRoom t.basic (widened t.rows) row → are_short (freed t.basic (widened t.rows) row) ≡ true
push-room t row is room =
    let n = length (widened t.rows) in
    let some : length t.basic ≤ n = omega (arith, is.basics, length-widened t.rows) in
    ap (λ (bs : List ℕ). are_short (freed bs (widened t.rows) row)) (sym (take_all n t.basic some))
    ∙ ap (λ (rs : List (List ℤ)). are_short (freed (take n t.basic) rs row)) (sym (take_all n (widened t.rows) (omega arith)))
    ∙ room n (omega arith)

-- a push keeps a tableau
pub pushed-table : (t : Table) (lin : Linear) → IsTable t → is_linear lin ≡ true → lin_is_below t.variables lin ≡ true → length t.rows < 1024 → HasRoom t.basic (widened t.rows) (next_equation t lin) → IsTable (pushed lin t)
pushed-table t lin is legal below few room =
    let slack = width t in
    let others = widened t.rows in
    let row = next_equation t lin in
    let made = freed t.basic others row in
    let next = next-row t lin legal below in
    let free = widened-free t is in
    let all = freed-solved slack (slack + 1) t.basic others row (widened-solved t is) free next.kept next.primitive in
    let count : length (others ++ made ∷ []) ≡ length t.rows + 1 = length-append others (made ∷ []) ∙ ap (λ n. n + 1) (length-widened t.rows) in
    let wide : t.variables + length (others ++ made ∷ []) ≡ slack + 1 = omega (arith, count) in
    record {
      basics = all.basics;
      within = λ i h. subst (λ n. basic_at (t.basic ++ slack ∷ []) i < n) (sym wide) (all.within i h);
      solved = λ i h.
          let solved = all.solved i h in
          let small = ⊎_elim (λ inside. ap are_short (get_or_append_left others (made ∷ []) [] i inside) ∙ (free i inside).short)
          (λ past. ap are_short (get_or_at others made [] [] i (omega (arith, h, past, length-append others (made ∷ [])))) ∙ push-room t row is room) (cases_lt i (length others)) in
          subst (λ n. IsSolved n (t.basic ++ slack ∷ []) i (row_at (others ++ made ∷ []) i)) (sym wide) (record { width = solved.width; short = small; primitive = solved.primitive; positive = solved.positive; zero = solved.zero });
      lowers = length-append t.lower (None ∷ []) ∙ ap (λ n. n + 1) is.lowers ∙ sym wide;
      uppers = length-append t.upper (None ∷ []) ∙ ap (λ n. n + 1) is.uppers ∙ sym wide;
      few = omega (arith, count, few);
      long_lower = λ v b some. is.long_lower v b (sym (padded t.lower None v) ∙ some);
      long_upper = λ v b some. is.long_upper v b (sym (padded t.upper None v) ∙ some);
    }
