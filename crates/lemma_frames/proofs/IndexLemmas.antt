-- The rows of all predicates after one more lemma, and after a lemma has risen.
use Rattle.std.proofs.Common.{◌≡◌, ℕ, ◌+◌, ◌-◌, ◌<◌, List, [], ◌∷◌, ◌++◌, map, length, get_or, set, take, replicate, refl, ap, sym, subst, ◌∙◌, arith, inl, inr}
use Rattle.std.specs.Prelude.{◌⊎◌, ◌↔◌}
use Rattle.std.specs.List.{All, AllPairs, Contains, insert, remove}
use Rattle.std.proofs.lemmas.Bool.{cases_eq, cases_order}
use Rattle.std.proofs.lemmas.List.{length-append, length-set, length-map, map_push, map-set, get_or_append_left, get_or_push, get_or-set_same, get_or-set_other, get_or-replicate, length-replicate}
use Rattle.std.proofs.lemmas.List.Elements.{All-contains, Contains-get_or}
use Rattle.std.proofs.lemmas.List.Quantifiers.{all_pairs_remove}
use Rattle.lin_atoms.specs.declared.lit.Lit.{Lit}
use Rattle.lemma_frames.specs.declared.framed.Framed.{Framed}
use Rattle.lemma_frames.specs.Frames.{pred_of, level_of, lemma_of, lifted, IsBare, IsInFrame, IsUpper}
use Rattle.lemma_frames.specs.machinery.Rows.{IsRank, IsPlaced, IsWithout}
use Rattle.lemma_frames.specs.machinery.Index.{IsIndexed}
use Rattle.lemma_frames.proofs.RowLemmas.{Before, row_insert, row_same, rank_same, inserted, insert_has, insert_keeps, removed, remove_keeps, strict, pairs_take, prefix_has, has_prefix}

-- fields of the lemmas after a push
field_push : (g : Framed → ℕ) (ls : List Framed) (f : Framed) (n : ℕ) → n < length ls → get_or (map g ls) n 0 ≡ get_or (map g (ls ++ f ∷ [])) n 0
field_push g ls f n within =
    let long = length-map ls g in
    sym (ap (λ xs. get_or xs n 0) (map_push g ls f) ∙ get_or_append_left (map g ls) (g f ∷ []) 0 n (omega (arith, long)))

field_new : (g : Framed → ℕ) (ls : List Framed) (f : Framed) → get_or (map g (ls ++ f ∷ [])) (length ls) 0 ≡ g f
field_new g ls f = ap (λ xs. get_or xs (length ls) 0) (map_push g ls f) ∙ get_or_push (map g ls) (g f) 0 (length ls) (length-map ls g)

-- fields after a write
field_other : (g : Framed → ℕ) (ls : List Framed) (id : ℕ) (f : Framed) (n : ℕ) → (n ≡ id → ⊥) → get_or (map g ls) n 0 ≡ get_or (map g (set ls id f)) n 0
field_other g ls id f n other = sym (ap (λ xs. get_or xs n 0) (map-set g ls id f) ∙ get_or-set_other (map g ls) id n (g f) 0 other)

field_at : (g : Framed → ℕ) (ls : List Framed) (id : ℕ) (f : Framed) → id < length ls → get_or (map g (set ls id f)) id 0 ≡ g f
field_at g ls id f within =
    let long = length-map ls g in
    ap (λ xs. get_or xs id 0) (map-set g ls id f) ∙ get_or-set_same (map g ls) id (g f) 0 (omega (arith, long))

-- the row of one predicate, where the others stay
with_row : (rows : List (List ℕ)) (at : ℕ) (row : List ℕ) (P : ℕ → List ℕ → Type 0) → at < length rows → P at row → ((pred : ℕ) → (pred ≡ at → ⊥) → pred < length rows → P pred (get_or rows pred []))
    → (pred : ℕ) → pred < length (set rows at row) → P pred (get_or (set rows at row) pred [])
with_row rows at row P within own others pred l = by (cases_eq pred at) where
  long : length (set rows at row) ≡ length rows
  long = length-set rows at row

  by : (pred ≡ at) ⊎ (pred ≡ at → ⊥) → P pred (get_or (set rows at row) pred [])
  by (inl e) = subst (λ p. P p (get_or (set rows at row) p [])) (sym e) (subst (λ r. P at r) (sym (get_or-set_same rows at row [] within)) own)
  by (inr other) = subst (λ r. P pred r) (sym (get_or-set_other rows at pred row [] other)) (others pred other (omega (arith, long)))

-- one more lemma
push_own : (ls : List Framed) (f : Framed) (row longer : List ℕ) → IsUpper ls f.pred 0 row → IsPlaced (level_of ls) row f.level (length ls) longer → IsUpper (ls ++ f ∷ []) f.pred 0 longer
push_own ls f row longer upper placed = subst (λ r. IsUpper (ls ++ f ∷ []) f.pred 0 r) (sym placed.items) (record { order = order; exact = exact }) where
  more : List Framed
  more = ls ++ f ∷ []

  long : length more ≡ length ls + 1
  long = length-append ls (f ∷ [])

  same : (x : ℕ) → Contains row x → level_of ls x ≡ level_of more x
  same x has = field_push (λ g. g.level) ls f x ((upper.exact x).0 has).0

  fresh : Contains row (length ls) → ⊥
  fresh has = let in' = ((upper.exact (length ls)).0 has).0 in absurd (omega arith)

  rank : IsRank (level_of more) row (level_of more (length ls)) (length ls) placed.rank
  rank = subst (λ k. IsRank (level_of more) row k (length ls) placed.rank) (sym (field_new (λ g. g.level) ls f)) (rank_same (level_of ls) (level_of more) row f.level (length ls) placed.rank same placed.is)

  order : AllPairs (Before (level_of more)) (insert row placed.rank (length ls))
  order = row_insert (level_of more) row (length ls) placed.rank (row_same (level_of ls) (level_of more) row same upper.order) rank fresh

  there : (n : ℕ) → (length ls ≡ n) ⊎ Contains row n → IsInFrame more f.pred 0 n
  there n (inl e) = subst (λ m. IsInFrame more f.pred 0 m) e (omega (arith, long), field_new (λ g. g.pred) ls f, omega arith)
  there n (inr has) = (let in' = (upper.exact n).0 has in (let l = in'.0 in omega (arith, long), sym (field_push (λ g. g.pred) ls f n in'.0) ∙ in'.1, omega arith))

  back : (n : ℕ) → IsInFrame more f.pred 0 n → (n ≡ length ls) ⊎ ((n < length ls) ⊎ (length ls < n)) → Contains (insert row placed.rank (length ls)) n
  back n in' (inl e) = subst (λ m. Contains (insert row placed.rank (length ls)) m) (sym e) (insert_has row placed.rank (length ls))
  back n in' (inr (inl less)) = insert_keeps row placed.rank (length ls) n ((upper.exact n).1 (less, field_push (λ g. g.pred) ls f n less ∙ in'.1, omega arith))
  back n in' (inr (inr past)) = let l = in'.0 in absurd (omega (arith, long))

  exact : (n : ℕ) → Contains (insert row placed.rank (length ls)) n ↔ IsInFrame more f.pred 0 n
  exact n = (λ has. there n (inserted row placed.rank (length ls) n has), λ in'. back n in' (cases_order n (length ls)))

push_other : (ls : List Framed) (f : Framed) (pred : ℕ) (row : List ℕ) → (pred ≡ f.pred → ⊥) → IsUpper ls pred 0 row → IsUpper (ls ++ f ∷ []) pred 0 row
push_other ls f pred row other upper = record { order = order; exact = exact } where
  more : List Framed
  more = ls ++ f ∷ []

  long : length more ≡ length ls + 1
  long = length-append ls (f ∷ [])

  order : AllPairs (Before (level_of more)) row
  order = row_same (level_of ls) (level_of more) row (λ x has. field_push (λ g. g.level) ls f x ((upper.exact x).0 has).0) upper.order

  back : (n : ℕ) → IsInFrame more pred 0 n → (n ≡ length ls) ⊎ ((n < length ls) ⊎ (length ls < n)) → Contains row n
  back n in' (inl e) = absurd (other (sym in'.1 ∙ ap (λ m. pred_of more m) e ∙ field_new (λ g. g.pred) ls f))
  back n in' (inr (inl less)) = (upper.exact n).1 (less, field_push (λ g. g.pred) ls f n less ∙ in'.1, omega arith)
  back n in' (inr (inr past)) = let l = in'.0 in absurd (omega (arith, long))

  exact : (n : ℕ) → Contains row n ↔ IsInFrame more pred 0 n
  exact n = (λ has. (let in' = (upper.exact n).0 has in (let l = in'.0 in omega (arith, long), sym (field_push (λ g. g.pred) ls f n in'.0) ∙ in'.1, omega arith)), λ in'. back n in' (cases_order n (length ls)))

pub index_push : (rows : List (List ℕ)) (ls : List Framed) (f : Framed) (row : List ℕ) → IsIndexed rows ls → f.pred < length rows → IsPlaced (level_of ls) (get_or rows f.pred []) f.level (length ls) row → IsIndexed (set rows f.pred row) (ls ++ f ∷ [])
index_push rows ls f row index within placed = record {
  each = with_row rows f.pred row (λ pred r. IsUpper (ls ++ f ∷ []) pred 0 r) within
      (push_own ls f (get_or rows f.pred []) row (index.each f.pred within) placed)
      (λ pred other l. push_other ls f pred (get_or rows pred []) other (index.each pred l));
  known = λ n l. stands n l (cases_eq n (length ls));
} where
  stands : (n : ℕ) → n < length (ls ++ f ∷ []) → (n ≡ length ls) ⊎ (n ≡ length ls → ⊥) → pred_of (ls ++ f ∷ []) n < length (set rows f.pred row)
  stands n l (inl e) = let is : pred_of (ls ++ f ∷ []) n ≡ f.pred = ap (λ m. pred_of (ls ++ f ∷ []) m) e ∙ field_new (λ g. g.pred) ls f in let long = length-set rows f.pred row in omega arith
  stands n l (inr other) =
      let less : n < length ls = (let long = length-append ls (f ∷ []) in omega (arith, other)) in
      let is = field_push (λ g. g.pred) ls f n less in let long = length-set rows f.pred row in let old = index.known n less in omega arith

-- a lemma that has risen
lift_own : (ls : List Framed) (id : ℕ) (row shorter longer : List ℕ) → id < length ls → IsUpper ls (pred_of ls id) 0 row → IsWithout row id shorter → IsPlaced (level_of ls) shorter (level_of ls id + 1) id longer → IsUpper (lifted ls id) (pred_of ls id) 0 longer
lift_own ls id row shorter longer there upper without placed = subst (λ r. IsUpper (lifted ls id) pred 0 r) (sym placed.items) (record { order = order; exact = exact }) where
  pred : ℕ
  pred = pred_of ls id

  new : Framed
  new = record { pred = pred_of ls id; level = level_of ls id + 1; lemma = lemma_of ls id }

  -- what the shorter row has
  members : (n : ℕ) → Contains shorter n → Contains row n × (n ≡ id → ⊥)
  members n has = removed (Before (level_of ls)) row without.place id n (strict (level_of ls)) upper.order without.within without.at (subst (λ r. Contains r n) without.items has)

  same : (x : ℕ) → Contains shorter x → level_of ls x ≡ level_of (lifted ls id) x
  same x has = field_other (λ g. g.level) ls id new x (members x has).1

  pairs : AllPairs (Before (level_of ls)) shorter
  pairs = subst (λ r. AllPairs (Before (level_of ls)) r) (sym without.items) (all_pairs_remove (Before (level_of ls)) row without.place without.within upper.order)

  rank : IsRank (level_of (lifted ls id)) shorter (level_of (lifted ls id) id) id placed.rank
  rank = subst (λ k. IsRank (level_of (lifted ls id)) shorter k id placed.rank) (sym (field_at (λ g. g.level) ls id new there)) (rank_same (level_of ls) (level_of (lifted ls id)) shorter (level_of ls id + 1) id placed.rank same placed.is)

  order : AllPairs (Before (level_of (lifted ls id))) (insert shorter placed.rank id)
  order = row_insert (level_of (lifted ls id)) shorter id placed.rank (row_same (level_of ls) (level_of (lifted ls id)) shorter same pairs) rank (λ has. (members id has).1 refl)

  long : length (lifted ls id) ≡ length ls
  long = length-set ls id new

  front : (n : ℕ) → (id ≡ n) ⊎ Contains shorter n → IsInFrame (lifted ls id) pred 0 n
  front n (inl e) = subst (λ m. IsInFrame (lifted ls id) pred 0 m) e (omega (arith, long), field_at (λ g. g.pred) ls id new there, omega arith)
  front n (inr has) = (let m = members n has in let in' = (upper.exact n).0 m.0 in (let l = in'.0 in omega (arith, long), sym (field_other (λ g. g.pred) ls id new n m.1) ∙ in'.1, omega arith))

  back : (n : ℕ) → IsInFrame (lifted ls id) pred 0 n → (n ≡ id) ⊎ (n ≡ id → ⊥) → Contains (insert shorter placed.rank id) n
  back n in' (inl e) = subst (λ m. Contains (insert shorter placed.rank id) m) (sym e) (insert_has shorter placed.rank id)
  back n in' (inr other) =
      let old : IsInFrame ls pred 0 n = (let l = in'.0 in omega (arith, long), field_other (λ g. g.pred) ls id new n other ∙ in'.1, omega arith) in
      insert_keeps shorter placed.rank id n (subst (λ r. Contains r n) (sym without.items) (remove_keeps row without.place id n without.within without.at other ((upper.exact n).1 old)))

  exact : (n : ℕ) → Contains (insert shorter placed.rank id) n ↔ IsInFrame (lifted ls id) pred 0 n
  exact n = (λ has. front n (inserted shorter placed.rank id n has), λ in'. back n in' (cases_eq n id))

lift_other : (ls : List Framed) (id pred : ℕ) (row : List ℕ) → id < length ls → (pred ≡ pred_of ls id → ⊥) → IsUpper ls pred 0 row → IsUpper (lifted ls id) pred 0 row
lift_other ls id pred row there other upper = record { order = order; exact = exact } where
  new : Framed
  new = record { pred = pred_of ls id; level = level_of ls id + 1; lemma = lemma_of ls id }

  long : length (lifted ls id) ≡ length ls
  long = length-set ls id new

  apart : (x : ℕ) → Contains row x → x ≡ id → ⊥
  apart x has e = other (sym ((upper.exact x).0 has).1 ∙ ap (λ m. pred_of ls m) e)

  order : AllPairs (Before (level_of (lifted ls id))) row
  order = row_same (level_of ls) (level_of (lifted ls id)) row (λ x has. field_other (λ g. g.level) ls id new x (apart x has)) upper.order

  back : (n : ℕ) → IsInFrame (lifted ls id) pred 0 n → (n ≡ id) ⊎ (n ≡ id → ⊥) → Contains row n
  back n in' (inl e) = absurd (other (sym in'.1 ∙ ap (λ m. pred_of (lifted ls id) m) e ∙ field_at (λ g. g.pred) ls id new there))
  back n in' (inr far) = (upper.exact n).1 (let l = in'.0 in omega (arith, long), field_other (λ g. g.pred) ls id new n far ∙ in'.1, omega arith)

  exact : (n : ℕ) → Contains row n ↔ IsInFrame (lifted ls id) pred 0 n
  exact n = (λ has. (let in' = (upper.exact n).0 has in (let l = in'.0 in omega (arith, long), sym (field_other (λ g. g.pred) ls id new n (apart n has)) ∙ in'.1, omega arith)), λ in'. back n in' (cases_eq n id))

pub index_lift : (rows : List (List ℕ)) (ls : List Framed) (id : ℕ) (shorter row : List ℕ) → IsIndexed rows ls → id < length ls → IsWithout (get_or rows (pred_of ls id) []) id shorter → IsPlaced (level_of ls) shorter (level_of ls id + 1) id row
    → IsIndexed (set rows (pred_of ls id) row) (lifted ls id)
index_lift rows ls id shorter row index there without placed = record {
  each = with_row rows (pred_of ls id) row (λ pred r. IsUpper (lifted ls id) pred 0 r) (index.known id there)
      (lift_own ls id (get_or rows (pred_of ls id) []) shorter row there (index.each (pred_of ls id) (index.known id there)) without placed)
      (λ pred other l. lift_other ls id pred (get_or rows pred []) there other (index.each pred l));
  known = λ n l. stands n l (cases_eq n id);
} where
  new : Framed
  new = record { pred = pred_of ls id; level = level_of ls id + 1; lemma = lemma_of ls id }

  stands : (n : ℕ) → n < length (lifted ls id) → (n ≡ id) ⊎ (n ≡ id → ⊥) → pred_of (lifted ls id) n < length (set rows (pred_of ls id) row)
  stands n l (inl e) = let is : pred_of (lifted ls id) n ≡ pred_of ls id = ap (λ m. pred_of (lifted ls id) m) e ∙ field_at (λ g. g.pred) ls id new there in let old = index.known id there in let long = length-set rows (pred_of ls id) row in omega arith
  stands n l (inr other) =
      let long = length-set ls id new in let old = index.known n (omega (arith, long)) in
      let is = field_other (λ g. g.pred) ls id new n other in let long' = length-set rows (pred_of ls id) row in omega arith

-- what a row of the index has
pub row_order : (rows : List (List ℕ)) (ls : List Framed) (pred : ℕ) → IsIndexed rows ls → pred < length rows → AllPairs (Before (level_of ls)) (get_or rows pred [])
row_order rows ls pred index within = (index.each pred within).order

pub row_there : (rows : List (List ℕ)) (ls : List Framed) (pred : ℕ) → IsIndexed rows ls → pred < length rows → All (λ n. n < length ls) (get_or rows pred [])
row_there rows ls pred index within k d l = (((index.each pred within).exact (get_or (get_or rows pred []) k d)).0 (Contains-get_or (get_or rows pred []) k d l)).0

pub order_is : (rows : List (List ℕ)) (ls : List Framed) (pred : ℕ) (row : List ℕ) → IsIndexed rows ls → pred < length rows → row ≡ get_or rows pred [] → AllPairs (Before (level_of ls)) row
order_is rows ls pred row index within is = subst (λ r. AllPairs (Before (level_of ls)) r) (sym is) (row_order rows ls pred index within)

pub there_is : (rows : List (List ℕ)) (ls : List Framed) (pred : ℕ) (row : List ℕ) → IsIndexed rows ls → pred < length rows → row ≡ get_or rows pred [] → All (λ n. n < length ls) row
there_is rows ls pred row index within is = subst (λ r. All (λ n. n < length ls) r) (sym is) (row_there rows ls pred index within)

pub row_has : (rows : List (List ℕ)) (ls : List Framed) (id : ℕ) → IsIndexed rows ls → id < length ls → Contains (get_or rows (pred_of ls id) []) id
row_has rows ls id index there = ((index.each (pred_of ls id) (index.known id there)).exact id).1 (there, refl, omega arith)

-- the same of a row without one number
pub without_order : (L : ℕ → ℕ) (row : List ℕ) (id : ℕ) (shorter : List ℕ) → AllPairs (Before L) row → IsWithout row id shorter → AllPairs (Before L) shorter
without_order L row id shorter pairs without = subst (λ r. AllPairs (Before L) r) (sym without.items) (all_pairs_remove (Before L) row without.place without.within pairs)

pub without_there : (n : ℕ) (L : ℕ → ℕ) (row : List ℕ) (id : ℕ) (shorter : List ℕ) → AllPairs (Before L) row → All (λ x. x < n) row → IsWithout row id shorter → All (λ x. x < n) shorter
without_there n L row id shorter pairs all without k d l =
    let has : Contains (remove row without.place) (get_or shorter k d) = subst (λ r. Contains r (get_or shorter k d)) without.items (Contains-get_or shorter k d l) in
    All-contains (λ x. x < n) row (get_or shorter k d) all (removed (Before L) row without.place id (get_or shorter k d) (strict L) pairs without.within without.at has).0

-- no lemma, no number
pub index_none : (n : ℕ) → IsIndexed (replicate n []) []
index_none n = record { each = λ pred l. empty pred l; known = λ m l. absurd (omega arith) } where
  nothing : (pred m : ℕ) → Contains {X = ℕ} [] m → IsInFrame [] pred 0 m
  nothing pred m (k, l, is) = absurd (omega arith)

  none : List ℕ
  none = []

  empty : (pred : ℕ) → pred < length (replicate n none) → IsUpper [] pred 0 (get_or (replicate n none) pred [])
  empty pred l = subst (λ r. IsUpper [] pred 0 r) (sym (get_or-replicate n pred none [] (let long = length-replicate n none in omega arith))) (record { order = λ i j d less in'. absurd (omega arith); exact = λ m. (nothing pred m, λ in'. (let w = in'.0 in absurd (omega arith))) })

-- the lemmas of a level or more come first
pub upper_part : (rows : List (List ℕ)) (ls : List Framed) (pred level rank : ℕ) → IsIndexed rows ls → pred < length rows → 0 < level → IsRank (level_of ls) (get_or rows pred []) (level - 1) 0 rank
    → IsUpper ls pred level (take rank (get_or rows pred []))
upper_part rows ls pred level rank index within some is = record { order = pairs_take (Before (level_of ls)) rank row (index.each pred within).order; exact = λ n. (front n, back n) } where
  row : List ℕ
  row = get_or rows pred []

  front : (n : ℕ) → Contains (take rank row) n → IsInFrame ls pred level n
  front n has =
      let both = prefix_has (level_of ls) row (level - 1) rank n is has in
      let in' = ((index.each pred within).exact n).0 both.0 in
      (in'.0, in'.1, (let more = both.1 in omega arith))

  back : (n : ℕ) → IsInFrame ls pred level n → Contains (take rank row) n
  back n in' = has_prefix (level_of ls) row (level - 1) rank n is (((index.each pred within).exact n).1 (in'.0, in'.1, omega arith)) (let more = in'.2 in omega arith)

-- where no row has a lemma of a level, there is none
pub bare_rows : (rows : List (List ℕ)) (ls : List Framed) (level : ℕ) → IsIndexed rows ls → ((k : ℕ) → k < length rows → All (λ n. level_of ls n ≡ level → ⊥) (get_or rows k [])) → IsBare ls level
bare_rows rows ls level index all n there = All-contains (λ m. level_of ls m ≡ level → ⊥) (get_or rows (pred_of ls n) []) n (all (pred_of ls n) (index.known n there)) (row_has rows ls n index there)

pub bare_row : (rows : List (List ℕ)) (ls : List Framed) (level k : ℕ) → IsIndexed rows ls → k < length rows → IsBare ls level → All (λ n. level_of ls n ≡ level → ⊥) (get_or rows k [])
bare_row rows ls level k index within bare i d l = bare (get_or (get_or rows k []) i d) (row_there rows ls k index within i d l)

-- the lemma as it is written back
pub lifted_is : (ls : List Framed) (id pred level : ℕ) (lemma : List Lit) → pred ≡ pred_of ls id → level ≡ level_of ls id + 1 → lemma ≡ lemma_of ls id → set ls id (record { pred = pred; level = level; lemma = lemma }) ≡ lifted ls id
lifted_is ls id pred level lemma p l m = rw (p, l, m) refl
