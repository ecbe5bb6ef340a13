-- Points from values, and cubes over places: a tuple in the cube of an area gives a point in the area's projection.
use Rattle.std.proofs.Common.{◌≡◌, ℕ, ◌+◌, ◌<◌, ◌≤◌, zero, suc, List, [], ◌∷◌, map, length, Bool, true, false, not, cond, Some, refl, ap, sym, ◌∙◌, arith}
use Rattle.std.specs.Prelude.{ℤ, pos, negsuc, neg_ℤ, ◌+ℤ◌, ◌*ℤ◌, int_le, nat_abs, nat_lt, ◌==◌, slice_get}
use Rattle.std.specs.List.{list_all}
use Rattle.std.proofs.lemmas.Bool.{eqb-true}
use Rattle.std.proofs.lemmas.Bool.Decides.{nat_tests}
use Rattle.std.proofs.lemmas.Int.{ints}
use Rattle.lin_atoms.specs.Linear.{variable_at}
use Rattle.lin_atoms.specs.Multiples.{is_multiple}
use Rattle.lin_atoms.specs.Truth.{lit_truth}
use Rattle.lin_atoms.specs.declared.lit.Lit.{Lit}
use Rattle.lin_atoms.specs.declared.lit.Lit.TheVariants.{Le, Eq, Div, NDiv}
use Rattle.lin_atoms.proofs.ValueLemmas.{value_at-renamed}
use Rattle.cube_forms.specs.Cubes.{cube_holds}
use Rattle.book_rules.specs.Areas.{place_from, first_place, lit_in_places, equation, equations_from, point_cube_from, point_cube}
use Rattle.book_rules.proofs.ListLemmas.{both_true, from_both}

-- the n values of a function from i on
abbrev pub values : (ℕ → ℤ) → ℕ → ℕ → List ℤ
values f i zero = []
values f i (suc n) = f i ∷ values f (i + 1) n

pub length-values : (f : ℕ → ℤ) (i n : ℕ) → length (values f i n) ≡ n
length-values f i zero = refl
length-values f i (suc n) = ap suc (length-values f (i + 1) n)

value-inside : (f : ℕ → ℤ) (i n v : ℕ) → v < n → variable_at (values f i n) v ≡ f (i + v)
value-inside f i zero v below = absurd (omega arith)
value-inside f i (suc n) zero below = let same : i ≡ i + 0 = omega arith in ap f same
value-inside f i (suc n) (suc v) below =
    let inside : v < n = omega arith in
    let same : i + 1 + v ≡ i + suc v = omega arith in
    value-inside f (i + 1) n v inside ∙ ap f same

value-outside : (f : ℕ → ℤ) (i n v : ℕ) → n ≤ v → variable_at (values f i n) v ≡ pos 0
value-outside f i zero v past = refl
value-outside f i (suc n) zero past = absurd (omega arith)
value-outside f i (suc n) (suc v) past = value-outside f (i + 1) n v (omega arith)

pub past_end : (xs : List ℤ) (v : ℕ) → length xs ≤ v → variable_at xs v ≡ pos 0
past_end [] v past = refl
past_end (x ∷ xs) zero past = absurd (omega arith)
past_end (x ∷ xs) (suc v) past = past_end xs v (omega arith)

pub value_of : (f : ℕ → ℤ) (n v : ℕ) → v < n → variable_at (values f 0 n) v ≡ f v
value_of f n v below = let same : 0 + v ≡ v = omega arith in value-inside f 0 n v below ∙ ap f same

-- the place of a variable that isn't there is its own number
no_place : (n : ℕ) (args : List ℕ) (v : ℕ) → list_all (λ a. nat_lt a v) args ≡ true → place_from n args v ≡ v
no_place n [] v below = refl
no_place n (a ∷ args) v below =
    let both = both_true (nat_lt a v) _ below in
    other (a == v) refl both.0 (no_place (n + 1) args v both.1) where
      other : (b : Bool) → (a == v) ≡ b → nat_lt a v ≡ true → place_from (n + 1) args v ≡ v → cond {A = ℕ} b n (place_from (n + 1) args v) ≡ v
      other true is less rest = absurd (let same : a ≡ v = eqb-true a v is in grind (arith, nat_tests))
      other false is less rest = rest

lower_all : (args : List ℕ) (n v : ℕ) → n ≤ v → list_all (λ a. nat_lt a n) args ≡ true → list_all (λ a. nat_lt a v) args ≡ true
lower_all [] n v le h = refl
lower_all (a ∷ args) n v le h =
    let both = both_true (nat_lt a n) _ h in
    let t = both.0 in
    let here : nat_lt a v ≡ true = grind (arith, nat_tests, t) in
    from_both (nat_lt a v) _ here (lower_all args n v le both.1)

-- the point that gives each argument its first place's value
abbrev pub spread : List ℕ → List ℤ → ℕ → List ℤ
spread args tuple n = values (λ v. variable_at tuple (first_place args v)) 0 n

pub spread_is : (args : List ℕ) (tuple : List ℤ) (n : ℕ) → list_all (λ a. nat_lt a n) args ≡ true → length tuple ≤ n → (v : ℕ) → variable_at (spread args tuple n) v ≡ variable_at tuple (first_place args v)
spread_is args tuple n below long v = by_test (nat_lt v n) refl where
  by_test : (b : Bool) → nat_lt v n ≡ b → variable_at (spread args tuple n) v ≡ variable_at tuple (first_place args v)
  by_test true is = let inside : v < n = grind (arith, nat_tests) in value_of (λ w. variable_at tuple (first_place args w)) n v inside
  by_test false is =
      let past : n ≤ v = grind (arith, nat_tests) in
      let far : length tuple ≤ v = omega arith in
      value-outside (λ w. variable_at tuple (first_place args w)) 0 n v past ∙ sym (ap (variable_at tuple) (no_place 0 args v (lower_all args n v past below)) ∙ past_end tuple v far)

lit_spread : (args : List ℕ) (tuple point : List ℤ) → ((v : ℕ) → variable_at point v ≡ variable_at tuple (first_place args v)) → (lit : Lit) → lit_truth tuple (lit_in_places args lit) ≡ lit_truth point lit
lit_spread args tuple point same (Le lin) = ap (λ z. int_le z (pos 0)) (value_at-renamed tuple point (first_place args) lin same)
lit_spread args tuple point same (Eq lin) = ap (λ z. nat_abs z == 0) (value_at-renamed tuple point (first_place args) lin same)
lit_spread args tuple point same (Div d lin) = ap (is_multiple (pos d)) (value_at-renamed tuple point (first_place args) lin same)
lit_spread args tuple point same (NDiv d lin) = ap (λ z. not (is_multiple (pos d) z)) (value_at-renamed tuple point (first_place args) lin same)

pub cube_spread : (args : List ℕ) (tuple point : List ℤ) → ((v : ℕ) → variable_at point v ≡ variable_at tuple (first_place args v)) → (lits : List Lit)
    → list_all (lit_truth tuple) (map (lit_in_places args) lits) ≡ true → list_all (lit_truth point) lits ≡ true
cube_spread args tuple point same [] h = refl
cube_spread args tuple point same (lit ∷ lits) h =
    let both = both_true (lit_truth tuple (lit_in_places args lit)) _ h in
    from_both (lit_truth point lit) _ (sym (lit_spread args tuple point same lit) ∙ both.0) (cube_spread args tuple point same lits both.1)

-- the first place of an argument isn't behind it
place_before : (n : ℕ) (args : List ℕ) (v i : ℕ) → slice_get args i ≡ Some v → place_from n args v ≤ n + i
place_before n [] v i is = absurd (cc)
place_before n (a ∷ args) v i is = by_test (a == v) refl i is (place_before (n + 1) args v) where
  by_test : (b : Bool) → (a == v) ≡ b → (i : ℕ) → slice_get (a ∷ args) i ≡ Some v → ((i : ℕ) → slice_get args i ≡ Some v → place_from (n + 1) args v ≤ n + 1 + i) → cond {A = ℕ} b n (place_from (n + 1) args v) ≤ n + i
  by_test true same i is rest = omega arith
  by_test false same zero is rest = absurd (let here : a ≡ v = cc in grind (arith, nat_tests))
  by_test false same (suc i) is rest = let more = rest i is in omega (arith, more)

equal_there : (x y : ℤ) → (nat_abs (pos 1 *ℤ x +ℤ (negsuc 0 *ℤ y +ℤ pos 0) +ℤ pos 0) == 0) ≡ true → x ≡ y
equal_there x y h = let zero_is : nat_abs (pos 1 *ℤ x +ℤ (negsuc 0 *ℤ y +ℤ pos 0) +ℤ pos 0) ≡ 0 = eqb-true _ 0 h in omega (arith, ints, zero_is)

-- each later place has its first place's value
places_equal : (args : List ℕ) (tuple : List ℤ) (n : ℕ) (rest : List ℕ) (ts : List ℤ) → length ts ≡ length rest → ((i : ℕ) → slice_get rest i ≡ slice_get args (n + i)) → ((i : ℕ) → variable_at tuple (n + i) ≡ variable_at ts i)
    → list_all (lit_truth tuple) (equations_from args n rest) ≡ true → map (λ v. variable_at tuple (first_place args v)) rest ≡ ts
places_equal args tuple n [] [] same there at h = refl
places_equal args tuple n [] (t ∷ ts) same there at h = absurd (omega arith)
places_equal args tuple n (v ∷ rest) [] same there at h = absurd (omega arith)
places_equal args tuple n (v ∷ rest) (t ∷ ts) same there at h =
    let zero_more : n + 0 ≡ n = omega arith in
    let its : slice_get args n ≡ Some v = ap (slice_get args) (sym zero_more) ∙ sym (there 0) in
    let front = place_before 0 args v n its in
    let low : first_place args v ≤ n = omega (arith, front) in
    let value : variable_at tuple n ≡ t = ap (variable_at tuple) (sym zero_more) ∙ at 0 in
    let shorter : length ts ≡ length rest = omega arith in
    let more = places_equal args tuple (n + 1) rest ts shorter
    (λ i. let next : n + suc i ≡ n + 1 + i = omega arith in there (suc i) ∙ ap (slice_get args) next)
    (λ i. let next : n + 1 + i ≡ n + suc i = omega arith in ap (variable_at tuple) next ∙ at (suc i)) in
    let here = split (nat_lt (first_place args v) n) refl low h in
    ap (λ x. x ∷ map (λ w. variable_at tuple (first_place args w)) rest) (here.0 ∙ value) ∙ ap (λ xs. t ∷ xs) (more here.1) where
      split : (b : Bool) → nat_lt (first_place args v) n ≡ b → first_place args v ≤ n
          → list_all (lit_truth tuple) (cond {A = List Lit} b (equation (first_place args v) n ∷ equations_from args (n + 1) rest) (equations_from args (n + 1) rest)) ≡ true
          → (variable_at tuple (first_place args v) ≡ variable_at tuple n) × (list_all (lit_truth tuple) (equations_from args (n + 1) rest) ≡ true)
      split true is low h' =
          let both = both_true (lit_truth tuple (equation (first_place args v) n)) _ h' in
          (equal_there (variable_at tuple (first_place args v)) (variable_at tuple n) both.0, both.1)
      split false is low h' = let same_place : first_place args v ≡ n = grind (arith, nat_tests) in (ap (variable_at tuple) same_place, h')

pub tuple_spread : (args : List ℕ) (tuple : List ℤ) → length tuple ≡ length args → list_all (lit_truth tuple) (equations_from args 0 args) ≡ true → map (λ v. variable_at tuple (first_place args v)) args ≡ tuple
tuple_spread args tuple same h = places_equal args tuple 0 args tuple same (λ i. let next : i ≡ 0 + i = omega arith in ap (slice_get args) next) (λ i. let next : 0 + i ≡ i = omega arith in ap (variable_at tuple) next) h

-- the cube of one tuple holds no other

value_there : (x y : ℤ) → (nat_abs (pos 1 *ℤ x +ℤ pos 0 +ℤ neg_ℤ y) == 0) ≡ true → x ≡ y
value_there x y h = let zero_is : nat_abs (pos 1 *ℤ x +ℤ pos 0 +ℤ neg_ℤ y) ≡ 0 = eqb-true _ 0 h in omega (arith, ints, zero_is)

point_from : (tuple : List ℤ) (n : ℕ) (ts xs : List ℤ) → length ts ≡ length xs → ((i : ℕ) → variable_at tuple (n + i) ≡ variable_at ts i) → list_all (lit_truth tuple) (point_cube_from n xs) ≡ true → ts ≡ xs
point_from tuple n [] [] same at h = refl
point_from tuple n [] (x ∷ xs) same at h = absurd (omega arith)
point_from tuple n (t ∷ ts) [] same at h = absurd (omega arith)
point_from tuple n (t ∷ ts) (x ∷ xs) same at h =
    let both = both_true (nat_abs (pos 1 *ℤ variable_at tuple n +ℤ pos 0 +ℤ neg_ℤ x) == 0) _ h in
    let zero_more : n + 0 ≡ n = omega arith in
    let value : variable_at tuple n ≡ t = ap (variable_at tuple) (sym zero_more) ∙ at 0 in
    let is : t ≡ x = sym value ∙ value_there (variable_at tuple n) x both.0 in
    let shorter : length ts ≡ length xs = omega arith in
    ap (λ y. y ∷ ts) is ∙ ap (λ ys. x ∷ ys) (point_from tuple (n + 1) ts xs shorter (λ i. let next : n + 1 + i ≡ n + suc i = omega arith in ap (variable_at tuple) next ∙ at (suc i)) both.1)

pub point_alone : (tuple xs : List ℤ) → length tuple ≡ length xs → cube_holds tuple (point_cube xs) ≡ true → tuple ≡ xs
point_alone tuple xs same h = point_from tuple 0 tuple xs same (λ i. let next : 0 + i ≡ i = omega arith in ap (variable_at tuple) next) h
