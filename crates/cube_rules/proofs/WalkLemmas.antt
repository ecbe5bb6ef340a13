-- The first that passes, or of which something is told, as loops find it.
use Rattle.std.proofs.Common.{◌≡◌, ℕ, zero, suc, ◌+◌, ◌<◌, ◌≤◌, List, [], ◌∷◌, length, drop, get_or, map, Bool, true, false, cond, Some, None, refl, ap, sym, ◌∙◌, arith}
use Rattle.std.specs.Prelude.{Option, slice_get}
use Rattle.std.proofs.lemmas.List.{at_drop_all, drop_more}
use Rattle.book_rules.specs.Walks.{first_told, number_from, or_else}
use Rattle.cube_rules.proofs.TestLemmas.{plus-one}

-- a loop that counts up keeps `first_number test xs ≡ number_from i test (drop i xs)`

goes-suc : {X : Type 0} (n : ℕ) (test : X → Bool) (xs : List X) (i : ℕ) (x : X) → slice_get xs i ≡ Some x → test x ≡ false → number_from n test (drop i xs) ≡ number_from (n + 1) test (drop (suc i) xs)
goes-suc n test [] i x there passed = absurd (cc)
goes-suc n test (y ∷ xs) zero x there passed =
    let same : y ≡ x = cc in
    ap (λ b. cond {A = Option ℕ} b (Some n) (number_from (n + 1) test xs)) (ap test same ∙ passed)
goes-suc n test (y ∷ xs) (suc i) x there passed = goes-suc n test xs i x there passed

pub goes-on : {X : Type 0} (n : ℕ) (test : X → Bool) (xs : List X) (i : ℕ) (x : X) → slice_get xs i ≡ Some x → test x ≡ false → number_from n test (drop i xs) ≡ number_from (n + 1) test (drop (i + 1) xs)
goes-on n test xs i x there passed = goes-suc n test xs i x there passed ∙ ap (λ k. number_from (n + 1) test (drop k xs)) (sym (plus-one i))

pub is-found : {X : Type 0} (n : ℕ) (test : X → Bool) (xs : List X) (i : ℕ) (x : X) → slice_get xs i ≡ Some x → test x ≡ true → number_from n test (drop i xs) ≡ Some n
is-found n test [] i x there passes = absurd (cc)
is-found n test (y ∷ xs) zero x there passes =
    let same : y ≡ x = cc in
    ap (λ b. cond {A = Option ℕ} b (Some n) (number_from (n + 1) test xs)) (ap test same ∙ passes)
is-found n test (y ∷ xs) (suc i) x there passes = is-found n test xs i x there passes

pub is-over : {X : Type 0} (n : ℕ) (test : X → Bool) (xs : List X) (i : ℕ) → length xs ≤ i → number_from n test (drop i xs) ≡ None
is-over n test [] zero past = refl
is-over n test [] (suc i) past = refl
is-over n test (x ∷ xs) zero past = absurd (omega arith)
is-over n test (x ∷ xs) (suc i) past = is-over n test xs i (omega arith)

-- the same for what is told: `first_told tell xs ≡ first_told tell (drop i xs)`

tells-suc : {X B : Type 0} (tell : X → Option B) (xs : List X) (i : ℕ) (x : X) → slice_get xs i ≡ Some x → tell x ≡ None → first_told tell (drop i xs) ≡ first_told tell (drop (suc i) xs)
tells-suc tell [] i x there untold = absurd (cc)
tells-suc tell (y ∷ xs) zero x there untold =
    let same : y ≡ x = cc in
    ap (λ told. or_else told (first_told tell xs)) (ap tell same ∙ untold)
tells-suc tell (y ∷ xs) (suc i) x there untold = tells-suc tell xs i x there untold

pub tells-on : {X B : Type 0} (tell : X → Option B) (xs : List X) (i : ℕ) (x : X) → slice_get xs i ≡ Some x → tell x ≡ None → first_told tell (drop i xs) ≡ first_told tell (drop (i + 1) xs)
tells-on tell xs i x there untold = tells-suc tell xs i x there untold ∙ ap (λ k. first_told tell (drop k xs)) (sym (plus-one i))

pub is-told : {X B : Type 0} (tell : X → Option B) (xs : List X) (i : ℕ) (x : X) (b : B) → slice_get xs i ≡ Some x → tell x ≡ Some b → first_told tell (drop i xs) ≡ Some b
is-told tell [] i x b there told = absurd (cc)
is-told tell (y ∷ xs) zero x b there told =
    let same : y ≡ x = cc in
    ap (λ found. or_else found (first_told tell xs)) (ap tell same ∙ told)
is-told tell (y ∷ xs) (suc i) x b there told = is-told tell xs i x b there told

-- the same of what each item becomes
pub told-along : {X Y B : Type 0} (tell : X → Option B) (f : Y → X) (ys : List Y) (i : ℕ) (y : Y) → i < length ys → y ≡ get_or ys i y → tell (f y) ≡ None → first_told tell (map f (drop i ys)) ≡ first_told tell (map f (drop (i + 1) ys))
told-along tell f ys i y less is untold =
    ap (λ zs. first_told tell (map f zs)) (drop_more ys i y less) ∙ ap (λ told. or_else told (first_told tell (map f (drop (i + 1) ys)))) (ap (λ z. tell (f z)) (sym is) ∙ untold)

pub told-by : {X Y B : Type 0} (tell : X → Option B) (f : Y → X) (ys : List Y) (i : ℕ) (y : Y) (b : B) → i < length ys → y ≡ get_or ys i y → tell (f y) ≡ Some b → first_told tell (map f (drop i ys)) ≡ Some b
told-by tell f ys i y b less is told =
    ap (λ zs. first_told tell (map f zs)) (drop_more ys i y less) ∙ ap (λ found. or_else found (first_told tell (map f (drop (i + 1) ys)))) (ap (λ z. tell (f z)) (sym is) ∙ told)

pub told-over : {X Y B : Type 0} (tell : X → Option B) (f : Y → X) (ys : List Y) (i : ℕ) → length ys ≤ i → first_told tell (map f (drop i ys)) ≡ None
told-over tell f ys i past = at_drop_all (λ zs. first_told tell (map f zs)) ys i past
