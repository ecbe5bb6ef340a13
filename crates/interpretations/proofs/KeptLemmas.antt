-- The lemmas that are kept: those of the frame, each cube once.
use Rattle.std.proofs.Common.{◌≡◌, ℕ, zero, suc, ◌+◌, ◌<◌, List, [], ◌∷◌, ◌++◌, length, drop, map, get_or, Bool, true, false, ◌&&◌, ◌||◌, refl, ap, sym, ◌∙◌, append_assoc, append-nil, ◌≤◌, arith}
use Rattle.std.proofs.lemmas.List.{drop_all, drop_more}
use Rattle.std.specs.Prelude.{if◌then◌else◌}
use Rattle.std.specs.List.{Contains, list_all, list_any}
use Rattle.lin_atoms.specs.declared.lit.Lit.{Lit}
use Rattle.term_tree.proofs.Public.{both_true}
use Rattle.cube_forms.specs.Cubes.{cube_is_below}
use Rattle.lemma_frames.specs.Frames.{IsFrame, IsInFrame, lemma_of}
use Rattle.lemma_frames.specs.declared.framed.Framed.{Framed}
use Rattle.book_rules.specs.Same.{same_cube}
use Rattle.book_rules.proofs.Public.{cubes_equal}
use Rattle.interpretations.specs.Kept.{AreKept, first_ones}

-- one more number

abbrev noted : Bool → List Lit → List (List Lit) → List (List Lit)
noted there cube old = if there then old else (old ++ cube ∷ [])

first-step : (there : Bool) (cube : List Lit) (old cubes : List (List Lit))
    → noted there cube old ++ first_ones (noted there cube old) cubes ≡ old ++ (if there then first_ones old cubes else (cube ∷ first_ones (old ++ cube ∷ []) cubes))
first-step true cube old cubes = refl
first-step false cube old cubes = append_assoc old (cube ∷ []) (first_ones (old ++ cube ∷ []) cubes)

pub kept-step : (lemmas : List Framed) (numbers : List ℕ) (i n : ℕ) (old new all : List (List Lit)) → i < length numbers → n ≡ get_or numbers i n
    → new ≡ (if list_any (same_cube (lemma_of lemmas n)) old then old else (old ++ lemma_of lemmas n ∷ [])) → old ++ first_ones old (map (lemma_of lemmas) (drop i numbers)) ≡ all
    → new ++ first_ones new (map (lemma_of lemmas) (drop (i + 1) numbers)) ≡ all
kept-step lemmas numbers i n old new all within is are so-far =
    let rest : drop i numbers ≡ n ∷ drop (i + 1) numbers = drop_more numbers i n within ∙ ap (λ (m : ℕ). m ∷ drop (i + 1) numbers) (sym is) in
    ap (λ (cubes : List (List Lit)). cubes ++ first_ones cubes (map (lemma_of lemmas) (drop (i + 1) numbers))) are
    ∙ first-step (list_any (same_cube (lemma_of lemmas n)) old) (lemma_of lemmas n) old (map (lemma_of lemmas) (drop (i + 1) numbers))
    ∙ ap (λ (ns : List ℕ). old ++ first_ones old (map (lemma_of lemmas) ns)) (sym rest) ∙ so-far

pub kept-end : (lemmas : List Framed) (pred k : ℕ) (numbers : List ℕ) (i : ℕ) (cubes : List (List Lit)) → length numbers ≤ i → IsFrame lemmas pred k numbers
    → cubes ++ first_ones cubes (map (lemma_of lemmas) (drop i numbers)) ≡ first_ones [] (map (lemma_of lemmas) numbers) → AreKept lemmas pred k cubes
kept-end lemmas pred k numbers i cubes past frame all = record {
  numbers = numbers;
  frame = frame;
  are = sym (append-nil cubes) ∙ ap (λ (ns : List ℕ). cubes ++ first_ones cubes (map (lemma_of lemmas) ns)) (sym (drop_all i numbers past)) ∙ all;
}

-- tests of all cubes

pub at-all : {X : Type 0} (test : X → Bool) (xs : List X) (k : ℕ) (x : X) → k < length xs → get_or xs k x ≡ x → list_all test xs ≡ true → test x ≡ true
at-all test [] k x within is all = absurd (omega (arith, within))
at-all test (y ∷ xs) zero x within is all = ap test (sym is) ∙ (both_true (test y) (list_all test xs) all).0
at-all test (y ∷ xs) (suc k) x within is all = at-all test xs k x (omega (arith, within)) is (both_true (test y) (list_all test xs) all).1

all-contained : {X : Type 0} (test : X → Bool) (xs : List X) → ((x : X) → Contains xs x → test x ≡ true) → list_all test xs ≡ true
all-contained test [] each = refl
all-contained test (x ∷ xs) each =
    ap (λ (b : Bool). b && list_all test xs) (each x (0, omega arith, refl)) ∙ all-contained test xs (λ y has. each y (suc has.0, (let l = has.1 in omega arith), has.2))

mapped-all : {X Y : Type 0} (test : Y → Bool) (f : X → Y) (xs : List X) → list_all test (map f xs) ≡ list_all (λ (x : X). test (f x)) xs
mapped-all test f [] = refl
mapped-all test f (x ∷ xs) = ap (λ (b : Bool). test (f x) && b) (mapped-all test f xs)

first-all : (test : List Lit → Bool) (before cubes : List (List Lit)) → list_all test cubes ≡ true → list_all test (first_ones before cubes) ≡ true
first-all test before [] all = refl
first-all test before (cube ∷ cubes) all =
    let both = both_true (test cube) (list_all test cubes) all in
    by-case (list_any (same_cube cube) before) both.0 (first-all test before cubes both.1) (first-all test (before ++ cube ∷ []) cubes both.1)
  where
    by-case : (there : Bool) → test cube ≡ true → list_all test (first_ones before cubes) ≡ true → list_all test (first_ones (before ++ cube ∷ []) cubes) ≡ true
        → list_all test (if there then first_ones before cubes else (cube ∷ first_ones (before ++ cube ∷ []) cubes)) ≡ true
    by-case true here skipped taken = skipped
    by-case false here skipped taken = ap (λ (b : Bool). b && list_all test (first_ones (before ++ cube ∷ []) cubes)) here ∙ taken

all-pushed : (test : List Lit → Bool) (before : List (List Lit)) (cube : List Lit) → list_all test before ≡ true → test cube ≡ true → list_all test (before ++ cube ∷ []) ≡ true
all-pushed test [] cube all here = ap (λ (b : Bool). b && true) here
all-pushed test (c ∷ before) cube all here =
    let both = both_true (test c) (list_all test before) all in ap (λ (b : Bool). b && list_all test (before ++ cube ∷ [])) both.0 ∙ all-pushed test before cube both.1 here

among-all : (test : List Lit → Bool) (before : List (List Lit)) (cube : List Lit) → list_any (same_cube cube) before ≡ true → list_all test before ≡ true → test cube ≡ true
among-all test [] cube there all = absurd (cc)
among-all test (c ∷ before) cube there all =
    let both = both_true (test c) (list_all test before) all in by-case (same_cube cube c) refl there both.0 (λ later. among-all test before cube later both.1)
  where
    by-case : (b : Bool) → same_cube cube c ≡ b → (b || list_any (same_cube cube) before) ≡ true → test c ≡ true → (list_any (same_cube cube) before ≡ true → test cube ≡ true) → test cube ≡ true
    by-case true is there here rest = ap test ((cubes_equal cube c).0 is) ∙ here
    by-case false is there here rest = rest there

first-back : (test : List Lit → Bool) (before cubes : List (List Lit)) → list_all test before ≡ true → list_all test (first_ones before cubes) ≡ true → list_all test cubes ≡ true
first-back test before [] known all = refl
first-back test before (cube ∷ cubes) known all =
    by-case (list_any (same_cube cube) before) refl all (λ rest. first-back test before cubes known rest)
    (λ here rest. first-back test (before ++ cube ∷ []) cubes (all-pushed test before cube known here) rest)
  where
    by-case : (there : Bool) → list_any (same_cube cube) before ≡ there → list_all test (if there then first_ones before cubes else (cube ∷ first_ones (before ++ cube ∷ []) cubes)) ≡ true
        → (list_all test (first_ones before cubes) ≡ true → list_all test cubes ≡ true)
        → (test cube ≡ true → list_all test (first_ones (before ++ cube ∷ []) cubes) ≡ true → list_all test cubes ≡ true) → (test cube && list_all test cubes) ≡ true
    by-case true is all skipped taken = ap (λ (b : Bool). b && list_all test cubes) (among-all test before cube is known) ∙ skipped all
    by-case false is all skipped taken =
        let both = both_true (test cube) (list_all test (first_ones (before ++ cube ∷ []) cubes)) all in ap (λ (b : Bool). b && list_all test cubes) both.0 ∙ taken both.0 both.1

module _ (lemmas : List Framed) (pred k : ℕ) (cubes : List (List Lit)) (kept : AreKept lemmas pred k cubes) (test : List Lit → Bool) where
  -- a test that all lemmas of the frame pass, the kept ones pass
  pub kept-pass : ((n : ℕ) → IsInFrame lemmas pred k n → test (lemma_of lemmas n) ≡ true) → list_all test cubes ≡ true
  kept-pass each =
      ap (list_all test) kept.are
      ∙ first-all test [] (map (lemma_of lemmas) kept.numbers)
      (mapped-all test (lemma_of lemmas) kept.numbers ∙ all-contained (λ (n : ℕ). test (lemma_of lemmas n)) kept.numbers (λ n has. each n ((kept.frame.exact n).0 has)))

  -- and the other way
  pub frame-passes : list_all test cubes ≡ true → (n : ℕ) → IsInFrame lemmas pred k n → test (lemma_of lemmas n) ≡ true
  frame-passes all n inside =
      let has = (kept.frame.exact n).1 inside in
      at-all (λ (m : ℕ). test (lemma_of lemmas m)) kept.numbers has.0 n has.1 has.2
      (sym (mapped-all test (lemma_of lemmas) kept.numbers) ∙ first-back test [] (map (lemma_of lemmas) kept.numbers) refl (ap (list_all test) (sym kept.are) ∙ all))

-- the numbers of a frame are those of lemmas
pub numbers-there : (lemmas : List Framed) (pred k : ℕ) (numbers : List ℕ) (i n : ℕ) → i < length numbers → n ≡ get_or numbers i n → IsFrame lemmas pred k numbers → n < length lemmas
numbers-there lemmas pred k numbers i n within is frame = ((frame.exact n).0 (i, within, sym is)).0

-- the cubes that are kept are over the places that the frame's are
pub kept-below : (lemmas : List Framed) (pred k : ℕ) (cubes : List (List Lit)) (places : ℕ) → AreKept lemmas pred k cubes
    → ((n : ℕ) → IsInFrame lemmas pred k n → cube_is_below places (lemma_of lemmas n) ≡ true) → list_all (cube_is_below places) cubes ≡ true
kept-below lemmas pred k cubes places kept each = kept-pass lemmas pred k cubes kept (cube_is_below places) each
