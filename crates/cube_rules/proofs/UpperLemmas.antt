-- Lemmas of a frame on one predicate, looked up among those by level in place of all.
use Rattle.std.proofs.Common.{◌≡◌, ℕ, zero, suc, ◌+◌, ◌<◌, ◌≤◌, List, [], ◌∷◌, ◌++◌, length, Bool, true, false, not, ◌||◌, cond, Some, None, refl, ap, sym, subst, ◌∙◌, arith, inl, inr}
use Rattle.std.specs.Prelude.{◌⊎◌, ◌==◌, Option, slice_get, nat_le, nat_lt}
use Rattle.std.specs.List.{Contains, flat_map, list_any}
use Rattle.std.proofs.lemmas.Bool.{cases_lt, eqb-true}
use Rattle.std.proofs.lemmas.Bool.Decides.{nat_tests}
use Rattle.std.proofs.lemmas.List.{append-nil}
use Rattle.lemma_frames.specs.Frames.{IsUpper, level_of, pred_of}
use Rattle.lemma_frames.specs.declared.framed.Framed.{Framed as KeptLemma}
use Rattle.cube_forms.specs.Cubes.{cube_holds}
use Rattle.book_rules.specs.Frames.{Framed, Lemma, excludes, same_lemma}
use Rattle.book_rules.specs.Instances.{Ground}
use Rattle.book_rules.specs.Same.{same_cube}
use Rattle.book_rules.specs.Walks.{first_number, number_from}
use Rattle.cube_rules.specs.Views.{framed_at, lemmas_of}
use Rattle.cube_rules.specs.machinery.Walks.{equals, is_on, passes_at, shuts}
use Rattle.cube_rules.proofs.TestLemmas.{any_at, both_true, from_both}
use Rattle.cube_rules.proofs.ViewLemmas.{framed-past, framed_of-at}

bools_same : (a b : Bool) → (a ≡ true → b ≡ true) → (b ≡ true → a ≡ true) → a ≡ b
bools_same true b f g = sym (f refl)
bools_same false true f g = g refl
bools_same false false f g = refl

or-true : (a b : Bool) → b ≡ true → (a || b) ≡ true
or-true true b h = refl
or-true false b h = h

any-is : {X : Type 0} (test : X → Bool) (xs : List X) (i : ℕ) (x : X) → slice_get xs i ≡ Some x → test x ≡ true → list_any test xs ≡ true
any-is test [] i x there passes = absurd (cc)
any-is test (y ∷ ys) zero x there passes = (let same : y ≡ x = cc in ap (λ b. b || list_any test ys) (ap test same ∙ passes))
any-is test (y ∷ ys) (suc i) x there passes = or-true (test y) (list_any test ys) (any-is test ys i x there passes)

any-has : (test : ℕ → Bool) (xs : List ℕ) (n : ℕ) → Contains xs n → test n ≡ true → list_any test xs ≡ true
any-has test [] n (k, less, is) passes = absurd (omega (arith, less))
any-has test (y ∷ ys) n (zero, less, is) passes = ap (λ b. b || list_any test ys) (ap test is ∙ passes)
any-has test (y ∷ ys) n (suc k, less, is) passes = or-true (test y) (list_any test ys) (any-has test ys n (k, omega (arith, less), is) passes)

listed : (xs : List ℕ) (i n : ℕ) → slice_get xs i ≡ Some n → Contains xs n
listed [] i n there = absurd (cc)
listed (y ∷ ys) zero n there = (zero, omega arith, (let same : y ≡ n = cc in same))
listed (y ∷ ys) (suc i) n there = (let rest = listed ys i n there in (suc rest.0, (let less = rest.1 in omega (arith, less)), rest.2))

-- a test that only lemmas of F(k) on the predicate pass is passed by one of all where it is by one of those
pub upper-any : (lemmas : List KeptLemma) (pred k : ℕ) (numbers : List ℕ) (test : Framed → Bool) → IsUpper lemmas pred k numbers → ((e : Framed) → test e ≡ true → is_on k pred e ≡ true)
    → list_any (passes_at test lemmas) numbers ≡ list_any test (lemmas_of lemmas)
upper-any lemmas pred k numbers test upper only = bools_same (list_any (passes_at test lemmas) numbers) (list_any test (lemmas_of lemmas)) there back where
  there : list_any (passes_at test lemmas) numbers ≡ true → list_any test (lemmas_of lemmas) ≡ true
  there h =
      let one = any_at (passes_at test lemmas) numbers h in
      let n = one.1 in
      let both = both_true (nat_lt n (length lemmas)) (test (framed_at lemmas n)) one.3 in
      let in' = ((upper.exact n).0 (listed numbers one.0 n one.2)).0 in
      any-is test (lemmas_of lemmas) n (framed_at lemmas n) (framed_of-at lemmas n in') both.1

  member : (i : ℕ) → i < length lemmas → test (framed_at lemmas i) ≡ true → list_any (passes_at test lemmas) numbers ≡ true
  member i less passes =
      let both = both_true (nat_le k (level_of lemmas i)) (pred_of lemmas i == pred) (only (framed_at lemmas i) passes) in
      let low = both.0 in
      let high : k ≤ level_of lemmas i = grind (arith, nat_tests, low) in
      let in' : nat_lt i (length lemmas) ≡ true = grind (arith, nat_tests, less) in
      any-has (passes_at test lemmas) numbers i ((upper.exact i).1 (less, eqb-true (pred_of lemmas i) pred both.1, high)) (from_both (nat_lt i (length lemmas)) (test (framed_at lemmas i)) in' passes)

  at : (i : ℕ) (e : Framed) → slice_get (lemmas_of lemmas) i ≡ Some e → test e ≡ true → (i < length lemmas) ⊎ (length lemmas ≤ i) → list_any (passes_at test lemmas) numbers ≡ true
  at i e is passes (inl less) =
      let both : Some (framed_at lemmas i) ≡ Some e = sym (framed_of-at lemmas i less) ∙ is in
      let same : e ≡ framed_at lemmas i = cc in
      member i less (subst (λ f. test f ≡ true) same passes)
  at i e is passes (inr past) = (let none : None ≡ Some e = sym (framed-past lemmas i past) ∙ is in absurd (cc))

  back : list_any test (lemmas_of lemmas) ≡ true → list_any (passes_at test lemmas) numbers ≡ true
  back h = (let one = any_at test (lemmas_of lemmas) h in at one.0 one.1 one.2 one.3 (cases_lt one.0 (length lemmas)))

-- where none passes, none is the first

or-false : (a b : Bool) → (a || b) ≡ false → (a ≡ false) × (b ≡ false)
or-false true b h = absurd (cc)
or-false false b h = (refl, h)

none-from : {X : Type 0} (n : ℕ) (test : X → Bool) (xs : List X) → list_any test xs ≡ false → number_from n test xs ≡ None
none-from n test [] h = refl
none-from n test (x ∷ xs) h =
    let both = or-false (test x) (list_any test xs) h in
    ap (λ b. cond {A = Option ℕ} b (Some n) (number_from (n + 1) test xs)) both.0 ∙ none-from (n + 1) test xs both.1

pub none-first : {X : Type 0} (test : X → Bool) (xs : List X) → list_any test xs ≡ false → first_number test xs ≡ None
none-first test xs h = none-from 0 test xs h

-- a stricter test
pub none-of : {X : Type 0} (test wider : X → Bool) (xs : List X) → ((x : X) → test x ≡ true → wider x ≡ true) → list_any wider xs ≡ false → list_any test xs ≡ false
none-of test wider [] only h = refl
none-of test wider (x ∷ xs) only h =
    let both = or-false (wider x) (list_any wider xs) h in
    ap (λ b. b || list_any test xs) (fails (test x) refl both.0) ∙ none-of test wider xs only both.1 where
      fails : (b : Bool) → test x ≡ b → wider x ≡ false → test x ≡ false
      fails true is no' = (let yes' : wider x ≡ true = only x is in absurd (cc))
      fails false is no' = is

-- nothing is gathered where none passes
pub none-gathered : {X Y : Type 0} (test : X → Bool) (f : X → List Y) (xs : List X) → list_any test xs ≡ false → flat_map (λ x. cond {A = List Y} (test x) (f x) []) xs ≡ []
none-gathered test f [] h = refl
none-gathered {Y = Y} test f (x ∷ xs) h =
    let both = or-false (test x) (list_any test xs) h in
    ap (λ b. cond {A = List Y} b (f x) [] ++ flat_map (λ x. cond {A = List Y} (test x) (f x) []) xs) both.0 ∙ none-gathered test f xs both.1

pub nothing-more : {X : Type 0} (items more : List X) → more ≡ [] → items ≡ items ++ more
nothing-more {X = X} items more none = sym (append-nil items) ∙ ap (λ (ys : List X). items ++ ys) (sym none)

-- the tests that only lemmas of F(k) on a predicate pass

pub shuts-on : (k : ℕ) (a : Ground) (e : Framed) → shuts k a e ≡ true → is_on k a.0 e ≡ true
shuts-on k a e h =
    let both = both_true (nat_le k e.level) (excludes e.lemma a) h in
    let more = both_true (e.lemma.pred == a.0) (cube_holds a.1 e.lemma.cube) both.1 in
    from_both (nat_le k e.level) (e.lemma.pred == a.0) both.0 more.0

pub equals-on : (k : ℕ) (lemma : Lemma) (e : Framed) → equals k lemma e ≡ true → is_on k lemma.pred e ≡ true
equals-on k lemma e h =
    let both = both_true (nat_le k e.level) (same_lemma e.lemma lemma) h in
    let more = both_true (e.lemma.pred == lemma.pred) (same_cube e.lemma.cube lemma.cube) both.1 in
    from_both (nat_le k e.level) (e.lemma.pred == lemma.pred) both.0 more.0

pub denied : (b : Bool) → not b ≡ true → b ≡ false
denied true h = absurd (cc)
denied false h = refl

pub none-empty : (test : ℕ → Bool) (xs : List ℕ) → (length xs == 0) ≡ true → list_any test xs ≡ false
none-empty test [] h = refl
none-empty test (x ∷ xs) h = (let is = eqb-true (length (x ∷ xs)) 0 h in absurd (omega (arith, is)))
