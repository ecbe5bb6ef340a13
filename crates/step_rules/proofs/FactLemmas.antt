-- What stands among the facts: at a number, and as the first with a conclusion.
use Rattle.std.proofs.Common.{◌≡◌, ◌↔◌, ℕ, zero, suc, ◌+◌, ◌<◌, ◌≤◌, List, [], ◌∷◌, length, get_or, Bool, true, false, ◌&&◌, cond, Some, None, refl, ap, ap₂, sym, ◌∙◌, subst, arith, inl, inr}
use Rattle.std.specs.Prelude.{ℤ, Option, is_none, is_some, slice_get, ◌==◌, ◌⊎◌}
use Rattle.std.proofs.lemmas.Bool.{cases_lt, eqb-true}
use Rattle.std.proofs.lemmas.Bool.Decides.{nat_tests}
use mathlib.Core.Bool.{true≢false}
use Rattle.derivations.specs.Facts.{Concludes, height_of, pred_of, tuple_of}
use Rattle.derivations.specs.declared.fact.Fact.{Fact as KeptFact}
use Rattle.book_rules.specs.FactRules.{are_facts_of, is_fact_of}
use Rattle.book_rules.specs.Instances.{Ground}
use Rattle.book_rules.specs.Same.{same_tuple}
use Rattle.book_rules.specs.State.{Fact, same_conclusion}
use Rattle.book_rules.specs.Walks.{first_number, has, number_from}
use Rattle.book_rules.proofs.Public.{tuples_equal}
use Rattle.step_rules.specs.Views.{ground_conclusion, facts_of}
use Rattle.step_rules.specs.Falsity.{IsLastFalse}
use Rattle.cube_rules.proofs.Public.{both_true, from_both, plus-none}
use Rattle.step_rules.proofs.ViewLemmas.{fact_of-at, length-facts}

-- the fact of a number

get-is : {X : Type 0} (xs : List X) (n : ℕ) (x : X) → n < length xs → x ≡ get_or xs n x → slice_get xs n ≡ Some x
get-is [] n x within is = absurd (omega arith)
get-is (y ∷ xs) zero x within is = ap (λ z. Some z) (sym is)
get-is (y ∷ xs) (suc n) x within is = get-is xs n x (omega arith) is

abbrev made : List KeptFact → ℕ → KeptFact → Fact
made facts n f = record { conclusion = ground_conclusion f.pred f.tuple; clause = f.clause; point = f.point; premises = f.premises; height = height_of facts n }

pub fact-has : (facts : List KeptFact) (n : ℕ) (f : KeptFact) (p : Option Ground → Bool) → n < length facts → f ≡ get_or facts n f → has (slice_get (facts_of facts) n) (λ (g : Fact). p g.conclusion) ≡ p (ground_conclusion f.pred f.tuple)
fact-has facts n f p within is = ap (λ (found : Option Fact). has found (λ (g : Fact). p g.conclusion)) (fact_of-at facts n f (get-is facts n f within is))

get-none : {X : Type 0} (xs : List X) (n : ℕ) → length xs ≤ n → slice_get xs n ≡ None
get-none [] n past = refl
get-none (y ∷ xs) zero past = absurd (omega arith)
get-none (y ∷ xs) (suc n) past = get-none xs n (omega arith)

pub fact-past : (facts : List KeptFact) (n : ℕ) (test : Fact → Bool) → length facts ≤ n → has (slice_get (facts_of facts) n) test ≡ false
fact-past facts n test past =
    let long = length-facts facts in
    ap (λ (found : Option Fact). has found test) (get-none (facts_of facts) n (omega (arith, past, long)))

-- premises and body, side by side

pub facts-on : (facts : List Fact) (premises rest : List ℕ) (body others : List Ground) (p : ℕ) (a : Ground) → premises ≡ p ∷ rest → body ≡ a ∷ others → is_fact_of facts p a ≡ true → are_facts_of facts premises body ≡ are_facts_of facts rest others
facts-on facts premises rest body others p a split other passes = ap₂ (λ (ps : List ℕ) (gs : List Ground). are_facts_of facts ps gs) split other ∙ ap (λ b. b && are_facts_of facts rest others) passes

pub facts-fail : (facts : List Fact) (premises rest : List ℕ) (body others : List Ground) (p : ℕ) (a : Ground) → premises ≡ p ∷ rest → body ≡ a ∷ others → is_fact_of facts p a ≡ false → are_facts_of facts premises body ≡ false
facts-fail facts premises rest body others p a split other fails = ap₂ (λ (ps : List ℕ) (gs : List Ground). are_facts_of facts ps gs) split other ∙ ap (λ b. b && are_facts_of facts rest others) fails

pub facts-uneven : (facts : List Fact) (premises : List ℕ) (body : List Ground) → (length premises ≡ length body → ⊥) → are_facts_of facts premises body ≡ false
facts-uneven facts [] [] uneven = absurd (uneven refl)
facts-uneven facts [] (a ∷ body) uneven = refl
facts-uneven facts (p ∷ premises) [] uneven = refl
facts-uneven facts (p ∷ premises) (a ∷ body) uneven = by (is_fact_of facts p a) (facts-uneven facts premises body (λ same. uneven (ap suc same))) where
  by : (b : Bool) → are_facts_of facts premises body ≡ false → (b && are_facts_of facts premises body) ≡ false
  by true rest = rest
  by false rest = refl

-- the first that passes, by what stands before it

pub first-where : {X : Type 0} (k : ℕ) (test : X → Bool) (xs : List X) (n : ℕ) (x : X) → slice_get xs n ≡ Some x → test x ≡ true → ((m : ℕ) (y : X) → m < n → slice_get xs m ≡ Some y → test y ≡ false) → number_from k test xs ≡ Some (k + n)
first-where k test [] n x there passes before = absurd (cc)
first-where k test (y ∷ xs) zero x there passes before =
    let same : y ≡ x = cc in
    ap (λ b. cond {A = Option ℕ} b (Some k) (number_from (k + 1) test xs)) (ap test same ∙ passes) ∙ ap (λ i. Some i) (plus-none k)
first-where k test (y ∷ xs) (suc n) x there passes before =
    ap (λ b. cond {A = Option ℕ} b (Some k) (number_from (k + 1) test xs)) (before 0 y (omega arith) refl)
    ∙ first-where (k + 1) test xs n x there passes (λ m z less at. before (suc m) z (omega arith) at)
    ∙ ap (λ i. Some i) (let shift : k + 1 + n ≡ k + suc n = omega arith in shift)

pub none-where : {X : Type 0} (k : ℕ) (test : X → Bool) (xs : List X) → ((m : ℕ) (y : X) → slice_get xs m ≡ Some y → test y ≡ false) → number_from k test xs ≡ None
none-where k test [] never = refl
none-where k test (y ∷ xs) never =
    ap (λ b. cond {A = Option ℕ} b (Some k) (number_from (k + 1) test xs)) (never 0 y refl)
    ∙ none-where (k + 1) test xs (λ m z at. never (suc m) z at)

-- a fact of the list, with what it was made of

pub record IsAt (facts : List KeptFact) (n : ℕ) (g : Fact) : Type 0 where
  pub kept : KeptFact
  pub less : n < length facts
  pub there : slice_get facts n ≡ Some kept
  pub conclusion : g.conclusion ≡ ground_conclusion kept.pred kept.tuple
  pub pred : pred_of facts n ≡ kept.pred
  pub tuple : tuple_of facts n ≡ kept.tuple

within-at : {X : Type 0} (xs : List X) (n : ℕ) (x : X) → slice_get xs n ≡ Some x → n < length xs
within-at [] n x there = absurd (cc)
within-at (y ∷ xs) zero x there = omega arith
within-at (y ∷ xs) (suc n) x there = let rest = within-at xs n x there in omega arith

kept-at : (facts : List KeptFact) (n : ℕ) → n < length facts → (f : KeptFact) × (slice_get facts n ≡ Some f) × (pred_of facts n ≡ f.pred) × (tuple_of facts n ≡ f.tuple)
kept-at [] n within = absurd (omega arith)
kept-at (f ∷ facts) zero within = (f, refl, refl, refl)
kept-at (f ∷ facts) (suc n) within = kept-at facts n (omega arith)

pub is-at : (facts : List KeptFact) (n : ℕ) (g : Fact) → slice_get (facts_of facts) n ≡ Some g → IsAt facts n g
is-at facts n g at =
    let low = within-at (facts_of facts) n g at in
    let long = length-facts facts in
    let less : n < length facts = omega (arith, low, long) in
    let found = kept-at facts n less in
    let same : made facts n found.0 ≡ g = (let both = sym (fact_of-at facts n found.0 found.1) ∙ at in cc) in
    record { kept = found.0; less = less; there = found.1; conclusion = ap (λ (h : Fact). h.conclusion) (sym same); pred = found.2; tuple = found.3 }

-- false is the last fact, if it is there

no-pred : (pred : Option ℕ) (tuple : List ℤ) → is_none (ground_conclusion pred tuple) ≡ is_none pred
no-pred None tuple = refl
no-pred (Some p) tuple = refl

some-is : (pred : Option ℕ) → is_some pred ≡ true → is_none pred ≡ false
some-is None h = absurd (cc)
some-is (Some p) h = refl

abbrev is_false : Fact → Bool
is_false f = is_none f.conclusion

not-false : (facts : List KeptFact) (m : ℕ) (y : Fact) → slice_get (facts_of facts) m ≡ Some y → is_some (pred_of facts m) ≡ true → is_false y ≡ false
not-false facts m y at some =
    let is = is-at facts m y at in
    ap is_none is.conclusion ∙ no-pred is.kept.pred is.kept.tuple ∙ some-is is.kept.pred (ap is_some (sym is.pred) ∙ some)

pub false-last : (facts : List KeptFact) (n : ℕ) (f : KeptFact) → IsLastFalse facts → n + 1 ≡ length facts → f ≡ get_or facts n f → is_none f.pred ≡ true → Some n ≡ first_number is_false (facts_of facts)
false-last facts n f last long is none =
    let at = fact_of-at facts n f (get-is facts n f (omega (arith, long)) is) in
    sym (first-where 0 is_false (facts_of facts) n (made facts n f) at (no-pred f.pred f.tuple ∙ none) (λ m y less there. not-false facts m y there (last m (omega (arith, long, less)))) ∙ ap (λ i. Some i) (let zero-n : 0 + n ≡ n = omega arith in zero-n))

pub false-none : (facts : List KeptFact) (n : ℕ) (f : KeptFact) → IsLastFalse facts → n + 1 ≡ length facts → f ≡ get_or facts n f → is_none f.pred ≡ false → None ≡ first_number is_false (facts_of facts)
false-none facts n f last long is some = sym (none-where 0 is_false (facts_of facts) never) where
  at-end : (m : ℕ) → m ≡ n → is_some (pred_of facts m) ≡ true
  at-end m same =
      let found = kept-at facts n (omega (arith, long)) in
      let kept : found.0 ≡ f = (let both = sym found.1 ∙ get-is facts n f (omega (arith, long)) is in cc) in
      ap (λ k. is_some (pred_of facts k)) same ∙ ap is_some (found.2 ∙ ap (λ (g : KeptFact). g.pred) kept) ∙ some-of f.pred some where
        some-of : (pred : Option ℕ) → is_none pred ≡ false → is_some pred ≡ true
        some-of None h = absurd (cc)
        some-of (Some p) h = refl

  never : (m : ℕ) (y : Fact) → slice_get (facts_of facts) m ≡ Some y → is_false y ≡ false
  never m y there =
      let less = (is-at facts m y there).less in
      not-false facts m y there (by (cases_lt (m + 1) (length facts)) less) where
        by : (m + 1 < length facts) ⊎ (length facts ≤ m + 1) → m < length facts → is_some (pred_of facts m) ≡ true
        by (inl low) less = last m low
        by (inr high) less = at-end m (omega (arith, long, high, less))

pub false-empty : (facts : List KeptFact) → length facts ≤ 0 → None ≡ first_number is_false (facts_of facts)
false-empty [] past = refl
false-empty (f ∷ facts) past = absurd (omega arith)

-- the fact with a conclusion

same-then : (pred : Option ℕ) (tuple : List ℤ) (a : Ground) → same_conclusion (ground_conclusion pred tuple) (Some a) ≡ true → (pred ≡ Some a.0) × (tuple ≡ a.1)
same-then None tuple a h = absurd (true≢false (sym h))
same-then (Some p) tuple a h =
    let both = both_true (p == a.0) (same_tuple tuple a.1) h in
    (ap (λ q. Some q) (eqb-true p a.0 both.0), (tuples_equal tuple a.1).0 both.1)

nat-same : (n : ℕ) → (n == n) ≡ true
nat-same n = grind (arith, nat_tests)

then-same : (tuple : List ℤ) (a : Ground) → tuple ≡ a.1 → same_conclusion (ground_conclusion (Some a.0) tuple) (Some a) ≡ true
then-same tuple a is = from_both (a.0 == a.0) (same_tuple tuple a.1) (nat-same a.0) ((tuples_equal tuple a.1).1 is)

abbrev is_of : Ground → Fact → Bool
is_of a f = same_conclusion f.conclusion (Some a)

found-at : (facts : List KeptFact) (found : Option ℕ) (a : Ground) → ((n : ℕ) → (found ≡ Some n) ↔ Concludes facts n (Some a.0) a.1) → found ≡ first_number (is_of a) (facts_of facts)
found-at facts found a tells = by found refl where
  concluded : (m : ℕ) (y : Fact) → slice_get (facts_of facts) m ≡ Some y → is_of a y ≡ true → found ≡ Some m
  concluded m y at passes =
      let is = is-at facts m y at in
      let same = same-then is.kept.pred is.kept.tuple a (ap (λ c. same_conclusion c (Some a)) (sym is.conclusion) ∙ passes) in
      (tells m).1 (is.less, is.pred ∙ same.0, is.tuple ∙ same.1)

  fails : (b : Bool) → (b ≡ true → ⊥) → b ≡ false
  fails true h = absurd (h refl)
  fails false h = refl

  by : (o : Option ℕ) → found ≡ o → found ≡ first_number (is_of a) (facts_of facts)
  by None none = none ∙ sym (none-where 0 (is_of a) (facts_of facts) (λ m y at. fails (is_of a y) (λ passes. (let both = sym none ∙ concluded m y at passes in absurd (cc)))))
  by (Some n) some =
      let told = (tells n).0 some in
      let kept = kept-at facts n told.0 in
      let at = fact_of-at facts n kept.0 kept.1 in
      let passes : is_of a (made facts n kept.0) ≡ true = ap (λ (p : Option ℕ). same_conclusion (ground_conclusion p kept.0.tuple) (Some a)) (sym kept.2 ∙ told.1) ∙ then-same kept.0.tuple a (sym kept.3 ∙ told.2) in
      some ∙ sym (first-where 0 (is_of a) (facts_of facts) n (made facts n kept.0) at passes (λ m y less there. fails (is_of a y) (λ holds. (let both : Some n ≡ Some m = sym some ∙ concluded m y there holds in let same : n ≡ m = cc in absurd (omega (arith, less, same))))) ∙ ap (λ i. Some i) (let zero-n : 0 + n ≡ n = omega arith in zero-n))

pub found-is : (facts : List KeptFact) (found : Option ℕ) (a : Ground) (tuple : List ℤ) → tuple ≡ a.1 → ((n : ℕ) → (found ≡ Some n) ↔ Concludes facts n (Some a.0) tuple) → found ≡ first_number (is_of a) (facts_of facts)
found-is facts found a tuple is tells = found-at facts found a (subst (λ (ts : List ℤ). (n : ℕ) → (found ≡ Some n) ↔ Concludes facts n (Some a.0) ts) is tells)

numbers-same : {X : Type 0} (k : ℕ) (p q : X → Bool) → ((x : X) → p x ≡ q x) → (xs : List X) → number_from k p xs ≡ number_from k q xs
numbers-same k p q same [] = refl
numbers-same k p q same (x ∷ xs) =
    ap (λ b. cond {A = Option ℕ} b (Some k) (number_from (k + 1) p xs)) (same x)
    ∙ ap (λ (rest : Option ℕ). cond {A = Option ℕ} (q x) (Some k) rest) (numbers-same (k + 1) p q same xs)

none-alike : (c : Option Ground) → is_none c ≡ same_conclusion c None
none-alike None = refl
none-alike (Some a) = refl

pub false-is : (facts : List KeptFact) (found : Option ℕ) → found ≡ first_number is_false (facts_of facts) → found ≡ first_number (λ (f : Fact). same_conclusion f.conclusion None) (facts_of facts)
false-is facts found is = is ∙ numbers-same 0 is_false (λ (f : Fact). same_conclusion f.conclusion None) (λ f. none-alike f.conclusion) (facts_of facts)
