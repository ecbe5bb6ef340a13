-- The facts on which a fact rests are a derivation that ends in it.
use Rattle.std.proofs.Common.{◌≡◌, ℕ, zero, suc, ◌<◌, ◌≤◌, List, [], ◌∷◌, ◌++◌, length, map, take, drop, get_or, Bool, true, Some, None, refl, ap, sym, ◌∙◌, subst, append_assoc, append-nil, arith, inl, inr}
use Rattle.std.specs.Prelude.{◌⊎◌, Option, option_map, slice_get}
use Rattle.std.specs.List.{All, AllPairs, Contains}
use Rattle.std.proofs.lemmas.List.{length-take, take-append-drop}
use Rattle.std.proofs.lemmas.List.Elements.{All-contains, Contains-append_cases, Contains-get_or}
use Rattle.std.proofs.lemmas.Option.{get_or_from_slice_get, slice_get-map, slice_get_within}
use Rattle.clause_form.specs.System.{Clauses}
use Rattle.derivations.specs.Facts.{AreSteps, RestsOn, height_of, fact_premises}
use Rattle.derivations.specs.Facts.RestsOn.{itself, through}
use Rattle.derivations.specs.declared.fact.Fact.{Fact as KeptFact}
use Rattle.derivations.proofs.Public.{steps_closed}
use Rattle.book_rules.specs.FactRules.{are_facts_of, is_fact_of}
use Rattle.book_rules.specs.Instances.{Ground, body_at}
use Rattle.book_rules.specs.Kept.{AreRecorded, IsRecorded}
use Rattle.book_rules.specs.State.{Fact, same_conclusion}
use Rattle.book_rules.specs.Walks.{has}
use Rattle.book_rules.proofs.ListLemmas.{both_true, from_both}
use Rattle.chc_core.specs.Derivations.{AreStepsAfter, IsDerivation, IsStep}
use Rattle.step_rules.specs.Views.{ground_conclusion, facts_of}
use Rattle.step_rules.proofs.ViewLemmas.{fact_of-at}

-- the fact of a number is recorded after those before it
pub recorded-at : (sys : Clauses) (before facts : List Fact) (n : ℕ) (f : Fact) → AreRecorded sys before facts → slice_get facts n ≡ Some f → IsRecorded sys (before ++ take n facts) f
recorded-at sys before [] n f all there = absurd (cc)
recorded-at sys before (x ∷ facts) zero f all there =
    let same : x ≡ f = cc in
    subst (λ (xs : List Fact). IsRecorded sys xs f) (sym (append-nil before)) (subst (IsRecorded sys before) same all.0)
recorded-at sys before (x ∷ facts) (suc n) f all there = subst (λ (xs : List Fact). IsRecorded sys xs f) (append_assoc before (x ∷ []) (take n facts)) (recorded-at sys (before ++ x ∷ []) facts n f all.1 there)

-- what is named among the first facts is named among all

has-more : (test : Fact → Bool) (facts more : List Fact) (p : ℕ) → has (slice_get facts p) test ≡ true → has (slice_get (facts ++ more) p) test ≡ true
has-more test [] more p h = absurd (cc)
has-more test (x ∷ facts) more zero h = h
has-more test (x ∷ facts) more (suc p) h = has-more test facts more p h

pub facts-more : (facts more : List Fact) (premises : List ℕ) (body : List Ground) → are_facts_of facts premises body ≡ true → are_facts_of (facts ++ more) premises body ≡ true
facts-more facts more [] [] all = refl
facts-more facts more [] (a ∷ body) all = absurd (cc)
facts-more facts more (p ∷ premises) [] all = absurd (cc)
facts-more facts more (p ∷ premises) (a ∷ body) all =
    let both = both_true (is_fact_of facts p a) (are_facts_of facts premises body) all in
    from_both (is_fact_of (facts ++ more) p a) (are_facts_of (facts ++ more) premises body) (has-more (λ (f : Fact). same_conclusion f.conclusion (Some a)) facts more p both.0) (facts-more facts more premises body both.1)

-- premises are numbers of earlier facts

pub has-there : {X : Type 0} (found : Option X) (test : X → Bool) → has found test ≡ true → (x : X) × (found ≡ Some x) × (test x ≡ true)
has-there None test h = absurd (cc)
has-there (Some x) test h = (x, refl, h)

pub premises-there : (facts : List Fact) (premises : List ℕ) (body : List Ground) → are_facts_of facts premises body ≡ true → All (λ p. p < length facts) premises
premises-there facts [] body h = λ k d within. absurd (omega arith)
premises-there facts (p ∷ premises) [] h = absurd (cc)
premises-there facts (p ∷ premises) (a ∷ body) h =
    let both = both_true (is_fact_of facts p a) (are_facts_of facts premises body) h in
    let found = has-there (slice_get facts p) (λ (f : Fact). same_conclusion f.conclusion (Some a)) both.0 in
    let first = slice_get_within facts p found.0 found.1 in
    each first (premises-there facts premises body both.1) where
      each : p < length facts → All (λ q. q < length facts) premises → All (λ q. q < length facts) (p ∷ premises)
      each first rest zero d within = first
      each first rest (suc k) d within = rest k d (omega arith)

pub at-number : {X : Type 0} (xs : List X) (n : ℕ) → n < length xs → (x : X) × (slice_get xs n ≡ Some x)
at-number [] n within = absurd (omega arith)
at-number (x ∷ xs) zero within = (x, refl)
at-number (x ∷ xs) (suc n) within = at-number xs n (omega arith)

premises-are : (facts : List KeptFact) (n : ℕ) (f : KeptFact) → slice_get facts n ≡ Some f → fact_premises facts n ≡ f.premises
premises-are facts n f there = get_or_from_slice_get (map (λ (g : KeptFact). g.premises) facts) n f.premises [] (slice_get-map (λ (g : KeptFact). g.premises) facts n ∙ ap (option_map (λ (g : KeptFact). g.premises)) there)

-- the fact of a number, as it was recorded
record Known (sys : Clauses) (facts : List KeptFact) (n : ℕ) : Type 0 where
  fact : Fact
  there : slice_get (facts_of facts) n ≡ Some fact
  recorded : IsRecorded sys (take n (facts_of facts)) fact
  premises : fact_premises facts n ≡ fact.premises

known : (sys : Clauses) (facts : List KeptFact) (n : ℕ) → AreRecorded sys [] (facts_of facts) → n < length facts → Known sys facts n
known sys facts n all within =
    let at = at-number facts n within in
    let there = fact_of-at facts n at.0 at.1 in
    let fact : Fact = record { conclusion = ground_conclusion (at.0).pred (at.0).tuple; clause = (at.0).clause; point = (at.0).point; premises = (at.0).premises; height = height_of facts n } in
    record { fact = fact; there = there; recorded = recorded-at sys [] (facts_of facts) n fact all there; premises = premises-are facts n at.0 at.1 }

earlier : (sys : Clauses) (facts : List KeptFact) (n p : ℕ) → AreRecorded sys [] (facts_of facts) → n < length facts → Contains (fact_premises facts n) p → p < n
earlier sys facts n p all within has_it =
    let k = known sys facts n all within in
    let below = premises-there (take n (facts_of facts)) (k.fact).premises _ (k.recorded).premises in
    let there = subst (λ (ps : List ℕ). Contains ps p) k.premises has_it in
    let less = All-contains (λ q. q < length (take n (facts_of facts))) (k.fact).premises p below there in
    let long = length-take n (facts_of facts) in
    omega (arith, less, long)

-- what a fact rests on comes no later
rests-below : (sys : Clauses) (facts : List KeptFact) {n m : ℕ} → AreRecorded sys [] (facts_of facts) → n < length facts → RestsOn facts n m → m ≤ n
rests-below sys facts all within itself = omega arith
rests-below sys facts {n = n} {m = m} all within (through p has_it rest) =
    let less = earlier sys facts n p all within has_it in
    let low = rests-below sys facts all (omega (arith, less, within)) rest in
    omega (arith, less, low)

-- a list of numbers that ascends, each of a recorded fact whose premises are among it or before it, is a list of steps
ascending : (sys : Clauses) (facts : List KeptFact) (before steps : List ℕ) → AreRecorded sys [] (facts_of facts) → AllPairs (λ x y. x < y) steps
    → ((m : ℕ) → Contains steps m → m < length facts) → ((m q : ℕ) → Contains steps m → Contains (fact_premises facts m) q → Contains (before ++ steps) q) → AreStepsAfter sys (facts_of facts) before steps
ascending sys facts before [] all order there closed = tt
ascending sys facts before (n ∷ steps) all order there closed = (step, ascending sys facts (before ++ n ∷ []) steps all below inside among) where
  within : n < length facts
  within = there n (0, omega arith, refl)

  here : Known sys facts n
  here = known sys facts n all within

  ahead : (p : ℕ) → p < n → Contains before p ⊎ Contains (n ∷ steps) p → Contains before p
  ahead p less (inl there) = there
  ahead p less (inr (zero, l, is)) = absurd (let same : n ≡ p = is in omega (arith, less, same))
  ahead p less (inr (suc k, l, is)) =
      let up : n < get_or (n ∷ steps) (suc k) p = order 0 (suc k) p (omega arith) l in
      let same : get_or (n ∷ steps) (suc k) p ≡ p = is in
      absurd (omega (arith, less, up, same))

  found : (p : ℕ) → Contains (here.fact).premises p → Contains before p
  found p has_it =
      let of_n = subst (λ (ps : List ℕ). Contains ps p) (sym here.premises) has_it in
      ahead p (earlier sys facts n p all within of_n) (Contains-append_cases before (n ∷ steps) p (closed n p (0, omega arith, refl) of_n))

  whole : take n (facts_of facts) ++ drop n (facts_of facts) ≡ facts_of facts
  whole = take-append-drop n (facts_of facts)

  told : List Ground
  told = body_at (here.fact).point (here.recorded).clause

  step : IsStep sys (facts_of facts) before n
  step = record {
    fact = here.fact;
    there = here.there;
    clause = (here.recorded).clause;
    of_clause = (here.recorded).there;
    instance = (here.recorded).instance;
    head = (here.recorded).head;
    body = subst (λ (fs : List Fact). are_facts_of fs (here.fact).premises told ≡ true) whole (facts-more (take n (facts_of facts)) (drop n (facts_of facts)) (here.fact).premises told (here.recorded).premises);
    earlier = λ k d in'. found (get_or (here.fact).premises k d) (Contains-get_or (here.fact).premises k d in');
  }

  below : AllPairs (λ x y. x < y) steps
  below a b d less in' = order (suc a) (suc b) d (omega (arith, less)) (omega (arith, in'))

  inside : (m : ℕ) → Contains steps m → m < length facts
  inside m has_it = there m (suc has_it.0, (let l = has_it.1 in omega (arith, l)), has_it.2)

  among : (m q : ℕ) → Contains steps m → Contains (fact_premises facts m) q → Contains ((before ++ n ∷ []) ++ steps) q
  among m q has_it of_m = subst (λ (xs : List ℕ). Contains xs q) (sym (append_assoc before (n ∷ []) steps)) (closed m q (suc has_it.0, (let l = has_it.1 in omega (arith, l)), has_it.2) of_m)

-- the greatest is the last
ends-in : (xs : List ℕ) (n : ℕ) → AllPairs (λ x y. x < y) xs → Contains xs n → ((m : ℕ) → Contains xs m → m ≤ n) → (before : List ℕ) × (xs ≡ before ++ n ∷ [])
ends-in [] n order has_it most = absurd (let l = has_it.1 in omega (arith, l))
ends-in (x ∷ []) n order (zero, l, is) most = ([], ap (λ (y : ℕ). y ∷ []) is)
ends-in (x ∷ []) n order (suc k, l, is) most = absurd (omega (arith, l))
ends-in (x ∷ y ∷ xs) n order (zero, l, is) most =
    let up : x < y = order 0 1 n (omega arith) (omega arith) in
    let low = most y (1, omega arith, refl) in
    let same : x ≡ n = is in
    absurd (omega (arith, up, low, same))
ends-in (x ∷ y ∷ xs) n order (suc k, l, is) most =
    let rest = ends-in (y ∷ xs) n (λ a b d less in'. order (suc a) (suc b) d (omega (arith, less)) (omega (arith, in'))) (k, omega (arith, l), is) (λ m has_it. most m (suc has_it.0, (let w = has_it.1 in omega (arith, w)), has_it.2)) in
    (x ∷ rest.0, ap (λ (ys : List ℕ). x ∷ ys) rest.1)

pub steps-derivation : (sys : Clauses) (facts : List KeptFact) (n : ℕ) (steps : List ℕ) → AreRecorded sys [] (facts_of facts) → n < length facts → AreSteps facts n steps → IsDerivation sys (facts_of facts) n steps
steps-derivation sys facts n steps all within are =
    let most : (m : ℕ) → Contains steps m → m ≤ n = λ m has_it. rests-below sys facts all within ((are.exact m).0 has_it) in
    let end = ends-in steps n are.order ((are.exact n).1 itself) most in
    record {
      before = end.0;
      ends = end.1;
      each = ascending sys facts [] steps all are.order (λ m has_it. (let low = most m has_it in omega (arith, low, within))) (λ m q has_it of_m. steps_closed facts n m q steps are has_it of_m);
    }
