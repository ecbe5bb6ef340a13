-- What a fact rests on, in order of number, is closed and ends in the fact.
use Rattle.std.proofs.Common.{◌≡◌, ℕ, zero, suc, ◌<◌, ◌≤◌, List, [], ◌∷◌, ◌++◌, length, map, get_or, Some, None, refl, ap, sym, ◌∙◌, subst, append_assoc, arith, inl, inr}
use Rattle.std.specs.Prelude.{◌⊎◌, Option, option_map, slice_get}
use Rattle.std.specs.List.{AllPairs, Contains}
use Rattle.std.proofs.lemmas.List.Elements.{All-contains, Contains-append_cases, Contains-get_or}
use Rattle.std.proofs.lemmas.Option.{get_or_from_slice_get, slice_get-map}
use Rattle.derivations.specs.Facts.{AreRecorded, AreSteps, RestsOn, height_of, pred_of, fact_premises}
use Rattle.derivations.specs.Facts.RestsOn.{itself, through}
use Rattle.derivations.specs.declared.fact.Fact.{Fact as KeptFact}
use Rattle.derivations.proofs.Public.{steps_closed}
use Rattle.book_rules.specs.State.{Fact}
use Rattle.step_rules.specs.Views.{ground_conclusion, facts_of}
use Rattle.step_rules.proofs.Public.{fact_of-at}
use Rattle.cert_derivations.specs.Steps.{AreBehind, IsBehind}
use Rattle.cert_derivations.specs.Claims.{EndInFalse}

at-number : {X : Type 0} (xs : List X) (n : ℕ) → n < length xs → (x : X) × (slice_get xs n ≡ Some x)
at-number [] n within = absurd (omega (arith, within))
at-number (x ∷ xs) zero within = (x, refl)
at-number (x ∷ xs) (suc n) within = at-number xs n (omega (arith, within))

premises-are : (facts : List KeptFact) (n : ℕ) (f : KeptFact) → slice_get facts n ≡ Some f → fact_premises facts n ≡ f.premises
premises-are facts n f there =
    get_or_from_slice_get (map (λ (g : KeptFact). g.premises) facts) n f.premises [] (slice_get-map (λ (g : KeptFact). g.premises) facts n ∙ ap (option_map (λ (g : KeptFact). g.premises)) there)

pred-is : (facts : List KeptFact) (n : ℕ) (f : KeptFact) → slice_get facts n ≡ Some f → pred_of facts n ≡ f.pred
pred-is facts n f there =
    get_or_from_slice_get (map (λ (g : KeptFact). g.pred) facts) n f.pred None (slice_get-map (λ (g : KeptFact). g.pred) facts n ∙ ap (option_map (λ (g : KeptFact). g.pred)) there)

-- a kept fact as one of the book
abbrev book_fact : List KeptFact → ℕ → KeptFact → Fact
book_fact facts n f = record { conclusion = ground_conclusion f.pred f.tuple; clause = f.clause; point = f.point; premises = f.premises; height = height_of facts n }

-- what a fact rests on comes no later
rests-below : (facts : List KeptFact) {n m : ℕ} → AreRecorded facts → n < length facts → RestsOn facts n m → m ≤ n
rests-below facts recorded within itself = omega arith
rests-below facts {n = n} {m = m} recorded within (through p has_it rest) =
    let less = All-contains (λ q. q < n) (fact_premises facts n) p (recorded.earlier n within) has_it in
    let low = rests-below facts recorded (omega (arith, less, within)) rest in
    omega (arith, less, low)

module _ (facts : List KeptFact) (recorded : AreRecorded facts) where
  behind : (before rest : List ℕ) (n : ℕ) → n < length facts → AllPairs (λ x y. x < y) (n ∷ rest) → ((q : ℕ) → Contains (fact_premises facts n) q → Contains (before ++ n ∷ rest) q)
      → IsBehind (facts_of facts) before n
  behind before rest n within order closed =
      let at = at-number facts n within in
      record {
        fact = book_fact facts n at.0;
        there = fact_of-at facts n at.0 at.1;
        premises = λ k d inside. found (get_or (at.0).premises k d) (subst (λ (ps : List ℕ). Contains ps (get_or (at.0).premises k d)) (sym (premises-are facts n at.0 at.1)) (Contains-get_or (at.0).premises k d inside));
      }
    where
      ahead : (p : ℕ) → p < n → Contains before p ⊎ Contains (n ∷ rest) p → Contains before p
      ahead p less (inl there) = there
      ahead p less (inr (zero, l, is)) = absurd (let same : n ≡ p = is in omega (arith, less, same))
      ahead p less (inr (suc k, l, is)) =
          let up : n < get_or (n ∷ rest) (suc k) p = order 0 (suc k) p (omega arith) l in
          let same : get_or (n ∷ rest) (suc k) p ≡ p = is in
          absurd (omega (arith, less, up, same))

      found : (p : ℕ) → Contains (fact_premises facts n) p → Contains before p
      found p of_n =
          ahead p (All-contains (λ q. q < n) (fact_premises facts n) p (recorded.earlier n within) of_n) (Contains-append_cases before (n ∷ rest) p (closed p of_n))

  ascending : (before steps : List ℕ) → AllPairs (λ x y. x < y) steps → ((m : ℕ) → Contains steps m → m < length facts)
      → ((m q : ℕ) → Contains steps m → Contains (fact_premises facts m) q → Contains (before ++ steps) q) → AreBehind (facts_of facts) before steps
  ascending before [] order there closed = tt
  ascending before (n ∷ steps) order there closed = (behind before steps n (there n (0, omega arith, refl)) order (λ q of_n. closed n q (0, omega arith, refl) of_n), ascending (before ++ n ∷ []) steps below inside among)
    where
      below : AllPairs (λ x y. x < y) steps
      below a b d less within = order (suc a) (suc b) d (omega (arith, less)) (omega (arith, within))

      inside : (m : ℕ) → Contains steps m → m < length facts
      inside m has_it = there m (suc has_it.0, (let l = has_it.1 in omega (arith, l)), has_it.2)

      among : (m q : ℕ) → Contains steps m → Contains (fact_premises facts m) q → Contains ((before ++ n ∷ []) ++ steps) q
      among m q has_it of_m =
          subst (λ (xs : List ℕ). Contains xs q) (sym (append_assoc before (n ∷ []) steps)) (closed m q (suc has_it.0, (let l = has_it.1 in omega (arith, l)), has_it.2) of_m)

-- the greatest is the last
ends-in : (xs : List ℕ) (n : ℕ) → AllPairs (λ x y. x < y) xs → Contains xs n → ((m : ℕ) → Contains xs m → m ≤ n) → (before : List ℕ) × (xs ≡ before ++ n ∷ [])
ends-in [] n order has_it most = absurd (let l = has_it.1 in omega (arith, l))
ends-in (x ∷ []) n order (zero, l, is) most = ([], ap (λ (y : ℕ). y ∷ []) is)
ends-in (x ∷ []) n order (suc k, l, is) most = absurd (omega (arith, l))
ends-in (x ∷ y ∷ xs) n order (zero, l, is) most =
    let up : x < y = order 0 1 n (omega arith) (omega arith) in
    let low = most y (1, omega arith, refl) in
    let same : x ≡ n = is in
    absurd (omega (arith, up, low, same))
ends-in (x ∷ y ∷ xs) n order (suc k, l, is) most =
    let rest = ends-in (y ∷ xs) n (λ a b d less within. order (suc a) (suc b) d (omega (arith, less)) (omega (arith, within))) (k, omega (arith, l), is)
    (λ m has_it. most m (suc has_it.0, (let w = has_it.1 in omega (arith, w)), has_it.2)) in
    (x ∷ rest.0, ap (λ (ys : List ℕ). x ∷ ys) rest.1)

pub steps-end : (facts : List KeptFact) (n : ℕ) (steps : List ℕ) → AreRecorded facts → n < length facts → pred_of facts n ≡ None → AreSteps facts n steps → EndInFalse (facts_of facts) steps
steps-end facts n steps recorded within is are =
    let most : (m : ℕ) → Contains steps m → m ≤ n = λ m has_it. rests-below facts recorded within ((are.exact m).0 has_it) in
    let end = ends-in steps n are.order ((are.exact n).1 itself) most in
    let at = at-number facts n within in
    record {
      closed = ascending facts recorded [] steps are.order (λ m has_it. (let low = most m has_it in omega (arith, low, within))) (λ m q has_it of_m. steps_closed facts n m q steps are has_it of_m);
      before = end.0;
      last = n;
      ends = end.1;
      fact = book_fact facts n at.0;
      there = fact_of-at facts n at.0 at.1;
      is_false = ap (λ (p : Option ℕ). ground_conclusion p (at.0).tuple) (sym (pred-is facts n at.0 at.1) ∙ is);
    }
