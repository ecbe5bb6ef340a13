-- The facts in a cube are among those whose tuples begin as its equations tell.
use Rattle.std.proofs.Common.{◌≡◌, ◌↔◌, ℕ, zero, suc, ◌+◌, ◌<◌, ◌≤◌, List, [], ◌∷◌, length, get_or, set, take, drop, Bool, true, false, ◌&&◌, cond, Some, None, refl, ap, ap₂, sym, ◌∙◌, subst, arith, inl, inr}
use Rattle.std.specs.Prelude.{ℤ, pos, negsuc, neg_ℤ, ◌+ℤ◌, ◌*ℤ◌, nat_abs, Option, slice_get, ◌==◌, nat_lt, ◌⊎◌}
use Rattle.std.specs.List.{Contains, fold, list_all}
use Rattle.std.proofs.lemmas.Bool.{cases_lt, cases_order, eqb-true}
use Rattle.std.proofs.lemmas.Bool.Decides.{nat_tests}
use Rattle.std.proofs.lemmas.Int.{ints}
use Rattle.std.proofs.lemmas.List.{get_or-set_same, get_or-set_other, length-set, length-take-le, take-set-le}
use Rattle.std.proofs.lemmas.List.Elements.{Contains-get_or}
use mathlib.Core.Bool.{true≢false}
use Rattle.lin_atoms.specs.Linear.{Linear, value_at, variable_at}
use Rattle.lin_atoms.specs.Truth.{lit_truth}
use Rattle.lin_atoms.specs.declared.lit.Lit.{Lit}
use Rattle.lin_atoms.specs.declared.lit.Lit.TheVariants.{Eq}
use Rattle.cube_forms.specs.Cubes.{cube_holds}
use Rattle.derivations.specs.Facts.{AreUnder, pred_of, tuple_of}
use Rattle.derivations.specs.declared.fact.Fact.{Fact as KeptFact}
use Rattle.book_rules.specs.Instances.{Ground}
use Rattle.book_rules.specs.State.{Fact, holds_of}
use Rattle.book_rules.specs.Walks.{first_number, has, number_from}
use Rattle.cube_rules.proofs.Public.{both_true, plus-one}
use Rattle.step_rules.specs.Views.{ground_conclusion, facts_of}
use Rattle.step_rules.specs.machinery.Fronts.{Pins, lesser, with_least}
use Rattle.step_rules.specs.machinery.Walks.{lies_in, lies_in_at}
use Rattle.step_rules.proofs.FactLemmas.{first-where, is-at, none-where}

-- an equation of one place tells its value

once-is : (x v : ℤ) → nat_abs (pos 1 *ℤ x +ℤ pos 0 +ℤ neg_ℤ v) ≡ 0 → x ≡ v
once-is x v none = omega (arith, ints)

other-is : (x v : ℤ) → nat_abs (negsuc 0 *ℤ x +ℤ pos 0 +ℤ v) ≡ 0 → x ≡ v
other-is x v none = omega (arith, ints)

zero-abs : (tuple : List ℤ) (lin : Linear) → lit_truth tuple (Eq lin) ≡ true → nat_abs (value_at tuple lin) ≡ 0
zero-abs tuple lin holds = eqb-true (nat_abs (value_at tuple lin)) 0 holds

pub pinned-is : (place : ℕ) (value : ℤ) (lin : Linear) → Pins place value lin → (tuple : List ℤ) → lit_truth tuple (Eq lin) ≡ true → variable_at tuple place ≡ value
pinned-is place value lin (inl is) tuple holds = once-is (variable_at tuple place) value (ap (λ (l : Linear). nat_abs (value_at tuple l)) (sym is) ∙ zero-abs tuple lin holds)
pinned-is place value lin (inr is) tuple holds = other-is (variable_at tuple place) value (ap (λ (l : Linear). nat_abs (value_at tuple l)) (sym is) ∙ zero-abs tuple lin holds)

-- a cube's literals hold one by one

pub holds-at : (tuple : List ℤ) (lits : List Lit) (i : ℕ) (lit : Lit) → i < length lits → lit ≡ get_or lits i lit → cube_holds tuple lits ≡ true → lit_truth tuple lit ≡ true
holds-at tuple [] i lit within is holds = absurd (omega arith)
holds-at tuple (x ∷ lits) zero lit within is holds = ap (lit_truth tuple) is ∙ (both_true (lit_truth tuple x) (cube_holds tuple lits) holds).0
holds-at tuple (x ∷ lits) (suc i) lit within is holds = holds-at tuple lits i lit (omega arith) is (both_true (lit_truth tuple x) (cube_holds tuple lits) holds).1

-- a tuple that has given values at its first places begins with them, where the last isn't 0

begins-suc : (tuple values : List ℤ) (n : ℕ) → n < length values → ((k : ℕ) → k < suc n → variable_at tuple k ≡ get_or values k (pos 0)) → (variable_at tuple n ≡ pos 0 → ⊥) → take (suc n) tuple ≡ take (suc n) values
begins-suc [] values n within told some = absurd (some refl)
begins-suc (x ∷ tuple) [] n within told some = absurd (omega arith)
begins-suc (x ∷ tuple) (v ∷ values) zero within told some = ap (λ (y : ℤ). y ∷ []) (told 0 (omega arith))
begins-suc (x ∷ tuple) (v ∷ values) (suc n) within told some =
    ap₂ (λ (y : ℤ) (ys : List ℤ). y ∷ ys) (told 0 (omega arith)) (begins-suc tuple values n (omega arith) (λ k less. told (suc k) (omega arith)) some)

-- the values so far: what they tell, and how many begin the tuples
pub record AreFront (lits : List Lit) (values : List ℤ) (at count : ℕ) : Type 0 where
  pub long : length values ≡ 4
  pub within : count ≤ at
  pub told : (tuple : List ℤ) → cube_holds tuple lits ≡ true → (k : ℕ) → k < at → variable_at tuple k ≡ get_or values k (pos 0)
  pub front : (tuple : List ℤ) → cube_holds tuple lits ≡ true → take count tuple ≡ take count values

pub front-more : (lits : List Lit) (values : List ℤ) (at count next : ℕ) (value : ℤ) → AreFront lits values at count → at < 4 → ((tuple : List ℤ) → cube_holds tuple lits ≡ true → variable_at tuple at ≡ value)
    → (next ≡ count) ⊎ ((next ≡ at + 1) × (value ≡ pos 0 → ⊥)) → AreFront lits (set values at value) (at + 1) next
front-more lits values at count next value old less tells which = record { long = long; within = within which; told = told; front = begins which } where
  long : length (set values at value) ≡ 4
  long = length-set values at value ∙ old.long

  inside : at < length values
  inside = (let four = old.long in omega arith)

  within : (next ≡ count) ⊎ ((next ≡ at + 1) × (value ≡ pos 0 → ⊥)) → next ≤ at + 1
  within (inl is) = (let low = old.within in omega arith)
  within (inr both) = (let is = both.0 in omega arith)

  here : get_or (set values at value) at (pos 0) ≡ value
  here = get_or-set_same values at value (pos 0) inside

  told : (tuple : List ℤ) → cube_holds tuple lits ≡ true → (k : ℕ) → k < at + 1 → variable_at tuple k ≡ get_or (set values at value) k (pos 0)
  told tuple holds k below = by (cases_order k at) where
    by : (k ≡ at) ⊎ ((k < at) ⊎ (at < k)) → variable_at tuple k ≡ get_or (set values at value) k (pos 0)
    by (inl is) = ap (variable_at tuple) is ∙ tells tuple holds ∙ sym here ∙ ap (λ i. get_or (set values at value) i (pos 0)) (sym is)
    by (inr (inl low)) = old.told tuple holds k low ∙ sym (get_or-set_other values at k value (pos 0) (λ same. absurd (omega (arith, low, same))))
    by (inr (inr high)) = absurd (omega (arith, below, high))

  begins : (next ≡ count) ⊎ ((next ≡ at + 1) × (value ≡ pos 0 → ⊥)) → (tuple : List ℤ) → cube_holds tuple lits ≡ true → take next tuple ≡ take next (set values at value)
  begins (inl is) tuple holds =
      let kept : take count tuple ≡ take count (set values at value) = old.front tuple holds ∙ sym (take-set-le count values at value old.within) in
      subst (λ n. take n tuple ≡ take n (set values at value)) (sym is) kept
  begins (inr both) tuple holds =
      let long-set : at < length (set values at value) = omega (arith, long, less) in
      let whole = begins-suc tuple (set values at value) at long-set (λ k below. told tuple holds k (omega (arith, below))) (λ nothing. both.1 (sym (tells tuple holds) ∙ nothing)) in
      let is : next ≡ suc at = both.0 ∙ plus-one at in
      subst (λ n. take n tuple ≡ take n (set values at value)) (sym is) whole

pub front-done : (lits : List Lit) (values : List ℤ) (at count : ℕ) → AreFront lits values at count → at ≤ 4 → (tuple : List ℤ) → cube_holds tuple lits ≡ true → take (length (take count values)) tuple ≡ take count values
front-done lits values at count done few tuple holds =
    let within = done.within in
    let four = done.long in
    ap (λ n. take n tuple) (length-take-le count values (omega (arith, within, four, few))) ∙ done.front tuple holds

-- the least of the numbers that pass

record AreLeast (p : ℕ → Bool) (best : Option ℕ) (ns : List ℕ) (found : Option ℕ) : Type 0 where
  passes : (n : ℕ) → found ≡ Some n → (p n ≡ true) ⊎ (best ≡ Some n)
  least : (m : ℕ) → (Contains ns m × (p m ≡ true)) ⊎ (best ≡ Some m) → (n : ℕ) × (found ≡ Some n) × (n ≤ m)

-- with one more it is that or the one before, and at most both
lesser-is : (best : Option ℕ) (x n : ℕ) → lesser best x ≡ Some n → (n ≡ x) ⊎ (best ≡ Some n)
lesser-is None x n is = inl (let same : x ≡ n = cc in sym same)
lesser-is (Some m) x n is = by (nat_lt x m) is where
  by : (b : Bool) → Some (cond {A = ℕ} b x m) ≡ Some n → (n ≡ x) ⊎ (Some m ≡ Some n)
  by true same = inl (let here : x ≡ n = cc in sym here)
  by false same = inr same

lesser-new : (best : Option ℕ) (x : ℕ) → (n : ℕ) × (lesser best x ≡ Some n) × (n ≤ x)
lesser-new None x = (x, refl, omega arith)
lesser-new (Some m) x = by (cases_lt x m) where
  by : (x < m) ⊎ (m ≤ x) → (n : ℕ) × (lesser (Some m) x ≡ Some n) × (n ≤ x)
  by (inl less) = (let test : nat_lt x m ≡ true = grind (arith, nat_tests) in (x, ap (λ b. Some (cond {A = ℕ} b x m)) test, omega arith))
  by (inr most) = (let test : nat_lt x m ≡ false = grind (arith, nat_tests) in (m, ap (λ b. Some (cond {A = ℕ} b x m)) test, most))

lesser-old : (best : Option ℕ) (x m : ℕ) → best ≡ Some m → (n : ℕ) × (lesser best x ≡ Some n) × (n ≤ m)
lesser-old None x m is = absurd (cc)
lesser-old (Some k) x m is = by (cases_lt x k) where
  same : k ≡ m
  same = cc

  by : (x < k) ⊎ (k ≤ x) → (n : ℕ) × (lesser (Some k) x ≡ Some n) × (n ≤ m)
  by (inl less) = (let test : nat_lt x k ≡ true = grind (arith, nat_tests) in (x, ap (λ b. Some (cond {A = ℕ} b x k)) test, omega (arith, less, same)))
  by (inr most) = (let test : nat_lt x k ≡ false = grind (arith, nat_tests) in (k, ap (λ b. Some (cond {A = ℕ} b x k)) test, omega (arith, same)))

split : (x : ℕ) (ns : List ℕ) (m : ℕ) → Contains (x ∷ ns) m → (x ≡ m) ⊎ Contains ns m
split x ns m (zero, l, is) = inl is
split x ns m (suc k, l, is) = inr (k, omega arith, is)

least-is : (p : ℕ → Bool) (best : Option ℕ) (ns : List ℕ) → AreLeast p best ns (fold (with_least p) best ns)
least-is p best [] = record { passes = λ n is. inr is; least = λ m which. only m which } where
  only : (m : ℕ) → (Contains [] m × (p m ≡ true)) ⊎ (best ≡ Some m) → (n : ℕ) × (best ≡ Some n) × (n ≤ m)
  only m (inl ((k, l, is), passes)) = absurd (omega arith)
  only m (inr is) = (m, is, omega arith)
least-is p best (x ∷ ns) = by (p x) refl (least-is p (with_least p best x) ns) where
  by : (b : Bool) → p x ≡ b → AreLeast p (with_least p best x) ns (fold (with_least p) (with_least p best x) ns) → AreLeast p best (x ∷ ns) (fold (with_least p) (with_least p best x) ns)
  by true is rest = record { passes = λ n found. told n (rest.passes n found); least = λ m which. more m which } where
    next : with_least p best x ≡ lesser best x
    next = ap (λ b. cond {A = Option ℕ} b (lesser best x) best) is

    told : (n : ℕ) → (p n ≡ true) ⊎ (with_least p best x ≡ Some n) → (p n ≡ true) ⊎ (best ≡ Some n)
    told n (inl passes) = inl passes
    told n (inr found) = which (lesser-is best x n (sym next ∙ found)) where
      which : (n ≡ x) ⊎ (best ≡ Some n) → (p n ≡ true) ⊎ (best ≡ Some n)
      which (inl same) = inl (ap p same ∙ is)
      which (inr old) = inr old

    through : (m : ℕ) → (k : ℕ) × (lesser best x ≡ Some k) × (k ≤ m) → (n : ℕ) × (fold (with_least p) (with_least p best x) ns ≡ Some n) × (n ≤ m)
    through m (k, here, most) =
        let later = rest.least k (inr (next ∙ here)) in
        (later.0, later.1, (let low = later.2 in omega (arith, low, most)))

    more : (m : ℕ) → (Contains (x ∷ ns) m × (p m ≡ true)) ⊎ (best ≡ Some m) → (n : ℕ) × (fold (with_least p) (with_least p best x) ns ≡ Some n) × (n ≤ m)
    more m (inr old) = through m (lesser-old best x m old)
    more m (inl both) = which (split x ns m both.0) where
      which : (x ≡ m) ⊎ Contains ns m → (n : ℕ) × (fold (with_least p) (with_least p best x) ns ≡ Some n) × (n ≤ m)
      which (inl same) = subst (λ k. (n : ℕ) × (fold (with_least p) (with_least p best x) ns ≡ Some n) × (n ≤ k)) same (through x (lesser-new best x))
      which (inr there) = rest.least m (inl (there, both.1))
  by false is rest = record { passes = λ n found. told n (rest.passes n found); least = λ m which. more m which } where
    next : with_least p best x ≡ best
    next = ap (λ b. cond {A = Option ℕ} b (lesser best x) best) is

    told : (n : ℕ) → (p n ≡ true) ⊎ (with_least p best x ≡ Some n) → (p n ≡ true) ⊎ (best ≡ Some n)
    told n (inl passes) = inl passes
    told n (inr found) = inr (sym next ∙ found)

    more : (m : ℕ) → (Contains (x ∷ ns) m × (p m ≡ true)) ⊎ (best ≡ Some m) → (n : ℕ) × (fold (with_least p) (with_least p best x) ns ≡ Some n) × (n ≤ m)
    more m (inr old) = rest.least m (inr (next ∙ old))
    more m (inl both) = which (split x ns m both.0) where
      which : (x ≡ m) ⊎ Contains ns m → (n : ℕ) × (fold (with_least p) (with_least p best x) ns ≡ Some n) × (n ≤ m)
      which (inl same) = absurd (true≢false (sym both.1 ∙ ap p (sym same) ∙ is))
      which (inr there) = rest.least m (inl (there, both.1))

-- over all numbers, it is the first item that passes

abbrev test_at : {X : Type 0} → (X → Bool) → List X → ℕ → Bool
test_at test xs n = has (slice_get xs n) test

passing : {X : Type 0} (test : X → Bool) (found : Option X) → has found test ≡ true → (x : X) × (found ≡ Some x) × (test x ≡ true)
passing test None h = absurd (true≢false (sym h))
passing test (Some x) h = (x, refl, h)

fails : (b : Bool) → (b ≡ true → ⊥) → b ≡ false
fails true h = absurd (h refl)
fails false h = refl

least-first : {X : Type 0} (test : X → Bool) (xs : List X) (ns : List ℕ) → ((m : ℕ) → test_at test xs m ≡ true → Contains ns m) → fold (with_least (test_at test xs)) None ns ≡ first_number test xs
least-first {X = X} test xs ns all = by (fold (with_least (test_at test xs)) None ns) refl where
  least : AreLeast (test_at test xs) None ns (fold (with_least (test_at test xs)) None ns)
  least = least-is (test_at test xs) None ns

  below : (m : ℕ) (y : X) → slice_get xs m ≡ Some y → test y ≡ true → (n : ℕ) × (fold (with_least (test_at test xs)) None ns ≡ Some n) × (n ≤ m)
  below m y there passes =
      let here : test_at test xs m ≡ true = ap (λ (o : Option X). has o test) there ∙ passes in
      least.least m (inl (all m here, here))

  by : (o : Option ℕ) → fold (with_least (test_at test xs)) None ns ≡ o → fold (with_least (test_at test xs)) None ns ≡ first_number test xs
  by None none = none ∙ sym (none-where 0 test xs (λ m y there. fails (test y) (λ passes. (let low = below m y there passes in let both = sym none ∙ low.1 in absurd (cc)))))
  by (Some n) some = which (least.passes n some) where
    which : (test_at test xs n ≡ true) ⊎ (None ≡ Some n) → fold (with_least (test_at test xs)) None ns ≡ first_number test xs
    which (inr none) = absurd (cc)
    which (inl passes) =
        let item = passing test (slice_get xs n) passes in
        some ∙ sym (first-where 0 test xs n item.0 item.1 item.2 (λ m y less there. fails (test y) (λ holds. (let low = below m y there holds in let both : Some n ≡ Some low.0 = sym some ∙ low.1 in let same : n ≡ low.0 = cc in let most = low.2 in absurd (omega (arith, less, same, most))))) ∙ ap (λ i. Some i) (let zero-n : 0 + n ≡ n = omega arith in zero-n))

-- the facts in a cube

held : (pred : ℕ) (cube : List Lit) (of : Option ℕ) (tuple : List ℤ) → holds_of (Some pred) cube (ground_conclusion of tuple) ≡ true → (of ≡ Some pred) × (cube_holds tuple cube ≡ true)
held pred cube None tuple h = absurd (true≢false (sym h))
held pred cube (Some p) tuple h =
    let both = both_true (pred == p) (cube_holds tuple cube) h in
    (ap (λ n. Some n) (sym (eqb-true pred p both.0)), both.1)

pub under-all : (facts : List KeptFact) (pred : ℕ) (cube : List Lit) (front : List ℤ) (numbers : List ℕ) → AreUnder facts pred front numbers
    → ((tuple : List ℤ) → cube_holds tuple cube ≡ true → take (length front) tuple ≡ front) → fold (with_least (lies_in_at facts pred cube)) None numbers ≡ first_number (lies_in pred cube) (facts_of facts)
under-all facts pred cube front numbers under begins = least-first (lies_in pred cube) (facts_of facts) numbers all where
  all : (m : ℕ) → test_at (lies_in pred cube) (facts_of facts) m ≡ true → Contains numbers m
  all m passes =
      let item = passing (lies_in pred cube) (slice_get (facts_of facts) m) passes in
      let is = is-at facts m item.0 item.1 in
      let told = held pred cube is.kept.pred is.kept.tuple (ap (holds_of (Some pred) cube) (sym is.conclusion) ∙ item.2) in
      (under.exact m).1 (is.less, is.pred ∙ told.0, ap (take (length front)) is.tuple ∙ begins is.kept.tuple told.1)
