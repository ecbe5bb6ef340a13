-- Recorded facts: each with its instance, its premises among all facts, and its height.
use Rattle.std.proofs.Common.{◌≡◌, ℕ, zero, suc, ◌+◌, ◌<◌, ◌≤◌, List, [], ◌∷◌, ◌++◌, length, take, drop, true, ◌&&◌, refl, ap, sym, subst, append_assoc, append-nil, arith}
use Rattle.std.specs.Prelude.{◌==◌, slice_get, Option, Some, None}
use Rattle.std.specs.List.{All, Contains, range_with_len}
use Rattle.std.proofs.lemmas.Bool.{eqb-true}
use Rattle.std.proofs.lemmas.List.{length-take, take-append-drop}
use Rattle.std.proofs.lemmas.List.Elements.{All-cons, All-nil, All-weaker}
use Rattle.std.proofs.lemmas.Option.{slice_get_within}
use Rattle.clause_form.specs.System.{Clauses}
use Rattle.book_rules.specs.FactRules.{are_facts_of, is_fact_of}
use Rattle.book_rules.specs.Instances.{Ground, body_at}
use Rattle.book_rules.specs.Kept.{AreRecorded, IsRecorded}
use Rattle.book_rules.specs.Same.{same_tuple}
use Rattle.book_rules.specs.State.{Fact, same_conclusion}
use Rattle.book_rules.specs.Walks.{has}
use Rattle.book_rules.proofs.ListLemmas.{both_true}
use Rattle.book_rules.proofs.Public.{tuples_equal}
use Rattle.cert_derivations.specs.Steps.{AreBehind}
use Rattle.cert_derivations.proofs.LookUpLemmas.{get_more, range_contains, some_is}

-- the fact of a number is recorded after those before it
recorded_after : (sys : Clauses) (before facts : List Fact) (n : ℕ) (f : Fact) → AreRecorded sys before facts → slice_get facts n ≡ Some f → IsRecorded sys (before ++ take n facts) f
recorded_after sys before [] n f all there = absurd (cc)
recorded_after sys before (x ∷ facts) zero f all there =
    subst (λ (xs : List Fact). IsRecorded sys xs f) (sym (append-nil before)) (subst (IsRecorded sys before) (some_is x f there) all.0)
recorded_after sys before (x ∷ facts) (suc n) f all there =
    subst (λ (xs : List Fact). IsRecorded sys xs f) (append_assoc before (x ∷ []) (take n facts)) (recorded_after sys (before ++ x ∷ []) facts n f all.1 there)

pub recorded_at : (sys : Clauses) (facts : List Fact) (n : ℕ) (f : Fact) → AreRecorded sys [] facts → slice_get facts n ≡ Some f → IsRecorded sys (take n facts) f
recorded_at sys facts n f all there = recorded_after sys [] facts n f all there

-- a premise: the fact of a number, which concludes the atom
pub record IsNamed (before facts : List Fact) (p : ℕ) (a : Ground) : Type 0 where
  pub fact : Fact
  pub first : slice_get before p ≡ Some fact
  pub there : slice_get facts p ≡ Some fact
  pub concludes : fact.conclusion ≡ Some a

same_ground : (a b : Ground) → ((a.0 == b.0) && same_tuple a.1 b.1) ≡ true → a ≡ b
same_ground a b h =
    let both = both_true (a.0 == b.0) (same_tuple a.1 b.1) h in
    let pred : a.0 ≡ b.0 = eqb-true a.0 b.0 both.0 in
    let tuple : a.1 ≡ b.1 = (tuples_equal a.1 b.1).0 both.1 in
    let whole : a ≡ b = rw (pred, tuple) refl in
    whole

concluded_is : (conclusion : Option Ground) (a : Ground) → same_conclusion conclusion (Some a) ≡ true → conclusion ≡ Some a
concluded_is None a h = absurd (cc)
concluded_is (Some b) a h = ap (λ (c : Ground). Some c) (same_ground b a h)

found_fact : (found : Option Fact) (a : Ground) → has found (λ (f : Fact). same_conclusion f.conclusion (Some a)) ≡ true → (f : Fact) × (found ≡ Some f) × (f.conclusion ≡ Some a)
found_fact None a h = absurd (cc)
found_fact (Some f) a h = (f, refl, concluded_is f.conclusion a h)

named : (facts : List Fact) (n p : ℕ) (a : Ground) → is_fact_of (take n facts) p a ≡ true → IsNamed (take n facts) facts p a
named facts n p a h =
    let found = found_fact (slice_get (take n facts) p) a h in
    record {
      fact = found.0;
      first = found.1;
      there = subst (λ (fs : List Fact). slice_get fs p ≡ Some found.0) (take-append-drop n facts) (get_more (take n facts) (drop n facts) p found.0 found.1);
      concludes = found.2;
    }

-- the premises name the atoms, in order
abbrev pub AreNamed : List Fact → List Fact → List ℕ → List Ground → Type 0
AreNamed before facts [] [] = Unit {0}
AreNamed before facts [] (a ∷ body) = ⊥
AreNamed before facts (p ∷ premises) [] = ⊥
AreNamed before facts (p ∷ premises) (a ∷ body) = IsNamed before facts p a × AreNamed before facts premises body

pub all_named : (facts : List Fact) (n : ℕ) (premises : List ℕ) (body : List Ground) → are_facts_of (take n facts) premises body ≡ true → AreNamed (take n facts) facts premises body
all_named facts n [] [] h = tt
all_named facts n [] (a ∷ body) h = absurd (cc)
all_named facts n (p ∷ premises) [] h = absurd (cc)
all_named facts n (p ∷ premises) (a ∷ body) h =
    let both = both_true (is_fact_of (take n facts) p a) (are_facts_of (take n facts) premises body) h in
    (named facts n p a both.0, all_named facts n premises body both.1)

-- premises are earlier
pub all_earlier : (before facts : List Fact) (premises : List ℕ) (body : List Ground) → AreNamed before facts premises body → All (λ p. p < length before) premises
all_earlier before facts [] [] all = All-nil (λ p. p < length before)
all_earlier before facts [] (a ∷ body) all = absurd all
all_earlier before facts (p ∷ premises) [] all = absurd all
all_earlier before facts (p ∷ premises) (a ∷ body) all =
    All-cons (λ q. q < length before) p premises (slice_get_within before p all.0.fact all.0.first) (all_earlier before facts premises body all.1)

-- the first n facts, in order, each stand behind their premises
pub range_more : (n : ℕ) → range_with_len 0 (suc n) ≡ range_with_len 0 n ++ n ∷ []
range_more n = ranges 0 n n (omega arith)
  where
    ranges : (a n at : ℕ) → a + n ≡ at → range_with_len a (suc n) ≡ range_with_len a n ++ at ∷ []
    ranges a zero at is = ap (λ (k : ℕ). k ∷ []) (none a at is)
      where
        none : (b c : ℕ) → b + 0 ≡ c → b ≡ c
        none b c e = omega (arith, e)
    ranges a (suc m) at is = ap (λ (xs : List ℕ). a ∷ xs) (ranges (a + 1) m at (moved a m at is))
      where
        moved : (b k c : ℕ) → b + suc k ≡ c → (b + 1) + k ≡ c
        moved b k c e = omega (arith, e)

pub premises_first : (sys : Clauses) (facts : List Fact) (n : ℕ) (f : Fact) → AreRecorded sys [] facts → slice_get facts n ≡ Some f → All (Contains (range_with_len 0 n)) f.premises
premises_first sys facts n f all there =
    let recorded = recorded_at sys facts n f all there in
    let body : List Ground = body_at f.point recorded.clause in
    All-weaker (λ p. p < length (take n facts)) (Contains (range_with_len 0 n)) (λ p less. range_contains n p (let long = length-take n facts in omega (arith, less, long))) f.premises
    (all_earlier (take n facts) facts f.premises body (all_named facts n f.premises body recorded.premises))

fact_there : (facts : List Fact) (n : ℕ) → n < length facts → (f : Fact) × (slice_get facts n ≡ Some f)
fact_there [] n less = absurd (omega (arith, less))
fact_there (f ∷ facts) zero less = (f, refl)
fact_there (f ∷ facts) (suc n) less = fact_there facts n (omega (arith, less))

-- numbers one after another, from k on
pub first_behind : (sys : Clauses) (facts : List Fact) (k m : ℕ) → AreRecorded sys [] facts → k + m ≤ length facts → AreBehind facts (range_with_len 0 k) (range_with_len k m)
first_behind sys facts k zero all within = tt
first_behind sys facts k (suc m) all within =
    let here = fact_there facts k (omega (arith, within)) in (
      record { fact = here.0; there = here.1; premises = premises_first sys facts k here.0 all here.1 },
      subst (λ (before : List ℕ). AreBehind facts before (range_with_len (k + 1) m)) (range_more k)
          (subst (λ (next : ℕ). AreBehind facts (range_with_len 0 next) (range_with_len (k + 1) m)) (next_is k) (first_behind sys facts (k + 1) m all (omega (arith, within)))),
    )
  where
    next_is : (k : ℕ) → k + 1 ≡ suc k
    next_is k = omega arith
