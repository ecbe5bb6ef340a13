-- The first that passes, as loops find it.
use Rattle.std.proofs.Common.{◌≡◌, ℕ, zero, suc, ◌+◌, ◌<◌, ◌≤◌, List, [], ◌∷◌, length, drop, filter, Bool, true, false, ◌||◌, cond, Some, None, refl, ap, sym, ◌∙◌, subst, arith, zero-add, inl, inr}
use Rattle.std.specs.Prelude.{ℤ, Option, slice_get, is_some, ◌⊎◌, ◌==◌}
use Rattle.std.specs.List.{AllPairs, Contains, find, list_any, range_with_len}
use Rattle.std.proofs.lemmas.Bool.{cases_lt, eqb-true}
use mathlib.Core.Bool.{true≢false}
use Rattle.lin_atoms.specs.declared.lit.Lit.{Lit}
use Rattle.cube_forms.specs.Cubes.{cube_holds}
use Rattle.obligation_tree.specs.Nodes.{absent, is_live_at, live_numbers, node_at}
use Rattle.obligation_tree.specs.declared.node.Node.{Node}
use Rattle.derivations.specs.Facts.{AreOf, height_of, pred_of}
use Rattle.derivations.specs.declared.fact.Fact.{Fact as KeptFact}
use Rattle.book_rules.specs.State.{Fact, Obligation, holds_of, is_live}
use Rattle.book_rules.specs.Instances.{Ground}
use Rattle.book_rules.specs.Walks.{first_number, has, number_from}
use Rattle.step_rules.specs.Views.{ground_conclusion, facts_of, obligation_of, obligations_of}
use Rattle.step_rules.specs.machinery.Walks.{lies_in}
use Rattle.cube_rules.proofs.Public.{both_true, plus-none, plus-one}
pub use Rattle.cube_rules.proofs.Public.{goes-on, is-found, is-over, is-told, tells-on}
use Rattle.step_rules.proofs.ViewLemmas.{fact_of-at, length-facts}

-- over numbers in place of items

pub first-from : {X : Type 0} (n : ℕ) (test : X → Bool) (p : ℕ → Bool) (xs : List X) → ((i : ℕ) (x : X) → slice_get xs i ≡ Some x → (m : ℕ) → m ≡ n + i → p m ≡ test x) → number_from n test xs ≡ find p (range_with_len n (length xs))
first-from n test p [] same = refl
first-from n test p (x ∷ xs) same =
    ap (λ b. cond {A = Option ℕ} b (Some n) (number_from (n + 1) test xs)) (sym (same 0 x refl n (plus-none n)))
    ∙ ap (λ rest. cond {A = Option ℕ} (p n) (Some n) rest) (first-from (n + 1) test p xs (λ i y there m is. same (suc i) y there m (omega (arith, is))))

pub count-from : {X : Type 0} (n : ℕ) (test : X → Bool) (p : ℕ → Bool) (xs : List X) → ((i : ℕ) (x : X) → slice_get xs i ≡ Some x → (m : ℕ) → m ≡ n + i → p m ≡ test x) → length (filter test xs) ≡ length (filter p (range_with_len n (length xs)))
count-from n test p [] same = refl
count-from {X = X} n test p (x ∷ xs) same = by (test x) refl (count-from (n + 1) test p xs (λ i y there m is. same (suc i) y there m (omega (arith, is)))) where
  by : (b : Bool) → test x ≡ b → length (filter test xs) ≡ length (filter p (range_with_len (n + 1) (length xs))) → length (filter test (x ∷ xs)) ≡ length (filter p (n ∷ range_with_len (n + 1) (length xs)))
  by true is rest =
      ap (λ b. length (cond {A = List X} b (x ∷ filter test xs) (filter test xs))) is ∙ ap suc rest
      ∙ sym (ap (λ b. length (cond {A = List ℕ} b (n ∷ filter p (range_with_len (n + 1) (length xs))) (filter p (range_with_len (n + 1) (length xs))))) (same 0 x refl n (plus-none n) ∙ is))
  by false is rest =
      ap (λ b. length (cond {A = List X} b (x ∷ filter test xs) (filter test xs))) is ∙ rest
      ∙ sym (ap (λ b. length (cond {A = List ℕ} b (n ∷ filter p (range_with_len (n + 1) (length xs))) (filter p (range_with_len (n + 1) (length xs))))) (same 0 x refl n (plus-none n) ∙ is))

-- a filter that leaves out only what doesn't pass
find-filter : (p q : ℕ → Bool) → ((n : ℕ) → q n ≡ false → p n ≡ false) → (ns : List ℕ) → find p (filter q ns) ≡ find p ns
find-filter p q none [] = refl
find-filter p q none (n ∷ ns) = by (q n) refl (find-filter p q none ns) where
  by : (b : Bool) → q n ≡ b → find p (filter q ns) ≡ find p ns → find p (filter q (n ∷ ns)) ≡ find p (n ∷ ns)
  by true is rest =
      ap (λ b. find p (cond {A = List ℕ} b (n ∷ filter q ns) (filter q ns))) is
      ∙ ap (λ more. cond {A = Option ℕ} (p n) (Some n) more) rest
  by false is rest =
      ap (λ b. find p (cond {A = List ℕ} b (n ∷ filter q ns) (filter q ns))) is
      ∙ rest
      ∙ sym (ap (λ b. cond {A = Option ℕ} b (Some n) (find p ns)) (none n is))

filter-twice : (p q : ℕ → Bool) → ((n : ℕ) → q n ≡ false → p n ≡ false) → (ns : List ℕ) → filter p (filter q ns) ≡ filter p ns
filter-twice p q none [] = refl
filter-twice p q none (n ∷ ns) = by (q n) refl (filter-twice p q none ns) where
  by : (b : Bool) → q n ≡ b → filter p (filter q ns) ≡ filter p ns → filter p (filter q (n ∷ ns)) ≡ filter p (n ∷ ns)
  by true is rest =
      ap (λ b. filter p (cond {A = List ℕ} b (n ∷ filter q ns) (filter q ns))) is
      ∙ ap (λ more. cond {A = List ℕ} (p n) (n ∷ more) more) rest
  by false is rest =
      ap (λ b. filter p (cond {A = List ℕ} b (n ∷ filter q ns) (filter q ns))) is
      ∙ rest
      ∙ sym (ap (λ b. cond {A = List ℕ} b (n ∷ filter p ns) (filter p ns)) (none n is))

-- among the live obligations, where the test passes live ones alone

at-node : (test : Obligation → Bool) (nodes : List Node) (i : ℕ) (o : Obligation) → slice_get (obligations_of nodes) i ≡ Some o → obligation_of (node_at nodes i) ≡ o
at-node test [] i o there = absurd (cc)
at-node test (x ∷ nodes) zero o there = cc
at-node test (x ∷ nodes) (suc i) o there = at-node test nodes i o there

same-at : (test : Obligation → Bool) (nodes : List Node) (i : ℕ) (o : Obligation) → slice_get (obligations_of nodes) i ≡ Some o → (m : ℕ) → m ≡ 0 + i → test (obligation_of (node_at nodes m)) ≡ test o
same-at test nodes i o there m is = ap (λ k. test (obligation_of (node_at nodes k))) (is ∙ zero-add i) ∙ ap test (at-node test nodes i o there)

long-as : (nodes : List Node) → length (obligations_of nodes) ≡ length nodes
long-as [] = refl
long-as (x ∷ nodes) = ap suc (long-as nodes)

pub first-live : (test : Obligation → Bool) → ((o : Obligation) → is_live o ≡ false → test o ≡ false) → (nodes : List Node) → first_number test (obligations_of nodes) ≡ find (λ n. test (obligation_of (node_at nodes n))) (live_numbers nodes)
first-live test lives nodes =
    let p : ℕ → Bool = λ n. test (obligation_of (node_at nodes n)) in
    first-from 0 test p (obligations_of nodes) (same-at test nodes)
    ∙ ap (λ k. find p (range_with_len 0 k)) (long-as nodes)
    ∙ sym (find-filter p (is_live_at nodes) (λ n dead. lives (obligation_of (node_at nodes n)) dead) (range_with_len 0 (length nodes)))

pub count-live : (test : Obligation → Bool) → ((o : Obligation) → is_live o ≡ false → test o ≡ false) → (nodes : List Node) → length (filter test (obligations_of nodes)) ≡ length (filter (λ n. test (obligation_of (node_at nodes n))) (live_numbers nodes))
count-live test lives nodes =
    let p : ℕ → Bool = λ n. test (obligation_of (node_at nodes n)) in
    count-from 0 test p (obligations_of nodes) (same-at test nodes)
    ∙ ap (λ k. length (filter p (range_with_len 0 k))) (long-as nodes)
    ∙ sym (ap (λ ns. length ns) (filter-twice p (is_live_at nodes) (λ n dead. lives (obligation_of (node_at nodes n)) dead) (range_with_len 0 (length nodes))))

-- among numbers that ascend and have all that pass

cons_cases : (x : ℕ) (xs : List ℕ) (n : ℕ) → Contains (x ∷ xs) n → (x ≡ n) ⊎ Contains xs n
cons_cases x xs n (zero, l, is) = inl is
cons_cases x xs n (suc k, l, is) = inr (k, omega arith, is)

cons_has : (x : ℕ) (xs : List ℕ) (n : ℕ) → Contains xs n → Contains (x ∷ xs) n
cons_has x xs n (k, l, is) = (suc k, omega arith, is)

abbrev Ascend : List ℕ → Type 0
Ascend = AllPairs (λ x y. x < y)

later : (x : ℕ) (xs : List ℕ) (n : ℕ) → Ascend (x ∷ xs) → Contains xs n → x < n
later x xs n pairs (k, l, is) = subst (λ y. x < y) is (pairs 0 (suc k) n (omega arith) (omega arith))

tail : (x : ℕ) (xs : List ℕ) → Ascend (x ∷ xs) → Ascend xs
tail x xs pairs a b d less within = pairs (suc a) (suc b) d (omega arith) (omega arith)

none-in : (n : ℕ) → Contains [] n → ⊥
none-in n (k, l, is) = absurd (omega arith)

fails : (b : Bool) → (b ≡ true → ⊥) → b ≡ false
fails true h = absurd (h refl)
fails false h = refl

abbrev HasAll : (ℕ → Bool) → ℕ → ℕ → List ℕ → Type 0
HasAll p n k ns = (m : ℕ) → n ≤ m → m < n + k → p m ≡ true → Contains ns m

abbrev IsWithin : ℕ → ℕ → List ℕ → Type 0
IsWithin n k ns = (m : ℕ) → Contains ns m → (n ≤ m) × (m < n + k)

pub ascending : (p : ℕ → Bool) (n k : ℕ) (ns : List ℕ) → Ascend ns → HasAll p n k ns → IsWithin n k ns → find p (range_with_len n k) ≡ find p ns
ascending p n zero [] order has within = refl
ascending p n zero (m ∷ ns) order has within = let h = within m (0, omega arith, refl) in absurd (omega arith)
ascending p n (suc k) [] order has within =
    ap (λ b. cond {A = Option ℕ} b (Some n) (find p (range_with_len (n + 1) k))) (fails (p n) (λ t. none-in n (has n (omega arith) (omega arith) t)))
    ∙ ascending p (n + 1) k [] order (λ m low high t. absurd (none-in m (has m (omega arith) (omega arith) t))) (λ m h. absurd (none-in m h))
ascending p n (suc k) (m ∷ ns) order has within = cases (cases_le (within m (0, omega arith, refl)).0) (λ ms o h w. ascending p (n + 1) k ms o h w) where
  cases_le : n ≤ m → (m ≡ n) ⊎ (n < m)
  cases_le low = by (cases_lt n m) where
    by : (n < m) ⊎ (m ≤ n) → (m ≡ n) ⊎ (n < m)
    by (inl less) = inr less
    by (inr high) = inl (omega arith)

  cases : (m ≡ n) ⊎ (n < m) → ((ms : List ℕ) → Ascend ms → HasAll p (n + 1) k ms → IsWithin (n + 1) k ms → find p (range_with_len (n + 1) k) ≡ find p ms) → find p (n ∷ range_with_len (n + 1) k) ≡ find p (m ∷ ns)
  cases (inl is) smaller =
      ap (λ rest. cond {A = Option ℕ} (p n) (Some n) rest) (smaller ns (tail m ns order) all inside)
      ∙ ap (λ x. cond {A = Option ℕ} (p x) (Some x) (find p ns)) (sym is) where
        all : HasAll p (n + 1) k ns
        all x low high t = past (cons_cases m ns x (has x (omega arith) (omega arith) t)) where
          past : (m ≡ x) ⊎ Contains ns x → Contains ns x
          past (inl same) = absurd (omega (arith, is, same, low))
          past (inr there) = there

        inside : IsWithin (n + 1) k ns
        inside x there =
            let above = later m ns x order there in
            let high = (within x (cons_has m ns x there)).1 in
            (omega (arith, above, is), omega (arith, high))
  cases (inr less) smaller =
      ap (λ b. cond {A = Option ℕ} b (Some n) (find p (range_with_len (n + 1) k))) (fails (p n) (λ t. not-there (cons_cases m ns n (has n (omega arith) (omega arith) t))))
      ∙ smaller (m ∷ ns) order (λ x low high t. has x (omega arith) (omega arith) t) inside where
        not-there : (m ≡ n) ⊎ Contains ns n → ⊥
        not-there (inl same) = absurd (omega (arith, less, same))
        not-there (inr there) = let above = later m ns n order there in absurd (omega (arith, less, above))

        inside : IsWithin (n + 1) k (m ∷ ns)
        inside x there = by (cons_cases m ns x there) where
          high : x < n + suc k
          high = (within x there).1

          by : (m ≡ x) ⊎ Contains ns x → (n + 1 ≤ x) × (x < n + 1 + k)
          by (inl same) = (omega (arith, less, same), omega (arith, high))
          by (inr deeper) = let above = later m ns x order deeper in (omega (arith, less, above), omega (arith, high))

-- the first of the facts, where the test passes those of one predicate alone

pred-at : (facts : List KeptFact) (n : ℕ) → n < length facts → (f : KeptFact) × (slice_get facts n ≡ Some f) × (pred_of facts n ≡ f.pred)
pred-at [] n within = absurd (omega arith)
pred-at (f ∷ facts) zero within = (f, refl, refl)
pred-at (f ∷ facts) (suc n) within = pred-at facts n (omega arith)

concludes : (pred : ℕ) (of : Option ℕ) (tuple other : List ℤ) → ground_conclusion of tuple ≡ Some (pred, other) → of ≡ Some pred
concludes pred None tuple other h = absurd (cc)
concludes pred (Some p) tuple other h = let pairs : (p, tuple) ≡ (pred, other) = cc in ap (λ (x : ℕ × List ℤ). Some x.0) pairs

has-at : {X : Type 0} (found : Option X) (test : X → Bool) (x : X) → found ≡ Some x → has found test ≡ test x
has-at found test x is = ap (λ o. has o test) is

pub first-of : (pred : ℕ) (test : Fact → Bool) (facts : List KeptFact) (numbers : List ℕ) → AreOf facts pred numbers → ((f : Fact) → test f ≡ true → (tuple : List ℤ) × (f.conclusion ≡ Some (pred, tuple))) → first_number test (facts_of facts) ≡ find (λ n. has (slice_get (facts_of facts) n) test) numbers
first-of pred test facts numbers of only =
    let p : ℕ → Bool = λ n. has (slice_get (facts_of facts) n) test in
    first-from 0 test p (facts_of facts) (λ i f there m is. has-at (slice_get (facts_of facts) m) test f (ap (λ k. slice_get (facts_of facts) k) (is ∙ zero-add i) ∙ there))
    ∙ ap (λ k. find p (range_with_len 0 k)) (length-facts facts)
    ∙ ascending p 0 (length facts) numbers of.order all within where
      of-pred : (n : ℕ) → n < length facts → has (slice_get (facts_of facts) n) test ≡ true → pred_of facts n ≡ Some pred
      of-pred n less passes =
          let kept = pred-at facts n less in
          let there = fact_of-at facts n kept.0 kept.1 in
          let made : Fact = record { conclusion = ground_conclusion kept.0.pred kept.0.tuple; clause = kept.0.clause; point = kept.0.point; premises = kept.0.premises; height = height_of facts n } in
          let found = only made (sym (has-at (slice_get (facts_of facts) n) test made there) ∙ passes) in
          kept.2 ∙ concludes pred kept.0.pred kept.0.tuple found.0 found.1

      all : HasAll (λ n. has (slice_get (facts_of facts) n) test) 0 (length facts) numbers
      all m low high passes =
          let less : m < length facts = omega arith in
          (of.exact m).1 (less, of-pred m less passes)

      within : IsWithin 0 (length facts) numbers
      within m there = let less = ((of.exact m).0 there).0 in (omega arith, omega arith)

pub of-predicate : (pred : ℕ) (cube : List Lit) (f : Fact) → lies_in pred cube f ≡ true → (tuple : List ℤ) × (f.conclusion ≡ Some (pred, tuple))
of-predicate pred cube f h = by f.conclusion h where
  by : (c : Option Ground) → holds_of (Some pred) cube c ≡ true → (tuple : List ℤ) × (c ≡ Some (pred, tuple))
  by None h = absurd (true≢false (sym h))
  by (Some a) h =
      let both = both_true (pred == a.0) (cube_holds a.1 cube) h in
      (a.1, ap (λ n. Some (n, a.1)) (sym (eqb-true pred a.0 both.0)))

pub any-first : {X : Type 0} (n : ℕ) (test : X → Bool) (xs : List X) → list_any test xs ≡ is_some (number_from n test xs)
any-first n test [] = refl
any-first n test (x ∷ xs) = by (test x) refl (any-first (n + 1) test xs) where
  by : (b : Bool) → test x ≡ b → list_any test xs ≡ is_some (number_from (n + 1) test xs) → list_any test (x ∷ xs) ≡ is_some (number_from n test (x ∷ xs))
  by true is rest = ap (λ b. b || list_any test xs) is ∙ sym (ap (λ b. is_some (cond {A = Option ℕ} b (Some n) (number_from (n + 1) test xs))) is)
  by false is rest = ap (λ b. b || list_any test xs) is ∙ rest ∙ sym (ap (λ b. is_some (cond {A = Option ℕ} b (Some n) (number_from (n + 1) test xs))) is)

-- a loop over numbers: `find p (drop i ns) ≡ find p ns`

finds-suc : (p : ℕ → Bool) (ns : List ℕ) (i n : ℕ) → slice_get ns i ≡ Some n → p n ≡ false → find p (drop i ns) ≡ find p (drop (suc i) ns)
finds-suc p [] i n there passed = absurd (cc)
finds-suc p (x ∷ ns) zero n there passed = let same : x ≡ n = cc in ap (λ b. cond {A = Option ℕ} b (Some x) (find p ns)) (ap p same ∙ passed)
finds-suc p (x ∷ ns) (suc i) n there passed = finds-suc p ns i n there passed

pub finds-on : (p : ℕ → Bool) (ns : List ℕ) (i n : ℕ) → slice_get ns i ≡ Some n → p n ≡ false → find p (drop i ns) ≡ find p (drop (i + 1) ns)
finds-on p ns i n there passed = finds-suc p ns i n there passed ∙ ap (λ k. find p (drop k ns)) (sym (plus-one i))

-- no obligation is there past the end

pub past-end : (nodes : List Node) (n : ℕ) → length nodes ≤ n → node_at nodes n ≡ absent
past-end [] n past = refl
past-end (x ∷ nodes) zero past = absurd (omega arith)
past-end (x ∷ nodes) (suc n) past = past-end nodes n (omega arith)
