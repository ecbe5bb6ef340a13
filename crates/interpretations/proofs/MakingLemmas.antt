-- The terms that are put together of those that were put before.
use Rattle.std.proofs.lemmas.Int.{ints}
use Rattle.std.proofs.Common.{◌≡◌, ℕ, ◌+◌, ◌*◌, ◌^◌, ◌<◌, ◌≤◌, List, [], ◌∷◌, ◌++◌, length, true, ◌&&◌, refl, ap, sym, subst, arith, inl, inr}
use Rattle.std.specs.Prelude.{ℤ, pos, negsuc, neg_ℤ, nat_abs, ◌≤ℤ◌, ◌<ℤ◌, Option, Some, slice_get, nat_lt, nat_le}
use Rattle.std.proofs.lemmas.Bool.Decides.{nat_tests}
use Rattle.term_tree.specs.declared.sort.Sort.{Sort}
use Rattle.term_tree.specs.declared.sort.Sort.TheVariants.{Int as IntSort, Bool as BoolSort}
use Rattle.term_tree.specs.declared.node.TermId.{TermId}
use Rattle.term_tree.specs.declared.node.OpKind.{OpKind}
use Rattle.term_tree.specs.declared.node.OpKind.TheVariants.{Not, Ite, Mul, Sub}
use Rattle.term_tree.specs.declared.node.Node.{Node}
use Rattle.term_tree.specs.declared.node.Node.TheVariants.{Num, False, Var, Op, Divisible}
use Rattle.lin_atoms.specs.Linear.{Linear, are_ordered, are_short, is_linear, is_long, is_short}
use Rattle.lin_atoms.specs.declared.lit.Lit.{Lit}
use Rattle.lin_atoms.specs.declared.lit.Lit.TheVariants.{NDiv}
use Rattle.term_tree.proofs.Public.{both_true}
use Rattle.answer_text.specs.Lemmas.{AreProducts, AreTerms, IsArgument, IsNode, IsNumber, IsProduct, IsSum}
use Rattle.interpretations.specs.Terms.{Each, IsComparisonOf, IsConjunctionOf, IsDivisibilityOf, IsJoined, IsLemmaOf, IsLinearOf, IsLiteralOf, IsShiftedOf}
use Rattle.interpretations.specs.machinery.Added.{AreAdded, IsAdded, IsScaled}
use Rattle.interpretations.proofs.AddedLemmas.{added-as, added-then, are-added-then}

abbrev pub Is : Node → List Node → TermId → Type 0
Is node nodes k = IsNode nodes k node

-- numbers

pub positive-added : (n m : ℤ) (s t : List Node) (id : TermId) → pos 0 ≤ℤ n → m ≡ n → IsAdded (λ nodes k. IsNode nodes k (Num m)) 1 s t id → IsAdded (λ nodes k. IsNumber nodes n k) 2 s t id
positive-added (pos k) m s t id le is added =
    added-as (λ nodes i. IsNode nodes i (Num m)) (λ nodes i. IsNumber nodes (pos k) i) 1 2 s t id (omega arith) (λ nodes h. subst (λ (x : ℤ). IsNode nodes id (Num x)) is h) added
positive-added (negsuc k) m s t id le is added = absurd (omega (arith, ints, le))

one-up : (m : ℤ) (k : ℕ) → m ≡ neg_ℤ (negsuc k) → m ≡ pos (k + 1)
one-up m k is = omega (arith, ints, is)

pub negative-added : (n m : ℤ) (s t u : List Node) (x id : TermId) → n <ℤ pos 0 → m ≡ neg_ℤ n → IsAdded (λ nodes k. IsNode nodes k (Num m)) 1 s t x
    → IsAdded (λ nodes k. IsNode nodes k (Op Sub (x ∷ []))) 1 t u id → IsAdded (λ nodes k. IsNumber nodes n k) 2 s u id
negative-added (pos k) m s t u x id less is first second = absurd (omega (arith, ints, less))
negative-added (negsuc k) m s t u x id less is first second =
    added-then (λ nodes i. IsNode nodes i (Num m)) (λ nodes i. IsNode nodes i (Op Sub (x ∷ []))) (λ nodes i. IsNumber nodes (negsuc k) i) 1 1 2 s t u x id (omega arith)
    (λ nodes h g. (x, subst (λ (y : ℤ). IsNode nodes x (Num y)) (one-up m k is) h, g)) first second

-- arguments

pub int-added : (i : ℕ) (s t : List Node) (id : TermId) → IsAdded (λ nodes k. IsNode nodes k (Var i IntSort)) 1 s t id → IsAdded (λ nodes k. IsArgument nodes i (Some IntSort) k) 4 s t id
int-added i s t id added = added-as (λ nodes k. IsNode nodes k (Var i IntSort)) (λ nodes k. IsArgument nodes i (Some IntSort) k) 1 4 s t id (omega arith) (λ nodes h. h) added

pub bool-added : (i : ℕ) (s t u v w : List Node) (x one nought id : TermId) → IsAdded (λ nodes k. IsNode nodes k (Var i BoolSort)) 1 s t x
    → IsAdded (λ nodes k. IsNode nodes k (Num (pos 1))) 1 t u one → IsAdded (λ nodes k. IsNode nodes k (Num (pos 0))) 1 u v nought
    → IsAdded (λ nodes k. IsNode nodes k (Op Ite (x ∷ one ∷ nought ∷ []))) 1 v w id → IsAdded (λ nodes k. IsArgument nodes i (Some BoolSort) k) 4 s w id
bool-added i s t u v w x one nought id at-x at-one at-nought at =
    added-then (λ nodes k. IsNode nodes k (Var i BoolSort))
    (λ nodes k. IsNode nodes one (Num (pos 1)) × IsNode nodes nought (Num (pos 0)) × IsNode nodes k (Op Ite (x ∷ one ∷ nought ∷ [])))
    (λ nodes k. IsArgument nodes i (Some BoolSort) k) 1 3 4 s t w x id (omega arith) (λ nodes h g. (x, one, nought, h, g.0, g.1, g.2)) at-x
    (added-then (λ nodes k. IsNode nodes k (Num (pos 1))) (λ nodes k. IsNode nodes nought (Num (pos 0)) × IsNode nodes k (Op Ite (x ∷ one ∷ nought ∷ [])))
    (λ nodes k. IsNode nodes one (Num (pos 1)) × IsNode nodes nought (Num (pos 0)) × IsNode nodes k (Op Ite (x ∷ one ∷ nought ∷ []))) 1 2 3 t u w one id (omega arith) (λ nodes h g. (h, g.0, g.1))
    at-one
    (added-then (λ nodes k. IsNode nodes k (Num (pos 0))) (λ nodes k. IsNode nodes k (Op Ite (x ∷ one ∷ nought ∷ [])))
    (λ nodes k. IsNode nodes nought (Num (pos 0)) × IsNode nodes k (Op Ite (x ∷ one ∷ nought ∷ []))) 1 1 2 u v w nought id (omega arith) (λ nodes h g. (h, g)) at-nought at))

-- products

pub scaled-added : (i : ℕ) (sort : Sort) (c : ℤ) (s t u v : List Node) (k x id : TermId) → IsAdded (λ nodes j. IsNumber nodes c j) 2 s t k → IsAdded (λ nodes j. IsArgument nodes i (Some sort) j) 4 t u x
    → IsAdded (λ nodes j. IsNode nodes j (Op Mul (k ∷ x ∷ []))) 1 u v id → IsAdded (λ nodes j. IsScaled nodes i sort c j) 7 s v id
scaled-added i sort c s t u v k x id at-k at-x at =
    added-then (λ nodes j. IsNumber nodes c j) (λ nodes j. IsArgument nodes i (Some sort) x × IsNode nodes j (Op Mul (k ∷ x ∷ []))) (λ nodes j. IsScaled nodes i sort c j) 2 5 7 s t v k id (omega arith)
    (λ nodes h g. (k, x, h, g.0, g.1)) at-k
    (added-then (λ nodes j. IsArgument nodes i (Some sort) j) (λ nodes j. IsNode nodes j (Op Mul (k ∷ x ∷ [])))
    (λ nodes j. IsArgument nodes i (Some sort) x × IsNode nodes j (Op Mul (k ∷ x ∷ []))) 4 1 5 t u v x id (omega arith) (λ nodes h g. (h, g)) at-x at)

-- sums

pub products-each : (nodes : List Node) (sorts : List Sort) (terms : List (ℕ × ℤ)) (ids : List TermId) → Each (IsProduct nodes sorts) terms ids → AreProducts nodes sorts terms ids
products-each nodes sorts [] [] each = tt
products-each nodes sorts [] (id ∷ ids) each = absurd each
products-each nodes sorts (t ∷ terms) [] each = absurd each
products-each nodes sorts (t ∷ terms) (id ∷ ids) each = (each.0, products-each nodes sorts terms ids each.1)

least : (m n : ℕ) → nat_le m n ≡ true → m ≤ n
least m n h = grind (arith, nat_tests)

below : (m n : ℕ) → nat_lt m n ≡ true → m < n
below m n h = grind (arith, nat_tests)

not-nought : (z : ℤ) → 0 < nat_abs z → z ≡ pos 0 → ⊥
not-nought z less is = absurd (omega (arith, less, ap nat_abs is))

pub terms-ordered : (from : ℕ) (terms : List (ℕ × ℤ)) → are_ordered from terms ≡ true → are_short terms ≡ true → AreTerms from terms
terms-ordered from [] ordered short = tt
terms-ordered from (t ∷ terms) ordered short =
    let first = both_true (nat_le from t.0) (nat_lt 0 (nat_abs t.1) && are_ordered (t.0 + 1) terms) ordered in
    let second = both_true (nat_lt 0 (nat_abs t.1)) (are_ordered (t.0 + 1) terms) first.1 in
    let widths = both_true (is_short t.1) (are_short terms) short in
    (least from t.0 first.0, not-nought t.1 (below 0 (nat_abs t.1) second.0), below (nat_abs t.1) (2 ^ 63) widths.0, terms-ordered (t.0 + 1) terms second.1 widths.1)

pub linear-terms : (lin : Linear) → is_linear lin ≡ true → AreTerms 0 lin.terms
linear-terms lin h =
    let both = both_true (are_ordered 0 lin.terms) (are_short lin.terms && is_long lin.constant) h in
    terms-ordered 0 lin.terms both.0 (both_true (are_short lin.terms) (is_long lin.constant) both.1).0

pub short-below : (n : ℤ) → is_short n ≡ true → nat_abs n < 2 ^ 63
short-below n h = below (nat_abs n) (2 ^ 63) h

pub turned-below : (n : ℤ) → is_short n ≡ true → nat_abs (neg_ℤ n) < 2 ^ 63
turned-below n h = let small = short-below n h in omega (arith, ints, small)

module _ (sorts : List Sort) (lin : Linear) (made : is_linear lin ≡ true) where
  pub linear-added : (s t u : List Node) (items : List TermId) (id : TermId) → AreAdded (λ nodes ids. Each (IsProduct nodes sorts) lin.terms ids) (7 * length lin.terms) s t items
      → IsAdded (λ nodes k. IsSum nodes items k) 1 t u id → IsAdded (λ nodes k. IsLinearOf nodes sorts lin.terms k) (1 + 7 * length lin.terms) s u id
  linear-added s t u items id first second =
      are-added-then (λ nodes ids. Each (IsProduct nodes sorts) lin.terms ids) (λ nodes k. IsSum nodes items k) (λ nodes k. IsLinearOf nodes sorts lin.terms k)
      (7 * length lin.terms) 1 (1 + 7 * length lin.terms) s t u items id (omega arith)
      (λ nodes each sum. record { items = items; ordered = linear-terms lin made; products = products-each nodes sorts lin.terms items each; sum = sum }) first second

  pub plain-added : (s t u : List Node) (items : List TermId) (id : TermId) → is_short lin.constant ≡ true → lin.constant ≡ pos 0
      → AreAdded (λ nodes ids. Each (IsProduct nodes sorts) lin.terms ids) (7 * length lin.terms) s t items
      → IsAdded (λ nodes k. IsSum nodes items k) 1 t u id → IsAdded (λ nodes k. IsShiftedOf nodes sorts lin k) (3 + 7 * length lin.terms) s u id
  plain-added s t u items id short nought first second =
      are-added-then (λ nodes ids. Each (IsProduct nodes sorts) lin.terms ids) (λ nodes k. IsSum nodes items k) (λ nodes k. IsShiftedOf nodes sorts lin k)
      (7 * length lin.terms) 1 (3 + 7 * length lin.terms) s t u items id (omega arith)
      (λ nodes each sum. record {
        items = items;
        short = short-below lin.constant short;
        ordered = linear-terms lin made;
        products = products-each nodes sorts lin.terms items each;
        sum = inl (nought, sum);
      }) first second

  pub shifted-added : (s t u v : List Node) (items all : List TermId) (k id : TermId) → is_short lin.constant ≡ true → (lin.constant ≡ pos 0 → ⊥) → all ≡ items ++ k ∷ []
      → AreAdded (λ nodes ids. Each (IsProduct nodes sorts) lin.terms ids) (7 * length lin.terms) s t items → IsAdded (λ nodes i. IsNumber nodes lin.constant i) 2 t u k
      → IsAdded (λ nodes i. IsSum nodes all i) 1 u v id → IsAdded (λ nodes i. IsShiftedOf nodes sorts lin i) (3 + 7 * length lin.terms) s v id
  shifted-added s t u v items all k id short other is first second third =
      are-added-then (λ nodes ids. Each (IsProduct nodes sorts) lin.terms ids) (λ nodes i. IsNumber nodes lin.constant k × IsSum nodes all i) (λ nodes i. IsShiftedOf nodes sorts lin i)
      (7 * length lin.terms) 3 (3 + 7 * length lin.terms) s t v items id (omega arith)
      (λ nodes each g. record {
        items = items;
        short = short-below lin.constant short;
        ordered = linear-terms lin made;
        products = products-each nodes sorts lin.terms items each;
        sum = inr (other, (k, g.0, subst (λ (ids : List TermId). IsSum nodes ids id) is g.1));
      }) first
      (added-then (λ nodes i. IsNumber nodes lin.constant i) (λ nodes i. IsSum nodes all i) (λ nodes i. IsNumber nodes lin.constant k × IsSum nodes all i) 2 1 3 t u v k id (omega arith)
      (λ nodes h g. (h, g)) second third)

-- literals

pub comparison-added : (sorts : List Sort) (op : OpKind) (lin : Linear) (s t u v : List Node) (x y id : TermId) → is_short lin.constant ≡ true
    → IsAdded (λ nodes k. IsLinearOf nodes sorts lin.terms k) (1 + 7 * length lin.terms) s t x → IsAdded (λ nodes k. IsNumber nodes (neg_ℤ lin.constant) k) 2 t u y
    → IsAdded (λ nodes k. IsNode nodes k (Op op (x ∷ y ∷ []))) 1 u v id → IsAdded (λ nodes k. IsComparisonOf nodes sorts op lin k) (4 + 7 * length lin.terms) s v id
comparison-added sorts op lin s t u v x y id short first second third =
    added-then (λ nodes k. IsLinearOf nodes sorts lin.terms k) (λ nodes k. IsNumber nodes (neg_ℤ lin.constant) y × IsNode nodes k (Op op (x ∷ y ∷ []))) (λ nodes k. IsComparisonOf nodes sorts op lin k)
    (1 + 7 * length lin.terms) 3 (4 + 7 * length lin.terms) s t v x id (omega arith)
    (λ nodes h g. record { left = x; right = y; short = turned-below lin.constant short; linear = h; constant = g.0; node = g.1 }) first
    (added-then (λ nodes k. IsNumber nodes (neg_ℤ lin.constant) k) (λ nodes k. IsNode nodes k (Op op (x ∷ y ∷ [])))
    (λ nodes k. IsNumber nodes (neg_ℤ lin.constant) y × IsNode nodes k (Op op (x ∷ y ∷ []))) 2 1 3 t u v y id (omega arith) (λ nodes h g. (h, g)) second third)

pub divisibility-added : (sorts : List Sort) (divisor : ℕ) (lin : Linear) (s t u : List Node) (x id : TermId) → 0 < divisor → divisor < 2 ^ 63
    → IsAdded (λ nodes k. IsShiftedOf nodes sorts lin k) (3 + 7 * length lin.terms) s t x → IsAdded (λ nodes k. IsNode nodes k (Divisible (pos divisor) x)) 1 t u id
    → IsAdded (λ nodes k. IsDivisibilityOf nodes sorts divisor lin k) (4 + 7 * length lin.terms) s u id
divisibility-added sorts divisor lin s t u x id positive short first second =
    added-then (λ nodes k. IsShiftedOf nodes sorts lin k) (λ nodes k. IsNode nodes k (Divisible (pos divisor) x)) (λ nodes k. IsDivisibilityOf nodes sorts divisor lin k)
    (3 + 7 * length lin.terms) 1 (4 + 7 * length lin.terms) s t u x id (omega arith) (λ nodes h g. record { sum = x; positive = positive; short = short; shifted = h; node = g }) first second

pub indivisibility-added : (sorts : List Sort) (divisor : ℕ) (lin : Linear) (s t u : List Node) (x id : TermId)
    → IsAdded (λ nodes k. IsDivisibilityOf nodes sorts divisor lin k) (4 + 7 * length lin.terms) s t x → IsAdded (λ nodes k. IsNode nodes k (Op Not (x ∷ []))) 1 t u id
    → IsAdded (λ nodes k. IsLiteralOf nodes sorts (NDiv divisor lin) k) (5 + 7 * length lin.terms) s u id
indivisibility-added sorts divisor lin s t u x id first second =
    added-then (λ nodes k. IsDivisibilityOf nodes sorts divisor lin k) (λ nodes k. IsNode nodes k (Op Not (x ∷ []))) (λ nodes k. IsLiteralOf nodes sorts (NDiv divisor lin) k)
    (4 + 7 * length lin.terms) 1 (5 + 7 * length lin.terms) s t u x id (omega arith) (λ nodes h g. (x, h, g)) first second

-- conjunctions and lemmas

pub conjunction-added : {X : Type 0} (R : List Node → X → TermId → Type 0) (xs : List X) (a : ℕ) (s t u : List Node) (parts : List TermId) (id : TermId)
    → AreAdded (λ nodes ids. Each (R nodes) xs ids) a s t parts → IsAdded (λ nodes k. IsJoined nodes parts k) 1 t u id → IsAdded (λ nodes k. IsConjunctionOf nodes (R nodes) xs k) (1 + a) s u id
conjunction-added R xs a s t u parts id first second =
    are-added-then (λ nodes ids. Each (R nodes) xs ids) (λ nodes k. IsJoined nodes parts k) (λ nodes k. IsConjunctionOf nodes (R nodes) xs k) a 1 (1 + a) s t u parts id (omega arith)
    (λ nodes each joined. record { parts = parts; each = each; joined = joined }) first second

pub empty-added : (sorts : List Sort) (cube : List Lit) (a : ℕ) (s t : List Node) (id : TermId) → cube ≡ [] → 1 ≤ a → IsAdded (λ nodes k. IsNode nodes k False) 1 s t id
    → IsAdded (λ nodes k. IsLemmaOf nodes sorts cube k) a s t id
empty-added sorts [] a s t id is le added = added-as (λ nodes k. IsNode nodes k False) (λ nodes k. IsLemmaOf nodes sorts [] k) 1 a s t id le (λ nodes h. h) added
empty-added sorts (lit ∷ cube) a s t id is le added = absurd (cc)

pub denial-added : (sorts : List Sort) (cube : List Lit) (a : ℕ) (s t u : List Node) (x id : TermId) → (cube ≡ [] → ⊥)
    → IsAdded (λ nodes k. IsConjunctionOf nodes (IsLiteralOf nodes sorts) cube k) (1 + a) s t x → IsAdded (λ nodes k. IsNode nodes k (Op Not (x ∷ []))) 1 t u id
    → IsAdded (λ nodes k. IsLemmaOf nodes sorts cube k) (2 + a) s u id
denial-added sorts [] a s t u x id some first second = absurd (some refl)
denial-added sorts (lit ∷ cube) a s t u x id some first second =
    added-then (λ nodes k. IsConjunctionOf nodes (IsLiteralOf nodes sorts) (lit ∷ cube) k) (λ nodes k. IsNode nodes k (Op Not (x ∷ []))) (λ nodes k. IsLemmaOf nodes sorts (lit ∷ cube) k)
    (1 + a) 1 (2 + a) s t u x id (omega arith) (λ nodes h g. (x, h, g)) first second

-- the same sum by another name
pub products-as : (sorts : List Sort) (ts us : List (ℕ × ℤ)) (s t : List Node) (ids : List TermId) → ts ≡ us → AreAdded (λ nodes is. Each (IsProduct nodes sorts) ts is) (7 * length ts) s t ids
    → AreAdded (λ nodes is. Each (IsProduct nodes sorts) us is) (7 * length us) s t ids
products-as sorts ts us s t ids same added = subst (λ (xs : List (ℕ × ℤ)). AreAdded (λ nodes is. Each (IsProduct nodes sorts) xs is) (7 * length xs) s t ids) same added

-- a product that isn't the argument itself
pub scaled-product : (sorts : List Sort) (term : ℕ × ℤ) (sort : Sort) (s t : List Node) (id : TermId) → slice_get sorts term.0 ≡ Some sort → (term.1 ≡ pos 1 → ⊥)
    → IsAdded (λ nodes k. IsScaled nodes term.0 sort term.1 k) 7 s t id → IsAdded (λ nodes k. IsProduct nodes sorts term k) 7 s t id
scaled-product sorts term sort s t id there other added =
    added-as (λ nodes k. IsScaled nodes term.0 sort term.1 k) (λ nodes k. IsProduct nodes sorts term k) 7 7 s t id (omega arith)
    (λ nodes h. inr (other, (h.0, h.1, h.2, subst (λ (found : Option Sort). IsArgument nodes term.0 found h.1) (sym there) h.3, h.4))) added

-- a product that is the argument itself
pub plain-product : (sorts : List Sort) (term : ℕ × ℤ) (sort : Sort) (s t : List Node) (id : TermId) → slice_get sorts term.0 ≡ Some sort → term.1 ≡ pos 1
    → IsAdded (λ nodes k. IsArgument nodes term.0 (Some sort) k) 4 s t id → IsAdded (λ nodes k. IsProduct nodes sorts term k) 7 s t id
plain-product sorts term sort s t id there one added =
    added-as (λ nodes k. IsArgument nodes term.0 (Some sort) k) (λ nodes k. IsProduct nodes sorts term k) 4 7 s t id (omega arith)
    (λ nodes h. inl (one, subst (λ (found : Option Sort). IsArgument nodes term.0 found id) (sym there) h)) added
