-- The terms of lemmas are formulas over the parameters.
use Rattle.std.proofs.lemmas.Int.{ints}
use Rattle.std.proofs.Common.{◌≡◌, ℕ, suc, ◌+◌, ◌<◌, List, [], ◌∷◌, ◌++◌, length, map, Bool, true, false, ◌&&◌, ◌||◌, ◌==◌, refl, ap, sym, ◌∙◌, subst, arith, inl, inr}
use Rattle.std.specs.Prelude.{ℤ, pos, negsuc, neg_ℤ, nat_abs, ◌*ℤ◌, ◌^◌, int_lt, nat_le, slice_get, Option, Some, None, option_map, ◌⊎◌}
use Rattle.std.specs.List.{AllByRecursion, list_all}
use Rattle.std.proofs.lemmas.Bool.Decides.{nat_tests}
use Rattle.term_tree.specs.declared.sort.Sort.{Sort}
use Rattle.term_tree.specs.declared.sort.Sort.TheVariants.{Int as IntSort, Bool as BoolSort}
use Rattle.term_tree.specs.declared.node.TermId.{TermId}
use Rattle.term_tree.specs.declared.node.OpKind.{OpKind}
use Rattle.term_tree.specs.declared.node.OpKind.TheVariants.{Not, And, Add, Ite, Mul, Sub, Eq, Le}
use Rattle.term_tree.specs.declared.node.Node.{Node}
use Rattle.term_tree.specs.declared.node.Node.TheVariants.{Num, True, False, Var, Op, Divisible}
use Rattle.term_tree.specs.Arena.{IsArena}
use Rattle.term_tree.specs.Constants.{all_constant, integer_result, constant_of, constants_among, has_short_constants, is_linear, is_short, is_short_constant, node_constant}
use Rattle.term_tree.specs.Width.{prefix_results}
use Rattle.term_tree.specs.Legal.{carried, is_scoped, is_there, next_variable, node_is_scoped, node_numbers, numbers_through, parameters}
use Rattle.term_tree.specs.Solution.{IsFormula, has_short_divisor}
use Rattle.term_tree.specs.Sorts.{has_sort, node_sort, operation_sort, same_sort, sort_if, sort_of}
use Rattle.term_tree.specs.Subterms.{EverySubterm, is_among, is_plain}
use Rattle.term_tree.proofs.Public.{arena_below, both_true, constant_at, numbered_at, scoped_at, sort_at}
use Rattle.term_check.proofs.NodeLemmas.{every_by_parts}
use Rattle.lin_atoms.specs.Linear.{Linear}
use Rattle.lin_atoms.specs.declared.lit.Lit.{Lit}
use Rattle.lin_atoms.specs.declared.lit.Lit.TheVariants.{Le as AtMost, Eq as Equal, Div, NDiv}
use Rattle.answer_text.specs.Lemmas.{AreProducts, AreTerms, IsArgument, IsNode, IsNumber, IsProduct, IsSum}
use Rattle.interpretations.specs.Terms.{Each, IsComparisonOf, IsConjunctionOf, IsDefiningTermOf, IsDivisibilityOf, IsJoined, IsLemmaOf, IsLiteralOf}

-- all that a formula asks of each node
abbrev passes : List Node → Node → Bool
passes nodes node = is_plain node && (is_linear (constant_of nodes) node && (has_short_constants (constant_of nodes) node && has_short_divisor node))

-- and of a term
record IsFine (nodes : List Node) (sorts : List Sort) (sort : Sort) (id : TermId) : Type 0 where
  sorted : sort_of [] nodes id.0 ≡ Some sort
  scoped : is_scoped nodes id.0 (parameters sorts) ≡ true
  numbered : (next : ℕ) → next_variable nodes id.0 next ≡ Some next
  subterms : EverySubterm (passes nodes) nodes id.0

same-number : (k part : ℕ) → (k == part) ≡ true → k ≡ part
same-number k part h = grind (arith, nat_tests)

short-true : (n : ℤ) → nat_abs n < 2 ^ 63 → is_short n ≡ true
short-true n h = grind (arith, nat_tests)

own-sort : (s : Sort) → same_sort s s ≡ true
own-sort IntSort = refl
own-sort BoolSort = refl

one-times : (n : ℤ) → pos 1 *ℤ n ≡ n
one-times n = omega (arith, ints)

above-none : (n : ℕ) → 0 < n → int_lt (pos 0) (pos n) ≡ true
above-none n h = grind (arith, ints)

four : (a b c d : Bool) → a ≡ true → b ≡ true → c ≡ true → d ≡ true → (a && (b && (c && d))) ≡ true
four a b c d p q r s = ap (λ (x : Bool). x && (b && (c && d))) p ∙ ap (λ (x : Bool). x && (c && d)) q ∙ ap (λ (x : Bool). x && d) r ∙ s

same-all : (s : Sort) (ids : List TermId) → list_all (has_sort s) (map (λ (id : TermId). Some s) ids) ≡ true
same-all s [] = refl
same-all s (id ∷ ids) = ap (λ (b : Bool). b && list_all (has_sort s) (map (λ (i : TermId). Some s) ids)) (own-sort s) ∙ same-all s ids

one-most : (n : ℕ) → nat_le 1 (suc n) ≡ true
one-most n = grind (arith, nat_tests)

both-are : (a b : Bool) → a ≡ true → b ≡ true → (a && b) ≡ true
both-are a b h k = ap (λ (x : Bool). x && b) h ∙ k

some-sorted : (s : Sort) (id : TermId) (ids : List TermId)
    → (nat_le 1 (length (map (λ (i : TermId). Some s) (id ∷ ids))) && list_all (has_sort s) (map (λ (i : TermId). Some s) (id ∷ ids))) ≡ true
some-sorted s id ids =
    both-are (nat_le 1 (length (map (λ (i : TermId). Some s) (id ∷ ids)))) (list_all (has_sort s) (map (λ (i : TermId). Some s) (id ∷ ids)))
    (one-most (length (map (λ (i : TermId). Some s) ids))) (same-all s (id ∷ ids))

-- the constants among the factors decide
abbrev negation-of : List (Option ℤ) → Option ℤ
negation-of given = option_map (integer_result Sub) (all_constant given)

abbrev factors : List (Option ℤ) → Option ℤ
factors given = option_map (integer_result Mul) (all_constant given)

abbrev product-passes : List (Option ℤ) → Bool
product-passes given =
    nat_le 2 (length (constants_among given) + 1)
    && ((list_all is_short (prefix_results (λ (a n : ℤ). a *ℤ n) (pos 1) (constants_among given)) && is_short_constant (factors given)) && true)

module _ (nodes : List Node) (arena : IsArena nodes) (sorts : List Sort) where
  constant : (id : TermId) (node : Node) → IsNode nodes id node → constant_of nodes id.0 ≡ node_constant (constant_of nodes) node
  constant id node is = constant_at nodes id.0 node is (arena_below nodes id.0 node arena is)

  sort-is : (id : TermId) (node : Node) → IsNode nodes id node → sort_of [] nodes id.0 ≡ node_sort [] (sort_of [] nodes) node
  sort-is id node is = sort_at [] nodes id.0 node is (arena_below nodes id.0 node arena is)

  scope-is : (id : TermId) (node : Node) → IsNode nodes id node → is_scoped nodes id.0 (parameters sorts) ≡ node_is_scoped (is_scoped nodes) node (parameters sorts)
  scope-is id node is = scoped_at nodes id.0 node (parameters sorts) is (arena_below nodes id.0 node arena is)

  next-is : (id : TermId) (node : Node) (next : ℕ) → IsNode nodes id node → next_variable nodes id.0 next ≡ node_numbers (next_variable nodes) node next
  next-is id node next is = numbered_at nodes id.0 node next is (arena_below nodes id.0 node arena is)

  -- terms without parts

  number-leaf : (n : ℤ) (id : TermId) → nat_abs n < 2 ^ 63 → IsNode nodes id (Num n) → IsFine nodes sorts IntSort id
  number-leaf n id short is = record {
    sorted = sort-is id (Num n) is;
    scoped = scope-is id (Num n) is;
    numbered = λ next. next-is id (Num n) next is;
    subterms = every_by_parts (passes nodes) nodes id.0 (Num n) is (four true true (is_short n) true refl refl (short-true n short) refl) (λ part h. absurd (no-part h));
  }
    where
      no-part : false ≡ true → ⊥
      no-part h = absurd (cc)

  truth-leaf : (id : TermId) → IsNode nodes id True → IsFine nodes sorts BoolSort id
  truth-leaf id is = record {
    sorted = sort-is id True is;
    scoped = scope-is id True is;
    numbered = λ next. next-is id True next is;
    subterms = every_by_parts (passes nodes) nodes id.0 True is refl (λ part h. absurd (no-part h));
  }
    where
      no-part : false ≡ true → ⊥
      no-part h = absurd (cc)

  false-leaf : (id : TermId) → IsNode nodes id False → IsFine nodes sorts BoolSort id
  false-leaf id is = record {
    sorted = sort-is id False is;
    scoped = scope-is id False is;
    numbered = λ next. next-is id False next is;
    subterms = every_by_parts (passes nodes) nodes id.0 False is refl (λ part h. absurd (no-part h));
  }
    where
      no-part : false ≡ true → ⊥
      no-part h = absurd (cc)

  variable-leaf : (i : ℕ) (s : Sort) (id : TermId) → slice_get sorts i ≡ Some s → IsNode nodes id (Var i s) → IsFine nodes sorts s id
  variable-leaf i s id there is = record {
    sorted = sort-is id (Var i s) is;
    scoped = scope-is id (Var i s) is ∙ ap (has_sort s) there ∙ own-sort s;
    numbered = λ next. next-is id (Var i s) next is;
    subterms = every_by_parts (passes nodes) nodes id.0 (Var i s) is refl (λ part h. absurd (no-part h));
  }
    where
      no-part : false ≡ true → ⊥
      no-part h = absurd (cc)

  -- terms with parts

  abbrev AreFine : Sort → List TermId → Type 0
  AreFine s ids = AllByRecursion (IsFine nodes sorts s) ids

  abbrev HaveParts : List TermId → Type 0
  HaveParts ids = AllByRecursion (λ id. (s : Sort) × IsFine nodes sorts s id) ids

  some-parts : (s : Sort) (ids : List TermId) → AreFine s ids → HaveParts ids
  some-parts s [] fine = tt
  some-parts s (id ∷ ids) fine = ((s, fine.0), some-parts s ids fine.1)

  sorts-parts : (s : Sort) (ids : List TermId) → AreFine s ids → map (λ (arg : TermId). sort_of [] nodes arg.0) ids ≡ map (λ (id : TermId). Some s) ids
  sorts-parts s [] fine = refl
  sorts-parts s (id ∷ ids) fine =
      ap (λ (x : Option Sort). x ∷ map (λ (arg : TermId). sort_of [] nodes arg.0) ids) fine.0.sorted ∙ ap (λ (xs : List (Option Sort)). Some s ∷ xs) (sorts-parts s ids fine.1)

  scoped-parts : (ids : List TermId) → HaveParts ids → list_all (λ (arg : TermId). is_scoped nodes arg.0 (parameters sorts)) ids ≡ true
  scoped-parts [] fine = refl
  scoped-parts (id ∷ ids) fine = ap (λ (b : Bool). b && list_all (λ (arg : TermId). is_scoped nodes arg.0 (parameters sorts)) ids) fine.0.1.scoped ∙ scoped-parts ids fine.1

  numbered-parts : (ids : List TermId) (next : ℕ) → HaveParts ids → numbers_through (next_variable nodes) ids next ≡ Some next
  numbered-parts [] next fine = refl
  numbered-parts (id ∷ ids) next fine = ap (λ (x : Option ℕ). carried (λ n. numbers_through (next_variable nodes) ids n) x) (fine.0.1.numbered next) ∙ numbered-parts ids next fine.1

  subterms-parts : (ids : List TermId) (part : ℕ) → HaveParts ids → is_among part ids ≡ true → EverySubterm (passes nodes) nodes part
  subterms-parts [] part fine h = absurd (cc)
  subterms-parts (id ∷ ids) part fine h = by-first (id.0 == part) refl h (λ later. subterms-parts ids part fine.1 later)
    where
      by-first : (b : Bool) → (id.0 == part) ≡ b → (b || is_among part ids) ≡ true → (is_among part ids ≡ true → EverySubterm (passes nodes) nodes part) → EverySubterm (passes nodes) nodes part
      by-first true is h rest = subst (λ (k : ℕ). EverySubterm (passes nodes) nodes k) (same-number id.0 part is) fine.0.1.subterms
      by-first false is h rest = rest h

  op-fine : (op : OpKind) (ids : List TermId) (s : Sort) (id : TermId) → IsNode nodes id (Op op ids) → HaveParts ids → operation_sort op (map (λ (arg : TermId). sort_of [] nodes arg.0) ids) ≡ Some s
      → passes nodes (Op op ids) ≡ true → IsFine nodes sorts s id
  op-fine op ids s id is parts sorted passed = record {
    sorted = sort-is id (Op op ids) is ∙ sorted;
    scoped = scope-is id (Op op ids) is ∙ scoped-parts ids parts;
    numbered = λ next. next-is id (Op op ids) next is ∙ numbered-parts ids next parts;
    subterms = every_by_parts (passes nodes) nodes id.0 (Op op ids) is passed (λ part h. subterms-parts ids part parts h);
  }

  -- numbers and arguments

  number-constant : (n : ℤ) (id : TermId) → IsNumber nodes n id → constant_of nodes id.0 ≡ Some n
  number-constant (pos n) id is = constant id (Num (pos n)) is
  number-constant (negsuc n) id is =
      constant id (Op Sub (is.0 ∷ [])) is.2 ∙ ap (λ (c : Option ℤ). negation-of (c ∷ [])) (constant is.0 (Num (pos (n + 1))) is.1) ∙ ap (λ (z : ℤ). Some z) (turned n)
    where
      turned : (n : ℕ) → neg_ℤ (pos (n + 1)) ≡ negsuc n
      turned n = omega (arith, ints)

  number-fine : (n : ℤ) (id : TermId) → nat_abs n < 2 ^ 63 → IsNumber nodes n id → IsFine nodes sorts IntSort id
  number-fine (pos n) id short is = number-leaf (pos n) id short is
  number-fine (negsuc n) id short is =
      let first = number-leaf (pos (n + 1)) is.0 (smaller n short) is.1 in
      op-fine Sub (is.0 ∷ []) IntSort id is.2 ((IntSort, first), tt) (ap (λ (s : Option Sort). operation_sort Sub (s ∷ [])) first.sorted)
      (four true true (is_short_constant (node_constant (constant_of nodes) (Op Sub (is.0 ∷ [])))) true refl refl
      (ap is_short_constant (sym (constant id (Op Sub (is.0 ∷ [])) is.2) ∙ number-constant (negsuc n) id is) ∙ short-true (negsuc n) short) refl)
    where
      smaller : (n : ℕ) → nat_abs (negsuc n) < 2 ^ 63 → nat_abs (pos (n + 1)) < 2 ^ 63
      smaller n h = omega (arith, ints, h)

  -- an argument and a product are no constants

  argument-constant : (i : ℕ) (found : Option Sort) (id : TermId) → IsArgument nodes i found id → constant_of nodes id.0 ≡ None
  argument-constant i None id is = absurd is
  argument-constant i (Some IntSort) id is = constant id (Var i IntSort) is
  argument-constant i (Some BoolSort) id is = constant id (Op Ite (is.0 ∷ is.1 ∷ is.2 ∷ [])) is.6

  argument-fine : (i : ℕ) (found : Option Sort) (id : TermId) → slice_get sorts i ≡ found → IsArgument nodes i found id → IsFine nodes sorts IntSort id
  argument-fine i None id there is = absurd is
  argument-fine i (Some IntSort) id there is = variable-leaf i IntSort id there is
  argument-fine i (Some BoolSort) id there is =
      let x = variable-leaf i BoolSort is.0 there is.3 in
      let one = number-leaf (pos 1) is.1 (omega arith) is.4 in
      let nought = number-leaf (pos 0) is.2 (omega arith) is.5 in
      op-fine Ite (is.0 ∷ is.1 ∷ is.2 ∷ []) IntSort id is.6 ((BoolSort, x), ((IntSort, one), ((IntSort, nought), tt)))
      (ap (λ (s : Option Sort). operation_sort Ite (s ∷ sort_of [] nodes is.1.0 ∷ sort_of [] nodes is.2.0 ∷ [])) x.sorted
      ∙ ap (λ (s : Option Sort). operation_sort Ite (Some BoolSort ∷ s ∷ sort_of [] nodes is.2.0 ∷ [])) one.sorted
      ∙ ap (λ (s : Option Sort). operation_sort Ite (Some BoolSort ∷ Some IntSort ∷ s ∷ [])) nought.sorted) refl

  product-constant : (t : ℕ × ℤ) (id : TermId) → IsProduct nodes sorts t id → constant_of nodes id.0 ≡ None
  product-constant t id (inl h) = argument-constant t.0 (slice_get sorts t.0) id h.1
  product-constant t id (inr h) =
      let k = h.1.0 in let x = h.1.1 in
      constant id (Op Mul (k ∷ x ∷ [])) h.1.4 ∙ ap (λ (c : Option ℤ). factors (c ∷ constant_of nodes x.0 ∷ [])) (number-constant t.1 k h.1.2)
      ∙ ap (λ (c : Option ℤ). factors (Some t.1 ∷ c ∷ [])) (argument-constant t.0 (slice_get sorts t.0) x h.1.3)

  product-fine : (t : ℕ × ℤ) (id : TermId) → nat_abs t.1 < 2 ^ 63 → IsProduct nodes sorts t id → IsFine nodes sorts IntSort id
  product-fine t id short (inl h) = argument-fine t.0 (slice_get sorts t.0) id refl h.1
  product-fine t id short (inr h) =
      let k = h.1.0 in let x = h.1.1 in
      let first = number-fine t.1 k short h.1.2 in
      let second = argument-fine t.0 (slice_get sorts t.0) x refl h.1.3 in
      let c-k = number-constant t.1 k h.1.2 in
      let c-x = argument-constant t.0 (slice_get sorts t.0) x h.1.3 in
      op-fine Mul (k ∷ x ∷ []) IntSort id h.1.4 ((IntSort, first), ((IntSort, second), tt))
      (ap (operation_sort Mul) (sorts-parts IntSort (k ∷ x ∷ []) (first, (second, tt))))
      (ap (λ (c : Option ℤ). product-passes (c ∷ constant_of nodes x.0 ∷ [])) c-k ∙ ap (λ (c : Option ℤ). product-passes (Some t.1 ∷ c ∷ [])) c-x
      ∙ ap (λ (z : ℤ). ((is_short z && true) && true) && true) (one-times t.1) ∙ ap (λ (b : Bool). ((b && true) && true) && true) (short-true t.1 short))

  -- sums

  products-fine : (from : ℕ) (ts : List (ℕ × ℤ)) (ids : List TermId) → AreTerms from ts → AreProducts nodes sorts ts ids → AreFine IntSort ids
  products-fine from [] [] ordered are = tt
  products-fine from [] (id ∷ ids) ordered are = absurd are
  products-fine from (t ∷ ts) [] ordered are = absurd are
  products-fine from (t ∷ ts) (id ∷ ids) ordered are = (product-fine t id ordered.2 are.0, products-fine (t.0 + 1) ts ids ordered.3 are.1)

  -- of two items or more the first is no constant
  abbrev IsNoConstant : List TermId → Type 0
  IsNoConstant (x ∷ y ∷ ids) = constant_of nodes x.0 ≡ None
  IsNoConstant _ = Unit {0}

  products-no-constant : (ts : List (ℕ × ℤ)) (ids : List TermId) → AreProducts nodes sorts ts ids → IsNoConstant ids
  products-no-constant ts [] are = tt
  products-no-constant ts (x ∷ []) are = tt
  products-no-constant [] (x ∷ y ∷ ids) are = absurd are
  products-no-constant (t ∷ ts) (x ∷ y ∷ ids) are = product-constant t x are.0

  shifted-no-constant : (ts : List (ℕ × ℤ)) (ids : List TermId) (k : TermId) → AreProducts nodes sorts ts ids → IsNoConstant (ids ++ k ∷ [])
  shifted-no-constant ts [] k are = tt
  shifted-no-constant [] (x ∷ ids) k are = absurd are
  shifted-no-constant (t ∷ ts) (x ∷ []) k are = product-constant t x are.0
  shifted-no-constant (t ∷ ts) (x ∷ y ∷ ids) k are = product-constant t x are.0

  fine-push : (s : Sort) (ids : List TermId) (k : TermId) → AreFine s ids → IsFine nodes sorts s k → AreFine s (ids ++ k ∷ [])
  fine-push s [] k fine last = (last, tt)
  fine-push s (id ∷ ids) k fine last = (fine.0, fine-push s ids k fine.1 last)

  sum-fine : (ids : List TermId) (id : TermId) → AreFine IntSort ids → IsNoConstant ids → IsSum nodes ids id → IsFine nodes sorts IntSort id
  sum-fine [] id fine first is = number-leaf (pos 0) id (omega arith) is
  sum-fine (x ∷ []) id fine first is = subst (λ (i : TermId). IsFine nodes sorts IntSort i) (sym is) fine.0
  sum-fine (x ∷ y ∷ ids) id fine first is =
      op-fine Add (x ∷ y ∷ ids) IntSort id is (some-parts IntSort (x ∷ y ∷ ids) fine)
      (ap (operation_sort Add) (sorts-parts IntSort (x ∷ y ∷ ids) fine) ∙ ap (λ (b : Bool). sort_if b IntSort) (some-sorted IntSort x (y ∷ ids)))
      (ap (λ (c : Option ℤ). is_short_constant (option_map (integer_result Add) (all_constant (c ∷ constant_of nodes y.0 ∷ map (λ (arg : TermId). constant_of nodes arg.0) ids))) && true) first)

  linear-fine : (ts : List (ℕ × ℤ)) (items : List TermId) (id : TermId) → AreTerms 0 ts → AreProducts nodes sorts ts items → IsSum nodes items id → IsFine nodes sorts IntSort id
  linear-fine ts items id ordered are is = sum-fine items id (products-fine 0 ts items ordered are) (products-no-constant ts items are) is

  -- literals

  comparison-fine : (op : OpKind) (lin : Linear) (id : TermId) → operation_sort op (Some IntSort ∷ Some IntSort ∷ []) ≡ Some BoolSort → ((args : List TermId) → passes nodes (Op op args) ≡ true)
      → IsComparisonOf nodes sorts op lin id → IsFine nodes sorts BoolSort id
  comparison-fine op lin id sorted passed h =
      let left = linear-fine lin.terms h.linear.items h.left h.linear.ordered h.linear.products h.linear.sum in
      let right = number-fine (neg_ℤ lin.constant) h.right h.short h.constant in
      op-fine op (h.left ∷ h.right ∷ []) BoolSort id h.node ((IntSort, left), ((IntSort, right), tt))
      (ap (operation_sort op) (sorts-parts IntSort (h.left ∷ h.right ∷ []) (left, (right, tt))) ∙ sorted) (passed (h.left ∷ h.right ∷ []))

  divisibility-fine : (n : ℕ) (lin : Linear) (id : TermId) → IsDivisibilityOf nodes sorts n lin id → IsFine nodes sorts BoolSort id
  divisibility-fine n lin id h = record {
    sorted = sort-is id (Divisible (pos n) h.sum) h.node ∙ ap (λ (s : Option Sort). sort_if (has_sort IntSort s) BoolSort) arg.sorted;
    scoped = scope-is id (Divisible (pos n) h.sum) h.node ∙ arg.scoped;
    numbered = λ next. next-is id (Divisible (pos n) h.sum) next h.node ∙ arg.numbered next;
    subterms =
        every_by_parts (passes nodes) nodes id.0 (Divisible (pos n) h.sum) h.node
        (four true (int_lt (pos 0) (pos n)) true (is_short (pos n)) refl (above-none n h.positive) refl (short-true (pos n) h.short))
        (λ part is. subst (λ (k : ℕ). EverySubterm (passes nodes) nodes k) (same-number h.sum.0 part is) arg.subterms);
  }
    where
      by-constant : ((lin.constant ≡ pos 0) × IsSum nodes h.shifted.items h.sum)
          ⊎ ((lin.constant ≡ pos 0 → ⊥) × ((k : TermId) × IsNumber nodes lin.constant k × IsSum nodes (h.shifted.items ++ k ∷ []) h.sum)) → IsFine nodes sorts IntSort h.sum
      by-constant (inl g) = linear-fine lin.terms h.shifted.items h.sum h.shifted.ordered h.shifted.products g.1
      by-constant (inr g) =
          sum-fine (h.shifted.items ++ g.1.0 ∷ []) h.sum
          (fine-push IntSort h.shifted.items g.1.0 (products-fine 0 lin.terms h.shifted.items h.shifted.ordered h.shifted.products) (number-fine lin.constant g.1.0 h.shifted.short g.1.1))
          (shifted-no-constant lin.terms h.shifted.items g.1.0 h.shifted.products) g.1.2

      arg : IsFine nodes sorts IntSort h.sum
      arg = by-constant h.shifted.sum

  not-fine : (d id : TermId) → IsNode nodes id (Op Not (d ∷ [])) → IsFine nodes sorts BoolSort d → IsFine nodes sorts BoolSort id
  not-fine d id is fine = op-fine Not (d ∷ []) BoolSort id is ((BoolSort, fine), tt) (ap (λ (s : Option Sort). operation_sort Not (s ∷ [])) fine.sorted) refl

  literal-fine : (lit : Lit) (id : TermId) → IsLiteralOf nodes sorts lit id → IsFine nodes sorts BoolSort id
  literal-fine (AtMost lin) id h = comparison-fine Le lin id refl (λ args. refl) h
  literal-fine (Equal lin) id h = comparison-fine Eq lin id refl (λ args. refl) h
  literal-fine (Div n lin) id h = divisibility-fine n lin id h
  literal-fine (NDiv n lin) id h = not-fine h.0 id h.2 (divisibility-fine n lin h.0 h.1)

  -- conjunctions

  joined-fine : (ids : List TermId) (id : TermId) → AreFine BoolSort ids → IsJoined nodes ids id → IsFine nodes sorts BoolSort id
  joined-fine [] id fine is = truth-leaf id is
  joined-fine (x ∷ []) id fine is = subst (λ (i : TermId). IsFine nodes sorts BoolSort i) (sym is) fine.0
  joined-fine (x ∷ y ∷ ids) id fine is =
      op-fine And (x ∷ y ∷ ids) BoolSort id is (some-parts BoolSort (x ∷ y ∷ ids) fine)
      (ap (operation_sort And) (sorts-parts BoolSort (x ∷ y ∷ ids) fine) ∙ ap (λ (b : Bool). sort_if b BoolSort) (some-sorted BoolSort x (y ∷ ids))) refl

  each-fine : {X : Type 0} (R : X → TermId → Type 0) → ((x : X) (id : TermId) → R x id → IsFine nodes sorts BoolSort id) → (xs : List X) (ids : List TermId) → Each R xs ids → AreFine BoolSort ids
  each-fine R f [] [] each = tt
  each-fine R f [] (id ∷ ids) each = absurd each
  each-fine R f (x ∷ xs) [] each = absurd each
  each-fine R f (x ∷ xs) (id ∷ ids) each = (f x id each.0, each-fine R f xs ids each.1)

  conjunction-fine : {X : Type 0} (R : X → TermId → Type 0) → ((x : X) (id : TermId) → R x id → IsFine nodes sorts BoolSort id) → (xs : List X) (id : TermId) → IsConjunctionOf nodes R xs id
      → IsFine nodes sorts BoolSort id
  conjunction-fine R f xs id h = joined-fine h.parts id (each-fine R f xs h.parts h.each) h.joined

  lemma-fine : (cube : List Lit) (id : TermId) → IsLemmaOf nodes sorts cube id → IsFine nodes sorts BoolSort id
  lemma-fine [] id is = false-leaf id is
  lemma-fine (lit ∷ cube) id h = not-fine h.0 id h.2 (conjunction-fine (IsLiteralOf nodes sorts) literal-fine (lit ∷ cube) h.0 h.1)

  first-part : (node : Node) → passes nodes node ≡ true
      → (is_plain node ≡ true) × (is_linear (constant_of nodes) node ≡ true) × (has_short_constants (constant_of nodes) node ≡ true) × (has_short_divisor node ≡ true)
  first-part node h =
      let one = both_true (is_plain node) (is_linear (constant_of nodes) node && (has_short_constants (constant_of nodes) node && has_short_divisor node)) h in
      let two = both_true (is_linear (constant_of nodes) node) (has_short_constants (constant_of nodes) node && has_short_divisor node) one.1 in
      let three = both_true (has_short_constants (constant_of nodes) node) (has_short_divisor node) two.1 in (one.0, two.0, three.0, three.1)

  pub term-formula : (cubes : List (List Lit)) (id : TermId) → IsDefiningTermOf nodes sorts cubes id → IsFormula sorts nodes id.0
  term-formula cubes id h =
      let fine = conjunction-fine (IsLemmaOf nodes sorts) lemma-fine cubes id h in
      record {
        arena = arena;
        legal = record {
          sorted = fine.sorted;
          scoped = fine.scoped;
          numbered = ap is_there (fine.numbered (length sorts));
          linear = λ low node sub at. (first-part node (fine.subterms low node sub at)).1;
          short = λ low node sub at. (first-part node (fine.subterms low node sub at)).2;
        };
        plain = λ low node sub at. (first-part node (fine.subterms low node sub at)).0;
        divisors = λ low node sub at. (first-part node (fine.subterms low node sub at)).3;
      }
