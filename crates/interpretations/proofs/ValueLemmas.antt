-- What the terms of lemmas are worth where the parameters have values.
use Rattle.std.proofs.lemmas.Int.{ints}
use Rattle.std.proofs.Common.{◌≡◌, ℕ, zero, suc, ◌+◌, ◌<◌, List, [], ◌∷◌, ◌++◌, map, fold, Bool, true, false, ◌&&◌, refl, ap, sym, ◌∙◌, arith, inl, inr}
use Rattle.std.specs.Prelude.{ℤ, pos, negsuc, neg_ℤ, nat_abs, ◌+ℤ◌, ◌*ℤ◌, int_le, int_lt, not, ◌==◌, slice_get, slice_index_or, Option, Some, None, ◌⊎◌, ◌-ℤ◌}
use Rattle.std.specs.List.{list_all}
use Rattle.std.specs.Ordering.{int_eq}
use Rattle.term_tree.specs.declared.sort.Sort.{Sort}
use Rattle.term_tree.specs.declared.sort.Sort.TheVariants.{Int as IntSort, Bool as BoolSort}
use Rattle.term_tree.specs.declared.node.TermId.{TermId}
use Rattle.term_tree.specs.declared.node.OpKind.TheVariants.{Not, And, Add, Ite, Mul, Sub, Eq, Le}
use Rattle.term_tree.specs.declared.node.Node.{Node}
use Rattle.term_tree.specs.declared.node.Node.TheVariants.{Num, True, False, Var, Op, Divisible}
use Rattle.term_tree.specs.declared.scalar.Value.{Value}
use Rattle.term_tree.specs.declared.scalar.Value.TheVariants.{Int, Bool as Truth}
use Rattle.term_tree.specs.Arena.{IsArena}
use Rattle.term_tree.specs.Operators.{choice_of, divides, integer, result_of, sum_of, truth}
use Rattle.term_tree.specs.Truth.{HaveSorts}
use Rattle.term_tree.specs.Value.{environment_of, node_worth, value_of}
use Rattle.term_tree.proofs.Public.{arena_below, value_at}
use Rattle.lin_atoms.specs.Linear.{Linear, sum_at, variable_at}
use Rattle.lin_atoms.specs.Linear.{value_at as worth_at}
use Rattle.lin_atoms.specs.Multiples.{is_multiple}
use Rattle.lin_atoms.specs.Truth.{lit_truth}
use Rattle.lin_atoms.specs.declared.lit.Lit.{Lit}
use Rattle.lin_atoms.specs.declared.lit.Lit.TheVariants.{Le as AtMost, Eq as Equal, Div, NDiv}
use Rattle.cube_forms.specs.Cubes.{cube_holds}
use Rattle.linear_terms.specs.Meeting.{number, truth_number}
use Rattle.linear_terms.proofs.RelationLemmas.{divides_is, gap_is}
use Rattle.answer_text.specs.Lemmas.{AreProducts, IsArgument, IsNode, IsNumber, IsProduct, IsSum}
use Rattle.interpretations.specs.Terms.{Each, IsConjunctionOf, IsDefiningTermOf, IsDivisibilityOf, IsJoined, IsLemmaOf, IsLiteralOf}

-- the values of the arguments

int-there : (sorts : List Sort) (values : List Value) (i : ℕ) → HaveSorts sorts values → slice_get sorts i ≡ Some IntSort
    → slice_index_or values i (Truth false) ≡ Int (slice_index_or (map number values) i (pos 0))
int-there [] values i have there = absurd (cc)
int-there (s ∷ sorts) [] i have there = absurd have
int-there (IntSort ∷ sorts) (Int n ∷ values) zero have there = refl
int-there (IntSort ∷ sorts) (Truth b ∷ values) zero have there = absurd have.0
int-there (BoolSort ∷ sorts) (v ∷ values) zero have there = absurd (cc)
int-there (s ∷ sorts) (v ∷ values) (suc i) have there = int-there sorts values i have.1 there

bool-there : (sorts : List Sort) (values : List Value) (i : ℕ) → HaveSorts sorts values → slice_get sorts i ≡ Some BoolSort
    → (b : Bool) × (slice_index_or values i (Truth false) ≡ Truth b) × (slice_index_or (map number values) i (pos 0) ≡ truth_number b)
bool-there [] values i have there = absurd (cc)
bool-there (s ∷ sorts) [] i have there = absurd have
bool-there (BoolSort ∷ sorts) (Truth b ∷ values) zero have there = (b, refl, refl)
bool-there (BoolSort ∷ sorts) (Int n ∷ values) zero have there = absurd have.0
bool-there (IntSort ∷ sorts) (v ∷ values) zero have there = absurd (cc)
bool-there (s ∷ sorts) (v ∷ values) (suc i) have there = bool-there sorts values i have.1 there

chosen : (b : Bool) → choice_of (Truth b ∷ Int (pos 1) ∷ Int (pos 0) ∷ []) ≡ Int (truth_number b)
chosen true = refl
chosen false = refl

-- sums of integers

abbrev total : List ℤ → ℤ
total [] = pos 0
total (n ∷ ns) = n +ℤ total ns

total-fold : (a : ℤ) (ns : List ℤ) → fold (λ (s n : ℤ). s +ℤ n) a ns ≡ a +ℤ total ns
total-fold a [] = omega (arith, ints)
total-fold a (n ∷ ns) = let rest = total-fold (a +ℤ n) ns in omega (arith, ints, rest)

total-push : (ns : List ℤ) (n : ℤ) → total (ns ++ n ∷ []) ≡ total ns +ℤ n
total-push [] n = omega (arith, ints)
total-push (m ∷ ns) n = let rest = total-push ns n in omega (arith, ints, rest)

total-one : (n : ℤ) → total (n ∷ []) ≡ n
total-one n = omega (arith, ints)

total-sum : (ns : List ℤ) → sum_of ns ≡ total ns
total-sum ns = let all = total-fold (pos 0) ns in omega (arith, ints, all)

integers-back : (ns : List ℤ) → map integer (map (λ (n : ℤ). Int n) ns) ≡ ns
integers-back [] = refl
integers-back (n ∷ ns) = ap (λ (ms : List ℤ). n ∷ ms) (integers-back ns)

one-times : (n : ℤ) → pos 1 *ℤ n ≡ n
one-times n = omega (arith, ints)

abbrev added-terms : List ℤ → List (ℕ × ℤ) → List ℤ
added-terms tuple [] = []
added-terms tuple (t ∷ ts) = (t.1 *ℤ variable_at tuple t.0) ∷ added-terms tuple ts

total-terms : (tuple : List ℤ) (ts : List (ℕ × ℤ)) → total (added-terms tuple ts) ≡ sum_at tuple ts
total-terms tuple [] = refl
total-terms tuple (t ∷ ts) = ap (λ (n : ℤ). (t.1 *ℤ variable_at tuple t.0) +ℤ n) (total-terms tuple ts)

le-moved : (s c : ℤ) → int_le s (neg_ℤ c) ≡ int_le (s +ℤ c) (pos 0)
le-moved s c = grind (arith, ints)

eq-moved : (s c : ℤ) → int_eq s (neg_ℤ c) ≡ (nat_abs (s +ℤ c) == 0)
eq-moved s c = sym (ap (λ (d : ℤ). nat_abs d == 0) (moved s c) ∙ gap_is s (neg_ℤ c))
  where
    moved : (s c : ℤ) → s +ℤ c ≡ s -ℤ neg_ℤ c
    moved s c = omega (arith, ints)

and-true : (b : Bool) → (b && true) ≡ b
and-true true = refl
and-true false = refl

above-none : (n : ℕ) → 0 < n → int_lt (pos 0) (pos n) ≡ true
above-none n h = grind (arith, ints)

turned : (n : ℕ) → neg_ℤ (pos (n + 1)) ≡ negsuc n
turned n = omega (arith, ints)

truths-back : (bs : List Bool) → list_all truth (map (λ (b : Bool). Truth b) bs) ≡ list_all (λ (b : Bool). b) bs
truths-back [] = refl
truths-back (b ∷ bs) = ap (λ (c : Bool). b && c) (truths-back bs)

module _ (nodes : List Node) (arena : IsArena nodes) (sorts : List Sort) (values : List Value) (have : HaveSorts sorts values) where
  abbrev worth : TermId → Value
  worth id = value_of nodes id.0 (environment_of values)

  abbrev tuple : List ℤ
  tuple = map number values

  by-node : (id : TermId) (node : Node) → IsNode nodes id node → worth id ≡ node_worth (value_of nodes) node (environment_of values)
  by-node id node is = value_at nodes id.0 node (environment_of values) is (arena_below nodes id.0 node arena is)

  number-worth : (n : ℤ) (id : TermId) → IsNumber nodes n id → worth id ≡ Int n
  number-worth (pos n) id is = by-node id (Num (pos n)) is
  number-worth (negsuc n) id is =
      by-node id (Op Sub (is.0 ∷ [])) is.2 ∙ ap (λ (v : Value). result_of Sub (v ∷ [])) (by-node is.0 (Num (pos (n + 1))) is.1) ∙ ap (λ (z : ℤ). Int z) (turned n)

  argument-worth : (i : ℕ) (found : Option Sort) (id : TermId) → slice_get sorts i ≡ found → IsArgument nodes i found id → worth id ≡ Int (variable_at tuple i)
  argument-worth i None id there is = absurd is
  argument-worth i (Some IntSort) id there is = by-node id (Var i IntSort) is ∙ int-there sorts values i have there
  argument-worth i (Some BoolSort) id there is =
      let known = bool-there sorts values i have there in
      let x = is.0 in let one = is.1 in let nought = is.2 in
      by-node id (Op Ite (x ∷ one ∷ nought ∷ [])) is.6
      ∙ ap (λ (v : Value). choice_of (v ∷ worth one ∷ worth nought ∷ [])) (by-node x (Var i BoolSort) is.3 ∙ known.1)
      ∙ ap (λ (v : Value). choice_of (Truth known.0 ∷ v ∷ worth nought ∷ [])) (by-node one (Num (pos 1)) is.4)
      ∙ ap (λ (v : Value). choice_of (Truth known.0 ∷ Int (pos 1) ∷ v ∷ [])) (by-node nought (Num (pos 0)) is.5) ∙ chosen known.0 ∙ ap (λ (z : ℤ). Int z) (sym known.2)

  product-worth : (t : ℕ × ℤ) (id : TermId) → IsProduct nodes sorts t id → worth id ≡ Int (t.1 *ℤ variable_at tuple t.0)
  product-worth t id (inl h) =
      argument-worth t.0 (slice_get sorts t.0) id refl h.1 ∙ ap (λ (z : ℤ). Int z) (sym (one-times (variable_at tuple t.0)) ∙ ap (λ (c : ℤ). c *ℤ variable_at tuple t.0) (sym h.0))
  product-worth t id (inr h) =
      by-mul ∙ ap (λ (v : Value). result_of Mul (v ∷ worth h.1.1 ∷ [])) (number-worth t.1 h.1.0 h.1.2)
      ∙ ap (λ (v : Value). result_of Mul (Int t.1 ∷ v ∷ [])) (argument-worth t.0 (slice_get sorts t.0) h.1.1 refl h.1.3)
      ∙ ap (λ (c : ℤ). Int (c *ℤ variable_at tuple t.0)) (one-times t.1)
    where
      by-mul : worth id ≡ result_of Mul (worth h.1.0 ∷ worth h.1.1 ∷ [])
      by-mul = by-node id (Op Mul (h.1.0 ∷ h.1.1 ∷ [])) h.1.4

  products-worth : (ts : List (ℕ × ℤ)) (ids : List TermId) → AreProducts nodes sorts ts ids → map worth ids ≡ map (λ (n : ℤ). Int n) (added-terms tuple ts)
  products-worth [] [] are = refl
  products-worth [] (id ∷ ids) are = absurd are
  products-worth (t ∷ ts) [] are = absurd are
  products-worth (t ∷ ts) (id ∷ ids) are =
      ap (λ (v : Value). v ∷ map worth ids) (product-worth t id are.0) ∙ ap (λ (vs : List Value). Int (t.1 *ℤ variable_at tuple t.0) ∷ vs) (products-worth ts ids are.1)

  sum-worth : (ids : List TermId) (ns : List ℤ) (id : TermId) → map worth ids ≡ map (λ (n : ℤ). Int n) ns → IsSum nodes ids id → worth id ≡ Int (total ns)
  sum-worth [] [] id are is = nothing
    where
      nothing : worth id ≡ Int (total [])
      nothing = by-node id (Num (pos 0)) is
  sum-worth [] (n ∷ ns) id are is = absurd (cc)
  sum-worth (x ∷ []) [] id are is = absurd (cc)
  sum-worth (x ∷ []) (n ∷ []) id are is = ap worth is ∙ head-is (worth x) n are ∙ ap (λ (z : ℤ). Int z) (sym (total-one n))
    where
      head-is : (v : Value) (n : ℤ) → v ∷ [] ≡ Int n ∷ [] → v ≡ Int n
      head-is v n e = cc
  sum-worth (x ∷ []) (n ∷ m ∷ ns) id are is = absurd (cc)
  sum-worth (x ∷ y ∷ ids) ns id are is = added ∙ ap (λ (vs : List Value). result_of Add vs) are ∙ ap (λ (ms : List ℤ). Int (sum_of ms)) (integers-back ns) ∙ ap (λ (z : ℤ). Int z) (total-sum ns)
    where
      added : worth id ≡ result_of Add (map worth (x ∷ y ∷ ids))
      added = by-node id (Op Add (x ∷ y ∷ ids)) is

  linear-worth : (ts : List (ℕ × ℤ)) (items : List TermId) (id : TermId) → AreProducts nodes sorts ts items → IsSum nodes items id → worth id ≡ Int (sum_at tuple ts)
  linear-worth ts items id are is = sum-worth items (added-terms tuple ts) id (products-worth ts items are) is ∙ ap (λ (z : ℤ). Int z) (total-terms tuple ts)

  map-push : (ids : List TermId) (ns : List ℤ) (k : TermId) (n : ℤ) → map worth ids ≡ map (λ (m : ℤ). Int m) ns → worth k ≡ Int n → map worth (ids ++ k ∷ []) ≡ map (λ (m : ℤ). Int m) (ns ++ n ∷ [])
  map-push [] [] k n are is = ap (λ (v : Value). v ∷ []) is
  map-push [] (m ∷ ns) k n are is = absurd (cc)
  map-push (x ∷ ids) [] k n are is = absurd (cc)
  map-push (x ∷ ids) (m ∷ ns) k n are is =
      let parts = same-parts (worth x) (Int m) (map worth ids) (map (λ (j : ℤ). Int j) ns) are in
      ap (λ (v : Value). v ∷ map worth (ids ++ k ∷ [])) parts.0 ∙ ap (λ (vs : List Value). Int m ∷ vs) (map-push ids ns k n parts.1 is)
    where
      same-parts : (v w : Value) (vs ws : List Value) → v ∷ vs ≡ w ∷ ws → (v ≡ w) × (vs ≡ ws)
      same-parts v w vs ws e = (cc, cc)

  divisibility-worth : (n : ℕ) (lin : Linear) (id : TermId) → IsDivisibilityOf nodes sorts n lin id → worth id ≡ Truth (is_multiple (pos n) (worth_at tuple lin))
  divisibility-worth n lin id h =
      divided ∙ ap (λ (v : Value). Truth (divides (pos n) (integer v))) (shifted h.shifted.sum)
      ∙ ap (λ (b : Bool). Truth b) (sym (divides_is (pos n) (worth_at tuple lin) (above-none n h.positive)))
    where
      divided : worth id ≡ Truth (divides (pos n) (integer (worth h.sum)))
      divided = by-node id (Divisible (pos n) h.sum) h.node

      with-none : (s c : ℤ) → c ≡ pos 0 → s ≡ s +ℤ c
      with-none s c is = omega (arith, ints, is)

      shifted : ((lin.constant ≡ pos 0) × IsSum nodes h.shifted.items h.sum)
          ⊎ ((lin.constant ≡ pos 0 → ⊥) × ((k : TermId) × IsNumber nodes lin.constant k × IsSum nodes (h.shifted.items ++ k ∷ []) h.sum)) → worth h.sum ≡ Int (worth_at tuple lin)
      shifted (inl g) = linear-worth lin.terms h.shifted.items h.sum h.shifted.products g.1 ∙ ap (λ (z : ℤ). Int z) (with-none (sum_at tuple lin.terms) lin.constant g.0)
      shifted (inr g) =
          sum-worth (h.shifted.items ++ g.1.0 ∷ []) (added-terms tuple lin.terms ++ lin.constant ∷ []) h.sum
          (map-push h.shifted.items (added-terms tuple lin.terms) g.1.0 lin.constant (products-worth lin.terms h.shifted.items h.shifted.products) (number-worth lin.constant g.1.0 g.1.1)) g.1.2
          ∙ ap (λ (z : ℤ). Int z) (total-push (added-terms tuple lin.terms) lin.constant ∙ ap (λ (z : ℤ). z +ℤ lin.constant) (total-terms tuple lin.terms))

  sides : (lin : Linear) (x y : TermId) (items : List TermId) → AreProducts nodes sorts lin.terms items → IsSum nodes items x → IsNumber nodes (neg_ℤ lin.constant) y
      → map worth (x ∷ y ∷ []) ≡ Int (sum_at tuple lin.terms) ∷ Int (neg_ℤ lin.constant) ∷ []
  sides lin x y items are sum num =
      ap (λ (v : Value). v ∷ worth y ∷ []) (linear-worth lin.terms items x are sum) ∙ ap (λ (v : Value). Int (sum_at tuple lin.terms) ∷ v ∷ []) (number-worth (neg_ℤ lin.constant) y num)

  literal-worth : (lit : Lit) (id : TermId) → IsLiteralOf nodes sorts lit id → worth id ≡ Truth (lit_truth tuple lit)
  literal-worth (AtMost lin) id h =
      compared ∙ ap (result_of Le) (sides lin h.left h.right h.linear.items h.linear.products h.linear.sum h.constant)
      ∙ ap (λ (b : Bool). Truth b) (and-true (int_le (sum_at tuple lin.terms) (neg_ℤ lin.constant)) ∙ le-moved (sum_at tuple lin.terms) lin.constant)
    where
      compared : worth id ≡ result_of Le (map worth (h.left ∷ h.right ∷ []))
      compared = by-node id (Op Le (h.left ∷ h.right ∷ [])) h.node
  literal-worth (Equal lin) id h =
      compared ∙ ap (result_of Eq) (sides lin h.left h.right h.linear.items h.linear.products h.linear.sum h.constant)
      ∙ ap (λ (b : Bool). Truth b) (and-true (int_eq (sum_at tuple lin.terms) (neg_ℤ lin.constant)) ∙ eq-moved (sum_at tuple lin.terms) lin.constant)
    where
      compared : worth id ≡ result_of Eq (map worth (h.left ∷ h.right ∷ []))
      compared = by-node id (Op Eq (h.left ∷ h.right ∷ [])) h.node
  literal-worth (Div n lin) id h = divisibility-worth n lin id h
  literal-worth (NDiv n lin) id h = denied h.0 h.2 ∙ ap (λ (v : Value). result_of Not (v ∷ [])) (divisibility-worth n lin h.0 h.1)
    where
      denied : (d : TermId) → IsNode nodes id (Op Not (d ∷ [])) → worth id ≡ result_of Not (worth d ∷ [])
      denied d is = by-node id (Op Not (d ∷ [])) is

  each-worth : {X : Type 0} (R : X → TermId → Type 0) (T : X → Bool) → ((x : X) (id : TermId) → R x id → worth id ≡ Truth (T x)) → (xs : List X) (ids : List TermId) → Each R xs ids
      → map worth ids ≡ map (λ (b : Bool). Truth b) (map T xs)
  each-worth R T f [] [] each = refl
  each-worth R T f [] (id ∷ ids) each = absurd each
  each-worth R T f (x ∷ xs) [] each = absurd each
  each-worth R T f (x ∷ xs) (id ∷ ids) each =
      ap (λ (v : Value). v ∷ map worth ids) (f x id each.0) ∙ ap (λ (vs : List Value). Truth (T x) ∷ vs) (each-worth R T f xs ids each.1)

  joined-worth : (ids : List TermId) (bs : List Bool) (id : TermId) → map worth ids ≡ map (λ (b : Bool). Truth b) bs → IsJoined nodes ids id → worth id ≡ Truth (list_all (λ (b : Bool). b) bs)
  joined-worth [] [] id are is = true-worth
    where
      true-worth : worth id ≡ Truth true
      true-worth = by-node id True is
  joined-worth [] (b ∷ bs) id are is = absurd (cc)
  joined-worth (x ∷ []) [] id are is = absurd (cc)
  joined-worth (x ∷ []) (b ∷ []) id are is = ap worth is ∙ head-is (worth x) b are ∙ ap (λ (c : Bool). Truth c) (sym (and-true b))
    where
      head-is : (v : Value) (b : Bool) → v ∷ [] ≡ Truth b ∷ [] → v ≡ Truth b
      head-is v b e = cc
  joined-worth (x ∷ []) (b ∷ c ∷ bs) id are is = absurd (cc)
  joined-worth (x ∷ y ∷ ids) bs id are is = joined ∙ ap (result_of And) are ∙ ap (λ (b : Bool). Truth b) (truths-back bs)
    where
      joined : worth id ≡ result_of And (map worth (x ∷ y ∷ ids))
      joined = by-node id (Op And (x ∷ y ∷ ids)) is

  all-mapped : {X : Type 0} (T : X → Bool) (xs : List X) → list_all (λ (b : Bool). b) (map T xs) ≡ list_all T xs
  all-mapped T [] = refl
  all-mapped T (x ∷ xs) = ap (λ (b : Bool). T x && b) (all-mapped T xs)

  conjunction-worth : {X : Type 0} (R : X → TermId → Type 0) (T : X → Bool) → ((x : X) (id : TermId) → R x id → worth id ≡ Truth (T x)) → (xs : List X) (id : TermId)
      → IsConjunctionOf nodes R xs id → worth id ≡ Truth (list_all T xs)
  conjunction-worth R T f xs id h = joined-worth h.parts (map T xs) id (each-worth R T f xs h.parts h.each) h.joined ∙ ap (λ (b : Bool). Truth b) (all-mapped T xs)

  lemma-worth : (cube : List Lit) (id : TermId) → IsLemmaOf nodes sorts cube id → worth id ≡ Truth (not (cube_holds tuple cube))
  lemma-worth [] id is = false-worth
    where
      false-worth : worth id ≡ Truth false
      false-worth = by-node id False is
  lemma-worth (lit ∷ cube) id h =
      denied h.0 h.2 ∙ ap (λ (v : Value). result_of Not (v ∷ [])) (conjunction-worth (IsLiteralOf nodes sorts) (lit_truth tuple) literal-worth (lit ∷ cube) h.0 h.1)
    where
      denied : (d : TermId) → IsNode nodes id (Op Not (d ∷ [])) → worth id ≡ result_of Not (worth d ∷ [])
      denied d is = by-node id (Op Not (d ∷ [])) is

  pub term-worth : (cubes : List (List Lit)) (id : TermId) → IsDefiningTermOf nodes sorts cubes id
      → value_of nodes id.0 (environment_of values) ≡ Truth (list_all (λ (cube : List Lit). not (cube_holds (map number values) cube)) cubes)
  term-worth cubes id h = conjunction-worth (IsLemmaOf nodes sorts) (λ (cube : List Lit). not (cube_holds (map number values) cube)) lemma-worth cubes id h
