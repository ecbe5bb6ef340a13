-- Defining terms, printed, are read as Bool terms that are alike.
use Rattle.std.proofs.Common.{ℕ, suc, ℤ, pos, negsuc, ◌≡◌, ◌+◌, ◌^◌, ◌<◌, ◌≤◌, inl, inr, List, [], ◌∷◌, ◌++◌, length, map, true, Option, Some, None, refl, sym, subst, arith, nat_abs, slice_get}
use Rattle.std.proofs.lemmas.Option.{slice_get_within}
use Rattle.std.specs.List.{AllByRecursion}
use Rattle.sexp_read.specs.Trees.{most_open}
use Rattle.term_tree.specs.declared.sort.Sort.{Sort}
use Rattle.term_tree.specs.declared.sort.Sort.TheVariants.{Int as IntSort, Bool as BoolSort}
use Rattle.term_tree.specs.declared.node.TermId.{TermId}
use Rattle.term_tree.specs.declared.node.OpKind.TheVariants.{Not, And, Eq, Ite, Add, Mul, Sub, Le}
use Rattle.term_tree.specs.declared.node.Node.{Node}
use Rattle.term_tree.specs.declared.node.Node.TheVariants.{Num, Op}
use Rattle.term_tree.specs.Arena.{IsArena}
use Rattle.term_check.specs.declared.scope.Named.{Named}
use Rattle.answer_text.specs.Lemmas.{IsNode, IsNumber, IsArgument, IsProduct, AreProducts, AreTerms, IsSum, IsLinear, IsShifted, IsDivisibility, IsLiteral, IsCube, IsLemma, IsDefiningTerm}
use Rattle.answer_text.proofs.OperatorLemmas.{Kind, OfSort, counts_and, counts_add, takes_sub, takes_ite, takes_mul, takes_le, takes_eq, takes_not, takes_and, takes_add}
use Rattle.answer_text.proofs.TermShowLemmas.{AreParameters, Reads, AllRead, numeral_reads, variable_reads, true_reads, false_reads, operation_reads, divisible_reads}

module _ (nodes : List Node) (arena : IsArena nodes) (sorts : List Sort) (few : length sorts < 2 ^ 64) (names : List Named) (params : AreParameters sorts names) (next : ℕ) where
  abbrev Read : Sort → Option ℤ → ℕ → ℕ → Type 0
  Read = Reads nodes arena sorts names params next

  abbrev pub ReadAll : ℕ → List Kind → List TermId → Type 0
  ReadAll = AllRead nodes arena sorts names params next

  plain_reads : (depth id n : ℕ) → n < 2 ^ 63 → slice_get nodes id ≡ Some (Num (pos n)) → Read IntSort (Some (pos n)) depth id
  plain_reads depth id n small is = numeral_reads nodes arena sorts names params next depth id n is small

  number_reads : (depth : ℕ) (k : ℤ) (id : TermId) → depth < most_open → nat_abs k < 2 ^ 63 → IsNumber nodes k id → Read IntSort (Some k) depth id.0
  number_reads depth (pos n) id below small is = plain_reads depth id.0 n small is
  number_reads depth (negsuc n) id below small (m, digits, is) =
      let same : n + 1 ≡ suc n = omega arith in
      let plain : slice_get nodes m.0 ≡ Some (Num (pos (suc n))) = subst (λ (k : ℕ). slice_get nodes m.0 ≡ Some (Num (pos k))) same digits in
      operation_reads nodes arena sorts names params next depth id.0 Sub (m ∷ []) ((IntSort, Some (pos (suc n))) ∷ []) (IntSort, Some (negsuc n)) below is (λ start. refl) (takes_sub n small)
      (plain_reads (depth + 1) m.0 (suc n) small plain, tt)

  argument_by : (depth i : ℕ) (o : Option Sort) (id : TermId) → depth < most_open → slice_get sorts i ≡ o → IsArgument nodes i o id → Read IntSort None depth id.0
  argument_by depth i None id below there is = absurd is
  argument_by depth i (Some IntSort) id below there is = variable_reads nodes arena sorts names params next depth id.0 i IntSort is there (omega (arith, few, slice_get_within sorts i IntSort there))
  argument_by depth i (Some BoolSort) id below there (x, one, nought, is_x, is_one, is_nought, is) =
      operation_reads nodes arena sorts names params next depth id.0 Ite (x ∷ one ∷ nought ∷ []) ((BoolSort, None) ∷ (IntSort, Some (pos 1)) ∷ (IntSort, Some (pos 0)) ∷ []) (IntSort, None) below is (λ start. refl) takes_ite
      (variable_reads nodes arena sorts names params next (depth + 1) x.0 i BoolSort is_x there (omega (arith, few, slice_get_within sorts i BoolSort there)), (plain_reads (depth + 1) one.0 1 (omega arith) is_one, (plain_reads (depth + 1) nought.0 0 (omega arith) is_nought, tt)))

  product_reads : (depth : ℕ) (t : ℕ × ℤ) (id : TermId) → depth + 1 < most_open → nat_abs t.1 < 2 ^ 63 → IsProduct nodes sorts t id → Read IntSort None depth id.0
  product_reads depth t id below small (inl (one, is)) = argument_by depth t.0 (slice_get sorts t.0) id (omega (arith, below)) refl is
  product_reads depth t id below small (inr (other, (k, x, is_k, is_x, is))) =
      operation_reads nodes arena sorts names params next depth id.0 Mul (k ∷ x ∷ []) ((IntSort, Some t.1) ∷ (IntSort, None) ∷ []) (IntSort, None) (omega (arith, below)) is (λ start. refl) (takes_mul t.1 small)
      (number_reads (depth + 1) t.1 k below small is_k, (argument_by (depth + 1) t.0 (slice_get sorts t.0) x below refl is_x, tt))

  -- lists of one kind
  abbrev kinds_of : Kind → List TermId → List Kind
  kinds_of kind ids = map (λ id. kind) ids

  of_sort : (sort : Sort) (constant : Option ℤ) → Rattle.term_tree.specs.Sorts.same_sort sort sort ≡ true → (ids : List TermId) → AllByRecursion (OfSort sort) (kinds_of (sort, constant) ids)
  of_sort sort constant own [] = tt
  of_sort sort constant own (id ∷ ids) = (own, of_sort sort constant own ids)

  products_read : (depth from : ℕ) (ts : List (ℕ × ℤ)) (ids : List TermId) → depth + 1 < most_open → AreTerms from ts → AreProducts nodes sorts ts ids → ReadAll depth (kinds_of (IntSort, None) ids) ids
  products_read depth from [] [] below ordered is = tt
  products_read depth from [] (id ∷ ids) below ordered is = absurd is
  products_read depth from (t ∷ ts) [] below ordered is = absurd is
  products_read depth from (t ∷ ts) (id ∷ ids) below ordered is = (product_reads depth t id below ordered.2 is.0, products_read depth (t.0 + 1) ts ids below ordered.3 is.1)

  -- a sum of items that are read, with its constant whatever it is
  abbrev IsInt : ℕ → ℕ → Type 0
  IsInt depth id = (constant : Option ℤ) × Read IntSort constant depth id

  -- the items at the depth of the sum's own and of its parts
  record Items (depth : ℕ) (ids : List TermId) : Type 0 where
    pub alone : ReadAll depth (kinds_of (IntSort, None) ids) ids
    pub below : ReadAll (depth + 1) (kinds_of (IntSort, None) ids) ids

  sum_reads : (depth : ℕ) (ids : List TermId) (id : TermId) → depth < most_open → Items depth ids → IsSum nodes ids id → IsInt depth id.0
  sum_reads depth [] id below items is = (Some (pos 0), plain_reads depth id.0 0 (omega arith) is)
  sum_reads depth (x ∷ []) id below items is = (None, subst (λ (y : TermId). Read IntSort None depth y.0) (sym is) items.alone.0)
  sum_reads depth (x ∷ y ∷ ids) id below items is = (
    None,
    operation_reads nodes arena sorts names params next depth id.0 Add (x ∷ y ∷ ids) (kinds_of (IntSort, None) (x ∷ y ∷ ids)) (IntSort, None) below is (counts_add (length (y ∷ ids)))
        (takes_add (kinds_of (IntSort, None) (y ∷ ids)) (of_sort IntSort None refl (y ∷ ids))) items.below,
  )

  -- with a constant at the end
  read_last : (depth : ℕ) (ids : List TermId) (k : TermId) (constant : Option ℤ) → ReadAll depth (kinds_of (IntSort, None) ids) ids → Read IntSort constant depth k.0
      → ReadAll depth (kinds_of (IntSort, None) ids ++ (IntSort, constant) ∷ []) (ids ++ k ∷ [])
  read_last depth [] k constant all r = (r, tt)
  read_last depth (id ∷ ids) k constant all r = (all.0, read_last depth ids k constant all.1 r)

  sorts_last : (constant : Option ℤ) (ids : List TermId) → AllByRecursion (OfSort IntSort) (kinds_of (IntSort, None) ids ++ (IntSort, constant) ∷ [])
  sorts_last constant [] = (refl, tt)
  sorts_last constant (id ∷ ids) = (refl, sorts_last constant ids)

  with_constant : (depth : ℕ) (ids : List TermId) (k id : TermId) (constant : ℤ) → depth + 1 < most_open → nat_abs constant < 2 ^ 63 → Items depth ids → IsNumber nodes constant k → IsSum nodes (ids ++ k ∷ []) id → IsInt depth id.0
  with_constant depth [] k id constant below small items number is = (Some constant, subst (λ (y : TermId). Read IntSort (Some constant) depth y.0) (sym is) (number_reads depth constant k (omega (arith, below)) small number))
  with_constant depth (x ∷ []) k id constant below small items number is = (
    None,
    operation_reads nodes arena sorts names params next depth id.0 Add (x ∷ k ∷ []) ((IntSort, None) ∷ (IntSort, Some constant) ∷ []) (IntSort, None) (omega (arith, below)) is (counts_add 1)
        (takes_add ((IntSort, Some constant) ∷ []) (refl, tt)) (items.below.0, (number_reads (depth + 1) constant k below small number, tt)),
  )
  with_constant depth (x ∷ y ∷ ids) k id constant below small items number is =
      let all = read_last (depth + 1) (x ∷ y ∷ ids) k (Some constant) items.below (number_reads (depth + 1) constant k below small number) in (
        None,
        operation_reads nodes arena sorts names params next depth id.0 Add (x ∷ y ∷ (ids ++ k ∷ [])) (kinds_of (IntSort, None) (x ∷ y ∷ ids) ++ (IntSort, Some constant) ∷ []) (IntSort, None) (omega (arith, below)) is
            (counts_add (length (y ∷ (ids ++ k ∷ [])))) (takes_add (kinds_of (IntSort, None) (y ∷ ids) ++ (IntSort, Some constant) ∷ []) (sorts_last (Some constant) (y ∷ ids))) all,
      )

  items_read : (depth : ℕ) (ts : List (ℕ × ℤ)) (ids : List TermId) → depth + 2 < most_open → AreTerms 0 ts → AreProducts nodes sorts ts ids → Items depth ids
  items_read depth ts ids below ordered is = record { alone = products_read depth 0 ts ids (omega (arith, below)) ordered is; below = products_read (depth + 1) 0 ts ids (omega (arith, below)) ordered is }

  linear_reads : (depth : ℕ) (id : TermId) → depth + 2 < most_open → IsLinear nodes sorts id → IsInt depth id.0
  linear_reads depth id below l = sum_reads depth l.items id (omega (arith, below)) (items_read depth l.terms l.items below l.ordered l.products) l.sum

  shifted_reads : (depth : ℕ) (id : TermId) → depth + 2 < most_open → IsShifted nodes sorts id → IsInt depth id.0
  shifted_reads depth id below s =
      let items = items_read depth s.terms s.items below s.ordered s.products in
      elim s.sum [
        | inl e ↦ sum_reads depth s.items id (omega (arith, below)) items e.1
        | inr e ↦ with_constant depth s.items e.1.0 id s.constant (omega (arith, below)) s.short items e.1.1 e.1.2
      ]

  -- Literals, cubes, lemmas.

  abbrev IsBool : ℕ → ℕ → Type 0
  IsBool = Read BoolSort None

  divisibility_reads : (depth : ℕ) (id : TermId) → depth + 3 < most_open → IsDivisibility nodes sorts id → IsBool depth id.0
  divisibility_reads depth id below d =
      let sum = shifted_reads (depth + 1) d.sum (omega (arith, below)) d.shifted in
      divisible_reads nodes arena sorts names params next depth id.0 d.divisor d.sum sum.0 (omega (arith, below)) d.node d.positive d.short sum.1

  literal_reads : (depth : ℕ) (id : TermId) → depth + 4 < most_open → IsLiteral nodes sorts id → IsBool depth id.0
  literal_reads depth id below (inl c) =
      let sum = linear_reads (depth + 1) c.left (omega (arith, below)) c.linear in
      operation_reads nodes arena sorts names params next depth id.0 Le (c.left ∷ c.right ∷ []) ((IntSort, sum.0) ∷ (IntSort, Some c.number) ∷ []) (BoolSort, None) (omega (arith, below)) c.node (λ start. refl) (takes_le sum.0 (Some c.number))
      (sum.1, (number_reads (depth + 1) c.number c.right (omega (arith, below)) c.short c.constant, tt))
  literal_reads depth id below (inr (inl c)) =
      let sum = linear_reads (depth + 1) c.left (omega (arith, below)) c.linear in
      operation_reads nodes arena sorts names params next depth id.0 Eq (c.left ∷ c.right ∷ []) ((IntSort, sum.0) ∷ (IntSort, Some c.number) ∷ []) (BoolSort, None) (omega (arith, below)) c.node (λ start. refl) (takes_eq sum.0 (Some c.number))
      (sum.1, (number_reads (depth + 1) c.number c.right (omega (arith, below)) c.short c.constant, tt))
  literal_reads depth id below (inr (inr (inl d))) = divisibility_reads depth id (omega (arith, below)) d
  literal_reads depth id below (inr (inr (inr (d, divides, is)))) =
      operation_reads nodes arena sorts names params next depth id.0 Not (d ∷ []) ((BoolSort, None) ∷ []) (BoolSort, None) (omega (arith, below)) is (λ start. refl) takes_not (divisibility_reads (depth + 1) d (omega (arith, below)) divides, tt)

  all_read : (P : TermId → Type 0) (depth : ℕ) → ((id : TermId) → P id → IsBool depth id.0) → (ids : List TermId) → AllByRecursion P ids → ReadAll depth (kinds_of (BoolSort, None) ids) ids
  all_read P depth f [] all = tt
  all_read P depth f (id ∷ ids) all = (f id all.0, all_read P depth f ids all.1)

  conjunction_reads : (P : TermId → Type 0) (depth : ℕ) (id : TermId) (ids : List TermId) → depth < most_open → ((i : TermId) → P i → IsBool (depth + 1) i.0) → 2 ≤ length ids → AllByRecursion P ids
      → IsNode nodes id (Op And ids) → IsBool depth id.0
  conjunction_reads P depth id [] below f many all is = absurd (omega (arith, many))
  conjunction_reads P depth id (x ∷ ids) below f many all is =
      operation_reads nodes arena sorts names params next depth id.0 And (x ∷ ids) (kinds_of (BoolSort, None) (x ∷ ids)) (BoolSort, None) below is (counts_and (length ids))
      (takes_and (kinds_of (BoolSort, None) (x ∷ ids)) (of_sort BoolSort None refl (x ∷ ids))) (all_read P (depth + 1) f (x ∷ ids) all)

  cube_reads : (depth : ℕ) (id : TermId) → depth + 5 < most_open → IsCube nodes sorts id → IsBool depth id.0
  cube_reads depth id below (inl literal) = literal_reads depth id (omega (arith, below)) literal
  cube_reads depth id below (inr (ids, many, all, is)) = conjunction_reads (IsLiteral nodes sorts) depth id ids (omega (arith, below)) (λ i l. literal_reads (depth + 1) i (omega (arith, below)) l) many all is

  lemma_reads : (depth : ℕ) (id : TermId) → depth + 6 < most_open → IsLemma nodes sorts id → IsBool depth id.0
  lemma_reads depth id below (inl is) = false_reads nodes arena sorts names params next depth id.0 is
  lemma_reads depth id below (inr (cube, c, is)) =
      operation_reads nodes arena sorts names params next depth id.0 Not (cube ∷ []) ((BoolSort, None) ∷ []) (BoolSort, None) (omega (arith, below)) is (λ start. refl) takes_not (cube_reads (depth + 1) cube (omega (arith, below)) c, tt)

  pub defining_reads : (depth : ℕ) (id : TermId) → depth + 7 < most_open → IsDefiningTerm nodes sorts id → IsBool depth id.0
  defining_reads depth id below (inl is) = true_reads nodes arena sorts names params next depth id.0 is
  defining_reads depth id below (inr (inl l)) = lemma_reads depth id (omega (arith, below)) l
  defining_reads depth id below (inr (inr (ids, many, all, is))) = conjunction_reads (IsLemma nodes sorts) depth id ids (omega (arith, below)) (λ i l. lemma_reads (depth + 1) i (omega (arith, below)) l) many all is
