-- Every subterm of a well sorted term has a sort.
use Rattle.std.proofs.Common.{◌≡◌, ℕ, List, [], ◌∷◌, length, map, Bool, true, false, ◌||◌, ◌&&◌, ◌==◌, inl, inr, refl, ap, sym, ◌∙◌}
use Rattle.std.specs.Prelude.{slice_get, Option, Some, None, nat_le, if◌then◌else◌, ◌⊎◌}
use Rattle.std.specs.List.{list_all}
use Rattle.std.proofs.lemmas.Bool.{eqb-true}
use Rattle.term_tree.specs.declared.sort.Sort.{Sort}
use Rattle.term_tree.specs.declared.sort.Sort.TheVariants.{Int as IntSort, Bool as BoolSort}
use Rattle.term_tree.specs.declared.script.Pred.{Pred as Declared}
use Rattle.term_tree.specs.declared.node.TermId.{TermId}
use Rattle.term_tree.specs.declared.node.OpKind.{OpKind}
use Rattle.term_tree.specs.declared.node.OpKind.TheVariants.{Not, And, Or, Xor, Implies, Eq, Distinct, Ite, Add, Mul, Sub, Abs, Div, Mod, Le, Lt, Ge, Gt}
use Rattle.term_tree.specs.declared.node.Node.{Node}
use Rattle.term_tree.specs.declared.node.Node.TheVariants.{Num, True, False, Var, LetVar, Pred, Op, Divisible, Let, Forall, Exists}
use Rattle.term_tree.specs.Arena.{IsArena, has_parts_below}
use Rattle.term_tree.specs.Sorts.{all_of, are_alike, has_sort, have_sorts, is_sorted, node_sort, operation_sort, predicate_sort, sort_of}
use Rattle.term_tree.specs.Subterms.{IsSubterm, inside, is_among, is_part, itself}
use Rattle.term_tree.proofs.Public.{arena_below, both_true, sort_at}
use Rattle.linear_terms.proofs.SortLemmas.{choice_is, has_sort_is, let_sort, sort_if_is}

-- what a term has, if it has a sort
abbrev pub HasSome : Option Sort → Type 0
HasSome o = (s : Sort) × (o ≡ Some s)

some_sort : (o : Option Sort) → is_sorted o ≡ true → HasSome o
some_sort None h = absurd (cc)
some_sort (Some s) h = (s, refl)

given_sort : (s : Sort) (o : Option Sort) → has_sort s o ≡ true → HasSome o
given_sort s o h = (s, has_sort_is s o h)

same_part : (S : ℕ → Option Sort) (id part : ℕ) → (id == part) ≡ true → HasSome (S id) → HasSome (S part)
same_part S id part same some = (some.0, sym (ap S (eqb-true id part same)) ∙ some.1)

either : (a b : Bool) → (a || b) ≡ true → (a ≡ true) ⊎ (b ≡ true)
either true b h = inl refl
either false b h = inr h

-- of each among terms that pass a test
among_all : (test : Option Sort → Bool) (S : ℕ → Option Sort) → ((o : Option Sort) → test o ≡ true → HasSome o) → (args : List TermId) (part : ℕ)
    → list_all test (map (λ (arg : TermId). S arg.0) args) ≡ true → is_among part args ≡ true → HasSome (S part)
among_all test S some [] part all has = absurd (cc)
among_all test S some (id ∷ ids) part all has =
    let both = both_true (test (S id.0)) (list_all test (map (λ (arg : TermId). S arg.0) ids)) all in
    elim (either (id.0 == part) (is_among part ids) has) [
      | inl same ↦ same_part S id.0 part same (some (S id.0) both.0)
      | inr later ↦ among_all test S some ids part both.1 later
    ]

among_given : (S : ℕ → Option Sort) (sorts : List Sort) (args : List TermId) (part : ℕ) → have_sorts sorts (map (λ (arg : TermId). S arg.0) args) ≡ true → is_among part args ≡ true → HasSome (S part)
among_given S sorts [] part all has = absurd (cc)
among_given S [] (id ∷ ids) part all has = absurd (cc)
among_given S (s ∷ sorts) (id ∷ ids) part all has =
    let both = both_true (has_sort s (S id.0)) (have_sorts sorts (map (λ (arg : TermId). S arg.0) ids)) all in
    elim (either (id.0 == part) (is_among part ids) has) [
      | inl same ↦ same_part S id.0 part same (given_sort s (S id.0) both.0)
      | inr later ↦ among_given S sorts ids part both.1 later
    ]

-- what is alike has the sort of the first
alike_first : (S : ℕ → Option Sort) (o : Option Sort) (args : List TermId) → are_alike (o ∷ map (λ (arg : TermId). S arg.0) args) ≡ true
    → (s : Sort) × (o ≡ Some s) × (list_all (has_sort s) (map (λ (arg : TermId). S arg.0) args) ≡ true)
alike_first S None args h = absurd (cc)
alike_first S (Some s) args h = (s, refl, h)

among_alike : (S : ℕ → Option Sort) (args : List TermId) (part : ℕ) → are_alike (map (λ (arg : TermId). S arg.0) args) ≡ true → is_among part args ≡ true → HasSome (S part)
among_alike S [] part all has = absurd (cc)
among_alike S (id ∷ ids) part all has =
    let first = alike_first S (S id.0) ids all in
    elim (either (id.0 == part) (is_among part ids) has) [
      | inl same ↦ same_part S id.0 part same (first.0, first.1)
      | inr later ↦ among_all (has_sort first.0) S (given_sort first.0) ids part first.2 later
    ]

among_choice : (S : ℕ → Option Sort) (args : List TermId) (s : Sort) (part : ℕ) → operation_sort Ite (map (λ (arg : TermId). S arg.0) args) ≡ Some s → is_among part args ≡ true → HasSome (S part)
among_choice S args s part h has =
    let c = choice_is S args s h in
    let among : is_among part (c.condition ∷ c.yes ∷ c.other ∷ []) ≡ true = ap (is_among part) (sym c.are) ∙ has in
    elim (either (c.condition.0 == part) (is_among part (c.yes ∷ c.other ∷ [])) among) [
      | inl same ↦ same_part S c.condition.0 part same (BoolSort, c.condition_sort)
      | inr later ↦ elim (either (c.yes.0 == part) (is_among part (c.other ∷ [])) later) [
        | inl same ↦ same_part S c.yes.0 part same (s, c.yes_sort)
        | inr last ↦ same_part S c.other.0 part (no_other (c.other.0 == part) last) (s, c.other_sort)
      ]
    ]
  where
    no_other : (b : Bool) → (b || false) ≡ true → b ≡ true
    no_other true h = refl
    no_other false h = h

of_all : (S : ℕ → Option Sort) (s t : Sort) (least : ℕ) (args : List TermId) (part : ℕ) (sort : Sort)
    → (if all_of s least (map (λ (arg : TermId). S arg.0) args) then Some t else None) ≡ Some sort → is_among part args ≡ true → HasSome (S part)
of_all S s t least args part sort h has =
    let given : List (Option Sort) = map (λ (arg : TermId). S arg.0) args in
    among_all (has_sort s) S (given_sort s) args part (both_true (nat_le least (length given)) (list_all (has_sort s) given) (sort_if_is (all_of s least given) t sort h).0).1 has

of_given : (S : ℕ → Option Sort) (sorts : List Sort) (t : Sort) (args : List TermId) (part : ℕ) (sort : Sort)
    → (if have_sorts sorts (map (λ (arg : TermId). S arg.0) args) then Some t else None) ≡ Some sort → is_among part args ≡ true → HasSome (S part)
of_given S sorts t args part sort h has = among_given S sorts args part (sort_if_is (have_sorts sorts (map (λ (arg : TermId). S arg.0) args)) t sort h).0 has

-- sides of `=` and `distinct` are alike
pub equal_alike : (S : ℕ → Option Sort) (args : List TermId) (sort : Sort) → operation_sort Eq (map (λ (arg : TermId). S arg.0) args) ≡ Some sort
    → are_alike (map (λ (arg : TermId). S arg.0) args) ≡ true
equal_alike S args sort h =
    let given : List (Option Sort) = map (λ (arg : TermId). S arg.0) args in
    (both_true (nat_le 2 (length given)) (are_alike given) (sort_if_is (nat_le 2 (length given) && are_alike given) BoolSort sort h).0).1

pub distinct_alike : (S : ℕ → Option Sort) (args : List TermId) (sort : Sort) → operation_sort Distinct (map (λ (arg : TermId). S arg.0) args) ≡ Some sort
    → are_alike (map (λ (arg : TermId). S arg.0) args) ≡ true
distinct_alike S args sort h =
    let given : List (Option Sort) = map (λ (arg : TermId). S arg.0) args in
    let both = both_true (nat_le 2 (length given)) (nat_le (length given) 64 && are_alike given) (sort_if_is (nat_le 2 (length given) && (nat_le (length given) 64 && are_alike given)) BoolSort sort h).0 in
    (both_true (nat_le (length given) 64) (are_alike given) both.1).1

operand_sorted : (S : ℕ → Option Sort) (args : List TermId) (part : ℕ) (s : Sort) → is_among part args ≡ true → (op : OpKind) → operation_sort op (map (λ (arg : TermId). S arg.0) args) ≡ Some s → HasSome (S part)
operand_sorted S args part s has Not h = of_given S (BoolSort ∷ []) BoolSort args part s h has
operand_sorted S args part s has And h = of_all S BoolSort BoolSort 1 args part s h has
operand_sorted S args part s has Or h = of_all S BoolSort BoolSort 1 args part s h has
operand_sorted S args part s has Xor h = of_all S BoolSort BoolSort 2 args part s h has
operand_sorted S args part s has Implies h = of_all S BoolSort BoolSort 2 args part s h has
operand_sorted S args part s has Eq h = among_alike S args part (equal_alike S args s h) has
operand_sorted S args part s has Distinct h = among_alike S args part (distinct_alike S args s h) has
operand_sorted S args part s has Ite h = among_choice S args s part h has
operand_sorted S args part s has Add h = of_all S IntSort IntSort 1 args part s h has
operand_sorted S args part s has Mul h = of_all S IntSort IntSort 1 args part s h has
operand_sorted S args part s has Sub h = of_all S IntSort IntSort 1 args part s h has
operand_sorted S args part s has Abs h = of_given S (IntSort ∷ []) IntSort args part s h has
operand_sorted S args part s has Div h = of_given S (IntSort ∷ IntSort ∷ []) IntSort args part s h has
operand_sorted S args part s has Mod h = of_given S (IntSort ∷ IntSort ∷ []) IntSort args part s h has
operand_sorted S args part s has Le h = of_all S IntSort BoolSort 2 args part s h has
operand_sorted S args part s has Lt h = of_all S IntSort BoolSort 2 args part s h has
operand_sorted S args part s has Ge h = of_all S IntSort BoolSort 2 args part s h has
operand_sorted S args part s has Gt h = of_all S IntSort BoolSort 2 args part s h has

argument_sorted : (S : ℕ → Option Sort) (found : Option Declared) (args : List TermId) (part : ℕ) (s : Sort) → predicate_sort found (map (λ (arg : TermId). S arg.0) args) ≡ Some s
    → is_among part args ≡ true → HasSome (S part)
argument_sorted S None args part s h has = absurd (cc)
argument_sorted S (Some p) args part s h has = of_given S p.args BoolSort args part s h has

bound_sorted : (b : Bool) (o : Option Sort) (s : Sort) → (if b then o else None) ≡ Some s → b ≡ true
bound_sorted true o s h = refl
bound_sorted false o s h = absurd (cc)

pub part_sorted : (preds : List Declared) (S : ℕ → Option Sort) (node : Node) (s : Sort) (part : ℕ) → node_sort preds S node ≡ Some s → is_part part node ≡ true → HasSome (S part)
part_sorted preds S (Num n) s part h has = absurd (cc)
part_sorted preds S True s part h has = absurd (cc)
part_sorted preds S False s part h has = absurd (cc)
part_sorted preds S (Var binder sort) s part h has = absurd (cc)
part_sorted preds S (LetVar bound) s part h has = same_part S bound.0 part has (s, h)
part_sorted preds S (Pred pred args) s part h has = argument_sorted S (slice_get preds pred) args part s h has
part_sorted preds S (Op op args) s part h has = operand_sorted S args part s has op h
part_sorted preds S (Divisible by arg) s part h has = same_part S arg.0 part has (given_sort IntSort (S arg.0) (sort_if_is (has_sort IntSort (S arg.0)) BoolSort s h).0)
part_sorted preds S (Let bound body) s part h has =
    elim (either (is_among part bound) (body.0 == part) has) [
      | inl bit ↦ among_all is_sorted S some_sort bound part (bound_sorted (list_all is_sorted (map (λ (b : TermId). S b.0) bound)) (S body.0) s h) bit
      | inr last ↦ same_part S body.0 part last (s, let_sort (list_all is_sorted (map (λ (b : TermId). S b.0) bound)) (S body.0) s h)
    ]
part_sorted preds S (Forall first kinds body) s part h has = same_part S body.0 part has (given_sort BoolSort (S body.0) (sort_if_is (has_sort BoolSort (S body.0)) BoolSort s h).0)
part_sorted preds S (Exists first kinds body) s part h has = same_part S body.0 part has (given_sort BoolSort (S body.0) (sort_if_is (has_sort BoolSort (S body.0)) BoolSort s h).0)

pub subterm_sorted : (preds : List Declared) (nodes : List Node) (top id : ℕ) (sort : Sort) → IsArena nodes → sort_of preds nodes top ≡ Some sort → IsSubterm nodes top id → HasSome (sort_of preds nodes id)
subterm_sorted preds nodes top id sort arena sorted itself = (sort, sorted)
subterm_sorted preds nodes top id sort arena sorted (inside part node sub is has) =
    let outer = subterm_sorted preds nodes top _ sort arena sorted sub in
    let below : has_parts_below _ node ≡ true = arena_below nodes _ node arena is in
    part_sorted preds (sort_of preds nodes) node outer.0 part (sym (sort_at preds nodes _ node is below) ∙ outer.1) has

-- where one side is Bool, the first one is
pub first_truth : (S : ℕ → Option Sort) (args : List TermId) (part : ℕ) → are_alike (map (λ (arg : TermId). S arg.0) args) ≡ true → is_among part args ≡ true → S part ≡ Some BoolSort
    → (id : TermId) (ids : List TermId) → args ≡ id ∷ ids → has_sort BoolSort (S id.0) ≡ true
first_truth S args part alike has at id ids are =
    let whole : are_alike (map (λ (arg : TermId). S arg.0) (id ∷ ids)) ≡ true = ap (λ (xs : List TermId). are_alike (map (λ (arg : TermId). S arg.0) xs)) (sym are) ∙ alike in
    let first = alike_first S (S id.0) ids whole in
    let among : is_among part (id ∷ ids) ≡ true = ap (is_among part) (sym are) ∙ has in
    ap (has_sort BoolSort) first.1 ∙ elim (either (id.0 == part) (is_among part ids) among) [
      | inl same ↦ sort_is first.0 (sym first.1 ∙ ap S (eqb-true id.0 part same) ∙ at)
      | inr later ↦ passes first.0 (S part) (test_part (has_sort first.0) ids first.2 later) at
    ]
  where
    sort_is : (s : Sort) → Some s ≡ Some BoolSort → has_sort BoolSort (Some s) ≡ true
    sort_is IntSort h = absurd (cc)
    sort_is BoolSort h = refl

    passes : (s : Sort) (o : Option Sort) → has_sort s o ≡ true → o ≡ Some BoolSort → has_sort BoolSort (Some s) ≡ true
    passes IntSort o h is = let never : has_sort IntSort (Some BoolSort) ≡ true = sym (ap (has_sort IntSort) is) ∙ h in absurd (cc)
    passes BoolSort o h is = refl

    test_part : (test : Option Sort → Bool) (xs : List TermId) → list_all test (map (λ (arg : TermId). S arg.0) xs) ≡ true → is_among part xs ≡ true → test (S part) ≡ true
    test_part test [] all has = absurd (cc)
    test_part test (x ∷ xs) all has =
        let both = both_true (test (S x.0)) (list_all test (map (λ (arg : TermId). S arg.0) xs)) all in
        elim (either (x.0 == part) (is_among part xs) has) [
          | inl same ↦ sym (ap (λ (k : ℕ). test (S k)) (eqb-true x.0 part same)) ∙ both.0
          | inr later ↦ test_part test xs both.1 later
        ]
