-- A term that is legal over some predicates is legal over these and more.
use Rattle.std.proofs.Common.{◌≡◌, ℕ, zero, suc, ◌+◌, ◌<◌, List, [], ◌∷◌, ◌++◌, length, get_or, Bool, true, false, ◌&&◌, map, refl, sym, ap, ◌∙◌, arith}
use Rattle.std.specs.Prelude.{Option, None, Some, slice_get, nat_le, nat_lt, if◌then◌else◌}
use Rattle.std.specs.List.{list_all}
use Rattle.std.proofs.lemmas.Option.{slice_get-get_or}
use Rattle.term_tree.specs.declared.sort.Sort.{Sort}
use Rattle.term_tree.specs.declared.sort.Sort.TheVariants.{Int, Bool as Truth}
use Rattle.term_tree.specs.declared.script.Pred.{Pred as Declared}
use Rattle.term_tree.specs.declared.node.TermId.{TermId}
use Rattle.term_tree.specs.declared.node.OpKind.{OpKind}
use Rattle.term_tree.specs.declared.node.OpKind.TheVariants.{Not, And, Or, Xor, Implies, Eq, Distinct, Ite, Add, Mul, Sub, Abs, Div, Mod, Le, Lt, Ge, Gt}
use Rattle.term_tree.specs.declared.node.Node.{Node}
use Rattle.term_tree.specs.declared.node.Node.TheVariants.{Num, True, False, Var, LetVar, Pred, Op, Divisible, Let, Forall, Exists}
use Rattle.term_tree.specs.Arena.{IsArena, is_below, has_parts_below}
use Rattle.term_tree.specs.Sorts.{has_sort, is_sorted, have_sorts, are_alike, sort_if, all_of, choice_sort, operation_sort, predicate_sort, node_sort, sort_of}
use Rattle.term_tree.specs.Legal.{IsLegal}
use Rattle.term_tree.proofs.Public.{arena_below, below_from, both_true, sort_at}

has_is : (s : Sort) (o : Option Sort) → has_sort s o ≡ true → is_sorted o ≡ true
has_is s None h = absurd (cc)
has_is s (Some t) h = refl

each_is : (s : Sort) (given : List (Option Sort)) → list_all (has_sort s) given ≡ true → list_all is_sorted given ≡ true
each_is s [] h = refl
each_is s (o ∷ given) h =
    let both = both_true (has_sort s o) (list_all (has_sort s) given) h in ap (λ (b : Bool). b && list_all is_sorted given) (has_is s o both.0) ∙ each_is s given both.1

these_are : (sorts : List Sort) (given : List (Option Sort)) → have_sorts sorts given ≡ true → list_all is_sorted given ≡ true
these_are [] [] h = refl
these_are [] (o ∷ given) h = absurd (cc)
these_are (s ∷ sorts) [] h = absurd (cc)
these_are (s ∷ sorts) (o ∷ given) h =
    let both = both_true (has_sort s o) (have_sorts sorts given) h in ap (λ (b : Bool). b && list_all is_sorted given) (has_is s o both.0) ∙ these_are sorts given both.1

alike_are : (given : List (Option Sort)) → are_alike given ≡ true → list_all is_sorted given ≡ true
alike_are [] h = refl
alike_are (None ∷ given) h = absurd (cc)
alike_are (Some s ∷ given) h = each_is s given h

passes : (b : Bool) (s t : Sort) → sort_if b s ≡ Some t → b ≡ true
passes true s t h = refl
passes false s t h = absurd (cc)

all_are : (s : Sort) (least : ℕ) (given : List (Option Sort)) (r t : Sort) → sort_if (all_of s least given) r ≡ Some t → list_all is_sorted given ≡ true
all_are s least given r t h = each_is s given (both_true (nat_le least (length given)) (list_all (has_sort s) given) (passes _ r t h)).1

choice_are : (given : List (Option Sort)) (s : Sort) → choice_sort given ≡ Some s → list_all is_sorted given ≡ true
choice_are [] s h = absurd (cc)
choice_are (None ∷ given) s h = absurd (cc)
choice_are (Some Int ∷ given) s h = absurd (cc)
choice_are (Some Truth ∷ []) s h = absurd (cc)
choice_are (Some Truth ∷ None ∷ given) s h = absurd (cc)
choice_are (Some Truth ∷ Some r ∷ []) s h = absurd (cc)
choice_are (Some Truth ∷ Some r ∷ o ∷ []) s h = ap (λ (b : Bool). b && true) (has_is r o (passes (has_sort r o) r s h))
choice_are (Some Truth ∷ Some r ∷ o ∷ p ∷ given) s h = absurd (cc)

operation_are : (op : OpKind) (given : List (Option Sort)) (s : Sort) → operation_sort op given ≡ Some s → list_all is_sorted given ≡ true
operation_are Not given s h = these_are (Truth ∷ []) given (passes _ Truth s h)
operation_are And given s h = all_are Truth 1 given Truth s h
operation_are Or given s h = all_are Truth 1 given Truth s h
operation_are Xor given s h = all_are Truth 2 given Truth s h
operation_are Implies given s h = all_are Truth 2 given Truth s h
operation_are Eq given s h = alike_are given (both_true (nat_le 2 (length given)) (are_alike given) (passes _ Truth s h)).1
operation_are Distinct given s h =
    alike_are given (both_true (nat_le (length given) 64) (are_alike given) (both_true (nat_le 2 (length given)) (nat_le (length given) 64 && are_alike given) (passes _ Truth s h)).1).1
operation_are Ite given s h = choice_are given s h
operation_are Add given s h = all_are Int 1 given Int s h
operation_are Mul given s h = all_are Int 1 given Int s h
operation_are Sub given s h = all_are Int 1 given Int s h
operation_are Abs given s h = these_are (Int ∷ []) given (passes _ Int s h)
operation_are Div given s h = these_are (Int ∷ Int ∷ []) given (passes _ Int s h)
operation_are Mod given s h = these_are (Int ∷ Int ∷ []) given (passes _ Int s h)
operation_are Le given s h = all_are Int 2 given Truth s h
operation_are Lt given s h = all_are Int 2 given Truth s h
operation_are Ge given s h = all_are Int 2 given Truth s h
operation_are Gt given s h = all_are Int 2 given Truth s h

declared_more : (preds more : List Declared) (n : ℕ) (d : Declared) → slice_get preds n ≡ Some d → slice_get (preds ++ more) n ≡ Some d
declared_more [] more n d h = absurd (cc)
declared_more (p ∷ preds) more zero d h = h
declared_more (p ∷ preds) more (suc n) d h = declared_more preds more n d h

module _ (preds more : List Declared) (p q : ℕ → Option Sort) (n : ℕ) (grows : (c : ℕ) (s : Sort) → c < n → p c ≡ Some s → q c ≡ Some s) where
  one_same : (c : ℕ) (o : Option Sort) → c < n → p c ≡ o → is_sorted o ≡ true → p c ≡ q c
  one_same c None below is h = absurd (cc)
  one_same c (Some s) below is h = is ∙ sym (grows c s below is)

  all_same : (ids : List TermId) → list_all (is_below n) ids ≡ true → list_all is_sorted (map (λ arg. p arg.0) ids) ≡ true → map (λ arg. p arg.0) ids ≡ map (λ arg. q arg.0) ids
  all_same [] below h = refl
  all_same (id ∷ ids) below h =
      let b = both_true (nat_lt id.0 n) (list_all (is_below n) ids) below in
      let s = both_true (is_sorted (p id.0)) (list_all is_sorted (map (λ arg. p arg.0) ids)) h in
      ap (λ (o : Option Sort). o ∷ map (λ arg. p arg.0) ids) (one_same id.0 (p id.0) (below_from id.0 n b.0) refl s.0) ∙ ap (λ (os : List (Option Sort)). q id.0 ∷ os) (all_same ids b.1 s.1)

  predicate_grows : (pred : ℕ) (d : Option Declared) (ids : List TermId) (s : Sort) → slice_get preds pred ≡ d → list_all (is_below n) ids ≡ true → predicate_sort d (map (λ arg. p arg.0) ids) ≡ Some s
      → predicate_sort (slice_get (preds ++ more) pred) (map (λ arg. q arg.0) ids) ≡ Some s
  predicate_grows pred None ids s is below h = absurd (cc)
  predicate_grows pred (Some d) ids s is below h =
      ap (λ (o : Option Declared). predicate_sort o (map (λ arg. q arg.0) ids)) (declared_more preds more pred d is)
      ∙ ap (λ (os : List (Option Sort)). predicate_sort (Some d) os) (sym (all_same ids below (these_are d.args (map (λ arg. p arg.0) ids) (passes _ Truth s h)))) ∙ h

  let_grows : (b : Bool) (bound : List TermId) (body : TermId) (s : Sort) → list_all is_sorted (map (λ id. p id.0) bound) ≡ b → list_all (is_below n) bound ≡ true → body.0 < n → (if b then p body.0 else None) ≡ Some s
      → (if list_all is_sorted (map (λ id. q id.0) bound) then q body.0 else None) ≡ Some s
  let_grows true bound body s is below within h =
      ap (λ (b : Bool). if b then q body.0 else None) (ap (λ (os : List (Option Sort)). list_all is_sorted os) (sym (all_same bound below is)) ∙ is) ∙ grows body.0 s within h
  let_grows false bound body s is below within h = absurd (cc)

  sort_test : (r : Sort) (c : ℕ) (s t : Sort) → c < n → sort_if (has_sort r (p c)) s ≡ Some t → sort_if (has_sort r (q c)) s ≡ Some t
  sort_test r c s t below h =
      ap (λ (o : Option Sort). sort_if (has_sort r o) s) (sym (one_same c (p c) below refl (has_is r (p c) (passes (has_sort r (p c)) s t h)))) ∙ h

  node_grows : (node : Node) (s : Sort) → has_parts_below n node ≡ true → node_sort preds p node ≡ Some s → node_sort (preds ++ more) q node ≡ Some s
  node_grows (Num k) s below h = h
  node_grows True s below h = h
  node_grows False s below h = h
  node_grows (Var binder sort) s below h = h
  node_grows (LetVar bound) s below h = grows bound.0 s (below_from bound.0 n below) h
  node_grows (Pred pred args) s below h = predicate_grows pred (slice_get preds pred) args s refl below h
  node_grows (Op op args) s below h = ap (λ (os : List (Option Sort)). operation_sort op os) (sym (all_same args below (operation_are op (map (λ arg. p arg.0) args) s h))) ∙ h
  node_grows (Divisible by arg) s below h = sort_test Int arg.0 Truth s (below_from arg.0 n below) h
  node_grows (Let bound body) s below h =
      let both = both_true (list_all (is_below n) bound) (nat_lt body.0 n) below in
      let_grows (list_all is_sorted (map (λ id. p id.0) bound)) bound body s refl both.0 (below_from body.0 n both.1) h
  node_grows (Forall first sorts body) s below h = sort_test Truth body.0 Truth s (below_from body.0 n below) h
  node_grows (Exists first sorts body) s below h = sort_test Truth body.0 Truth s (below_from body.0 n below) h

sort_grows : (preds more : List Declared) (nodes : List Node) → IsArena nodes → (n id : ℕ) (s : Sort) → id < n → id < length nodes → sort_of preds nodes id ≡ Some s → sort_of (preds ++ more) nodes id ≡ Some s
sort_grows preds more nodes arena zero id s less within h = absurd (omega arith)
sort_grows preds more nodes arena (suc n) id s less within h =
    let node : Node = get_or nodes id True in
    let is : slice_get nodes id ≡ Some node = slice_get-get_or nodes id True within in
    let below = arena_below nodes id node arena is in
    sort_at (preds ++ more) nodes id node is below
    ∙ node_grows preds more (sort_of preds nodes) (sort_of (preds ++ more) nodes) id (λ c t lower told. sort_grows preds more nodes arena n c t (omega arith) (omega arith) told) node s below (sym (sort_at preds nodes id node is below) ∙ h)

pub legal_grows : (preds more : List Declared) (nodes : List Node) (variables : List Sort) (sort : Sort) (id : ℕ) → IsArena nodes → id < length nodes → IsLegal preds nodes variables sort id → IsLegal (preds ++ more) nodes variables sort id
legal_grows preds more nodes variables sort id arena within h = record {
  sorted = sort_grows preds more nodes arena (id + 1) id sort (omega arith) within h.sorted;
  scoped = h.scoped;
  numbered = h.numbered;
  linear = h.linear;
  short = h.short;
}
