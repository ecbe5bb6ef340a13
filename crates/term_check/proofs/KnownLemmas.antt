-- What is known of the terms of an arena, whatever names stand around them, by their nodes and parts.
use Rattle.std.proofs.Common.{◌≡◌, ℕ, List, [], ◌∷◌, ◌++◌, length, Bool, true, false, ◌||◌, refl, ap, sym, ◌∙◌, subst, arith, map, ◌==◌, Ok}
use Rattle.std.proofs.lemmas.Bool.Decides.{nat_tests}
use Rattle.std.specs.Prelude.{Option, Some, None, slice_get, ℤ, pos, int_lt, zero, suc, if◌then◌else◌}
use Rattle.std.specs.List.{list_all}
use Rattle.term_tree.specs.declared.sort.Sort.{Sort}
use Rattle.term_tree.specs.declared.sort.Sort.TheVariants.{Int as IntSort, Bool as BoolSort}
use Rattle.term_tree.specs.declared.script.Pred.{Pred as Declared}
use Rattle.term_tree.specs.declared.node.TermId.{TermId}
use Rattle.term_tree.specs.declared.node.OpKind.{OpKind}
use Rattle.term_tree.specs.declared.node.Node.{Node}
use Rattle.term_tree.specs.declared.node.Node.TheVariants.{Num, True, False, Var, LetVar, Pred, Op, Divisible, Let, Forall, Exists}
use Rattle.term_tree.specs.Arena.{IsArena}
use Rattle.term_tree.specs.Constants.{constant_of, node_constant, is_short, is_short_constant, is_linear, has_short_constants}
use Rattle.term_tree.specs.Sorts.{node_sort, sort_of, predicate_sort, operation_sort, have_sorts, sort_if, has_sort, is_sorted}
use Rattle.term_tree.specs.Subterms.{is_among, is_part, EverySubterm, is_plain, IsPlain}
use Rattle.term_tree.proofs.Public.{arena_below, constant_at, sort_at}
use Rattle.term_check.specs.declared.part.Part.{Part}
use Rattle.term_check.specs.Operators.{wanted}
use Rattle.term_check.specs.Rules.{number_fault, sort_fault, linear_fault, result_sort, operator_constant}
use Rattle.term_check.proofs.ConstantLemmas.{constants, operation_constant, operation_known, operation_linear, operation_short}
use Rattle.term_check.proofs.NodeLemmas.{every_by_parts}
use Rattle.term_check.proofs.SortLemmas.{given, operation_sorted}

-- the term has the sort and, where it is one, the constant; it is linear, and its constants are short. Without predicates and
-- quantifiers it is plain
pub record Known (preds : List Declared) (nodes : List Node) (quantifies : Bool) (sort : Sort) (constant : Option ℤ) (id : ℕ) : Type 0 where
  pub sorted : sort_of preds nodes id ≡ Some sort
  pub value : constant_of nodes id ≡ constant
  pub width : is_short_constant constant ≡ true
  pub linear : EverySubterm (is_linear (constant_of nodes)) nodes id
  pub short : EverySubterm (has_short_constants (constant_of nodes)) nodes id
  pub plain : preds ≡ [] → quantifies ≡ false → IsPlain nodes id

-- the terms are known by these parts, one by one
abbrev pub AllKnown : List Declared → List Node → Bool → List Part → List TermId → Type 0
AllKnown preds nodes quantifies [] [] = Unit {0}
AllKnown preds nodes quantifies (p ∷ ps) (id ∷ ids) = Known preds nodes quantifies p.sort p.constant id.0 × AllKnown preds nodes quantifies ps ids
AllKnown preds nodes quantifies [] (id ∷ ids) = ⊥
AllKnown preds nodes quantifies (p ∷ ps) [] = ⊥

-- with some sort and constant
abbrev IsKnown : List Declared → List Node → Bool → ℕ → Type 0
IsKnown preds nodes quantifies id = (sort : Sort) × (constant : Option ℤ) × Known preds nodes quantifies sort constant id

same_id : (i j : ℕ) → (i == j) ≡ true → i ≡ j
same_id i j h = grind (arith, nat_tests)

or_cases : {A : Type 0} (a b : Bool) → (a || b) ≡ true → (a ≡ true → A) → (b ≡ true → A) → A
or_cases true b h f g = f refl
or_cases false b h f g = g h

all_sorted : (ps : List Part) → list_all is_sorted (given ps) ≡ true
all_sorted [] = refl
all_sorted (p ∷ ps) = all_sorted ps

module _ (preds : List Declared) (nodes : List Node) (quantifies : Bool) where
  pub known_sorts : (ps : List Part) (ids : List TermId) → AllKnown preds nodes quantifies ps ids → map (λ (id : TermId). sort_of preds nodes id.0) ids ≡ given ps
  known_sorts [] [] all = refl
  known_sorts [] (id ∷ ids) all = absurd all
  known_sorts (p ∷ ps) [] all = absurd all
  known_sorts (p ∷ ps) (id ∷ ids) all =
      ap (λ (s : Option Sort). s ∷ map (λ (i : TermId). sort_of preds nodes i.0) ids) all.0.sorted ∙ ap (λ (ss : List (Option Sort)). Some p.sort ∷ ss) (known_sorts ps ids all.1)

  pub known_constants : (ps : List Part) (ids : List TermId) → AllKnown preds nodes quantifies ps ids → map (λ (id : TermId). constant_of nodes id.0) ids ≡ constants ps
  known_constants [] [] all = refl
  known_constants [] (id ∷ ids) all = absurd all
  known_constants (p ∷ ps) [] all = absurd all
  known_constants (p ∷ ps) (id ∷ ids) all =
      ap (λ (c : Option ℤ). c ∷ map (λ (i : TermId). constant_of nodes i.0) ids) all.0.value ∙ ap (λ (cs : List (Option ℤ)). p.constant ∷ cs) (known_constants ps ids all.1)

  pub known_length : (ps : List Part) (ids : List TermId) → AllKnown preds nodes quantifies ps ids → length ids ≡ length ps
  known_length [] [] all = refl
  known_length [] (id ∷ ids) all = absurd all
  known_length (p ∷ ps) [] all = absurd all
  known_length (p ∷ ps) (id ∷ ids) all = omega (arith, known_length ps ids all.1)

  pub known_get : (ps : List Part) (ids : List TermId) (i : ℕ) (id : TermId) (p : Part) → AllKnown preds nodes quantifies ps ids → slice_get ids i ≡ Some id → slice_get ps i ≡ Some p
      → Known preds nodes quantifies p.sort p.constant id.0
  known_get [] [] i id p all h k = absurd (cc)
  known_get [] (x ∷ ids) i id p all h k = absurd all
  known_get (q ∷ ps) [] i id p all h k = absurd all
  known_get (q ∷ ps) (x ∷ ids) zero id p all h k = the_first q p x id all.0 k h
    where
      the_first : (q p : Part) (x id : TermId) → Known preds nodes quantifies q.sort q.constant x.0 → (Some q) ≡ Some p → (Some x) ≡ Some id → Known preds nodes quantifies p.sort p.constant id.0
      the_first q p x id is e f =
          let same : q ≡ p = cc in
          let alike : x ≡ id = cc in
          subst (λ (y : TermId). Known preds nodes quantifies p.sort p.constant y.0) alike (subst (λ (r : Part). Known preds nodes quantifies r.sort r.constant x.0) same is)
  known_get (q ∷ ps) (x ∷ ids) (suc i) id p all h k = known_get ps ids i id p all.1 h k

  pub known_more : (ps : List Part) (ids : List TermId) (p : Part) (id : TermId) → AllKnown preds nodes quantifies ps ids → Known preds nodes quantifies p.sort p.constant id.0
      → AllKnown preds nodes quantifies (ps ++ p ∷ []) (ids ++ id ∷ [])
  known_more [] [] p id all is = (is, tt)
  known_more [] (x ∷ ids) p id all is = absurd all
  known_more (q ∷ ps) [] p id all is = absurd all
  known_more (q ∷ ps) (x ∷ ids) p id all is = (all.0, known_more ps ids p id all.1 is)

  known_among : (ps : List Part) (ids : List TermId) (part : ℕ) → AllKnown preds nodes quantifies ps ids → is_among part ids ≡ true → IsKnown preds nodes quantifies part
  known_among [] [] part all h = absurd (cc)
  known_among [] (x ∷ ids) part all h = absurd all
  known_among (q ∷ ps) [] part all h = absurd all
  known_among (q ∷ ps) (x ∷ ids) part all h =
      or_cases (x.0 == part) (is_among part ids) h
      (λ e. subst (λ (k : ℕ). IsKnown preds nodes quantifies k) (same_id x.0 part e) (q.sort, q.constant, all.0))
      (λ e. known_among ps ids part all.1 e)

  known_itself : (sort : Sort) (constant : Option ℤ) (id part : ℕ) → Known preds nodes quantifies sort constant id → (id == part) ≡ true → IsKnown preds nodes quantifies part
  known_itself sort constant id part is h = subst (λ (k : ℕ). IsKnown preds nodes quantifies k) (same_id id part h) (sort, constant, is)

  module _ (arena : IsArena nodes) (id : ℕ) where
    known_by : (node : Node) (sort : Sort) (constant : Option ℤ) → slice_get nodes id ≡ Some node → node_sort preds (sort_of preds nodes) node ≡ Some sort
        → node_constant (constant_of nodes) node ≡ constant → is_short_constant constant ≡ true → is_linear (constant_of nodes) node ≡ true → has_short_constants (constant_of nodes) node ≡ true
        → (preds ≡ [] → quantifies ≡ false → is_plain node ≡ true) → ((part : ℕ) → is_part part node ≡ true → IsKnown preds nodes quantifies part)
        → Known preds nodes quantifies sort constant id
    known_by node sort constant is s c width linear short plain parts =
        let below = arena_below nodes id node arena is in
        record {
          sorted = sort_at preds nodes id node is below ∙ s;
          value = constant_at nodes id node is below ∙ c;
          width = width;
          linear = every_by_parts (is_linear (constant_of nodes)) nodes id node is linear (λ part has. (parts part has).2.linear);
          short = every_by_parts (has_short_constants (constant_of nodes)) nodes id node is short (λ part has. (parts part has).2.short);
          plain = λ none without. every_by_parts is_plain nodes id node is (plain none without) (λ part has. (parts part has).2.plain none without);
        }

    pub known_numeral : (k : ℤ) → slice_get nodes id ≡ Some (Num k) → is_short k ≡ true → Known preds nodes quantifies IntSort (Some k) id
    known_numeral k is short = known_by (Num k) IntSort (Some k) is refl refl short refl short (λ none without. refl) (λ part has. absurd (cc))

    pub known_true : slice_get nodes id ≡ Some True → Known preds nodes quantifies BoolSort None id
    known_true is = known_by True BoolSort None is refl refl refl refl refl (λ none without. refl) (λ part has. absurd (cc))

    pub known_false : slice_get nodes id ≡ Some False → Known preds nodes quantifies BoolSort None id
    known_false is = known_by False BoolSort None is refl refl refl refl refl (λ none without. refl) (λ part has. absurd (cc))

    pub known_variable : (number : ℕ) (sort : Sort) → slice_get nodes id ≡ Some (Var number sort) → Known preds nodes quantifies sort None id
    known_variable number sort is = known_by (Var number sort) sort None is refl refl refl refl refl (λ none without. refl) (λ part has. absurd (cc))

    pub known_name : (bound : TermId) (sort : Sort) (constant : Option ℤ) → slice_get nodes id ≡ Some (LetVar bound) → Known preds nodes quantifies sort constant bound.0
        → Known preds nodes quantifies sort constant id
    known_name bound sort constant is known =
        known_by (LetVar bound) sort constant is known.sorted known.value known.width refl (ap is_short_constant known.value ∙ known.width) (λ none without. refl)
        (λ part has. known_itself sort constant bound.0 part known has)

    no_first : (number : ℕ) (p : Declared) → preds ≡ [] → slice_get preds number ≡ Some p → ⊥
    no_first number p none h = nothing (ap (λ (ps : List Declared). slice_get ps number) (sym none) ∙ h)
      where
        nothing : None ≡ Some p → ⊥
        nothing e = cc

    pub known_predicate : (number : ℕ) (p : Declared) (ps : List Part) (ids : List TermId) → slice_get nodes id ≡ Some (Pred number ids) → slice_get preds number ≡ Some p
        → have_sorts p.args (given ps) ≡ true → AllKnown preds nodes quantifies ps ids → Known preds nodes quantifies BoolSort None id
    known_predicate number p ps ids is declared right all =
        known_by (Pred number ids) BoolSort None is
        (ap (λ (ss : List (Option Sort)). predicate_sort (slice_get preds number) ss) (known_sorts ps ids all) ∙ ap (λ (o : Option Declared). predicate_sort o (given ps)) declared ∙ ap (λ b. sort_if b BoolSort) right)
        refl refl refl refl (λ none without. absurd (no_first number p none declared)) (λ part has. known_among ps ids part all has)

    pub known_operation : (op : OpKind) (start : ℕ) (ps : List Part) (ids : List TermId) (c : Option ℤ) → slice_get nodes id ≡ Some (Op op ids) → number_fault op start (length ps) ≡ None
        → sort_fault (wanted op) ps ≡ None → linear_fault op start ps ≡ None → operator_constant op start ps ≡ Ok c → AllKnown preds nodes quantifies ps ids
        → Known preds nodes quantifies (result_sort op ps) c id
    known_operation op start ps ids c is n s l h all =
        let are = known_constants ps ids all in
        let known = operation_known op start ps c n l h in
        known_by (Op op ids) (result_sort op ps) c is
        (ap (operation_sort op) (known_sorts ps ids all) ∙ operation_sorted op start ps n s)
        (ap (operation_constant op) are ∙ known.0) known.1
        (operation_linear (constant_of nodes) ids ps are op start n l)
        (operation_short (constant_of nodes) ids ps are op start c h known.0 known.1)
        (λ none without. refl) (λ part has. known_among ps ids part all has)

    pub known_divisible : (by : ℕ) (arg : TermId) (constant : Option ℤ) → slice_get nodes id ≡ Some (Divisible (pos by) arg) → int_lt (pos 0) (pos by) ≡ true
        → Known preds nodes quantifies IntSort constant arg.0 → Known preds nodes quantifies BoolSort None id
    known_divisible by arg constant is positive known =
        known_by (Divisible (pos by) arg) BoolSort None is
        (ap (λ (s : Option Sort). sort_if (has_sort IntSort s) BoolSort) known.sorted) refl refl positive refl (λ none without. refl)
        (λ part has. known_itself IntSort constant arg.0 part known has)

    pub known_let : (ps : List Part) (ids : List TermId) (body : TermId) (sort : Sort) (constant : Option ℤ) → slice_get nodes id ≡ Some (Let ids body) → AllKnown preds nodes quantifies ps ids
        → Known preds nodes quantifies sort constant body.0 → Known preds nodes quantifies sort constant id
    known_let ps ids body sort constant is all known =
        known_by (Let ids body) sort constant is
        (ap (λ b. if b then sort_of preds nodes body.0 else None) (ap (λ (ss : List (Option Sort)). list_all is_sorted ss) (known_sorts ps ids all) ∙ all_sorted ps) ∙ known.sorted)
        known.value known.width refl (ap is_short_constant known.value ∙ known.width) (λ none without. refl)
        (λ part has. or_cases (is_among part ids) (body.0 == part) has (λ e. known_among ps ids part all e) (λ e. known_itself sort constant body.0 part known e))

    no_quantifier : {A : Type 0} → quantifies ≡ true → quantifies ≡ false → A
    no_quantifier h k = absurd (cc)

    pub known_forall : (first : ℕ) (sorts : List Sort) (body : TermId) (constant : Option ℤ) → slice_get nodes id ≡ Some (Forall first sorts body) → quantifies ≡ true
        → Known preds nodes quantifies BoolSort constant body.0 → Known preds nodes quantifies BoolSort None id
    known_forall first sorts body constant is may known =
        known_by (Forall first sorts body) BoolSort None is (ap (λ (s : Option Sort). sort_if (has_sort BoolSort s) BoolSort) known.sorted) refl refl refl refl
        (λ none without. no_quantifier may without) (λ part has. known_itself BoolSort constant body.0 part known has)

    pub known_exists : (first : ℕ) (sorts : List Sort) (body : TermId) (constant : Option ℤ) → slice_get nodes id ≡ Some (Exists first sorts body) → quantifies ≡ true
        → Known preds nodes quantifies BoolSort constant body.0 → Known preds nodes quantifies BoolSort None id
    known_exists first sorts body constant is may known =
        known_by (Exists first sorts body) BoolSort None is (ap (λ (s : Option Sort). sort_if (has_sort BoolSort s) BoolSort) known.sorted) refl refl refl refl
        (λ none without. no_quantifier may without) (λ part has. known_itself BoolSort constant body.0 part known has)
