-- What is told of the terms of an arena within names: by their nodes and parts.
use Rattle.std.proofs.Common.{◌≡◌, ℕ, ◌+◌, List, [], ◌∷◌, ◌++◌, length, Bool, true, false, ◌&&◌, refl, ap, ◌∙◌, ◌==◌}
use Rattle.std.specs.Prelude.{Option, Some, None, slice_get, ℤ, pos, if◌then◌else◌}
use Rattle.std.specs.List.{list_all}
use Rattle.term_tree.specs.declared.sort.Sort.{Sort}
use Rattle.term_tree.specs.declared.sort.Sort.TheVariants.{Int as IntSort, Bool as BoolSort}
use Rattle.term_tree.specs.declared.script.Pred.{Pred as Declared}
use Rattle.term_tree.specs.declared.node.TermId.{TermId}
use Rattle.term_tree.specs.declared.node.Node.{Node}
use Rattle.term_tree.specs.declared.node.Node.TheVariants.{Num, True, False, Var, LetVar, Pred, Op, Divisible, Let, Forall, Exists}
use Rattle.term_tree.specs.Arena.{Arena, IsArena}
use Rattle.term_tree.specs.Legal.{NamesInScope as Names, with_bound, with_variables, has_some, node_is_scoped, is_scoped, carried, numbers_through, node_numbers, next_variable}
use Rattle.term_tree.specs.Sorts.{has_sort}
use Rattle.term_check.specs.declared.part.Part.{Part}
use Rattle.term_check.specs.declared.scope.Named.{Named}
use Rattle.term_check.specs.Term.{Term, Terms, none, more, with_last, IsTermAt, AreTermsAt}
use Rattle.term_check.proofs.KnownLemmas.{Known, AllKnown, known_more}
use Rattle.term_check.proofs.NameLemmas.{Fit}
use Rattle.term_check.proofs.NodeLemmas.{scoped_at, numbered_at}
use Rattle.term_check.proofs.OutcomeLemmas.{both_are, same_again}

-- the term is known as this part, its variables are numbered from the first to the next, and it stays within the names
pub record Told (preds : List Declared) (nodes : List Node) (quantifies : Bool) (names : List Named) (lets : List TermId) (first : ℕ) (part : Part) (next id : ℕ) : Type 0 where
  pub known : Known preds nodes quantifies part.sort part.constant id
  pub numbered : next_variable nodes id first ≡ Some next
  pub scoped : (scope : Names) → Fit names lets scope → is_scoped nodes id scope ≡ true

-- so are these, one after another
pub record ToldAll (preds : List Declared) (nodes : List Node) (quantifies : Bool) (names : List Named) (lets : List TermId) (first : ℕ) (parts : List Part) (next : ℕ) (ids : List TermId) : Type 0 where
  pub known : AllKnown preds nodes quantifies parts ids
  pub numbered : numbers_through (next_variable nodes) ids first ≡ Some next
  pub scoped : (scope : Names) → Fit names lets scope → list_all (λ (id : TermId). is_scoped nodes id.0 scope) ids ≡ true

-- the last of some terms, and those before it
pub split_last : (arena : Arena) (lets : List TermId) (ts : Terms) (t : Term) (ids : List TermId) → AreTermsAt arena lets (with_last ts t) ids
    → (before : List TermId) × (id : TermId) × (ids ≡ before ++ id ∷ []) × AreTermsAt arena lets ts before × IsTermAt arena lets t id.0
split_last arena lets none t [] h = absurd h
split_last arena lets none t (id ∷ []) h = ([], id, refl, tt, h.0)
split_last arena lets none t (id ∷ i ∷ ids) h = absurd h.1
split_last arena lets (more u us) t [] h = absurd h
split_last arena lets (more u us) t (id ∷ ids) h =
    let s = split_last arena lets us t ids h.1 in (id ∷ s.0, s.1, ap (λ (is : List TermId). id ∷ is) s.2, (h.0, s.3), s.4)

carried_on : (f : ℕ → Option ℕ) (o : Option ℕ) (m : ℕ) → carried f o ≡ Some m → (k : ℕ) × (o ≡ Some k) × (f k ≡ Some m)
carried_on f None m h = absurd (cc)
carried_on f (Some k) m h = (k, refl, h)

numbers_more : (part : ℕ → ℕ → Option ℕ) (ids : List TermId) (id : TermId) (first mid next : ℕ) → numbers_through part ids first ≡ Some mid → part id.0 mid ≡ Some next
    → numbers_through part (ids ++ id ∷ []) first ≡ Some next
numbers_more part [] id first mid next h k = start first mid h k
  where
    start : (first mid : ℕ) → Some first ≡ Some mid → part id.0 mid ≡ Some next → carried (λ n. Some n) (part id.0 first) ≡ Some next
    start first mid h k = let same : first ≡ mid = cc in ap (λ (n : ℕ). carried (λ j. Some j) (part id.0 n)) same ∙ ap (λ (o : Option ℕ). carried (λ j. Some j) o) k
numbers_more part (i ∷ ids) id first mid next h k =
    let c = carried_on (λ n. numbers_through part ids n) (part i.0 first) mid h in
    ap (λ (o : Option ℕ). carried (λ n. numbers_through part (ids ++ id ∷ []) n) o) c.1 ∙ numbers_more part ids id c.0 mid next c.2 k

all_more : (check : ℕ → Names → Bool) (scope : Names) (ids : List TermId) (id : TermId) → list_all (λ (i : TermId). check i.0 scope) ids ≡ true → check id.0 scope ≡ true
    → list_all (λ (i : TermId). check i.0 scope) (ids ++ id ∷ []) ≡ true
all_more check scope [] id h k = both_are (check id.0 scope) true k refl
all_more check scope (i ∷ ids) id h k = by (check i.0 scope) (list_all (λ (j : TermId). check j.0 scope) ids) h (λ all. all_more check scope ids id all k)
  where
    by : (a b : Bool) → (a && b) ≡ true → (b ≡ true → list_all (λ (j : TermId). check j.0 scope) (ids ++ id ∷ []) ≡ true) → (a && list_all (λ (j : TermId). check j.0 scope) (ids ++ id ∷ [])) ≡ true
    by true b h f = f h
    by false b h f = absurd (cc)

its_sort : (sort : Sort) → has_sort sort (Some sort) ≡ true
its_sort IntSort = refl
its_sort BoolSort = refl

module _ (preds : List Declared) (nodes : List Node) (quantifies : Bool) (names : List Named) (lets : List TermId) where
  pub told_nothing : (first : ℕ) → ToldAll preds nodes quantifies names lets first [] first []
  told_nothing first = record { known = tt; numbered = refl; scoped = λ scope fit. refl }

  pub told_more : (first : ℕ) (parts : List Part) (mid : ℕ) (ids : List TermId) (part : Part) (next : ℕ) (id : TermId) → ToldAll preds nodes quantifies names lets first parts mid ids
      → Told preds nodes quantifies names lets mid part next id.0 → ToldAll preds nodes quantifies names lets first (parts ++ part ∷ []) next (ids ++ id ∷ [])
  told_more first parts mid ids part next id all told = record {
    known = known_more preds nodes quantifies parts ids part id all.known told.known;
    numbered = numbers_more (next_variable nodes) ids id first mid next all.numbered told.numbered;
    scoped = λ scope fit. all_more (is_scoped nodes) scope ids id (all.scoped scope fit) (told.scoped scope fit);
  }

  module _ (arena : IsArena nodes) (id : ℕ) (first : ℕ) (part : Part) (next : ℕ) (known : Known preds nodes quantifies part.sort part.constant id) where
    told_by : (node : Node) → slice_get nodes id ≡ Some node → node_numbers (next_variable nodes) node first ≡ Some next
        → ((scope : Names) → Fit names lets scope → node_is_scoped (is_scoped nodes) node scope ≡ true) → Told preds nodes quantifies names lets first part next id
    told_by node is numbered scoped = record {
      known = known;
      numbered = numbered_at nodes arena id node is first ∙ numbered;
      scoped = λ scope fit. scoped_at nodes arena id node is scope ∙ scoped scope fit;
    }

    pub told_numeral : (k : ℤ) → slice_get nodes id ≡ Some (Num k) → first ≡ next → Told preds nodes quantifies names lets first part next id
    told_numeral k is same = told_by (Num k) is (ap (λ (n : ℕ). Some n) same) (λ scope fit. refl)

    pub told_true : slice_get nodes id ≡ Some True → first ≡ next → Told preds nodes quantifies names lets first part next id
    told_true is same = told_by True is (ap (λ (n : ℕ). Some n) same) (λ scope fit. refl)

    pub told_false : slice_get nodes id ≡ Some False → first ≡ next → Told preds nodes quantifies names lets first part next id
    told_false is same = told_by False is (ap (λ (n : ℕ). Some n) same) (λ scope fit. refl)

    pub told_variable : (number : ℕ) (sort : Sort) → slice_get nodes id ≡ Some (Var number sort) → ((scope : Names) → Fit names lets scope → scope.variables number ≡ Some sort) → first ≡ next
        → Told preds nodes quantifies names lets first part next id
    told_variable number sort is bound same =
        told_by (Var number sort) is (ap (λ (n : ℕ). Some n) same) (λ scope fit. ap (has_sort sort) (bound scope fit) ∙ its_sort sort)

    pub told_name : (number : ℕ) (bound : TermId) → slice_get nodes id ≡ Some (LetVar bound) → slice_get lets number ≡ Some bound → first ≡ next
        → Told preds nodes quantifies names lets first part next id
    told_name number bound is at same = told_by (LetVar bound) is (ap (λ (n : ℕ). Some n) same) (λ scope fit. fit.bound number bound at)

    pub told_predicate : (number : ℕ) (parts : List Part) (ids : List TermId) → slice_get nodes id ≡ Some (Pred number ids) → ToldAll preds nodes quantifies names lets first parts next ids
        → Told preds nodes quantifies names lets first part next id
    told_predicate number parts ids is all = told_by (Pred number ids) is all.numbered all.scoped

    pub told_operation : (op : _) (parts : List Part) (ids : List TermId) → slice_get nodes id ≡ Some (Op op ids) → ToldAll preds nodes quantifies names lets first parts next ids
        → Told preds nodes quantifies names lets first part next id
    told_operation op parts ids is all = told_by (Op op ids) is all.numbered all.scoped

    pub told_divisible : (by : ℕ) (arg : TermId) (p : Part) → slice_get nodes id ≡ Some (Divisible (pos by) arg) → Told preds nodes quantifies names lets first p next arg.0
        → Told preds nodes quantifies names lets first part next id
    told_divisible by arg p is told = told_by (Divisible (pos by) arg) is told.numbered told.scoped

    -- the body of a let stands within its names
    pub told_let : (inner : List Named) (parts : List Part) (ids : List TermId) (mid : ℕ) (p : Part) (body : TermId) → slice_get nodes id ≡ Some (Let ids body) → has_some ids ≡ true
        → ((scope : Names) → Fit names lets scope → Fit inner (lets ++ ids) (with_bound ids scope))
        → ToldAll preds nodes quantifies names lets first parts mid ids → Told preds nodes quantifies inner (lets ++ ids) mid p next body.0
        → Told preds nodes quantifies names lets first part next id
    told_let inner parts ids mid p body is one fits all told =
        told_by (Let ids body) is (numbers_more (next_variable nodes) ids body first mid next all.numbered told.numbered)
        (λ scope fit. both_are (has_some ids) _ one (both_are (list_all (λ (i : TermId). is_scoped nodes i.0 scope) ids) _ (all.scoped scope fit) (told.scoped (with_bound ids scope) (fits scope fit))))

    told_quantifier : (inner : List Named) (sorts : List Sort) (p : Part) (body : TermId) → Told preds nodes quantifies inner lets (first + length sorts) p next body.0
        → (if first == first then next_variable nodes body.0 (first + length sorts) else None) ≡ Some next
    told_quantifier inner sorts p body told =
        ap (λ b. if b then next_variable nodes body.0 (first + length sorts) else None) (same_again first) ∙ told.numbered

    within_quantifier : (inner : List Named) (sorts : List Sort) (p : Part) (body : TermId) → has_some sorts ≡ true
        → ((scope : Names) → Fit names lets scope → Fit inner lets (with_variables first sorts scope)) → Told preds nodes quantifies inner lets (first + length sorts) p next body.0
        → (scope : Names) → Fit names lets scope → (has_some sorts && is_scoped nodes body.0 (with_variables first sorts scope)) ≡ true
    within_quantifier inner sorts p body one fits told scope fit =
        both_are (has_some sorts) _ one (told.scoped (with_variables first sorts scope) (fits scope fit))

    -- the body of a quantifier stands within its variables
    pub told_forall : (inner : List Named) (sorts : List Sort) (p : Part) (body : TermId) → slice_get nodes id ≡ Some (Forall first sorts body) → has_some sorts ≡ true
        → ((scope : Names) → Fit names lets scope → Fit inner lets (with_variables first sorts scope)) → Told preds nodes quantifies inner lets (first + length sorts) p next body.0
        → Told preds nodes quantifies names lets first part next id
    told_forall inner sorts p body is one fits told =
        told_by (Forall first sorts body) is (told_quantifier inner sorts p body told) (within_quantifier inner sorts p body one fits told)

    pub told_exists : (inner : List Named) (sorts : List Sort) (p : Part) (body : TermId) → slice_get nodes id ≡ Some (Exists first sorts body) → has_some sorts ≡ true
        → ((scope : Names) → Fit names lets scope → Fit inner lets (with_variables first sorts scope)) → Told preds nodes quantifies inner lets (first + length sorts) p next body.0
        → Told preds nodes quantifies names lets first part next id
    told_exists inner sorts p body is one fits told =
        told_by (Exists first sorts body) is (told_quantifier inner sorts p body told) (within_quantifier inner sorts p body one fits told)
