-- What is read of a Bool term: its guards and the arguments of its applications have neither predicates nor quantifiers, and the
-- guards are Bool terms.
use Rattle.std.proofs.Common.{◌≡◌, ℕ, zero, suc, ◌<◌, List, [], ◌∷◌, ◌++◌, Bool, true, false, ◌&&◌, ◌||◌, map, length, refl, sym, ◌∙◌, subst, arith}
use Rattle.std.specs.Prelude.{slice_get, Option, Some, None, Ok, Err, nat_le, nat_lt, if◌then◌else◌}
use Rattle.std.specs.List.{AllByRecursion, list_all}
use Rattle.term_tree.specs.declared.sort.Sort.{Sort}
use Rattle.term_tree.specs.declared.sort.Sort.TheVariants.{Bool as BoolSort}
use Rattle.term_tree.specs.declared.script.Pred.{Pred as Declared}
use Rattle.term_tree.specs.declared.node.TermId.{TermId}
use Rattle.term_tree.specs.declared.node.OpKind.TheVariants.{Not, And, Or, Implies}
use Rattle.term_tree.specs.declared.node.Node.{Node}
use Rattle.term_tree.specs.declared.node.Node.TheVariants.{Pred, Op, Let, Forall, Exists}
use Rattle.term_tree.specs.declared.scalar.Value.TheVariants.{Bool as Truth}
use Rattle.term_tree.specs.Arena.{IsArena, is_below, has_parts_below}
use Rattle.term_tree.specs.Sorts.{all_of, has_sort, is_sorted, node_sort, sort_if, sort_of}
use Rattle.term_tree.proofs.Public.{arena_below, below_from, both_true, sort_at, there_is}
use Rattle.horn_shape.specs.declared.clause.AtomUse.{AtomUse}
use Rattle.horn_shape.specs.declared.clause.Part.{Part}
use Rattle.horn_shape.specs.Plain.{is_plain_term}
use Rattle.horn_shape.specs.Shape.{Content, arguments, at, atom_of, beside, body_form, body_reading, both, clause_form, clause_reading, denial, disjunct_form, disjunct_reading, disjuncts, each, either_head, guard_of, head_of, implication, is_application, nothing}
use Rattle.horn_shape.specs.machinery.Gathering.{place_of}
use Rattle.horn_shape.proofs.BodyLemmas.{body_there, both_ok, bound_ok, chosen_ok, misread, never_read, same_read}
use Rattle.horn_shape.proofs.DisjunctLemmas.{read_chosen}
use Rattle.horn_shape.proofs.ShapeLemmas.{body_mixed, body_plain, clause_mixed, clause_plain, disjunct_mixed, disjunct_plain}
use Rattle.linear_terms.proofs.SortLemmas.{has_sort_is, let_sort, sort_if_is}
use Rattle.clause_normal.proofs.ReadLemmas.{HeadHas, Holds, all_append, clause_within, quantified_is}

head_beside : (Q : AtomUse → Type 0) (a b : Option AtomUse) → HeadHas Q a → HeadHas Q b → HeadHas Q (either_head a b)
head_beside Q a None x y = x
head_beside Q a (Some h) x y = y

-- these are Bool terms
abbrev AreTruths : (ℕ → Option Sort) → List TermId → Type 0
AreTruths S ids = AllByRecursion (λ id. S id.0 ≡ Some BoolSort) ids

truths_among : (S : ℕ → Option Sort) (ids : List TermId) → list_all (has_sort BoolSort) (map (λ id. S id.0) ids) ≡ true → AreTruths S ids
truths_among S [] all = tt
truths_among S (id ∷ ids) all =
    let both = both_true (has_sort BoolSort (S id.0)) (list_all (has_sort BoolSort) (map (λ (k : TermId). S k.0) ids)) all in
    (has_sort_is BoolSort (S id.0) both.0, truths_among S ids both.1)

all_truths : (S : ℕ → Option Sort) (least : ℕ) (ids : List TermId) → sort_if (all_of BoolSort least (map (λ id. S id.0) ids)) BoolSort ≡ Some BoolSort → AreTruths S ids
all_truths S least ids h =
    let given : List (Option Sort) = map (λ (id : TermId). S id.0) ids in
    truths_among S ids (both_true (nat_le least (length given)) (list_all (has_sort BoolSort) given) (sort_if_is (all_of BoolSort least given) BoolSort BoolSort h).0).1

denied_truth : (S : ℕ → Option Sort) (id : TermId) → sort_if (has_sort BoolSort (S id.0) && true) BoolSort ≡ Some BoolSort → S id.0 ≡ Some BoolSort
denied_truth S id h = has_sort_is BoolSort (S id.0) (both_true (has_sort BoolSort (S id.0)) true (sort_if_is (has_sort BoolSort (S id.0) && true) BoolSort BoolSort h).0).0

body_truth : (S : ℕ → Option Sort) (id : TermId) → sort_if (has_sort BoolSort (S id.0)) BoolSort ≡ Some BoolSort → S id.0 ≡ Some BoolSort
body_truth S id h = has_sort_is BoolSort (S id.0) (sort_if_is (has_sort BoolSort (S id.0)) BoolSort BoolSort h).0

module _ (preds : List Declared) (nodes : List Node) (arena : IsArena nodes) where
  abbrev S : ℕ → Option Sort
  S id = sort_of preds nodes id

  abbrev pub IsPlainTruth : ℕ → Type 0
  IsPlainTruth id = (is_plain_term nodes id ≡ true) × (sort_of preds nodes id ≡ Some BoolSort)

  abbrev pub HasPlainArguments : AtomUse → Type 0
  HasPlainArguments atom = AllByRecursion (λ part. is_plain_term nodes part.term.0 ≡ true) atom.args

  abbrev IsMadeOfPlain : Content → Type 0
  IsMadeOfPlain c = Holds IsPlainTruth HasPlainArguments c

  -- a node that has this sort, by its parts
  at_node : (id : ℕ) (node : Node) → slice_get nodes id ≡ Some node → sort_of preds nodes id ≡ Some BoolSort → node_sort preds (sort_of preds nodes) node ≡ Some BoolSort
  at_node id node is sorted = sym (sort_at preds nodes id node is (arena_below nodes id node arena is)) ∙ sorted

  plain_nothing : (c : Content) → nothing ≡ c → IsMadeOfPlain c
  plain_nothing c same = subst IsMadeOfPlain same (record { atoms = tt; guards = tt; head = tt })

  plain_guard : (negated : Bool) (id : TermId) (lets : List TermId) (c : Content) → is_plain_term nodes id.0 ≡ true → sort_of preds nodes id.0 ≡ Some BoolSort → guard_of negated (place_of id lets) ≡ c → IsMadeOfPlain c
  plain_guard negated id lets c plain sorted same = subst IsMadeOfPlain same (record { atoms = tt; guards = ((plain, sorted), tt); head = tt })

  plain_beside : (x y c : Content) → IsMadeOfPlain x → IsMadeOfPlain y → beside x y ≡ c → IsMadeOfPlain c
  plain_beside x y c a b same = subst IsMadeOfPlain same (record {
    atoms = all_append HasPlainArguments x.atoms y.atoms a.atoms b.atoms;
    guards = all_append (λ (part : Part). IsPlainTruth part.term.0) x.guards y.guards a.guards b.guards;
    head = head_beside HasPlainArguments x.head y.head a.head b.head;
  })

  plain_arguments : (lets args : List TermId) → list_all (λ a. is_plain_term nodes a.0) args ≡ true → AllByRecursion (λ part. is_plain_term nodes part.term.0 ≡ true) (arguments lets args)
  plain_arguments lets [] all = tt
  plain_arguments lets (a ∷ args) all =
      let both = both_true (is_plain_term nodes a.0) (list_all (λ (i : TermId). is_plain_term nodes i.0) args) all in
      (both.0, plain_arguments lets args both.1)

  plain_quantified : (sorts : List Sort) (x c : Content) → IsMadeOfPlain x → record { vars = sorts ++ x.vars; atoms = x.atoms; guards = x.guards; head = x.head } ≡ c → IsMadeOfPlain c
  plain_quantified sorts x c a same = subst IsMadeOfPlain same (record { atoms = a.atoms; guards = a.guards; head = a.head })

  -- bodies
  abbrev Bodies : ℕ → Type 0
  Bodies bound = (k : TermId) (lets : List TermId) (x : Content) → k.0 < bound → sort_of preds nodes k.0 ≡ Some BoolSort → body_reading nodes k.0 (place_of k lets) ≡ Ok x → IsMadeOfPlain x

  each_plain : (id : ℕ) (lets ids : List TermId) (c : Content) → Bodies id → list_all (is_below id) ids ≡ true → AreTruths S ids → each (body_reading nodes) lets ids ≡ Ok c → IsMadeOfPlain c
  each_plain id lets [] c ih below sorted h = plain_nothing c (same_read nothing c h)
  each_plain id lets (k ∷ ids) c ih below sorted h =
      let low = both_true (nat_lt k.0 id) (list_all (is_below id) ids) below in
      let parts = both_ok (at (body_reading nodes) lets k) (each (body_reading nodes) lets ids) c h in
      plain_beside parts.0 parts.1 c (ih k lets parts.0 (below_from k.0 id low.0) sorted.0 parts.2) (each_plain id lets ids parts.1 ih low.1 sorted.1 parts.3) parts.4

  body_node : (id : TermId) (lets : List TermId) (node : Node) (c : Content) → has_parts_below id.0 node ≡ true → Bodies id.0
      → node_sort preds S node ≡ Some BoolSort → body_form (is_plain_term nodes) (body_reading nodes) node (place_of id lets) ≡ Ok c → IsMadeOfPlain c
  body_node id lets (Pred pred args) c below ih sorted h =
      let fits = chosen_ok (list_all (λ (a : TermId). is_plain_term nodes a.0) args) (atom_of (record { pred = pred; args = arguments lets args })) id c h in
      subst IsMadeOfPlain fits.1 (record { atoms = (plain_arguments lets args fits.0, tt); guards = tt; head = tt })
  body_node id lets (Op And args) c below ih sorted h = each_plain id.0 lets args c ih below (all_truths S 1 args sorted) h
  body_node id lets (Let bound body) c below ih sorted h =
      let low = both_true (list_all (is_below id.0) bound) (nat_lt body.0 id.0) below in
      let fits = bound_ok (is_plain_term nodes) bound (at (body_reading nodes) (lets ++ id ∷ []) body) c h in
      ih body (lets ++ id ∷ []) c (below_from body.0 id.0 low.1) (let_sort (list_all is_sorted (map (λ (b : TermId). S b.0) bound)) (S body.0) BoolSort sorted) fits.1
  body_node id lets _ c below ih sorted h = never_read id c h

  body_by : (b : Bool) (id : TermId) (lets : List TermId) (node : Node) (c : Content) → slice_get nodes id.0 ≡ Some node → is_plain_term nodes id.0 ≡ b → Bodies id.0
      → sort_of preds nodes id.0 ≡ Some BoolSort → body_reading nodes id.0 (place_of id lets) ≡ Ok c → IsMadeOfPlain c
  body_by true id lets node c is plain ih sorted h =
      plain_guard false id lets c plain sorted (same_read (guard_of false (place_of id lets)) c (sym (body_plain nodes id.0 node (place_of id lets) is (arena_below nodes id.0 node arena is) plain) ∙ h))
  body_by false id lets node c is plain ih sorted h =
      let below = arena_below nodes id.0 node arena is in
      body_node id lets node c below ih (at_node id.0 node is sorted) (sym (body_mixed nodes id.0 node (place_of id lets) is below plain) ∙ h)

  bodies_below : (bound : ℕ) → Bodies bound
  bodies_below zero id lets c less sorted h = absurd (omega (arith, less))
  bodies_below (suc bound) id lets c less sorted h =
      let found = there_is nodes id.0 (body_there (λ pred values. Truth true) nodes arena id lets c h) in
      body_by (is_plain_term nodes id.0) id lets found.0 c found.1 refl (λ k ls x lt t e. bodies_below bound k ls x (omega (arith, lt, less)) t e) sorted h

  body_made : (id : TermId) (lets : List TermId) (c : Content) → sort_of preds nodes id.0 ≡ Some BoolSort → body_reading nodes id.0 (place_of id lets) ≡ Ok c → IsMadeOfPlain c
  body_made id lets c sorted h = bodies_below (suc id.0) id lets c (omega arith) sorted h

  -- disjuncts
  disjunct_node : (id : TermId) (lets : List TermId) (node : Node) (c : Content) → node_sort preds S node ≡ Some BoolSort → disjunct_form nodes node (place_of id lets) ≡ Ok c → IsMadeOfPlain c
  disjunct_node id lets (Pred pred args) c sorted h =
      let fits = chosen_ok (list_all (λ (a : TermId). is_plain_term nodes a.0) args) (head_of (record { pred = pred; args = arguments lets args })) id c h in
      subst IsMadeOfPlain fits.1 (record { atoms = tt; guards = tt; head = plain_arguments lets args fits.0 })
  disjunct_node id lets (Op Not (body ∷ [])) c sorted h = body_made body lets c (denied_truth S body sorted) h
  disjunct_node id lets _ c sorted h = never_read id c h

  disjunct_by : (b : Bool) (id : TermId) (lets : List TermId) (node : Node) (c : Content) → slice_get nodes id.0 ≡ Some node → is_plain_term nodes id.0 ≡ b → sort_of preds nodes id.0 ≡ Some BoolSort
      → disjunct_reading nodes (Some node) (place_of id lets) ≡ Ok c → IsMadeOfPlain c
  disjunct_by true id lets node c is plain sorted h =
      plain_guard true id lets c plain sorted (same_read (guard_of true (place_of id lets)) c (sym (disjunct_plain nodes id.0 node (place_of id lets) is (arena_below nodes id.0 node arena is) plain) ∙ h))
  disjunct_by false id lets node c is plain sorted h = disjunct_node id lets node c (at_node id.0 node is sorted) (sym (disjunct_mixed nodes id.0 node (place_of id lets) is (arena_below nodes id.0 node arena is) plain) ∙ h)

  disjuncts_found : (headed : Bool) (lets : List TermId) (id : TermId) (ids : List TermId) (c : Content) (f : Option Node) → slice_get nodes id.0 ≡ f → sort_of preds nodes id.0 ≡ Some BoolSort
      → ((b : Bool) (y : Content) → disjuncts nodes b lets ids ≡ Ok y → IsMadeOfPlain y)
      → (if headed && is_application f then Err id else both (disjunct_reading nodes f (place_of id lets)) (disjuncts nodes (headed || is_application f) lets ids)) ≡ Ok c → IsMadeOfPlain c
  disjuncts_found headed lets id ids c None is sorted rec h = never_read id c (read_chosen (headed && false) id (misread id) c h).1
  disjuncts_found headed lets id ids c (Some node) is sorted rec h =
      let chosen = read_chosen (headed && is_application (Some node)) id
      (both (disjunct_reading nodes (Some node) (place_of id lets)) (disjuncts nodes (headed || is_application (Some node)) lets ids)) c h in
      let parts = both_ok (disjunct_reading nodes (Some node) (place_of id lets)) (disjuncts nodes (headed || is_application (Some node)) lets ids) c chosen.1 in
      plain_beside parts.0 parts.1 c (disjunct_by (is_plain_term nodes id.0) id lets node parts.0 is refl sorted parts.2) (rec (headed || is_application (Some node)) parts.1 parts.3) parts.4

  disjuncts_made : (headed : Bool) (lets ids : List TermId) (c : Content) → AreTruths S ids → disjuncts nodes headed lets ids ≡ Ok c → IsMadeOfPlain c
  disjuncts_made headed lets [] c sorted h = plain_nothing c (same_read nothing c h)
  disjuncts_made headed lets (id ∷ ids) c sorted h = disjuncts_found headed lets id ids c (slice_get nodes id.0) refl sorted.0 (λ b y k. disjuncts_made b lets ids y sorted.1 k) h

  -- clauses
  abbrev Clauses : ℕ → Type 0
  Clauses bound = (k : TermId) (lets : List TermId) (x : Content) → k.0 < bound → sort_of preds nodes k.0 ≡ Some BoolSort → clause_reading nodes k.0 (place_of k lets) ≡ Ok x → IsMadeOfPlain x

  implication_made : (id : ℕ) (whole : TermId) (lets ids : List TermId) (c : Content) → Clauses id → list_all (is_below id) ids ≡ true → AreTruths S ids
      → implication (body_reading nodes) (clause_reading nodes) (place_of whole lets) ids ≡ Ok c → IsMadeOfPlain c
  implication_made id whole lets [] c ih below sorted h = never_read whole c h
  implication_made id whole lets (last ∷ []) c ih below sorted h = ih last lets c (below_from last.0 id (both_true (nat_lt last.0 id) true below).0) sorted.0 h
  implication_made id whole lets (a ∷ b ∷ ids) c ih below sorted h =
      let low = both_true (nat_lt a.0 id) (list_all (is_below id) (b ∷ ids)) below in
      let parts = both_ok (at (body_reading nodes) lets a) (implication (body_reading nodes) (clause_reading nodes) (place_of whole lets) (b ∷ ids)) c h in
      plain_beside parts.0 parts.1 c (body_made a lets parts.0 sorted.0 parts.2) (implication_made id whole lets (b ∷ ids) parts.1 ih low.1 sorted.1 parts.3) parts.4

  denial_made : (id : TermId) (lets : List TermId) (f : Option Node) (c : Content) → slice_get nodes id.0 ≡ f → sort_of preds nodes id.0 ≡ Some BoolSort → denial nodes f (place_of id lets) ≡ Ok c → IsMadeOfPlain c
  denial_made id lets (Some (Exists first sorts body)) c is sorted h =
      let inner = quantified_is sorts (at (body_reading nodes) lets body) c h in
      plain_quantified sorts inner.0 c (body_made body lets inner.0 (body_truth S body (at_node id.0 (Exists first sorts body) is sorted)) inner.1) inner.2
  denial_made id lets None c is sorted h = body_made id lets c sorted h
  denial_made id lets (Some node) c is sorted h = body_made id lets c sorted h

  clause_node : (id : TermId) (lets : List TermId) (node : Node) (c : Content) → has_parts_below id.0 node ≡ true → Clauses id.0
      → node_sort preds S node ≡ Some BoolSort → clause_form nodes (clause_reading nodes) node (place_of id lets) ≡ Ok c → IsMadeOfPlain c
  clause_node id lets (Pred pred args) c below ih sorted h =
      let fits = chosen_ok (list_all (λ (a : TermId). is_plain_term nodes a.0) args) (head_of (record { pred = pred; args = arguments lets args })) id c h in
      subst IsMadeOfPlain fits.1 (record { atoms = tt; guards = tt; head = plain_arguments lets args fits.0 })
  clause_node id lets (Forall first sorts body) c below ih sorted h =
      let inner = quantified_is sorts (at (clause_reading nodes) lets body) c h in
      plain_quantified sorts inner.0 c (ih body lets inner.0 (below_from body.0 id.0 below) (body_truth S body sorted) inner.1) inner.2
  clause_node id lets (Let bound body) c below ih sorted h =
      let low = both_true (list_all (is_below id.0) bound) (nat_lt body.0 id.0) below in
      let fits = bound_ok (is_plain_term nodes) bound (at (clause_reading nodes) (lets ++ id ∷ []) body) c h in
      ih body (lets ++ id ∷ []) c (below_from body.0 id.0 low.1) (let_sort (list_all is_sorted (map (λ (b : TermId). S b.0) bound)) (S body.0) BoolSort sorted) fits.1
  clause_node id lets (Op Implies args) c below ih sorted h = implication_made id.0 id lets args c ih below (all_truths S 2 args sorted) h
  clause_node id lets (Op Or args) c below ih sorted h = disjuncts_made false lets args c (all_truths S 1 args sorted) h
  clause_node id lets (Op Not (body ∷ [])) c below ih sorted h = denial_made body lets (slice_get nodes body.0) c refl (denied_truth S body sorted) h
  clause_node id lets _ c below ih sorted h = never_read id c h

  clause_by : (b : Bool) (id : TermId) (lets : List TermId) (node : Node) (c : Content) → slice_get nodes id.0 ≡ Some node → is_plain_term nodes id.0 ≡ b → Clauses id.0
      → sort_of preds nodes id.0 ≡ Some BoolSort → clause_reading nodes id.0 (place_of id lets) ≡ Ok c → IsMadeOfPlain c
  clause_by true id lets node c is plain ih sorted h =
      plain_guard true id lets c plain sorted (same_read (guard_of true (place_of id lets)) c (sym (clause_plain nodes id.0 node (place_of id lets) is (arena_below nodes id.0 node arena is) plain) ∙ h))
  clause_by false id lets node c is plain ih sorted h =
      let below = arena_below nodes id.0 node arena is in
      clause_node id lets node c below ih (at_node id.0 node is sorted) (sym (clause_mixed nodes id.0 node (place_of id lets) is below plain) ∙ h)

  clauses_below : (bound : ℕ) → Clauses bound
  clauses_below zero id lets c less sorted h = absurd (omega (arith, less))
  clauses_below (suc bound) id lets c less sorted h =
      let found = there_is nodes id.0 (clause_within nodes arena (λ k. Unit {0}) (λ atom. Unit {0}) (λ k part node at has other p. tt) (λ k pred ls args at p. tt) id lets c h) in
      clause_by (is_plain_term nodes id.0) id lets found.0 c found.1 refl (λ k ls x lt t e. clauses_below bound k ls x (omega (arith, lt, less)) t e) sorted h

  -- what a clause is made of is plain
  pub clause_plain_parts : (id : TermId) (lets : List TermId) (c : Content) → sort_of preds nodes id.0 ≡ Some BoolSort → clause_reading nodes id.0 (place_of id lets) ≡ Ok c → IsMadeOfPlain c
  clause_plain_parts id lets c sorted h = clauses_below (suc id.0) id lets c (omega arith) sorted h
