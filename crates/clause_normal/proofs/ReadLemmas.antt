-- What holds of a term and goes down to its parts holds of what its clause is made of; and a clause has as many variables
-- as are numbered in the term.
use Rattle.std.proofs.Common.{◌≡◌, ℕ, zero, suc, ◌+◌, ◌<◌, ◌==◌, List, [], ◌∷◌, ◌++◌, length, Bool, true, false, ◌&&◌, ◌||◌, inl, inr, refl, ap, sym, ◌∙◌, subst, arith}
use Rattle.std.proofs.lemmas.Bool.{cases_lt}
use Rattle.std.proofs.lemmas.List.{length-append}
use Rattle.std.specs.Prelude.{slice_get, Option, Some, None, Ok, Err, nat_lt, if◌then◌else◌}
use Rattle.std.specs.List.{AllByRecursion, list_all}
use Rattle.term_tree.specs.declared.sort.Sort.{Sort}
use Rattle.term_tree.specs.declared.node.TermId.{TermId}
use Rattle.term_tree.specs.declared.node.OpKind.TheVariants.{Not, And, Or, Implies}
use Rattle.term_tree.specs.declared.node.Node.{Node}
use Rattle.term_tree.specs.declared.node.Node.TheVariants.{LetVar, Pred, Op, Let, Forall, Exists}
use Rattle.term_tree.specs.Arena.{IsArena, is_below, has_parts_below}
use Rattle.term_tree.specs.Legal.{next_variable, numbers_through}
use Rattle.term_tree.specs.Subterms.{is_among, is_part}
use Rattle.term_tree.proofs.Public.{arena_below, below_from, both_true, eqb_self, numbered_at, there_is, told_past}
use Rattle.horn_shape.specs.declared.clause.AtomUse.{AtomUse}
use Rattle.horn_shape.specs.declared.clause.Part.{Part}
use Rattle.horn_shape.specs.Plain.{is_plain_term}
use Rattle.horn_shape.specs.Shape.{Content, Place, Reading, nothing, beside, both, arguments, atom_of, guard_of, head_of, either_head, at, each, body_form, node_body, body_reading, node_clause, clause_form, clause_reading, denial, disjunct_form, disjunct_reading, disjuncts, implication, is_application, quantified_reading}
use Rattle.horn_shape.specs.machinery.Gathering.{place_of}
use Rattle.horn_shape.proofs.BodyLemmas.{both_ok, bound_ok, chosen_ok, misread, never_read, same_read}
use Rattle.horn_shape.proofs.DisjunctLemmas.{read_chosen}
use Rattle.horn_shape.proofs.KnownLemmas.{carried_on, keep_args, keep_plain, keep_then, keep_through, one_through}
use Rattle.horn_shape.proofs.ShapeLemmas.{body_plain, body_mixed, clause_plain, clause_mixed, disjunct_plain, disjunct_mixed}
use Rattle.linear_terms.proofs.PartLemmas.{body_among, first_among, later_among}

-- a name that a `let` binds
abbrev pub is_name : Node → Bool
is_name (LetVar bound) = true
is_name _ = false

abbrev pub HeadHas : (AtomUse → Type 0) → Option AtomUse → Type 0
HeadHas Q None = Unit {0}
HeadHas Q (Some atom) = Q atom

-- each guard is such a term, and each atom such an atom
pub record Holds (P : ℕ → Type 0) (Q : AtomUse → Type 0) (c : Content) : Type 0 where
  pub atoms : AllByRecursion Q c.atoms
  pub guards : AllByRecursion (λ part. P part.term.0) c.guards
  pub head : HeadHas Q c.head

pub all_append : {X : Type 0} (P : X → Type 0) (xs ys : List X) → AllByRecursion P xs → AllByRecursion P ys → AllByRecursion P (xs ++ ys)
all_append P [] ys a b = b
all_append P (x ∷ xs) ys a b = (a.0, all_append P xs ys a.1 b)

head_beside : (Q : AtomUse → Type 0) (a b : Option AtomUse) → HeadHas Q a → HeadHas Q b → HeadHas Q (either_head a b)
head_beside Q a None x y = x
head_beside Q a (Some h) x y = y

holds_beside : (P : ℕ → Type 0) (Q : AtomUse → Type 0) (a b : Content) → Holds P Q a → Holds P Q b → Holds P Q (beside a b)
holds_beside P Q a b x y = record {
  atoms = all_append Q a.atoms b.atoms x.atoms y.atoms;
  guards = all_append (λ (part : Part). P part.term.0) a.guards b.guards x.guards y.guards;
  head = head_beside Q a.head b.head x.head y.head;
}

pub quantified_is : (sorts : List Sort) (r : Reading) (c : Content) → quantified_reading sorts r ≡ Ok c
    → (x : Content) × (r ≡ Ok x) × (record { vars = sorts ++ x.vars; atoms = x.atoms; guards = x.guards; head = x.head } ≡ c)
quantified_is sorts (Err misfit) c h = absurd (cc)
quantified_is sorts (Ok x) c h = (x, refl, cc)

either_by : {A : Type 0} (a b : Bool) → (a || b) ≡ true → (a ≡ true → A) → (b ≡ true → A) → A
either_by true b h f g = f refl
either_by false b h f g = g h

numbered_first : (first n : ℕ) (x : Option ℕ) (m : ℕ) (b : Bool) → (first == n) ≡ b → (if first == n then x else None) ≡ Some m → x ≡ Some m
numbered_first first n x m true e h = sym (ap (λ (b : Bool). if b then x else None) e) ∙ h
numbered_first first n x m false e h = absurd (differ (sym (ap (λ (b : Bool). if b then x else None) e) ∙ h))
  where
    differ : None ≡ Some m → ⊥
    differ q = absurd (cc)

-- what is told of a term that is read so
pub record IsTold (nodes : List Node) (P : ℕ → Type 0) (Q : AtomUse → Type 0) (id : ℕ) (c : Content) : Type 0 where
  pub holds : P id → Holds P Q c
  pub count : (n m : ℕ) → next_variable nodes id n ≡ Some m → m ≡ n + length c.vars

-- the same of several
pub record AreTold (nodes : List Node) (P : ℕ → Type 0) (Q : AtomUse → Type 0) (ids : List TermId) (c : Content) : Type 0 where
  pub holds : ((part : ℕ) → is_among part ids ≡ true → P part) → Holds P Q c
  pub count : (n m : ℕ) → numbers_through (next_variable nodes) ids n ≡ Some m → m ≡ n + length c.vars

module _ (nodes : List Node) (arena : IsArena nodes) (P : ℕ → Type 0) (Q : AtomUse → Type 0)
    (down : (id part : ℕ) (node : Node) → slice_get nodes id ≡ Some node → is_part part node ≡ true → is_name node ≡ false → P id → P part)
    (applied : (id pred : ℕ) (lets args : List TermId) → slice_get nodes id ≡ Some (Pred pred args) → P id → Q (record { pred = pred; args = arguments lets args })) where
  abbrev Tells : ℕ → Content → Type 0
  Tells id c = IsTold nodes P Q id c

  abbrev TellsAll : List TermId → Content → Type 0
  TellsAll ids c = AreTold nodes P Q ids c

  tells_none : (c : Content) → nothing ≡ c → TellsAll [] c
  tells_none c same = subst (λ (x : Content). TellsAll [] x) same (record {
    holds = λ all. record { atoms = tt; guards = tt; head = tt };
    count = λ n m h. let e : n ≡ m = cc in let f : m ≡ n + 0 = omega (arith, e) in f;
  })

  tells_more : (k : TermId) (ids : List TermId) (x y c : Content) → Tells k.0 x → TellsAll ids y → beside x y ≡ c → TellsAll (k ∷ ids) c
  tells_more k ids x y c first rest same = subst (λ (z : Content). TellsAll (k ∷ ids) z) same (record {
    holds = λ all. holds_beside P Q x y (first.holds (all k.0 (first_among k ids))) (rest.holds (λ part has. all part (later_among part k ids has)));
    count = λ n m h.
        let next = carried_on (λ j. numbers_through (next_variable nodes) ids j) (next_variable nodes k.0 n) m h in
        let one = first.count n next.0 next.1 in
        let others = rest.count next.0 m next.2 in
        let both_long = length-append x.vars y.vars in
        let f : m ≡ n + length (x.vars ++ y.vars) = omega (arith, one, others, both_long) in f;
  })

  tells_guard : (negated : Bool) (id : TermId) (lets : List TermId) (c : Content) → is_plain_term nodes id.0 ≡ true → guard_of negated (place_of id lets) ≡ c → Tells id.0 c
  tells_guard negated id lets c plain same = subst (λ (x : Content). Tells id.0 x) same (record {
    holds = λ p. record { atoms = tt; guards = (p, tt); head = tt };
    count = λ n m h. let e = keep_plain nodes arena id.0 n m plain h in let f : m ≡ n + 0 = omega (arith, e) in f;
  })

  tells_bound : (id : TermId) (bound : List TermId) (body : TermId) (c : Content) → slice_get nodes id.0 ≡ Some (Let bound body) → has_parts_below id.0 (Let bound body) ≡ true
      → list_all (λ b. is_plain_term nodes b.0) bound ≡ true → Tells body.0 c → Tells id.0 c
  tells_bound id bound body c is below plain inner = record {
    holds = λ p. inner.holds (down id.0 body.0 (Let bound body) is (body_among bound body) refl p);
    count = λ n m h. inner.count n m (one_through (next_variable nodes) body n m
        (keep_then (next_variable nodes) bound (body ∷ []) n m (keep_args nodes arena bound plain) (sym (numbered_at nodes id.0 (Let bound body) n is below) ∙ h)));
  }

  tells_args : (id : TermId) (pred : ℕ) (args : List TermId) (c : Content) → slice_get nodes id.0 ≡ Some (Pred pred args) → has_parts_below id.0 (Pred pred args) ≡ true
      → list_all (λ a. is_plain_term nodes a.0) args ≡ true → c.vars ≡ [] → (P id.0 → Holds P Q c) → Tells id.0 c
  tells_args id pred args c is below plain none holds = record {
    holds = holds;
    count = λ n m h.
        let e = keep_through (next_variable nodes) args n m (keep_args nodes arena args plain) (sym (numbered_at nodes id.0 (Pred pred args) n is below) ∙ h) in
        let short : length c.vars ≡ 0 = ap (λ (vs : List Sort). length vs) none in
        omega (arith, e, short);
  }

  tells_quantified : (id body : TermId) (first : ℕ) (sorts : List Sort) (node : Node) (x c : Content) → slice_get nodes id.0 ≡ Some node → is_part body.0 node ≡ true → is_name node ≡ false
      → ((n m : ℕ) → next_variable nodes id.0 n ≡ Some m → next_variable nodes body.0 (n + length sorts) ≡ Some m)
      → record { vars = sorts ++ x.vars; atoms = x.atoms; guards = x.guards; head = x.head } ≡ c → Tells body.0 x → Tells id.0 c
  tells_quantified id body first sorts node x c is has other numbers same inner = subst (λ (z : Content). Tells id.0 z) same (record {
    holds = λ p. let all = inner.holds (down id.0 body.0 node is has other p) in record { atoms = all.atoms; guards = all.guards; head = all.head };
    count = λ n m h.
        let e = inner.count (n + length sorts) m (numbers n m h) in
        let both_long = length-append sorts x.vars in
        let f : m ≡ n + length (sorts ++ x.vars) = omega (arith, e, both_long) in f;
  })

  -- bodies
  abbrev Bodies : ℕ → Type 0
  Bodies bound = (k : TermId) (lets : List TermId) (x : Content) → k.0 < bound → body_reading nodes k.0 (place_of k lets) ≡ Ok x → Tells k.0 x

  each_tells : (id : ℕ) (lets ids : List TermId) (c : Content) → Bodies id → list_all (is_below id) ids ≡ true → each (body_reading nodes) lets ids ≡ Ok c → TellsAll ids c
  each_tells id lets [] c ih below h = tells_none c (same_read nothing c h)
  each_tells id lets (k ∷ ids) c ih below h =
      let low = both_true (nat_lt k.0 id) (list_all (is_below id) ids) below in
      let parts = both_ok (at (body_reading nodes) lets k) (each (body_reading nodes) lets ids) c h in
      tells_more k ids parts.0 parts.1 c (ih k lets parts.0 (below_from k.0 id low.0) parts.2) (each_tells id lets ids parts.1 ih low.1 parts.3) parts.4

  body_node : (id : TermId) (lets : List TermId) (node : Node) (c : Content) → slice_get nodes id.0 ≡ Some node → has_parts_below id.0 node ≡ true → Bodies id.0
      → body_form (is_plain_term nodes) (body_reading nodes) node (place_of id lets) ≡ Ok c → Tells id.0 c
  body_node id lets (Pred pred args) c is below ih h =
      let atom : AtomUse = record { pred = pred; args = arguments lets args } in
      let fits = chosen_ok (list_all (λ (a : TermId). is_plain_term nodes a.0) args) (atom_of atom) id c h in
      subst (λ (x : Content). Tells id.0 x) fits.1
      (tells_args id pred args (atom_of atom) is below fits.0 refl (λ p. record { atoms = (applied id.0 pred lets args is p, tt); guards = tt; head = tt }))
  body_node id lets (Op And args) c is below ih h =
      let all = each_tells id.0 lets args c ih below h in
      record {
        holds = λ p. all.holds (λ part has. down id.0 part (Op And args) is has refl p);
        count = λ n m e. all.count n m (sym (numbered_at nodes id.0 (Op And args) n is below) ∙ e);
      }
  body_node id lets (Let bound body) c is below ih h =
      let low = both_true (list_all (is_below id.0) bound) (nat_lt body.0 id.0) below in
      let fits = bound_ok (is_plain_term nodes) bound (at (body_reading nodes) (lets ++ id ∷ []) body) c h in
      tells_bound id bound body c is below fits.0 (ih body (lets ++ id ∷ []) c (below_from body.0 id.0 low.1) fits.1)
  body_node id lets _ c is below ih h = absurd (cc)

  body_by : (b : Bool) (id : TermId) (lets : List TermId) (node : Node) (c : Content) → slice_get nodes id.0 ≡ Some node → is_plain_term nodes id.0 ≡ b → Bodies id.0
      → body_reading nodes id.0 (place_of id lets) ≡ Ok c → Tells id.0 c
  body_by true id lets node c is plain ih h =
      let below = arena_below nodes id.0 node arena is in
      tells_guard false id lets c plain (same_read (guard_of false (place_of id lets)) c (sym (body_plain nodes id.0 node (place_of id lets) is below plain) ∙ h))
  body_by false id lets node c is plain ih h =
      let below = arena_below nodes id.0 node arena is in
      body_node id lets node c is below ih (sym (body_mixed nodes id.0 node (place_of id lets) is below plain) ∙ h)

  body_here : (id : TermId) (lets : List TermId) (c : Content) → body_reading nodes id.0 (place_of id lets) ≡ Ok c → id.0 < length nodes
  body_here id lets c h = elim (cases_lt id.0 (length nodes)) [
    | inl less ↦ less
    | inr past ↦
        let none = told_past (Place → Reading) (λ p. Err p.term) (node_body (is_plain_term nodes)) nodes id.0 past in
        never_read id c (ap (λ (f : Place → Reading). f (place_of id lets)) (sym none) ∙ h)
  ]

  bodies_below : (bound : ℕ) → Bodies bound
  bodies_below zero id lets c less h = absurd (omega (arith, less))
  bodies_below (suc bound) id lets c less h =
      let found = there_is nodes id.0 (body_here id lets c h) in
      body_by (is_plain_term nodes id.0) id lets found.0 c found.1 refl (λ k ls x lt e. bodies_below bound k ls x (omega (arith, lt, less)) e) h

  body_tells : (id : TermId) (lets : List TermId) (c : Content) → body_reading nodes id.0 (place_of id lets) ≡ Ok c → Tells id.0 c
  body_tells id lets c h = bodies_below (suc id.0) id lets c (omega arith) h

  -- disjuncts
  disjunct_node : (id : TermId) (lets : List TermId) (node : Node) (c : Content) → slice_get nodes id.0 ≡ Some node → has_parts_below id.0 node ≡ true
      → disjunct_form nodes node (place_of id lets) ≡ Ok c → Tells id.0 c
  disjunct_node id lets (Pred pred args) c is below h =
      let atom : AtomUse = record { pred = pred; args = arguments lets args } in
      let fits = chosen_ok (list_all (λ (a : TermId). is_plain_term nodes a.0) args) (head_of atom) id c h in
      subst (λ (x : Content). Tells id.0 x) fits.1
      (tells_args id pred args (head_of atom) is below fits.0 refl (λ p. record { atoms = tt; guards = tt; head = applied id.0 pred lets args is p }))
  disjunct_node id lets (Op Not (body ∷ [])) c is below h =
      let inner = body_tells body lets c h in
      record {
        holds = λ p. inner.holds (down id.0 body.0 (Op Not (body ∷ [])) is (first_among body []) refl p);
        count = λ n m e. inner.count n m (one_through (next_variable nodes) body n m (sym (numbered_at nodes id.0 (Op Not (body ∷ [])) n is below) ∙ e));
      }
  disjunct_node id lets _ c is below h = absurd (cc)

  disjunct_by : (b : Bool) (id : TermId) (lets : List TermId) (node : Node) (c : Content) → slice_get nodes id.0 ≡ Some node → is_plain_term nodes id.0 ≡ b
      → disjunct_reading nodes (Some node) (place_of id lets) ≡ Ok c → Tells id.0 c
  disjunct_by true id lets node c is plain h =
      let below = arena_below nodes id.0 node arena is in
      tells_guard true id lets c plain (same_read (guard_of true (place_of id lets)) c (sym (disjunct_plain nodes id.0 node (place_of id lets) is below plain) ∙ h))
  disjunct_by false id lets node c is plain h =
      let below = arena_below nodes id.0 node arena is in
      disjunct_node id lets node c is below (sym (disjunct_mixed nodes id.0 node (place_of id lets) is below plain) ∙ h)

  abbrev DisjunctsOf : Bool → List TermId → TermId → List TermId → Option Node → Reading
  DisjunctsOf headed lets id ids f =
      if headed && is_application f then Err id else both (disjunct_reading nodes f (place_of id lets)) (disjuncts nodes (headed || is_application f) lets ids)

  disjuncts_found : (headed : Bool) (lets : List TermId) (id : TermId) (ids : List TermId) (c : Content) (f : Option Node) → slice_get nodes id.0 ≡ f
      → ((b : Bool) (y : Content) → disjuncts nodes b lets ids ≡ Ok y → TellsAll ids y) → DisjunctsOf headed lets id ids f ≡ Ok c → TellsAll (id ∷ ids) c
  disjuncts_found headed lets id ids c None is rec h = never_read id c (read_chosen (headed && false) id (misread id) c h).1
  disjuncts_found headed lets id ids c (Some node) is rec h =
      let chosen = read_chosen (headed && is_application (Some node)) id
      (both (disjunct_reading nodes (Some node) (place_of id lets)) (disjuncts nodes (headed || is_application (Some node)) lets ids)) c h in
      let parts = both_ok (disjunct_reading nodes (Some node) (place_of id lets)) (disjuncts nodes (headed || is_application (Some node)) lets ids) c chosen.1 in
      tells_more id ids parts.0 parts.1 c (disjunct_by (is_plain_term nodes id.0) id lets node parts.0 is refl parts.2)
      (rec (headed || is_application (Some node)) parts.1 parts.3) parts.4

  disjuncts_tell : (headed : Bool) (lets ids : List TermId) (c : Content) → disjuncts nodes headed lets ids ≡ Ok c → TellsAll ids c
  disjuncts_tell headed lets [] c h = tells_none c (same_read nothing c h)
  disjuncts_tell headed lets (id ∷ ids) c h = disjuncts_found headed lets id ids c (slice_get nodes id.0) refl (λ b y k. disjuncts_tell b lets ids y k) h

  -- clauses
  abbrev Clauses : ℕ → Type 0
  Clauses bound = (k : TermId) (lets : List TermId) (x : Content) → k.0 < bound → clause_reading nodes k.0 (place_of k lets) ≡ Ok x → Tells k.0 x

  implication_tells : (id : ℕ) (whole : TermId) (lets ids : List TermId) (c : Content) → Clauses id → list_all (is_below id) ids ≡ true
      → implication (body_reading nodes) (clause_reading nodes) (place_of whole lets) ids ≡ Ok c → TellsAll ids c
  implication_tells id whole lets [] c ih below h = absurd (cc)
  implication_tells id whole lets (last ∷ []) c ih below h =
      let low = both_true (nat_lt last.0 id) true below in
      let one = ih last lets c (below_from last.0 id low.0) h in
      record {
        holds = λ all. one.holds (all last.0 (first_among last []));
        count = λ n m e. one.count n m (one_through (next_variable nodes) last n m e);
      }
  implication_tells id whole lets (a ∷ b ∷ ids) c ih below h =
      let low = both_true (nat_lt a.0 id) (list_all (is_below id) (b ∷ ids)) below in
      let parts = both_ok (at (body_reading nodes) lets a) (implication (body_reading nodes) (clause_reading nodes) (place_of whole lets) (b ∷ ids)) c h in
      tells_more a (b ∷ ids) parts.0 parts.1 c (body_tells a lets parts.0 parts.2) (implication_tells id whole lets (b ∷ ids) parts.1 ih low.1 parts.3) parts.4

  denial_node : (id : TermId) (lets : List TermId) (node : Node) (c : Content) → slice_get nodes id.0 ≡ Some node → denial nodes (Some node) (place_of id lets) ≡ Ok c → Tells id.0 c
  denial_node id lets (Exists first sorts body) c is h =
      let below = arena_below nodes id.0 (Exists first sorts body) arena is in
      let inner = quantified_is sorts (at (body_reading nodes) lets body) c h in
      tells_quantified id body first sorts (Exists first sorts body) inner.0 c is (eqb_self body.0) refl
      (λ n m e. numbered_first first n (next_variable nodes body.0 (n + length sorts)) m (first == n) refl (sym (numbered_at nodes id.0 (Exists first sorts body) n is below) ∙ e))
      inner.2 (body_tells body lets inner.0 inner.1)
  denial_node id lets _ c is h = body_tells id lets c h

  denial_found : (id : TermId) (lets : List TermId) (f : Option Node) (c : Content) → slice_get nodes id.0 ≡ f → denial nodes f (place_of id lets) ≡ Ok c → Tells id.0 c
  denial_found id lets None c is h = body_tells id lets c h
  denial_found id lets (Some node) c is h = denial_node id lets node c is h

  clause_node : (id : TermId) (lets : List TermId) (node : Node) (c : Content) → slice_get nodes id.0 ≡ Some node → has_parts_below id.0 node ≡ true → Clauses id.0
      → clause_form nodes (clause_reading nodes) node (place_of id lets) ≡ Ok c → Tells id.0 c
  clause_node id lets (Pred pred args) c is below ih h =
      let atom : AtomUse = record { pred = pred; args = arguments lets args } in
      let fits = chosen_ok (list_all (λ (a : TermId). is_plain_term nodes a.0) args) (head_of atom) id c h in
      subst (λ (x : Content). Tells id.0 x) fits.1
      (tells_args id pred args (head_of atom) is below fits.0 refl (λ p. record { atoms = tt; guards = tt; head = applied id.0 pred lets args is p }))
  clause_node id lets (Forall first sorts body) c is below ih h =
      let inner = quantified_is sorts (at (clause_reading nodes) lets body) c h in
      tells_quantified id body first sorts (Forall first sorts body) inner.0 c is (eqb_self body.0) refl
      (λ n m e. numbered_first first n (next_variable nodes body.0 (n + length sorts)) m (first == n) refl (sym (numbered_at nodes id.0 (Forall first sorts body) n is below) ∙ e))
      inner.2 (ih body lets inner.0 (below_from body.0 id.0 below) inner.1)
  clause_node id lets (Let bound body) c is below ih h =
      let low = both_true (list_all (is_below id.0) bound) (nat_lt body.0 id.0) below in
      let fits = bound_ok (is_plain_term nodes) bound (at (clause_reading nodes) (lets ++ id ∷ []) body) c h in
      tells_bound id bound body c is below fits.0 (ih body (lets ++ id ∷ []) c (below_from body.0 id.0 low.1) fits.1)
  clause_node id lets (Op Implies args) c is below ih h =
      let all = implication_tells id.0 id lets args c ih below h in
      record {
        holds = λ p. all.holds (λ part has. down id.0 part (Op Implies args) is has refl p);
        count = λ n m e. all.count n m (sym (numbered_at nodes id.0 (Op Implies args) n is below) ∙ e);
      }
  clause_node id lets (Op Or args) c is below ih h =
      let all = disjuncts_tell false lets args c h in
      record {
        holds = λ p. all.holds (λ part has. down id.0 part (Op Or args) is has refl p);
        count = λ n m e. all.count n m (sym (numbered_at nodes id.0 (Op Or args) n is below) ∙ e);
      }
  clause_node id lets (Op Not (body ∷ [])) c is below ih h =
      let inner = denial_found body lets (slice_get nodes body.0) c refl h in
      record {
        holds = λ p. inner.holds (down id.0 body.0 (Op Not (body ∷ [])) is (first_among body []) refl p);
        count = λ n m e. inner.count n m (one_through (next_variable nodes) body n m (sym (numbered_at nodes id.0 (Op Not (body ∷ [])) n is below) ∙ e));
      }
  clause_node id lets _ c is below ih h = absurd (cc)

  clause_by : (b : Bool) (id : TermId) (lets : List TermId) (node : Node) (c : Content) → slice_get nodes id.0 ≡ Some node → is_plain_term nodes id.0 ≡ b → Clauses id.0
      → clause_reading nodes id.0 (place_of id lets) ≡ Ok c → Tells id.0 c
  clause_by true id lets node c is plain ih h =
      let below = arena_below nodes id.0 node arena is in
      tells_guard true id lets c plain (same_read (guard_of true (place_of id lets)) c (sym (clause_plain nodes id.0 node (place_of id lets) is below plain) ∙ h))
  clause_by false id lets node c is plain ih h =
      let below = arena_below nodes id.0 node arena is in
      clause_node id lets node c is below ih (sym (clause_mixed nodes id.0 node (place_of id lets) is below plain) ∙ h)

  clause_here : (id : TermId) (lets : List TermId) (c : Content) → clause_reading nodes id.0 (place_of id lets) ≡ Ok c → id.0 < length nodes
  clause_here id lets c h = elim (cases_lt id.0 (length nodes)) [
    | inl less ↦ less
    | inr past ↦
        let none = told_past (Place → Reading) (λ p. Err p.term) (node_clause nodes) nodes id.0 past in
        never_read id c (ap (λ (f : Place → Reading). f (place_of id lets)) (sym none) ∙ h)
  ]

  clauses_below : (bound : ℕ) → Clauses bound
  clauses_below zero id lets c less h = absurd (omega (arith, less))
  clauses_below (suc bound) id lets c less h =
      let found = there_is nodes id.0 (clause_here id lets c h) in
      clause_by (is_plain_term nodes id.0) id lets found.0 c found.1 refl (λ k ls x lt e. clauses_below bound k ls x (omega (arith, lt, less)) e) h

  pub clause_holds : (id : TermId) (lets : List TermId) (c : Content) → clause_reading nodes id.0 (place_of id lets) ≡ Ok c → P id.0 → Holds P Q c
  clause_holds id lets c h p = (clauses_below (suc id.0) id lets c (omega arith) h).holds p

  pub clause_counts : (id : TermId) (lets : List TermId) (c : Content) (n m : ℕ) → clause_reading nodes id.0 (place_of id lets) ≡ Ok c → next_variable nodes id.0 n ≡ Some m → m ≡ n + length c.vars
  clause_counts id lets c n m h e = (clauses_below (suc id.0) id lets c (omega arith) h).count n m e

  pub clause_within : (id : TermId) (lets : List TermId) (c : Content) → clause_reading nodes id.0 (place_of id lets) ≡ Ok c → id.0 < length nodes
  clause_within id lets c h = clause_here id lets c h
