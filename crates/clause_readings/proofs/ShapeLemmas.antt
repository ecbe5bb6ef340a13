-- Terms that match have the same shape: as clauses they give the same variables, and guards and atoms that match, or their first
-- misfits match.
use Rattle.std.proofs.Common.{◌≡◌, ℕ, List, [], ◌∷◌, ◌++◌, Bool, true, false, ◌&&◌, ◌||◌, refl, ap, sym, ◌∙◌, subst}
use Rattle.std.specs.Prelude.{slice_get, Option, Some, None, Ok, Err, if◌then◌else◌}
use Rattle.std.specs.List.{list_all}
use Rattle.term_tree.specs.declared.sort.Sort.{Sort}
use Rattle.term_tree.specs.declared.node.TermId.{TermId}
use Rattle.term_tree.specs.declared.node.OpKind.{OpKind}
use Rattle.term_tree.specs.declared.node.OpKind.TheVariants.{Not, And, Or, Implies}
use Rattle.term_tree.specs.declared.node.Node.{Node}
use Rattle.term_tree.specs.declared.node.Node.TheVariants.{Num, True, False, Var, LetVar, Pred, Op, Divisible, Let, Forall, Exists}
use Rattle.term_tree.specs.Arena.{IsArena}
use Rattle.horn_shape.specs.declared.clause.AtomUse.{AtomUse}
use Rattle.horn_shape.specs.declared.clause.Part.{Part}
use Rattle.horn_shape.specs.Plain.{node_is_plain, is_plain_term}
use Rattle.horn_shape.specs.Shape.{Place, Content, Reading, nothing, either_head, both, quantified_reading, guard_of, atom_of, head_of, arguments, application_reading, at, bound_over, each, body_form, node_body, body_reading, is_application, disjunct_form, disjunct_reading, disjuncts, implication, denial, clause_form, node_clause, clause_reading}
use Rattle.horn_shape.proofs.FlagLemmas.{plain_at}
use Rattle.horn_shape.proofs.Public.{body_at, clause_at}
use Rattle.clause_readings.specs.Matching.{AreMatched, IsNodeLike, AreNodesLike}
use Rattle.clause_readings.proofs.InductionLemmas.{With, by_two}

module _ (matched : ℕ → ℕ → Type 0) where
  abbrev pub ArePartsMatched : List Part → List Part → Type 0
  ArePartsMatched [] [] = Unit {0}
  ArePartsMatched [] (q ∷ qs) = ⊥
  ArePartsMatched (p ∷ ps) [] = ⊥
  ArePartsMatched (p ∷ ps) (q ∷ qs) = matched p.term.0 q.term.0 × (p.negated ≡ q.negated) × ArePartsMatched ps qs

  abbrev pub AreAtomsMatched : List AtomUse → List AtomUse → Type 0
  AreAtomsMatched [] [] = Unit {0}
  AreAtomsMatched [] (q ∷ qs) = ⊥
  AreAtomsMatched (p ∷ ps) [] = ⊥
  AreAtomsMatched (p ∷ ps) (q ∷ qs) = (p.pred ≡ q.pred) × ArePartsMatched p.args q.args × AreAtomsMatched ps qs

  abbrev pub AreHeadsMatched : Option AtomUse → Option AtomUse → Type 0
  AreHeadsMatched None None = Unit {0}
  AreHeadsMatched None (Some q) = ⊥
  AreHeadsMatched (Some p) None = ⊥
  AreHeadsMatched (Some p) (Some q) = (p.pred ≡ q.pred) × ArePartsMatched p.args q.args

  -- the same variables, and atoms and guards that match
  pub record AreContentsMatched (c d : Content) : Type 0 where
    pub vars : c.vars ≡ d.vars
    pub atoms : AreAtomsMatched c.atoms d.atoms
    pub guards : ArePartsMatched c.guards d.guards
    pub head : AreHeadsMatched c.head d.head

  -- contents that match, or misfits that do
  abbrev pub AreReadingsMatched : Reading → Reading → Type 0
  AreReadingsMatched (Ok c) (Ok d) = AreContentsMatched c d
  AreReadingsMatched (Ok c) (Err j) = ⊥
  AreReadingsMatched (Err i) (Ok d) = ⊥
  AreReadingsMatched (Err i) (Err j) = matched i.0 j.0

  parts_joined : (ps qs rs ss : List Part) → ArePartsMatched ps qs → ArePartsMatched rs ss → ArePartsMatched (ps ++ rs) (qs ++ ss)
  parts_joined [] [] rs ss h k = k
  parts_joined [] (q ∷ qs) rs ss h k = absurd h
  parts_joined (p ∷ ps) [] rs ss h k = absurd h
  parts_joined (p ∷ ps) (q ∷ qs) rs ss h k = (h.0, h.1, parts_joined ps qs rs ss h.2 k)

  atoms_joined : (ps qs rs ss : List AtomUse) → AreAtomsMatched ps qs → AreAtomsMatched rs ss → AreAtomsMatched (ps ++ rs) (qs ++ ss)
  atoms_joined [] [] rs ss h k = k
  atoms_joined [] (q ∷ qs) rs ss h k = absurd h
  atoms_joined (p ∷ ps) [] rs ss h k = absurd h
  atoms_joined (p ∷ ps) (q ∷ qs) rs ss h k = (h.0, h.1, atoms_joined ps qs rs ss h.2 k)

  heads_joined : (a b c d : Option AtomUse) → AreHeadsMatched a b → AreHeadsMatched c d → AreHeadsMatched (either_head a c) (either_head b d)
  heads_joined a b None None h k = h
  heads_joined a b None (Some d) h k = absurd k
  heads_joined a b (Some c) None h k = absurd k
  heads_joined a b (Some c) (Some d) h k = k

  both_matched : (a b c d : Reading) → AreReadingsMatched a b → AreReadingsMatched c d → AreReadingsMatched (both a c) (both b d)
  both_matched (Ok a) (Ok b) (Ok c) (Ok d) h k = record {
    vars = ap (λ (s : List Sort). s ++ c.vars) h.vars ∙ ap (λ (s : List Sort). b.vars ++ s) k.vars;
    atoms = atoms_joined a.atoms b.atoms c.atoms d.atoms h.atoms k.atoms;
    guards = parts_joined a.guards b.guards c.guards d.guards h.guards k.guards;
    head = heads_joined a.head b.head c.head d.head h.head k.head;
  }
  both_matched (Ok a) (Ok b) (Ok c) (Err d) h k = absurd k
  both_matched (Ok a) (Ok b) (Err c) (Ok d) h k = absurd k
  both_matched (Ok a) (Ok b) (Err c) (Err d) h k = k
  both_matched (Ok a) (Err b) c d h k = absurd h
  both_matched (Err a) (Ok b) c d h k = absurd h
  both_matched (Err a) (Err b) c d h k = h

  quantified_matched : (sorts : List Sort) (a b : Reading) → AreReadingsMatched a b → AreReadingsMatched (quantified_reading sorts a) (quantified_reading sorts b)
  quantified_matched sorts (Ok a) (Ok b) h = record { vars = ap (λ (s : List Sort). sorts ++ s) h.vars; atoms = h.atoms; guards = h.guards; head = h.head }
  quantified_matched sorts (Ok a) (Err b) h = absurd h
  quantified_matched sorts (Err a) (Ok b) h = absurd h
  quantified_matched sorts (Err a) (Err b) h = h

  nothing_matched : AreReadingsMatched (Ok nothing) (Ok nothing)
  nothing_matched = record { vars = refl; atoms = tt; guards = tt; head = tt }

  guard_matched : (negated : Bool) (p q : Place) → matched p.term.0 q.term.0 → AreReadingsMatched (Ok (guard_of negated p)) (Ok (guard_of negated q))
  guard_matched negated p q h = record { vars = refl; atoms = tt; guards = (h, refl, tt); head = tt }

  arguments_matched : (lets others : List TermId) (ids args : List TermId) → AreMatched matched ids args → ArePartsMatched (arguments lets ids) (arguments others args)
  arguments_matched lets others [] [] h = tt
  arguments_matched lets others [] (o ∷ args) h = absurd h
  arguments_matched lets others (id ∷ ids) [] h = absurd h
  arguments_matched lets others (id ∷ ids) (o ∷ args) h = (h.0, refl, arguments_matched lets others ids args h.1)

  module _ (plain other_plain : ℕ → Bool) (same : (c d : ℕ) → matched c d → plain c ≡ other_plain d) where
    all_plain : (ids others : List TermId) → AreMatched matched ids others → list_all (λ (arg : TermId). plain arg.0) ids ≡ list_all (λ (arg : TermId). other_plain arg.0) others
    all_plain [] [] h = refl
    all_plain [] (o ∷ others) h = absurd h
    all_plain (id ∷ ids) [] h = absurd h
    all_plain (id ∷ ids) (o ∷ others) h =
        ap (λ (b : Bool). b && list_all (λ (arg : TermId). plain arg.0) ids) (same id.0 o.0 h.0) ∙ ap (λ (b : Bool). other_plain o.0 && b) (all_plain ids others h.1)

    by_two_tests : (a b : Bool) (x y u v : Reading) → a ≡ b → AreReadingsMatched x y → AreReadingsMatched u v → AreReadingsMatched (if a then x else u) (if b then y else v)
    by_two_tests true true x y u v e h k = h
    by_two_tests false false x y u v e h k = k
    by_two_tests true false x y u v e h k = absurd (cc)
    by_two_tests false true x y u v e h k = absurd (cc)

    atom_read : (pred : ℕ) (ids others : List TermId) (p q : Place) → AreMatched matched ids others → matched p.term.0 q.term.0
        → AreReadingsMatched (application_reading plain atom_of pred ids p) (application_reading other_plain atom_of pred others q)
    atom_read pred ids others p q h is =
        by_two_tests (list_all (λ (arg : TermId). plain arg.0) ids) (list_all (λ (arg : TermId). other_plain arg.0) others) _ _ _ _ (all_plain ids others h)
        (record { vars = refl; atoms = (refl, arguments_matched p.lets q.lets ids others h, tt); guards = tt; head = tt }) is

    head_read : (pred : ℕ) (ids others : List TermId) (p q : Place) → AreMatched matched ids others → matched p.term.0 q.term.0
        → AreReadingsMatched (application_reading plain head_of pred ids p) (application_reading other_plain head_of pred others q)
    head_read pred ids others p q h is =
        by_two_tests (list_all (λ (arg : TermId). plain arg.0) ids) (list_all (λ (arg : TermId). other_plain arg.0) others) _ _ _ _ (all_plain ids others h)
        (record { vars = refl; atoms = tt; guards = tt; head = (refl, arguments_matched p.lets q.lets ids others h) }) is

    bound_read : (ids others : List TermId) (a b : Reading) → AreMatched matched ids others → AreReadingsMatched a b → AreReadingsMatched (bound_over plain ids a) (bound_over other_plain others b)
    bound_read [] [] a b h k = k
    bound_read [] (o ∷ others) a b h k = absurd h
    bound_read (id ∷ ids) [] a b h k = absurd h
    bound_read (id ∷ ids) (o ∷ others) a b h k = by_two_tests (plain id.0) (other_plain o.0) _ _ _ _ (same id.0 o.0 h.0) (bound_read ids others a b h.1 k) h.0

    node_plain : (node other : Node) → IsNodeLike matched node other → node_is_plain plain node ≡ node_is_plain other_plain other
    node_plain (Num k) other h = ap (node_is_plain other_plain) (sym h)
    node_plain True other h = ap (node_is_plain other_plain) (sym h)
    node_plain False other h = ap (node_is_plain other_plain) (sym h)
    node_plain (Var binder sort) other h = ap (node_is_plain other_plain) (sym h)
    node_plain (LetVar bound) other h = same bound.0 h.0.0 h.2 ∙ ap (node_is_plain other_plain) (sym h.1)
    node_plain (Pred pred args) other h = ap (node_is_plain other_plain) (sym h.1)
    node_plain (Op op args) other h = all_plain args h.0 h.2 ∙ ap (node_is_plain other_plain) (sym h.1)
    node_plain (Divisible by arg) other h = same arg.0 h.0.0 h.2 ∙ ap (node_is_plain other_plain) (sym h.1)
    node_plain (Let bound body) other h =
        ap (λ (b : Bool). b && plain body.0) (all_plain bound h.0 h.3) ∙ ap (λ (b : Bool). list_all (λ (x : TermId). other_plain x.0) h.0 && b) (same body.0 h.1.0 h.4)
        ∙ ap (node_is_plain other_plain) (sym h.2)
    node_plain (Forall first sorts body) other h = ap (node_is_plain other_plain) (sym h.1)
    node_plain (Exists first sorts body) other h = ap (node_is_plain other_plain) (sym h.1)

-- the terms match in what is read of them besides
only : (matched holds : ℕ → ℕ → Type 0) (ids others : List TermId) → AreMatched (With matched holds) ids others → AreMatched matched ids others
only matched holds [] [] h = tt
only matched holds [] (o ∷ others) h = absurd h
only matched holds (id ∷ ids) [] h = absurd h
only matched holds (id ∷ ids) (o ∷ others) h = (h.0.0, only matched holds ids others h.1)

pub only_like : (matched holds : ℕ → ℕ → Type 0) (node other : Node) → IsNodeLike (With matched holds) node other → IsNodeLike matched node other
only_like matched holds (Num k) other h = h
only_like matched holds True other h = h
only_like matched holds False other h = h
only_like matched holds (Var binder sort) other h = h
only_like matched holds (LetVar bound) other h = (h.0, h.1, h.2.0)
only_like matched holds (Pred pred args) other h = (h.0, h.1, only matched holds args h.0 h.2)
only_like matched holds (Op op args) other h = (h.0, h.1, only matched holds args h.0 h.2)
only_like matched holds (Divisible by arg) other h = (h.0, h.1, h.2.0)
only_like matched holds (Let bound body) other h = (h.0, h.1, h.2, only matched holds bound h.0 h.3, h.4.0)
only_like matched holds (Forall first sorts body) other h = (h.0, h.1, h.2.0)
only_like matched holds (Exists first sorts body) other h = (h.0, h.1, h.2.0)

-- what is read of the two terms matches, wherever they stand
abbrev pub AreReadAt : (ℕ → ℕ → Type 0) → (ℕ → Place → Reading) → (ℕ → Place → Reading) → ℕ → ℕ → Type 0
AreReadAt matched f g a b = (p q : Place) → p.term.0 ≡ a → q.term.0 ≡ b → AreReadingsMatched matched (f a p) (g b q)

module _ (nodes others : List Node) (matched : ℕ → ℕ → Type 0) (arena : IsArena nodes) (other_arena : IsArena others) (like : AreNodesLike nodes others matched) where
  pub same_plain : (a b : ℕ) → matched a b → is_plain_term nodes a ≡ is_plain_term others b
  same_plain = by_two nodes others matched (λ a b. is_plain_term nodes a ≡ is_plain_term others b) arena other_arena like (λ a b node other is there there_too below below_too parts.
      plain_at nodes a node there below
      ∙ node_plain (With matched (λ c d. is_plain_term nodes c ≡ is_plain_term others d)) (is_plain_term nodes) (is_plain_term others) (λ c d both. both.1) node other parts
      ∙ sym (plain_at others b other there_too below_too))

  module _ (f g : ℕ → Place → Reading) where
    each_read : (lets other_lets ids args : List TermId) → AreMatched (With matched (AreReadAt matched f g)) ids args → AreReadingsMatched matched (each f lets ids) (each g other_lets args)
    each_read lets other_lets [] [] h = nothing_matched matched
    each_read lets other_lets [] (o ∷ args) h = absurd h
    each_read lets other_lets (id ∷ ids) [] h = absurd h
    each_read lets other_lets (id ∷ ids) (o ∷ args) h =
        both_matched matched (at f lets id) (at g other_lets o) (each f lets ids) (each g other_lets args)
        (h.0.1 (record { term = id; lets = lets }) (record { term = o; lets = other_lets }) refl refl) (each_read lets other_lets ids args h.1)

    abbrev BodyForm : Reading → Place → Node → Type 0
    BodyForm x q other = AreReadingsMatched matched x (body_form (is_plain_term others) g other q)

    and_form : (p q : Place) (ids args : List TermId) → matched p.term.0 q.term.0 → AreMatched (With matched (AreReadAt matched f g)) ids args → (op : OpKind)
        → AreReadingsMatched matched (body_form (is_plain_term nodes) f (Op op ids) p) (body_form (is_plain_term others) g (Op op args) q)
    and_form p q ids args is h And = each_read p.lets q.lets ids args h
    and_form p q ids args is h _ = is

    body_read : (p q : Place) (node other : Node) → matched p.term.0 q.term.0 → IsNodeLike (With matched (AreReadAt matched f g)) node other
        → BodyForm (body_form (is_plain_term nodes) f node p) q other
    body_read p q (Num k) other is h = subst (BodyForm (Err p.term) q) (sym h) is
    body_read p q True other is h = subst (BodyForm (Err p.term) q) (sym h) is
    body_read p q False other is h = subst (BodyForm (Err p.term) q) (sym h) is
    body_read p q (Var binder sort) other is h = subst (BodyForm (Err p.term) q) (sym h) is
    body_read p q (LetVar bound) other is h = subst (BodyForm (Err p.term) q) (sym h.1) is
    body_read p q (Pred pred args) other is h =
        subst (BodyForm (application_reading (is_plain_term nodes) atom_of pred args p) q) (sym h.1)
        (atom_read matched (is_plain_term nodes) (is_plain_term others) same_plain pred args h.0 p q (only matched (AreReadAt matched f g) args h.0 h.2) is)
    body_read p q (Op op args) other is h = subst (BodyForm (body_form (is_plain_term nodes) f (Op op args) p) q) (sym h.1) (and_form p q args h.0 is h.2 op)
    body_read p q (Divisible by arg) other is h = subst (BodyForm (Err p.term) q) (sym h.1) is
    body_read p q (Let bound body) other is h =
        subst (BodyForm (body_form (is_plain_term nodes) f (Let bound body) p) q) (sym h.2)
        (bound_read matched (is_plain_term nodes) (is_plain_term others) same_plain bound h.0 (at f (p.lets ++ p.term ∷ []) body) (at g (q.lets ++ q.term ∷ []) h.1)
        (only matched (AreReadAt matched f g) bound h.0 h.3)
        (h.4.1 (record { term = body; lets = p.lets ++ p.term ∷ [] }) (record { term = h.1; lets = q.lets ++ q.term ∷ [] }) refl refl))
    body_read p q (Forall first sorts body) other is h = subst (BodyForm (Err p.term) q) (sym h.1) is
    body_read p q (Exists first sorts body) other is h = subst (BodyForm (Err p.term) q) (sym h.1) is

  -- as bodies
  same_body : (a b : ℕ) → matched a b → AreReadAt matched (body_reading nodes) (body_reading others) a b
  same_body = by_two nodes others matched (AreReadAt matched (body_reading nodes) (body_reading others)) arena other_arena like
      (λ a b node other is there there_too below below_too parts p q first second.
      let here : matched p.term.0 q.term.0 = subst (λ (x : ℕ). matched x q.term.0) (sym first) (subst (λ (y : ℕ). matched a y) (sym second) is) in
      let step : AreReadingsMatched matched (node_body (is_plain_term nodes) (body_reading nodes) node p) (node_body (is_plain_term others) (body_reading others) other q) =
      by_two_tests matched (is_plain_term nodes) (is_plain_term others) same_plain (node_is_plain (is_plain_term nodes) node) (node_is_plain (is_plain_term others) other) _ _ _ _
      (node_plain matched (is_plain_term nodes) (is_plain_term others) same_plain node other (only_like matched (AreReadAt matched (body_reading nodes) (body_reading others)) node other parts))
      (guard_matched matched false p q here) (body_read (body_reading nodes) (body_reading others) p q node other here parts) in
      subst (λ (x : Reading). AreReadingsMatched matched x (body_reading others b q)) (sym (body_at nodes a node p there below))
      (subst (λ (y : Reading). AreReadingsMatched matched (node_body (is_plain_term nodes) (body_reading nodes) node p) y) (sym (body_at others b other q there_too below_too)) step))

  body_here : (lets other_lets : List TermId) (id other : TermId) → matched id.0 other.0 → AreReadingsMatched matched (at (body_reading nodes) lets id) (at (body_reading others) other_lets other)
  body_here lets other_lets id other is = same_body id.0 other.0 is (record { term = id; lets = lets }) (record { term = other; lets = other_lets }) refl refl

  -- as disjuncts
  not_read : (p q : Place) (ids args : List TermId) → matched p.term.0 q.term.0 → AreMatched matched ids args → (op : OpKind)
      → AreReadingsMatched matched (disjunct_form nodes (Op op ids) p) (disjunct_form others (Op op args) q)
  not_read p q [] [] is h Not = is
  not_read p q [] (o ∷ args) is h Not = absurd h
  not_read p q (id ∷ ids) [] is h Not = absurd h
  not_read p q (id ∷ []) (o ∷ []) is h Not = body_here p.lets q.lets id o h.0
  not_read p q (id ∷ []) (o ∷ x ∷ args) is h Not = absurd h.1
  not_read p q (id ∷ x ∷ ids) (o ∷ []) is h Not = absurd h.1
  not_read p q (id ∷ x ∷ ids) (o ∷ y ∷ args) is h Not = is
  not_read p q ids args is h _ = is

  abbrev DisjunctForm : Reading → Place → Node → Type 0
  DisjunctForm x q other = AreReadingsMatched matched x (disjunct_form others other q)

  disjunct_read : (p q : Place) (node other : Node) → matched p.term.0 q.term.0 → IsNodeLike matched node other → DisjunctForm (disjunct_form nodes node p) q other
  disjunct_read p q (Num k) other is h = subst (DisjunctForm (Err p.term) q) (sym h) is
  disjunct_read p q True other is h = subst (DisjunctForm (Err p.term) q) (sym h) is
  disjunct_read p q False other is h = subst (DisjunctForm (Err p.term) q) (sym h) is
  disjunct_read p q (Var binder sort) other is h = subst (DisjunctForm (Err p.term) q) (sym h) is
  disjunct_read p q (LetVar bound) other is h = subst (DisjunctForm (Err p.term) q) (sym h.1) is
  disjunct_read p q (Pred pred args) other is h =
      subst (DisjunctForm (disjunct_form nodes (Pred pred args) p) q) (sym h.1) (head_read matched (is_plain_term nodes) (is_plain_term others) same_plain pred args h.0 p q h.2 is)
  disjunct_read p q (Op op args) other is h = subst (DisjunctForm (disjunct_form nodes (Op op args) p) q) (sym h.1) (not_read p q args h.0 is h.2 op)
  disjunct_read p q (Divisible by arg) other is h = subst (DisjunctForm (Err p.term) q) (sym h.1) is
  disjunct_read p q (Let bound body) other is h = subst (DisjunctForm (Err p.term) q) (sym h.2) is
  disjunct_read p q (Forall first sorts body) other is h = subst (DisjunctForm (Err p.term) q) (sym h.1) is
  disjunct_read p q (Exists first sorts body) other is h = subst (DisjunctForm (Err p.term) q) (sym h.1) is

  same_disjunct : (lets other_lets : List TermId) (id other : TermId) → matched id.0 other.0
      → AreReadingsMatched matched (disjunct_reading nodes (slice_get nodes id.0) (record { term = id; lets = lets })) (disjunct_reading others (slice_get others other.0) (record { term = other; lets = other_lets }))
  same_disjunct lets other_lets id other is =
      let found = like id.0 other.0 is in
      let p : Place = record { term = id; lets = lets } in
      let q : Place = record { term = other; lets = other_lets } in
      let step : AreReadingsMatched matched (disjunct_reading nodes (Some found.0) p) (disjunct_reading others (Some found.1) q) =
      by_two_tests matched (is_plain_term nodes) (is_plain_term others) same_plain (node_is_plain (is_plain_term nodes) found.0) (node_is_plain (is_plain_term others) found.1) _ _ _ _
      (node_plain matched (is_plain_term nodes) (is_plain_term others) same_plain found.0 found.1 found.4) (guard_matched matched true p q is) (disjunct_read p q found.0 found.1 is found.4) in
      subst (λ (x : Option Node). AreReadingsMatched matched (disjunct_reading nodes x p) (disjunct_reading others (slice_get others other.0) q)) (sym found.2)
      (subst (λ (y : Option Node). AreReadingsMatched matched (disjunct_reading nodes (Some found.0) p) (disjunct_reading others y q)) (sym found.3) step)

  applied_node : (node other : Node) → IsNodeLike matched node other → is_application (Some node) ≡ is_application (Some other)
  applied_node (Num k) other h = ap (λ (m : Node). is_application (Some m)) (sym h)
  applied_node True other h = ap (λ (m : Node). is_application (Some m)) (sym h)
  applied_node False other h = ap (λ (m : Node). is_application (Some m)) (sym h)
  applied_node (Var binder sort) other h = ap (λ (m : Node). is_application (Some m)) (sym h)
  applied_node (LetVar bound) other h = ap (λ (m : Node). is_application (Some m)) (sym h.1)
  applied_node (Pred pred args) other h = ap (λ (m : Node). is_application (Some m)) (sym h.1)
  applied_node (Op op args) other h = ap (λ (m : Node). is_application (Some m)) (sym h.1)
  applied_node (Divisible by arg) other h = ap (λ (m : Node). is_application (Some m)) (sym h.1)
  applied_node (Let bound body) other h = ap (λ (m : Node). is_application (Some m)) (sym h.2)
  applied_node (Forall first sorts body) other h = ap (λ (m : Node). is_application (Some m)) (sym h.1)
  applied_node (Exists first sorts body) other h = ap (λ (m : Node). is_application (Some m)) (sym h.1)

  same_applied : (a b : ℕ) → matched a b → is_application (slice_get nodes a) ≡ is_application (slice_get others b)
  same_applied a b is = let found = like a b is in ap is_application found.2 ∙ applied_node found.0 found.1 found.4 ∙ ap is_application (sym found.3)

  disjuncts_read : (lets other_lets ids args : List TermId) (headed other_headed : Bool) → headed ≡ other_headed → AreMatched matched ids args
      → AreReadingsMatched matched (disjuncts nodes headed lets ids) (disjuncts others other_headed other_lets args)
  disjuncts_read lets other_lets [] [] headed other_headed e h = nothing_matched matched
  disjuncts_read lets other_lets [] (o ∷ args) headed other_headed e h = absurd h
  disjuncts_read lets other_lets (id ∷ ids) [] headed other_headed e h = absurd h
  disjuncts_read lets other_lets (id ∷ ids) (o ∷ args) headed other_headed e h =
      let applied = same_applied id.0 o.0 h.0 in
      let second : (headed && is_application (slice_get nodes id.0)) ≡ (other_headed && is_application (slice_get others o.0)) =
      ap (λ (b : Bool). b && is_application (slice_get nodes id.0)) e ∙ ap (λ (b : Bool). other_headed && b) applied in
      let later : (headed || is_application (slice_get nodes id.0)) ≡ (other_headed || is_application (slice_get others o.0)) =
      ap (λ (b : Bool). b || is_application (slice_get nodes id.0)) e ∙ ap (λ (b : Bool). other_headed || b) applied in
      by_two_tests matched (is_plain_term nodes) (is_plain_term others) same_plain _ _ _ _ _ _ second h.0
      (both_matched matched _ _ _ _ (same_disjunct lets other_lets id o h.0) (disjuncts_read lets other_lets ids args (headed || is_application (slice_get nodes id.0)) (other_headed || is_application (slice_get others o.0)) later h.1))

  -- a denied body
  abbrev Denial : Reading → Place → Node → Type 0
  Denial x q other = AreReadingsMatched matched x (denial others (Some other) q)

  denial_read : (p q : Place) (node other : Node) → matched p.term.0 q.term.0 → IsNodeLike matched node other → Denial (denial nodes (Some node) p) q other
  denial_read p q (Num k) other is h = subst (Denial (body_reading nodes p.term.0 p) q) (sym h) (same_body p.term.0 q.term.0 is p q refl refl)
  denial_read p q True other is h = subst (Denial (body_reading nodes p.term.0 p) q) (sym h) (same_body p.term.0 q.term.0 is p q refl refl)
  denial_read p q False other is h = subst (Denial (body_reading nodes p.term.0 p) q) (sym h) (same_body p.term.0 q.term.0 is p q refl refl)
  denial_read p q (Var binder sort) other is h = subst (Denial (body_reading nodes p.term.0 p) q) (sym h) (same_body p.term.0 q.term.0 is p q refl refl)
  denial_read p q (LetVar bound) other is h = subst (Denial (body_reading nodes p.term.0 p) q) (sym h.1) (same_body p.term.0 q.term.0 is p q refl refl)
  denial_read p q (Pred pred args) other is h = subst (Denial (body_reading nodes p.term.0 p) q) (sym h.1) (same_body p.term.0 q.term.0 is p q refl refl)
  denial_read p q (Op op args) other is h = subst (Denial (body_reading nodes p.term.0 p) q) (sym h.1) (same_body p.term.0 q.term.0 is p q refl refl)
  denial_read p q (Divisible by arg) other is h = subst (Denial (body_reading nodes p.term.0 p) q) (sym h.1) (same_body p.term.0 q.term.0 is p q refl refl)
  denial_read p q (Let bound body) other is h = subst (Denial (body_reading nodes p.term.0 p) q) (sym h.2) (same_body p.term.0 q.term.0 is p q refl refl)
  denial_read p q (Forall first sorts body) other is h = subst (Denial (body_reading nodes p.term.0 p) q) (sym h.1) (same_body p.term.0 q.term.0 is p q refl refl)
  denial_read p q (Exists first sorts body) other is h =
      subst (Denial (quantified_reading sorts (at (body_reading nodes) p.lets body)) q) (sym h.1)
      (quantified_matched matched sorts (at (body_reading nodes) p.lets body) (at (body_reading others) q.lets h.0) (body_here p.lets q.lets body h.0 h.2))

  same_denial : (lets other_lets : List TermId) (id other : TermId) → matched id.0 other.0
      → AreReadingsMatched matched (denial nodes (slice_get nodes id.0) (record { term = id; lets = lets })) (denial others (slice_get others other.0) (record { term = other; lets = other_lets }))
  same_denial lets other_lets id other is =
      let found = like id.0 other.0 is in
      let p : Place = record { term = id; lets = lets } in
      let q : Place = record { term = other; lets = other_lets } in
      subst (λ (x : Option Node). AreReadingsMatched matched (denial nodes x p) (denial others (slice_get others other.0) q)) (sym found.2)
      (subst (λ (y : Option Node). AreReadingsMatched matched (denial nodes (Some found.0) p) (denial others y q)) (sym found.3) (denial_read p q found.0 found.1 is found.4))

  -- as clauses
  module _ (f g : ℕ → Place → Reading) where
    abbrev Clause : ℕ → ℕ → Type 0
    Clause = With matched (AreReadAt matched f g)

    implied_read : (p q : Place) (ids args : List TermId) → matched p.term.0 q.term.0 → AreMatched Clause ids args
        → AreReadingsMatched matched (implication (body_reading nodes) f p ids) (implication (body_reading others) g q args)
    implied_read p q [] [] is h = is
    implied_read p q [] (o ∷ args) is h = absurd h
    implied_read p q (id ∷ ids) [] is h = absurd h
    implied_read p q (id ∷ []) (o ∷ []) is h = h.0.1 (record { term = id; lets = p.lets }) (record { term = o; lets = q.lets }) refl refl
    implied_read p q (id ∷ []) (o ∷ x ∷ args) is h = absurd h.1
    implied_read p q (id ∷ x ∷ ids) (o ∷ []) is h = absurd h.1
    implied_read p q (id ∷ x ∷ ids) (o ∷ y ∷ args) is h =
        both_matched matched (at (body_reading nodes) p.lets id) (at (body_reading others) q.lets o) (implication (body_reading nodes) f p (x ∷ ids)) (implication (body_reading others) g q (y ∷ args))
        (body_here p.lets q.lets id o h.0.0) (implied_read p q (x ∷ ids) (y ∷ args) is h.1)

    denied_read : (p q : Place) (ids args : List TermId) → matched p.term.0 q.term.0 → AreMatched Clause ids args
        → AreReadingsMatched matched (clause_form nodes f (Op Not ids) p) (clause_form others g (Op Not args) q)
    denied_read p q [] [] is h = is
    denied_read p q [] (o ∷ args) is h = absurd h
    denied_read p q (id ∷ ids) [] is h = absurd h
    denied_read p q (id ∷ []) (o ∷ []) is h = same_denial p.lets q.lets id o h.0.0
    denied_read p q (id ∷ []) (o ∷ x ∷ args) is h = absurd h.1
    denied_read p q (id ∷ x ∷ ids) (o ∷ []) is h = absurd h.1
    denied_read p q (id ∷ x ∷ ids) (o ∷ y ∷ args) is h = is

    operation_read : (p q : Place) (ids args : List TermId) → matched p.term.0 q.term.0 → AreMatched Clause ids args → (op : OpKind)
        → AreReadingsMatched matched (clause_form nodes f (Op op ids) p) (clause_form others g (Op op args) q)
    operation_read p q ids args is h Implies = implied_read p q ids args is h
    operation_read p q ids args is h Or = disjuncts_read p.lets q.lets ids args false false refl (only matched (AreReadAt matched f g) ids args h)
    operation_read p q ids args is h Not = denied_read p q ids args is h
    operation_read p q ids args is h _ = is

    abbrev ClauseForm : Reading → Place → Node → Type 0
    ClauseForm x q other = AreReadingsMatched matched x (clause_form others g other q)

    clause_read : (p q : Place) (node other : Node) → matched p.term.0 q.term.0 → IsNodeLike Clause node other → ClauseForm (clause_form nodes f node p) q other
    clause_read p q (Num k) other is h = subst (ClauseForm (Err p.term) q) (sym h) is
    clause_read p q True other is h = subst (ClauseForm (Err p.term) q) (sym h) is
    clause_read p q False other is h = subst (ClauseForm (Err p.term) q) (sym h) is
    clause_read p q (Var binder sort) other is h = subst (ClauseForm (Err p.term) q) (sym h) is
    clause_read p q (LetVar bound) other is h = subst (ClauseForm (Err p.term) q) (sym h.1) is
    clause_read p q (Pred pred args) other is h =
        subst (ClauseForm (clause_form nodes f (Pred pred args) p) q) (sym h.1)
        (head_read matched (is_plain_term nodes) (is_plain_term others) same_plain pred args h.0 p q (only matched (AreReadAt matched f g) args h.0 h.2) is)
    clause_read p q (Op op args) other is h = subst (ClauseForm (clause_form nodes f (Op op args) p) q) (sym h.1) (operation_read p q args h.0 is h.2 op)
    clause_read p q (Divisible by arg) other is h = subst (ClauseForm (Err p.term) q) (sym h.1) is
    clause_read p q (Let bound body) other is h =
        subst (ClauseForm (clause_form nodes f (Let bound body) p) q) (sym h.2)
        (bound_read matched (is_plain_term nodes) (is_plain_term others) same_plain bound h.0 (at f (p.lets ++ p.term ∷ []) body) (at g (q.lets ++ q.term ∷ []) h.1)
        (only matched (AreReadAt matched f g) bound h.0 h.3)
        (h.4.1 (record { term = body; lets = p.lets ++ p.term ∷ [] }) (record { term = h.1; lets = q.lets ++ q.term ∷ [] }) refl refl))
    clause_read p q (Forall first sorts body) other is h =
        subst (ClauseForm (clause_form nodes f (Forall first sorts body) p) q) (sym h.1)
        (quantified_matched matched sorts (at f p.lets body) (at g q.lets h.0) (h.2.1 (record { term = body; lets = p.lets }) (record { term = h.0; lets = q.lets }) refl refl))
    clause_read p q (Exists first sorts body) other is h = subst (ClauseForm (Err p.term) q) (sym h.1) is

  pub same_clause : (a b : ℕ) → matched a b → AreReadAt matched (clause_reading nodes) (clause_reading others) a b
  same_clause = by_two nodes others matched (AreReadAt matched (clause_reading nodes) (clause_reading others)) arena other_arena like
      (λ a b node other is there there_too below below_too parts p q first second.
      let here : matched p.term.0 q.term.0 = subst (λ (x : ℕ). matched x q.term.0) (sym first) (subst (λ (y : ℕ). matched a y) (sym second) is) in
      let step : AreReadingsMatched matched (node_clause nodes (clause_reading nodes) node p) (node_clause others (clause_reading others) other q) =
      by_two_tests matched (is_plain_term nodes) (is_plain_term others) same_plain (node_is_plain (is_plain_term nodes) node) (node_is_plain (is_plain_term others) other) _ _ _ _
      (node_plain matched (is_plain_term nodes) (is_plain_term others) same_plain node other (only_like matched (AreReadAt matched (clause_reading nodes) (clause_reading others)) node other parts))
      (guard_matched matched true p q here) (clause_read (clause_reading nodes) (clause_reading others) p q node other here parts) in
      subst (λ (x : Reading). AreReadingsMatched matched x (clause_reading others b q)) (sym (clause_at nodes a node p there below))
      (subst (λ (y : Reading). AreReadingsMatched matched (node_clause nodes (clause_reading nodes) node p) y) (sym (clause_at others b other q there_too below_too)) step))
