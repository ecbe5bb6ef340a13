-- A body is true exactly where its guards and atoms are.
use Rattle.std.proofs.Common.{◌≡◌, ℕ, zero, suc, ◌<◌, List, [], ◌∷◌, ◌++◌, length, Bool, true, false, ◌&&◌, inl, inr, refl, ap, sym, ◌∙◌, subst, arith, map}
use Rattle.std.proofs.lemmas.Bool.{cases_lt}
use Rattle.std.proofs.lemmas.List.Folds.{list_all-append}
use Rattle.std.specs.Prelude.{slice_get, Option, Some, None, Ok, Err, nat_lt, if◌then◌else◌}
use Rattle.std.specs.List.{list_all}
use Rattle.term_tree.specs.declared.sort.Sort.{Sort}
use Rattle.term_tree.specs.declared.node.TermId.{TermId}
use Rattle.term_tree.specs.declared.node.OpKind.TheVariants.{And}
use Rattle.term_tree.specs.declared.node.Node.{Node}
use Rattle.term_tree.specs.declared.node.Node.TheVariants.{Pred, Op, Let}
use Rattle.term_tree.specs.declared.scalar.Value.{Value}
use Rattle.term_tree.specs.declared.scalar.Value.TheVariants.{Bool as Truth}
use Rattle.term_tree.specs.Arena.{IsArena, is_below, has_parts_below}
use Rattle.term_tree.specs.Legal.{next_variable}
use Rattle.term_tree.specs.Operators.{result_of, truth}
use Rattle.term_tree.specs.Truth.{Interpretation, HasValue}
use Rattle.term_tree.specs.Value.{Environment, value_of}
use Rattle.term_tree.proofs.Public.{arena_below, below_from, both_true, has_value_at, numbered_at, there_is, told_past}
use Rattle.horn_shape.specs.declared.clause.AtomUse.{AtomUse}
use Rattle.horn_shape.specs.Instance.{is_met, tuple_of}
use Rattle.horn_shape.specs.Plain.{is_plain_term}
use Rattle.horn_shape.specs.Shape.{Content, Place, Reading, nothing, beside, both, arguments, atom_of, guard_of, either_head, at, each, bound_over, body_form, node_body, body_reading}
use Rattle.horn_shape.specs.Content.{is_true_atom, met}
use Rattle.horn_shape.specs.machinery.Gathering.{place_of}
use Rattle.horn_shape.proofs.KnownLemmas.{AreValued, KeepNumbers, determined, keep_args, keep_plain, keep_then, keep_through, one_through, valued_args, valued_plain}
use Rattle.horn_shape.proofs.ShapeLemmas.{body_plain, body_mixed}

abbrev pub read : Content → Reading
read x = Ok x

abbrev pub misread : TermId → Reading
misread t = Err t

pub same_read : (x c : Content) → read x ≡ Ok c → x ≡ c
same_read x c h = cc

pub never_read : {A : Type 0} (t : TermId) (c : Content) → misread t ≡ Ok c → A
never_read t c h = absurd (cc)

-- what a choice that is there was
pub chosen_ok : (b : Bool) (x : Content) (t : TermId) (c : Content) → (if b then read x else Err t) ≡ Ok c → (b ≡ true) × (x ≡ c)
chosen_ok true x t c h = (refl, cc)
chosen_ok false x t c h = absurd (cc)

pub both_ok : (a b : Reading) (c : Content) → both a b ≡ Ok c → (x : Content) × (y : Content) × (a ≡ Ok x) × (b ≡ Ok y) × (beside x y ≡ c)
both_ok (Err e) b c h = absurd (cc)
both_ok (Ok x) (Err e) c h = absurd (cc)
both_ok (Ok x) (Ok y) c h = (x, y, refl, refl, cc)

pub bound_ok : (plain : ℕ → Bool) (ids : List TermId) (r : Reading) (c : Content) → bound_over plain ids r ≡ Ok c → (list_all (λ b. plain b.0) ids ≡ true) × (r ≡ Ok c)
bound_ok plain [] r c h = (refl, h)
bound_ok plain (b ∷ ids) r c h =
    let first = chosen (plain b.0) (bound_over plain ids r) b c h in
    let rest = bound_ok plain ids r c first.1 in
    (ap (λ (x : Bool). x && list_all (λ (i : TermId). plain i.0) ids) first.0 ∙ rest.0, rest.1)
  where
    chosen : (b : Bool) (x : Reading) (t : TermId) (c : Content) → (if b then x else Err t) ≡ Ok c → (b ≡ true) × (x ≡ Ok c)
    chosen true x t c h = (refl, h)
    chosen false x t c h = absurd (cc)

shuffle : (p q r s : Bool) → ((p && q) && (r && s)) ≡ ((p && r) && (q && s))
shuffle false q r s = refl
shuffle true false true s = refl
shuffle true false false s = refl
shuffle true true r s = refl

pub met_beside : (I : Interpretation) (nodes : List Node) (E : Environment) (a b : Content) → met I nodes E (beside a b) ≡ (met I nodes E a && met I nodes E b)
met_beside I nodes E a b =
    ap (λ (x : Bool). x && list_all (is_true_atom I nodes E) (a.atoms ++ b.atoms)) (list_all-append (is_met nodes E) a.guards b.guards)
    ∙ ap (λ (x : Bool). (list_all (is_met nodes E) a.guards && list_all (is_met nodes E) b.guards) && x) (list_all-append (is_true_atom I nodes E) a.atoms b.atoms)
    ∙ shuffle (list_all (is_met nodes E) a.guards) (list_all (is_met nodes E) b.guards) (list_all (is_true_atom I nodes E) a.atoms) (list_all (is_true_atom I nodes E) b.atoms)

pub and_one : (b : Bool) → b ≡ (b && true)
and_one true = refl
and_one false = refl

-- the tuple of an application is the values of its arguments
pub tuple_is : (nodes : List Node) (E : Environment) (pred : ℕ) (lets args : List TermId)
    → map (λ a. value_of nodes a.0 E) args ≡ tuple_of nodes E (record { pred = pred; args = arguments lets args })
tuple_is nodes E pred lets [] = refl
tuple_is nodes E pred lets (a ∷ args) = ap (λ (vs : List Value). value_of nodes a.0 E ∷ vs) (tuple_is nodes E pred lets args)

-- what is known of a term that is read as a body
pub record IsBody (I : Interpretation) (nodes : List Node) (id : TermId) (c : Content) (E : Environment) : Type 0 where
  pub value : Value
  pub has : HasValue I nodes id.0 E value
  pub meets : truth value ≡ met I nodes E c
  pub vars : c.vars ≡ []
  pub head : c.head ≡ None
  pub keeps : (n m : ℕ) → next_variable nodes id.0 n ≡ Some m → m ≡ n

-- the same of several
pub record AreBodies (I : Interpretation) (nodes : List Node) (ids : List TermId) (c : Content) (E : Environment) : Type 0 where
  pub values : List Value
  pub have : AreValued (HasValue I nodes) ids E values
  pub meets : list_all truth values ≡ met I nodes E c
  pub vars : c.vars ≡ []
  pub head : c.head ≡ None
  pub keeps : KeepNumbers (next_variable nodes) ids

module _ (I : Interpretation) (nodes : List Node) (arena : IsArena nodes) where
  all_bodies : (id : ℕ) (lets ids : List TermId) (c : Content) (E : Environment)
      → ((k : TermId) (lets : List TermId) (x : Content) → k.0 < id → body_reading nodes k.0 (place_of k lets) ≡ Ok x → IsBody I nodes k x E)
      → list_all (is_below id) ids ≡ true → each (body_reading nodes) lets ids ≡ Ok c → AreBodies I nodes ids c E
  all_bodies id lets [] c E ih below h = subst (λ (x : Content). AreBodies I nodes [] x E) (same_read nothing c h) (record { values = []; have = tt; meets = refl; vars = refl; head = refl; keeps = tt })
  all_bodies id lets (k ∷ ids) c E ih below h =
      let low = both_true (nat_lt k.0 id) (list_all (is_below id) ids) below in
      let parts = both_ok (at (body_reading nodes) lets k) (each (body_reading nodes) lets ids) c h in
      let x = parts.0 in
      let y = parts.1 in
      let first = ih k lets x (below_from k.0 id low.0) parts.2 in
      let rest = all_bodies id lets ids y E ih low.1 parts.3 in
      subst (λ (z : Content). AreBodies I nodes (k ∷ ids) z E) parts.4 (record {
        values = first.value ∷ rest.values;
        have = (first.has, rest.have);
        meets = ap (λ (b : Bool). b && list_all truth rest.values) first.meets ∙ ap (λ (b : Bool). met I nodes E x && b) rest.meets ∙ sym (met_beside I nodes E x y);
        vars = ap (λ (vs : List Sort). vs ++ y.vars) first.vars ∙ rest.vars;
        head = ap (λ (a : Option AtomUse). either_head a y.head) first.head ∙ ap (either_head None) rest.head;
        keeps = (first.keeps, rest.keeps);
      })

  module _ (id : TermId) (lets : List TermId) (E : Environment) (is_there : (node : Node) → slice_get nodes id.0 ≡ Some node → has_parts_below id.0 node ≡ true) where
    plain_body : (node : Node) → slice_get nodes id.0 ≡ Some node → is_plain_term nodes id.0 ≡ true → IsBody I nodes id (guard_of false (place_of id lets)) E
    plain_body node is h = record {
      value = value_of nodes id.0 E;
      has = valued_plain nodes arena I id.0 E h;
      meets = and_one (truth (value_of nodes id.0 E)) ∙ and_one (truth (value_of nodes id.0 E) && true);
      vars = refl;
      head = refl;
      keeps = λ n m e. keep_plain nodes arena id.0 n m h e;
    }

    body_node : (node : Node) (c : Content) → slice_get nodes id.0 ≡ Some node
        → ((k : TermId) (lets : List TermId) (x : Content) → k.0 < id.0 → body_reading nodes k.0 (place_of k lets) ≡ Ok x → IsBody I nodes k x E)
        → body_form (is_plain_term nodes) (body_reading nodes) node (place_of id lets) ≡ Ok c → IsBody I nodes id c E
    body_node (Pred pred args) c is ih h =
        let below = is_there (Pred pred args) is in
        let atom : AtomUse = record { pred = pred; args = arguments lets args } in
        let fits = chosen_ok (list_all (λ a. is_plain_term nodes a.0) args) (atom_of atom) id c h in
        let values : List Value = map (λ a. value_of nodes a.0 E) args in
        subst (λ (x : Content). IsBody I nodes id x E) fits.1 (record {
          value = I pred values;
          has = (has_value_at I nodes id.0 (Pred pred args) E (I pred values) is below).back (determined (HasValue I nodes) args E values (I pred) (valued_args nodes arena I args E fits.0));
          meets = ap (λ (vs : List Value). truth (I pred vs)) (tuple_is nodes E pred lets args) ∙ and_one (is_true_atom I nodes E atom);
          vars = refl;
          head = refl;
          keeps = λ n m e. keep_through (next_variable nodes) args n m (keep_args nodes arena args fits.0) (sym (numbered_at nodes id.0 (Pred pred args) n is below) ∙ e);
        })
    body_node (Op And args) c is ih h =
        let below = is_there (Op And args) is in
        let all = all_bodies id.0 lets args c E ih below h in
        record {
          value = Truth (list_all truth all.values);
          has = (has_value_at I nodes id.0 (Op And args) E (Truth (list_all truth all.values)) is below).back (determined (HasValue I nodes) args E all.values (result_of And) all.have);
          meets = all.meets;
          vars = all.vars;
          head = all.head;
          keeps = λ n m e. keep_through (next_variable nodes) args n m all.keeps (sym (numbered_at nodes id.0 (Op And args) n is below) ∙ e);
        }
    body_node (Let bound body) c is ih h =
        let below = is_there (Let bound body) is in
        let low = both_true (list_all (is_below id.0) bound) (nat_lt body.0 id.0) below in
        let fits = bound_ok (is_plain_term nodes) bound (at (body_reading nodes) (lets ++ id ∷ []) body) c h in
        let inner = ih body (lets ++ id ∷ []) c (below_from body.0 id.0 low.1) fits.1 in
        record {
          value = inner.value;
          has = (has_value_at I nodes id.0 (Let bound body) E inner.value is below).back inner.has;
          meets = inner.meets;
          vars = inner.vars;
          head = inner.head;
          keeps = λ n m e. inner.keeps n m (one_through (next_variable nodes) body n m
              (keep_then (next_variable nodes) bound (body ∷ []) n m (keep_args nodes arena bound fits.0) (sym (numbered_at nodes id.0 (Let bound body) n is below) ∙ e)));
        }
    body_node _ c is ih h = absurd (cc)

  by_plain : (b : Bool) (id : TermId) (lets : List TermId) (node : Node) (c : Content) (E : Environment) → slice_get nodes id.0 ≡ Some node → is_plain_term nodes id.0 ≡ b
      → ((k : TermId) (lets : List TermId) (x : Content) → k.0 < id.0 → body_reading nodes k.0 (place_of k lets) ≡ Ok x → IsBody I nodes k x E)
      → body_reading nodes id.0 (place_of id lets) ≡ Ok c → IsBody I nodes id c E
  by_plain true id lets node c E is p ih h =
      let below = arena_below nodes id.0 node arena is in
      let same : guard_of false (place_of id lets) ≡ c = same_read _ c (sym (body_plain nodes id.0 node (place_of id lets) is below p) ∙ h) in
      subst (λ (x : Content). IsBody I nodes id x E) same (plain_body id lets E (λ n e. arena_below nodes id.0 n arena e) node is p)
  by_plain false id lets node c E is p ih h =
      let below = arena_below nodes id.0 node arena is in
      body_node id lets E (λ n e. arena_below nodes id.0 n arena e) node c is ih (sym (body_mixed nodes id.0 node (place_of id lets) is below p) ∙ h)

  pub body_there : (id : TermId) (lets : List TermId) (c : Content) → body_reading nodes id.0 (place_of id lets) ≡ Ok c → id.0 < length nodes
  body_there id lets c h = elim (cases_lt id.0 (length nodes)) [
    | inl less ↦ less
    | inr past ↦
        let none = told_past (Place → Reading) (λ p. Err p.term) (node_body (is_plain_term nodes)) nodes id.0 past in
        never_read id c (ap (λ (f : Place → Reading). f (place_of id lets)) (sym none) ∙ h)
  ]

  body_below : (bound : ℕ) (id : TermId) (lets : List TermId) (c : Content) (E : Environment) → id.0 < bound → body_reading nodes id.0 (place_of id lets) ≡ Ok c → IsBody I nodes id c E
  body_below zero id lets c E less h = absurd (omega arith)
  body_below (suc bound) id lets c E less h =
      let found = there_is nodes id.0 (body_there id lets c h) in
      by_plain (is_plain_term nodes id.0) id lets found.0 c E found.1 refl (λ k ls x lt e. body_below bound k ls x E (omega (arith, lt, less)) e) h

  -- a term that is read as a body has a value, true exactly where its guards and atoms are
  pub body_is : (id : TermId) (lets : List TermId) (c : Content) (E : Environment) → body_reading nodes id.0 (place_of id lets) ≡ Ok c → IsBody I nodes id c E
  body_is id lets c E h = body_below (suc id.0) id lets c E (omega arith) h
