-- A node is worth the same over values that agree on its parts, and so each step of an evaluation finds its term's value.
use Rattle.std.proofs.Common.{◌≡◌, ℕ, zero, suc, ◌+◌, ◌<◌, ◌==◌, List, [], ◌∷◌, length, get_or, drop, take, map, ◌++◌, Bool, true, false, ◌||◌, refl, ap, sym, ◌∙◌, subst, arith, inl, inr, cond, add-one, drop-cons}
use Rattle.std.proofs.Math.Bool.{or-true}
use Rattle.std.proofs.lemmas.List.{take_more, map-append}
use Rattle.std.proofs.lemmas.Bool.{cases_eq}
use Rattle.std.proofs.lemmas.Bool.Decides.{nat_tests}
use Rattle.std.specs.Prelude.{slice_get, Option, Some, None, not, Err, IsErrOf}
use Rattle.std.specs.BTreeMap.{BTreeMap}
use Rattle.term_tree.specs.declared.node.TermId.{TermId}
use Rattle.term_tree.specs.declared.node.OpKind.{OpKind}
use Rattle.term_tree.specs.declared.node.Node.{Node}
use Rattle.term_tree.specs.declared.node.Node.TheVariants.{Num, True, False, Var, LetVar, Pred, Op, Divisible, Let, Forall, Exists}
use Rattle.term_tree.specs.declared.evaluation.ValueStop.{ValueStop}
use Rattle.term_tree.specs.declared.evaluation.ValueStop.TheVariants.{ValueWide}
use Rattle.term_tree.specs.declared.scalar.Value.{Value}
use Rattle.term_tree.specs.declared.scalar.Value.TheVariants.{Bool as Truth}
use Rattle.term_tree.specs.Arena.{has_parts_below}
use Rattle.term_tree.specs.Operators.{result_of, divides, integer}
use Rattle.term_tree.specs.Subterms.{is_among, is_part, IsSubterm, itself, inside}
use Rattle.term_tree.specs.Value.{Environment, Worth, node_worth, value_of}
use Rattle.term_tree.specs.machinery.Walk.{has_number, IsClosed}
use Rattle.term_tree.specs.Width.{results_fit, fitting_result, is_wide, IsWideTerm}
use Rattle.term_tree.specs.machinery.Known.{known_worth, AreKnown, fitting_worth}
use Rattle.term_tree.proofs.ValueLemmas.{value_at}

own_number : (k : ℕ) → (k == k) ≡ true
own_number k = grind (arith, nat_tests)

-- the two give the node's parts the same values
abbrev AgreeOn : (ℕ → Worth) → (ℕ → Worth) → Environment → (ℕ → Bool) → Type 0
AgreeOn p q env parts = (part : ℕ) → parts part ≡ true → p part env ≡ q part env

same_arguments : (p q : ℕ → Worth) (ids : List TermId) (env : Environment) → AgreeOn p q env (λ part. is_among part ids)
    → map (λ id. p id.0 env) ids ≡ map (λ id. q id.0 env) ids
same_arguments p q [] env same = refl
same_arguments p q (id ∷ ids) env same =
    ap (λ (v : Value). v ∷ map (λ (i : TermId). p i.0 env) ids) (same id.0 (ap (λ (b : Bool). b || is_among id.0 ids) (own_number id.0)))
    ∙ ap (λ (vs : List Value). q id.0 env ∷ vs) (same_arguments p q ids env (λ part h. same part (ap (λ (b : Bool). (id.0 == part) || b) h ∙ or-true (id.0 == part))))

pub same_worth : (p q : ℕ → Worth) (node : Node) (env : Environment) → AgreeOn p q env (λ part. is_part part node) → node_worth p node env ≡ node_worth q node env
same_worth p q (Num n) env same = refl
same_worth p q True env same = refl
same_worth p q False env same = refl
same_worth p q (Var binder sort) env same = refl
same_worth p q (LetVar bound) env same = same bound.0 (own_number bound.0)
same_worth p q (Pred pred args) env same = refl
same_worth p q (Op op args) env same = ap (result_of op) (same_arguments p q args env same)
same_worth p q (Divisible by arg) env same = ap (λ (v : Value). Truth (divides by (integer v))) (same arg.0 (own_number arg.0))
same_worth p q (Let bound body) env same = same body.0 (ap (λ (b : Bool). is_among body.0 bound || b) (own_number body.0) ∙ or-true (is_among body.0 bound))
same_worth p q (Forall first sorts body) env same = refl
same_worth p q (Exists first sorts body) env same = refl

pub same_width : (p q : ℕ → Worth) (node : Node) (env : Environment) → AgreeOn p q env (λ part. is_part part node) → is_wide p node env ≡ is_wide q node env
same_width p q (Num n) env same = refl
same_width p q True env same = refl
same_width p q False env same = refl
same_width p q (Var binder sort) env same = refl
same_width p q (LetVar bound) env same = refl
same_width p q (Pred pred args) env same = refl
same_width p q (Op op args) env same = ap (λ (vs : List Value). not (results_fit op vs)) (same_arguments p q args env same)
same_width p q (Divisible by arg) env same = refl
same_width p q (Let bound body) env same = refl
same_width p q (Forall first sorts body) env same = refl
same_width p q (Exists first sorts body) env same = refl

fitting_some : (b : Bool) (v w : Value) → Some w ≡ cond {A = Option Value} b None (Some v) → (b ≡ false) × (w ≡ v)
fitting_some true v w h = absurd (cc)
fitting_some false v w h = (refl, cc)

fitting_none : (b : Bool) (v : Value) → None ≡ cond {A = Option Value} b None (Some v) → b ≡ true
fitting_none true v h = refl
fitting_none false v h = absurd (cc)

flipped : (b : Bool) (v : Value) → cond {A = Option Value} b (Some v) None ≡ cond {A = Option Value} (not b) None (Some v)
flipped true v = refl
flipped false v = refl

-- an operation over its arguments is its node
pub operation : (part : ℕ → Worth) (op : OpKind) (args : List TermId) (env : Environment)
    → fitting_result op (map (λ arg. part arg.0 env) args) ≡ fitting_worth part (Op op args) env
operation part op args env = flipped (results_fit op (map (λ arg. part arg.0 env) args)) (result_of op (map (λ arg. part arg.0 env) args))

pub has_at : (ks : List ℕ) (j : ℕ) → j < length ks → has_number (get_or ks j 0) ks ≡ true
has_at [] j h = absurd (omega arith)
has_at (k ∷ ks) zero h = ap (λ (b : Bool). b || has_number k ks) (own_number k)
has_at (k ∷ ks) (suc j) h = ap (λ (b : Bool). (k == get_or ks j 0) || b) (has_at ks j (omega arith)) ∙ or-true (k == get_or ks j 0)

-- the parts of each come after it
pub parts_after : (nodes : List Node) (ids : List ℕ) (i d : ℕ) (node : Node) (part : ℕ) → IsClosed nodes (λ q. false) ids → i < length ids
    → slice_get nodes (get_or ids i d) ≡ Some node → is_part part node ≡ true → has_number part (drop (i + 1) ids) ≡ true
parts_after nodes [] i d node part closed h at has = absurd (omega arith)
parts_after nodes (id ∷ ids) zero d node part closed h at has = no_more (has_number part ids) (closed.0 node part at has)
  where
    no_more : (b : Bool) → (b || false) ≡ true → b ≡ true
    no_more true e = refl
    no_more false e = e
parts_after nodes (id ∷ ids) (suc i) d node part closed h at has =
    let e : drop (suc i + 1) (id ∷ ids) ≡ drop (i + 1) ids = ap (λ (k : ℕ). drop k (id ∷ ids)) (add-one (suc i)) ∙ ap (λ (k : ℕ). drop k ids) (sym (add-one i)) in
    ap (has_number part) e ∙ parts_after nodes ids i d node part closed.1 (omega arith) at has

module _ (nodes : List Node) (env : Environment) (known : BTreeMap ℕ Value) (ids : List ℕ) (i id : ℕ) (node : Node) (below : has_parts_below id node ≡ true)
    (at : slice_get nodes id ≡ Some node) (closed : IsClosed nodes (λ q. false) ids) (there : i < length ids) (is : id ≡ get_or ids i 0)
    (before : AreKnown nodes env known (drop (i + 1) ids)) where
  agree : AgreeOn (λ q e. known_worth known q) (value_of nodes) env (λ part. is_part part node)
  agree part has = before part (parts_after nodes ids i 0 node part closed there (subst (λ (k : ℕ). slice_get nodes k ≡ Some node) is at) has)

  worth_there : (value : Value) → Some value ≡ fitting_worth (λ q e. known_worth known q) node env → value ≡ value_of nodes id env
  worth_there value found =
      (fitting_some (is_wide (λ q e. known_worth known q) node env) (node_worth (λ q e. known_worth known q) node env) value found).1
      ∙ same_worth (λ q e. known_worth known q) (value_of nodes) node env agree ∙ sym (value_at nodes id node env at below)

  first_of : drop i ids ≡ id ∷ drop (i + 1) ids
  first_of = rw (is, add-one, drop-cons ids i 0)

  after_first : (q : ℕ) → (id ≡ q → ⊥) → has_number q (drop i ids) ≡ true → has_number q (drop (i + 1) ids) ≡ true
  after_first q ne h = other id q (has_number q (drop (i + 1) ids)) ne (ap (has_number q) (sym first_of) ∙ h)
    where
      other : (k q : ℕ) (b : Bool) → (k ≡ q → ⊥) → ((k == q) || b) ≡ true → b ≡ true
      other k q b ne h = grind (arith, nat_tests)

  pub known_more : (value : Value) (more : BTreeMap ℕ Value) → Some value ≡ fitting_worth (λ q e. known_worth known q) node env
      → known_worth more id ≡ value → ((q : ℕ) → (id ≡ q → ⊥) → known_worth more q ≡ known_worth known q) → AreKnown nodes env more (drop i ids)
  known_more value more found put others = λ q h. elim (cases_eq id q) [
    | inl e ↦ subst (λ (k : ℕ). known_worth more k ≡ value_of nodes k env) e (put ∙ worth_there value found)
    | inr ne ↦ others q ne ∙ before q (after_first q ne h)
  ]

  pub fitting_more : (value : Value) → Some value ≡ fitting_worth (λ q e. known_worth known q) node env
      → ((q : ℕ) → has_number q (drop (i + 1) ids) ≡ true → IsWideTerm nodes q env → ⊥) → (q : ℕ) → has_number q (drop i ids) ≡ true → IsWideTerm nodes q env → ⊥
  fitting_more value found fitting q h wide = elim (cases_eq id q) [ inl e ↦ not_wide (subst (λ (k : ℕ). IsWideTerm nodes k env) (sym e) wide) | inr ne ↦ fitting q (after_first q ne h) wide ]
    where
      not_wide : IsWideTerm nodes id env → ⊥
      not_wide w =
          let same : w.0 ≡ node = cc (w.1, at) in
          let here : is_wide (value_of nodes) node env ≡ true = subst (λ (n : Node). is_wide (value_of nodes) n env ≡ true) same w.2 in
          let calm = fitting_some (is_wide (λ q e. known_worth known q) node env) (node_worth (λ q e. known_worth known q) node env) value found in
          let clash : true ≡ false = sym here ∙ sym (same_width (λ q e. known_worth known q) (value_of nodes) node env agree) ∙ calm.0 in
          absurd (cc)

  pub wide_here : None ≡ fitting_worth (λ q e. known_worth known q) node env → (has_number id ids ≡ true) × IsWideTerm nodes id env
  wide_here none = (
    ap (λ (k : ℕ). has_number k ids) is ∙ has_at ids i there,
    (
      node,
      at,
      sym (same_width (λ q e. known_worth known q) (value_of nodes) node env agree)
          ∙ fitting_none (is_wide (λ q e. known_worth known q) node env) (node_worth (λ q e. known_worth known q) node env) none,
    ),
  )

-- every subterm was met
pub all_met : (nodes : List Node) (top : ℕ) (ids : List ℕ) (part : ℕ) → IsClosed nodes (λ q. false) ids → has_number top ids ≡ true → IsSubterm nodes top part
    → has_number part ids ≡ true
all_met nodes top ids _ closed begun itself = begun
all_met nodes top ids _ closed begun (inside {id = id} part node s at has) = stays ids closed (all_met nodes top ids id closed begun s)
  where
    stays : (ks : List ℕ) → IsClosed nodes (λ q. false) ks → has_number id ks ≡ true → has_number part ks ≡ true
    stays [] c h = absurd (cc)
    stays (k ∷ ks) c h = elim (cases_eq k id) [
      | inl e ↦ later k ks (first ks (c.0 node part (subst (λ (x : ℕ). slice_get nodes x ≡ Some node) (sym e) at) has))
      | inr ne ↦ later k ks (stays ks c.1 (other k id (has_number id ks) ne h))
    ]
      where
        first : (ks : List ℕ) → (has_number part ks || false) ≡ true → has_number part ks ≡ true
        first ks e = grind arith

        later : (k : ℕ) (ks : List ℕ) → has_number part ks ≡ true → has_number part (k ∷ ks) ≡ true
        later k ks e = ap (λ (b : Bool). (k == part) || b) e ∙ or-true (k == part)

        other : (k q : ℕ) (b : Bool) → (k ≡ q → ⊥) → ((k == q) || b) ≡ true → b ≡ true
        other k q b ne h = grind (arith, nat_tests)

-- one more of a list, each under a function
pub mapped_more : (f : TermId → Value) (ids : List TermId) (i : ℕ) (d : TermId) (values more : List Value) (v : Value) → i < length ids
    → values ≡ map f (take i ids) → v ≡ f (get_or ids i d) → more ≡ values ++ v ∷ [] → more ≡ map f (take (i + 1) ids)
mapped_more f ids i d values more v h is here pushed =
    pushed ∙ ap (λ (vs : List Value). vs ++ v ∷ []) is ∙ ap (λ (x : Value). map f (take i ids) ++ x ∷ []) here
    ∙ sym (ap (map f) (take_more ids i d h) ∙ map-append f (take i ids) (get_or ids i d ∷ []))

-- the term that is wide is the one that is told
pub told_wide : {T : Type 0} (id term : TermId) → IsErrOf {T = T} {E = ValueStop} (Err (ValueWide id)) (ValueWide term) → id ≡ term
told_wide id term h = cc
