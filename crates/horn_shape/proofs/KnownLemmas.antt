-- Terms without predicates and quantifiers, what lists of arguments decide, and numbers of variables.
use Rattle.std.proofs.Common.{◌≡◌, ℕ, zero, suc, ◌<◌, ◌==◌, List, [], ◌∷◌, ◌++◌, length, Bool, true, false, ◌||◌, inl, inr, refl, ap, sym, ◌∙◌, subst, arith, map}
use Rattle.std.proofs.lemmas.Bool.{cases_eq, cases_lt}
use Rattle.std.proofs.lemmas.Bool.Decides.{nat_tests}
use Rattle.std.specs.Prelude.{slice_get, Option, Some, None, nat_lt}
use Rattle.std.specs.List.{list_all}
use Rattle.term_tree.specs.declared.node.TermId.{TermId}
use Rattle.term_tree.specs.declared.node.Node.{Node}
use Rattle.term_tree.specs.declared.node.Node.TheVariants.{Num, True, False, Var, LetVar, Pred, Op, Divisible, Let, Forall, Exists}
use Rattle.term_tree.specs.declared.scalar.Value.{Value}
use Rattle.term_tree.specs.Arena.{IsArena, is_below, has_parts_below}
use Rattle.term_tree.specs.Legal.{carried, numbers_through, node_numbers, next_variable}
use Rattle.term_tree.specs.Subterms.{is_among, is_part, IsSubterm, itself, inside, is_plain, IsPlain}
use Rattle.term_tree.specs.Truth.{Interpretation, Meaning, AreKnown, Completes, Determines, HasValue}
use Rattle.term_tree.specs.Value.{Environment, value_of}
use Rattle.term_tree.proofs.Public.{arena_below, below_from, both_true, numbered_at, there_is, told_past}
use Rattle.term_tree.proofs.PlainLemmas.{same_number, valued}
use Rattle.horn_shape.specs.Plain.{node_is_plain, is_plain_term}
use Rattle.horn_shape.proofs.FlagLemmas.{plain_at}

-- each of these terms has its value
abbrev pub AreValued : (ℕ → Meaning) → List TermId → Environment → List Value → Type 0
AreValued part [] env [] = Unit {0}
AreValued part (id ∷ ids) env (v ∷ vs) = part id.0 env v × AreValued part ids env vs
AreValued part [] env (v ∷ vs) = ⊥
AreValued part (id ∷ ids) env [] = ⊥

all_known : (part : ℕ → Meaning) (ids : List TermId) (env : Environment) (vs : List Value) → AreValued part ids env vs → AreKnown part ids env (map (λ (v : Value). Some v) vs)
all_known part [] env [] h = tt
all_known part [] env (v ∷ vs) h = absurd h
all_known part (id ∷ ids) env [] h = absurd h
all_known part (id ∷ ids) env (v ∷ vs) h = (h.0, all_known part ids env vs h.1)

one_completion : (vs ws : List Value) → Completes (map (λ (v : Value). Some v) vs) ws → ws ≡ vs
one_completion [] [] h = refl
one_completion [] (w ∷ ws) h = absurd h
one_completion (v ∷ vs) [] h = absurd h
one_completion (v ∷ vs) (w ∷ ws) h = ap (λ (x : Value). x ∷ ws) h.0 ∙ ap (λ (xs : List Value). v ∷ xs) (one_completion vs ws h.1)

pub determined : (part : ℕ → Meaning) (ids : List TermId) (env : Environment) (vs : List Value) (result : List Value → Value) → AreValued part ids env vs
    → Determines part ids result env (result vs)
determined part ids env vs result h = (map (λ (v : Value). Some v) vs, all_known part ids env vs h, λ values completes. ap result (sym (one_completion vs values completes)))

pub among_plain : (f : ℕ → Bool) (part : ℕ) (ids : List TermId) → list_all (λ a. f a.0) ids ≡ true → is_among part ids ≡ true → f part ≡ true
among_plain f part [] plain has = absurd (cc)
among_plain f part (id ∷ ids) plain has =
    let both = both_true (f id.0) (list_all (λ (a : TermId). f a.0) ids) plain in
    elim (cases_eq id.0 part) [ inl e ↦ subst (λ (k : ℕ). f k ≡ true) e both.0 | inr ne ↦ among_plain f part ids both.1 (other id.0 part (is_among part ids) ne has) ]
  where
    other : (k part : ℕ) (b : Bool) → (k ≡ part → ⊥) → ((k == part) || b) ≡ true → b ≡ true
    other k part b ne h = grind (arith, nat_tests)

either_true : {A : Type 0} (a b : Bool) → (a || b) ≡ true → (a ≡ true → A) → (b ≡ true → A) → A
either_true true b h f g = f refl
either_true false b h f g = g h

plain_part : (f : ℕ → Bool) (part : ℕ) (node : Node) → node_is_plain f node ≡ true → is_part part node ≡ true → f part ≡ true
plain_part f part (Num n) plain has = absurd (cc)
plain_part f part True plain has = absurd (cc)
plain_part f part False plain has = absurd (cc)
plain_part f part (Var binder sort) plain has = absurd (cc)
plain_part f part (LetVar bound) plain has = subst (λ (k : ℕ). f k ≡ true) (same_number bound.0 part has) plain
plain_part f part (Pred pred args) plain has = absurd (cc)
plain_part f part (Op op args) plain has = among_plain f part args plain has
plain_part f part (Divisible by arg) plain has = subst (λ (k : ℕ). f k ≡ true) (same_number arg.0 part has) plain
plain_part f part (Let bound body) plain has =
    let both = both_true (list_all (λ (a : TermId). f a.0) bound) (f body.0) plain in
    either_true (is_among part bound) (body.0 == part) has (among_plain f part bound both.0) (λ e. subst (λ (k : ℕ). f k ≡ true) (same_number body.0 part e) both.1)
plain_part f part (Forall first sorts body) plain has = absurd (cc)
plain_part f part (Exists first sorts body) plain has = absurd (cc)

plain_node : (f : ℕ → Bool) (node : Node) → node_is_plain f node ≡ true → is_plain node ≡ true
plain_node f (Pred pred args) plain = absurd (cc)
plain_node f (Forall first sorts body) plain = absurd (cc)
plain_node f (Exists first sorts body) plain = absurd (cc)
plain_node f _ plain = refl

module _ (nodes : List Node) (arena : IsArena nodes) where
  at_plain : (id : ℕ) (node : Node) → slice_get nodes id ≡ Some node → is_plain_term nodes id ≡ true → node_is_plain (is_plain_term nodes) node ≡ true
  at_plain id node is h = sym (plain_at nodes id node is (arena_below nodes id node arena is)) ∙ h

  plain_low : (top low : ℕ) → IsSubterm nodes top low → is_plain_term nodes top ≡ true → is_plain_term nodes low ≡ true
  plain_low top _ itself h = h
  plain_low top _ (inside {id = id} part node s is has) h = plain_part (is_plain_term nodes) part node (at_plain id node is (plain_low top id s h)) has

  -- the test is the definition
  pub plain_is : (id : ℕ) → is_plain_term nodes id ≡ true → IsPlain nodes id
  plain_is id h = λ low node s is. plain_node (is_plain_term nodes) node (at_plain low node is (plain_low id low s h))

  pub plain_there : (id : ℕ) → is_plain_term nodes id ≡ true → id < length nodes
  plain_there id h = elim (cases_lt id (length nodes)) [ inl less ↦ less | inr past ↦ absurd (differs (sym (told_past Bool false node_is_plain nodes id past) ∙ h)) ]
    where
      differs : false ≡ true → ⊥
      differs e = absurd (cc)

  pub valued_plain : (I : Interpretation) (id : ℕ) (env : Environment) → is_plain_term nodes id ≡ true → HasValue I nodes id env (value_of nodes id env)
  valued_plain I id env h = valued I nodes id env arena (plain_there id h) (plain_is id h)

  pub valued_args : (I : Interpretation) (args : List TermId) (env : Environment) → list_all (λ a. is_plain_term nodes a.0) args ≡ true
      → AreValued (HasValue I nodes) args env (map (λ a. value_of nodes a.0 env) args)
  valued_args I [] env h = tt
  valued_args I (a ∷ args) env h =
      let both = both_true (is_plain_term nodes a.0) (list_all (λ (b : TermId). is_plain_term nodes b.0) args) h in
      (valued_plain I a.0 env both.0, valued_args I args env both.1)

-- these terms have no variables of their own
abbrev pub KeepNumbers : (ℕ → ℕ → Option ℕ) → List TermId → Type 0
KeepNumbers f [] = Unit {0}
KeepNumbers f (id ∷ ids) = ((a b : ℕ) → f id.0 a ≡ Some b → b ≡ a) × KeepNumbers f ids

pub carried_on : (g : ℕ → Option ℕ) (x : Option ℕ) (m : ℕ) → carried g x ≡ Some m → (a : ℕ) × (x ≡ Some a) × (g a ≡ Some m)
carried_on g None m h = absurd (cc)
carried_on g (Some a) m h = (a, refl, h)

pub keep_through : (f : ℕ → ℕ → Option ℕ) (ids : List TermId) (n m : ℕ) → KeepNumbers f ids → numbers_through f ids n ≡ Some m → m ≡ n
keep_through f [] n m keep h = cc
keep_through f (id ∷ ids) n m keep h =
    let next = carried_on (λ k. numbers_through f ids k) (f id.0 n) m h in keep_through f ids next.0 m keep.1 next.2 ∙ keep.0 n next.0 next.1

-- what follows some terms that have no variables of their own
pub keep_then : (f : ℕ → ℕ → Option ℕ) (ids more : List TermId) (n m : ℕ) → KeepNumbers f ids → numbers_through f (ids ++ more) n ≡ Some m → numbers_through f more n ≡ Some m
keep_then f [] more n m keep h = h
keep_then f (id ∷ ids) more n m keep h =
    let next = carried_on (λ k. numbers_through f (ids ++ more) k) (f id.0 n) m h in
    subst (λ (k : ℕ). numbers_through f more k ≡ Some m) (keep.0 n next.0 next.1) (keep_then f ids more next.0 m keep.1 next.2)

pub one_through : (f : ℕ → ℕ → Option ℕ) (id : TermId) (n m : ℕ) → numbers_through f (id ∷ []) n ≡ Some m → f id.0 n ≡ Some m
one_through f id n m h =
    let next = carried_on (λ k. numbers_through f [] k) (f id.0 n) m h in next.1 ∙ next.2

module _ (nodes : List Node) (arena : IsArena nodes) where
  keep_all : (id : ℕ) (ids : List TermId) → ((k : ℕ) → k < id → is_plain_term nodes k ≡ true → (a b : ℕ) → next_variable nodes k a ≡ Some b → b ≡ a)
      → list_all (is_below id) ids ≡ true → list_all (λ a. is_plain_term nodes a.0) ids ≡ true → KeepNumbers (next_variable nodes) ids
  keep_all id [] ih below plain = tt
  keep_all id (k ∷ ids) ih below plain =
      let low = both_true (nat_lt k.0 id) (list_all (is_below id) ids) below in
      let both = both_true (is_plain_term nodes k.0) (list_all (λ (a : TermId). is_plain_term nodes a.0) ids) plain in
      (ih k.0 (below_from k.0 id low.0) both.0, keep_all id ids ih low.1 both.1)

  keep_node : (id : ℕ) (node : Node) (n m : ℕ) → has_parts_below id node ≡ true → node_is_plain (is_plain_term nodes) node ≡ true
      → ((k : ℕ) → k < id → is_plain_term nodes k ≡ true → (a b : ℕ) → next_variable nodes k a ≡ Some b → b ≡ a)
      → node_numbers (next_variable nodes) node n ≡ Some m → m ≡ n
  keep_node id (Num k) n m below plain ih h = cc
  keep_node id True n m below plain ih h = cc
  keep_node id False n m below plain ih h = cc
  keep_node id (Var binder sort) n m below plain ih h = cc
  keep_node id (LetVar bound) n m below plain ih h = cc
  keep_node id (Pred pred args) n m below plain ih h = absurd (cc)
  keep_node id (Op op args) n m below plain ih h = keep_through (next_variable nodes) args n m (keep_all id args ih below plain) h
  keep_node id (Divisible by arg) n m below plain ih h = ih arg.0 (below_from arg.0 id below) plain n m h
  keep_node id (Let bound body) n m below plain ih h =
      let low = both_true (list_all (is_below id) bound) (nat_lt body.0 id) below in
      let both = both_true (list_all (λ (a : TermId). is_plain_term nodes a.0) bound) (is_plain_term nodes body.0) plain in
      let rest = one_through (next_variable nodes) body n m (keep_then (next_variable nodes) bound (body ∷ []) n m (keep_all id bound ih low.0 both.0) h) in
      ih body.0 (below_from body.0 id low.1) both.1 n m rest
  keep_node id (Forall first sorts body) n m below plain ih h = absurd (cc)
  keep_node id (Exists first sorts body) n m below plain ih h = absurd (cc)

  keep_below : (bound id n m : ℕ) → id < bound → is_plain_term nodes id ≡ true → next_variable nodes id n ≡ Some m → m ≡ n
  keep_below zero id n m less plain h = absurd (omega arith)
  keep_below (suc bound) id n m less plain h =
      let found = there_is nodes id (plain_there nodes arena id plain) in
      let below = arena_below nodes id found.0 arena found.1 in
      keep_node id found.0 n m below (sym (plain_at nodes id found.0 found.1 below) ∙ plain)
      (λ k lt p a b e. keep_below bound k a b (omega (arith, lt, less)) p e) (sym (numbered_at nodes id found.0 n found.1 below) ∙ h)

  -- a term without quantifiers has no variables of its own
  pub keep_plain : (id n m : ℕ) → is_plain_term nodes id ≡ true → next_variable nodes id n ≡ Some m → m ≡ n
  keep_plain id n m plain h = keep_below (suc id) id n m (omega arith) plain h

  pub keep_args : (ids : List TermId) → list_all (λ a. is_plain_term nodes a.0) ids ≡ true → KeepNumbers (next_variable nodes) ids
  keep_args [] plain = tt
  keep_args (k ∷ ids) plain =
      let both = both_true (is_plain_term nodes k.0) (list_all (λ (a : TermId). is_plain_term nodes a.0) ids) plain in
      (λ a b e. keep_plain k.0 a b both.0 e, keep_args ids both.1)
