-- Terms that end in a predicate are true where that predicate is true everywhere.
use Rattle.std.proofs.Common.{◌≡◌, ℕ, zero, suc, ◌<◌, List, [], ◌∷◌, ◌++◌, map, Bool, true, false, refl, ap, sym, ◌∙◌, arith}
use Rattle.std.proofs.Math.Bool.{or-true}
use Rattle.std.specs.Prelude.{slice_get, Option, Some, None, not, ◌||◌}
use Rattle.term_tree.specs.declared.node.TermId.{TermId}
use Rattle.term_tree.specs.declared.node.OpKind.TheVariants.{Implies}
use Rattle.term_tree.specs.declared.node.Node.{Node}
use Rattle.term_tree.specs.declared.node.Node.TheVariants.{Pred, Op, Forall}
use Rattle.term_tree.specs.declared.scalar.Value.{Value}
use Rattle.term_tree.specs.declared.scalar.Value.TheVariants.{Bool as Truth}
use Rattle.term_tree.specs.Operators.{result_of, truth, implied}
use Rattle.term_tree.specs.Value.{Environment}
use Rattle.term_tree.specs.Truth.{Interpretation, Meaning, AreKnown, Completes, Determines, bound_from, HasValue}
use Rattle.term_tree.specs.Agreement.{IsTrueBelow}
use Rattle.term_tree.specs.Arena.{IsArena}
use Rattle.term_tree.specs.Head.{is_applied, ends_applied, node_has_head, has_head}
use Rattle.term_tree.specs.Subterms.{is_part}
use Rattle.term_tree.proofs.FoldLemmas.{head_at, head_is_there}
use Rattle.term_tree.proofs.MeaningLemmas.{below_from, has_value_at}
use Rattle.term_tree.proofs.PlainLemmas.{arena_below, eqb_self, part_below, there_is}

-- nothing is known
pub nothing_known : (part : ℕ → Meaning) (ids : List TermId) (env : Environment) → AreKnown part ids env (map (λ (id : TermId). None) ids)
nothing_known part [] env = tt
nothing_known part (id ∷ ids) env = nothing_known part ids env

-- a predicate that is true everywhere, at whatever arguments
pub applied_is_true : (I : Interpretation) (part : ℕ → Meaning) (pred : ℕ) (args : List TermId) (env : Environment) → ((values : List Value) → I pred values ≡ Truth true)
    → Determines part args (I pred) env (Truth true)
applied_is_true I part pred args env all = (map (λ (id : TermId). None) args, nothing_known part args env, λ values completes. sym (all values))

-- of a list the last alone is known
last_known : (part : ℕ → Meaning) (ids : List TermId) (last : TermId) (env : Environment) (v : Value) → part last.0 env v
    → AreKnown part (ids ++ last ∷ []) env (map (λ (id : TermId). None) ids ++ Some v ∷ [])
last_known part [] last env v h = (h, tt)
last_known part (id ∷ ids) last env v h = last_known part ids last env v h

implied_more : (bs : List Bool) → implied (bs ++ true ∷ []) ≡ true
implied_more [] = refl
implied_more (b ∷ []) = or-true (not b)
implied_more (b ∷ d ∷ bs) = ap (λ (x : Bool). not b || x) (implied_more (d ∷ bs)) ∙ or-true (not b)

-- values whose last is known to be true
truths_last : (ids : List TermId) (values : List Value) → Completes (map (λ (id : TermId). None) ids ++ Some (Truth true) ∷ []) values
    → (bs : List Bool) × (map truth values ≡ bs ++ true ∷ [])
truths_last [] [] h = absurd h
truths_last [] (v ∷ []) h = ([], ap (λ (x : Value). truth x ∷ []) h.0)
truths_last [] (v ∷ w ∷ values) h = absurd h.1
truths_last (id ∷ ids) [] h = absurd h
truths_last (id ∷ ids) (v ∷ values) h = let rest = truths_last ids values h in (truth v ∷ rest.0, ap (λ (bs : List Bool). truth v ∷ bs) rest.1)

-- an implication whose last part is true is true
pub implication_is_true : (part : ℕ → Meaning) (ids : List TermId) (last : TermId) (env : Environment) → part last.0 env (Truth true)
    → Determines part (ids ++ last ∷ []) (result_of Implies) env (Truth true)
implication_is_true part ids last env h = (
  map (λ (id : TermId). None) ids ++ Some (Truth true) ∷ [],
  last_known part ids last env (Truth true) h,
  λ values completes. let bs = truths_last ids values completes in sym (ap (λ (xs : List Bool). Truth (implied xs)) bs.1 ∙ ap Truth (implied_more bs.0)),
)

applied_node : (n : ℕ) (node : Option Node) → is_applied n node ≡ true → (pred : ℕ) × (args : List TermId) × (node ≡ Some (Pred pred args)) × (pred < n)
applied_node n (Some (Pred pred args)) h = (pred, args, refl, below_from pred n h)
applied_node n _ h = absurd (cc)

-- a list of terms whose last is the application of a predicate
pub record EndsApplied (n : ℕ) (nodes : List Node) (ids : List TermId) : Type 0 where
  pub parts : List TermId
  pub head : TermId
  pub pred : ℕ
  pub args : List TermId
  pub whole : ids ≡ parts ++ head ∷ []
  pub node : slice_get nodes head.0 ≡ Some (Pred pred args)
  pub below : pred < n

ends : (n : ℕ) (nodes : List Node) (ids : List TermId) → ends_applied n nodes ids ≡ true → EndsApplied n nodes ids
ends n nodes [] h = absurd (cc)
ends n nodes (id ∷ []) h =
    let last = applied_node n (slice_get nodes id.0) h in record { parts = []; head = id; pred = last.0; args = last.1; whole = refl; node = last.2; below = last.3 }
ends n nodes (id ∷ next ∷ ids) h =
    let rest = ends n nodes (next ∷ ids) h in
    record { parts = id ∷ rest.parts; head = rest.head; pred = rest.pred; args = rest.args; whole = ap (λ (xs : List TermId). id ∷ xs) rest.whole; node = rest.node; below = rest.below }

false_not_true : false ≡ true → ⊥
false_not_true h = absurd (cc)

module _ (I : Interpretation) (n : ℕ) (nodes : List Node) (arena : IsArena nodes) (all : IsTrueBelow n I) where
  -- the application of a predicate below n
  pub application : (id pred : ℕ) (args : List TermId) (env : Environment) → slice_get nodes id ≡ Some (Pred pred args) → pred < n → HasValue I nodes id env (Truth true)
  application id pred args env is less =
      (has_value_at I nodes id (Pred pred args) env (Truth true) is (arena_below nodes id (Pred pred args) arena is)).back
      (applied_is_true I (HasValue I nodes) pred args env (λ values. all pred values less))

  -- an implication that ends in one
  pub implication : (id : ℕ) (parts : List TermId) (head : TermId) (pred : ℕ) (args : List TermId) (env : Environment) → slice_get nodes id ≡ Some (Op Implies (parts ++ head ∷ []))
      → slice_get nodes head.0 ≡ Some (Pred pred args) → pred < n → HasValue I nodes id env (Truth true)
  implication id parts head pred args env is at less =
      (has_value_at I nodes id (Op Implies (parts ++ head ∷ [])) env (Truth true) is (arena_below nodes id (Op Implies (parts ++ head ∷ [])) arena is)).back
      (implication_is_true (HasValue I nodes) parts head env (application head.0 pred args env at less))

  headed_node : (id : ℕ) (node : Node) (env : Environment) → slice_get nodes id ≡ Some node → node_has_head n nodes (has_head n nodes) node ≡ true
      → ((body : ℕ) (e : Environment) → is_part body node ≡ true → has_head n nodes body ≡ true → HasValue I nodes body e (Truth true))
      → HasValue I nodes id env (Truth true)
  headed_node id (Pred pred args) env is h parts = application id pred args env is (below_from pred n h)
  headed_node id (Op Implies args) env is h parts =
      let e = ends n nodes args h in
      implication id e.parts e.head e.pred e.args env (is ∙ ap (λ (xs : List TermId). Some (Op Implies xs)) e.whole) e.node e.below
  headed_node id (Forall first sorts body) env is h parts =
      (has_value_at I nodes id (Forall first sorts body) env (Truth true) is (arena_below nodes id (Forall first sorts body) arena is)).back
      (λ values have. parts body.0 (bound_from first values env) (eqb_self body.0) h)
  headed_node id _ env is h parts = absurd (false_not_true h)

  headed_below : (bound id : ℕ) (env : Environment) → id < bound → has_head n nodes id ≡ true → HasValue I nodes id env (Truth true)
  headed_below zero id env less h = absurd (omega arith)
  headed_below (suc bound) id env less h =
      let found = there_is nodes id (head_is_there n nodes id h) in
      let below = arena_below nodes id found.0 arena found.1 in
      headed_node id found.0 env found.1 (sym (head_at n nodes id found.0 found.1 below) ∙ h)
      (λ body e has k. headed_below bound body e (omega (arith, part_below body id found.0 below has)) k)

  -- a term that ends in a predicate below n is true
  pub headed : (id : ℕ) (env : Environment) → has_head n nodes id ≡ true → HasValue I nodes id env (Truth true)
  headed id env h = headed_below (suc id) id env (omega arith) h
