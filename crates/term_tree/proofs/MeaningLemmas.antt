-- In an arena a term means what its node means over its parts.
use Rattle.std.proofs.Common.{◌≡◌, ℕ, zero, suc, ◌+◌, ◌<◌, List, [], ◌∷◌, ◌++◌, length, get_or, Bool, true, false, ◌&&◌, refl, ap, sym, subst, arith, length-append}
use Rattle.std.proofs.lemmas.Bool.Decides.{nat_tests}
use Rattle.std.proofs.lemmas.Option.{get_or_from_slice_get, slice_get_within}
use Rattle.std.specs.Prelude.{slice_get, Option, Some, None, nat_lt, map}
use Rattle.std.specs.List.{list_all}
use Rattle.term_tree.specs.declared.sort.Sort.{Sort}
use Rattle.term_tree.specs.declared.node.TermId.{TermId}
use Rattle.term_tree.specs.declared.node.Node.{Node}
use Rattle.term_tree.specs.declared.node.Node.TheVariants.{Num, True, False, Var, LetVar, Pred, Op, Divisible, Let, Forall, Exists}
use Rattle.term_tree.specs.declared.scalar.Value.{Value}
use Rattle.term_tree.specs.declared.scalar.Value.TheVariants.{Int, Bool as Truth}
use Rattle.term_tree.specs.Arena.{is_below, has_parts_below}
use Rattle.term_tree.specs.Operators.{result_of, divides, integer, first_of_all}
use Rattle.term_tree.specs.Value.{Environment}
use Rattle.term_tree.specs.Truth.{Interpretation, Meaning, AreKnown, Determines, HoldsForAll, HoldsForSome, bound_from, node_meaning, meaning_in, meanings_from, HasValue}

pub both_true : (a b : Bool) → (a && b) ≡ true → (a ≡ true) × (b ≡ true)
both_true true b h = (refl, h)
both_true false b h = absurd (cc)

pub below_from : (k n : ℕ) → nat_lt k n ≡ true → k < n
below_from k n h = grind (arith, nat_tests)

-- below n the one meaning implies the other
abbrev Implies : (ℕ → Meaning) → (ℕ → Meaning) → ℕ → Type 0
Implies p q n = (c : ℕ) → c < n → (env : Environment) (v : Value) → p c env v → q c env v

more_known : (p q : ℕ → Meaning) (n : ℕ) (ids : List TermId) (env : Environment) (known : List (Option Value)) → Implies p q n
    → list_all (is_below n) ids ≡ true → AreKnown p ids env known → AreKnown q ids env known
more_known p q n [] env [] more below h = tt
more_known p q n [] env (k ∷ known) more below h = absurd h
more_known p q n (id ∷ ids) env [] more below h = absurd h
more_known p q n (id ∷ ids) env (None ∷ known) more below h = more_known p q n ids env known more (both_true (nat_lt id.0 n) (list_all (is_below n) ids) below).1 h
more_known p q n (id ∷ ids) env (Some v ∷ known) more below h =
    let both = both_true (nat_lt id.0 n) (list_all (is_below n) ids) below in
    (more id.0 (below_from id.0 n both.0) env v h.0, more_known p q n ids env known more both.1 h.1)

more_determined : (p q : ℕ → Meaning) (n : ℕ) (ids : List TermId) (result : List Value → Value) (env : Environment) (v : Value) → Implies p q n
    → list_all (is_below n) ids ≡ true → Determines p ids result env v → Determines q ids result env v
more_determined p q n ids result env v more below h = (h.0, more_known p q n ids env h.0 more below h.1, h.2)

pub for_all : (p q : Meaning) (first : ℕ) (sorts : List Sort) (env : Environment) (v : Value) → ((e : Environment) (w : Value) → p e w → q e w)
    → HoldsForAll p first sorts env v → HoldsForAll q first sorts env v
for_all p q first sorts env (Int n) more h = h
for_all p q first sorts env (Truth true) more h = λ values have. more (bound_from first values env) (Truth true) (h values have)
for_all p q first sorts env (Truth false) more h = (h.0, h.1, more (bound_from first h.0 env) (Truth false) h.2)

pub for_some : (p q : Meaning) (first : ℕ) (sorts : List Sort) (env : Environment) (v : Value) → ((e : Environment) (w : Value) → p e w → q e w)
    → HoldsForSome p first sorts env v → HoldsForSome q first sorts env v
for_some p q first sorts env (Int n) more h = h
for_some p q first sorts env (Truth false) more h = λ values have. more (bound_from first values env) (Truth false) (h values have)
for_some p q first sorts env (Truth true) more h = (h.0, h.1, more (bound_from first h.0 env) (Truth true) h.2)

-- what a node means rests on its parts alone
more_parts : (I : Interpretation) (p q : ℕ → Meaning) (n : ℕ) (node : Node) (env : Environment) (v : Value) → Implies p q n
    → has_parts_below n node ≡ true → node_meaning I p node env v → node_meaning I q node env v
more_parts I p q n (Num k) env v more below h = h
more_parts I p q n True env v more below h = h
more_parts I p q n False env v more below h = h
more_parts I p q n (Var binder sort) env v more below h = h
more_parts I p q n (LetVar bound) env v more below h = more bound.0 (below_from bound.0 n below) env v h
more_parts I p q n (Pred pred args) env v more below h = more_determined p q n args (I pred) env v more below h
more_parts I p q n (Op op args) env v more below h = more_determined p q n args (result_of op) env v more below h
more_parts I p q n (Divisible by arg) env v more below h =
    more_determined p q n (arg ∷ []) (λ values. Truth (divides by (first_of_all (map integer values)))) env v more (ap (λ (b : Bool). b && true) below) h
more_parts I p q n (Let bound body) env v more below h =
    let both = both_true (list_all (is_below n) bound) (nat_lt body.0 n) below in more body.0 (below_from body.0 n both.1) env v h
more_parts I p q n (Forall first sorts body) env v more below h = for_all (p body.0) (q body.0) first sorts env v (more body.0 (below_from body.0 n below)) h
more_parts I p q n (Exists first sorts body) env v more below h = for_some (p body.0) (q body.0) first sorts env v (more body.0 (below_from body.0 n below)) h

-- what stands earlier stays
longer : (earlier more : List Meaning) (k : ℕ) (env : Environment) (v : Value) → meaning_in earlier k env v → meaning_in (earlier ++ more) k env v
longer [] more k env v h = absurd h
longer (m ∷ earlier) more zero env v h = h
longer (m ∷ earlier) more (suc k) env v h = longer earlier more k env v h

shorter : (earlier more : List Meaning) (k : ℕ) (env : Environment) (v : Value) → k < length earlier → meaning_in (earlier ++ more) k env v → meaning_in earlier k env v
shorter [] more k env v within h = absurd (omega arith)
shorter (m ∷ earlier) more zero env v within h = h
shorter (m ∷ earlier) more (suc k) env v within h = shorter earlier more k env v (omega arith) h

module _ (I : Interpretation) where
  kept : (earlier : List Meaning) (nodes : List Node) (k : ℕ) (env : Environment) (v : Value) → meaning_in earlier k env v → meaning_in (meanings_from I earlier nodes) k env v
  kept earlier [] k env v h = h
  kept earlier (node ∷ nodes) k env v h =
      kept (earlier ++ node_meaning I (meaning_in earlier) node ∷ []) nodes k env v (longer earlier (node_meaning I (meaning_in earlier) node ∷ []) k env v h)

  was : (earlier : List Meaning) (nodes : List Node) (k : ℕ) (env : Environment) (v : Value) → k < length earlier → meaning_in (meanings_from I earlier nodes) k env v → meaning_in earlier k env v
  was earlier [] k env v within h = h
  was earlier (node ∷ nodes) k env v within h =
      let m : Meaning = node_meaning I (meaning_in earlier) node in
      let still : k < length (earlier ++ m ∷ []) = omega (arith, length-append earlier (m ∷ [])) in
      shorter earlier (m ∷ []) k env v within (was (earlier ++ m ∷ []) nodes k env v still h)

last_of : (earlier : List Meaning) (m : Meaning) (env : Environment) (v : Value) → m env v → meaning_in (earlier ++ m ∷ []) (length earlier) env v
last_of [] m env v h = h
last_of (e ∷ earlier) m env v h = last_of earlier m env v h

is_last : (earlier : List Meaning) (m : Meaning) (env : Environment) (v : Value) → meaning_in (earlier ++ m ∷ []) (length earlier) env v → m env v
is_last [] m env v h = h
is_last (e ∷ earlier) m env v h = is_last earlier m env v h

-- the two imply each other
pub record Both (A B : Type 0) : Type 0 where
  pub forth : A → B
  pub back : B → A

at_node : (I : Interpretation) (earlier : List Meaning) (nodes : List Node) (i n : ℕ) (d : Node) (env : Environment) (v : Value) → n ≡ length earlier + i → i < length nodes
    → has_parts_below n (get_or nodes i d) ≡ true
    → Both (meaning_in (meanings_from I earlier nodes) n env v) (node_meaning I (meaning_in (meanings_from I earlier nodes)) (get_or nodes i d) env v)
at_node I earlier [] i n d env v e h below = absurd (omega arith)
at_node I earlier (node ∷ nodes) zero n d env v e h below =
    let m : Meaning = node_meaning I (meaning_in earlier) node in
    let here : n ≡ length earlier = omega arith in
    let within : n < length (earlier ++ m ∷ []) = omega (arith, length-append earlier (m ∷ [])) in
    record {
      forth = λ h. more_parts I (meaning_in earlier) (meaning_in (meanings_from I earlier (node ∷ nodes))) n node env v (λ c lt e w. kept I earlier (node ∷ nodes) c e w) below
          (is_last earlier m env v (subst (λ (k : ℕ). meaning_in (earlier ++ m ∷ []) k env v) here (was I (earlier ++ m ∷ []) nodes n env v within h)));
      back = λ h. kept I (earlier ++ m ∷ []) nodes n env v (subst (λ (k : ℕ). meaning_in (earlier ++ m ∷ []) k env v) (sym here) (last_of earlier m env v
          (more_parts I (meaning_in (meanings_from I earlier (node ∷ nodes))) (meaning_in earlier) n node env v
          (λ c lt e w. was I earlier (node ∷ nodes) c e w (omega arith)) below h)));
    }
at_node I earlier (node ∷ nodes) (suc i) n d env v e h below =
    let m : Meaning = node_meaning I (meaning_in earlier) node in
    at_node I (earlier ++ m ∷ []) nodes i n d env v (omega (arith, length-append earlier (m ∷ []))) (omega arith) below

-- a term has a value exactly where its node gives that value for its parts
pub has_value_at : (I : Interpretation) (nodes : List Node) (id : ℕ) (node : Node) (env : Environment) (v : Value) → slice_get nodes id ≡ Some node → has_parts_below id node ≡ true
    → Both (HasValue I nodes id env v) (node_meaning I (HasValue I nodes) node env v)
has_value_at I nodes id node env v is below =
    let same : get_or nodes id node ≡ node = get_or_from_slice_get nodes id node node is in
    let P : Node → Type 0 = λ m. Both (HasValue I nodes id env v) (node_meaning I (HasValue I nodes) m env v) in
    subst P same (at_node I [] nodes id id node env v (omega arith) (slice_get_within nodes id node is) (subst (λ (m : Node). has_parts_below id m ≡ true) (sym same) below))
