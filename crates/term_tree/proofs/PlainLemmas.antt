-- On terms without predicates and quantifiers the function and the relation agree.
use Rattle.std.proofs.Common.{◌≡◌, ℕ, zero, suc, ◌<◌, List, [], ◌∷◌, length, Bool, true, false, ◌&&◌, ◌||◌, refl, ap, sym, ◌∙◌, subst, arith, map, ◌==◌, inl, inr}
use Rattle.std.proofs.lemmas.Option.{get_or_from_slice_get, slice_get_within, slice_get_cases}
use Rattle.std.proofs.lemmas.Bool.{cases_eq}
use Rattle.std.proofs.lemmas.Bool.Decides.{nat_tests}
use Rattle.std.proofs.Math.Bool.{or-true}
use Rattle.std.specs.Prelude.{slice_get, Some, nat_lt}
use Rattle.std.specs.List.{list_all}
use Rattle.term_tree.specs.declared.node.TermId.{TermId}
use Rattle.term_tree.specs.declared.node.Node.{Node}
use Rattle.term_tree.specs.declared.node.Node.TheVariants.{Num, True, False, Var, LetVar, Pred, Op, Divisible, Let, Forall, Exists}
use Rattle.term_tree.specs.declared.scalar.Value.{Value}
use Rattle.term_tree.specs.declared.scalar.Value.TheVariants.{Bool as Truth}
use Rattle.term_tree.specs.Operators.{result_of, divides, integer, first_of_all}
use Rattle.term_tree.specs.Arena.{IsArena, is_below, has_parts_below}
use Rattle.term_tree.specs.Subterms.{is_among, is_part, IsSubterm, itself, inside, is_plain, IsPlain}
use Rattle.term_tree.specs.Value.{Environment, value_of, node_worth}
use Rattle.term_tree.specs.Truth.{Interpretation, AreKnown, Completes, Determines, node_meaning, HasValue}
use Rattle.term_tree.proofs.MeaningLemmas.{both_true, below_from, has_value_at}
use Rattle.term_tree.proofs.ValueLemmas.{value_at}

pub eqb_self : (k : ℕ) → (k == k) ≡ true
eqb_self k = grind (arith, nat_tests)

-- in an arena the parts of a node stand before it
pub arena_below : (nodes : List Node) (id : ℕ) (node : Node) → IsArena nodes → slice_get nodes id ≡ Some node → has_parts_below id node ≡ true
arena_below nodes id node arena is =
    subst (λ (m : Node). has_parts_below id m ≡ true) (get_or_from_slice_get nodes id node node is) (arena id node (slice_get_within nodes id node is))

-- a subterm of a part is a subterm
pub through : (nodes : List Node) (top : ℕ) (node : Node) (part low : ℕ) → slice_get nodes top ≡ Some node → is_part part node ≡ true
    → IsSubterm nodes part low → IsSubterm nodes top low
through nodes top node part _ is has itself = inside part node itself is has
through nodes top node part _ is has (inside low n s at h) = inside low n (through nodes top node part _ is has s) at h

-- each of these has its value
abbrev Valued : Interpretation → List Node → Environment → List TermId → Type 0
Valued I nodes env ids = (part : ℕ) → is_among part ids ≡ true → HasValue I nodes part env (value_of nodes part env)

valued_known : (I : Interpretation) (nodes : List Node) (env : Environment) (ids : List TermId) → Valued I nodes env ids
    → AreKnown (HasValue I nodes) ids env (map (λ (v : Value). Some v) (map (λ arg. value_of nodes arg.0 env) ids))
valued_known I nodes env [] all = tt
valued_known I nodes env (id ∷ ids) all =
    let first : is_among id.0 (id ∷ ids) ≡ true = ap (λ (b : Bool). b || is_among id.0 ids) (eqb_self id.0) in
    (all id.0 first, valued_known I nodes env ids (λ part h. all part (ap (λ (b : Bool). (id.0 == part) || b) h ∙ or-true (id.0 == part))))

-- where all values are known, no others agree
one_completion : (vs ws : List Value) → Completes (map (λ (v : Value). Some v) vs) ws → ws ≡ vs
one_completion [] [] h = refl
one_completion [] (w ∷ ws) h = absurd h
one_completion (v ∷ vs) [] h = absurd h
one_completion (v ∷ vs) (w ∷ ws) h = ap (λ (x : Value). x ∷ ws) h.0 ∙ ap (λ (xs : List Value). v ∷ xs) (one_completion vs ws h.1)

valued_result : (I : Interpretation) (nodes : List Node) (env : Environment) (ids : List TermId) (result : List Value → Value) → Valued I nodes env ids
    → Determines (HasValue I nodes) ids result env (result (map (λ arg. value_of nodes arg.0 env) ids))
valued_result I nodes env ids result all =
    let vs : List Value = map (λ arg. value_of nodes arg.0 env) ids in
    (map (λ (v : Value). Some v) vs, valued_known I nodes env ids all, λ values completes. ap result (sym (one_completion vs values completes)))

either_false : (a : Bool) → (a || false) ≡ true → a ≡ true
either_false true h = refl
either_false false h = absurd (cc)

valued_node : (I : Interpretation) (nodes : List Node) (env : Environment) (node : Node) → is_plain node ≡ true
    → ((part : ℕ) → is_part part node ≡ true → HasValue I nodes part env (value_of nodes part env))
    → node_meaning I (HasValue I nodes) node env (node_worth (value_of nodes) node env)
valued_node I nodes env (Num n) plain all = refl
valued_node I nodes env True plain all = refl
valued_node I nodes env False plain all = refl
valued_node I nodes env (Var binder sort) plain all = refl
valued_node I nodes env (LetVar bound) plain all = all bound.0 (eqb_self bound.0)
valued_node I nodes env (Pred pred args) plain all = absurd (cc)
valued_node I nodes env (Op op args) plain all = valued_result I nodes env args (result_of op) all
valued_node I nodes env (Divisible by arg) plain all =
    valued_result I nodes env (arg ∷ []) (λ values. Truth (divides by (first_of_all (map integer values)))) (λ part h. all part (either_false (arg.0 == part) h))
valued_node I nodes env (Let bound body) plain all = all body.0 (ap (λ (b : Bool). is_among body.0 bound || b) (eqb_self body.0) ∙ or-true (is_among body.0 bound))
valued_node I nodes env (Forall first sorts body) plain all = absurd (cc)
valued_node I nodes env (Exists first sorts body) plain all = absurd (cc)

among_below : (part n : ℕ) (ids : List TermId) → list_all (is_below n) ids ≡ true → is_among part ids ≡ true → part < n
among_below part n [] below has = absurd (cc)
among_below part n (id ∷ ids) below has =
    let both = both_true (nat_lt id.0 n) (list_all (is_below n) ids) below in
    elim (cases_eq id.0 part) [ inl e ↦ subst (λ (k : ℕ). k < n) e (below_from id.0 n both.0) | inr ne ↦ among_below part n ids both.1 (other id.0 part ids ne has) ]
  where
    other : (k part : ℕ) (ids : List TermId) → (k ≡ part → ⊥) → ((k == part) || is_among part ids) ≡ true → is_among part ids ≡ true
    other k part ids ne h = grind (arith, nat_tests)

pub same_number : (k part : ℕ) → (k == part) ≡ true → k ≡ part
same_number k part h = grind (arith, nat_tests)

-- the parts of a node are below where its arena has them
pub part_below : (part n : ℕ) (node : Node) → has_parts_below n node ≡ true → is_part part node ≡ true → part < n
part_below part n (Num k) below has = absurd (cc)
part_below part n True below has = absurd (cc)
part_below part n False below has = absurd (cc)
part_below part n (Var binder sort) below has = absurd (cc)
part_below part n (LetVar bound) below has = subst (λ (k : ℕ). k < n) (same_number bound.0 part has) (below_from bound.0 n below)
part_below part n (Pred pred args) below has = among_below part n args below has
part_below part n (Op op args) below has = among_below part n args below has
part_below part n (Divisible by arg) below has = subst (λ (k : ℕ). k < n) (same_number arg.0 part has) (below_from arg.0 n below)
part_below part n (Let bound body) below has =
    let both = both_true (list_all (is_below n) bound) (nat_lt body.0 n) below in
    among_below part n (body ∷ bound) (ap (λ (b : Bool). b && list_all (is_below n) bound) both.1 ∙ both.0) (swapped (is_among part bound) (body.0 == part) has)
  where
    swapped : (a b : Bool) → (a || b) ≡ true → (b || a) ≡ true
    swapped true b h = or-true b
    swapped false b h = ap (λ (x : Bool). x || false) h
part_below part n (Forall first sorts body) below has = subst (λ (k : ℕ). k < n) (same_number body.0 part has) (below_from body.0 n below)
part_below part n (Exists first sorts body) below has = subst (λ (k : ℕ). k < n) (same_number body.0 part has) (below_from body.0 n below)

pub there_is : (nodes : List Node) (i : ℕ) → i < length nodes → (node : Node) × (slice_get nodes i ≡ Some node)
there_is nodes i h = elim ((slice_get_cases nodes i).1) [ inl x ↦ (x.0, x.2) | inr past ↦ absurd (omega (arith, past.0)) ]

-- what is there and plain has its value, by the numbers of the terms
valued_below : (I : Interpretation) (nodes : List Node) (env : Environment) (bound id : ℕ) → IsArena nodes → id < bound → id < length nodes → IsPlain nodes id
    → HasValue I nodes id env (value_of nodes id env)
valued_below I nodes env zero id arena within there plain = absurd (omega arith)
valued_below I nodes env (suc bound) id arena within there plain =
    let found = there_is nodes id there in
    let node : Node = found.0 in
    let below : has_parts_below id node ≡ true = arena_below nodes id node arena found.1 in
    let parts : (part : ℕ) → is_part part node ≡ true → HasValue I nodes part env (value_of nodes part env) = λ part has.
    valued_below I nodes env bound part arena (omega (arith, part_below part id node below has)) (omega (arith, part_below part id node below has))
    (λ low n s at. plain low n (through nodes id node part low found.1 has s) at) in
    subst (λ (v : Value). HasValue I nodes id env v) (sym (value_at nodes id node env found.1 below))
    ((has_value_at I nodes id node env (node_worth (value_of nodes) node env) found.1 below).back (valued_node I nodes env node (plain id node itself found.1) parts))

pub valued : (I : Interpretation) (nodes : List Node) (id : ℕ) (env : Environment) → IsArena nodes → id < length nodes → IsPlain nodes id
    → HasValue I nodes id env (value_of nodes id env)
valued I nodes id env arena there plain = valued_below I nodes env (suc id) id arena (omega arith) there plain
