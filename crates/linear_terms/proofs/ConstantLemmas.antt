-- The value of a constant is the value that its form gives.
use Rattle.std.proofs.Common.{◌≡◌, ℕ, ◌<◌, List, [], ◌∷◌, length, Bool, true, false, refl, ap, sym, ◌∙◌, map}
use Rattle.std.specs.Prelude.{Option, Some, None, option_map, ℤ, if◌then◌else◌}
use Rattle.term_tree.specs.declared.node.TermId.{TermId}
use Rattle.term_tree.specs.declared.node.Node.{Node}
use Rattle.term_tree.specs.declared.node.Node.TheVariants.{Num, True, False, Var, LetVar, Pred, Op, Divisible, Let, Forall, Exists}
use Rattle.term_tree.specs.declared.node.OpKind.{OpKind}
use Rattle.term_tree.specs.declared.node.OpKind.TheVariants.{Not, And, Or, Xor, Implies, Eq, Distinct, Ite, Add, Mul, Sub, Abs, Div, Mod, Le, Lt, Ge, Gt}
use Rattle.term_tree.specs.declared.scalar.Value.{Value}
use Rattle.term_tree.specs.declared.scalar.Value.TheVariants.{Int}
use Rattle.term_tree.specs.Arena.{IsArena}
use Rattle.term_tree.specs.Constants.{constant_of, node_constant, is_arithmetic, integer_result, all_constant}
use Rattle.term_tree.specs.Operators.{result_of, integer}
use Rattle.term_tree.specs.Subterms.{is_among, is_part, IsSubterm}
use Rattle.term_tree.specs.Value.{Environment, Worth, node_worth, value_of}
use Rattle.term_tree.proofs.Public.{constant_at}
use Rattle.term_tree.proofs.Public.{eqb_self}
use Rattle.term_tree.proofs.Public.{value_at}
use Rattle.linear_terms.proofs.PartLemmas.{by_parts, first_among, later_among, body_among}

-- each constant among these has its value
abbrev pub AreConstant : (ℕ → Option ℤ) → (ℕ → Value) → List TermId → Type 0
AreConstant C W args = (part : ℕ) → is_among part args ≡ true → (k : ℤ) → C part ≡ Some k → W part ≡ Int k

one_more_constant : (C : ℕ → Option ℤ) (W : ℕ → Value) (id : TermId) (ids : List TermId) (ns : List ℤ) → AreConstant C W (id ∷ ids)
    → ((ms : List ℤ) → all_constant (map (λ (arg : TermId). C arg.0) ids) ≡ Some ms → map (λ (arg : TermId). W arg.0) ids ≡ map (λ n. Int n) ms)
    → (c : Option ℤ) → C id.0 ≡ c → (rest : Option (List ℤ)) → all_constant (map (λ (arg : TermId). C arg.0) ids) ≡ rest
    → all_constant (c ∷ map (λ (arg : TermId). C arg.0) ids) ≡ Some ns → map (λ (arg : TermId). W arg.0) (id ∷ ids) ≡ map (λ n. Int n) ns
one_more_constant C W id ids ns constants others None is rest rest_is all = absurd (cc)
one_more_constant C W id ids ns constants others (Some n) is None rest_is all =
    let none : all_constant (Some n ∷ map (λ (arg : TermId). C arg.0) ids) ≡ None = ap (option_map (λ (xs : List ℤ). n ∷ xs)) rest_is in absurd (cc)
one_more_constant C W id ids ns constants others (Some n) is (Some ms) rest_is all =
    let some : all_constant (Some n ∷ map (λ (arg : TermId). C arg.0) ids) ≡ Some (n ∷ ms) = ap (option_map (λ (xs : List ℤ). n ∷ xs)) rest_is in
    let same : n ∷ ms ≡ ns = cc in
    ap (λ (v : Value). v ∷ map (λ (arg : TermId). W arg.0) ids) (constants id.0 (first_among id ids) n is)
    ∙ ap (λ (vs : List Value). Int n ∷ vs) (others ms rest_is) ∙ ap (map (λ n. Int n)) same

constant_values : (C : ℕ → Option ℤ) (W : ℕ → Value) (args : List TermId) (ns : List ℤ) → AreConstant C W args
    → all_constant (map (λ (arg : TermId). C arg.0) args) ≡ Some ns → map (λ (arg : TermId). W arg.0) args ≡ map (λ n. Int n) ns
constant_values C W [] ns constants all = let same : [] ≡ ns = cc in ap (map (λ n. Int n)) same
constant_values C W (id ∷ ids) ns constants all =
    one_more_constant C W id ids ns constants (λ ms is. constant_values C W ids ms (λ part has. constants part (later_among part id ids has)) is)
    (C id.0) refl (all_constant (map (λ (arg : TermId). C arg.0) ids)) refl all

is_integer : (op : OpKind) → is_arithmetic op ≡ true → (vs : List Value) → result_of op vs ≡ Int (integer (result_of op vs))
is_integer Not h vs = absurd (cc)
is_integer And h vs = absurd (cc)
is_integer Or h vs = absurd (cc)
is_integer Xor h vs = absurd (cc)
is_integer Implies h vs = absurd (cc)
is_integer Eq h vs = absurd (cc)
is_integer Distinct h vs = absurd (cc)
is_integer Ite h vs = absurd (cc)
is_integer Add h vs = refl
is_integer Mul h vs = refl
is_integer Sub h vs = refl
is_integer Abs h vs = refl
is_integer Div h vs = refl
is_integer Mod h vs = refl
is_integer Le h vs = absurd (cc)
is_integer Lt h vs = absurd (cc)
is_integer Ge h vs = absurd (cc)
is_integer Gt h vs = absurd (cc)

applied_is : (op : OpKind) (all : Option (List ℤ)) (k : ℤ) → (b : Bool) → (if b then option_map (integer_result op) all else None) ≡ Some k
    → (b ≡ true) × ((ns : List ℤ) × (all ≡ Some ns) × (integer_result op ns ≡ k))
applied_is op None k true h = absurd (cc)
applied_is op (Some ns) k true h = (refl, (ns, refl, cc))
applied_is op all k false h = absurd (cc)

constant_node : (C : ℕ → Option ℤ) (W : ℕ → Worth) (env : Environment) (node : Node) (k : ℤ)
    → ((part : ℕ) → is_part part node ≡ true → (j : ℤ) → C part ≡ Some j → W part env ≡ Int j) → node_constant C node ≡ Some k → node_worth W node env ≡ Int k
constant_node C W env (Num n) k parts h = ap (λ (x : ℤ). Int x) (let e : n ≡ k = cc in e)
constant_node C W env True k parts h = absurd (cc)
constant_node C W env False k parts h = absurd (cc)
constant_node C W env (Var binder sort) k parts h = absurd (cc)
constant_node C W env (LetVar bound) k parts h = parts bound.0 (eqb_self bound.0) k h
constant_node C W env (Pred pred args) k parts h = absurd (cc)
constant_node C W env (Op op args) k parts h =
    let found = applied_is op (all_constant (map (λ (arg : TermId). C arg.0) args)) k (is_arithmetic op) h in
    let ns : List ℤ = found.1.0 in
    let values : map (λ (arg : TermId). W arg.0 env) args ≡ map (λ n. Int n) ns = constant_values C (λ part. W part env) args ns parts found.1.1 in
    ap (result_of op) values ∙ is_integer op found.0 (map (λ n. Int n) ns) ∙ ap (λ (x : ℤ). Int x) found.1.2
constant_node C W env (Divisible by arg) k parts h = absurd (cc)
constant_node C W env (Let bound body) k parts h = parts body.0 (body_among bound body) k h
constant_node C W env (Forall first sorts body) k parts h = absurd (cc)
constant_node C W env (Exists first sorts body) k parts h = absurd (cc)

pub constant_is : (nodes : List Node) → IsArena nodes → (top : ℕ) (env : Environment) (id : ℕ) → id < length nodes → IsSubterm nodes top id
    → (k : ℤ) → constant_of nodes id ≡ Some k → value_of nodes id env ≡ Int k
constant_is nodes arena top env =
    by_parts nodes arena top (λ id. (k : ℤ) → constant_of nodes id ≡ Some k → value_of nodes id env ≡ Int k)
    (λ id node sub is below parts k given.
    value_at nodes id node env is below
    ∙ constant_node (constant_of nodes) (value_of nodes) env node k (λ part has j h. parts part has j h) (sym (constant_at nodes id node is below) ∙ given))
