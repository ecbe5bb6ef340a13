-- When a term has a value under definitions of the predicates (SMT-LIB 2.6, section 5.3): a relation by cases on the
-- term. A quantifier ranges over all integers or both truth values, wherever it stands. That a universal statement is
-- true or false cannot be decided in general, so a term need not be known to have a value; it never has two. So an
-- operation must not wait for the values of all its arguments: an implication whose last argument is true is true, whatever
-- is known of the others. Where all arguments have values the rule is the standard's.
use Rattle.std.specs.Prelude.{◌≡◌, ℕ, zero, suc, ◌-◌, List, [], ◌∷◌, ◌++◌, map, true, false, nat_lt, if◌then◌else◌, slice_index_or, Option, Some, None, ℤ, pos}
use Rattle.std.specs.Ordering.{int_eq}
use Rattle.term_tree.specs.declared.sort.Sort.{Sort}
use Rattle.term_tree.specs.declared.sort.Sort.TheVariants.{Int as IntSort, Bool as BoolSort}
use Rattle.term_tree.specs.declared.node.TermId.{TermId}
use Rattle.term_tree.specs.declared.node.Node.{Node}
use Rattle.term_tree.specs.declared.node.Node.TheVariants.{Num, True, False, Var, LetVar, Pred, Op, Divisible, Let, Forall, Exists}
use Rattle.term_tree.specs.declared.scalar.Value.{Value}
use Rattle.term_tree.specs.declared.scalar.Value.TheVariants.{Int, Bool as Truth}
use Rattle.term_tree.specs.Operators.{result_of, divides, integer, first_of_all}
use Rattle.term_tree.specs.Value.{Environment}

-- what each predicate gives for a list of arguments
abbrev pub Interpretation : Type 0
Interpretation = ℕ → List Value → Value

-- what a term may be worth in an environment
abbrev pub Meaning : Type 1
Meaning = Environment → Value → Type 0

-- the value is of the sort: an integer of Int, a truth value of Bool
abbrev pub HasSort : Sort → Value → Type 0
HasSort IntSort (Int n) = Unit {0}
HasSort BoolSort (Truth b) = Unit {0}
HasSort IntSort (Truth b) = ⊥
HasSort BoolSort (Int n) = ⊥

-- one value for each sort
abbrev pub HaveSorts : List Sort → List Value → Type 0
HaveSorts [] [] = Unit {0}
HaveSorts (s ∷ sorts) (v ∷ values) = HasSort s v × HaveSorts sorts values
HaveSorts [] (v ∷ values) = ⊥
HaveSorts (s ∷ sorts) [] = ⊥

-- the value of the sort that an integer stands for: of sort Bool, 1 is true and every other integer is false
abbrev pub as_value : Sort → ℤ → Value
as_value IntSort n = Int n
as_value BoolSort n = Truth (int_eq n (pos 1))

-- one for each sort
abbrev pub as_values : List Sort → List ℤ → List Value
as_values [] point = []
as_values (sort ∷ sorts) [] = []
as_values (sort ∷ sorts) (n ∷ point) = as_value sort n ∷ as_values sorts point

-- the environment in which the variables from `first` on have these values
abbrev pub bound_from : ℕ → List Value → Environment → Environment
bound_from first values env k = if nat_lt k first then env k else slice_index_or values (k - first) (env k)

-- what is known of terms, in order: a value that the term has, or nothing
abbrev pub AreKnown : (ℕ → Meaning) → List TermId → Environment → List (Option Value) → Type 0
AreKnown part [] env [] = Unit {0}
AreKnown part (id ∷ ids) env (Some v ∷ known) = part id.0 env v × AreKnown part ids env known
AreKnown part (id ∷ ids) env (None ∷ known) = AreKnown part ids env known
AreKnown part [] env (k ∷ known) = ⊥
AreKnown part (id ∷ ids) env [] = ⊥

-- values that agree with what is known
abbrev pub Completes : List (Option Value) → List Value → Type 0
Completes [] [] = Unit {0}
Completes (Some v ∷ known) (w ∷ values) = (w ≡ v) × Completes known values
Completes (None ∷ known) (w ∷ values) = Completes known values
Completes [] (w ∷ values) = ⊥
Completes (k ∷ known) [] = ⊥

-- what is known of the arguments decides the result: it is this one at all values that agree
abbrev pub Determines : (ℕ → Meaning) → List TermId → (List Value → Value) → Meaning
Determines part args result env v = (known : List (Option Value)) × AreKnown part args env known × ((values : List Value) → Completes known values → v ≡ result values)

-- true where the body is true at every value, false where it is false at one
abbrev pub HoldsForAll : Meaning → ℕ → List Sort → Environment → Value → Type 0
HoldsForAll body first sorts env (Truth true) = (values : List Value) → HaveSorts sorts values → body (bound_from first values env) (Truth true)
HoldsForAll body first sorts env (Truth false) = (values : List Value) × HaveSorts sorts values × body (bound_from first values env) (Truth false)
HoldsForAll body first sorts env (Int n) = ⊥

-- true where the body is true at one value, false where it is false at every one
abbrev pub HoldsForSome : Meaning → ℕ → List Sort → Environment → Value → Type 0
HoldsForSome body first sorts env (Truth true) = (values : List Value) × HaveSorts sorts values × body (bound_from first values env) (Truth true)
HoldsForSome body first sorts env (Truth false) = (values : List Value) → HaveSorts sorts values → body (bound_from first values env) (Truth false)
HoldsForSome body first sorts env (Int n) = ⊥

-- one node, over what its parts mean
abbrev pub node_meaning : Interpretation → (ℕ → Meaning) → Node → Meaning
node_meaning I part (Num n) env v = v ≡ Int n
node_meaning I part True env v = v ≡ Truth true
node_meaning I part False env v = v ≡ Truth false
node_meaning I part (Var binder sort) env v = v ≡ env binder
node_meaning I part (LetVar bound) env v = part bound.0 env v
node_meaning I part (Pred pred args) env v = Determines part args (I pred) env v
node_meaning I part (Op op args) env v = Determines part args (result_of op) env v
node_meaning I part (Divisible by arg) env v = Determines part (arg ∷ []) (λ values. Truth (divides by (first_of_all (map integer values)))) env v
node_meaning I part (Let bound body) env v = part body.0 env v
node_meaning I part (Forall first sorts body) env v = HoldsForAll (part body.0) first sorts env v
node_meaning I part (Exists first sorts body) env v = HoldsForSome (part body.0) first sorts env v

-- what a number stands for, where these are the terms so far; there is nothing behind them
abbrev pub meaning_in : List Meaning → ℕ → Meaning
meaning_in [] id env v = ⊥
meaning_in (m ∷ earlier) zero env v = m env v
meaning_in (m ∷ earlier) (suc id) env v = meaning_in earlier id env v

-- what the nodes mean, in order, each over those before it
abbrev pub meanings_from : Interpretation → List Meaning → List Node → List Meaning
meanings_from I earlier [] = earlier
meanings_from I earlier (node ∷ nodes) = meanings_from I (earlier ++ node_meaning I (meaning_in earlier) node ∷ []) nodes

-- the term of that number has this value in this environment
abbrev pub HasValue : Interpretation → List Node → ℕ → Environment → Value → Type 0
HasValue I nodes = meaning_in (meanings_from I [] nodes)
