-- Laws of values and truth: a term has at most one value, and interpretations that agree give the same.
use Rattle.std.proofs.Common.{◌≡◌, ℕ, zero, suc, List, [], ◌∷◌, ◌++◌, length, true, false, refl, sym, ◌∙◌, arith, length-append}
use Rattle.std.specs.Prelude.{map, Option, Some, None}
use Rattle.std.specs.List.{AllByRecursion}
use Rattle.term_tree.specs.declared.sort.Sort.{Sort}
use Rattle.term_tree.specs.declared.node.TermId.{TermId}
use Rattle.term_tree.specs.declared.node.Node.{Node}
use Rattle.term_tree.specs.declared.node.Node.TheVariants.{Num, True, False, Var, LetVar, Pred, Op, Divisible, Let, Forall, Exists}
use Rattle.term_tree.specs.declared.scalar.Value.{Value}
use Rattle.term_tree.specs.declared.scalar.Value.TheVariants.{Int, Bool as Truth}
use Rattle.term_tree.specs.Operators.{result_of, divides, integer, first_of_all}
use Rattle.term_tree.specs.Value.{Environment}
use Rattle.term_tree.specs.Truth.{Interpretation, Meaning, AreKnown, Completes, Determines, HoldsForAll, HoldsForSome, bound_from, node_meaning, meaning_in, meanings_from, HasValue}
use Rattle.term_tree.specs.Agreement.{AgreeEverywhere}
use Rattle.term_tree.specs.Solution.{interpretation_of, DefinesEach, AreFormulas, IsSolution}
use Rattle.term_tree.specs.declared.definition.Definition.{Definition}
use Rattle.term_tree.specs.declared.script.Assertion.{Assertion}
use Rattle.term_tree.specs.declared.script.Script.{Script}

-- no two values in one environment
abbrev Single : Meaning → Type 0
Single m = (env : Environment) (v w : Value) → m env v → m env w → v ≡ w

abbrev AllSingle : (ℕ → Meaning) → Type 0
AllSingle part = (id : ℕ) → Single (part id)

-- two lists of what is known of the same terms are completed by one list of values
common : (part : ℕ → Meaning) (ids : List TermId) (env : Environment) (a b : List (Option Value)) → AllSingle part
    → AreKnown part ids env a → AreKnown part ids env b → (values : List Value) × Completes a values × Completes b values
common part [] env [] [] single h k = ([], tt, tt)
common part [] env [] (y ∷ b) single h k = absurd k
common part [] env (x ∷ a) b single h k = absurd h
common part (id ∷ ids) env [] b single h k = absurd h
common part (id ∷ ids) env (x ∷ a) [] single h k = absurd k
common part (id ∷ ids) env (None ∷ a) (None ∷ b) single h k =
    let rest = common part ids env a b single h k in (Truth false ∷ rest.0, rest.1, rest.2)
common part (id ∷ ids) env (None ∷ a) (Some w ∷ b) single h k =
    let rest = common part ids env a b single h k.1 in (w ∷ rest.0, rest.1, (refl, rest.2))
common part (id ∷ ids) env (Some v ∷ a) (None ∷ b) single h k =
    let rest = common part ids env a b single h.1 k in (v ∷ rest.0, (refl, rest.1), rest.2)
common part (id ∷ ids) env (Some v ∷ a) (Some w ∷ b) single h k =
    let rest = common part ids env a b single h.1 k.1 in (v ∷ rest.0, (refl, rest.1), (single id.0 env v w h.0 k.0, rest.2))

single_determined : (part : ℕ → Meaning) (ids : List TermId) (result : List Value → Value) (env : Environment) (v w : Value) → AllSingle part
    → Determines part ids result env v → Determines part ids result env w → v ≡ w
single_determined part ids result env v w single h k =
    let both = common part ids env h.0 k.0 single h.1 k.1 in h.2 both.0 both.1 ∙ sym (k.2 both.0 both.2)

pub differ : {A : Type 0} → Truth true ≡ Truth false → A
differ h = absurd (cc)

single_for_all : (m : Meaning) (first : ℕ) (sorts : List Sort) (env : Environment) (v w : Value) → Single m
    → HoldsForAll m first sorts env v → HoldsForAll m first sorts env w → v ≡ w
single_for_all m first sorts env (Int n) w single h k = absurd h
single_for_all m first sorts env (Truth true) (Int n) single h k = absurd k
single_for_all m first sorts env (Truth false) (Int n) single h k = absurd k
single_for_all m first sorts env (Truth true) (Truth true) single h k = refl
single_for_all m first sorts env (Truth false) (Truth false) single h k = refl
single_for_all m first sorts env (Truth true) (Truth false) single h k = single (bound_from first k.0 env) (Truth true) (Truth false) (h k.0 k.1) k.2
single_for_all m first sorts env (Truth false) (Truth true) single h k = single (bound_from first h.0 env) (Truth false) (Truth true) h.2 (k h.0 h.1)

single_for_some : (m : Meaning) (first : ℕ) (sorts : List Sort) (env : Environment) (v w : Value) → Single m
    → HoldsForSome m first sorts env v → HoldsForSome m first sorts env w → v ≡ w
single_for_some m first sorts env (Int n) w single h k = absurd h
single_for_some m first sorts env (Truth true) (Int n) single h k = absurd k
single_for_some m first sorts env (Truth false) (Int n) single h k = absurd k
single_for_some m first sorts env (Truth true) (Truth true) single h k = refl
single_for_some m first sorts env (Truth false) (Truth false) single h k = refl
single_for_some m first sorts env (Truth true) (Truth false) single h k = single (bound_from first h.0 env) (Truth true) (Truth false) h.2 (k h.0 h.1)
single_for_some m first sorts env (Truth false) (Truth true) single h k = single (bound_from first k.0 env) (Truth false) (Truth true) (h k.0 k.1) k.2

single_node : (I : Interpretation) (part : ℕ → Meaning) (node : Node) → AllSingle part → Single (node_meaning I part node)
single_node I part (Num n) single env v w h k = h ∙ sym k
single_node I part True single env v w h k = h ∙ sym k
single_node I part False single env v w h k = h ∙ sym k
single_node I part (Var binder sort) single env v w h k = h ∙ sym k
single_node I part (LetVar bound) single env v w h k = single bound.0 env v w h k
single_node I part (Pred pred args) single env v w h k = single_determined part args (I pred) env v w single h k
single_node I part (Op op args) single env v w h k = single_determined part args (result_of op) env v w single h k
single_node I part (Divisible by arg) single env v w h k =
    single_determined part (arg ∷ []) (λ values. Truth (divides by (first_of_all (map integer values)))) env v w single h k
single_node I part (Let bound body) single env v w h k = single body.0 env v w h k
single_node I part (Forall first sorts body) single env v w h k = single_for_all (part body.0) first sorts env v w (single body.0) h k
single_node I part (Exists first sorts body) single env v w h k = single_for_some (part body.0) first sorts env v w (single body.0) h k

single_last : (earlier : List Meaning) (m : Meaning) → AllSingle (meaning_in earlier) → Single m → AllSingle (meaning_in (earlier ++ m ∷ []))
single_last [] m all here zero env v w h k = here env v w h k
single_last [] m all here (suc id) env v w h k = absurd h
single_last (e ∷ earlier) m all here zero env v w h k = all zero env v w h k
single_last (e ∷ earlier) m all here (suc id) env v w h k = single_last earlier m (λ i. all (suc i)) here id env v w h k

single_from : (I : Interpretation) (earlier : List Meaning) (nodes : List Node) → AllSingle (meaning_in earlier) → AllSingle (meaning_in (meanings_from I earlier nodes))
single_from I earlier [] all = all
single_from I earlier (node ∷ nodes) all =
    let m : Meaning = node_meaning I (meaning_in earlier) node in
    single_from I (earlier ++ m ∷ []) nodes (single_last earlier m all (single_node I (meaning_in earlier) node all))

-- a term has at most one value
pub one_value : (I : Interpretation) (nodes : List Node) (id : ℕ) (env : Environment) (v w : Value) → HasValue I nodes id env v → HasValue I nodes id env w → v ≡ w
one_value I nodes id env v w h k = single_from I [] nodes (λ i e x y p q. absurd p) id env v w h k

-- the one meaning implies the other, everywhere
abbrev Gives : (ℕ → Meaning) → (ℕ → Meaning) → Type 0
Gives p q = (id : ℕ) (env : Environment) (v : Value) → p id env v → q id env v

given_known : (p q : ℕ → Meaning) (ids : List TermId) (env : Environment) (known : List (Option Value)) → Gives p q → AreKnown p ids env known → AreKnown q ids env known
given_known p q [] env [] gives h = tt
given_known p q [] env (k ∷ known) gives h = absurd h
given_known p q (id ∷ ids) env [] gives h = absurd h
given_known p q (id ∷ ids) env (None ∷ known) gives h = given_known p q ids env known gives h
given_known p q (id ∷ ids) env (Some v ∷ known) gives h = (gives id.0 env v h.0, given_known p q ids env known gives h.1)

given_determined : (p q : ℕ → Meaning) (ids : List TermId) (f g : List Value → Value) (env : Environment) (v : Value) → ((values : List Value) → f values ≡ g values) → Gives p q
    → Determines p ids f env v → Determines q ids g env v
given_determined p q ids f g env v same gives h = (h.0, given_known p q ids env h.0 gives h.1, λ values completes. h.2 values completes ∙ same values)

given_for_all : (p q : Meaning) (first : ℕ) (sorts : List Sort) (env : Environment) (v : Value) → ((e : Environment) (w : Value) → p e w → q e w)
    → HoldsForAll p first sorts env v → HoldsForAll q first sorts env v
given_for_all p q first sorts env (Int n) more h = h
given_for_all p q first sorts env (Truth true) more h = λ values have. more (bound_from first values env) (Truth true) (h values have)
given_for_all p q first sorts env (Truth false) more h = (h.0, h.1, more (bound_from first h.0 env) (Truth false) h.2)

given_for_some : (p q : Meaning) (first : ℕ) (sorts : List Sort) (env : Environment) (v : Value) → ((e : Environment) (w : Value) → p e w → q e w)
    → HoldsForSome p first sorts env v → HoldsForSome q first sorts env v
given_for_some p q first sorts env (Int n) more h = h
given_for_some p q first sorts env (Truth false) more h = λ values have. more (bound_from first values env) (Truth false) (h values have)
given_for_some p q first sorts env (Truth true) more h = (h.0, h.1, more (bound_from first h.0 env) (Truth true) h.2)

given_node : (I J : Interpretation) (p q : ℕ → Meaning) (node : Node) (env : Environment) (v : Value) → AgreeEverywhere I J → Gives p q
    → node_meaning I p node env v → node_meaning J q node env v
given_node I J p q (Num n) env v same gives h = h
given_node I J p q True env v same gives h = h
given_node I J p q False env v same gives h = h
given_node I J p q (Var binder sort) env v same gives h = h
given_node I J p q (LetVar bound) env v same gives h = gives bound.0 env v h
given_node I J p q (Pred pred args) env v same gives h = given_determined p q args (I pred) (J pred) env v (same pred) gives h
given_node I J p q (Op op args) env v same gives h = given_determined p q args (result_of op) (result_of op) env v (λ values. refl) gives h
given_node I J p q (Divisible by arg) env v same gives h =
    let f = λ (values : List Value). Truth (divides by (first_of_all (map integer values))) in given_determined p q (arg ∷ []) f f env v (λ values. refl) gives h
given_node I J p q (Let bound body) env v same gives h = gives body.0 env v h
given_node I J p q (Forall first sorts body) env v same gives h = given_for_all (p body.0) (q body.0) first sorts env v (gives body.0) h
given_node I J p q (Exists first sorts body) env v same gives h = given_for_some (p body.0) (q body.0) first sorts env v (gives body.0) h

given_last : (e f : List Meaning) (m n : Meaning) → Gives (meaning_in e) (meaning_in f) → length e ≡ length f → ((env : Environment) (v : Value) → m env v → n env v)
    → Gives (meaning_in (e ++ m ∷ [])) (meaning_in (f ++ n ∷ []))
given_last [] [] m n gives same here zero env v h = here env v h
given_last [] [] m n gives same here (suc id) env v h = absurd h
given_last [] (y ∷ f) m n gives same here id env v h = absurd (cc)
given_last (x ∷ e) [] m n gives same here id env v h = absurd (cc)
given_last (x ∷ e) (y ∷ f) m n gives same here zero env v h = gives zero env v h
given_last (x ∷ e) (y ∷ f) m n gives same here (suc id) env v h = given_last e f m n (λ i. gives (suc i)) (omega arith) here id env v h

given_from : (I J : Interpretation) (e f : List Meaning) (nodes : List Node) → AgreeEverywhere I J → length e ≡ length f → Gives (meaning_in e) (meaning_in f)
    → Gives (meaning_in (meanings_from I e nodes)) (meaning_in (meanings_from J f nodes))
given_from I J e f [] agree same gives = gives
given_from I J e f (node ∷ nodes) agree same gives =
    let m : Meaning = node_meaning I (meaning_in e) node in
    let n : Meaning = node_meaning J (meaning_in f) node in
    given_from I J (e ++ m ∷ []) (f ++ n ∷ []) nodes agree (omega (arith, length-append e (m ∷ []), length-append f (n ∷ [])))
    (given_last e f m n gives same (λ env v. given_node I J (meaning_in e) (meaning_in f) node env v agree gives))

-- interpretations that agree give a term the same values
pub same_under : (I J : Interpretation) (nodes : List Node) (id : ℕ) (env : Environment) (v : Value) → AgreeEverywhere I J → HasValue I nodes id env v → HasValue J nodes id env v
same_under I J nodes id env v agree h = given_from I J [] [] nodes agree refl (λ i e x p. p) id env v h

all_same_under : (I J : Interpretation) (script : Script) (asserts : List Assertion) → AgreeEverywhere I J
    → AllByRecursion (λ (a : Assertion). (env : Environment) → HasValue I script.terms.nodes a.term.0 env (Truth true)) asserts
    → AllByRecursion (λ (a : Assertion). (env : Environment) → HasValue J script.terms.nodes a.term.0 env (Truth true)) asserts
all_same_under I J script [] agree h = tt
all_same_under I J script (a ∷ asserts) agree h =
    (λ env. same_under I J script.terms.nodes a.term.0 env (Truth true) agree (h.0 env), all_same_under I J script asserts agree h.1)

-- a solution stays one under definitions with the same values
pub still_solution : (script : Script) (ds es : List Definition) → AgreeEverywhere (interpretation_of ds) (interpretation_of es) → DefinesEach 0 script.preds es → AreFormulas script.preds es
    → IsSolution script ds → IsSolution script es
still_solution script ds es agree defines formed solution = record {
  defined = defines;
  formed = formed;
  satisfied = all_same_under (interpretation_of ds) (interpretation_of es) script script.asserts agree solution.satisfied;
}
