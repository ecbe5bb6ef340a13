-- The linear form of an integer term has the term's value.
use Rattle.std.proofs.Common.{◌≡◌, ℕ, ◌+◌, ◌<◌, ◌≤◌, List, [], ◌∷◌, length, Bool, true, false, refl, ap, sym, ◌∙◌, arith, map}
use Rattle.std.specs.Prelude.{fold, Option, Some, None, nat_lt, nat_le, ℤ, pos, ◌+ℤ◌, ◌-ℤ◌}
use Rattle.std.specs.List.{list_all}
use Rattle.std.proofs.lemmas.Int.{ints}
use Rattle.std.proofs.lemmas.Option.{slice_get_within}
use Rattle.std.proofs.lemmas.Bool.Decides.{nat_tests}
use Rattle.term_tree.specs.declared.sort.Sort.{Sort}
use Rattle.term_tree.specs.declared.sort.Sort.TheVariants.{Int as IntSort, Bool as BoolSort}
use Rattle.term_tree.specs.declared.script.Pred.{Pred as Declared}
use Rattle.term_tree.specs.declared.node.TermId.{TermId}
use Rattle.term_tree.specs.declared.node.Node.{Node}
use Rattle.term_tree.specs.declared.node.Node.TheVariants.{Num, True, False, Var, LetVar, Pred, Op, Divisible, Let, Forall, Exists}
use Rattle.term_tree.specs.declared.node.OpKind.{OpKind}
use Rattle.term_tree.specs.declared.node.OpKind.TheVariants.{Not, And, Or, Xor, Implies, Eq, Distinct, Ite, Add, Mul, Sub, Abs, Div, Mod, Le, Lt, Ge, Gt}
use Rattle.term_tree.specs.declared.scalar.Value.{Value}
use Rattle.term_tree.specs.declared.scalar.Value.TheVariants.{Int, Bool as Truth}
use Rattle.term_tree.specs.Arena.{IsArena}
use Rattle.term_tree.specs.Constants.{constant_of, constants_among, is_linear}
use Rattle.term_tree.specs.Operators.{result_of, integer, sum_of, difference_of}
use Rattle.term_tree.specs.Sorts.{sort_if, operation_sort, has_sort, all_of, node_sort, sort_of, is_sorted}
use Rattle.term_tree.specs.Subterms.{is_among, is_part, is_plain, IsSubterm, IsPlain, EverySubterm, inside}
use Rattle.term_tree.specs.Truth.{HasSort}
use Rattle.term_tree.specs.Value.{Environment, Worth, node_worth, value_of}
use Rattle.term_tree.proofs.Public.{sort_at}
use Rattle.term_tree.proofs.Public.{both_true}
use Rattle.term_tree.proofs.Public.{eqb_self, part_below}
use Rattle.term_tree.proofs.Public.{value_at}
use Rattle.lin_atoms.specs.Linear.{Linear, sum_at, variable_at}
use Rattle.lin_atoms.specs.Linear.{value_at as worth_at}
use Rattle.lin_atoms.specs.Algebra.{negated}
use Rattle.lin_atoms.proofs.Public.{sum_at-++, value_at-added, value_at-negated}
use Rattle.lin_atoms.proofs.TermLemmas.{sum_at-collected}
use Rattle.linear_terms.specs.Text.{is_unit}
use Rattle.linear_terms.specs.Linear.{Naming, variable_form, auxiliary_form, less, all_terms, all_constants, sum_form, difference_form, operation_form, node_linear, linear_of, told_linear}
use Rattle.linear_terms.specs.Meeting.{number, IsTyped, MeetsVariables, MeetsBelow, NamesUnits}
use Rattle.linear_terms.proofs.PartLemmas.{by_parts, linear_at, first_among, later_among, body_among}
use Rattle.linear_terms.proofs.ProductLemmas.{HaveValues, product_value}
use Rattle.linear_terms.proofs.SortLemmas.{sort_if_is, has_sort_is, let_sort, AreSorted, value_sort}
use Rattle.linear_terms.proofs.ConstantLemmas.{AreConstant, constant_is}

pub variable_value : (point : List ℤ) (v : ℕ) → worth_at point (variable_form v) ≡ variable_at point v
variable_value point v = omega (arith, ints)

pub less_value : (point : List ℤ) (a b : Linear) → worth_at point (less a b) ≡ worth_at point a -ℤ worth_at point b
less_value point a b = let sum = value_at-added point a (negated b) in let turned = value_at-negated point b in omega (arith, ints)

pub number_is : (v : Value) → HasSort IntSort v → number v ≡ integer v
number_is (Int n) h = refl
number_is (Truth b) h = absurd h

not_both : (b : Bool) → sort_if b BoolSort ≡ Some IntSort → ⊥
not_both true h = absurd (cc)
not_both false h = absurd (cc)

-- the form of each integer term among these has its value
abbrev pub AreLinear : List ℤ → (ℕ → Option Sort) → (ℕ → Value) → (ℕ → Linear) → List TermId → Type 0
AreLinear point S W L args = (part : ℕ) → is_among part args ≡ true → S part ≡ Some IntSort → worth_at point (L part) ≡ number (W part)

form_values : (point : List ℤ) (S : ℕ → Option Sort) (W : ℕ → Value) (L : ℕ → Linear) (args : List TermId) → AreSorted S W args → AreLinear point S W L args
    → list_all (has_sort IntSort) (map (λ (arg : TermId). S arg.0) args) ≡ true
    → map (worth_at point) (map (λ (arg : TermId). L arg.0) args) ≡ map integer (map (λ (arg : TermId). W arg.0) args)
form_values point S W L [] sorted linear all = refl
form_values point S W L (id ∷ ids) sorted linear all =
    let both = both_true (has_sort IntSort (S id.0)) (list_all (has_sort IntSort) (map (λ (arg : TermId). S arg.0) ids)) all in
    let here : S id.0 ≡ Some IntSort = has_sort_is IntSort (S id.0) both.0 in
    let first : worth_at point (L id.0) ≡ integer (W id.0) = linear id.0 (first_among id ids) here ∙ number_is (W id.0) (sorted id.0 (first_among id ids) IntSort here) in
    let others = form_values point S W L ids (λ part has. sorted part (later_among part id ids has)) (λ part has. linear part (later_among part id ids has)) both.1 in
    ap (λ (x : ℤ). x ∷ map (worth_at point) (map (λ (arg : TermId). L arg.0) ids)) first ∙ ap (λ (xs : List ℤ). integer (W id.0) ∷ xs) others

one_factor : (point : List ℤ) (k : Option ℤ) (ks : List (Option ℤ)) (f : Linear) (fs : List Linear) (n : ℤ) (ns : List ℤ)
    → worth_at point f ≡ n → ((c : ℤ) → k ≡ Some c → n ≡ c) → HaveValues point ks fs ns → HaveValues point (k ∷ ks) (f ∷ fs) (n ∷ ns)
one_factor point None ks f fs n ns is constant rest = (is, rest)
one_factor point (Some c) ks f fs n ns is constant rest = (is, constant c refl, rest)

factors : (point : List ℤ) (C : ℕ → Option ℤ) (S : ℕ → Option Sort) (W : ℕ → Value) (L : ℕ → Linear) (args : List TermId) → AreSorted S W args → AreConstant C W args
    → AreLinear point S W L args → list_all (has_sort IntSort) (map (λ (arg : TermId). S arg.0) args) ≡ true
    → HaveValues point (map (λ (arg : TermId). C arg.0) args) (map (λ (arg : TermId). L arg.0) args) (map integer (map (λ (arg : TermId). W arg.0) args))
factors point C S W L [] sorted constant linear all = tt
factors point C S W L (id ∷ ids) sorted constant linear all =
    let both = both_true (has_sort IntSort (S id.0)) (list_all (has_sort IntSort) (map (λ (arg : TermId). S arg.0) ids)) all in
    let here : S id.0 ≡ Some IntSort = has_sort_is IntSort (S id.0) both.0 in
    one_factor point (C id.0) (map (λ (arg : TermId). C arg.0) ids) (L id.0) (map (λ (arg : TermId). L arg.0) ids) (integer (W id.0)) (map integer (map (λ (arg : TermId). W arg.0) ids))
    (linear id.0 (first_among id ids) here ∙ number_is (W id.0) (sorted id.0 (first_among id ids) IntSort here))
    (λ c is. ap integer (constant id.0 (first_among id ids) c is))
    (factors point C S W L ids (λ part has. sorted part (later_among part id ids has)) (λ part has. constant part (later_among part id ids has))
    (λ part has. linear part (later_among part id ids has)) both.1)

total : List ℤ → ℤ
total [] = pos 0
total (n ∷ ns) = n +ℤ total ns

fold_total : (a : ℤ) (ns : List ℤ) → fold (λ x n. x +ℤ n) a ns ≡ a +ℤ total ns
unfolding total
fold_total a [] = omega (arith, ints)
fold_total a (n ∷ ns) = let rest = fold_total (a +ℤ n) ns in omega (arith, ints)

all_values : (point : List ℤ) (forms : List Linear) → sum_at point (all_terms forms) +ℤ all_constants forms ≡ total (map (worth_at point) forms)
unfolding total
all_values point [] = omega (arith, ints)
all_values point (f ∷ fs) = let rest = all_values point fs in let parts = sum_at-++ point f.terms (all_terms fs) in omega (arith, ints)

whole_value : (point : List ℤ) (forms : List Linear) → worth_at point (sum_form forms) ≡ total (map (worth_at point) forms)
whole_value point forms = ap (λ (x : ℤ). x +ℤ all_constants forms) (sum_at-collected point (all_terms forms)) ∙ all_values point forms

pub sum_value : (point : List ℤ) (forms : List Linear) → worth_at point (sum_form forms) ≡ sum_of (map (worth_at point) forms)
sum_value point forms = let whole = whole_value point forms in let folded = fold_total (pos 0) (map (worth_at point) forms) in omega (arith, ints)

less_from : (point : List ℤ) (x : ℤ) (forms : List Linear) → fold (λ a n. a -ℤ n) x (map (worth_at point) forms) ≡ x +ℤ total (map (worth_at point) (map negated forms))
unfolding total
less_from point x [] = omega (arith, ints)
less_from point x (f ∷ fs) = let rest = less_from point (x -ℤ worth_at point f) fs in let turned = value_at-negated point f in omega (arith, ints)

difference_value : (point : List ℤ) (forms : List Linear) → worth_at point (difference_form forms) ≡ difference_of (map (worth_at point) forms)
unfolding total
difference_value point [] = refl
difference_value point (a ∷ []) = value_at-negated point a
difference_value point (a ∷ b ∷ forms) = whole_value point (a ∷ map negated (b ∷ forms)) ∙ sym (less_from point (worth_at point a) (b ∷ forms))

pub length_map : {X Y : Type 0} (f : X → Y) (xs : List X) → length (map f xs) ≡ length xs
length_map f [] = refl
length_map f (x ∷ xs) = omega (arith, length_map f xs)

le_of : (m n : ℕ) → nat_le m n ≡ true → m ≤ n
le_of m n h = grind (arith, nat_tests)

operation_value : (point : List ℤ) (C : ℕ → Option ℤ) (S : ℕ → Option Sort) (W : ℕ → Value) (L : ℕ → Linear) (args : List TermId) (unit : Linear)
    → AreSorted S W args → AreConstant C W args → AreLinear point S W L args
    → (op : OpKind) → operation_sort op (map (λ (arg : TermId). S arg.0) args) ≡ Some IntSort → is_linear C (Op op args) ≡ true
    → (is_unit (Some IntSort) (Op op args) ≡ true → worth_at point unit ≡ number (result_of op (map (λ (arg : TermId). W arg.0) args)))
    → worth_at point (operation_form op unit (map (λ (arg : TermId). C arg.0) args) (map (λ (arg : TermId). L arg.0) args)) ≡ number (result_of op (map (λ (arg : TermId). W arg.0) args))
operation_value point C S W L args unit sorted constant linear Not h is named = absurd (not_both _ h)
operation_value point C S W L args unit sorted constant linear And h is named = absurd (not_both _ h)
operation_value point C S W L args unit sorted constant linear Or h is named = absurd (not_both _ h)
operation_value point C S W L args unit sorted constant linear Xor h is named = absurd (not_both _ h)
operation_value point C S W L args unit sorted constant linear Implies h is named = absurd (not_both _ h)
operation_value point C S W L args unit sorted constant linear Eq h is named = absurd (not_both _ h)
operation_value point C S W L args unit sorted constant linear Distinct h is named = absurd (not_both _ h)
operation_value point C S W L args unit sorted constant linear Ite h is named = named refl
operation_value point C S W L args unit sorted constant linear Add h is named =
    let given : List (Option Sort) = map (λ (arg : TermId). S arg.0) args in
    let all = both_true (nat_le 1 (length given)) (list_all (has_sort IntSort) given) (sort_if_is (all_of IntSort 1 given) IntSort IntSort h).0 in
    sum_value point (map (λ (arg : TermId). L arg.0) args) ∙ ap sum_of (form_values point S W L args sorted linear all.1)
operation_value point C S W L args unit sorted constant linear Mul h is named =
    let given : List (Option Sort) = map (λ (arg : TermId). S arg.0) args in
    let ks : List (Option ℤ) = map (λ (arg : TermId). C arg.0) args in
    let all = both_true (nat_le 1 (length given)) (list_all (has_sort IntSort) given) (sort_if_is (all_of IntSort 1 given) IntSort IntSort h).0 in
    let some = le_of 1 (length given) all.0 in
    let few = le_of (length args) (length (constants_among ks) + 1) is in
    let long : length ks ≡ length args = length_map (λ (arg : TermId). C arg.0) args in
    let wide : length given ≡ length args = length_map (λ (arg : TermId). S arg.0) args in
    product_value point ks (map (λ (arg : TermId). L arg.0) args) (map integer (map (λ (arg : TermId). W arg.0) args)) (factors point C S W L args sorted constant linear all.1) (omega arith) (omega arith)
operation_value point C S W L args unit sorted constant linear Sub h is named =
    let given : List (Option Sort) = map (λ (arg : TermId). S arg.0) args in
    let all = both_true (nat_le 1 (length given)) (list_all (has_sort IntSort) given) (sort_if_is (all_of IntSort 1 given) IntSort IntSort h).0 in
    difference_value point (map (λ (arg : TermId). L arg.0) args) ∙ ap difference_of (form_values point S W L args sorted linear all.1)
operation_value point C S W L args unit sorted constant linear Abs h is named = named refl
operation_value point C S W L args unit sorted constant linear Div h is named = named refl
operation_value point C S W L args unit sorted constant linear Mod h is named = named refl
operation_value point C S W L args unit sorted constant linear Le h is named = absurd (not_both _ h)
operation_value point C S W L args unit sorted constant linear Lt h is named = absurd (not_both _ h)
operation_value point C S W L args unit sorted constant linear Ge h is named = absurd (not_both _ h)
operation_value point C S W L args unit sorted constant linear Gt h is named = absurd (not_both _ h)

pub node_value : (preds : List Declared) (point : List ℤ) (naming : Naming) (C : ℕ → Option ℤ) (S : ℕ → Option Sort) (W : ℕ → Worth) (L : ℕ → ℕ → Linear) (env : Environment) (own : ℕ) (node : Node)
    → is_plain node ≡ true → is_linear C node ≡ true
    → ((part : ℕ) → is_part part node ≡ true → (s : Sort) → S part ≡ Some s → HasSort s (W part env))
    → ((part : ℕ) → is_part part node ≡ true → (k : ℤ) → C part ≡ Some k → W part env ≡ Int k)
    → ((part : ℕ) → is_part part node ≡ true → S part ≡ Some IntSort → worth_at point (L part part) ≡ number (W part env))
    → ((binder : ℕ) (sort : Sort) → node ≡ Var binder sort → variable_at point (naming.own binder) ≡ number (env binder))
    → (is_unit (Some IntSort) node ≡ true → worth_at point (auxiliary_form (naming.auxiliary own)) ≡ number (node_worth W node env))
    → node_sort preds S node ≡ Some IntSort → worth_at point (node_linear C naming L node own) ≡ number (node_worth W node env)
node_value preds point naming C S W L env own (Num n) plain is sorted constant linear variables units h = omega (arith, ints)
node_value preds point naming C S W L env own True plain is sorted constant linear variables units h = absurd (cc)
node_value preds point naming C S W L env own False plain is sorted constant linear variables units h = absurd (cc)
node_value preds point naming C S W L env own (Var binder sort) plain is sorted constant linear variables units h = variable_value point (naming.own binder) ∙ variables binder sort refl
node_value preds point naming C S W L env own (LetVar bound) plain is sorted constant linear variables units h = linear bound.0 (eqb_self bound.0) h
node_value preds point naming C S W L env own (Pred pred args) plain is sorted constant linear variables units h = absurd (cc)
node_value preds point naming C S W L env own (Op op args) plain is sorted constant linear variables units h =
    operation_value point C S (λ part. W part env) (λ part. L part part) args (auxiliary_form (naming.auxiliary own)) sorted constant linear op h is units
node_value preds point naming C S W L env own (Divisible by arg) plain is sorted constant linear variables units h = absurd (not_both _ h)
node_value preds point naming C S W L env own (Let bound body) plain is sorted constant linear variables units h =
    linear body.0 (body_among bound body) (let_sort (list_all is_sorted (map (λ (b : TermId). S b.0) bound)) (S body.0) IntSort h)
node_value preds point naming C S W L env own (Forall first sorts body) plain is sorted constant linear variables units h = absurd (cc)
node_value preds point naming C S W L env own (Exists first sorts body) plain is sorted constant linear variables units h = absurd (cc)

unit_value : (point : List ℤ) (found : Option ℕ) (n : ℤ) → (v : ℕ) → found ≡ Some v → variable_at point v ≡ n → worth_at point (auxiliary_form found) ≡ n
unit_value point found n v is at = ap (λ (o : Option ℕ). worth_at point (auxiliary_form o)) is ∙ variable_value point v ∙ at

pub lt_of : (m n : ℕ) → m < n → nat_lt m n ≡ true
lt_of m n h = grind (arith, nat_tests)

pub from_lt : (m n : ℕ) → nat_lt m n ≡ true → m < n
from_lt m n h = grind (arith, nat_tests)

-- below n, where the point has the values of all variables and of the auxiliary ones below n
pub linear_value : (preds : List Declared) (nodes : List Node) → IsArena nodes → (top : ℕ) → IsPlain nodes top → EverySubterm (is_linear (constant_of nodes)) nodes top
    → (env : Environment) → IsTyped nodes top env → (naming : Naming) → NamesUnits (sort_of preds nodes) nodes top naming
    → (point : List ℤ) → MeetsVariables nodes top env naming point → (n : ℕ) → MeetsBelow nodes top n env naming point
    → (id : ℕ) → id < length nodes → IsSubterm nodes top id → nat_lt id n ≡ true → sort_of preds nodes id ≡ Some IntSort
    → worth_at point (linear_of naming nodes id) ≡ number (value_of nodes id env)
linear_value preds nodes arena top plain linear env typed naming units point variables n meets =
    by_parts nodes arena top (λ id. nat_lt id n ≡ true → sort_of preds nodes id ≡ Some IntSort → worth_at point (linear_of naming nodes id) ≡ number (value_of nodes id env))
    (λ id node sub is below parts within sorted.
    let there : (part : ℕ) → is_part part node ≡ true → part < id = λ part has. part_below part id node below has in
    let here : id < length nodes = slice_get_within nodes id node is in
    let value = value_at nodes id node env is below in
    ap (worth_at point) (linear_at (constant_of nodes) naming nodes id id node is below)
    ∙ node_value preds point naming (constant_of nodes) (sort_of preds nodes) (value_of nodes) (told_linear (constant_of nodes) naming nodes) env id node
    (plain id node sub is) (linear id node sub is)
    (λ part has s at. value_sort preds nodes arena top plain env typed part (omega (arith, there part has)) (inside part node sub is has) s at)
    (λ part has k at. constant_is nodes arena top env part (omega (arith, there part has)) (inside part node sub is has) k at)
    (λ part has at. parts part has (lt_of part n (omega (arith, there part has, from_lt id n within))) at)
    (λ binder sort same. variables id binder sort sub (is ∙ ap (λ (m : Node). Some m) same))
    (λ unit. let named = units id node sub is (ap (λ (s : Option Sort). is_unit s node) sorted ∙ unit) in
    unit_value point (naming.auxiliary id) (number (node_worth (value_of nodes) node env)) named.0 named.1 (meets id named.0 sub within named.1 ∙ ap number value))
    (sym (sort_at preds nodes id node is below) ∙ sorted)
    ∙ ap number (sym value))
