-- In a legal term what a table keeps of a constant is its value.
use Rattle.std.proofs.Common.{◌≡◌, ℕ, zero, suc, ◌<◌, List, [], ◌∷◌, length, map, Bool, true, false, ◌||◌, ◌==◌, refl, ap, sym, ◌∙◌, subst, arith}
use Rattle.std.specs.Prelude.{slice_get, Option, Some, None, option_map, ℤ, pos, ◌*ℤ◌, nat_abs, fold, if◌then◌else◌}
use Rattle.std.specs.List.{list_all}
use Rattle.std.specs.Int.{int_div_euclid, int_rem_euclid}
use Rattle.term_tree.specs.declared.node.TermId.{TermId}
use Rattle.term_tree.specs.declared.node.Node.{Node}
use Rattle.term_tree.specs.declared.node.Node.TheVariants.{Num, True, False, Var, LetVar, Pred, Op, Divisible, Let, Forall, Exists}
use Rattle.term_tree.specs.declared.node.OpKind.{OpKind}
use Rattle.term_tree.specs.declared.node.OpKind.TheVariants.{Not, And, Or, Xor, Implies, Eq, Distinct, Ite, Add, Mul, Sub, Abs, Div, Mod, Le, Lt, Ge, Gt}
use Rattle.term_tree.specs.declared.scalar.Value.TheVariants.{Int}
use Rattle.term_tree.specs.Arena.{IsArena, has_parts_below}
use Rattle.term_tree.specs.Constants.{all_constant, integer_result, constant_of, constants_among, has_short_constants, is_arithmetic, is_short, is_short_constant, node_constant}
use Rattle.term_tree.specs.Operators.{difference_of, first_of_all, integer, on_two, product_of, sum_of}
use Rattle.term_tree.specs.Subterms.{EverySubterm, IsSubterm, inside, is_among, is_part}
use Rattle.term_tree.specs.Width.{prefix_results}
use Rattle.term_tree.proofs.Public.{arena_below, both_true, constant_at, eqb_self, part_below, there_is}
use Rattle.term_tables.specs.machinery.Table.{short_applied, short_integer, product_from, short_constant, short_constant_of, short_kept, short_operation, short_product}
use Rattle.term_tables.proofs.TableLemmas.{short_at}

short_is : (n : ℤ) → is_short n ≡ true → short_integer n ≡ Some n
short_is n h = ap (λ (b : Bool). if b then Some n else None) h

kept_is : (o : Option ℤ) → is_short_constant o ≡ true → short_kept o ≡ o
kept_is None h = refl
kept_is (Some n) h = short_is n h

same_numbers : (ns : List ℤ) → map integer (map (λ n. Int n) ns) ≡ ns
same_numbers [] = refl
same_numbers (n ∷ ns) = ap (λ (xs : List ℤ). n ∷ xs) (same_numbers ns)

product_is : (a : ℤ) (ns : List ℤ) → list_all is_short (prefix_results (λ x n. x *ℤ n) a ns) ≡ true → product_from a ns ≡ Some (fold (λ x n. x *ℤ n) a ns)
product_is a [] h = refl
product_is a (n ∷ ns) h =
    let both = both_true (is_short (a *ℤ n)) (list_all is_short (prefix_results (λ x k. x *ℤ k) (a *ℤ n) ns)) h in
    ap (λ (b : Bool). if b then product_from (a *ℤ n) ns else None) both.0 ∙ product_is (a *ℤ n) ns both.1

-- an operation other than a product, whose value f gives
by_value : (f : List ℤ → ℤ) (ns : List ℤ) → is_short (f (map integer (map (λ n. Int n) ns))) ≡ true → short_integer (f ns) ≡ Some (f (map integer (map (λ n. Int n) ns)))
by_value f ns h = ap (λ (xs : List ℤ). short_integer (f xs)) (sym (same_numbers ns)) ∙ short_is (f (map integer (map (λ n. Int n) ns))) h

among_step : (n : ℤ) (given : List (Option ℤ)) (ns : List ℤ) (o : Option (List ℤ)) → ((ms : List ℤ) → o ≡ Some ms → constants_among given ≡ ms) → option_map (λ ms. n ∷ ms) o ≡ Some ns
    → n ∷ constants_among given ≡ ns
among_step n given ns None rest h = absurd (cc)
among_step n given ns (Some ms) rest h = let same : n ∷ ms ≡ ns = cc in ap (λ (xs : List ℤ). n ∷ xs) (rest ms refl) ∙ same

all_among : (given : List (Option ℤ)) (ns : List ℤ) → all_constant given ≡ Some ns → constants_among given ≡ ns
all_among [] ns h = cc
all_among (None ∷ given) ns h = absurd (cc)
all_among (Some n ∷ given) ns h = among_step n given ns (all_constant given) (λ ms is. all_among given ms is) h

product_value : (ns : List ℤ) → list_all is_short (prefix_results (λ x n. x *ℤ n) (pos 1) ns) ≡ true → short_product ns ≡ Some (integer_result Mul ns)
product_value ns prefixes = product_is (pos 1) ns prefixes ∙ ap (λ (xs : List ℤ). Some (product_of xs)) (sym (same_numbers ns))

abbrev value_by : OpKind → Option (List ℤ) → Option ℤ
value_by op all = if is_arithmetic op then option_map (integer_result op) all else None

-- a product, from the constants among its factors
product_operation : (given : List (Option ℤ)) (o : Option (List ℤ)) → all_constant given ≡ o → list_all is_short (prefix_results (λ x n. x *ℤ n) (pos 1) (constants_among given)) ≡ true
    → short_operation Mul o ≡ value_by Mul o
product_operation given None is prefixes = refl
product_operation given (Some ns) is prefixes =
    product_value ns (subst (λ (xs : List ℤ). list_all is_short (prefix_results (λ x n. x *ℤ n) (pos 1) xs) ≡ true) (all_among given ns is) prefixes)

-- another operation, where its value is short
abbrev prefixes_short : OpKind → List (Option ℤ) → Bool
prefixes_short Mul given = list_all is_short (prefix_results (λ x n. x *ℤ n) (pos 1) (constants_among given))
prefixes_short _ given = true

operation_is : (op : OpKind) (given : List (Option ℤ)) (o : Option (List ℤ)) → all_constant given ≡ o → prefixes_short op given ≡ true
    → is_short_constant (value_by op o) ≡ true → short_operation op o ≡ value_by op o
operation_is Mul given o is prefixes short = product_operation given o is prefixes
operation_is Add given None is prefixes short = refl
operation_is Add given (Some ns) is prefixes short = by_value sum_of ns short
operation_is Sub given None is prefixes short = refl
operation_is Sub given (Some ns) is prefixes short = by_value difference_of ns short
operation_is Abs given None is prefixes short = refl
operation_is Abs given (Some ns) is prefixes short = by_value (λ xs. pos (nat_abs (first_of_all xs))) ns short
operation_is Div given None is prefixes short = refl
operation_is Div given (Some ns) is prefixes short = by_value (on_two int_div_euclid) ns short
operation_is Mod given None is prefixes short = refl
operation_is Mod given (Some ns) is prefixes short = by_value (on_two int_rem_euclid) ns short
operation_is Not given None is prefixes short = refl
operation_is Not given (Some ns) is prefixes short = refl
operation_is And given None is prefixes short = refl
operation_is And given (Some ns) is prefixes short = refl
operation_is Or given None is prefixes short = refl
operation_is Or given (Some ns) is prefixes short = refl
operation_is Xor given None is prefixes short = refl
operation_is Xor given (Some ns) is prefixes short = refl
operation_is Implies given None is prefixes short = refl
operation_is Implies given (Some ns) is prefixes short = refl
operation_is Eq given None is prefixes short = refl
operation_is Eq given (Some ns) is prefixes short = refl
operation_is Distinct given None is prefixes short = refl
operation_is Distinct given (Some ns) is prefixes short = refl
operation_is Ite given None is prefixes short = refl
operation_is Ite given (Some ns) is prefixes short = refl
operation_is Le given None is prefixes short = refl
operation_is Le given (Some ns) is prefixes short = refl
operation_is Lt given None is prefixes short = refl
operation_is Lt given (Some ns) is prefixes short = refl
operation_is Ge given None is prefixes short = refl
operation_is Ge given (Some ns) is prefixes short = refl
operation_is Gt given None is prefixes short = refl
operation_is Gt given (Some ns) is prefixes short = refl

-- what an operation asks of its parts
operation_parts : (C : ℕ → Option ℤ) (args : List TermId) (op : OpKind) → has_short_constants C (Op op args) ≡ true
    → (prefixes_short op (map (λ arg. C arg.0) args) ≡ true) × (is_short_constant (node_constant C (Op op args)) ≡ true)
operation_parts C args Mul h = both_true (list_all is_short (prefix_results (λ x n. x *ℤ n) (pos 1) (constants_among (map (λ arg. C arg.0) args)))) (is_short_constant (node_constant C (Op Mul args))) h
operation_parts C args Not h = (refl, h)
operation_parts C args And h = (refl, h)
operation_parts C args Or h = (refl, h)
operation_parts C args Xor h = (refl, h)
operation_parts C args Implies h = (refl, h)
operation_parts C args Eq h = (refl, h)
operation_parts C args Distinct h = (refl, h)
operation_parts C args Ite h = (refl, h)
operation_parts C args Add h = (refl, h)
operation_parts C args Sub h = (refl, h)
operation_parts C args Abs h = (refl, h)
operation_parts C args Div h = (refl, h)
operation_parts C args Mod h = (refl, h)
operation_parts C args Le h = (refl, h)
operation_parts C args Lt h = (refl, h)
operation_parts C args Ge h = (refl, h)
operation_parts C args Gt h = (refl, h)

parts_same : (p q : ℕ → Option ℤ) (ids : List TermId) → ((part : ℕ) → is_among part ids ≡ true → p part ≡ q part) → map (λ id. p id.0) ids ≡ map (λ id. q id.0) ids
parts_same p q [] same = refl
parts_same p q (id ∷ ids) same =
    ap (λ (o : Option ℤ). o ∷ map (λ (i : TermId). p i.0) ids) (same id.0 (ap (λ (b : Bool). b || is_among id.0 ids) (eqb_self id.0)))
    ∙ ap (λ (os : List (Option ℤ)). q id.0 ∷ os) (parts_same p q ids (λ part has. same part (ap (λ (b : Bool). (id.0 == part) || b) has ∙ or_true (id.0 == part))))
  where
    or_true : (b : Bool) → (b || true) ≡ true
    or_true true = refl
    or_true false = refl

body_part : (a b : Bool) → b ≡ true → (a || b) ≡ true
body_part true b h = refl
body_part false b h = h

node_is : (C S : ℕ → Option ℤ) (node : Node) → ((part : ℕ) → is_part part node ≡ true → S part ≡ C part) → has_short_constants C node ≡ true → short_constant S node ≡ node_constant C node
node_is C S (Num n) same h = short_is n h
node_is C S (LetVar bound) same h = ap short_kept (same bound.0 (eqb_self bound.0)) ∙ kept_is (C bound.0) h
node_is C S (Op op args) same h =
    let asked = operation_parts C args op h in
    ap (λ (given : List (Option ℤ)). short_operation op (all_constant given)) (parts_same S C args same)
    ∙ operation_is op (map (λ (arg : TermId). C arg.0) args) (all_constant (map (λ (arg : TermId). C arg.0) args)) refl asked.0 asked.1
node_is C S (Let bound body) same h = ap short_kept (same body.0 (body_part (is_among body.0 bound) (body.0 == body.0) (eqb_self body.0))) ∙ kept_is (C body.0) h
node_is C S True same h = refl
node_is C S False same h = refl
node_is C S (Var binder sort) same h = refl
node_is C S (Pred pred args) same h = refl
node_is C S (Divisible by arg) same h = refl
node_is C S (Forall first sorts body) same h = refl
node_is C S (Exists first sorts body) same h = refl

pub constants_are : (nodes : List Node) (top : ℕ) → IsArena nodes → EverySubterm (has_short_constants (constant_of nodes)) nodes top → (n id : ℕ) → id < n → IsSubterm nodes top id → id < length nodes
    → short_constant_of nodes id ≡ constant_of nodes id
constants_are nodes top arena short zero id h sub within = absurd (omega arith)
constants_are nodes top arena short (suc n) id h sub within =
    let found = there_is nodes id within in
    let node : Node = found.0 in
    let is : slice_get nodes id ≡ Some node = found.1 in
    let below : has_parts_below id node ≡ true = arena_below nodes id node arena is in
    short_at nodes id node is below
    ∙ node_is (constant_of nodes) (short_constant_of nodes) node
    (λ part has. let less : part < id = part_below part id node below has in constants_are nodes top arena short n part (omega arith) (inside part node sub is has) (omega arith)) (short id node sub is)
    ∙ sym (constant_at nodes id node is below)

-- what is short is kept as it is

again_integer : (n : ℤ) (b : Bool) → is_short n ≡ b → short_kept (if b then Some n else None) ≡ (if b then Some n else None)
again_integer n true e = short_is n e
again_integer n false e = refl

again_short : (n : ℤ) → short_kept (short_integer n) ≡ short_integer n
again_short n = again_integer n (is_short n) refl

again_kept : (o : Option ℤ) → short_kept (short_kept o) ≡ short_kept o
again_kept None = refl
again_kept (Some n) = again_short n

product_by : (a : ℤ) (ns : List ℤ) (b : Bool) → is_short a ≡ b → (is_short a ≡ true → short_kept (product_from a ns) ≡ product_from a ns) → short_kept (if b then product_from a ns else None) ≡ (if b then product_from a ns else None)
product_by a ns true short rest = rest short
product_by a ns false wide rest = refl

again_product : (a : ℤ) (ns : List ℤ) → is_short a ≡ true → short_kept (product_from a ns) ≡ product_from a ns
again_product a [] e = short_is a e
again_product a (n ∷ ns) e = product_by (a *ℤ n) ns (is_short (a *ℤ n)) refl (λ short. again_product (a *ℤ n) ns short)

again_applied : (op : OpKind) (ns : List ℤ) → short_kept (short_applied op ns) ≡ short_applied op ns
again_applied Add ns = again_short (sum_of ns)
again_applied Mul ns = again_product (pos 1) ns refl
again_applied Sub ns = again_short (difference_of ns)
again_applied Abs ns = again_short (pos (nat_abs (first_of_all ns)))
again_applied Div ns = again_short (on_two int_div_euclid ns)
again_applied Mod ns = again_short (on_two int_rem_euclid ns)
again_applied _ ns = refl

again_operation : (op : OpKind) (o : Option (List ℤ)) → short_kept (short_operation op o) ≡ short_operation op o
again_operation op None = refl
again_operation op (Some ns) = again_applied op ns

pub again_constant : (part : ℕ → Option ℤ) (node : Node) → short_kept (short_constant part node) ≡ short_constant part node
again_constant part (Num n) = again_short n
again_constant part (LetVar bound) = again_kept (part bound.0)
again_constant part (Op op args) = again_operation op (all_constant (map (λ (arg : TermId). part arg.0) args))
again_constant part (Let bound body) = again_kept (part body.0)
again_constant part _ = refl
