-- Induction over the subterms of a term, and the laws of a node for what is told of terms here.
use Rattle.std.proofs.Common.{◌≡◌, ℕ, zero, suc, ◌<◌, ◌==◌, List, [], ◌∷◌, length, Bool, true, ◌||◌, refl, ap, ◌∙◌, arith, map}
use Rattle.std.proofs.Math.Bool.{or-true}
use Rattle.std.specs.Prelude.{slice_get, Option, Some, nat_lt, ℤ, not}
use Rattle.std.specs.List.{list_all}
use Rattle.term_tree.specs.declared.node.TermId.{TermId}
use Rattle.term_tree.specs.declared.node.Node.{Node}
use Rattle.term_tree.specs.declared.node.Node.TheVariants.{Num, True, False, Var, LetVar, Pred, Op, Divisible, Let, Forall, Exists}
use Rattle.term_tree.specs.declared.node.OpKind.TheVariants.{Not, And as AndOp, Or as OrOp, Implies, Ite}
use Rattle.term_tree.specs.Arena.{IsArena, is_below, has_parts_below}
use Rattle.term_tree.specs.Subterms.{is_among, is_part, IsSubterm, inside}
use Rattle.term_tree.proofs.Public.{both_true, below_from}
use Rattle.term_tree.proofs.Public.{arena_below, part_below, there_is, eqb_self}
use Rattle.term_tree.proofs.Public.{told_at_each}
use Rattle.lin_atoms.specs.Linear.{Linear}
use Rattle.lin_atoms.specs.declared.form.Form.{Form}
use Rattle.lin_atoms.specs.declared.form.Form.TheVariants.{False as Wrong}
use Rattle.linear_terms.specs.Linear.{Naming, zero_form, auxiliary_form, operation_form, node_linear, node_bit, bit_form, told_linear, told_bit}
use Rattle.linear_terms.specs.Formula.{TermForms, node_formula, operation, joined, implication_forms, choice, denied, told_formula}

-- the two tell the same below n
abbrev Agree : (A X : Type 0) → (ℕ → A → X) → (ℕ → A → X) → ℕ → Type 0
Agree A X p q n = (c : ℕ) → c < n → (a : A) → p c a ≡ q c a

-- a node's parts decide what is told of it
abbrev RestsOnParts : (A X : Type 0) → ((ℕ → A → X) → Node → A → X) → Type 0
RestsOnParts A X step = (p q : ℕ → A → X) (n : ℕ) (node : Node) (a : A) → Agree A X p q n → has_parts_below n node ≡ true → step p node a ≡ step q node a

-- what holds of a term where it holds of its parts holds of every subterm that is there
by_parts_below : (nodes : List Node) → IsArena nodes → (top : ℕ) (P : ℕ → Type 0)
    → ((id : ℕ) (node : Node) → IsSubterm nodes top id → slice_get nodes id ≡ Some node → has_parts_below id node ≡ true
    → ((part : ℕ) → is_part part node ≡ true → P part) → P id)
    → (bound id : ℕ) → id < bound → id < length nodes → IsSubterm nodes top id → P id
by_parts_below nodes arena top P step zero id within there sub = absurd (omega arith)
by_parts_below nodes arena top P step (suc bound) id within there sub =
    let found = there_is nodes id there in
    let node : Node = found.0 in
    let below : has_parts_below id node ≡ true = arena_below nodes id node arena found.1 in
    step id node sub found.1 below (λ part has.
    by_parts_below nodes arena top P step bound part (omega (arith, part_below part id node below has)) (omega (arith, part_below part id node below has))
    (inside part node sub found.1 has))

pub by_parts : (nodes : List Node) → IsArena nodes → (top : ℕ) (P : ℕ → Type 0)
    → ((id : ℕ) (node : Node) → IsSubterm nodes top id → slice_get nodes id ≡ Some node → has_parts_below id node ≡ true
    → ((part : ℕ) → is_part part node ≡ true → P part) → P id)
    → (id : ℕ) → id < length nodes → IsSubterm nodes top id → P id
by_parts nodes arena top P step id there sub = by_parts_below nodes arena top P step (suc id) id (omega arith) there sub

-- the first of some terms is among them, and so are the others
pub first_among : (id : TermId) (ids : List TermId) → is_among id.0 (id ∷ ids) ≡ true
first_among id ids = ap (λ (b : Bool). b || is_among id.0 ids) (eqb_self id.0)

pub later_among : (part : ℕ) (id : TermId) (ids : List TermId) → is_among part ids ≡ true → is_among part (id ∷ ids) ≡ true
later_among part id ids h = ap (λ (b : Bool). (id.0 == part) || b) h ∙ or-true (id.0 == part)

pub body_among : (bound : List TermId) (body : TermId) → is_part body.0 (Let bound body) ≡ true
body_among bound body = ap (λ (b : Bool). is_among body.0 bound || b) (eqb_self body.0) ∙ or-true (is_among body.0 bound)

same_own : {X : Type 0} (p q : ℕ → ℕ → X) (n : ℕ) (ids : List TermId) → Agree ℕ X p q n → list_all (is_below n) ids ≡ true
    → map (λ (id : TermId). p id.0 id.0) ids ≡ map (λ (id : TermId). q id.0 id.0) ids
same_own p q n [] same below = refl
same_own {X} p q n (id ∷ ids) same below =
    let both = both_true (nat_lt id.0 n) (list_all (is_below n) ids) below in
    ap (λ (x : X). x ∷ map (λ (i : TermId). p i.0 i.0) ids) (same id.0 (below_from id.0 n both.0) id.0)
    ∙ ap (λ (xs : List X). q id.0 id.0 ∷ xs) (same_own p q n ids same both.1)

linears_rest : (constant : ℕ → Option ℤ) (naming : Naming) → RestsOnParts ℕ Linear (node_linear constant naming)
linears_rest constant naming p q n (LetVar bound) own same below = same bound.0 (below_from bound.0 n below) bound.0
linears_rest constant naming p q n (Op op args) own same below =
    ap (operation_form op (auxiliary_form (naming.auxiliary own)) (map (λ (arg : TermId). constant arg.0) args)) (same_own p q n args same below)
linears_rest constant naming p q n (Let bound body) own same below =
    let both = both_true (list_all (is_below n) bound) (nat_lt body.0 n) below in same body.0 (below_from body.0 n both.1) body.0
linears_rest constant naming p q n (Num k) own same below = refl
linears_rest constant naming p q n True own same below = refl
linears_rest constant naming p q n False own same below = refl
linears_rest constant naming p q n (Var binder sort) own same below = refl
linears_rest constant naming p q n (Pred pred args) own same below = refl
linears_rest constant naming p q n (Divisible by arg) own same below = refl
linears_rest constant naming p q n (Forall first sorts body) own same below = refl
linears_rest constant naming p q n (Exists first sorts body) own same below = refl

bits_rest : (naming : Naming) → RestsOnParts ℕ Linear (node_bit naming)
bits_rest naming p q n (LetVar bound) own same below = ap (bit_form (naming.auxiliary own)) (same bound.0 (below_from bound.0 n below) bound.0)
bits_rest naming p q n (Num k) own same below = refl
bits_rest naming p q n True own same below = refl
bits_rest naming p q n False own same below = refl
bits_rest naming p q n (Var binder sort) own same below = refl
bits_rest naming p q n (Pred pred args) own same below = refl
bits_rest naming p q n (Op op args) own same below = refl
bits_rest naming p q n (Divisible by arg) own same below = refl
bits_rest naming p q n (Let bound body) own same below = refl
bits_rest naming p q n (Forall first sorts body) own same below = refl
bits_rest naming p q n (Exists first sorts body) own same below = refl

same_sign : (p q : ℕ → Bool → Form) (n : ℕ) (ids : List TermId) (sign : Bool) → Agree Bool Form p q n → list_all (is_below n) ids ≡ true
    → map (λ (id : TermId). p id.0 sign) ids ≡ map (λ (id : TermId). q id.0 sign) ids
same_sign p q n [] sign same below = refl
same_sign p q n (id ∷ ids) sign same below =
    let both = both_true (nat_lt id.0 n) (list_all (is_below n) ids) below in
    ap (λ (x : Form). x ∷ map (λ (i : TermId). p i.0 sign) ids) (same id.0 (below_from id.0 n both.0) sign)
    ∙ ap (λ (xs : List Form). q id.0 sign ∷ xs) (same_sign p q n ids sign same both.1)

same_implied : (p q : ℕ → Bool → Form) (n : ℕ) (ids : List TermId) (sign : Bool) → Agree Bool Form p q n → list_all (is_below n) ids ≡ true
    → implication_forms p sign ids ≡ implication_forms q sign ids
same_implied p q n [] sign same below = refl
same_implied p q n (id ∷ []) sign same below =
    ap (λ (x : Form). x ∷ []) (same id.0 (below_from id.0 n (both_true (nat_lt id.0 n) true below).0) sign)
same_implied p q n (id ∷ next ∷ ids) sign same below =
    let both = both_true (nat_lt id.0 n) (list_all (is_below n) (next ∷ ids)) below in
    ap (λ (x : Form). x ∷ implication_forms p sign (next ∷ ids)) (same id.0 (below_from id.0 n both.0) (not sign))
    ∙ ap (λ (xs : List Form). q id.0 (not sign) ∷ xs) (same_implied p q n (next ∷ ids) sign same both.1)

same_denied : (p q : ℕ → Bool → Form) (n : ℕ) (ids : List TermId) (sign : Bool) → Agree Bool Form p q n → list_all (is_below n) ids ≡ true
    → denied p sign ids ≡ denied q sign ids
same_denied p q n [] sign same below = refl
same_denied p q n (id ∷ ids) sign same below = same id.0 (below_from id.0 n (both_true (nat_lt id.0 n) (list_all (is_below n) ids) below).0) (not sign)

same_choice : (p q : ℕ → Bool → Form) (bit : ℕ → Linear) (n : ℕ) (ids : List TermId) (sign : Bool) → Agree Bool Form p q n → list_all (is_below n) ids ≡ true
    → choice p bit sign ids ≡ choice q bit sign ids
same_choice p q bit n [] sign same below = refl
same_choice p q bit n (c ∷ []) sign same below = refl
same_choice p q bit n (c ∷ s ∷ []) sign same below = refl
same_choice p q bit n (c ∷ s ∷ r ∷ []) sign same below =
    let rest = both_true (nat_lt c.0 n) (list_all (is_below n) (s ∷ r ∷ [])) below in
    let last = both_true (nat_lt s.0 n) (list_all (is_below n) (r ∷ [])) rest.1 in
    let s_same = same s.0 (below_from s.0 n last.0) sign in
    let r_same = same r.0 (below_from r.0 n (both_true (nat_lt r.0 n) true last.1).0) sign in
    cc
same_choice p q bit n (c ∷ s ∷ r ∷ x ∷ ids) sign same below = refl

operations_rest : (reading : TermForms) (p q : ℕ → Bool → Form) (n : ℕ) → Agree Bool Form p q n → (args : List TermId) (sign : Bool) → list_all (is_below n) args ≡ true
    → (op : _) → operation reading p op args sign ≡ operation reading q op args sign
operations_rest reading p q n same args sign below Not = same_denied p q n args sign same below
operations_rest reading p q n same args sign below AndOp = ap (joined sign) (same_sign p q n args sign same below)
operations_rest reading p q n same args sign below OrOp = ap (joined (not sign)) (same_sign p q n args sign same below)
operations_rest reading p q n same args sign below Implies = ap (joined (not sign)) (same_implied p q n args sign same below)
operations_rest reading p q n same args sign below Ite = same_choice p q reading.bit n args sign same below
operations_rest reading p q n same args sign below _ = refl

formulas_rest : (reading : TermForms) (naming : Naming) → RestsOnParts Bool Form (node_formula reading naming)
formulas_rest reading naming p q n (Op op args) sign same below = operations_rest reading p q n same args sign below op
formulas_rest reading naming p q n (Let bound body) sign same below =
    let both = both_true (list_all (is_below n) bound) (nat_lt body.0 n) below in same body.0 (below_from body.0 n both.1) sign
formulas_rest reading naming p q n (LetVar bound) sign same below = refl
formulas_rest reading naming p q n (Num k) sign same below = refl
formulas_rest reading naming p q n True sign same below = refl
formulas_rest reading naming p q n False sign same below = refl
formulas_rest reading naming p q n (Var binder sort) sign same below = refl
formulas_rest reading naming p q n (Pred pred args) sign same below = refl
formulas_rest reading naming p q n (Divisible by arg) sign same below = refl
formulas_rest reading naming p q n (Forall first sorts body) sign same below = refl
formulas_rest reading naming p q n (Exists first sorts body) sign same below = refl

-- the linear form of a term, by its node
pub linear_at : (constant : ℕ → Option ℤ) (naming : Naming) (nodes : List Node) (id own : ℕ) (node : Node) → slice_get nodes id ≡ Some node → has_parts_below id node ≡ true
    → told_linear constant naming nodes id own ≡ node_linear constant naming (told_linear constant naming nodes) node own
linear_at constant naming nodes id own node is below = told_at_each ℕ Linear (λ own. zero_form) (node_linear constant naming) (linears_rest constant naming) nodes id node own is below

pub bit_at : (naming : Naming) (nodes : List Node) (id own : ℕ) (node : Node) → slice_get nodes id ≡ Some node → has_parts_below id node ≡ true
    → told_bit naming nodes id own ≡ node_bit naming (told_bit naming nodes) node own
bit_at naming nodes id own node is below = told_at_each ℕ Linear (λ own. zero_form) (node_bit naming) (bits_rest naming) nodes id node own is below

pub formula_at : (reading : TermForms) (naming : Naming) (nodes : List Node) (id : ℕ) (sign : Bool) (node : Node) → slice_get nodes id ≡ Some node → has_parts_below id node ≡ true
    → told_formula reading naming nodes id sign ≡ node_formula reading naming (told_formula reading naming nodes) node sign
formula_at reading naming nodes id sign node is below = told_at_each Bool Form (λ sign. Wrong) (node_formula reading naming) (formulas_rest reading naming) nodes id node sign is below
