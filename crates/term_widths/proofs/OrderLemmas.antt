-- The linear forms of definitions are in order: their variables rise, and no coefficient is 0.
use Rattle.std.proofs.Common.{◌≡◌, ℕ, zero, suc, ◌<◌, List, [], ◌∷◌, length, map, drop, Bool, true, false, ◌||◌, ◌==◌, refl, ap, ◌∙◌, arith}
use Rattle.std.specs.Prelude.{slice_get, Option, Some, None, ℤ, pos}
use Rattle.std.specs.List.{AllByRecursion}
use Rattle.term_tree.specs.declared.node.TermId.{TermId}
use Rattle.term_tree.specs.declared.node.OpKind.{OpKind}
use Rattle.term_tree.specs.declared.node.OpKind.TheVariants.{Add, Sub, Mul, Ite, Abs, Div, Mod}
use Rattle.term_tree.specs.declared.node.Node.{Node}
use Rattle.term_tree.specs.declared.node.Node.TheVariants.{Num, Var, LetVar, Op, Let}
use Rattle.term_tree.specs.Arena.{IsArena, has_parts_below}
use Rattle.term_tree.specs.Constants.{constant_of, constants_among}
use Rattle.term_tree.specs.Operators.{product_of}
use Rattle.term_tree.specs.Subterms.{is_among, is_part}
use Rattle.term_tree.proofs.Public.{arena_below, eqb_self, part_below, there_is}
use Rattle.lin_atoms.specs.Linear.{Linear, are_ordered}
use Rattle.lin_atoms.specs.Algebra.{negated, negated_terms}
use Rattle.lin_atoms.proofs.LinearLemmas.{are_ordered-negated}
use Rattle.lin_atoms.proofs.Public.{collected-ordered, ordered-cons, scaled-ordered}
use Rattle.linear_terms.specs.Linear.{Naming, all_terms, auxiliary_form, difference_form, linear_of, multiple_of, node_linear, operation_form, told_linear, varying_form}
use Rattle.linear_terms.proofs.PartLemmas.{first_among, later_among, linear_at}

abbrev pub IsRising : Linear → Type 0
IsRising form = are_ordered 0 form.terms ≡ true

variable_rises : (v : ℕ) → are_ordered 0 ((v, pos 1) ∷ []) ≡ true
variable_rises v = ordered-cons 0 (v, pos 1) [] (omega arith) (omega arith) refl

auxiliary_rises : (o : Option ℕ) → IsRising (auxiliary_form o)
auxiliary_rises None = refl
auxiliary_rises (Some v) = variable_rises v

negated_rises : (from : ℕ) (ts : List (ℕ × ℤ)) → are_ordered from ts ≡ true → are_ordered from (negated_terms ts) ≡ true
negated_rises from ts h = are_ordered-negated from ts ∙ h

difference_rises : (forms : List Linear) → AllByRecursion IsRising forms → IsRising (difference_form forms)
difference_rises [] rise = refl
difference_rises (a ∷ []) rise = negated_rises 0 a.terms rise.0
difference_rises (a ∷ b ∷ forms) rise = collected-ordered (all_terms (a ∷ map negated (b ∷ forms)))

first_rises : (whole : List (Option ℤ)) (forms : List Linear) → AllByRecursion IsRising forms → IsRising (multiple_of None whole forms)
first_rises whole [] rise = refl
first_rises whole (f ∷ forms) rise = scaled-ordered (product_of (constants_among (drop 1 whole))) 0 f.terms rise.0

product_rises : (whole constants : List (Option ℤ)) (forms rest : List Linear) → AllByRecursion IsRising forms → AllByRecursion IsRising rest → IsRising (multiple_of (varying_form constants rest) whole forms)
product_rises whole [] forms rest rise others = first_rises whole forms rise
product_rises whole (c ∷ constants) forms [] rise others = first_rises whole forms rise
product_rises whole (None ∷ constants) forms (f ∷ rest) rise others = scaled-ordered (product_of (constants_among whole)) 0 f.terms others.0
product_rises whole (Some n ∷ constants) forms (f ∷ rest) rise others = product_rises whole constants forms rest rise others.1

operation_rises : (op : OpKind) (unit : Linear) (constants : List (Option ℤ)) (forms : List Linear) → IsRising unit → AllByRecursion IsRising forms → IsRising (operation_form op unit constants forms)
operation_rises Add unit constants forms own rise = collected-ordered (all_terms forms)
operation_rises Sub unit constants forms own rise = difference_rises forms rise
operation_rises Mul unit constants forms own rise = product_rises constants constants forms forms rise rise
operation_rises Ite unit constants forms own rise = own
operation_rises Abs unit constants forms own rise = own
operation_rises Div unit constants forms own rise = own
operation_rises Mod unit constants forms own rise = own
operation_rises _ unit constants forms own rise = refl

args_rise : (f : ℕ → Linear) (args : List TermId) → ((part : ℕ) → is_among part args ≡ true → IsRising (f part)) → AllByRecursion IsRising (map (λ (x : TermId). f x.0) args)
args_rise f [] rise = tt
args_rise f (x ∷ args) rise = (rise x.0 (first_among x args), args_rise f args (λ part has. rise part (later_among part x args has)))

either_right : (a b : Bool) → b ≡ true → (a || b) ≡ true
either_right true b h = refl
either_right false b h = h

node_rises : (C : ℕ → Option ℤ) (naming : Naming) (part : ℕ → ℕ → Linear) (node : Node) (own : ℕ) → ((k : ℕ) → is_part k node ≡ true → IsRising (part k k)) → IsRising (node_linear C naming part node own)
node_rises C naming part (Num n) own rise = refl
node_rises C naming part (Var binder sort) own rise = variable_rises (naming.own binder)
node_rises C naming part (LetVar bound) own rise = rise bound.0 (eqb_self bound.0)
node_rises C naming part (Op op args) own rise =
    operation_rises op (auxiliary_form (naming.auxiliary own)) (map (λ (x : TermId). C x.0) args) (map (λ (x : TermId). part x.0 x.0) args)
    (auxiliary_rises (naming.auxiliary own)) (args_rise (λ k. part k k) args rise)
node_rises C naming part (Let bound body) own rise = rise body.0 (either_right (is_among body.0 bound) (body.0 == body.0) (eqb_self body.0))
node_rises C naming part _ own rise = refl

pub linear_rises : (naming : Naming) (nodes : List Node) → IsArena nodes → (n id : ℕ) → id < n → id < length nodes → IsRising (linear_of naming nodes id)
linear_rises naming nodes arena zero id h within = absurd (omega arith)
linear_rises naming nodes arena (suc n) id h within =
    let found = there_is nodes id within in
    let node : Node = found.0 in
    let is : slice_get nodes id ≡ Some node = found.1 in
    let below : has_parts_below id node ≡ true = arena_below nodes id node arena is in
    ap (λ (form : Linear). are_ordered 0 form.terms) (linear_at (constant_of nodes) naming nodes id id node is below)
    ∙ node_rises (constant_of nodes) naming (told_linear (constant_of nodes) naming nodes) node id
    (λ k has. let less : k < id = part_below k id node below has in linear_rises naming nodes arena n k (omega arith) (omega arith))
