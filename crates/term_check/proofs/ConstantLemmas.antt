-- Constants of operations that the rules let through: their values, that they are short, and that products and divisions are linear.
use Rattle.std.proofs.Common.{◌≡◌, ℕ, ◌+◌, ◌≤◌, List, [], ◌∷◌, length, Bool, true, false, refl, ap, sym, ◌∙◌, subst, arith, Result, Ok}
use Rattle.std.proofs.lemmas.List.{length-map}
use Rattle.std.specs.Prelude.{not, Option, Some, None, option_map, nat_lt, nat_eq, map, fold, ℤ, pos, ◌*ℤ◌, nat_abs, slice_get, if◌then◌else◌}
use Rattle.std.specs.Int.{int_div_euclid, int_rem_euclid}
use Rattle.std.specs.List.{list_all}
use Rattle.std.specs.Ordering.{int_eq}
use Rattle.term_tree.specs.declared.node.TermId.{TermId}
use Rattle.term_tree.specs.declared.node.OpKind.{OpKind}
use Rattle.term_tree.specs.declared.node.OpKind.TheVariants.{Not, And, Or, Xor, Implies, Eq, Distinct, Ite, Add, Mul, Sub, Abs, Div, Mod, Le, Lt, Ge, Gt}
use Rattle.term_tree.specs.declared.node.Node.TheVariants.{Op}
use Rattle.term_tree.specs.declared.scalar.Value.TheVariants.{Int}
use Rattle.term_tree.specs.Constants.{all_constant, constants_among, integer_result, is_arithmetic, is_short, is_short_constant, is_divisor, is_linear, has_short_constants}
use Rattle.term_tree.specs.Operators.{integer, sum_of, difference_of, on_two, first_of_all}
use Rattle.term_tree.specs.Width.{prefix_results}
use Rattle.term_check.specs.declared.part.Part.{Part}
use Rattle.term_check.specs.declared.part.Fault.{Fault}
use Rattle.term_check.specs.Rules.{number_fault, linear_fault, product_fault, divisor_fault, divisor_fault_by, is_constant, varying, is_short, if_short, multiplied, product_if_short, worth_of, worth, quotient, remainder, value_at, wide_unless, without_value, product_constant, operator_constant}
use Rattle.term_check.proofs.OutcomeLemmas.{both_are, not_if, not_below, up_to, same_numbers, other_numbers}
use Rattle.term_check.proofs.SortLemmas.{right_number}

-- the constants of parts
abbrev pub constants : List Part → List (Option ℤ)
constants ps = map (λ (p : Part). p.constant) ps

-- the constant of an operation on parts with these
abbrev pub operation_constant : OpKind → List (Option ℤ) → Option ℤ
operation_constant op given = if is_arithmetic op then option_map (integer_result op) (all_constant given) else None

-- Which parts are constants.

more_counted : (c : Option ℤ) (cs : List (Option ℤ)) (n v : ℕ) → n ≡ length (constants_among cs) + v
    → n + 1 ≡ length (constants_among (c ∷ cs)) + (if is_constant c then v else v + 1)
more_counted None cs n v h = omega (arith, h)
more_counted (Some k) cs n v h = omega (arith, h)

counted : (ps : List Part) → length ps ≡ length (constants_among (constants ps)) + varying ps
counted [] = refl
counted (p ∷ ps) = omega (arith, more_counted p.constant (constants ps) (length ps) (varying ps) (counted ps))

more_constant : (c : Option ℤ) (cs : List (Option ℤ)) (v : ℕ) (ks : List ℤ) → (v ≡ 0 → all_constant cs ≡ Some ks)
    → (if is_constant c then v else v + 1) ≡ 0 → all_constant (c ∷ cs) ≡ Some (worth_of c ∷ ks)
more_constant None cs v ks h e = absurd (omega (arith, e))
more_constant (Some k) cs v ks h e = ap (λ (o : Option (List ℤ)). option_map (λ ns. k ∷ ns) o) (h e)

all_are : (ps : List Part) → varying ps ≡ 0 → all_constant (constants ps) ≡ Some (map worth ps)
all_are [] e = refl
all_are (p ∷ ps) e = more_constant p.constant (constants ps) (varying ps) (map worth ps) (all_are ps) e

more_among : (c : Option ℤ) (cs : List (Option ℤ)) (v : ℕ) → (v ≡ 0 → all_constant cs ≡ Some (constants_among cs))
    → (if is_constant c then v else v + 1) ≡ 0 → all_constant (c ∷ cs) ≡ Some (constants_among (c ∷ cs))
more_among None cs v h e = absurd (omega (arith, e))
more_among (Some k) cs v h e = ap (λ (o : Option (List ℤ)). option_map (λ ns. k ∷ ns) o) (h e)

all_among : (ps : List Part) → varying ps ≡ 0 → all_constant (constants ps) ≡ Some (constants_among (constants ps))
all_among [] e = refl
all_among (p ∷ ps) e = more_among p.constant (constants ps) (varying ps) (all_among ps) e

more_none : (c : Option ℤ) (cs : List (Option ℤ)) (v : ℕ) → ((v ≡ 0 → ⊥) → all_constant cs ≡ None)
    → ((if is_constant c then v else v + 1) ≡ 0 → ⊥) → all_constant (c ∷ cs) ≡ None
more_none None cs v h e = refl
more_none (Some k) cs v h e = ap (λ (o : Option (List ℤ)). option_map (λ ns. k ∷ ns) o) (h e)

some_vary : (ps : List Part) → (varying ps ≡ 0 → ⊥) → all_constant (constants ps) ≡ None
some_vary [] e = absurd (e refl)
some_vary (p ∷ ps) e = more_none p.constant (constants ps) (varying ps) (some_vary ps) e

-- Narrow values.

if_short_by : (b : Bool) (k m : ℤ) → (if b then Some k else None) ≡ Some m → (b ≡ true) × (k ≡ m)
if_short_by true k m h = (refl, cc)
if_short_by false k m h = absurd (cc)

let_through : (start : ℕ) (o : Option ℤ) (c : Option ℤ) → wide_unless start o ≡ Ok c → (k : ℤ) × (o ≡ Some k) × (c ≡ Some k)
let_through start None c h = absurd (cc)
let_through start (Some k) c h = (k, refl, cc)

short_value : (v : ℤ) (c : Option ℤ) → is_short v ≡ true → Some v ≡ c → is_short_constant c ≡ true
short_value v c h e = subst (λ (o : Option ℤ). is_short_constant o ≡ true) e h

no_value : (c : Option ℤ) → None ≡ c → is_short_constant c ≡ true
no_value c e = subst (λ (o : Option ℤ). is_short_constant o ≡ true) e refl

-- an operation of arithmetic but a product, whose value is the same by both definitions
arithmetic : (start : ℕ) (f g : List ℤ → ℤ) (ps : List Part) (c : Option ℤ) (b : Bool) → nat_eq (varying ps) 0 ≡ b → (varying ps ≡ 0 → f (map worth ps) ≡ g (map worth ps))
    → (if b then wide_unless start (if_short (g (map worth ps))) else Ok None) ≡ Ok c
    → (option_map f (all_constant (constants ps)) ≡ c) × (is_short_constant c ≡ true)
arithmetic start f g ps c true e same h =
    let none = same_numbers (varying ps) 0 e in
    let through = let_through start (if_short (g (map worth ps))) c h in
    let short = if_short_by (is_short (g (map worth ps))) (g (map worth ps)) through.0 through.1 in
    let is : Some (g (map worth ps)) ≡ c = ap (λ (k : ℤ). Some k) short.1 ∙ sym through.2 in (
      ap (λ (o : Option (List ℤ)). option_map f o) (all_are ps none) ∙ ap (λ (k : ℤ). Some k) (same none) ∙ is,
      short_value (g (map worth ps)) c short.0 is,
    )
arithmetic start f g ps c false e same h =
    let is : None ≡ c = nothing c h in
    (ap (λ (o : Option (List ℤ)). option_map f o) (some_vary ps (other_numbers (varying ps) 0 e)) ∙ is, no_value c is)
  where
    nothing : (c : Option ℤ) → (let r : Result (Option ℤ) Fault = Ok None in r) ≡ Ok c → None ≡ c
    nothing c h = cc

integers : (ks : List ℤ) → map integer (map (λ (k : ℤ). Int k) ks) ≡ ks
integers [] = refl
integers (k ∷ ks) = ap (λ (ms : List ℤ). k ∷ ms) (integers ks)

-- Products.

none_stays : (cs : List (Option ℤ)) → fold multiplied None cs ≡ None
none_stays [] = refl
none_stays (c ∷ cs) = none_stays cs

-- what a product of constants from here on is, and that all on the way are short
abbrev IsShortProduct : ℤ → ℤ → List ℤ → Type 0
IsShortProduct a k ns = (fold (λ (x y : ℤ). x *ℤ y) a ns ≡ k) × (list_all is_short (prefix_results (λ (x y : ℤ). x *ℤ y) a ns) ≡ true) × (is_short k ≡ true)

next_product : (a m k : ℤ) (cs : List (Option ℤ)) (b : Bool) → is_short (a *ℤ m) ≡ b
    → (is_short (a *ℤ m) ≡ true → fold multiplied (Some (a *ℤ m)) cs ≡ Some k → IsShortProduct (a *ℤ m) k (constants_among cs))
    → fold multiplied (if b then Some (a *ℤ m) else None) cs ≡ Some k → IsShortProduct a k (m ∷ constants_among cs)
next_product a m k cs true e later h =
    let r = later e h in (r.0, both_are _ _ e r.1, r.2)
next_product a m k cs false e later h = absurd (none_some (none_stays cs) h)
  where
    none_some : {o : Option ℤ} → o ≡ None → o ≡ Some k → ⊥
    none_some e h = cc

products : (a k : ℤ) (cs : List (Option ℤ)) → is_short a ≡ true → fold multiplied (Some a) cs ≡ Some k → IsShortProduct a k (constants_among cs)
products a k [] short h = (first h, refl, subst (λ (x : ℤ). is_short x ≡ true) (first h) short)
  where
    first : Some a ≡ Some k → a ≡ k
    first h = cc
products a k (None ∷ cs) short h = products a k cs short h
products a k (Some m ∷ cs) short h = next_product a m k cs (is_short (a *ℤ m)) refl (products (a *ℤ m) k cs) h

-- the product of the constant parts is short, and it is the constant where all are constant
product_known : (start : ℕ) (ps : List Part) (c : Option ℤ) (b : Bool)
    → (let product = wide_unless start (product_if_short ps) in if b then product else without_value product) ≡ Ok c
    → (k : ℤ) × (product_if_short ps ≡ Some k) × ((if b then Some k else None) ≡ c)
product_known start ps c true h = let t = let_through start (product_if_short ps) c h in (t.0, t.1, sym t.2)
product_known start ps c false h = by (product_if_short ps) refl h
  where
    by : (o : Option ℤ) → product_if_short ps ≡ o → without_value (wide_unless start o) ≡ Ok c → (k : ℤ) × (product_if_short ps ≡ Some k) × (None ≡ c)
    by None e h = absurd (cc)
    by (Some k) e h = (k, e, cc)

product_short : (start : ℕ) (ps : List Part) (c : Option ℤ) → product_constant start ps ≡ Ok c
    → (k : ℤ) × IsShortProduct (pos 1) k (constants_among (constants ps)) × ((if nat_eq (varying ps) 0 then Some k else None) ≡ c)
product_short start ps c h =
    let known = product_known start ps c (nat_eq (varying ps) 0) h in (known.0, products (pos 1) known.0 (constants ps) refl known.1, known.2)

product_value : (k : ℤ) (ps : List Part) (c : Option ℤ) (b : Bool) → nat_eq (varying ps) 0 ≡ b → IsShortProduct (pos 1) k (constants_among (constants ps)) → (if b then Some k else None) ≡ c
    → (option_map (integer_result Mul) (all_constant (constants ps)) ≡ c) × (is_short_constant c ≡ true)
product_value k ps c true e is h = (
  ap (λ (o : Option (List ℤ)). option_map (integer_result Mul) o) (all_among ps (same_numbers (varying ps) 0 e))
      ∙ ap (λ (ns : List ℤ). Some (fold (λ (x y : ℤ). x *ℤ y) (pos 1) ns)) (integers (constants_among (constants ps))) ∙ ap (λ (x : ℤ). Some x) is.0 ∙ h,
  short_value k c is.2 h,
)
product_value k ps c false e is h =
    (ap (λ (o : Option (List ℤ)). option_map (integer_result Mul) o) (some_vary ps (other_numbers (varying ps) 0 e)) ∙ h, no_value c h)

-- Divisions.

a_divisor : (start : ℕ) (c : Option ℤ) → divisor_fault_by start c ≡ None → (is_divisor (Some c) ≡ true) × (int_eq (worth_of c) (pos 0) ≡ false)
a_divisor start None h = absurd (cc)
a_divisor start (Some k) h = by (int_eq k (pos 0)) refl (not_if (int_eq k (pos 0)) _ _ h).0
  where
    by : (b : Bool) → int_eq k (pos 0) ≡ b → int_eq k (pos 0) ≡ false → (is_divisor (Some (Some k)) ≡ true) × (int_eq k (pos 0) ≡ false)
    by true e h = absurd (cc)
    by false e h = (ap not e, h)

divided : (start : ℕ) (ps : List Part) → 2 ≤ length ps → divisor_fault start ps ≡ None
    → (is_divisor (slice_get (constants ps) 1) ≡ true) × (on_two int_div_euclid (map worth ps) ≡ on_two quotient (map worth ps))
    × (on_two int_rem_euclid (map worth ps) ≡ on_two remainder (map worth ps))
divided start [] least h = absurd (omega (arith, least))
divided start (m ∷ []) least h = absurd (omega (arith, least))
divided start (m ∷ d ∷ ps) least h =
    let is = a_divisor start d.constant h in
    (is.0, ap (λ b. if b then pos 0 else int_div_euclid (worth m) (worth d)) (sym is.1), ap (λ b. if b then pos 0 else int_rem_euclid (worth m) (worth d)) (sym is.1))

nothing_known : (c : Option ℤ) → (let r : Result (Option ℤ) Fault = Ok None in r) ≡ Ok c → (None ≡ c) × (is_short_constant c ≡ true)
nothing_known c h = by c (cc)
  where
    by : (c : Option ℤ) → None ≡ c → (None ≡ c) × (is_short_constant c ≡ true)
    by c e = (e, no_value c e)

-- the value of an operation's constant is the operator's, and short
pub operation_known : (op : OpKind) (start : ℕ) (ps : List Part) (c : Option ℤ) → number_fault op start (length ps) ≡ None → linear_fault op start ps ≡ None → operator_constant op start ps ≡ Ok c
    → (operation_constant op (constants ps) ≡ c) × (is_short_constant c ≡ true)
operation_known Not start ps c n l h = nothing_known c h
operation_known And start ps c n l h = nothing_known c h
operation_known Or start ps c n l h = nothing_known c h
operation_known Xor start ps c n l h = nothing_known c h
operation_known Implies start ps c n l h = nothing_known c h
operation_known Eq start ps c n l h = nothing_known c h
operation_known Distinct start ps c n l h = nothing_known c h
operation_known Ite start ps c n l h = nothing_known c h
operation_known Add start ps c n l h =
    arithmetic start (integer_result Add) (value_at Add) ps c (nat_eq (varying ps) 0) refl (λ none. ap sum_of (integers (map worth ps))) h
operation_known Mul start ps c n l h =
    let is = product_short start ps c h in product_value is.0 ps c (nat_eq (varying ps) 0) refl is.1 is.2
operation_known Sub start ps c n l h =
    arithmetic start (integer_result Sub) (value_at Sub) ps c (nat_eq (varying ps) 0) refl (λ none. ap difference_of (integers (map worth ps))) h
operation_known Abs start ps c n l h =
    arithmetic start (integer_result Abs) (value_at Abs) ps c (nat_eq (varying ps) 0) refl (λ none. ap (λ (ks : List ℤ). pos (nat_abs (first_of_all ks))) (integers (map worth ps))) h
operation_known Div start ps c n l h =
    let is = divided start ps (right_number Div start (length ps) n).0 l in
    arithmetic start (integer_result Div) (value_at Div) ps c (nat_eq (varying ps) 0) refl (λ none. ap (on_two int_div_euclid) (integers (map worth ps)) ∙ is.1) h
operation_known Mod start ps c n l h =
    let is = divided start ps (right_number Mod start (length ps) n).0 l in
    arithmetic start (integer_result Mod) (value_at Mod) ps c (nat_eq (varying ps) 0) refl (λ none. ap (on_two int_rem_euclid) (integers (map worth ps)) ∙ is.2) h
operation_known Le start ps c n l h = nothing_known c h
operation_known Lt start ps c n l h = nothing_known c h
operation_known Ge start ps c n l h = nothing_known c h
operation_known Gt start ps c n l h = nothing_known c h

-- the node of an operation whose parts have the constants of these
module _ (part : ℕ → Option ℤ) (ids : List TermId) (ps : List Part) (are : map (λ (arg : TermId). part arg.0) ids ≡ constants ps) where
  product_linear : (start : ℕ) → product_fault start ps ≡ None → is_linear part (Op Mul ids) ≡ true
  product_linear start l =
      up_to (length ids) (length (constants_among (map (λ (arg : TermId). part arg.0) ids)) + 1)
      (omega (
        arith,
        counted ps,
        not_below 1 (varying ps) (not_if (nat_lt 1 (varying ps)) _ _ l).0,
        length-map ids (λ (arg : TermId). part arg.0),
        length-map ps (λ (p : Part). p.constant),
        ap (λ (cs : List (Option ℤ)). length cs) are,
        ap (λ (cs : List (Option ℤ)). length (constants_among cs)) are,
      ))

  division_linear : (start : ℕ) → 2 ≤ length ps → divisor_fault start ps ≡ None → is_divisor (slice_get (map (λ (arg : TermId). part arg.0) ids) 1) ≡ true
  division_linear start n l = ap (λ (cs : List (Option ℤ)). is_divisor (slice_get cs 1)) are ∙ (divided start ps n l).0

  pub operation_linear : (op : OpKind) (start : ℕ) → number_fault op start (length ps) ≡ None → linear_fault op start ps ≡ None → is_linear part (Op op ids) ≡ true
  operation_linear Mul start n l = product_linear start l
  operation_linear Div start n l = division_linear start (right_number Div start (length ps) n).0 l
  operation_linear Mod start n l = division_linear start (right_number Mod start (length ps) n).0 l
  operation_linear _ start n l = refl

  known_short : (op : OpKind) (c : Option ℤ) → operation_constant op (constants ps) ≡ c → is_short_constant c ≡ true
      → is_short_constant (operation_constant op (map (λ (arg : TermId). part arg.0) ids)) ≡ true
  known_short op c is short =
      ap (λ (cs : List (Option ℤ)). is_short_constant (operation_constant op cs)) are ∙ ap is_short_constant is ∙ short

  pub operation_short : (op : OpKind) (start : ℕ) (c : Option ℤ) → operator_constant op start ps ≡ Ok c → operation_constant op (constants ps) ≡ c → is_short_constant c ≡ true
      → has_short_constants part (Op op ids) ≡ true
  operation_short Mul start c h is short =
      both_are _ _
      (ap (λ (cs : List (Option ℤ)). list_all is_short (prefix_results (λ (x y : ℤ). x *ℤ y) (pos 1) (constants_among cs))) are ∙ (product_short start ps c h).1.1)
      (known_short Mul c is short)
  operation_short Not start c h is short = known_short Not c is short
  operation_short And start c h is short = known_short And c is short
  operation_short Or start c h is short = known_short Or c is short
  operation_short Xor start c h is short = known_short Xor c is short
  operation_short Implies start c h is short = known_short Implies c is short
  operation_short Eq start c h is short = known_short Eq c is short
  operation_short Distinct start c h is short = known_short Distinct c is short
  operation_short Ite start c h is short = known_short Ite c is short
  operation_short Add start c h is short = known_short Add c is short
  operation_short Sub start c h is short = known_short Sub c is short
  operation_short Abs start c h is short = known_short Abs c is short
  operation_short Div start c h is short = known_short Div c is short
  operation_short Mod start c h is short = known_short Mod c is short
  operation_short Le start c h is short = known_short Le c is short
  operation_short Lt start c h is short = known_short Lt c is short
  operation_short Ge start c h is short = known_short Ge c is short
  operation_short Gt start c h is short = known_short Gt c is short
