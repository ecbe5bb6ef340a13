-- What is found for a node from the bounds of its parts is a bound.
use Rattle.std.proofs.Common.{◌≡◌, ◌<◌, ◌≤◌, ℕ, ◌+◌, ◌*◌, ◌^◌, ◌==◌, cond, List, [], ◌∷◌, ◌++◌, length, length-append, map, Bool, true, false, not, ◌&&◌, inl, inr, refl, ap, sym, ◌∙◌, subst, arith}
use Rattle.std.proofs.lemmas.Bool.Decides.{nat_tests}
use Rattle.std.proofs.lemmas.Bool.{cases_lt}
use Rattle.std.proofs.lemmas.Int.{unsigned_abs-mul}
use Rattle.std.proofs.lemmas.Option.{none-some}
use Rattle.std.proofs.lemmas.List.{get_or_append_left, get_or_past, get_or_push}
use Rattle.std.proofs.Math.Nat.{mul-le-mul, mul_assoc, mul_comm, mul_left_comm}
use Rattle.std.specs.Prelude.{slice_get, slice_index_or, fold, Option, Some, None, nat_lt, ℤ, pos, nat_abs, ◌*ℤ◌, if◌then◌else◌}
use Rattle.std.specs.List.{AllByRecursion, list_any}
use Rattle.base.specs.Widths.{short_limit}
use Rattle.term_tree.specs.declared.node.TermId.{TermId}
use Rattle.term_tree.specs.declared.node.OpKind.{OpKind}
use Rattle.term_tree.specs.declared.node.OpKind.TheVariants.{Add, Sub, Mul, Ite, Abs, Div, Mod, Eq, Distinct, Le, Lt, Ge, Gt}
use Rattle.term_tree.specs.declared.node.Node.{Node}
use Rattle.term_tree.specs.declared.node.Node.TheVariants.{Num, True, False, Var, LetVar, Pred, Op, Divisible, Let, Forall, Exists}
use Rattle.term_tree.specs.Arena.{has_parts_below}
use Rattle.term_tree.specs.Constants.{constants_among}
use Rattle.term_tree.specs.Operators.{product_of}
use Rattle.lin_atoms.specs.Linear.{Linear}
use Rattle.lin_atoms.specs.Algebra.{scaled}
use Rattle.linear_terms.specs.Formula.{sides}
use Rattle.linear_terms.specs.Linear.{Naming, auxiliary_form, multiple_of, node_linear, operation_form, told_linear, varying_form, zero_form}
use Rattle.linear_terms.specs.Width.{first_among, first_of_two, first_where, is_relation, is_wide_relation, text_parts}
use Rattle.linear_terms.proofs.PartLemmas.{linear_at}
use Rattle.term_forms.specs.Found.{form_by, is_wide}
use Rattle.term_forms.proofs.FoundLemmas.{first_at}
use Rattle.term_widths.specs.Sides.{is_wide_pair}
use Rattle.term_widths.specs.Wide.{first_wide_by, has_wide_sides}
use Rattle.term_widths.specs.machinery.Room.{AreBounds, IsBound, bound_in, bounded_as, factor, form_size, greater, if_bounded, is_bounded, node_bound, operation_bound, product_from, short_bound, sum_from}
use Rattle.term_widths.specs.machinery.Word.{kept}
use Rattle.term_widths.proofs.SizeLemmas.{narrow_by_size, narrow_sides, size_difference, size_scaled, size_sum, sizes}
use Rattle.term_widths.proofs.SeekLemmas.{seek_by_node}

bounded_by : (o : Option ℕ) (f : ℕ → Option ℕ) (b : ℕ) → if_bounded o f ≡ Some b → (m : ℕ) × (o ≡ Some m) × (f m ≡ Some b)
bounded_by None f b h = absurd (cc)
bounded_by (Some m) f b h = (m, refl, h)

bounded_is : (n : ℕ) (o : Option ℕ) (b : ℕ) → bounded_as n o ≡ Some b → (m : ℕ) × (o ≡ Some m) × (n ≡ b)
bounded_is n None b h = absurd (cc)
bounded_is n (Some m) b h = (m, refl, cc)

less_by : (n m : ℕ) → nat_lt n m ≡ true → n < m
less_by n m h = grind (arith, nat_tests)

short_by : (n b : ℕ) (t : Bool) → nat_lt n short_limit ≡ t → (if t then Some n else None) ≡ Some b → (n ≡ b) × (b < short_limit)
short_by n b true less h = let same : n ≡ b = cc in (same, subst (λ (k : ℕ). k < short_limit) same (less_by n short_limit less))
short_by n b false less h = absurd (cc)

short_is : (n b : ℕ) → short_bound n ≡ Some b → (n ≡ b) × (b < short_limit)
short_is n b h = short_by n b (nat_lt n short_limit) refl h

greater_by : (a b : ℕ) (t : Bool) → nat_lt a b ≡ t → (a ≤ (if t then b else a)) × (b ≤ (if t then b else a))
greater_by a b true less = let e = less_by a b less in (omega (arith, e), omega arith)
greater_by a b false less = (omega arith, not_less a b less)
  where
    not_less : (a b : ℕ) → nat_lt a b ≡ false → b ≤ a
    not_less a b h = grind (arith, nat_tests)

greater_is : (a b : ℕ) → (a ≤ greater a b) × (b ≤ greater a b)
greater_is a b = greater_by a b (nat_lt a b) refl

-- the magnitude of a constant, and 1 of what isn't one
abbrev share : Option ℤ → ℕ
share None = 1
share (Some n) = nat_abs n

abbrev shares : List (Option ℤ) → ℕ
shares [] = 1
shares (o ∷ os) = share o * shares os

share_within : (m : ℕ) (o : Option ℤ) → (share o ≤ factor m o) × (m ≤ factor m o)
share_within m None = greater_is 1 m
share_within m (Some n) =
    let outer = greater_is (greater 1 m) (nat_abs n) in
    let inner = greater_is 1 m in
    (outer.1, omega (arith, outer.0, inner.1))

fold_shares : (a : ℤ) (os : List (Option ℤ)) → nat_abs (fold (λ x n. x *ℤ n) a (constants_among os)) ≡ nat_abs a * shares os
fold_shares a [] = omega arith
fold_shares a (None ∷ os) = fold_shares a os ∙ ap (λ (k : ℕ). nat_abs a * k) (one_share (shares os))
  where
    one_share : (k : ℕ) → k ≡ 1 * k
    one_share k = omega arith
fold_shares a (Some n ∷ os) = fold_shares (a *ℤ n) os ∙ ap (λ (k : ℕ). k * shares os) (unsigned_abs-mul a n) ∙ mul_assoc (nat_abs a) (nat_abs n) (shares os)

product_shares : (os : List (Option ℤ)) → nat_abs (product_of (constants_among os)) ≡ shares os
product_shares os = let e = fold_shares (pos 1) os in omega (arith, e)

-- one more factor
grown : (n x f w p : ℕ) → x ≤ f → (n * f) * w ≤ p → n * (x * w) ≤ p
grown n x f w p less h =
    let more : n * (x * w) ≤ n * (f * w) = mul-le-mul (omega arith) (mul-le-mul less (omega arith)) in
    let same = mul_assoc n f w in
    omega (arith, more, same, h)

swapped : (n s x w f p : ℕ) → x ≤ f → (n * f) * (s * w) ≤ p → n * (s * (x * w)) ≤ p
swapped n s x w f p less h = subst (λ (k : ℕ). n * k ≤ p) (mul_left_comm x s w) (grown n x f (s * w) p less h)

none_among : (p : ℕ → Option ℕ) (ids : List TermId) → AllByRecursion (λ id. p id.0 ≡ None) ids → first_among p ids ≡ None
none_among p [] all = refl
none_among p (id ∷ ids) all = ap (λ (o : Option ℕ). first_of_two o (first_among p ids)) all.0 ∙ none_among p ids all.1

all_both : {X : Type 0} (P : X → Type 0) (xs ys : List X) → AllByRecursion P xs → AllByRecursion P ys → AllByRecursion P (xs ++ ys)
all_both P [] ys a b = b
all_both P (x ∷ xs) ys a b = (a.0, all_both P xs ys a.1 b)

module _ (constant : ℕ → Option ℤ) (nodes : List Node) (known : List (Option ℕ)) (are : AreBounds constant nodes known) where
  abbrev Bounded : TermId → Type 0
  Bounded id = (c : ℕ) × (bound_in known id.0 ≡ Some c)

  abbrev forms : Naming → List TermId → List Linear
  forms naming ids = map (λ id. form_by constant naming nodes id.0) ids

  abbrev values : List TermId → List (Option ℤ)
  values ids = map (λ id. constant id.0) ids

  record HasSum (n : ℕ) (ids : List TermId) (s : ℕ) : Type 0 where
    have : AllByRecursion Bounded ids
    within : (naming : Naming) → n + sizes (forms naming ids) ≤ s
    short : s < short_limit

  sum_is : (ids : List TermId) (n s : ℕ) → n < short_limit → sum_from (bound_in known) n ids ≡ Some s → HasSum n ids s
  sum_is [] n s h is = let same : n ≡ s = cc in record { have = tt; within = λ naming. omega (arith, same); short = omega (arith, same, h) }
  sum_is (id ∷ ids) n s h is =
      let outer = bounded_by (if_bounded (bound_in known id.0) (λ m. short_bound (n + m))) (λ sum. sum_from (bound_in known) sum ids) s is in
      let inner = bounded_by (bound_in known id.0) (λ m. short_bound (n + m)) outer.0 outer.1 in
      let small = short_is (n + inner.0) outer.0 inner.2 in
      let rest = sum_is ids outer.0 s small.1 outer.2 in
      let first = are id.0 inner.0 inner.1 in
      let added = small.0 in
      record {
        have = ((inner.0, inner.1), rest.have);
        within = λ naming. let a = rest.within naming in let b = first.size naming in omega (arith, a, b, added);
        short = rest.short;
      }

  record HasProduct (n : ℕ) (ids : List TermId) (p : ℕ) : Type 0 where
    have : AllByRecursion Bounded ids
    shared : n * shares (values ids) ≤ p
    varied : (naming : Naming) (f : Linear) → varying_form (values ids) (forms naming ids) ≡ Some f → n * (form_size f * shares (values ids)) ≤ p
    short : p < short_limit

  varied_more : (n m p : ℕ) (id : TermId) (ids : List TermId) (o : Option ℤ) (g : Linear) (naming : Naming) (f : Linear) → form_size g ≤ m → HasProduct (n * factor m o) ids p
      → varying_form (o ∷ values ids) (g ∷ forms naming ids) ≡ Some f → n * (form_size f * (share o * shares (values ids))) ≤ p
  varied_more n m p id ids None g naming f size rest is =
      let same : g ≡ f = cc in
      let within = share_within m None in
      let less : form_size g ≤ factor m None = omega (arith, size, within.1) in
      let one : 1 * shares (values ids) ≡ shares (values ids) = omega arith in
      subst (λ (k : ℕ). n * (form_size f * k) ≤ p) (sym one) (subst (λ (h : Linear). n * (form_size h * shares (values ids)) ≤ p) same
      (grown n (form_size g) (factor m None) (shares (values ids)) p less rest.shared))
  varied_more n m p id ids (Some k) g naming f size rest is =
      swapped n (form_size f) (nat_abs k) (shares (values ids)) (factor m (Some k)) p (share_within m (Some k)).0 (rest.varied naming f is)

  product_is : (ids : List TermId) (n p : ℕ) → n < short_limit → product_from constant (bound_in known) n ids ≡ Some p → HasProduct n ids p
  product_is [] n p h is = let same : n ≡ p = cc in record { have = tt; shared = omega (arith, same); varied = λ naming f e. absurd (cc); short = omega (arith, same, h) }
  product_is (id ∷ ids) n p h is =
      let outer = bounded_by (if_bounded (bound_in known id.0) (λ m. short_bound (n * factor m (constant id.0)))) (λ product. product_from constant (bound_in known) product ids) p is in
      let inner = bounded_by (bound_in known id.0) (λ m. short_bound (n * factor m (constant id.0))) outer.0 outer.1 in
      let small = short_is (n * factor inner.0 (constant id.0)) outer.0 inner.2 in
      let rest : HasProduct (n * factor inner.0 (constant id.0)) ids p = subst (λ (k : ℕ). HasProduct k ids p) (sym small.0) (product_is ids outer.0 p small.1 outer.2) in
      record {
        have = ((inner.0, inner.1), rest.have);
        shared = grown n (share (constant id.0)) (factor inner.0 (constant id.0)) (shares (values ids)) p (share_within inner.0 (constant id.0)).0 rest.shared;
        varied = λ naming f e. varied_more n inner.0 p id ids (constant id.0) (form_by constant naming nodes id.0) naming f ((are id.0 inner.0 inner.1).size naming) rest e;
        short = rest.short;
      }

  scaled_within : (os : List (Option ℤ)) (f : Linear) (p : ℕ) → 1 * (form_size f * shares os) ≤ p → form_size (scaled (product_of (constants_among os)) f) ≤ p
  scaled_within os f p h =
      let size = size_scaled (product_of (constants_among os)) f in
      let same = ap (λ (k : ℕ). k * form_size f) (product_shares os) in
      let turned = mul_comm (shares os) (form_size f) in
      omega (arith, size, same, turned, h)

  -- a product of which every factor is constant
  constant_within : (ids : List TermId) (p : ℕ) (naming : Naming) → product_from constant (bound_in known) 1 ids ≡ Some p → form_size (multiple_of None (values ids) (forms naming ids)) ≤ p
  constant_within [] p naming is = omega arith
  constant_within (id ∷ ids) p naming is =
      let outer = bounded_by (if_bounded (bound_in known id.0) (λ m. short_bound (1 * factor m (constant id.0)))) (λ product. product_from constant (bound_in known) product ids) p is in
      let inner = bounded_by (bound_in known id.0) (λ m. short_bound (1 * factor m (constant id.0))) outer.0 outer.1 in
      let small = short_is (1 * factor inner.0 (constant id.0)) outer.0 inner.2 in
      let rest : HasProduct (1 * factor inner.0 (constant id.0)) ids p = subst (λ (k : ℕ). HasProduct k ids p) (sym small.0) (product_is ids outer.0 p small.1 outer.2) in
      let size = (are id.0 inner.0 inner.1).size naming in
      let within = (share_within inner.0 (constant id.0)).1 in
      scaled_within (values ids) (form_by constant naming nodes id.0) p
      (grown 1 (form_size (form_by constant naming nodes id.0)) (factor inner.0 (constant id.0)) (shares (values ids)) p (omega (arith, size, within)) rest.shared)

  found_within : (ids : List TermId) (p : ℕ) (naming : Naming) → product_from constant (bound_in known) 1 ids ≡ Some p → (found : Option Linear) → varying_form (values ids) (forms naming ids) ≡ found
      → form_size (multiple_of found (values ids) (forms naming ids)) ≤ p
  found_within ids p naming is None e = constant_within ids p naming is
  found_within ids p naming is (Some f) e = scaled_within (values ids) f p ((product_is ids 1 p (omega arith) is).varied naming f e)

  -- what an operation has
  record FitsAs (op : OpKind) (args : List TermId) (b : ℕ) : Type 0 where
    have : AllByRecursion Bounded args
    size : (naming : Naming) (own : ℕ) → form_size (operation_form op (auxiliary_form (naming.auxiliary own)) (values args) (forms naming args)) ≤ b
    short : b < short_limit
    sides : (naming : Naming) → (is_relation op && list_any is_wide_pair (sides op (forms naming args))) ≡ false

  auxiliary_size : (o : Option ℕ) → form_size (auxiliary_form o) ≤ 1
  auxiliary_size None = omega arith
  auxiliary_size (Some v) = omega arith

  related : (op : OpKind) (args : List TermId) (s : ℕ) → HasSum 0 args s → (naming : Naming) → list_any is_wide_pair (sides op (forms naming args)) ≡ false
  related op args s has naming = narrow_sides op (forms naming args) (let a = has.within naming in let b = has.short in omega (arith, a, b))

  sum_of_args : (args : List TermId) (n b : ℕ) → bounded_as n (sum_from (bound_in known) 0 args) ≡ Some b → (s : ℕ) × (HasSum 0 args s) × (n ≡ b)
  sum_of_args args n b is = let found = bounded_is n (sum_from (bound_in known) 0 args) b is in (found.0, sum_is args 0 found.0 (omega arith) found.1, found.2)

  operation_is : (op : OpKind) (args : List TermId) (b : ℕ) → operation_bound constant (bound_in known) op args ≡ Some b → FitsAs op args b
  operation_is Add args b is =
      let sum = sum_is args 0 b (omega arith) is in
      record { have = sum.have; size = λ naming own. let a = size_sum (forms naming args) in let w = sum.within naming in omega (arith, a, w); short = sum.short; sides = λ naming. refl }
  operation_is Sub args b is =
      let sum = sum_is args 0 b (omega arith) is in
      record { have = sum.have; size = λ naming own. let a = size_difference (forms naming args) in let w = sum.within naming in omega (arith, a, w); short = sum.short; sides = λ naming. refl }
  operation_is Mul args b is =
      let product = product_is args 1 b (omega arith) is in
      record { have = product.have; size = λ naming own. found_within args b naming is (varying_form (values args) (forms naming args)) refl; short = product.short; sides = λ naming. refl }
  operation_is Ite args b is =
      let sum = sum_of_args args 1 b is in
      record { have = sum.1.have; size = λ naming own. let a = auxiliary_size (naming.auxiliary own) in omega (arith, a, sum.2); short = omega (arith, sum.2); sides = λ naming. refl }
  operation_is Abs args b is =
      let sum = sum_of_args args 1 b is in
      record { have = sum.1.have; size = λ naming own. let a = auxiliary_size (naming.auxiliary own) in omega (arith, a, sum.2); short = omega (arith, sum.2); sides = λ naming. refl }
  operation_is Div args b is =
      let sum = sum_of_args args 1 b is in
      record { have = sum.1.have; size = λ naming own. let a = auxiliary_size (naming.auxiliary own) in omega (arith, a, sum.2); short = omega (arith, sum.2); sides = λ naming. refl }
  operation_is Mod args b is =
      let sum = sum_of_args args 1 b is in
      record { have = sum.1.have; size = λ naming own. let a = auxiliary_size (naming.auxiliary own) in omega (arith, a, sum.2); short = omega (arith, sum.2); sides = λ naming. refl }
  operation_is Eq args b is =
      let sum = sum_of_args args 0 b is in
      record { have = sum.1.have; size = λ naming own. omega arith; short = omega (arith, sum.2); sides = related Eq args sum.0 sum.1 }
  operation_is Distinct args b is =
      let sum = sum_of_args args 0 b is in
      record { have = sum.1.have; size = λ naming own. omega arith; short = omega (arith, sum.2); sides = related Distinct args sum.0 sum.1 }
  operation_is Le args b is =
      let sum = sum_of_args args 0 b is in
      record { have = sum.1.have; size = λ naming own. omega arith; short = omega (arith, sum.2); sides = related Le args sum.0 sum.1 }
  operation_is Lt args b is =
      let sum = sum_of_args args 0 b is in
      record { have = sum.1.have; size = λ naming own. omega arith; short = omega (arith, sum.2); sides = related Lt args sum.0 sum.1 }
  operation_is Ge args b is =
      let sum = sum_of_args args 0 b is in
      record { have = sum.1.have; size = λ naming own. omega arith; short = omega (arith, sum.2); sides = related Ge args sum.0 sum.1 }
  operation_is Gt args b is =
      let sum = sum_of_args args 0 b is in
      record { have = sum.1.have; size = λ naming own. omega arith; short = omega (arith, sum.2); sides = related Gt args sum.0 sum.1 }
  operation_is _ args b is =
      let sum = sum_of_args args 0 b is in
      record { have = sum.1.have; size = λ naming own. omega arith; short = omega (arith, sum.2); sides = λ naming. refl }

  -- what a node has
  record Fits (node : Node) (b : ℕ) : Type 0 where
    have : AllByRecursion Bounded (text_parts node)
    size : (naming : Naming) (own : ℕ) → form_size (node_linear constant naming (told_linear constant naming nodes) node own) ≤ b
    short : b < short_limit
    sides : (naming : Naming) → is_wide_relation (form_by constant naming nodes) (Some node) ≡ false

  -- a node whose form is 0, with these parts
  plain_fits : (node : Node) (b : ℕ) → AllByRecursion Bounded (text_parts node) → 0 ≡ b → ((naming : Naming) (own : ℕ) → node_linear constant naming (told_linear constant naming nodes) node own ≡ zero_form)
      → ((naming : Naming) → is_wide_relation (form_by constant naming nodes) (Some node) ≡ false) → Fits node b
  plain_fits node b have none forms sides = record {
    have = have;
    size = λ naming own. let e : form_size (node_linear constant naming (told_linear constant naming nodes) node own) ≡ 0 = ap form_size (forms naming own) in omega (arith, e);
    short = omega (arith, none);
    sides = sides;
  }

  one_part : (id : TermId) (b : ℕ) → bounded_as 0 (bound_in known id.0) ≡ Some b → (AllByRecursion Bounded (id ∷ [])) × (0 ≡ b)
  one_part id b is = let found = bounded_is 0 (bound_in known id.0) b is in (((found.0, found.1), tt), found.2)

  node_fits : (node : Node) (b : ℕ) → node_bound constant (bound_in known) node ≡ Some b → Fits node b
  node_fits (Num n) b is =
      let small = short_is (nat_abs n) b is in
      record { have = tt; size = λ naming own. let e = small.0 in omega (arith, e); short = small.1; sides = λ naming. refl }
  node_fits True b is = let none : 0 ≡ b = cc in plain_fits True b tt none (λ naming own. refl) (λ naming. refl)
  node_fits False b is = let none : 0 ≡ b = cc in plain_fits False b tt none (λ naming own. refl) (λ naming. refl)
  node_fits (Var binder sort) b is =
      let one : 1 ≡ b = cc in
      record { have = tt; size = λ naming own. omega (arith, one); short = omega (arith, one); sides = λ naming. refl }
  node_fits (LetVar named) b is =
      let part = are named.0 b is in
      record { have = ((b, is), tt); size = λ naming own. part.size naming; short = part.short; sides = λ naming. refl }
  node_fits (Pred pred args) b is =
      let sum = sum_of_args args 0 b is in plain_fits (Pred pred args) b sum.1.have sum.2 (λ naming own. refl) (λ naming. refl)
  node_fits (Op op args) b is =
      let fits = operation_is op args b is in record { have = fits.have; size = fits.size; short = fits.short; sides = fits.sides }
  node_fits (Divisible by arg) b is =
      let part = one_part arg b is in plain_fits (Divisible by arg) b part.0 part.1 (λ naming own. refl) (λ naming. refl)
  node_fits (Let named body) b is =
      let found = bounded_by (sum_from (bound_in known) 0 named) (λ sum. bound_in known body.0) b is in
      let sum = sum_is named 0 found.0 (omega arith) found.1 in
      let part = are body.0 b found.2 in
      record { have = all_both Bounded named (body ∷ []) sum.have ((b, found.2), tt); size = λ naming own. part.size naming; short = part.short; sides = λ naming. refl }
  node_fits (Forall first sorts body) b is =
      let part = one_part body b is in plain_fits (Forall first sorts body) b part.0 part.1 (λ naming own. refl) (λ naming. refl)
  node_fits (Exists first sorts body) b is =
      let part = one_part body b is in plain_fits (Exists first sorts body) b part.0 part.1 (λ naming own. refl) (λ naming. refl)

  narrow_parts : (naming : Naming) (ids : List TermId) → AllByRecursion Bounded ids → AllByRecursion (λ id. first_where (is_wide constant naming nodes) nodes id.0 ≡ None) ids
  narrow_parts naming [] have = tt
  narrow_parts naming (id ∷ ids) have = ((are id.0 have.0.0 have.0.1).narrow naming, narrow_parts naming ids have.1)

  clear_parts : (naming : Naming) (ids : List TermId) → AllByRecursion Bounded ids → AllByRecursion (λ id. first_where (has_wide_sides constant naming nodes) nodes id.0 ≡ None) ids
  clear_parts naming [] have = tt
  clear_parts naming (id ∷ ids) have = ((are id.0 have.0.0 have.0.1).clear naming, clear_parts naming ids have.1)

  -- the bound of a node that is there
  pub node_is : (id : ℕ) (node : Node) (b : ℕ) → slice_get nodes id ≡ Some node → has_parts_below id node ≡ true → node_bound constant (bound_in known) node ≡ Some b → IsBound constant nodes id b
  node_is id node b is below found =
      let fits = node_fits node b found in
      let size : (naming : Naming) → form_size (form_by constant naming nodes id) ≤ b = λ naming. subst (λ (f : Linear). form_size f ≤ b) (sym (linear_at constant naming nodes id id node is below)) (fits.size naming id) in
      let short : b < short_limit = fits.short in
      record {
        short = short;
        size = size;
        narrow = λ naming.
            first_at (is_wide constant naming nodes) nodes id node is below
            ∙ ap (λ (o : Option ℕ). first_of_two o (if is_wide constant naming nodes id then Some id else None))
            (none_among (first_where (is_wide constant naming nodes) nodes) (text_parts node) (narrow_parts naming (text_parts node) fits.have))
            ∙ ap (λ (b : Bool). if not b then Some id else None) (narrow_by_size (form_by constant naming nodes id) (let e = size naming in omega (arith, e, short)));
        clear = λ naming.
            seek_by_node constant naming nodes id node false is below
            (none_among (first_where (has_wide_sides constant naming nodes) nodes) (text_parts node) (clear_parts naming (text_parts node) fits.have)) (sym (fits.sides naming));
      }

-- what is kept was found
pub kept_is : (bound : Option ℕ) (b : ℕ) → kept bound ≡ Some b → bound ≡ Some b
kept_is None b is = is
kept_is (Some n) b is = by (n + 1 == 2 ^ 64) is where
  by : (t : Bool) → cond t None (Some n) ≡ Some b → Some n ≡ Some b
  by true has = absurd (none-some _ has)
  by false has = has

-- one more bound is kept
pub bounds_more : (constant : ℕ → Option ℤ) (nodes : List Node) (known more : List (Option ℕ)) (i : ℕ) (bound : Option ℕ) → length known ≡ i → AreBounds constant nodes known
    → ((b : ℕ) → bound ≡ Some b → IsBound constant nodes i b) → more ≡ known ++ bound ∷ [] → AreBounds constant nodes more
bounds_more constant nodes known more i bound long are here pushed id b has = elim (cases_lt id i) [
  | inl less ↦ are id b (sym (get_or_append_left known (bound ∷ []) None id (omega (arith, long, less))) ∙ sym (ap (λ (xs : List (Option ℕ)). slice_index_or xs id None) pushed) ∙ has)
  | inr past ↦ elim (cases_lt i id) [
    | inl more_past ↦ absurd (none_is (sym (get_or_past more id None (let e = ap length pushed in let l = length-append known (bound ∷ []) in omega (arith, e, l, long, more_past))) ∙ has))
    | inr not_past ↦
        let same : id ≡ i = omega (arith, past, not_past) in
        subst (λ (k : ℕ). IsBound constant nodes k b) (sym same)
        (here b (sym (get_or_push known bound None id (long ∙ sym same)) ∙ sym (ap (λ (xs : List (Option ℕ)). slice_index_or xs id None) pushed) ∙ has))
  ]
]
  where
    none_is : None ≡ Some b → ⊥
    none_is e = absurd (cc)

found_is : (constant : ℕ → Option ℤ) (nodes : List Node) (id : ℕ) (found : Option ℕ) → ((b : ℕ) → found ≡ Some b → IsBound constant nodes id b) → is_bounded found ≡ true → (naming : Naming)
    → first_wide_by constant naming nodes id ≡ None
found_is constant nodes id None are has naming = absurd (cc)
found_is constant nodes id (Some b) are has naming =
    let bound = are b refl in
    ap (λ (o : Option ℕ). first_of_two o (first_where (has_wide_sides constant naming nodes) nodes id)) (bound.narrow naming) ∙ bound.clear naming

-- nothing is found in a term that has a bound
pub nothing_wide : (constant : ℕ → Option ℤ) (nodes : List Node) (known : List (Option ℕ)) (id : ℕ) → AreBounds constant nodes known → is_bounded (bound_in known id) ≡ true → (naming : Naming)
    → first_wide_by constant naming nodes id ≡ None
nothing_wide constant nodes known id are has naming = found_is constant nodes id (bound_in known id) (are id) has naming
