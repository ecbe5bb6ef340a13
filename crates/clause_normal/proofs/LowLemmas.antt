-- The formulas of a text: their variables pass a test that all names pass, and constants of divisibilities are short.
use Rattle.std.proofs.Common.{◌≡◌, ℕ, zero, suc, ◌+◌, ◌<◌, ◌≤◌, List, [], ◌∷◌, ◌++◌, length, map, Bool, true, false, ◌&&◌, refl, ap, sym, ◌∙◌, subst, arith}
use Rattle.std.proofs.lemmas.Int.{ints}
use Rattle.std.specs.Prelude.{slice_get, Option, Some, None, ◌==◌, ℤ, pos, ◌+ℤ◌, ◌*ℤ◌, nat_abs, nat_lt, if◌then◌else◌}
use Rattle.std.specs.List.{AllByRecursion, list_all}
use Rattle.term_tree.specs.declared.node.TermId.{TermId}
use Rattle.term_tree.specs.declared.node.OpKind.{OpKind}
use Rattle.term_tree.specs.declared.node.OpKind.TheVariants.{Xor}
use Rattle.term_tree.specs.declared.node.Node.{Node}
use Rattle.term_tree.specs.declared.node.Node.TheVariants.{True, Var, LetVar, Op, Divisible}
use Rattle.term_tree.specs.Arena.{IsArena, has_parts_below}
use Rattle.term_tree.specs.Subterms.{IsSubterm, inside, is_among, is_part}
use Rattle.term_tree.proofs.Public.{arena_below, both_true, eqb_self, part_below, there_is}
use Rattle.lin_atoms.specs.Linear.{Linear, is_short, lin_all}
use Rattle.lin_atoms.specs.Algebra.{added, collected, negated, negated_terms, plus, scaled, scaled_terms, term_on, with_term}
use Rattle.lin_atoms.specs.declared.lit.Lit.{Lit as Literal}
use Rattle.lin_atoms.specs.declared.lit.Lit.TheVariants.{Le, Eq, Div, NDiv}
use Rattle.linear_terms.specs.Text.{Sorting, is_truth}
use Rattle.linear_terms.specs.Linear.{Naming, all_constants, all_terms, bare_bit, bit_form, bit_of, is_narrow, less, linear_of, sum_form, told_bit, variable_form}
use Rattle.linear_terms.specs.Formula.{formula, reading_of}
use Rattle.linear_terms.specs.Place.{constant_value, integer_place, place_form, truth_place}
use Rattle.linear_terms.proofs.PartLemmas.{first_among, later_among}
use Rattle.linear_terms.proofs.Public.{bit_at, by_parts, formula_at}
use Rattle.term_widths.specs.machinery.Apart.{Occurs}
use Rattle.clause_normal.proofs.Lower.{only_names}
use Rattle.clause_normal.proofs.PassLemmas.{NodeDivides, integer_passes, node_passes, passes, truth_place_passes}

-- all variables of sums and multiples pass a test that those of the parts pass
pass_both : (a b : Bool) → a ≡ true → b ≡ true → (a && b) ≡ true
pass_both true b x y = y
pass_both false b x y = absurd (cc)

term_on_all : (test : ℕ → Bool) (v : ℕ) (a : ℤ) (ts : List (ℕ × ℤ)) → test v ≡ true → list_all (λ (t : ℕ × ℤ). test t.0) ts ≡ true → list_all (λ (t : ℕ × ℤ). test t.0) (term_on v a ts) ≡ true
term_on_all test v a ts one all = by_zero (nat_abs a == 0)
  where
    by_zero : (b : Bool) → list_all (λ (t : ℕ × ℤ). test t.0) (if b then ts else (v, a) ∷ ts) ≡ true
    by_zero true = all
    by_zero false = pass_both (test v) (list_all (λ (t : ℕ × ℤ). test t.0) ts) one all

with_term_all : (test : ℕ → Bool) (v : ℕ) (a : ℤ) (ts : List (ℕ × ℤ)) → test v ≡ true → list_all (λ (t : ℕ × ℤ). test t.0) ts ≡ true → list_all (λ (t : ℕ × ℤ). test t.0) (with_term v a ts) ≡ true
with_term_all test v a [] one all = term_on_all test v a [] one refl
with_term_all test v a (t ∷ ts) one all =
    let rest = both_true (test t.0) (list_all (λ (u : ℕ × ℤ). test u.0) ts) all in by_tests (with_term_all test v a ts one rest.1) rest (nat_lt v t.0) (v == t.0)
  where
    by_tests : list_all (λ (u : ℕ × ℤ). test u.0) (with_term v a ts) ≡ true → (test t.0 ≡ true) × (list_all (λ (u : ℕ × ℤ). test u.0) ts ≡ true) → (b c : Bool)
        → list_all (λ (u : ℕ × ℤ). test u.0) (if b then term_on v a (t ∷ ts) else (if c then term_on v (a +ℤ t.1) ts else t ∷ with_term v a ts)) ≡ true
    by_tests later rest true c = term_on_all test v a (t ∷ ts) one all
    by_tests later rest false true = term_on_all test v (a +ℤ t.1) ts one rest.1
    by_tests later rest false false = pass_both (test t.0) (list_all (λ (u : ℕ × ℤ). test u.0) (with_term v a ts)) rest.0 later

pub collected_all : (test : ℕ → Bool) (ts : List (ℕ × ℤ)) → list_all (λ (t : ℕ × ℤ). test t.0) ts ≡ true → list_all (λ (t : ℕ × ℤ). test t.0) (collected ts) ≡ true
collected_all test [] all = refl
collected_all test (t ∷ ts) all =
    let rest = both_true (test t.0) (list_all (λ (u : ℕ × ℤ). test u.0) ts) all in with_term_all test t.0 t.1 (collected ts) rest.0 (collected_all test ts rest.1)

append_all : (test : ℕ → Bool) (xs ys : List (ℕ × ℤ)) → list_all (λ (t : ℕ × ℤ). test t.0) xs ≡ true → list_all (λ (t : ℕ × ℤ). test t.0) ys ≡ true → list_all (λ (t : ℕ × ℤ). test t.0) (xs ++ ys) ≡ true
append_all test [] ys a b = b
append_all test (x ∷ xs) ys a b =
    let rest = both_true (test x.0) (list_all (λ (t : ℕ × ℤ). test t.0) xs) a in pass_both (test x.0) (list_all (λ (t : ℕ × ℤ). test t.0) (xs ++ ys)) rest.0 (append_all test xs ys rest.1 b)

pub added_all : (test : ℕ → Bool) (a b : Linear) → lin_all test a ≡ true → lin_all test b ≡ true → lin_all test (added a b) ≡ true
added_all test a b x y = collected_all test (a.terms ++ b.terms) (append_all test a.terms b.terms x y)

negated_all_terms : (test : ℕ → Bool) (ts : List (ℕ × ℤ)) → list_all (λ (t : ℕ × ℤ). test t.0) ts ≡ true → list_all (λ (t : ℕ × ℤ). test t.0) (negated_terms ts) ≡ true
negated_all_terms test [] all = refl
negated_all_terms test (t ∷ ts) all =
    let rest = both_true (test t.0) (list_all (λ (u : ℕ × ℤ). test u.0) ts) all in pass_both (test t.0) (list_all (λ (u : ℕ × ℤ). test u.0) (negated_terms ts)) rest.0 (negated_all_terms test ts rest.1)

pub negated_all : (test : ℕ → Bool) (a : Linear) → lin_all test a ≡ true → lin_all test (negated a) ≡ true
negated_all test a x = negated_all_terms test a.terms x

scaled_all_terms : (test : ℕ → Bool) (k : ℤ) (ts : List (ℕ × ℤ)) → list_all (λ (t : ℕ × ℤ). test t.0) ts ≡ true → list_all (λ (t : ℕ × ℤ). test t.0) (scaled_terms k ts) ≡ true
scaled_all_terms test k [] all = refl
scaled_all_terms test k (t ∷ ts) all =
    let rest = both_true (test t.0) (list_all (λ (u : ℕ × ℤ). test u.0) ts) all in term_on_all test t.0 (k *ℤ t.1) (scaled_terms k ts) rest.0 (scaled_all_terms test k ts rest.1)

pub scaled_all : (test : ℕ → Bool) (k : ℤ) (a : Linear) → lin_all test a ≡ true → lin_all test (scaled k a) ≡ true
scaled_all test k a x = scaled_all_terms test k a.terms x

-- bits: their variables pass, and their constants are at most 1 in magnitude
pub record IsLowBit (test : ℕ → Bool) (bit : Linear) : Type 0 where
  pub passes : lin_all test bit ≡ true
  pub small : nat_abs bit.constant ≤ 1

variable_low : (test : ℕ → Bool) (v : ℕ) → test v ≡ true → IsLowBit test (variable_form v)
variable_low test v h = record { passes = pass_both (test v) true h refl; small = omega arith }

pub sums_low : (test : ℕ → Bool) (bits : List Linear) → AllByRecursion (IsLowBit test) bits → list_all (λ (t : ℕ × ℤ). test t.0) (all_terms bits) ≡ true
sums_low test [] all = refl
sums_low test (bit ∷ bits) all = append_all test bit.terms (all_terms bits) all.0.passes (sums_low test bits all.1)

sum_more : (a b : ℤ) (n : ℕ) → nat_abs a ≤ 1 → nat_abs b ≤ n → nat_abs (a +ℤ b) ≤ 1 + n
sum_more a b n x y = omega (arith, ints, x, y)

pub sum_small : (test : ℕ → Bool) (bits : List Linear) → AllByRecursion (IsLowBit test) bits → nat_abs (all_constants bits) ≤ length bits
sum_small test [] all = omega arith
sum_small test (bit ∷ bits) all =
    let more = sum_more bit.constant (all_constants bits) (length bits) all.0.small (sum_small test bits all.1) in omega (arith, more)

pub length_is : {X Y : Type 0} (f : X → Y) (xs : List X) → length (map f xs) ≡ length xs
length_is f [] = refl
length_is f (x ∷ xs) = ap suc (length_is f xs)

pub among_low : (test : ℕ → Bool) (bit : ℕ → Linear) (ids : List TermId) → ((part : ℕ) → is_among part ids ≡ true → IsLowBit test (bit part)) → AllByRecursion (IsLowBit test) (map (λ (a : TermId). bit a.0) ids)
among_low test bit [] each = tt
among_low test bit (id ∷ ids) each = (each id.0 (first_among id ids), among_low test bit ids (λ part has. each part (later_among part id ids has)))

pub narrow_constant : (l : Linear) → is_narrow l ≡ true → is_short l.constant ≡ true
narrow_constant l h = (both_true _ (is_short l.constant) h).1

pub less_variable : (l : Linear) (v : ℕ) → is_short l.constant ≡ true → is_short (less l (variable_form v)).constant ≡ true
less_variable l v h = ap is_short same ∙ h
  where
    same : l.constant +ℤ pos 0 ≡ l.constant
    same = omega (arith, ints)

module _ (sorts : Sorting) (naming : Naming) (nodes : List Node) (top : ℕ) (arena : IsArena nodes) (test : ℕ → Bool)
    (owns : (binder : ℕ) → Occurs nodes top binder → test (naming.own binder) ≡ true) (named : (id v : ℕ) → naming.auxiliary id ≡ Some v → test v ≡ true) where
  pub linear_low : (id : ℕ) → IsSubterm nodes top id → id < length nodes → lin_all test (linear_of naming nodes id) ≡ true
  linear_low id sub within =
      only_names nodes top naming test arena (λ v fails. record {
        own = λ binder occurs e. differ (sym fails ∙ ap test (sym e) ∙ owns binder occurs);
        auxiliary = λ k s e. differ (sym fails ∙ named k v e);
      }) id within sub
    where
      differ : false ≡ true → ⊥
      differ e = absurd (cc)

  bare_low : (id : ℕ) (node : Node) → IsSubterm nodes top id → slice_get nodes id ≡ Some node → ((part : ℕ) → is_part part node ≡ true → IsLowBit test (bit_of naming nodes part))
      → IsLowBit test (bare_bit naming (told_bit naming nodes) node)
  bare_low id True sub is parts = record { passes = refl; small = omega arith }
  bare_low id (Var binder sort) sub is parts = variable_low test (naming.own binder) (owns binder (record { id = id; sort = sort; below = sub; is = is }))
  bare_low id (LetVar bound) sub is parts = parts bound.0 (eqb_self bound.0)
  bare_low id _ sub is parts = record { passes = refl; small = omega arith }

  form_low : (id : ℕ) (o : Option ℕ) (bare : Linear) → naming.auxiliary id ≡ o → IsLowBit test bare → IsLowBit test (bit_form o bare)
  form_low id None bare is low = low
  form_low id (Some v) bare is low = variable_low test v (named id v is)

  pub bit_low : (id : ℕ) → IsSubterm nodes top id → id < length nodes → IsLowBit test (bit_of naming nodes id)
  bit_low id sub within =
      by_parts nodes arena top (λ k. IsLowBit test (bit_of naming nodes k)) (λ k node s is below parts.
      subst (λ (l : Linear). IsLowBit test l) (sym (bit_at naming nodes k k node is below)) (form_low k (naming.auxiliary k) (bare_bit naming (told_bit naming nodes) node) refl (bare_low k node s is parts)))
      id within sub

  -- what a formula and a place are made of, for any test of literals
  module _ (t : Literal → Bool) (Ok : Linear → Type 0) (les : (l : Linear) → Ok l → t (Le l) ≡ true) (eqs : (l : Linear) → Ok l → t (Eq l) ≡ true)
      (negates : (l : Linear) → Ok l → Ok (negated l)) (adds : (a b : Linear) → Ok a → Ok b → Ok (added a b)) (moves : (l : Linear) (k : ℤ) → Ok l → Ok (plus l k))
      (scales : (k : ℤ) (l : Linear) → Ok l → Ok (scaled k l))
      (linears : (id : ℕ) → IsSubterm nodes top id → id < length nodes → Ok (linear_of naming nodes id)) (bits : (id : ℕ) → IsSubterm nodes top id → id < length nodes → Ok (bit_of naming nodes id))
      (variables : (v : ℕ) → test v ≡ true → Ok (variable_form v))
      (divides : (id d : ℕ) → IsSubterm nodes top id → id < length nodes → (t (Div d (linear_of naming nodes id)) ≡ true) × (t (NDiv d (linear_of naming nodes id)) ≡ true))
      (remains : (id v d : ℕ) → IsSubterm nodes top id → id < length nodes → test v ≡ true
      → (t (Div d (less (linear_of naming nodes id) (variable_form v))) ≡ true) × (t (NDiv d (less (linear_of naming nodes id) (variable_form v))) ≡ true))
      (odds : (id : ℕ) (args : List TermId) → IsSubterm nodes top id → slice_get nodes id ≡ Some (Op Xor args)
      → (t (Div 2 (sum_form (map (λ a. bit_of naming nodes a.0) args))) ≡ true) × (t (NDiv 2 (sum_form (map (λ a. bit_of naming nodes a.0) args))) ≡ true)) where
    abbrev Divided : Node → Type 0
    Divided node = NodeDivides t Ok les eqs negates adds moves scales (reading_of sorts naming nodes) naming (formula sorts naming nodes) node

    op_divides : (id : ℕ) (op : OpKind) (args : List TermId) → IsSubterm nodes top id → slice_get nodes id ≡ Some (Op op args) → Divided (Op op args)
    op_divides id Xor args sub is = odds id args sub is
    op_divides id _ args sub is = tt

    node_divides : (id : ℕ) (node : Node) → IsSubterm nodes top id → id < length nodes → slice_get nodes id ≡ Some node → has_parts_below id node ≡ true → Divided node
    node_divides id (Divisible by arg) sub within is below =
        let less_than : arg.0 < id = part_below arg.0 id (Divisible by arg) below (eqb_self arg.0) in
        divides arg.0 (nat_abs by) (inside arg.0 (Divisible by arg) sub is (eqb_self arg.0)) (omega (arith, less_than, within))
    node_divides id (Op op args) sub within is below = op_divides id op args sub is
    node_divides id _ sub within is below = tt

    formulas_below : (n id : ℕ) (sign : Bool) → id < n → id < length nodes → IsSubterm nodes top id → passes t (formula sorts naming nodes id sign) ≡ true
    formulas_below zero id sign h within sub = absurd (omega (arith, h))
    formulas_below (suc n) id sign h within sub =
        let found = there_is nodes id within in
        let node : Node = found.0 in
        let is : slice_get nodes id ≡ Some node = found.1 in
        let below : has_parts_below id node ≡ true = arena_below nodes id node arena is in
        let smaller : (part : ℕ) → is_part part node ≡ true → part < id = λ part has. part_below part id node below has in
        ap (passes t) (formula_at (reading_of sorts naming nodes) naming nodes id sign node is below)
        ∙ node_passes t Ok les eqs negates adds moves scales (reading_of sorts naming nodes) naming (formula sorts naming nodes) node sign
        (λ part s has. let less_than : part < id = smaller part has in formulas_below n part s (omega (arith, less_than, h)) (omega (arith, less_than, within)) (inside part node sub is has))
        (λ part has. let less_than : part < id = smaller part has in bits part (inside part node sub is has) (omega (arith, less_than, within)))
        (λ part has. let less_than : part < id = smaller part has in linears part (inside part node sub is has) (omega (arith, less_than, within)))
        (λ binder kind e. variables (naming.own binder) (owns binder (record { id = id; sort = kind; below = sub; is = is ∙ ap (λ (x : Node). Some x) e })))
        (node_divides id node sub within is below)

    pub formula_passes : (id : ℕ) (sign : Bool) → id < length nodes → IsSubterm nodes top id → passes t (formula sorts naming nodes id sign) ≡ true
    formula_passes id sign within sub = formulas_below (suc id) id sign (omega arith) within sub

    pub place_passes : (v id : ℕ) → test v ≡ true → id < length nodes → IsSubterm nodes top id → passes t (place_form sorts naming nodes v id) ≡ true
    place_passes v id low within sub = by_sort (is_truth sorts id)
      where
        found : (node : Node) × (slice_get nodes id ≡ Some node)
        found = there_is nodes id within

        integers : passes t (integer_place (bit_of naming nodes) (linear_of naming nodes) (constant_value nodes) (variable_form v) id (slice_get nodes id)) ≡ true
        integers =
            ap (λ (o : Option Node). passes t (integer_place (bit_of naming nodes) (linear_of naming nodes) (constant_value nodes) (variable_form v) id o)) found.1
            ∙ integer_passes t Ok les eqs negates adds moves scales (bit_of naming nodes) (linear_of naming nodes) (constant_value nodes) (variable_form v) id (variables v low) (linears id sub within) found.0
            (λ part has.
            let less_than : part < id = part_below part id found.0 (arena_below nodes id found.0 arena found.1) has in
            let there : part < length nodes = omega (arith, less_than, within) in
            let down : IsSubterm nodes top part = inside part found.0 sub found.1 has in
            (bits part down there, linears part down there, λ d. remains part v d down there low))

        by_sort : (b : Bool)
            → passes t (if b then truth_place (variable_form v) (formula sorts naming nodes id true) (formula sorts naming nodes id false) else integer_place (bit_of naming nodes) (linear_of naming nodes) (constant_value nodes) (variable_form v) id (slice_get nodes id)) ≡ true
        by_sort true =
            truth_place_passes t Ok les eqs negates adds moves scales (variable_form v) (formula sorts naming nodes id true) (formula sorts naming nodes id false) (variables v low) (formula_passes id true within sub)
            (formula_passes id false within sub)
        by_sort false = integers
