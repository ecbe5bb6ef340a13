-- The forms of all auxiliary variables hold exactly where these have the values of their terms, so a point has them in one way.
use Rattle.std.proofs.Common.{◌≡◌, ℕ, zero, suc, ◌+◌, ◌<◌, List, [], ◌∷◌, length, Bool, true, false, ◌&&◌, refl, ap, sym, ◌∙◌, subst, arith, map, inl, inr}
use Rattle.std.specs.Prelude.{slice_get, Option, Some, None, unwrap_or, nat_lt, ℤ, pos, not, if◌then◌else◌}
use Rattle.std.specs.Int.{int_div_euclid, int_rem_euclid}
use Rattle.std.specs.Ordering.{int_eq}
use Rattle.std.proofs.lemmas.Bool.{cases_lt}
use Rattle.std.proofs.lemmas.Option.{slice_get_within}
use Rattle.term_tree.specs.declared.sort.Sort.{Sort}
use Rattle.term_tree.specs.declared.sort.Sort.TheVariants.{Int as IntSort, Bool as BoolSort}
use Rattle.term_tree.specs.declared.script.Pred.{Pred as Declared}
use Rattle.term_tree.specs.declared.node.TermId.{TermId}
use Rattle.term_tree.specs.declared.node.Node.{Node}
use Rattle.term_tree.specs.declared.node.Node.TheVariants.{Num, True as TrueTerm, False as FalseTerm, Var, LetVar, Pred, Op, Divisible, Let, Forall, Exists}
use Rattle.term_tree.specs.declared.node.OpKind.{OpKind}
use Rattle.term_tree.specs.declared.node.OpKind.TheVariants.{Ite, Abs, Div as Quotient, Mod as Remainder}
use Rattle.term_tree.specs.declared.scalar.Value.{Value}
use Rattle.term_tree.specs.declared.scalar.Value.TheVariants.{Int}
use Rattle.term_tree.specs.Arena.{has_parts_below}
use Rattle.term_tree.specs.Constants.{constant_of, is_linear, is_divisor}
use Rattle.term_tree.specs.Operators.{result_of, integer, same_truth}
use Rattle.term_tree.specs.Operators.{truth as truth_of}
use Rattle.term_tree.specs.Sorts.{operation_sort, has_sort, node_sort, have_sorts, sort_of}
use Rattle.term_tree.specs.Subterms.{is_among, is_part, IsSubterm, inside}
use Rattle.term_tree.specs.Truth.{HasSort}
use Rattle.term_tree.specs.Value.{Environment, Worth, node_worth, value_of}
use Rattle.term_tree.proofs.Public.{sort_at, told_past}
use Rattle.term_tree.proofs.Public.{both_true}
use Rattle.term_tree.proofs.Public.{eqb_self, arena_below, part_below, there_is}
use Rattle.term_tree.proofs.Public.{value_at}
use Rattle.lin_atoms.specs.Linear.{Linear, variable_at}
use Rattle.lin_atoms.specs.Linear.{value_at as worth_at}
use Rattle.lin_atoms.specs.Truth.{truth}
use Rattle.lin_atoms.specs.declared.form.Form.{Form}
use Rattle.linear_terms.specs.Text.{is_unit}
use Rattle.linear_terms.specs.Linear.{Naming, variable_form, linear_of, told_linear, bit_of}
use Rattle.linear_terms.specs.Formula.{formula}
use Rattle.linear_terms.specs.Place.{integer_place, place_form, constant_value, quotient_place, remainder_place, truth_place}
use Rattle.linear_terms.specs.Meeting.{number, asks, IsWritten, MeetsVariables, MeetsBelow, HoldsEverywhere}
use Rattle.linear_terms.proofs.PartLemmas.{linear_at, first_among, later_among}
use Rattle.linear_terms.proofs.SortLemmas.{sort_if_is, has_sort_is, AreSorted, three_sorts, one_sort, two_sorts, four_sorts, value_sort}
use Rattle.linear_terms.proofs.ConstantLemmas.{AreConstant, constant_is}
use Rattle.linear_terms.proofs.LinearLemmas.{AreLinear, node_value, linear_value, variable_value, number_is, lt_of, from_lt}
use Rattle.linear_terms.proofs.BitLemmas.{bit_value}
use Rattle.linear_terms.proofs.FormulaLemmas.{formula_value, asked_part, bit_is}
use Rattle.linear_terms.proofs.RelationLemmas.{same_integer, own_integer}
use Rattle.linear_terms.proofs.PlaceLemmas.{truth_place_is, choice_place_is, abs_place_is, quotient_place_is, remainder_place_is, other_place_is}

divisor_is : (k : Option ℤ) → is_divisor (Some k) ≡ true → (d : ℤ) × (k ≡ Some d) × (d ≡ pos 0 → ⊥)
divisor_is None h = absurd (cc)
divisor_is (Some d) h = (d, refl, λ none. let e : not (int_eq (pos 0) (pos 0)) ≡ true = subst (λ (z : ℤ). not (int_eq z (pos 0)) ≡ true) none h in absurd (cc))

picked : (c : Bool) (x : ℤ) (v w : Value) → (if c then int_eq x (number v) else int_eq x (number w)) ≡ int_eq x (number (if c then v else w))
picked true x v w = refl
picked false x v w = refl

-- what is known of the arguments
record Known (point : List ℤ) (C : ℕ → Option ℤ) (S : ℕ → Option Sort) (W : ℕ → Value) (bit linear : ℕ → Linear) (op : OpKind) (args : List TermId) : Type 0 where
  sorted : AreSorted S W args
  constant : AreConstant C W args
  linears : AreLinear point S W linear args
  bits : (part : ℕ) → asks (Op op args) part ≡ true → S part ≡ Some BoolSort → worth_at point (bit part) ≡ number (W part)

abbrev value_or_zero : (ℕ → Option ℤ) → ℕ → ℤ
value_or_zero C id = unwrap_or (C id) (pos 0)

integer_is : (point : List ℤ) (C : ℕ → Option ℤ) (S : ℕ → Option Sort) (W : ℕ → Value) (bit linear : ℕ → Linear) (op : OpKind) (args : List TermId) → Known point C S W bit linear op args
    → (id : TermId) → is_among id.0 args ≡ true → S id.0 ≡ Some IntSort → worth_at point (linear id.0) ≡ integer (W id.0)
integer_is point C S W bit linear op args known id has here = known.linears id.0 has here ∙ number_is (W id.0) (known.sorted id.0 has IntSort here)

ite_place : (point : List ℤ) (C : ℕ → Option ℤ) (S : ℕ → Option Sort) (W : ℕ → Value) (bit linear : ℕ → Linear) (v : Linear) (x : ℤ) (own : ℕ) (args : List TermId) → Known point C S W bit linear Ite args
    → operation_sort Ite (map (λ (arg : TermId). S arg.0) args) ≡ Some IntSort → worth_at point v ≡ x
    → truth point (integer_place bit linear (value_or_zero C) v own (Some (Op Ite args))) ≡ int_eq x (number (result_of Ite (map (λ (arg : TermId). W arg.0) args)))
ite_place point C S W bit linear v x own [] known h is = absurd (cc)
ite_place point C S W bit linear v x own (a ∷ []) known h is = absurd (one_sort (S a.0) IntSort h)
ite_place point C S W bit linear v x own (a ∷ b ∷ []) known h is = absurd (two_sorts (S a.0) (S b.0) IntSort h)
ite_place point C S W bit linear v x own (c ∷ s ∷ r ∷ []) known h is =
    let all = three_sorts (S c.0) (S s.0) (S r.0) IntSort h in
    choice_place_is point v (bit c.0) (linear s.0) (linear r.0) x (number (W s.0)) (number (W r.0)) (truth_of (W c.0)) is
    (known.bits c.0 (eqb_self c.0) all.0 ∙ bit_is (W c.0) (known.sorted c.0 (first_among c (s ∷ r ∷ [])) BoolSort all.0))
    (known.linears s.0 (later_among s.0 c (s ∷ r ∷ []) (first_among s (r ∷ []))) all.1)
    (known.linears r.0 (later_among r.0 c (s ∷ r ∷ []) (later_among r.0 s (r ∷ []) (first_among r []))) all.2)
    ∙ picked (truth_of (W c.0)) x (W s.0) (W r.0)
ite_place point C S W bit linear v x own (a ∷ b ∷ c ∷ d ∷ rest) known h is = absurd (four_sorts (S a.0) (S b.0) (S c.0) (S d.0) (map (λ (arg : TermId). S arg.0) rest) IntSort h)

abs_place_of : (point : List ℤ) (C : ℕ → Option ℤ) (S : ℕ → Option Sort) (W : ℕ → Value) (bit linear : ℕ → Linear) (v : Linear) (x : ℤ) (own : ℕ) (args : List TermId) → Known point C S W bit linear Abs args
    → have_sorts (IntSort ∷ []) (map (λ (arg : TermId). S arg.0) args) ≡ true → worth_at point v ≡ x
    → truth point (integer_place bit linear (value_or_zero C) v own (Some (Op Abs args))) ≡ int_eq x (number (result_of Abs (map (λ (arg : TermId). W arg.0) args)))
abs_place_of point C S W bit linear v x own [] known h is = absurd (cc)
abs_place_of point C S W bit linear v x own (a ∷ []) known h is =
    abs_place_is point v (linear a.0) x (integer (W a.0)) is
    (integer_is point C S W bit linear Abs (a ∷ []) known a (first_among a []) (has_sort_is IntSort (S a.0) (both_true (has_sort IntSort (S a.0)) true h).0))
abs_place_of point C S W bit linear v x own (a ∷ b ∷ rest) known h is = let e : false ≡ true = (both_true (has_sort IntSort (S a.0)) false h).1 in absurd (cc)

quotient_place_of : (point : List ℤ) (C : ℕ → Option ℤ) (S : ℕ → Option Sort) (W : ℕ → Value) (bit linear : ℕ → Linear) (v : Linear) (x : ℤ) (own : ℕ) (args : List TermId)
    → Known point C S W bit linear Quotient args → have_sorts (IntSort ∷ IntSort ∷ []) (map (λ (arg : TermId). S arg.0) args) ≡ true → is_linear C (Op Quotient args) ≡ true → worth_at point v ≡ x
    → truth point (integer_place bit linear (value_or_zero C) v own (Some (Op Quotient args))) ≡ int_eq x (number (result_of Quotient (map (λ (arg : TermId). W arg.0) args)))
quotient_place_of point C S W bit linear v x own [] known h is_lin is = absurd (cc)
quotient_place_of point C S W bit linear v x own (a ∷ []) known h is_lin is = let e : false ≡ true = (both_true (has_sort IntSort (S a.0)) false h).1 in absurd (cc)
quotient_place_of point C S W bit linear v x own (a ∷ n ∷ []) known h is_lin is =
    let both = both_true (has_sort IntSort (S a.0)) (has_sort IntSort (S n.0) && true) h in
    let found = divisor_is (C n.0) is_lin in
    let d : ℤ = found.0 in
    let divisor : value_or_zero C n.0 ≡ d = ap (λ (k : Option ℤ). unwrap_or k (pos 0)) found.1 in
    let value : integer (W n.0) ≡ d = ap integer (known.constant n.0 (later_among n.0 a (n ∷ []) (first_among n [])) d found.1) in
    ap (λ (k : ℤ). truth point (quotient_place v (linear a.0) k)) divisor
    ∙ quotient_place_is point v (linear a.0) d x (integer (W a.0)) found.2 is
    (integer_is point C S W bit linear Quotient (a ∷ n ∷ []) known a (first_among a (n ∷ [])) (has_sort_is IntSort (S a.0) both.0))
    ∙ ap (λ (k : ℤ). int_eq x (int_div_euclid (integer (W a.0)) k)) (sym value)
quotient_place_of point C S W bit linear v x own (a ∷ n ∷ b ∷ rest) known h is_lin is =
    let e : false ≡ true = (both_true (has_sort IntSort (S n.0)) false (both_true (has_sort IntSort (S a.0)) (has_sort IntSort (S n.0) && false) h).1).1 in absurd (cc)

remainder_place_of : (point : List ℤ) (C : ℕ → Option ℤ) (S : ℕ → Option Sort) (W : ℕ → Value) (bit linear : ℕ → Linear) (v : Linear) (x : ℤ) (own : ℕ) (args : List TermId)
    → Known point C S W bit linear Remainder args → have_sorts (IntSort ∷ IntSort ∷ []) (map (λ (arg : TermId). S arg.0) args) ≡ true → is_linear C (Op Remainder args) ≡ true → worth_at point v ≡ x
    → truth point (integer_place bit linear (value_or_zero C) v own (Some (Op Remainder args))) ≡ int_eq x (number (result_of Remainder (map (λ (arg : TermId). W arg.0) args)))
remainder_place_of point C S W bit linear v x own [] known h is_lin is = absurd (cc)
remainder_place_of point C S W bit linear v x own (a ∷ []) known h is_lin is = let e : false ≡ true = (both_true (has_sort IntSort (S a.0)) false h).1 in absurd (cc)
remainder_place_of point C S W bit linear v x own (a ∷ n ∷ []) known h is_lin is =
    let both = both_true (has_sort IntSort (S a.0)) (has_sort IntSort (S n.0) && true) h in
    let found = divisor_is (C n.0) is_lin in
    let d : ℤ = found.0 in
    let divisor : value_or_zero C n.0 ≡ d = ap (λ (k : Option ℤ). unwrap_or k (pos 0)) found.1 in
    let value : integer (W n.0) ≡ d = ap integer (known.constant n.0 (later_among n.0 a (n ∷ []) (first_among n [])) d found.1) in
    ap (λ (k : ℤ). truth point (remainder_place v (linear a.0) k)) divisor
    ∙ remainder_place_is point v (linear a.0) d x (integer (W a.0)) found.2 is
    (integer_is point C S W bit linear Remainder (a ∷ n ∷ []) known a (first_among a (n ∷ [])) (has_sort_is IntSort (S a.0) both.0))
    ∙ ap (λ (k : ℤ). int_eq x (int_rem_euclid (integer (W a.0)) k)) (sym value)
remainder_place_of point C S W bit linear v x own (a ∷ n ∷ b ∷ rest) known h is_lin is =
    let e : false ≡ true = (both_true (has_sort IntSort (S n.0)) false (both_true (has_sort IntSort (S a.0)) (has_sort IntSort (S n.0) && false) h).1).1 in absurd (cc)

operation_place : (point : List ℤ) (C : ℕ → Option ℤ) (S : ℕ → Option Sort) (W : ℕ → Value) (bit linear : ℕ → Linear) (v : Linear) (x : ℤ) (own : ℕ) (args : List TermId) (op : OpKind)
    → Known point C S W bit linear op args → operation_sort op (map (λ (arg : TermId). S arg.0) args) ≡ Some IntSort → is_linear C (Op op args) ≡ true
    → (is_unit (Some IntSort) (Op op args) ≡ false → worth_at point (linear own) ≡ number (result_of op (map (λ (arg : TermId). W arg.0) args))) → worth_at point v ≡ x
    → truth point (integer_place bit linear (value_or_zero C) v own (Some (Op op args))) ≡ int_eq x (number (result_of op (map (λ (arg : TermId). W arg.0) args)))
operation_place point C S W bit linear v x own args Ite known h is_lin other is = ite_place point C S W bit linear v x own args known h is
operation_place point C S W bit linear v x own args Abs known h is_lin other is =
    abs_place_of point C S W bit linear v x own args known (sort_if_is (have_sorts (IntSort ∷ []) (map (λ (arg : TermId). S arg.0) args)) IntSort IntSort h).0 is
operation_place point C S W bit linear v x own args Quotient known h is_lin other is =
    quotient_place_of point C S W bit linear v x own args known (sort_if_is (have_sorts (IntSort ∷ IntSort ∷ []) (map (λ (arg : TermId). S arg.0) args)) IntSort IntSort h).0 is_lin is
operation_place point C S W bit linear v x own args Remainder known h is_lin other is =
    remainder_place_of point C S W bit linear v x own args known (sort_if_is (have_sorts (IntSort ∷ IntSort ∷ []) (map (λ (arg : TermId). S arg.0) args)) IntSort IntSort h).0 is_lin is
operation_place point C S W bit linear v x own args _ known h is_lin other is = other_place_is point v (linear own) x _ is (other refl)

node_place : (preds : List Declared) (point : List ℤ) (C : ℕ → Option ℤ) (S : ℕ → Option Sort) (W : ℕ → Worth) (env : Environment) (bit linear : ℕ → Linear) (v : Linear) (x : ℤ) (own : ℕ) (node : Node)
    → is_linear C node ≡ true
    → ((part : ℕ) → is_part part node ≡ true → (s : Sort) → S part ≡ Some s → HasSort s (W part env))
    → ((part : ℕ) → is_part part node ≡ true → (k : ℤ) → C part ≡ Some k → W part env ≡ Int k)
    → ((part : ℕ) → is_part part node ≡ true → S part ≡ Some IntSort → worth_at point (linear part) ≡ number (W part env))
    → ((part : ℕ) → asks node part ≡ true → S part ≡ Some BoolSort → worth_at point (bit part) ≡ number (W part env))
    → (is_unit (Some IntSort) node ≡ false → worth_at point (linear own) ≡ number (node_worth W node env))
    → node_sort preds S node ≡ Some IntSort → worth_at point v ≡ x
    → truth point (integer_place bit linear (value_or_zero C) v own (Some node)) ≡ int_eq x (number (node_worth W node env))
node_place preds point C S W env bit linear v x own (Op op args) is_lin sorted constant linears bits other h is =
    operation_place point C S (λ part. W part env) bit linear v x own args op (record { sorted = sorted; constant = constant; linears = linears; bits = bits }) h is_lin other is
node_place preds point C S W env bit linear v x own (Num n) is_lin sorted constant linears bits other h is = other_place_is point v (linear own) x _ is (other refl)
node_place preds point C S W env bit linear v x own TrueTerm is_lin sorted constant linears bits other h is = other_place_is point v (linear own) x _ is (other refl)
node_place preds point C S W env bit linear v x own FalseTerm is_lin sorted constant linears bits other h is = other_place_is point v (linear own) x _ is (other refl)
node_place preds point C S W env bit linear v x own (Var binder sort) is_lin sorted constant linears bits other h is = other_place_is point v (linear own) x _ is (other refl)
node_place preds point C S W env bit linear v x own (LetVar bound) is_lin sorted constant linears bits other h is = other_place_is point v (linear own) x _ is (other refl)
node_place preds point C S W env bit linear v x own (Pred pred args) is_lin sorted constant linears bits other h is = other_place_is point v (linear own) x _ is (other refl)
node_place preds point C S W env bit linear v x own (Divisible by arg) is_lin sorted constant linears bits other h is = other_place_is point v (linear own) x _ is (other refl)
node_place preds point C S W env bit linear v x own (Let bound body) is_lin sorted constant linears bits other h is = other_place_is point v (linear own) x _ is (other refl)
node_place preds point C S W env bit linear v x own (Forall first sorts body) is_lin sorted constant linears bits other h is = other_place_is point v (linear own) x _ is (other refl)
node_place preds point C S W env bit linear v x own (Exists first sorts body) is_lin sorted constant linears bits other h is = other_place_is point v (linear own) x _ is (other refl)

not_unit : (b : Bool) {X : Type 0} → b ≡ false → b ≡ true → X
not_unit b no_unit unit = absurd (cc)

pub sorted_there : (preds : List Declared) (nodes : List Node) (id : ℕ) (s : Sort) → sort_of preds nodes id ≡ Some s → id < length nodes
sorted_there preds nodes id s h = elim (cases_lt id (length nodes))
    [ inl less ↦ less | inr past ↦ absurd (none_some (sym (told_past (Option Sort) None (node_sort preds) nodes id past) ∙ h)) ]
  where
    none_some : None ≡ Some s → ⊥
    none_some e = absurd (cc)

module _ (preds : List Declared) (nodes : List Node) (top : ℕ) (env : Environment) (naming : Naming) (written : IsWritten preds nodes top env naming)
    (point : List ℤ) (variables : MeetsVariables nodes top env naming point) where
  pub linear_is : (n : ℕ) → MeetsBelow nodes top n env naming point → (id : ℕ) → IsSubterm nodes top id → nat_lt id n ≡ true → sort_of preds nodes id ≡ Some IntSort
      → worth_at point (linear_of naming nodes id) ≡ number (value_of nodes id env)
  linear_is n meets id sub within sorted =
      linear_value preds nodes written.arena top written.plain written.linear env written.typed naming written.units point variables n meets id (sorted_there preds nodes id IntSort sorted) sub within sorted

  pub formula_is : (n : ℕ) → MeetsBelow nodes top n env naming point → (id : ℕ) → IsSubterm nodes top id → nat_lt id (n + 1) ≡ true → sort_of preds nodes id ≡ Some BoolSort → (sign : Bool)
      → truth point (formula (sort_of preds nodes) naming nodes id sign) ≡ same_truth sign (truth_of (value_of nodes id env))
  formula_is n meets id sub within sorted sign =
      formula_value preds nodes written.arena top written.plain written.linear env written.typed naming written.units written.bits point variables n meets id (sorted_there preds nodes id BoolSort sorted) sub within sorted sign

  integer_place_value : (id v : ℕ) → MeetsBelow nodes top id env naming point → IsSubterm nodes top id → sort_of preds nodes id ≡ Some IntSort → (node : Node) → slice_get nodes id ≡ Some node
      → truth point (integer_place (bit_of naming nodes) (linear_of naming nodes) (constant_value nodes) (variable_form v) id (Some node)) ≡ int_eq (variable_at point v) (number (value_of nodes id env))
  integer_place_value id v meets sub sorted node is =
      let below : has_parts_below id node ≡ true = arena_below nodes id node written.arena is in
      let there : (part : ℕ) → is_part part node ≡ true → part < id = λ part has. part_below part id node below has in
      let here : id < length nodes = slice_get_within nodes id node is in
      let value = value_at nodes id node env is below in
      let node_sorted = sym (sort_at preds nodes id node is below) ∙ sorted in
      let sorts_are : (part : ℕ) → is_part part node ≡ true → (s : Sort) → sort_of preds nodes part ≡ Some s → HasSort s (value_of nodes part env) =
      λ part has s at. value_sort preds nodes written.arena top written.plain env written.typed part (omega (arith, there part has)) (inside part node sub is has) s at in
      let constants : (part : ℕ) → is_part part node ≡ true → (k : ℤ) → constant_of nodes part ≡ Some k → value_of nodes part env ≡ Int k =
      λ part has k at. constant_is nodes written.arena top env part (omega (arith, there part has)) (inside part node sub is has) k at in
      let linears : (part : ℕ) → is_part part node ≡ true → sort_of preds nodes part ≡ Some IntSort → worth_at point (linear_of naming nodes part) ≡ number (value_of nodes part env) =
      λ part has at. linear_is id meets part (inside part node sub is has) (lt_of part id (there part has)) at in
      node_place preds point (constant_of nodes) (sort_of preds nodes) (value_of nodes) env (bit_of naming nodes) (linear_of naming nodes) (variable_form v) (variable_at point v) id node
      (written.linear id node sub is) sorts_are constants linears
      (λ part asked at.
      let has = asked_part node part asked in
      bit_value nodes written.arena top env naming point variables id meets part (omega (arith, there part has)) (inside part node sub is has) (lt_of part id (there part has))
      (λ partner found open_bit. written.bits id part node partner sub is found asked at open_bit))
      (λ no_unit.
      ap (worth_at point) (linear_at (constant_of nodes) naming nodes id id node is below)
      ∙ node_value preds point naming (constant_of nodes) (sort_of preds nodes) (value_of nodes) (told_linear (constant_of nodes) naming nodes) env id node
      (written.plain id node sub is) (written.linear id node sub is) sorts_are constants linears
      (λ binder sort same. variables id binder sort sub (is ∙ ap (λ (m : Node). Some m) same))
      (λ unit. not_unit (is_unit (Some IntSort) node) no_unit unit)
      node_sorted)
      node_sorted (variable_value point v)
      ∙ ap (λ (w : Value). int_eq (variable_at point v) (number w)) (sym value)

  -- where the point has the values of the variables below, the form says that this one has its term's
  pub place_value : (id v : ℕ) (s : Sort) → MeetsBelow nodes top id env naming point → IsSubterm nodes top id → sort_of preds nodes id ≡ Some s
      → truth point (place_form (sort_of preds nodes) naming nodes v id) ≡ int_eq (variable_at point v) (number (value_of nodes id env))
  place_value id v BoolSort meets sub sorted =
      let x : ℤ = variable_at point v in
      let b : Bool = truth_of (value_of nodes id env) in
      let here : id < length nodes = sorted_there preds nodes id BoolSort sorted in
      let within : nat_lt id (id + 1) ≡ true = lt_of id (id + 1) (omega arith) in
      let typed = value_sort preds nodes written.arena top written.plain env written.typed id here sub BoolSort sorted in
      let holds : Form = formula (sort_of preds nodes) naming nodes id true in
      let fails : Form = formula (sort_of preds nodes) naming nodes id false in
      let other : Form = integer_place (bit_of naming nodes) (linear_of naming nodes) (constant_value nodes) (variable_form v) id (slice_get nodes id) in
      ap (λ (o : Option Sort). truth point (if has_sort BoolSort o then truth_place (variable_form v) holds fails else other)) sorted
      ∙ truth_place_is point (variable_form v) holds fails x b (variable_value point v) (formula_is id meets id sub within sorted true) (formula_is id meets id sub within sorted false)
      ∙ ap (int_eq x) (sym (bit_is (value_of nodes id env) typed))
  place_value id v IntSort meets sub sorted =
      let here : id < length nodes = sorted_there preds nodes id IntSort sorted in
      let found = there_is nodes id here in
      let holds : Form = formula (sort_of preds nodes) naming nodes id true in
      let fails : Form = formula (sort_of preds nodes) naming nodes id false in
      let other : Option Node → Form = λ node. integer_place (bit_of naming nodes) (linear_of naming nodes) (constant_value nodes) (variable_form v) id node in
      ap (λ (o : Option Sort). truth point (if has_sort BoolSort o then truth_place (variable_form v) holds fails else other (slice_get nodes id))) sorted
      ∙ ap (λ (node : Option Node). truth point (other node)) found.1
      ∙ integer_place_value id v meets sub sorted found.0 found.1

  -- where all forms hold, the variables have the values of their terms: those of the parts first
  pub meets_all : HoldsEverywhere (sort_of preds nodes) nodes top naming point → (n : ℕ) → MeetsBelow nodes top n env naming point
  meets_all holds zero id v sub within named = absurd (nothing_below id within)
    where
      nothing_below : (k : ℕ) → nat_lt k 0 ≡ true → ⊥
      nothing_below k h = absurd (omega (arith, from_lt k 0 h))
  meets_all holds (suc n) id v sub within named = elim (cases_lt id n) [
    | inl less ↦ meets_all holds n id v sub (lt_of id n less) named
    | inr most ↦
        let same : n ≡ id = omega (arith, from_lt id (suc n) within) in
        let earlier : MeetsBelow nodes top id env naming point = subst (λ (k : ℕ). MeetsBelow nodes top k env naming point) same (meets_all holds n) in
        let sorted = written.sorted id v sub named in
        same_integer (variable_at point v) (number (value_of nodes id env)) (sym (place_value id v sorted.0 earlier sub sorted.1) ∙ holds id v sub named)
  ]

  pub holds_all : ((n : ℕ) → MeetsBelow nodes top n env naming point) → HoldsEverywhere (sort_of preds nodes) nodes top naming point
  holds_all meets id v sub named =
      let sorted = written.sorted id v sub named in
      let equal : variable_at point v ≡ number (value_of nodes id env) = meets (id + 1) id v sub (lt_of id (id + 1) (omega arith)) named in
      place_value id v sorted.0 (meets id) sub sorted.1 ∙ subst (λ (z : ℤ). int_eq (variable_at point v) z ≡ true) equal (own_integer (variable_at point v))
