-- The formula of a Bool term holds where the term is true, or where it is false.
use Rattle.std.proofs.Common.{◌≡◌, ℕ, ◌+◌, ◌<◌, ◌≤◌, List, [], ◌∷◌, length, Bool, true, false, ◌&&◌, ◌||◌, refl, ap, sym, ◌∙◌, subst, arith, map}
use Rattle.std.specs.Prelude.{Option, Some, None, nat_lt, nat_le, ℤ, pos, nat_abs, int_lt, not, if◌then◌else◌}
use Rattle.std.specs.List.{list_all}
use Rattle.std.proofs.lemmas.Bool.Decides.{nat_tests}
use Rattle.std.proofs.lemmas.Option.{slice_get_within}
use Rattle.term_tree.specs.declared.sort.Sort.{Sort}
use Rattle.term_tree.specs.declared.sort.Sort.TheVariants.{Int as IntSort, Bool as BoolSort}
use Rattle.term_tree.specs.declared.script.Pred.{Pred as Declared}
use Rattle.term_tree.specs.declared.node.TermId.{TermId}
use Rattle.term_tree.specs.declared.node.Node.{Node}
use Rattle.term_tree.specs.declared.node.Node.TheVariants.{Num, True as TrueTerm, False as FalseTerm, Var, LetVar, Pred, Op, Divisible, Let, Forall, Exists}
use Rattle.term_tree.specs.declared.node.OpKind.{OpKind}
use Rattle.term_tree.specs.declared.node.OpKind.TheVariants.{Not, And as AndOp, Or as OrOp, Xor, Implies, Eq as Equal, Distinct, Ite, Add, Mul, Sub, Abs, Div as Quotient, Mod as Remainder, Le as AtMost, Lt, Ge, Gt}
use Rattle.term_tree.specs.declared.scalar.Value.{Value}
use Rattle.term_tree.specs.declared.scalar.Value.TheVariants.{Int, Bool as Truth}
use Rattle.term_tree.specs.Arena.{IsArena}
use Rattle.term_tree.specs.Constants.{constant_of, is_linear}
use Rattle.term_tree.specs.Operators.{result_of, integer, divides, exclusive, sum_of, same_truth}
use Rattle.term_tree.specs.Operators.{truth as truth_of, implied as is_implied}
use Rattle.term_tree.specs.Sorts.{sort_if, operation_sort, has_sort, all_of, node_sort, sort_of, is_sorted, have_sorts, are_alike}
use Rattle.term_tree.specs.Subterms.{is_among, is_part, is_plain, IsSubterm, IsPlain, EverySubterm, inside}
use Rattle.term_tree.specs.Truth.{HasSort}
use Rattle.term_tree.specs.Value.{Environment, Worth, node_worth, value_of}
use Rattle.term_tree.proofs.Public.{sort_at}
use Rattle.term_tree.proofs.Public.{both_true}
use Rattle.term_tree.proofs.Public.{eqb_self, part_below}
use Rattle.term_tree.proofs.Public.{value_at}
use Rattle.lin_atoms.specs.Multiples.{is_multiple}
use Rattle.lin_atoms.specs.Linear.{Linear, variable_at}
use Rattle.lin_atoms.specs.Linear.{value_at as worth_at}
use Rattle.lin_atoms.specs.Truth.{truth}
use Rattle.lin_atoms.specs.declared.lit.Lit.TheVariants.{Div, NDiv}
use Rattle.lin_atoms.specs.declared.form.Form.{Form}
use Rattle.lin_atoms.specs.declared.form.Form.TheVariants.{True, False, Lit}
use Rattle.lin_atoms.specs.declared.form.Form.TheViews.{And, Or}
use Rattle.lin_atoms.proofs.Public.{truth-And, truth-Or}
use Rattle.linear_terms.specs.Text.{are_truths}
use Rattle.linear_terms.specs.Linear.{Naming, variable_form, sum_form}
use Rattle.linear_terms.specs.Formula.{TermForms, le, complement_of, implication_forms, choice, denied, comparison, operation, node_formula, told_formula, formula, reading_of, odd}
use Rattle.linear_terms.specs.Meeting.{number, truth_number, asks, IsTyped, MeetsVariables, MeetsBelow, NamesUnits, NamesBits}
use Rattle.linear_terms.proofs.PartLemmas.{by_parts, formula_at, first_among, later_among, body_among}
use Rattle.linear_terms.proofs.SortLemmas.{sort_if_is, has_sort_is, let_sort, AreSorted, value_sort, three_sorts, one_sort, two_sorts, four_sorts}
use Rattle.linear_terms.proofs.LinearLemmas.{linear_value, sum_value, variable_value, length_map, number_is}
use Rattle.linear_terms.proofs.BitLemmas.{bit_value}
use Rattle.linear_terms.proofs.JunctionLemmas.{truth-Lit, truth-True, truth-False, any_true, all_of-map, any_of-map, joined_all, joined_any, signed_not, Linked, one_truth, parity}
use Rattle.linear_terms.proofs.RelationLemmas.{Stands, IsRelation, integers_truth, equal_bits_truth, distinct_bits_truth, divides_is}

not_integer : (b : Bool) → sort_if b IntSort ≡ Some BoolSort → ⊥
not_integer true h = absurd (cc)
not_integer false h = absurd (cc)

pub bit_is : (v : Value) → HasSort BoolSort v → number v ≡ truth_number (truth_of v)
bit_is (Int n) h = absurd h
bit_is (Truth b) h = refl

-- of each Bool term among these the formula holds as it should
abbrev AreFormulas : List ℤ → (ℕ → Option Sort) → (ℕ → Value) → (ℕ → Bool → Form) → List TermId → Type 0
AreFormulas point S W F args = (part : ℕ) → is_among part args ≡ true → S part ≡ Some BoolSort → (sign : Bool) → truth point (F part sign) ≡ same_truth sign (truth_of (W part))

-- of each term of the sort among these the form has the value
abbrev AreForms : List ℤ → Sort → (ℕ → Option Sort) → (ℕ → Value) → (ℕ → Linear) → List TermId → Type 0
AreForms point s S W X args = (part : ℕ) → is_among part args ≡ true → S part ≡ Some s → worth_at point (X part) ≡ number (W part)

abbrev sorts_of : (ℕ → Option Sort) → List TermId → List (Option Sort)
sorts_of S args = map (λ (arg : TermId). S arg.0) args

abbrev values_of : (ℕ → Value) → List TermId → List Value
values_of W args = map (λ (arg : TermId). W arg.0) args

linked : (point : List ℤ) (s : Sort) (S : ℕ → Option Sort) (W : ℕ → Value) (X : ℕ → Linear) (args : List TermId) → AreSorted S W args → AreForms point s S W X args
    → list_all (has_sort s) (sorts_of S args) ≡ true → Linked (Stands point s) (map (λ (arg : TermId). X arg.0) args) (values_of W args)
linked point s S W X [] sorted forms all = tt
linked point s S W X (id ∷ ids) sorted forms all =
    let both = both_true (has_sort s (S id.0)) (list_all (has_sort s) (sorts_of S ids)) all in
    let here = has_sort_is s (S id.0) both.0 in (
      (sorted id.0 (first_among id ids) s here, forms id.0 (first_among id ids) here),
      linked point s S W X ids (λ part has. sorted part (later_among part id ids has)) (λ part has. forms part (later_among part id ids has)) both.1,
    )

formula_list : (point : List ℤ) (S : ℕ → Option Sort) (W : ℕ → Value) (F : ℕ → Bool → Form) (sign : Bool) (args : List TermId) → AreFormulas point S W F args
    → list_all (has_sort BoolSort) (sorts_of S args) ≡ true
    → map (truth point) (map (λ (arg : TermId). F arg.0 sign) args) ≡ map (same_truth sign) (map truth_of (values_of W args))
formula_list point S W F sign [] formulas all = refl
formula_list point S W F sign (id ∷ ids) formulas all =
    let both = both_true (has_sort BoolSort (S id.0)) (list_all (has_sort BoolSort) (sorts_of S ids)) all in
    ap (λ (b : Bool). b ∷ map (truth point) (map (λ (arg : TermId). F arg.0 sign) ids)) (formulas id.0 (first_among id ids) (has_sort_is BoolSort (S id.0) both.0) sign)
    ∙ ap (λ (bs : List Bool). same_truth sign (truth_of (W id.0)) ∷ bs) (formula_list point S W F sign ids (λ part has. formulas part (later_among part id ids has)) both.1)

implied_any : (a b : Bool) → (not a || b) ≡ (not a || b)
implied_any a b = refl

implied_all : (a b : Bool) → (a && not b) ≡ not (not a || b)
implied_all true b = refl
implied_all false b = refl

implied_bools : List Bool → List Bool
implied_bools [] = []
implied_bools (b ∷ []) = b ∷ []
implied_bools (b ∷ c ∷ bs) = not b ∷ implied_bools (c ∷ bs)

implied_is : (bs : List Bool) → 1 ≤ length bs → any_true (implied_bools bs) ≡ is_implied bs
unfolding implied_bools any_true
implied_is [] h = absurd (omega arith)
implied_is (true ∷ []) h = refl
implied_is (false ∷ []) h = refl
implied_is (b ∷ c ∷ bs) h = ap (λ (x : Bool). not b || x) (implied_is (c ∷ bs) (omega arith))

implied_list : (point : List ℤ) (S : ℕ → Option Sort) (W : ℕ → Value) (F : ℕ → Bool → Form) (sign : Bool) (args : List TermId) → AreFormulas point S W F args
    → list_all (has_sort BoolSort) (sorts_of S args) ≡ true
    → map (truth point) (implication_forms F sign args) ≡ map (same_truth sign) (implied_bools (map truth_of (values_of W args)))
unfolding implied_bools
implied_list point S W F sign [] formulas all = refl
implied_list point S W F sign (id ∷ []) formulas all =
    ap (λ (b : Bool). b ∷ []) (formulas id.0 (first_among id []) (has_sort_is BoolSort (S id.0) (both_true (has_sort BoolSort (S id.0)) true all).0) sign)
implied_list point S W F sign (id ∷ next ∷ ids) formulas all =
    let both = both_true (has_sort BoolSort (S id.0)) (list_all (has_sort BoolSort) (sorts_of S (next ∷ ids))) all in
    ap (λ (b : Bool). b ∷ map (truth point) (implication_forms F sign (next ∷ ids)))
    (formulas id.0 (first_among id (next ∷ ids)) (has_sort_is BoolSort (S id.0) both.0) (not sign) ∙ signed_not sign (truth_of (W id.0)))
    ∙ ap (λ (bs : List Bool). same_truth sign (not (truth_of (W id.0))) ∷ bs)
    (implied_list point S W F sign (next ∷ ids) (λ part has. formulas part (later_among part id (next ∷ ids) has)) both.1)

bit_list : (point : List ℤ) (S : ℕ → Option Sort) (W : ℕ → Value) (B : ℕ → Linear) (args : List TermId) → AreSorted S W args → AreForms point BoolSort S W B args
    → list_all (has_sort BoolSort) (sorts_of S args) ≡ true
    → map (worth_at point) (map (λ (arg : TermId). B arg.0) args) ≡ map truth_number (map truth_of (values_of W args))
bit_list point S W B [] sorted bits all = refl
bit_list point S W B (id ∷ ids) sorted bits all =
    let both = both_true (has_sort BoolSort (S id.0)) (list_all (has_sort BoolSort) (sorts_of S ids)) all in
    let here = has_sort_is BoolSort (S id.0) both.0 in
    ap (λ (x : ℤ). x ∷ map (worth_at point) (map (λ (arg : TermId). B arg.0) ids)) (bits id.0 (first_among id ids) here ∙ bit_is (W id.0) (sorted id.0 (first_among id ids) BoolSort here))
    ∙ ap (λ (xs : List ℤ). truth_number (truth_of (W id.0)) ∷ xs)
    (bit_list point S W B ids (λ part has. sorted part (later_among part id ids has)) (λ part has. bits part (later_among part id ids has)) both.1)

not_not : (b : Bool) → not (not b) ≡ b
not_not true = refl
not_not false = refl

odd_truth : (point : List ℤ) (sign : Bool) (sum : Linear) (b : Bool) → not (is_multiple (pos 2) (worth_at point sum)) ≡ b → truth point (odd sign sum) ≡ same_truth sign b
odd_truth point true sum b is = truth-Lit point (NDiv 2 sum) ∙ is
odd_truth point false sum b is = truth-Lit point (Div 2 sum) ∙ sym (not_not (is_multiple (pos 2) (worth_at point sum))) ∙ ap not is

xor_sum : (point : List ℤ) (S : ℕ → Option Sort) (W : ℕ → Value) (B : ℕ → Linear) (args : List TermId) → AreSorted S W args → AreForms point BoolSort S W B args
    → list_all (has_sort BoolSort) (sorts_of S args) ≡ true
    → not (is_multiple (pos 2) (worth_at point (sum_form (map (λ (arg : TermId). B arg.0) args)))) ≡ exclusive (map truth_of (values_of W args))
xor_sum point S W B args sorted bits all =
    ap (λ (x : ℤ). not (is_multiple (pos 2) x))
    (sum_value point (map (λ (arg : TermId). B arg.0) args) ∙ ap sum_of (bit_list point S W B args sorted bits all))
    ∙ parity (map truth_of (values_of W args))

pick : (c s r : Bool) → ((not c || (s || false)) && ((c || (r || false)) && true)) ≡ (if c then s else r)
pick true true r = refl
pick true false r = refl
pick false s true = refl
pick false s false = refl

pick_signed : (sign c s r : Bool) → (if c then same_truth sign s else same_truth sign r) ≡ same_truth sign (if c then s else r)
pick_signed sign true s r = refl
pick_signed sign false s r = refl

pick_value : (c : Bool) (v w : Value) → (if c then truth_of v else truth_of w) ≡ truth_of (if c then v else w)
pick_value true v w = refl
pick_value false v w = refl

choice_truth : (point : List ℤ) (sign : Bool) (bit : Linear) (yes_form no_form : Form) (c : Bool) (v w : Value) → worth_at point bit ≡ truth_number c
    → truth point yes_form ≡ same_truth sign (truth_of v) → truth point no_form ≡ same_truth sign (truth_of w)
    → truth point (And (Or (le bit ∷ yes_form ∷ []) ∷ Or (le (complement_of bit) ∷ no_form ∷ []) ∷ [])) ≡ same_truth sign (truth_of (if c then v else w))
choice_truth point sign bit yes_form no_form c v w is first second =
    truth-And point (Or (le bit ∷ yes_form ∷ []) ∷ Or (le (complement_of bit) ∷ no_form ∷ []) ∷ [])
    ∙ ap (λ (b : Bool). b && (truth point (Or (le (complement_of bit) ∷ no_form ∷ [])) && true)) (truth-Or point (le bit ∷ yes_form ∷ []))
    ∙ ap (λ (b : Bool). (truth point (le bit) || (truth point yes_form || false)) && (b && true)) (truth-Or point (le (complement_of bit) ∷ no_form ∷ []))
    ∙ ap (λ (b : Bool). (b || (truth point yes_form || false)) && ((truth point (le (complement_of bit)) || (truth point no_form || false)) && true)) (one_truth point false bit c is)
    ∙ ap (λ (b : Bool). (not c || (truth point yes_form || false)) && ((b || (truth point no_form || false)) && true)) (one_truth point true bit c is)
    ∙ ap (λ (b : Bool). (not c || (b || false)) && ((c || (truth point no_form || false)) && true)) first
    ∙ ap (λ (b : Bool). (not c || (same_truth sign (truth_of v) || false)) && ((c || (b || false)) && true)) second
    ∙ pick c (same_truth sign (truth_of v)) (same_truth sign (truth_of w))
    ∙ pick_signed sign c (truth_of v) (truth_of w)
    ∙ ap (same_truth sign) (pick_value c v w)

-- arguments of one sort
alike_is : (o : Option Sort) (rest : List (Option Sort)) → are_alike (o ∷ rest) ≡ true → (s : Sort) × (o ≡ Some s) × (list_all (has_sort s) (o ∷ rest) ≡ true)
alike_is None rest h = absurd (cc)
alike_is (Some IntSort) rest h = (IntSort, refl, h)
alike_is (Some BoolSort) rest h = (BoolSort, refl, h)

equal_truth : (point : List ℤ) (sign : Bool) (s : Sort) (S : ℕ → Option Sort) (W : ℕ → Value) (B L : ℕ → Linear) (args : List TermId) → AreSorted S W args
    → AreForms point BoolSort S W B args → AreForms point IntSort S W L args → list_all (has_sort s) (sorts_of S args) ≡ true
    → truth point (comparison Equal (has_sort BoolSort (Some s)) sign (map (λ (arg : TermId). B arg.0) args) (map (λ (arg : TermId). L arg.0) args))
    ≡ same_truth sign (truth_of (result_of Equal (values_of W args)))
equal_truth point sign IntSort S W B L args sorted bits linear all = integers_truth point sign Equal tt _ _ (linked point IntSort S W L args sorted linear all)
equal_truth point sign BoolSort S W B L args sorted bits linear all = equal_bits_truth point sign _ _ (linked point BoolSort S W B args sorted bits all)

distinct_truth : (point : List ℤ) (sign : Bool) (s : Sort) (S : ℕ → Option Sort) (W : ℕ → Value) (B L : ℕ → Linear) (args : List TermId) → AreSorted S W args
    → AreForms point BoolSort S W B args → AreForms point IntSort S W L args → list_all (has_sort s) (sorts_of S args) ≡ true
    → truth point (comparison Distinct (has_sort BoolSort (Some s)) sign (map (λ (arg : TermId). B arg.0) args) (map (λ (arg : TermId). L arg.0) args))
    ≡ same_truth sign (truth_of (result_of Distinct (values_of W args)))
distinct_truth point sign IntSort S W B L args sorted bits linear all = integers_truth point sign Distinct tt _ _ (linked point IntSort S W L args sorted linear all)
distinct_truth point sign BoolSort S W B L args sorted bits linear all = distinct_bits_truth point sign _ _ (linked point BoolSort S W B args sorted bits all)

no_truths : (S : ℕ → Option Sort) (args : List TermId) → list_all (has_sort IntSort) (sorts_of S args) ≡ true → are_truths S args ≡ false
no_truths S [] all = refl
no_truths S (id ∷ ids) all =
    ap (has_sort BoolSort) (has_sort_is IntSort (S id.0) (both_true (has_sort IntSort (S id.0)) (list_all (has_sort IntSort) (sorts_of S ids)) all).0)

ordered_truth : (point : List ℤ) (sign : Bool) (op : OpKind) → IsRelation op → (S : ℕ → Option Sort) (W : ℕ → Value) (B L : ℕ → Linear) (args : List TermId) → AreSorted S W args
    → AreForms point IntSort S W L args → all_of IntSort 2 (sorts_of S args) ≡ true
    → truth point (comparison op (are_truths S args) sign (map (λ (arg : TermId). B arg.0) args) (map (λ (arg : TermId). L arg.0) args)) ≡ same_truth sign (truth_of (result_of op (values_of W args)))
ordered_truth point sign op is S W B L args sorted linear h =
    let all = (both_true (nat_le 2 (length (sorts_of S args))) (list_all (has_sort IntSort) (sorts_of S args)) h).1 in
    ap (λ (t : Bool). truth point (comparison op t sign (map (λ (arg : TermId). B arg.0) args) (map (λ (arg : TermId). L arg.0) args))) (no_truths S args all)
    ∙ integers_truth point sign op is _ _ (linked point IntSort S W L args sorted linear all)

abbrev AreBits : List ℤ → (ℕ → Option Sort) → (ℕ → Value) → (ℕ → Linear) → OpKind → List TermId → Type 0
AreBits point S W B op args = (part : ℕ) → asks (Op op args) part ≡ true → S part ≡ Some BoolSort → worth_at point (B part) ≡ number (W part)

not_truth : (point : List ℤ) (S : ℕ → Option Sort) (W : ℕ → Value) (F : ℕ → Bool → Form) (args : List TermId) → AreFormulas point S W F args
    → have_sorts (BoolSort ∷ []) (sorts_of S args) ≡ true → (sign : Bool) → truth point (denied F sign args) ≡ same_truth sign (truth_of (result_of Not (values_of W args)))
not_truth point S W F [] formulas h sign = absurd (cc)
not_truth point S W F (a ∷ []) formulas h sign =
    formulas a.0 (first_among a []) (has_sort_is BoolSort (S a.0) (both_true (has_sort BoolSort (S a.0)) true h).0) (not sign) ∙ signed_not sign (truth_of (W a.0))
not_truth point S W F (a ∷ b ∷ rest) formulas h sign = let e : false ≡ true = (both_true (has_sort BoolSort (S a.0)) false h).1 in absurd (cc)

ite_truth : (point : List ℤ) (S : ℕ → Option Sort) (W : ℕ → Value) (B : ℕ → Linear) (F : ℕ → Bool → Form) (args : List TermId) → AreSorted S W args → AreFormulas point S W F args
    → AreBits point S W B Ite args → operation_sort Ite (sorts_of S args) ≡ Some BoolSort → (sign : Bool)
    → truth point (choice F B sign args) ≡ same_truth sign (truth_of (result_of Ite (values_of W args)))
ite_truth point S W B F [] sorted formulas bits h sign = absurd (cc)
ite_truth point S W B F (a ∷ []) sorted formulas bits h sign = absurd (one_sort (S a.0) BoolSort h)
ite_truth point S W B F (a ∷ b ∷ []) sorted formulas bits h sign = absurd (two_sorts (S a.0) (S b.0) BoolSort h)
ite_truth point S W B F (c ∷ s ∷ r ∷ []) sorted formulas bits h sign =
    let all = three_sorts (S c.0) (S s.0) (S r.0) BoolSort h in
    choice_truth point sign (B c.0) (F s.0 sign) (F r.0 sign) (truth_of (W c.0)) (W s.0) (W r.0)
    (bits c.0 (eqb_self c.0) all.0 ∙ bit_is (W c.0) (sorted c.0 (first_among c (s ∷ r ∷ [])) BoolSort all.0))
    (formulas s.0 (later_among s.0 c (s ∷ r ∷ []) (first_among s (r ∷ []))) all.1 sign)
    (formulas r.0 (later_among r.0 c (s ∷ r ∷ []) (later_among r.0 s (r ∷ []) (first_among r []))) all.2 sign)
ite_truth point S W B F (a ∷ b ∷ c ∷ d ∷ rest) sorted formulas bits h sign = absurd (four_sorts (S a.0) (S b.0) (S c.0) (S d.0) (sorts_of S rest) BoolSort h)

eq_truth : (point : List ℤ) (S : ℕ → Option Sort) (W : ℕ → Value) (B L : ℕ → Linear) (args : List TermId) → AreSorted S W args
    → AreBits point S W B Equal args → AreForms point IntSort S W L args → operation_sort Equal (sorts_of S args) ≡ Some BoolSort → (sign : Bool)
    → truth point (comparison Equal (are_truths S args) sign (map (λ (arg : TermId). B arg.0) args) (map (λ (arg : TermId). L arg.0) args)) ≡ same_truth sign (truth_of (result_of Equal (values_of W args)))
eq_truth point S W B L [] sorted bits linear h sign = absurd (cc)
eq_truth point S W B L (a ∷ ids) sorted bits linear h sign =
    let given : List (Option Sort) = sorts_of S (a ∷ ids) in
    let alike = alike_is (S a.0) (sorts_of S ids) (both_true (nat_le 2 (length given)) (are_alike given) (sort_if_is (nat_le 2 (length given) && are_alike given) BoolSort BoolSort h).0).1 in
    ap (λ (o : Option Sort). truth point (comparison Equal (has_sort BoolSort o) sign (map (λ (arg : TermId). B arg.0) (a ∷ ids)) (map (λ (arg : TermId). L arg.0) (a ∷ ids)))) alike.1
    ∙ equal_truth point sign alike.0 S W B L (a ∷ ids) sorted bits linear alike.2

ne_truth : (point : List ℤ) (S : ℕ → Option Sort) (W : ℕ → Value) (B L : ℕ → Linear) (args : List TermId) → AreSorted S W args
    → AreBits point S W B Distinct args → AreForms point IntSort S W L args → operation_sort Distinct (sorts_of S args) ≡ Some BoolSort → (sign : Bool)
    → truth point (comparison Distinct (are_truths S args) sign (map (λ (arg : TermId). B arg.0) args) (map (λ (arg : TermId). L arg.0) args)) ≡ same_truth sign (truth_of (result_of Distinct (values_of W args)))
ne_truth point S W B L [] sorted bits linear h sign = absurd (cc)
ne_truth point S W B L (a ∷ ids) sorted bits linear h sign =
    let given : List (Option Sort) = sorts_of S (a ∷ ids) in
    let rest = both_true (nat_le 2 (length given)) (nat_le (length given) 64 && are_alike given)
    (sort_if_is (nat_le 2 (length given) && (nat_le (length given) 64 && are_alike given)) BoolSort BoolSort h).0 in
    let alike = alike_is (S a.0) (sorts_of S ids) (both_true (nat_le (length given) 64) (are_alike given) rest.1).1 in
    ap (λ (o : Option Sort). truth point (comparison Distinct (has_sort BoolSort o) sign (map (λ (arg : TermId). B arg.0) (a ∷ ids)) (map (λ (arg : TermId). L arg.0) (a ∷ ids)))) alike.1
    ∙ distinct_truth point sign alike.0 S W B L (a ∷ ids) sorted bits linear alike.2

truths_of : (S : ℕ → Option Sort) (least : ℕ) (args : List TermId) → sort_if (all_of BoolSort least (sorts_of S args)) BoolSort ≡ Some BoolSort → list_all (has_sort BoolSort) (sorts_of S args) ≡ true
truths_of S least args h =
    (both_true (nat_le least (length (sorts_of S args))) (list_all (has_sort BoolSort) (sorts_of S args)) (sort_if_is (all_of BoolSort least (sorts_of S args)) BoolSort BoolSort h).0).1

le_of : (m n : ℕ) → nat_le m n ≡ true → m ≤ n
le_of m n h = grind (arith, nat_tests)

many : (S : ℕ → Option Sort) (W : ℕ → Value) (args : List TermId) → sort_if (all_of BoolSort 2 (sorts_of S args)) BoolSort ≡ Some BoolSort → 1 ≤ length (map truth_of (values_of W args))
many S W args h =
    let two = le_of 2 (length (sorts_of S args)) (both_true (nat_le 2 (length (sorts_of S args))) (list_all (has_sort BoolSort) (sorts_of S args)) (sort_if_is (all_of BoolSort 2 (sorts_of S args)) BoolSort BoolSort h).0).0 in
    let sorts_long : length (sorts_of S args) ≡ length args = length_map (λ (arg : TermId). S arg.0) args in
    let values_long : length (values_of W args) ≡ length args = length_map (λ (arg : TermId). W arg.0) args in
    let truths_long : length (map truth_of (values_of W args)) ≡ length (values_of W args) = length_map truth_of (values_of W args) in
    omega arith

orders_of : (S : ℕ → Option Sort) (args : List TermId) → sort_if (all_of IntSort 2 (sorts_of S args)) BoolSort ≡ Some BoolSort → all_of IntSort 2 (sorts_of S args) ≡ true
orders_of S args h = (sort_if_is (all_of IntSort 2 (sorts_of S args)) BoolSort BoolSort h).0

operation_truth : (point : List ℤ) (reading : TermForms) (W : ℕ → Value) (F : ℕ → Bool → Form) (args : List TermId) → AreSorted reading.sorts W args → AreFormulas point reading.sorts W F args
    → AreForms point IntSort reading.sorts W reading.linear args → (sign : Bool) → (op : OpKind) → AreBits point reading.sorts W reading.bit op args
    → operation_sort op (sorts_of reading.sorts args) ≡ Some BoolSort → truth point (operation reading F op args sign) ≡ same_truth sign (truth_of (result_of op (values_of W args)))
operation_truth point reading W F args sorted formulas linear sign Not bits h =
    not_truth point reading.sorts W F args formulas (sort_if_is (have_sorts (BoolSort ∷ []) (sorts_of reading.sorts args)) BoolSort BoolSort h).0 sign
operation_truth point reading W F args sorted formulas linear sign AndOp bits h =
    joined_all point sign _ (map truth_of (values_of W args)) (formula_list point reading.sorts W F sign args formulas (truths_of reading.sorts 1 args h))
    ∙ ap (same_truth sign) (sym (all_of-map truth_of (values_of W args)))
operation_truth point reading W F args sorted formulas linear sign OrOp bits h =
    joined_any point sign _ (map truth_of (values_of W args)) (formula_list point reading.sorts W F sign args formulas (truths_of reading.sorts 1 args h))
    ∙ ap (same_truth sign) (sym (any_of-map truth_of (values_of W args)))
operation_truth point reading W F args sorted formulas linear sign Implies bits h =
    joined_any point sign _ (implied_bools (map truth_of (values_of W args))) (implied_list point reading.sorts W F sign args formulas (truths_of reading.sorts 2 args h))
    ∙ ap (same_truth sign) (implied_is (map truth_of (values_of W args)) (many reading.sorts W args h))
operation_truth point reading W F args sorted formulas linear sign Xor bits h =
    odd_truth point sign _ _ (xor_sum point reading.sorts W reading.bit args sorted bits (truths_of reading.sorts 2 args h))
operation_truth point reading W F args sorted formulas linear sign Ite bits h = ite_truth point reading.sorts W reading.bit F args sorted formulas bits h sign
operation_truth point reading W F args sorted formulas linear sign Equal bits h = eq_truth point reading.sorts W reading.bit reading.linear args sorted bits linear h sign
operation_truth point reading W F args sorted formulas linear sign Distinct bits h = ne_truth point reading.sorts W reading.bit reading.linear args sorted bits linear h sign
operation_truth point reading W F args sorted formulas linear sign AtMost bits h = ordered_truth point sign AtMost tt reading.sorts W reading.bit reading.linear args sorted linear (orders_of reading.sorts args h)
operation_truth point reading W F args sorted formulas linear sign Lt bits h = ordered_truth point sign Lt tt reading.sorts W reading.bit reading.linear args sorted linear (orders_of reading.sorts args h)
operation_truth point reading W F args sorted formulas linear sign Ge bits h = ordered_truth point sign Ge tt reading.sorts W reading.bit reading.linear args sorted linear (orders_of reading.sorts args h)
operation_truth point reading W F args sorted formulas linear sign Gt bits h = ordered_truth point sign Gt tt reading.sorts W reading.bit reading.linear args sorted linear (orders_of reading.sorts args h)
operation_truth point reading W F args sorted formulas linear sign Add bits h = absurd (not_integer _ h)
operation_truth point reading W F args sorted formulas linear sign Mul bits h = absurd (not_integer _ h)
operation_truth point reading W F args sorted formulas linear sign Sub bits h = absurd (not_integer _ h)
operation_truth point reading W F args sorted formulas linear sign Abs bits h = absurd (not_integer _ h)
operation_truth point reading W F args sorted formulas linear sign Quotient bits h = absurd (not_integer _ h)
operation_truth point reading W F args sorted formulas linear sign Remainder bits h = absurd (not_integer _ h)

divisible_truth : (point : List ℤ) (by : ℤ) (lin : Linear) (n : ℤ) → int_lt (pos 0) by ≡ true → worth_at point lin ≡ n → (sign : Bool)
    → truth point (if sign then Lit (Div (nat_abs by) lin) else Lit (NDiv (nat_abs by) lin)) ≡ same_truth sign (divides by n)
divisible_truth point by lin n above is true = truth-Lit point (Div (nat_abs by) lin) ∙ ap (is_multiple (pos (nat_abs by))) is ∙ divides_is by n above
divisible_truth point by lin n above is false = truth-Lit point (NDiv (nat_abs by) lin) ∙ ap (λ (x : ℤ). not (is_multiple (pos (nat_abs by)) x)) is ∙ ap not (divides_is by n above)

sign_true : (point : List ℤ) (sign : Bool) → truth point (if sign then True else False) ≡ same_truth sign true
sign_true point true = truth-True point
sign_true point false = truth-False point

sign_false : (point : List ℤ) (sign : Bool) → truth point (if sign then False else True) ≡ same_truth sign false
sign_false point true = truth-False point
sign_false point false = truth-True point

node_truth : (preds : List Declared) (point : List ℤ) (reading : TermForms) (naming : Naming) (C : ℕ → Option ℤ) (W : ℕ → Worth) (F : ℕ → Bool → Form) (env : Environment) (node : Node)
    → is_plain node ≡ true → is_linear C node ≡ true
    → ((part : ℕ) → is_part part node ≡ true → (s : Sort) → reading.sorts part ≡ Some s → HasSort s (W part env))
    → ((part : ℕ) → is_part part node ≡ true → reading.sorts part ≡ Some BoolSort → (sign : Bool) → truth point (F part sign) ≡ same_truth sign (truth_of (W part env)))
    → ((part : ℕ) → is_part part node ≡ true → reading.sorts part ≡ Some IntSort → worth_at point (reading.linear part) ≡ number (W part env))
    → ((part : ℕ) → asks node part ≡ true → reading.sorts part ≡ Some BoolSort → worth_at point (reading.bit part) ≡ number (W part env))
    → ((binder : ℕ) (sort : Sort) → node ≡ Var binder sort → HasSort sort (env binder) × (variable_at point (naming.own binder) ≡ number (env binder)))
    → node_sort preds reading.sorts node ≡ Some BoolSort → (sign : Bool) → truth point (node_formula reading naming F node sign) ≡ same_truth sign (truth_of (node_worth W node env))
node_truth preds point reading naming C W F env (Num n) plain is sorted formulas linear bits variables h sign = absurd (cc)
node_truth preds point reading naming C W F env TrueTerm plain is sorted formulas linear bits variables h sign = sign_true point sign
node_truth preds point reading naming C W F env FalseTerm plain is sorted formulas linear bits variables h sign = sign_false point sign
node_truth preds point reading naming C W F env (Var binder sort) plain is sorted formulas linear bits variables h sign =
    let known = variables binder sort refl in
    let same : sort ≡ BoolSort = cc in
    let typed : HasSort BoolSort (env binder) = subst (λ (s : Sort). HasSort s (env binder)) same known.0 in
    one_truth point sign (variable_form (naming.own binder)) (truth_of (env binder)) (variable_value point (naming.own binder) ∙ known.1 ∙ bit_is (env binder) typed)
node_truth preds point reading naming C W F env (LetVar bound) plain is sorted formulas linear bits variables h sign =
    one_truth point sign (reading.bit bound.0) (truth_of (W bound.0 env)) (bits bound.0 (eqb_self bound.0) h ∙ bit_is (W bound.0 env) (sorted bound.0 (eqb_self bound.0) BoolSort h))
node_truth preds point reading naming C W F env (Pred pred args) plain is sorted formulas linear bits variables h sign = absurd (cc)
node_truth preds point reading naming C W F env (Op op args) plain is sorted formulas linear bits variables h sign =
    operation_truth point reading (λ part. W part env) F args sorted formulas linear sign op bits h
node_truth preds point reading naming C W F env (Divisible by arg) plain is sorted formulas linear bits variables h sign =
    let here = has_sort_is IntSort (reading.sorts arg.0) (sort_if_is (has_sort IntSort (reading.sorts arg.0)) BoolSort BoolSort h).0 in
    divisible_truth point by (reading.linear arg.0) (integer (W arg.0 env)) is
    (linear arg.0 (eqb_self arg.0) here ∙ number_is (W arg.0 env) (sorted arg.0 (eqb_self arg.0) IntSort here)) sign
node_truth preds point reading naming C W F env (Let bound body) plain is sorted formulas linear bits variables h sign =
    formulas body.0 (body_among bound body) (let_sort (list_all is_sorted (map (λ (b : TermId). reading.sorts b.0) bound)) (reading.sorts body.0) BoolSort h) sign
node_truth preds point reading naming C W F env (Forall first sorts body) plain is sorted formulas linear bits variables h sign = absurd (cc)
node_truth preds point reading naming C W F env (Exists first sorts body) plain is sorted formulas linear bits variables h sign = absurd (cc)

pub asked_part : (node : Node) (part : ℕ) → asks node part ≡ true → is_part part node ≡ true
asked_part (LetVar bound) part h = h
asked_part (Op Xor args) part h = h
asked_part (Op Equal args) part h = h
asked_part (Op Distinct args) part h = h
asked_part (Op Ite []) part h = absurd (cc)
asked_part (Op Ite (c ∷ rest)) part h = ap (λ (b : Bool). b || is_among part rest) h
asked_part _ part h = absurd (cc)

lt_of : (m n : ℕ) → m < n → nat_lt m n ≡ true
lt_of m n h = grind (arith, nat_tests)

from_lt : (m n : ℕ) → nat_lt m n ≡ true → m < n
from_lt m n h = grind (arith, nat_tests)

-- below n, where the point has the values of all variables and of the auxiliary ones below n
pub formula_value : (preds : List Declared) (nodes : List Node) → IsArena nodes → (top : ℕ) → IsPlain nodes top → EverySubterm (is_linear (constant_of nodes)) nodes top
    → (env : Environment) → IsTyped nodes top env → (naming : Naming) → NamesUnits (sort_of preds nodes) nodes top naming → NamesBits (sort_of preds nodes) nodes top naming
    → (point : List ℤ) → MeetsVariables nodes top env naming point → (n : ℕ) → MeetsBelow nodes top n env naming point
    → (id : ℕ) → id < length nodes → IsSubterm nodes top id → nat_lt id (n + 1) ≡ true → sort_of preds nodes id ≡ Some BoolSort → (sign : Bool)
    → truth point (formula (sort_of preds nodes) naming nodes id sign) ≡ same_truth sign (truth_of (value_of nodes id env))
formula_value preds nodes arena top plain linear env typed naming units named point variables n meets =
    by_parts nodes arena top (λ id. nat_lt id (n + 1) ≡ true → sort_of preds nodes id ≡ Some BoolSort → (sign : Bool)
    → truth point (formula (sort_of preds nodes) naming nodes id sign) ≡ same_truth sign (truth_of (value_of nodes id env)))
    (λ id node sub is below parts within sorted sign.
    let reading : TermForms = reading_of (sort_of preds nodes) naming nodes in
    let there : (part : ℕ) → is_part part node ≡ true → part < id = λ part has. part_below part id node below has in
    let here : id < length nodes = slice_get_within nodes id node is in
    let below_n : (part : ℕ) → is_part part node ≡ true → nat_lt part n ≡ true = λ part has. lt_of part n (omega (arith, there part has, from_lt id (n + 1) within)) in
    ap (truth point) (formula_at reading naming nodes id sign node is below)
    ∙ node_truth preds point reading naming (constant_of nodes) (value_of nodes) (told_formula reading naming nodes) env node
    (plain id node sub is) (linear id node sub is)
    (λ part has s at. value_sort preds nodes arena top plain env typed part (omega (arith, there part has)) (inside part node sub is has) s at)
    (λ part has at s. parts part has (lt_of part (n + 1) (omega (arith, from_lt part n (below_n part has)))) at s)
    (λ part has at. linear_value preds nodes arena top plain linear env typed naming units point variables n meets part (omega (arith, there part has)) (inside part node sub is has) (below_n part has) at)
    (λ part asked at.
    let has = asked_part node part asked in
    bit_value nodes arena top env naming point variables n meets part (omega (arith, there part has)) (inside part node sub is has) (below_n part has)
    (λ partner found open_bit. named id part node partner sub is found asked at open_bit))
    (λ binder sort same. (typed id binder sort sub (is ∙ ap (λ (m : Node). Some m) same), variables id binder sort sub (is ∙ ap (λ (m : Node). Some m) same)))
    (sym (sort_at preds nodes id node is below) ∙ sorted) sign
    ∙ ap (λ (v : Value). same_truth sign (truth_of v)) (sym (value_at nodes id node env is below)))
