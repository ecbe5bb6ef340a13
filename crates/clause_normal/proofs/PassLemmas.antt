-- Formulas all of whose literals pass a test.
use Rattle.std.proofs.Common.{◌≡◌, ℕ, List, [], ◌∷◌, ◌++◌, map, Bool, true, false, not, ◌&&◌, refl, ap, sym, ◌∙◌}
use Rattle.std.proofs.Math.Path.{fun_ext}
use Rattle.std.specs.Prelude.{Some, ℤ, pos, negsuc, nat_abs, ◌-ℤ◌, nat_lt, if◌then◌else◌}
use Rattle.std.specs.List.{AllByRecursion, list_all}
use denote.Hole.Carrier.{roll}
use Rattle.term_tree.specs.declared.node.TermId.{TermId}
use Rattle.term_tree.specs.declared.node.OpKind.{OpKind}
use Rattle.term_tree.specs.declared.node.OpKind.TheVariants.{Not, And as AndOp, Or as OrOp, Xor, Implies, Eq as Equal, Distinct, Ite, Add, Mul, Sub, Abs, Div as Quotient, Mod as Remainder, Le as AtMost, Lt, Ge, Gt}
use Rattle.term_tree.specs.declared.node.Node.{Node}
use Rattle.term_tree.specs.declared.node.Node.TheVariants.{Num, True as TrueTerm, False as FalseTerm, Var, LetVar, Pred, Op, Divisible, Let, Forall, Exists}
use Rattle.term_tree.specs.declared.sort.Sort.{Sort}
use Rattle.term_tree.specs.Subterms.{is_among, is_part}
use Rattle.term_tree.proofs.Public.{eqb_self}
use Rattle.term_tree.specs.Operators.{is_distinct}
use Rattle.lin_atoms.specs.Linear.{Linear}
use Rattle.lin_atoms.specs.Algebra.{added, negated, plus, scaled}
use Rattle.lin_atoms.specs.Truth.{is_below, lit_all, lit_is_below, variables_step}
use Rattle.lin_atoms.specs.declared.lit.Lit.{Lit as Literal}
use Rattle.lin_atoms.specs.declared.lit.Lit.TheVariants.{Le, Eq, Div, NDiv}
use Rattle.lin_atoms.specs.declared.form.Form.{Form}
use Rattle.lin_atoms.specs.declared.form.Form.TheOpen.{Form-F}
use Rattle.lin_atoms.specs.declared.form.Form.TheVariants.{True, False, Lit, rolls-And, rolls-Or}
use Rattle.lin_atoms.specs.declared.form.Form.TheViews.{And, Or, roll-Form}
use Rattle.lin_atoms.specs.declared.form.Form.TheFolds.{fold-Form, fold-roll-Form}
use Rattle.linear_terms.specs.Text.{are_truths}
use Rattle.linear_terms.specs.Linear.{Naming, less, sum_form, variable_form}
use Rattle.linear_terms.specs.Formula.{TermForms, choice, comparison, denied, eq, equal, implication_forms, is_one, joined, le, neighbours, node_formula, odd, complement_of, one_more, operation, pairs, related, same_bits, sides}
use Rattle.linear_terms.specs.Place.{abs_place, choice_place, integer_place, quotient_place, remainder_place, truth_place}
use Rattle.linear_terms.proofs.PartLemmas.{body_among, first_among, later_among}
use Rattle.clause_form.specs.System.{has_short_in_guard, has_short_guard, guard_step}

abbrev pub passes_step : (Literal → Bool) → Form-F Bool → Bool
passes_step t Form-F.True = true
passes_step t Form-F.False = true
passes_step t (Form-F.Lit lit) = t lit
passes_step t (Form-F.And parts) = list_all (λ b. b) parts
passes_step t (Form-F.Or parts) = list_all (λ b. b) parts

-- each literal passes
abbrev pub passes : (Literal → Bool) → Form → Bool
passes t = fold-Form Bool (passes_step t)

below_step_is : (test : ℕ → Bool) (x : Form-F Bool) → variables_step test x ≡ passes_step (lit_all test) x
below_step_is test Form-F.True = refl
below_step_is test Form-F.False = refl
below_step_is test (Form-F.Lit lit) = refl
below_step_is test (Form-F.And parts) = refl
below_step_is test (Form-F.Or parts) = refl

pub below_passes : (n : ℕ) (form : Form) → is_below n form ≡ passes (lit_is_below n) form
below_passes n form = ap (λ (step : Form-F Bool → Bool). fold-Form Bool step form) (fun_ext (below_step_is (λ v. nat_lt v n)))

short_step_is : (x : Form-F Bool) → guard_step x ≡ passes_step has_short_in_guard x
short_step_is Form-F.True = refl
short_step_is Form-F.False = refl
short_step_is (Form-F.Lit lit) = refl
short_step_is (Form-F.And parts) = refl
short_step_is (Form-F.Or parts) = refl

pub short_passes : (form : Form) → has_short_guard form ≡ passes has_short_in_guard form
short_passes form = ap (λ (step : Form-F Bool → Bool). fold-Form Bool step form) (fun_ext short_step_is)

pub passes-Lit : (t : Literal → Bool) (lit : Literal) → passes t (Lit lit) ≡ t lit
unfolding roll-Form roll
passes-Lit t lit = fold-roll-Form Bool (passes_step t) (Form-F.Lit lit)

pub passes-True : (t : Literal → Bool) → passes t True ≡ true
unfolding roll-Form roll
passes-True t = fold-roll-Form Bool (passes_step t) Form-F.True

pub passes-False : (t : Literal → Bool) → passes t False ≡ true
unfolding roll-Form roll
passes-False t = fold-roll-Form Bool (passes_step t) Form-F.False

all_map : {X : Type 0} (f : X → Bool) (xs : List X) → list_all (λ b. b) (map f xs) ≡ list_all f xs
all_map f [] = refl
all_map f (x ∷ xs) = ap (λ b. f x && b) (all_map f xs)

pub passes-And : (t : Literal → Bool) (parts : List Form) → passes t (And parts) ≡ list_all (passes t) parts
passes-And t parts = ap (passes t) (sym (rolls-And parts)) ∙ fold-roll-Form Bool (passes_step t) _ ∙ all_map (passes t) parts

pub passes-Or : (t : Literal → Bool) (parts : List Form) → passes t (Or parts) ≡ list_all (passes t) parts
passes-Or t parts = ap (passes t) (sym (rolls-Or parts)) ∙ fold-roll-Form Bool (passes_step t) _ ∙ all_map (passes t) parts

both_pass : (a b : Bool) → a ≡ true → b ≡ true → (a && b) ≡ true
both_pass true b x y = y
both_pass false b x y = absurd (cc)

first_pass : (a b : Bool) → (a && b) ≡ true → a ≡ true
first_pass true b h = refl
first_pass false b h = absurd (cc)

pub passes_and : (t : Literal → Bool) (parts : List Form) → list_all (passes t) parts ≡ true → passes t (And parts) ≡ true
passes_and t parts h = passes-And t parts ∙ h

pub passes_or : (t : Literal → Bool) (parts : List Form) → list_all (passes t) parts ≡ true → passes t (Or parts) ≡ true
passes_or t parts h = passes-Or t parts ∙ h

pub two_pass : (t : Literal → Bool) (a b : Form) → passes t a ≡ true → passes t b ≡ true → list_all (passes t) (a ∷ b ∷ []) ≡ true
two_pass t a b x y = both_pass (passes t a) (passes t b && true) x (both_pass (passes t b) true y refl)

pub three_pass : (t : Literal → Bool) (a b c : Form) → passes t a ≡ true → passes t b ≡ true → passes t c ≡ true → list_all (passes t) (a ∷ b ∷ c ∷ []) ≡ true
three_pass t a b c x y z = both_pass (passes t a) (list_all (passes t) (b ∷ c ∷ [])) x (two_pass t b c y z)

pub joined_pass : (t : Literal → Bool) (sign : Bool) (forms : List Form) → list_all (passes t) forms ≡ true → passes t (joined sign forms) ≡ true
joined_pass t true [] h = passes_and t [] refl
joined_pass t true (form ∷ []) h = first_pass (passes t form) true h
joined_pass t true (form ∷ next ∷ forms) h = passes_and t (form ∷ next ∷ forms) h
joined_pass t false [] h = passes_or t [] refl
joined_pass t false (form ∷ []) h = first_pass (passes t form) true h
joined_pass t false (form ∷ next ∷ forms) h = passes_or t (form ∷ next ∷ forms) h

-- what holds of all holds of all sides
second_all : {X : Type 0} (P : X → Type 0) (x : X) (xs : List X) → P x → AllByRecursion P xs → AllByRecursion (λ (p : X × X). P p.0 × P p.1) (map (λ y. (x, y)) xs)
second_all P x [] one all = tt
second_all P x (y ∷ xs) one all = ((one, all.0), second_all P x xs one all.1)

all_append : {X : Type 0} (P : X → Type 0) (xs ys : List X) → AllByRecursion P xs → AllByRecursion P ys → AllByRecursion P (xs ++ ys)
all_append P [] ys a b = b
all_append P (x ∷ xs) ys a b = (a.0, all_append P xs ys a.1 b)

pairs_all : {X : Type 0} (P : X → Type 0) (xs : List X) → AllByRecursion P xs → AllByRecursion (λ (p : X × X). P p.0 × P p.1) (pairs xs)
pairs_all P [] all = tt
pairs_all {X} P (x ∷ xs) all = all_append (λ (p : X × X). P p.0 × P p.1) (map (λ y. (x, y)) xs) (pairs xs) (second_all P x xs all.0 all.1) (pairs_all P xs all.1)

neighbours_all : {X : Type 0} (P : X → Type 0) (xs : List X) → AllByRecursion P xs → AllByRecursion (λ (p : X × X). P p.0 × P p.1) (neighbours xs)
neighbours_all P [] all = tt
neighbours_all P (x ∷ []) all = tt
neighbours_all P (x ∷ y ∷ xs) all = ((all.0, all.1.0), neighbours_all P (y ∷ xs) all.1)

sides_all : {X : Type 0} (P : X → Type 0) (op : OpKind) (xs : List X) → AllByRecursion P xs → AllByRecursion (λ (p : X × X). P p.0 × P p.1) (sides op xs)
sides_all P Distinct xs all = pairs_all P xs all
sides_all P _ xs all = neighbours_all P xs all

mapped_pass : {X : Type 0} (t : Literal → Bool) (f : X → Form) (P : X → Type 0) (xs : List X) → ((x : X) → P x → passes t (f x) ≡ true) → AllByRecursion P xs → list_all (passes t) (map f xs) ≡ true
mapped_pass t f P [] each all = refl
mapped_pass t f P (x ∷ xs) each all = both_pass (passes t (f x)) (list_all (passes t) (map f xs)) (each x all.0) (mapped_pass t f P xs each all.1)

among_all : (P : ℕ → Type 0) (ids : List TermId) → ((part : ℕ) → is_among part ids ≡ true → P part) → AllByRecursion (λ (a : TermId). P a.0) ids
among_all P [] each = tt
among_all P (id ∷ ids) each = (each id.0 (first_among id ids), among_all P ids (λ part has. each part (later_among part id ids has)))

map_all : {X Y : Type 0} (f : X → Y) (P : Y → Type 0) (xs : List X) → AllByRecursion (λ x. P (f x)) xs → AllByRecursion P (map f xs)
map_all f P [] all = tt
map_all f P (x ∷ xs) all = (all.0, map_all f P xs all.1)

module _ (t : Literal → Bool) (Ok : Linear → Type 0) (les : (l : Linear) → Ok l → t (Le l) ≡ true) (eqs : (l : Linear) → Ok l → t (Eq l) ≡ true)
    (negates : (l : Linear) → Ok l → Ok (negated l)) (adds : (a b : Linear) → Ok a → Ok b → Ok (added a b)) (moves : (l : Linear) (k : ℤ) → Ok l → Ok (plus l k))
    (scales : (k : ℤ) (l : Linear) → Ok l → Ok (scaled k l)) where
  pub le_passes : (l : Linear) → Ok l → passes t (le l) ≡ true
  le_passes l ok = passes-Lit t (Le l) ∙ les l ok

  eq_passes : (l : Linear) → Ok l → passes t (eq l) ≡ true
  eq_passes l ok = passes-Lit t (Eq l) ∙ eqs l ok

  less_ok : (a b : Linear) → Ok a → Ok b → Ok (less a b)
  less_ok a b x y = adds a (negated b) x (negates b y)

  minus_ok : (l : Linear) → Ok l → Ok (complement_of l)
  minus_ok l ok = moves (negated l) (pos 1) (negates l ok)

  equal_passes : (sign : Bool) (d : Linear) → Ok d → passes t (equal sign d) ≡ true
  equal_passes true d ok = eq_passes d ok
  equal_passes false d ok =
      passes_or t (le (one_more d) ∷ le (complement_of d) ∷ []) (two_pass t (le (one_more d)) (le (complement_of d)) (le_passes (one_more d) (moves d (pos 1) ok)) (le_passes (complement_of d) (minus_ok d ok)))

  related_passes : (op : OpKind) (sign : Bool) (d : Linear) → Ok d → passes t (related op sign d) ≡ true
  related_passes Equal sign d ok = equal_passes sign d ok
  related_passes Distinct sign d ok = equal_passes (not sign) d ok
  related_passes AtMost true d ok = le_passes d ok
  related_passes AtMost false d ok = le_passes (complement_of d) (minus_ok d ok)
  related_passes Lt true d ok = le_passes (one_more d) (moves d (pos 1) ok)
  related_passes Lt false d ok = le_passes (negated d) (negates d ok)
  related_passes Ge true d ok = le_passes (negated d) (negates d ok)
  related_passes Ge false d ok = le_passes (one_more d) (moves d (pos 1) ok)
  related_passes Gt true d ok = le_passes (complement_of d) (minus_ok d ok)
  related_passes Gt false d ok = le_passes d ok
  related_passes Not sign d ok = passes-False t
  related_passes AndOp sign d ok = passes-False t
  related_passes OrOp sign d ok = passes-False t
  related_passes Xor sign d ok = passes-False t
  related_passes Implies sign d ok = passes-False t
  related_passes Ite sign d ok = passes-False t
  related_passes Add sign d ok = passes-False t
  related_passes Mul sign d ok = passes-False t
  related_passes Sub sign d ok = passes-False t
  related_passes Abs sign d ok = passes-False t
  related_passes Quotient sign d ok = passes-False t
  related_passes Remainder sign d ok = passes-False t

  bits_pass : (sign : Bool) (a b : Linear) → Ok a → Ok b → passes t (same_bits sign a b) ≡ true
  bits_pass true a b x y = eq_passes (less a b) (less_ok a b x y)
  bits_pass false a b x y = eq_passes (plus (added a b) (negsuc 0)) (moves (added a b) (negsuc 0) (adds a b x y))

  comparison_passes : (op : OpKind) (truths sign : Bool) (bits forms : List Linear) → AllByRecursion Ok bits → AllByRecursion Ok forms → passes t (comparison op truths sign bits forms) ≡ true
  comparison_passes op true sign bits forms x y =
      joined_pass t sign (map (λ p. same_bits (if is_distinct op then not sign else sign) p.0 p.1) (sides op bits))
      (mapped_pass t (λ p. same_bits (if is_distinct op then not sign else sign) p.0 p.1) (λ (p : Linear × Linear). Ok p.0 × Ok p.1) (sides op bits)
      (λ p ok. bits_pass (if is_distinct op then not sign else sign) p.0 p.1 ok.0 ok.1) (sides_all Ok op bits x))
  comparison_passes op false sign bits forms x y =
      joined_pass t sign (map (λ p. related op sign (less p.0 p.1)) (sides op forms))
      (mapped_pass t (λ p. related op sign (less p.0 p.1)) (λ (p : Linear × Linear). Ok p.0 × Ok p.1) (sides op forms)
      (λ p ok. related_passes op sign (less p.0 p.1) (less_ok p.0 p.1 ok.0 ok.1)) (sides_all Ok op forms y))

  one_passes : (sign : Bool) (bit : Linear) → Ok bit → passes t (is_one sign bit) ≡ true
  one_passes true bit ok = le_passes (complement_of bit) (minus_ok bit ok)
  one_passes false bit ok = le_passes bit ok

  -- parts that pass
  abbrev pub PartsPass : (ℕ → Bool → Form) → (ℕ → Bool) → Type 0
  PartsPass p among = (part : ℕ) (sign : Bool) → among part ≡ true → passes t (p part sign) ≡ true

  implied_pass : (p : ℕ → Bool → Form) (sign : Bool) (ids : List TermId) → PartsPass p (λ part. is_among part ids) → list_all (passes t) (implication_forms p sign ids) ≡ true
  implied_pass p sign [] parts = refl
  implied_pass p sign (id ∷ []) parts = both_pass (passes t (p id.0 sign)) true (parts id.0 sign (first_among id [])) refl
  implied_pass p sign (id ∷ next ∷ ids) parts =
      both_pass (passes t (p id.0 (not sign))) (list_all (passes t) (implication_forms p sign (next ∷ ids))) (parts id.0 (not sign) (first_among id (next ∷ ids)))
      (implied_pass p sign (next ∷ ids) (λ part s has. parts part s (later_among part id (next ∷ ids) has)))

  denied_passes : (p : ℕ → Bool → Form) (sign : Bool) (ids : List TermId) → PartsPass p (λ part. is_among part ids) → passes t (denied p sign ids) ≡ true
  denied_passes p sign [] parts = passes-False t
  denied_passes p sign (id ∷ ids) parts = parts id.0 (not sign) (first_among id ids)

  choice_passes : (p : ℕ → Bool → Form) (bit : ℕ → Linear) (sign : Bool) (ids : List TermId) → PartsPass p (λ part. is_among part ids) → ((part : ℕ) → is_among part ids ≡ true → Ok (bit part))
      → passes t (choice p bit sign ids) ≡ true
  choice_passes p bit sign [] parts bits = passes-False t
  choice_passes p bit sign (c ∷ []) parts bits = passes-False t
  choice_passes p bit sign (c ∷ s ∷ []) parts bits = passes-False t
  choice_passes p bit sign (c ∷ s ∷ r ∷ []) parts bits =
      let one = bits c.0 (first_among c (s ∷ r ∷ [])) in
      let yes_part = parts s.0 sign (later_among s.0 c (s ∷ r ∷ []) (first_among s (r ∷ []))) in
      let no_part = parts r.0 sign (later_among r.0 c (s ∷ r ∷ []) (later_among r.0 s (r ∷ []) (first_among r []))) in
      passes_and t (Or (le (bit c.0) ∷ p s.0 sign ∷ []) ∷ Or (le (complement_of (bit c.0)) ∷ p r.0 sign ∷ []) ∷ [])
      (two_pass t (Or (le (bit c.0) ∷ p s.0 sign ∷ [])) (Or (le (complement_of (bit c.0)) ∷ p r.0 sign ∷ []))
      (passes_or t (le (bit c.0) ∷ p s.0 sign ∷ []) (two_pass t (le (bit c.0)) (p s.0 sign) (le_passes (bit c.0) one) yes_part))
      (passes_or t (le (complement_of (bit c.0)) ∷ p r.0 sign ∷ []) (two_pass t (le (complement_of (bit c.0))) (p r.0 sign) (le_passes (complement_of (bit c.0)) (minus_ok (bit c.0) one)) no_part)))
  choice_passes p bit sign (c ∷ s ∷ r ∷ d ∷ ids) parts bits = passes-False t

  -- what divides, or doesn't
  abbrev pub Divides : ℕ → Linear → Type 0
  Divides d l = (t (Div d l) ≡ true) × (t (NDiv d l) ≡ true)

  odd_passes : (sign : Bool) (sum : Linear) → Divides 2 sum → passes t (odd sign sum) ≡ true
  odd_passes true sum h = passes-Lit t (NDiv 2 sum) ∙ h.1
  odd_passes false sum h = passes-Lit t (Div 2 sum) ∙ h.0

  module _ (reading : TermForms) (naming : Naming) (p : ℕ → Bool → Form) where
    by_sides : (op : OpKind) (ids : List TermId) (sign : Bool) → ((part : ℕ) → is_among part ids ≡ true → Ok (reading.bit part)) → ((part : ℕ) → is_among part ids ≡ true → Ok (reading.linear part))
        → passes t (comparison op (are_truths reading.sorts ids) sign (map (λ a. reading.bit a.0) ids) (map (λ a. reading.linear a.0) ids)) ≡ true
    by_sides op ids sign bits forms =
        comparison_passes op (are_truths reading.sorts ids) sign (map (λ a. reading.bit a.0) ids) (map (λ a. reading.linear a.0) ids)
        (map_all (λ (a : TermId). reading.bit a.0) Ok ids (among_all (λ part. Ok (reading.bit part)) ids bits))
        (map_all (λ (a : TermId). reading.linear a.0) Ok ids (among_all (λ part. Ok (reading.linear part)) ids forms))

    operation_passes : (op : OpKind) (ids : List TermId) (sign : Bool) → PartsPass p (λ part. is_among part ids) → ((part : ℕ) → is_among part ids ≡ true → Ok (reading.bit part))
        → ((part : ℕ) → is_among part ids ≡ true → Ok (reading.linear part)) → (op ≡ Xor → Divides 2 (sum_form (map (λ a. reading.bit a.0) ids))) → passes t (operation reading p op ids sign) ≡ true
    operation_passes Not ids sign parts bits forms odds = denied_passes p sign ids parts
    operation_passes AndOp ids sign parts bits forms odds =
        joined_pass t sign (map (λ a. p a.0 sign) ids) (mapped_pass t (λ a. p a.0 sign) (λ (a : TermId). passes t (p a.0 sign) ≡ true) ids (λ a h. h) (among_all (λ part. passes t (p part sign) ≡ true) ids (λ part has. parts part sign has)))
    operation_passes OrOp ids sign parts bits forms odds =
        joined_pass t (not sign) (map (λ a. p a.0 sign) ids) (mapped_pass t (λ a. p a.0 sign) (λ (a : TermId). passes t (p a.0 sign) ≡ true) ids (λ a h. h) (among_all (λ part. passes t (p part sign) ≡ true) ids (λ part has. parts part sign has)))
    operation_passes Implies ids sign parts bits forms odds = joined_pass t (not sign) (implication_forms p sign ids) (implied_pass p sign ids parts)
    operation_passes Xor ids sign parts bits forms odds = odd_passes sign (sum_form (map (λ (a : TermId). reading.bit a.0) ids)) (odds refl)
    operation_passes Ite ids sign parts bits forms odds = choice_passes p reading.bit sign ids parts bits
    operation_passes Equal ids sign parts bits forms odds = by_sides Equal ids sign bits forms
    operation_passes Distinct ids sign parts bits forms odds = by_sides Distinct ids sign bits forms
    operation_passes AtMost ids sign parts bits forms odds = by_sides AtMost ids sign bits forms
    operation_passes Lt ids sign parts bits forms odds = by_sides Lt ids sign bits forms
    operation_passes Ge ids sign parts bits forms odds = by_sides Ge ids sign bits forms
    operation_passes Gt ids sign parts bits forms odds = by_sides Gt ids sign bits forms
    operation_passes Add ids sign parts bits forms odds = by_sides Add ids sign bits forms
    operation_passes Mul ids sign parts bits forms odds = by_sides Mul ids sign bits forms
    operation_passes Sub ids sign parts bits forms odds = by_sides Sub ids sign bits forms
    operation_passes Abs ids sign parts bits forms odds = by_sides Abs ids sign bits forms
    operation_passes Quotient ids sign parts bits forms odds = by_sides Quotient ids sign bits forms
    operation_passes Remainder ids sign parts bits forms odds = by_sides Remainder ids sign bits forms

    -- what is asked of a node's divisibilities
    abbrev pub NodeDivides : Node → Type 0
    NodeDivides (Op Xor ids) = Divides 2 (sum_form (map (λ a. reading.bit a.0) ids))
    NodeDivides (Divisible by arg) = Divides (nat_abs by) (reading.linear arg.0)
    NodeDivides _ = Unit {0}

    odd_of : (op : OpKind) (ids : List TermId) → NodeDivides (Op op ids) → op ≡ Xor → Divides 2 (sum_form (map (λ a. reading.bit a.0) ids))
    odd_of Xor ids h e = h
    odd_of Not ids h e = absurd (cc)
    odd_of AndOp ids h e = absurd (cc)
    odd_of OrOp ids h e = absurd (cc)
    odd_of Implies ids h e = absurd (cc)
    odd_of Ite ids h e = absurd (cc)
    odd_of Equal ids h e = absurd (cc)
    odd_of Distinct ids h e = absurd (cc)
    odd_of AtMost ids h e = absurd (cc)
    odd_of Lt ids h e = absurd (cc)
    odd_of Ge ids h e = absurd (cc)
    odd_of Gt ids h e = absurd (cc)
    odd_of Add ids h e = absurd (cc)
    odd_of Mul ids h e = absurd (cc)
    odd_of Sub ids h e = absurd (cc)
    odd_of Abs ids h e = absurd (cc)
    odd_of Quotient ids h e = absurd (cc)
    odd_of Remainder ids h e = absurd (cc)

    chosen_passes : (b : Bool) (x y : Form) → passes t x ≡ true → passes t y ≡ true → passes t (if b then x else y) ≡ true
    chosen_passes true x y h k = h
    chosen_passes false x y h k = k

    -- the formula of a node
    pub node_passes : (node : Node) (sign : Bool) → PartsPass p (λ part. is_part part node) → ((part : ℕ) → is_part part node ≡ true → Ok (reading.bit part))
        → ((part : ℕ) → is_part part node ≡ true → Ok (reading.linear part)) → ((binder : ℕ) (sort : Sort) → node ≡ Var binder sort → Ok (variable_form (naming.own binder))) → NodeDivides node
        → passes t (node_formula reading naming p node sign) ≡ true
    node_passes (Num n) sign parts bits forms own divides = passes-False t
    node_passes TrueTerm sign parts bits forms own divides = chosen_passes sign True False (passes-True t) (passes-False t)
    node_passes FalseTerm sign parts bits forms own divides = chosen_passes sign False True (passes-False t) (passes-True t)
    node_passes (Var binder sort) sign parts bits forms own divides = one_passes sign (variable_form (naming.own binder)) (own binder sort refl)
    node_passes (LetVar bound) sign parts bits forms own divides = one_passes sign (reading.bit bound.0) (bits bound.0 (eqb_self bound.0))
    node_passes (Pred pred args) sign parts bits forms own divides = passes-False t
    node_passes (Op op args) sign parts bits forms own divides = operation_passes op args sign parts bits forms (odd_of op args divides)
    node_passes (Divisible by arg) sign parts bits forms own divides =
        chosen_passes sign (Lit (Div (nat_abs by) (reading.linear arg.0))) (Lit (NDiv (nat_abs by) (reading.linear arg.0)))
        (passes-Lit t (Div (nat_abs by) (reading.linear arg.0)) ∙ divides.0) (passes-Lit t (NDiv (nat_abs by) (reading.linear arg.0)) ∙ divides.1)
    node_passes (Let bound body) sign parts bits forms own divides = parts body.0 sign (body_among bound body)
    node_passes (Forall first kinds body) sign parts bits forms own divides = passes-False t
    node_passes (Exists first kinds body) sign parts bits forms own divides = passes-False t

  -- what determines an auxiliary variable
  pub truth_place_passes : (v : Linear) (holds fails : Form) → Ok v → passes t holds ≡ true → passes t fails ≡ true → passes t (truth_place v holds fails) ≡ true
  truth_place_passes v holds fails ok x y =
      passes_and t (le (negated v) ∷ le (plus v (negsuc 0)) ∷ Or (And (le (complement_of v) ∷ holds ∷ []) ∷ And (le v ∷ fails ∷ []) ∷ []) ∷ [])
      (three_pass t (le (negated v)) (le (plus v (negsuc 0))) (Or (And (le (complement_of v) ∷ holds ∷ []) ∷ And (le v ∷ fails ∷ []) ∷ []))
      (le_passes (negated v) (negates v ok)) (le_passes (plus v (negsuc 0)) (moves v (negsuc 0) ok))
      (passes_or t (And (le (complement_of v) ∷ holds ∷ []) ∷ And (le v ∷ fails ∷ []) ∷ [])
      (two_pass t (And (le (complement_of v) ∷ holds ∷ [])) (And (le v ∷ fails ∷ []))
      (passes_and t (le (complement_of v) ∷ holds ∷ []) (two_pass t (le (complement_of v)) holds (le_passes (complement_of v) (minus_ok v ok)) x))
      (passes_and t (le v ∷ fails ∷ []) (two_pass t (le v) fails (le_passes v ok) y)))))

  choice_place_passes : (v bit s r : Linear) → Ok v → Ok bit → Ok s → Ok r → passes t (choice_place v bit s r) ≡ true
  choice_place_passes v bit s r ov ob os or =
      passes_or t (And (le (complement_of bit) ∷ eq (less v s) ∷ []) ∷ And (le bit ∷ eq (less v r) ∷ []) ∷ [])
      (two_pass t (And (le (complement_of bit) ∷ eq (less v s) ∷ [])) (And (le bit ∷ eq (less v r) ∷ []))
      (passes_and t (le (complement_of bit) ∷ eq (less v s) ∷ []) (two_pass t (le (complement_of bit)) (eq (less v s)) (le_passes (complement_of bit) (minus_ok bit ob)) (eq_passes (less v s) (less_ok v s ov os))))
      (passes_and t (le bit ∷ eq (less v r) ∷ []) (two_pass t (le bit) (eq (less v r)) (le_passes bit ob) (eq_passes (less v r) (less_ok v r ov or)))))

  abs_place_passes : (v l : Linear) → Ok v → Ok l → passes t (abs_place v l) ≡ true
  abs_place_passes v l ov ol =
      passes_or t (And (le (negated l) ∷ eq (less v l) ∷ []) ∷ And (le (one_more l) ∷ eq (added v l) ∷ []) ∷ [])
      (two_pass t (And (le (negated l) ∷ eq (less v l) ∷ [])) (And (le (one_more l) ∷ eq (added v l) ∷ []))
      (passes_and t (le (negated l) ∷ eq (less v l) ∷ []) (two_pass t (le (negated l)) (eq (less v l)) (le_passes (negated l) (negates l ol)) (eq_passes (less v l) (less_ok v l ov ol))))
      (passes_and t (le (one_more l) ∷ eq (added v l) ∷ []) (two_pass t (le (one_more l)) (eq (added v l)) (le_passes (one_more l) (moves l (pos 1) ol)) (eq_passes (added v l) (adds v l ov ol)))))

  quotient_place_passes : (v l : Linear) (n : ℤ) → Ok v → Ok l → passes t (quotient_place v l n) ≡ true
  quotient_place_passes v l n ov ol =
      passes_and t (le (less (scaled n v) l) ∷ le (plus (less l (scaled n v)) (pos 1 -ℤ pos (nat_abs n))) ∷ [])
      (two_pass t (le (less (scaled n v) l)) (le (plus (less l (scaled n v)) (pos 1 -ℤ pos (nat_abs n))))
      (le_passes (less (scaled n v) l) (less_ok (scaled n v) l (scales n v ov) ol))
      (le_passes (plus (less l (scaled n v)) (pos 1 -ℤ pos (nat_abs n))) (moves (less l (scaled n v)) (pos 1 -ℤ pos (nat_abs n)) (less_ok l (scaled n v) ol (scales n v ov)))))

  remainder_place_passes : (v l : Linear) (n : ℤ) → Ok v → Divides (nat_abs n) (less l v) → passes t (remainder_place v l n) ≡ true
  remainder_place_passes v l n ov h =
      passes_and t (le (negated v) ∷ le (plus v (pos 1 -ℤ pos (nat_abs n))) ∷ Lit (Div (nat_abs n) (less l v)) ∷ [])
      (three_pass t (le (negated v)) (le (plus v (pos 1 -ℤ pos (nat_abs n)))) (Lit (Div (nat_abs n) (less l v)))
      (le_passes (negated v) (negates v ov)) (le_passes (plus v (pos 1 -ℤ pos (nat_abs n))) (moves v (pos 1 -ℤ pos (nat_abs n)) ov)) (passes-Lit t (Div (nat_abs n) (less l v)) ∙ h.0))

  module _ (bit linear : ℕ → Linear) (constant : ℕ → ℤ) (v : Linear) (own : ℕ) (ov : Ok v) (whole : Ok (linear own)) where
    other_passes : passes t (eq (less v (linear own))) ≡ true
    other_passes = eq_passes (less v (linear own)) (less_ok v (linear own) ov whole)

    -- the parts of an operation
    abbrev pub PartsOk : List TermId → Type 0
    PartsOk ids = (part : ℕ) → is_among part ids ≡ true → Ok (bit part) × Ok (linear part) × ((d : ℕ) → Divides d (less (linear part) v))

    ite_passes : (ids : List TermId) → PartsOk ids → passes t (integer_place bit linear constant v own (Some (Op Ite ids))) ≡ true
    ite_passes [] parts = other_passes
    ite_passes (c ∷ []) parts = other_passes
    ite_passes (c ∷ s ∷ []) parts = other_passes
    ite_passes (c ∷ s ∷ r ∷ []) parts =
        let first = parts c.0 (first_among c (s ∷ r ∷ [])) in
        let second = parts s.0 (later_among s.0 c (s ∷ r ∷ []) (first_among s (r ∷ []))) in
        let third = parts r.0 (later_among r.0 c (s ∷ r ∷ []) (later_among r.0 s (r ∷ []) (first_among r []))) in
        choice_place_passes v (bit c.0) (linear s.0) (linear r.0) ov first.0 second.1 third.1
    ite_passes (c ∷ s ∷ r ∷ d ∷ ids) parts = other_passes

    abs_passes : (ids : List TermId) → PartsOk ids → passes t (integer_place bit linear constant v own (Some (Op Abs ids))) ≡ true
    abs_passes [] parts = other_passes
    abs_passes (a ∷ []) parts = let first = parts a.0 (first_among a []) in abs_place_passes v (linear a.0) ov first.1
    abs_passes (a ∷ b ∷ ids) parts = other_passes

    quotient_passes : (ids : List TermId) → PartsOk ids → passes t (integer_place bit linear constant v own (Some (Op Quotient ids))) ≡ true
    quotient_passes [] parts = other_passes
    quotient_passes (a ∷ []) parts = other_passes
    quotient_passes (a ∷ n ∷ []) parts = let first = parts a.0 (first_among a (n ∷ [])) in quotient_place_passes v (linear a.0) (constant n.0) ov first.1
    quotient_passes (a ∷ n ∷ c ∷ ids) parts = other_passes

    remainder_passes : (ids : List TermId) → PartsOk ids → passes t (integer_place bit linear constant v own (Some (Op Remainder ids))) ≡ true
    remainder_passes [] parts = other_passes
    remainder_passes (a ∷ []) parts = other_passes
    remainder_passes (a ∷ n ∷ []) parts = let first = parts a.0 (first_among a (n ∷ [])) in remainder_place_passes v (linear a.0) (constant n.0) ov (first.2 (nat_abs (constant n.0)))
    remainder_passes (a ∷ n ∷ c ∷ ids) parts = other_passes

    pub integer_passes : (node : Node) → ((part : ℕ) → is_part part node ≡ true → Ok (bit part) × Ok (linear part) × ((d : ℕ) → Divides d (less (linear part) v)))
        → passes t (integer_place bit linear constant v own (Some node)) ≡ true
    integer_passes (Op Ite ids) parts = ite_passes ids parts
    integer_passes (Op Abs ids) parts = abs_passes ids parts
    integer_passes (Op Quotient ids) parts = quotient_passes ids parts
    integer_passes (Op Remainder ids) parts = remainder_passes ids parts
    integer_passes _ parts = other_passes
