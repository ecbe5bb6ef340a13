-- Sorts and constants that agree on the subterms of a term give the same formulas and forms of places.
use Rattle.std.proofs.Common.{◌≡◌, ℕ, zero, suc, ◌+◌, ◌<◌, List, [], ◌∷◌, length, map, Bool, true, false, not, refl, ap, sym, ◌∙◌, arith}
use Rattle.std.specs.Prelude.{slice_get, Option, Some, unwrap_or, ℤ, pos, nat_abs, if◌then◌else◌}
use Rattle.term_tree.specs.declared.sort.Sort.TheVariants.{Bool as Truth}
use Rattle.term_tree.specs.declared.node.TermId.{TermId}
use Rattle.term_tree.specs.declared.node.OpKind.{OpKind}
use Rattle.term_tree.specs.declared.node.OpKind.TheVariants.{Not, And as AndOp, Or as OrOp, Xor, Implies, Eq as Equal, Distinct, Ite, Add, Mul, Sub, Abs, Div as Quotient, Mod as Remainder, Le as AtMost, Lt, Ge, Gt}
use Rattle.term_tree.specs.declared.node.Node.{Node}
use Rattle.term_tree.specs.declared.node.Node.TheVariants.{Num, True, False, Var, LetVar, Pred, Op, Divisible, Let, Forall, Exists}
use Rattle.term_tree.specs.Arena.{IsArena, has_parts_below}
use Rattle.term_tree.specs.Constants.{constant_of}
use Rattle.term_tree.specs.Sorts.{has_sort}
use Rattle.term_tree.specs.Subterms.{IsSubterm, inside, is_among, is_part}
use Rattle.term_tree.proofs.Public.{arena_below, eqb_self, part_below, there_is}
use Rattle.lin_atoms.specs.Linear.{Linear}
use Rattle.lin_atoms.specs.declared.lit.Lit.TheVariants.{Div, NDiv}
use Rattle.lin_atoms.specs.declared.form.Form.{Form}
use Rattle.lin_atoms.specs.declared.form.Form.TheVariants.{Lit}
use Rattle.lin_atoms.specs.declared.form.Form.TheViews.{And, Or}
use Rattle.linear_terms.specs.Text.{Sorting, are_truths, is_truth}
use Rattle.linear_terms.specs.Linear.{Naming, bit_of, less, linear_of, variable_form}
use Rattle.linear_terms.specs.Formula.{choice, comparison, denied, eq, formula, implication_forms, joined, le, node_formula, complement_of, operation}
use Rattle.linear_terms.specs.Place.{abs_place, choice_place, constant_value, integer_place, place_form, quotient_place, remainder_place, truth_place}
use Rattle.linear_terms.proofs.PartLemmas.{body_among, first_among, later_among}
use Rattle.linear_terms.proofs.Public.{formula_at}
use Rattle.term_forms.specs.Found.{form_by}
use Rattle.term_forms.proofs.LegalLemmas.{forms_same}
use Rattle.term_formulas.specs.Written.{formula_by, place_form_by, reading_by, value_by}

maps_same : {X : Type 0} (f g : ℕ → X) (ids : List TermId) → ((part : ℕ) → is_among part ids ≡ true → f part ≡ g part) → map (λ (a : TermId). f a.0) ids ≡ map (λ (a : TermId). g a.0) ids
maps_same f g [] same = refl
maps_same {X} f g (id ∷ ids) same =
    ap (λ (x : X). x ∷ map (λ (a : TermId). f a.0) ids) (same id.0 (first_among id ids))
    ∙ ap (λ (xs : List X). g id.0 ∷ xs) (maps_same f g ids (λ part has. same part (later_among part id ids has)))

module _ (bit : ℕ → Linear) (S T : Sorting) (L M : ℕ → Linear) (naming : Naming) (p q : ℕ → Bool → Form) where
  -- parts of which the same is told
  abbrev SameForms : (ℕ → Bool) → Type 0
  SameForms among = (part : ℕ) (sign : Bool) → among part ≡ true → p part sign ≡ q part sign

  implied_same : (sign : Bool) (ids : List TermId) → SameForms (λ part. is_among part ids) → implication_forms p sign ids ≡ implication_forms q sign ids
  implied_same sign [] same = refl
  implied_same sign (id ∷ []) same = ap (λ (f : Form). f ∷ []) (same id.0 sign (first_among id []))
  implied_same sign (id ∷ next ∷ ids) same =
      ap (λ (f : Form). f ∷ implication_forms p sign (next ∷ ids)) (same id.0 (not sign) (first_among id (next ∷ ids)))
      ∙ ap (λ (fs : List Form). q id.0 (not sign) ∷ fs) (implied_same sign (next ∷ ids) (λ part s has. same part s (later_among part id (next ∷ ids) has)))

  denied_same : (sign : Bool) (ids : List TermId) → SameForms (λ part. is_among part ids) → denied p sign ids ≡ denied q sign ids
  denied_same sign [] same = refl
  denied_same sign (id ∷ ids) same = same id.0 (not sign) (first_among id ids)

  choice_same : (sign : Bool) (ids : List TermId) → SameForms (λ part. is_among part ids) → choice p bit sign ids ≡ choice q bit sign ids
  choice_same sign [] same = refl
  choice_same sign (c ∷ []) same = refl
  choice_same sign (c ∷ s ∷ []) same = refl
  choice_same sign (c ∷ s ∷ r ∷ []) same =
      ap (λ (f : Form). And (Or (le (bit c.0) ∷ f ∷ []) ∷ Or (le (complement_of (bit c.0)) ∷ p r.0 sign ∷ []) ∷ []))
      (same s.0 sign (later_among s.0 c (s ∷ r ∷ []) (first_among s (r ∷ []))))
      ∙ ap (λ (f : Form). And (Or (le (bit c.0) ∷ q s.0 sign ∷ []) ∷ Or (le (complement_of (bit c.0)) ∷ f ∷ []) ∷ []))
      (same r.0 sign (later_among r.0 c (s ∷ r ∷ []) (later_among r.0 s (r ∷ []) (first_among r []))))
  choice_same sign (c ∷ s ∷ r ∷ d ∷ ids) same = refl

  truths_same : (ids : List TermId) → ((part : ℕ) → is_among part ids ≡ true → S part ≡ T part) → are_truths S ids ≡ are_truths T ids
  truths_same [] same = refl
  truths_same (id ∷ ids) same = ap (has_sort Truth) (same id.0 (first_among id ids))

  compared_same : (op : OpKind) (sign : Bool) (ids : List TermId) → ((part : ℕ) → is_among part ids ≡ true → S part ≡ T part) → ((part : ℕ) → is_among part ids ≡ true → L part ≡ M part)
      → comparison op (are_truths S ids) sign (map (λ a. bit a.0) ids) (map (λ a. L a.0) ids) ≡ comparison op (are_truths T ids) sign (map (λ a. bit a.0) ids) (map (λ a. M a.0) ids)
  compared_same op sign ids sorts linears =
      ap (λ (b : Bool). comparison op b sign (map (λ (a : TermId). bit a.0) ids) (map (λ (a : TermId). L a.0) ids)) (truths_same ids sorts)
      ∙ ap (λ (fs : List Linear). comparison op (are_truths T ids) sign (map (λ (a : TermId). bit a.0) ids) fs) (maps_same L M ids linears)

  operation_same : (op : OpKind) (ids : List TermId) (sign : Bool) → ((part : ℕ) → is_among part ids ≡ true → S part ≡ T part) → ((part : ℕ) → is_among part ids ≡ true → L part ≡ M part)
      → SameForms (λ part. is_among part ids)
      → operation (record { sorts = S; bit = bit; linear = L }) p op ids sign ≡ operation (record { sorts = T; bit = bit; linear = M }) q op ids sign
  operation_same Not ids sign sorts linears forms = denied_same sign ids forms
  operation_same AndOp ids sign sorts linears forms = ap (joined sign) (maps_same (λ part. p part sign) (λ part. q part sign) ids (λ part has. forms part sign has))
  operation_same OrOp ids sign sorts linears forms = ap (joined (not sign)) (maps_same (λ part. p part sign) (λ part. q part sign) ids (λ part has. forms part sign has))
  operation_same Implies ids sign sorts linears forms = ap (joined (not sign)) (implied_same sign ids forms)
  operation_same Xor ids sign sorts linears forms = refl
  operation_same Ite ids sign sorts linears forms = choice_same sign ids forms
  operation_same Equal ids sign sorts linears forms = compared_same Equal sign ids sorts linears
  operation_same Distinct ids sign sorts linears forms = compared_same Distinct sign ids sorts linears
  operation_same AtMost ids sign sorts linears forms = compared_same AtMost sign ids sorts linears
  operation_same Lt ids sign sorts linears forms = compared_same Lt sign ids sorts linears
  operation_same Ge ids sign sorts linears forms = compared_same Ge sign ids sorts linears
  operation_same Gt ids sign sorts linears forms = compared_same Gt sign ids sorts linears
  operation_same Add ids sign sorts linears forms = compared_same Add sign ids sorts linears
  operation_same Mul ids sign sorts linears forms = compared_same Mul sign ids sorts linears
  operation_same Sub ids sign sorts linears forms = compared_same Sub sign ids sorts linears
  operation_same Abs ids sign sorts linears forms = compared_same Abs sign ids sorts linears
  operation_same Quotient ids sign sorts linears forms = compared_same Quotient sign ids sorts linears
  operation_same Remainder ids sign sorts linears forms = compared_same Remainder sign ids sorts linears

  node_same : (node : Node) (sign : Bool) → ((part : ℕ) → is_part part node ≡ true → S part ≡ T part) → ((part : ℕ) → is_part part node ≡ true → L part ≡ M part)
      → SameForms (λ part. is_part part node)
      → node_formula (record { sorts = S; bit = bit; linear = L }) naming p node sign ≡ node_formula (record { sorts = T; bit = bit; linear = M }) naming q node sign
  node_same (Op op args) sign sorts linears forms = operation_same op args sign sorts linears forms
  node_same (Divisible by arg) sign sorts linears forms =
      ap (λ (l : Linear). if sign then Lit (Div (nat_abs by) l) else Lit (NDiv (nat_abs by) l)) (linears arg.0 (eqb_self arg.0))
  node_same (Let bound body) sign sorts linears forms = forms body.0 sign (body_among bound body)
  node_same (Num n) sign sorts linears forms = refl
  node_same True sign sorts linears forms = refl
  node_same False sign sorts linears forms = refl
  node_same (Var binder kind) sign sorts linears forms = refl
  node_same (LetVar bound) sign sorts linears forms = refl
  node_same (Pred pred args) sign sorts linears forms = refl
  node_same (Forall first kinds body) sign sorts linears forms = refl
  node_same (Exists first kinds body) sign sorts linears forms = refl

-- integer places
module _ (bit : ℕ → Linear) (L M : ℕ → Linear) (C D : ℕ → ℤ) (v : Linear) (own : ℕ) where
  choices_same : (ids : List TermId) → L own ≡ M own → ((part : ℕ) → is_among part ids ≡ true → L part ≡ M part)
      → integer_place bit L C v own (Some (Op Ite ids)) ≡ integer_place bit M D v own (Some (Op Ite ids))
  choices_same [] whole linears = ap (λ (l : Linear). eq (less v l)) whole
  choices_same (c ∷ []) whole linears = ap (λ (l : Linear). eq (less v l)) whole
  choices_same (c ∷ s ∷ []) whole linears = ap (λ (l : Linear). eq (less v l)) whole
  choices_same (c ∷ s ∷ r ∷ []) whole linears =
      ap (λ (l : Linear). choice_place v (bit c.0) l (L r.0)) (linears s.0 (later_among s.0 c (s ∷ r ∷ []) (first_among s (r ∷ []))))
      ∙ ap (λ (l : Linear). choice_place v (bit c.0) (M s.0) l) (linears r.0 (later_among r.0 c (s ∷ r ∷ []) (later_among r.0 s (r ∷ []) (first_among r []))))
  choices_same (c ∷ s ∷ r ∷ d ∷ ids) whole linears = ap (λ (l : Linear). eq (less v l)) whole

  magnitudes_same : (ids : List TermId) → L own ≡ M own → ((part : ℕ) → is_among part ids ≡ true → L part ≡ M part)
      → integer_place bit L C v own (Some (Op Abs ids)) ≡ integer_place bit M D v own (Some (Op Abs ids))
  magnitudes_same [] whole linears = ap (λ (l : Linear). eq (less v l)) whole
  magnitudes_same (a ∷ []) whole linears = ap (λ (l : Linear). abs_place v l) (linears a.0 (first_among a []))
  magnitudes_same (a ∷ b ∷ ids) whole linears = ap (λ (l : Linear). eq (less v l)) whole

  quotients_same : (ids : List TermId) → L own ≡ M own → ((part : ℕ) → is_among part ids ≡ true → L part ≡ M part) → ((part : ℕ) → is_among part ids ≡ true → C part ≡ D part)
      → integer_place bit L C v own (Some (Op Quotient ids)) ≡ integer_place bit M D v own (Some (Op Quotient ids))
  quotients_same [] whole linears constants = ap (λ (l : Linear). eq (less v l)) whole
  quotients_same (a ∷ []) whole linears constants = ap (λ (l : Linear). eq (less v l)) whole
  quotients_same (a ∷ n ∷ []) whole linears constants =
      ap (λ (l : Linear). quotient_place v l (C n.0)) (linears a.0 (first_among a (n ∷ [])))
      ∙ ap (λ (k : ℤ). quotient_place v (M a.0) k) (constants n.0 (later_among n.0 a (n ∷ []) (first_among n [])))
  quotients_same (a ∷ n ∷ c ∷ ids) whole linears constants = ap (λ (l : Linear). eq (less v l)) whole

  remainders_same : (ids : List TermId) → L own ≡ M own → ((part : ℕ) → is_among part ids ≡ true → L part ≡ M part) → ((part : ℕ) → is_among part ids ≡ true → C part ≡ D part)
      → integer_place bit L C v own (Some (Op Remainder ids)) ≡ integer_place bit M D v own (Some (Op Remainder ids))
  remainders_same [] whole linears constants = ap (λ (l : Linear). eq (less v l)) whole
  remainders_same (a ∷ []) whole linears constants = ap (λ (l : Linear). eq (less v l)) whole
  remainders_same (a ∷ n ∷ []) whole linears constants =
      ap (λ (l : Linear). remainder_place v l (C n.0)) (linears a.0 (first_among a (n ∷ [])))
      ∙ ap (λ (k : ℤ). remainder_place v (M a.0) k) (constants n.0 (later_among n.0 a (n ∷ []) (first_among n [])))
  remainders_same (a ∷ n ∷ c ∷ ids) whole linears constants = ap (λ (l : Linear). eq (less v l)) whole

  places_same : (node : Node) → L own ≡ M own → ((part : ℕ) → is_part part node ≡ true → L part ≡ M part) → ((part : ℕ) → is_part part node ≡ true → C part ≡ D part)
      → integer_place bit L C v own (Some node) ≡ integer_place bit M D v own (Some node)
  places_same (Op Ite ids) whole linears constants = choices_same ids whole linears
  places_same (Op Abs ids) whole linears constants = magnitudes_same ids whole linears
  places_same (Op Quotient ids) whole linears constants = quotients_same ids whole linears constants
  places_same (Op Remainder ids) whole linears constants = remainders_same ids whole linears constants
  places_same _ whole linears constants = ap (λ (l : Linear). eq (less v l)) whole

module _ (constant : ℕ → Option ℤ) (S T : Sorting) (naming : Naming) (nodes : List Node) (top : ℕ) (arena : IsArena nodes)
    (constants : (q : ℕ) → IsSubterm nodes top q → q < length nodes → constant q ≡ constant_of nodes q)
    (sorts : (q : ℕ) → IsSubterm nodes top q → q < length nodes → S q ≡ T q) where
  linears_same : (id : ℕ) → IsSubterm nodes top id → id < length nodes → form_by constant naming nodes id ≡ linear_of naming nodes id
  linears_same id sub within = forms_same constant (constant_of nodes) naming nodes top arena constants (id + 1) id (omega arith) within sub

  formulas_below : (n id : ℕ) (sign : Bool) → id < n → id < length nodes → IsSubterm nodes top id → formula_by constant S naming nodes id sign ≡ formula T naming nodes id sign
  formulas_below zero id sign h within sub = absurd (omega (arith, h))
  formulas_below (suc n) id sign h within sub =
      let found = there_is nodes id within in
      let node : Node = found.0 in
      let is : slice_get nodes id ≡ Some node = found.1 in
      let below : has_parts_below id node ≡ true = arena_below nodes id node arena is in
      formula_at (reading_by constant S naming nodes) naming nodes id sign node is below
      ∙ node_same (bit_of naming nodes) S T (form_by constant naming nodes) (linear_of naming nodes) naming (formula_by constant S naming nodes) (formula T naming nodes) node sign
      (λ part has. let less_than : part < id = part_below part id node below has in sorts part (inside part node sub is has) (omega (arith, less_than, within)))
      (λ part has. let less_than : part < id = part_below part id node below has in linears_same part (inside part node sub is has) (omega (arith, less_than, within)))
      (λ part s has. let less_than : part < id = part_below part id node below has in formulas_below n part s (omega (arith, less_than, h)) (omega (arith, less_than, within)) (inside part node sub is has))
      ∙ sym (formula_at (record { sorts = T; bit = bit_of naming nodes; linear = linear_of naming nodes }) naming nodes id sign node is below)

  -- the formulas are the same
  pub formulas_same : (id : ℕ) (sign : Bool) → id < length nodes → IsSubterm nodes top id → formula_by constant S naming nodes id sign ≡ formula T naming nodes id sign
  formulas_same id sign within sub = formulas_below (suc id) id sign (omega arith) within sub

  -- and so is what determines an auxiliary variable
  pub place_same : (v id : ℕ) → id < length nodes → IsSubterm nodes top id → place_form_by constant S naming nodes v id ≡ place_form T naming nodes v id
  place_same v id within sub =
      let found = there_is nodes id within in
      let node : Node = found.0 in
      let is : slice_get nodes id ≡ Some node = found.1 in
      let below : has_parts_below id node ≡ true = arena_below nodes id node arena is in
      let parts : (part : ℕ) → is_part part node ≡ true → part < length nodes = λ part has. let less_than : part < id = part_below part id node below has in omega (arith, less_than, within) in
      let integers : integer_place (bit_of naming nodes) (form_by constant naming nodes) (value_by constant) (variable_form v) id (Some node)
      ≡ integer_place (bit_of naming nodes) (linear_of naming nodes) (constant_value nodes) (variable_form v) id (Some node) =
      places_same (bit_of naming nodes) (form_by constant naming nodes) (linear_of naming nodes) (value_by constant) (constant_value nodes) (variable_form v) id node
      (linears_same id sub within)
      (λ part has. linears_same part (inside part node sub is has) (parts part has))
      (λ part has. ap (λ (o : Option ℤ). unwrap_or o (pos 0)) (constants part (inside part node sub is has) (parts part has))) in
      ap (λ (b : Bool). if b
      then truth_place (variable_form v) (formula_by constant S naming nodes id true) (formula_by constant S naming nodes id false)
      else integer_place (bit_of naming nodes) (form_by constant naming nodes) (value_by constant) (variable_form v) id (slice_get nodes id)) (ap (has_sort Truth) (sorts id sub within))
      ∙ ap (λ (f : Form). if is_truth T id
      then truth_place (variable_form v) f (formula_by constant S naming nodes id false)
      else integer_place (bit_of naming nodes) (form_by constant naming nodes) (value_by constant) (variable_form v) id (slice_get nodes id)) (formulas_same id true within sub)
      ∙ ap (λ (f : Form). if is_truth T id
      then truth_place (variable_form v) (formula T naming nodes id true) f
      else integer_place (bit_of naming nodes) (form_by constant naming nodes) (value_by constant) (variable_form v) id (slice_get nodes id)) (formulas_same id false within sub)
      ∙ ap (λ (f : Form). if is_truth T id then truth_place (variable_form v) (formula T naming nodes id true) (formula T naming nodes id false) else f)
      (ap (integer_place (bit_of naming nodes) (form_by constant naming nodes) (value_by constant) (variable_form v) id) is
      ∙ integers ∙ ap (integer_place (bit_of naming nodes) (linear_of naming nodes) (constant_value nodes) (variable_form v) id) (sym is))
