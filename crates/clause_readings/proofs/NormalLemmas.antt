-- Assertions whose terms match have the same normal clause, or the same refusal.
use Rattle.std.proofs.Common.{◌≡◌, ℕ, suc, ◌+◌, ◌==◌, List, [], ◌∷◌, map, Bool, true, false, cond, refl, ap, sym, ◌∙◌}
use Rattle.std.specs.Prelude.{slice_get, position, Option, Some, None, option_map, unwrap_or, not, ℤ, pos, if◌then◌else◌}
use Rattle.term_tree.specs.declared.sort.Sort.{Sort}
use Rattle.term_tree.specs.declared.sort.Sort.TheVariants.{Int, Bool as Truth}
use Rattle.term_tree.specs.declared.node.OpKind.{OpKind}
use Rattle.term_tree.specs.declared.node.OpKind.TheVariants.{Ite, Abs, Div as Quotient, Mod as Remainder}
use Rattle.term_tree.specs.declared.node.TermId.{TermId}
use Rattle.term_tree.specs.declared.node.Node.{Node}
use Rattle.term_tree.specs.declared.node.Node.TheVariants.{Num, True, False, Var, LetVar, Pred, Op, Divisible, Let, Forall, Exists}
use Rattle.term_tree.specs.Arena.{IsArena}
use Rattle.term_tree.specs.Sorts.{has_sort}
use Rattle.term_tree.proofs.PlainLemmas.{eqb_self, same_number}
use Rattle.horn_shape.specs.declared.clause.AtomUse.{AtomUse}
use Rattle.horn_shape.specs.declared.clause.Part.{Part}
use Rattle.lin_atoms.specs.Linear.{Linear}
use Rattle.lin_atoms.specs.declared.form.Form.{Form}
use Rattle.linear_terms.specs.Text.{Sorting, is_truth}
use Rattle.linear_terms.specs.Linear.{Naming, naming_of, variable_form, linear_of, bit_of}
use Rattle.linear_terms.specs.Formula.{formula, reading_of}
use Rattle.linear_terms.specs.Place.{abs_place, constant_value, integer_place, place_form, quotient_place, remainder_place, truth_place}
use Rattle.clause_form.specs.declared.atom.Atom.{Atom}
use Rattle.clause_normal.specs.Normal.{argument_variable, guard_form, normal_atom, place_forms}
use Rattle.term_widths.proofs.PositionLemmas.{position_on}
use Rattle.clause_readings.specs.Matching.{AreMatched, IsNodeLike, AreNodesLike, IsOneToOne}
use Rattle.clause_readings.proofs.FoldLemmas.{same_constant}
use Rattle.clause_readings.proofs.LinearLemmas.{AreNamedAlike, same_bit, same_linear}
use Rattle.clause_readings.proofs.FormulaLemmas.{same_formula}
use Rattle.clause_readings.proofs.SpotLemmas.{AreNumbersMatched}
use Rattle.clause_readings.proofs.ShapeLemmas.{AreAtomsMatched, AreHeadsMatched, ArePartsMatched}

same_test : (x a y b : ℕ) → (x ≡ a → y ≡ b) → (y ≡ b → x ≡ a) → (x == a) ≡ (y == b)
same_test x a y b forth back = by_tests (x == a) (y == b) refl refl
  where
    by_tests : (s t : Bool) → (x == a) ≡ s → (y == b) ≡ t → (x == a) ≡ (y == b)
    by_tests true true h k = h ∙ sym k
    by_tests false false h k = h ∙ sym k
    by_tests true false h k =
        let other : (y == b) ≡ true = ap (λ (z : ℕ). y == z) (sym (forth (same_number x a h))) ∙ eqb_self y in absurd (cc)
    by_tests false true h k =
        let other : (x == a) ≡ true = ap (λ (z : ℕ). x == z) (sym (back (same_number y b k))) ∙ eqb_self x in absurd (cc)

module _ (matched : ℕ → ℕ → Type 0) (one : IsOneToOne matched) where
  same_position : (a b : ℕ) (placed other_placed : List ℕ) → matched a b → AreNumbersMatched matched placed other_placed
      → position (λ (p : ℕ). p == a) placed ≡ position (λ (p : ℕ). p == b) other_placed
  same_position a b [] [] is h = refl
  same_position a b [] (y ∷ ys) is h = absurd h
  same_position a b (x ∷ xs) [] is h = absurd h
  same_position a b (x ∷ xs) (y ∷ ys) is h =
      let both = one x y a b h.0 is in
      position_on (λ (p : ℕ). p == a) x xs
      ∙ ap (λ (t : Bool). cond t (Some 0) (option_map suc (position (λ (p : ℕ). p == a) xs))) (same_test x a y b both.0 both.1)
      ∙ ap (λ (o : Option ℕ). cond (y == b) (Some 0) (option_map suc o)) (same_position a b xs ys is h.1)
      ∙ sym (position_on (λ (p : ℕ). p == b) y ys)

  pub same_names : (n m : ℕ) (placed other_placed : List ℕ) → n ≡ m → AreNumbersMatched matched placed other_placed → AreNamedAlike matched (naming_of n placed) (naming_of m other_placed)
  same_names n m placed other_placed e h = record {
    own = λ v. refl;
    auxiliary = λ a b is. ap (λ (k : ℕ). option_map (λ i. k + i) (position (λ (p : ℕ). p == a) placed)) e ∙ ap (option_map (λ i. m + i)) (same_position a b placed other_placed is h);
  }

module _ (matched : ℕ → ℕ → Type 0) (nodes others : List Node) (arena : IsArena nodes) (other_arena : IsArena others) (like : AreNodesLike nodes others matched)
    (naming other_naming : Naming) (named : AreNamedAlike matched naming other_naming) (sorts other_sorts : Sorting) (sorted : (c d : ℕ) → matched c d → sorts c ≡ other_sorts d) where
  linears : (a b : ℕ) → matched a b → linear_of naming nodes a ≡ linear_of other_naming others b
  linears = same_linear matched naming other_naming named nodes others arena other_arena like

  bits : (a b : ℕ) → matched a b → bit_of naming nodes a ≡ bit_of other_naming others b
  bits = same_bit matched naming other_naming named nodes others arena other_arena like

  values : (a b : ℕ) → matched a b → constant_value nodes a ≡ constant_value others b
  values a b is = ap (λ (k : Option ℤ). unwrap_or k (pos 0)) (same_constant nodes others matched arena other_arena like a b is)

  pub forms : (a b : ℕ) → matched a b → (sign : Bool) → formula sorts naming nodes a sign ≡ formula other_sorts other_naming others b sign
  forms = same_formula matched naming other_naming named nodes others arena other_arena like (reading_of sorts naming nodes) (reading_of other_sorts other_naming others)
      (record { sorts = sorted; bit = bits; linear = linears })

  abbrev ours : Linear → ℕ → Node → Form
  ours v a node = integer_place (bit_of naming nodes) (linear_of naming nodes) (constant_value nodes) v a (Some node)

  abbrev theirs : Linear → ℕ → Node → Form
  theirs v b node = integer_place (bit_of other_naming others) (linear_of other_naming others) (constant_value others) v b (Some node)

  choice_formed : (v : Linear) (a b : ℕ) (ids args : List TermId) → matched a b → AreMatched matched ids args → ours v a (Op Ite ids) ≡ theirs v b (Op Ite args)
  choice_formed v a b [] [] is h = let same = linears a b is in cc
  choice_formed v a b [] (o ∷ args) is h = absurd h
  choice_formed v a b (c ∷ ids) [] is h = absurd h
  choice_formed v a b (c ∷ []) (o ∷ []) is h = let same = linears a b is in cc
  choice_formed v a b (c ∷ []) (o ∷ p ∷ args) is h = absurd h.1
  choice_formed v a b (c ∷ s ∷ ids) (o ∷ []) is h = absurd h.1
  choice_formed v a b (c ∷ s ∷ []) (o ∷ p ∷ []) is h = let same = linears a b is in cc
  choice_formed v a b (c ∷ s ∷ []) (o ∷ p ∷ q ∷ args) is h = absurd h.1.1
  choice_formed v a b (c ∷ s ∷ r ∷ ids) (o ∷ p ∷ []) is h = absurd h.1.1
  choice_formed v a b (c ∷ s ∷ r ∷ []) (o ∷ p ∷ q ∷ []) is h =
      let first = bits c.0 o.0 h.0 in
      let second = linears s.0 p.0 h.1.0 in
      let third = linears r.0 q.0 h.1.1.0 in
      cc
  choice_formed v a b (c ∷ s ∷ r ∷ []) (o ∷ p ∷ q ∷ x ∷ args) is h = absurd h.1.1.1
  choice_formed v a b (c ∷ s ∷ r ∷ x ∷ ids) (o ∷ p ∷ q ∷ []) is h = absurd h.1.1.1
  choice_formed v a b (c ∷ s ∷ r ∷ x ∷ ids) (o ∷ p ∷ q ∷ y ∷ args) is h = let same = linears a b is in cc

  abs_formed : (v : Linear) (a b : ℕ) (ids args : List TermId) → matched a b → AreMatched matched ids args → ours v a (Op Abs ids) ≡ theirs v b (Op Abs args)
  abs_formed v a b [] [] is h = let same = linears a b is in cc
  abs_formed v a b [] (o ∷ args) is h = absurd h
  abs_formed v a b (c ∷ ids) [] is h = absurd h
  abs_formed v a b (c ∷ []) (o ∷ []) is h = ap (abs_place v) (linears c.0 o.0 h.0)
  abs_formed v a b (c ∷ []) (o ∷ p ∷ args) is h = absurd h.1
  abs_formed v a b (c ∷ s ∷ ids) (o ∷ []) is h = absurd h.1
  abs_formed v a b (c ∷ s ∷ ids) (o ∷ p ∷ args) is h = let same = linears a b is in cc

  quotient_formed : (v : Linear) (a b : ℕ) (ids args : List TermId) → matched a b → AreMatched matched ids args → ours v a (Op Quotient ids) ≡ theirs v b (Op Quotient args)
  quotient_formed v a b [] [] is h = let same = linears a b is in cc
  quotient_formed v a b [] (o ∷ args) is h = absurd h
  quotient_formed v a b (c ∷ ids) [] is h = absurd h
  quotient_formed v a b (c ∷ []) (o ∷ []) is h = let same = linears a b is in cc
  quotient_formed v a b (c ∷ []) (o ∷ p ∷ args) is h = absurd h.1
  quotient_formed v a b (c ∷ s ∷ ids) (o ∷ []) is h = absurd h.1
  quotient_formed v a b (c ∷ s ∷ []) (o ∷ p ∷ []) is h =
      ap (λ (f : Linear). quotient_place v f (constant_value nodes s.0)) (linears c.0 o.0 h.0) ∙ ap (quotient_place v (linear_of other_naming others o.0)) (values s.0 p.0 h.1.0)
  quotient_formed v a b (c ∷ s ∷ []) (o ∷ p ∷ q ∷ args) is h = absurd h.1.1
  quotient_formed v a b (c ∷ s ∷ r ∷ ids) (o ∷ p ∷ []) is h = absurd h.1.1
  quotient_formed v a b (c ∷ s ∷ r ∷ ids) (o ∷ p ∷ q ∷ args) is h = let same = linears a b is in cc

  remainder_formed : (v : Linear) (a b : ℕ) (ids args : List TermId) → matched a b → AreMatched matched ids args → ours v a (Op Remainder ids) ≡ theirs v b (Op Remainder args)
  remainder_formed v a b [] [] is h = let same = linears a b is in cc
  remainder_formed v a b [] (o ∷ args) is h = absurd h
  remainder_formed v a b (c ∷ ids) [] is h = absurd h
  remainder_formed v a b (c ∷ []) (o ∷ []) is h = let same = linears a b is in cc
  remainder_formed v a b (c ∷ []) (o ∷ p ∷ args) is h = absurd h.1
  remainder_formed v a b (c ∷ s ∷ ids) (o ∷ []) is h = absurd h.1
  remainder_formed v a b (c ∷ s ∷ []) (o ∷ p ∷ []) is h =
      ap (λ (f : Linear). remainder_place v f (constant_value nodes s.0)) (linears c.0 o.0 h.0) ∙ ap (remainder_place v (linear_of other_naming others o.0)) (values s.0 p.0 h.1.0)
  remainder_formed v a b (c ∷ s ∷ []) (o ∷ p ∷ q ∷ args) is h = absurd h.1.1
  remainder_formed v a b (c ∷ s ∷ r ∷ ids) (o ∷ p ∷ []) is h = absurd h.1.1
  remainder_formed v a b (c ∷ s ∷ r ∷ ids) (o ∷ p ∷ q ∷ args) is h = let same = linears a b is in cc

  operation_formed : (v : Linear) (a b : ℕ) (ids args : List TermId) → matched a b → AreMatched matched ids args → (op : OpKind) → ours v a (Op op ids) ≡ theirs v b (Op op args)
  operation_formed v a b ids args is h Ite = choice_formed v a b ids args is h
  operation_formed v a b ids args is h Abs = abs_formed v a b ids args is h
  operation_formed v a b ids args is h Quotient = quotient_formed v a b ids args is h
  operation_formed v a b ids args is h Remainder = remainder_formed v a b ids args is h
  operation_formed v a b ids args is h _ = let same = linears a b is in cc

  node_formed : (v : Linear) (a b : ℕ) (node other : Node) → matched a b → IsNodeLike matched node other → ours v a node ≡ theirs v b other
  node_formed v a b (Num k) other is h = let same = linears a b is in let step : ours v a (Num k) ≡ theirs v b (Num k) = cc in step ∙ ap (theirs v b) (sym h)
  node_formed v a b True other is h = let same = linears a b is in let step : ours v a True ≡ theirs v b True = cc in step ∙ ap (theirs v b) (sym h)
  node_formed v a b False other is h = let same = linears a b is in let step : ours v a False ≡ theirs v b False = cc in step ∙ ap (theirs v b) (sym h)
  node_formed v a b (Var binder sort) other is h = let same = linears a b is in let step : ours v a (Var binder sort) ≡ theirs v b (Var binder sort) = cc in step ∙ ap (theirs v b) (sym h)
  node_formed v a b (LetVar bound) other is h = let same = linears a b is in let step : ours v a (LetVar bound) ≡ theirs v b (LetVar h.0) = cc in step ∙ ap (theirs v b) (sym h.1)
  node_formed v a b (Pred pred args) other is h = let same = linears a b is in let step : ours v a (Pred pred args) ≡ theirs v b (Pred pred h.0) = cc in step ∙ ap (theirs v b) (sym h.1)
  node_formed v a b (Op op args) other is h = operation_formed v a b args h.0 is h.2 op ∙ ap (theirs v b) (sym h.1)
  node_formed v a b (Divisible by arg) other is h = let same = linears a b is in let step : ours v a (Divisible by arg) ≡ theirs v b (Divisible by h.0) = cc in step ∙ ap (theirs v b) (sym h.1)
  node_formed v a b (Let bound body) other is h = let same = linears a b is in let step : ours v a (Let bound body) ≡ theirs v b (Let h.0 h.1) = cc in step ∙ ap (theirs v b) (sym h.2)
  node_formed v a b (Forall first kinds body) other is h =
      let same = linears a b is in let step : ours v a (Forall first kinds body) ≡ theirs v b (Forall first kinds h.0) = cc in step ∙ ap (theirs v b) (sym h.1)
  node_formed v a b (Exists first kinds body) other is h =
      let same = linears a b is in let step : ours v a (Exists first kinds body) ≡ theirs v b (Exists first kinds h.0) = cc in step ∙ ap (theirs v b) (sym h.1)

  same_place : (v a b : ℕ) → matched a b → place_form sorts naming nodes v a ≡ place_form other_sorts other_naming others v b
  same_place v a b is =
      let found = like a b is in
      let integers : integer_place (bit_of naming nodes) (linear_of naming nodes) (constant_value nodes) (variable_form v) a (slice_get nodes a)
      ≡ integer_place (bit_of other_naming others) (linear_of other_naming others) (constant_value others) (variable_form v) b (slice_get others b) =
      ap (integer_place (bit_of naming nodes) (linear_of naming nodes) (constant_value nodes) (variable_form v) a) found.2
      ∙ node_formed (variable_form v) a b found.0 found.1 is found.4
      ∙ ap (integer_place (bit_of other_naming others) (linear_of other_naming others) (constant_value others) (variable_form v) b) (sym found.3) in
      ap (λ (s : Option Sort). if has_sort Truth s
      then truth_place (variable_form v) (formula sorts naming nodes a true) (formula sorts naming nodes a false)
      else integer_place (bit_of naming nodes) (linear_of naming nodes) (constant_value nodes) (variable_form v) a (slice_get nodes a)) (sorted a b is)
      ∙ ap (λ (f : Form). if is_truth other_sorts b then truth_place (variable_form v) f (formula sorts naming nodes a false)
      else integer_place (bit_of naming nodes) (linear_of naming nodes) (constant_value nodes) (variable_form v) a (slice_get nodes a)) (forms a b is true)
      ∙ ap (λ (f : Form). if is_truth other_sorts b then truth_place (variable_form v) (formula other_sorts other_naming others b true) f
      else integer_place (bit_of naming nodes) (linear_of naming nodes) (constant_value nodes) (variable_form v) a (slice_get nodes a)) (forms a b is false)
      ∙ ap (λ (f : Form). if is_truth other_sorts b then truth_place (variable_form v) (formula other_sorts other_naming others b true) (formula other_sorts other_naming others b false) else f) integers

  pub same_place_forms : (v : ℕ) (placed other_placed : List ℕ) → AreNumbersMatched matched placed other_placed
      → place_forms sorts naming nodes v placed ≡ place_forms other_sorts other_naming others v other_placed
  same_place_forms v [] [] h = refl
  same_place_forms v [] (y ∷ ys) h = absurd h
  same_place_forms v (x ∷ xs) [] h = absurd h
  same_place_forms v (x ∷ xs) (y ∷ ys) h =
      ap (λ (f : Form). f ∷ place_forms sorts naming nodes (v + 1) xs) (same_place v x y h.0)
      ∙ ap (λ (fs : List Form). place_form other_sorts other_naming others v y ∷ fs) (same_place_forms (v + 1) xs ys h.1)

  pub same_guards : (ps qs : List Part) → ArePartsMatched matched ps qs → map (guard_form sorts naming nodes) ps ≡ map (guard_form other_sorts other_naming others) qs
  same_guards [] [] h = refl
  same_guards [] (q ∷ qs) h = absurd h
  same_guards (p ∷ ps) [] h = absurd h
  same_guards (p ∷ ps) (q ∷ qs) h =
      ap (λ (b : Bool). formula sorts naming nodes p.term.0 (not b) ∷ map (guard_form sorts naming nodes) ps) h.1
      ∙ ap (λ (f : Form). f ∷ map (guard_form sorts naming nodes) ps) (forms p.term.0 q.term.0 h.0 (not q.negated))
      ∙ ap (λ (fs : List Form). guard_form other_sorts other_naming others q ∷ fs) (same_guards ps qs h.2)

  abbrev their_argument : ℕ → Node → ℕ
  their_argument b node = argument_variable other_naming.auxiliary b (Some node)

  node_argument : (a b : ℕ) (node other : Node) → matched a b → IsNodeLike matched node other → argument_variable naming.auxiliary a (Some node) ≡ their_argument b other
  node_argument a b (Num k) other is h = ap (λ (o : Option ℕ). unwrap_or o 0) (named.auxiliary a b is) ∙ ap (their_argument b) (sym h)
  node_argument a b True other is h = ap (λ (o : Option ℕ). unwrap_or o 0) (named.auxiliary a b is) ∙ ap (their_argument b) (sym h)
  node_argument a b False other is h = ap (λ (o : Option ℕ). unwrap_or o 0) (named.auxiliary a b is) ∙ ap (their_argument b) (sym h)
  node_argument a b (Var binder sort) other is h = ap (their_argument b) (sym h)
  node_argument a b (LetVar bound) other is h = ap (λ (o : Option ℕ). unwrap_or o 0) (named.auxiliary a b is) ∙ ap (their_argument b) (sym h.1)
  node_argument a b (Pred pred args) other is h = ap (λ (o : Option ℕ). unwrap_or o 0) (named.auxiliary a b is) ∙ ap (their_argument b) (sym h.1)
  node_argument a b (Op op args) other is h = ap (λ (o : Option ℕ). unwrap_or o 0) (named.auxiliary a b is) ∙ ap (their_argument b) (sym h.1)
  node_argument a b (Divisible by arg) other is h = ap (λ (o : Option ℕ). unwrap_or o 0) (named.auxiliary a b is) ∙ ap (their_argument b) (sym h.1)
  node_argument a b (Let bound body) other is h = ap (λ (o : Option ℕ). unwrap_or o 0) (named.auxiliary a b is) ∙ ap (their_argument b) (sym h.2)
  node_argument a b (Forall first kinds body) other is h = ap (λ (o : Option ℕ). unwrap_or o 0) (named.auxiliary a b is) ∙ ap (their_argument b) (sym h.1)
  node_argument a b (Exists first kinds body) other is h = ap (λ (o : Option ℕ). unwrap_or o 0) (named.auxiliary a b is) ∙ ap (their_argument b) (sym h.1)

  abbrev argument : Part → ℕ
  argument part = argument_variable naming.auxiliary part.term.0 (slice_get nodes part.term.0)

  abbrev other_argument : Part → ℕ
  other_argument part = argument_variable other_naming.auxiliary part.term.0 (slice_get others part.term.0)

  same_arguments : (ps qs : List Part) → ArePartsMatched matched ps qs → map argument ps ≡ map other_argument qs
  same_arguments [] [] h = refl
  same_arguments [] (q ∷ qs) h = absurd h
  same_arguments (p ∷ ps) [] h = absurd h
  same_arguments (p ∷ ps) (q ∷ qs) h =
      let found = like p.term.0 q.term.0 h.0 in
      let one : argument p ≡ other_argument q =
      ap (argument_variable naming.auxiliary p.term.0) found.2 ∙ node_argument p.term.0 q.term.0 found.0 found.1 h.0 found.4
      ∙ ap (argument_variable other_naming.auxiliary q.term.0) (sym found.3) in
      ap (λ (v : ℕ). v ∷ map argument ps) one ∙ ap (λ (vs : List ℕ). other_argument q ∷ vs) (same_arguments ps qs h.2)

  same_atom : (p q : AtomUse) → p.pred ≡ q.pred → ArePartsMatched matched p.args q.args → normal_atom naming nodes p ≡ normal_atom other_naming others q
  same_atom p q e h =
      let made : ℕ → List ℕ → Atom = λ k vs. record { pred = k; args = vs } in
      ap (λ (k : ℕ). made k (map argument p.args)) e ∙ ap (made q.pred) (same_arguments p.args q.args h)

  pub same_atoms : (ps qs : List AtomUse) → AreAtomsMatched matched ps qs → map (normal_atom naming nodes) ps ≡ map (normal_atom other_naming others) qs
  same_atoms [] [] h = refl
  same_atoms [] (q ∷ qs) h = absurd h
  same_atoms (p ∷ ps) [] h = absurd h
  same_atoms (p ∷ ps) (q ∷ qs) h =
      ap (λ (a : Atom). a ∷ map (normal_atom naming nodes) ps) (same_atom p q h.0 h.1) ∙ ap (λ (xs : List Atom). normal_atom other_naming others q ∷ xs) (same_atoms ps qs h.2)

  pub same_head : (p q : Option AtomUse) → AreHeadsMatched matched p q → option_map (normal_atom naming nodes) p ≡ option_map (normal_atom other_naming others) q
  same_head None None h = refl
  same_head None (Some q) h = absurd h
  same_head (Some p) None h = absurd h
  same_head (Some p) (Some q) h = ap (λ (a : Atom). Some a) (same_atom p q h.0 h.1)

  pub same_auxiliary_sorts : (placed other_placed : List ℕ) → AreNumbersMatched matched placed other_placed
      → map (λ (id : ℕ). unwrap_or (sorts id) Int) placed ≡ map (λ (id : ℕ). unwrap_or (other_sorts id) Int) other_placed
  same_auxiliary_sorts [] [] h = refl
  same_auxiliary_sorts [] (y ∷ ys) h = absurd h
  same_auxiliary_sorts (x ∷ xs) [] h = absurd h
  same_auxiliary_sorts (x ∷ xs) (y ∷ ys) h =
      ap (λ (s : Option Sort). unwrap_or s Int ∷ map (λ (id : ℕ). unwrap_or (sorts id) Int) xs) (sorted x y h.0)
      ∙ ap (λ (ss : List Sort). unwrap_or (other_sorts y) Int ∷ ss) (same_auxiliary_sorts xs ys h.1)
