-- Bool terms that match are the same formulas.
use Rattle.std.proofs.Common.{◌≡◌, ℕ, List, [], ◌∷◌, map, Bool, refl, ap, sym, ◌∙◌}
use Rattle.std.specs.Prelude.{not, nat_abs, if◌then◌else◌}
use Rattle.term_tree.specs.declared.sort.Sort.TheVariants.{Bool as Truth}
use Rattle.term_tree.specs.declared.node.TermId.{TermId}
use Rattle.term_tree.specs.declared.node.OpKind.{OpKind}
use Rattle.term_tree.specs.declared.node.OpKind.TheVariants.{Not, And as AndOp, Or as OrOp, Xor, Implies, Ite}
use Rattle.term_tree.specs.declared.node.Node.{Node}
use Rattle.term_tree.specs.declared.node.Node.TheVariants.{Num, True, False, Var, LetVar, Pred, Op, Divisible, Let, Forall, Exists}
use Rattle.term_tree.specs.Arena.{IsArena}
use Rattle.term_tree.specs.Sorts.{has_sort}
use Rattle.lin_atoms.specs.Linear.{Linear}
use Rattle.lin_atoms.specs.declared.lit.Lit.TheVariants.{Div, NDiv}
use Rattle.lin_atoms.specs.declared.form.Form.{Form}
use Rattle.lin_atoms.specs.declared.form.Form.TheVariants.{Lit}
use Rattle.linear_terms.specs.Text.{Sorting, are_truths}
use Rattle.linear_terms.specs.Linear.{Naming, variable_form, sum_form}
use Rattle.linear_terms.specs.Formula.{TermForms, node_formula, operation, joined, implication_forms, choice, denied, told_formula, is_one, odd, comparison}
use Rattle.linear_terms.proofs.Public.{formula_at}
use Rattle.clause_readings.specs.Matching.{AreMatched, IsNodeLike, AreNodesLike}
use Rattle.clause_readings.proofs.InductionLemmas.{With, by_two, same_map_by}
use Rattle.clause_readings.proofs.LinearLemmas.{AreNamedAlike}

-- what is read of terms that match is the same
pub record AreReadAlike (matched : ℕ → ℕ → Type 0) (reading other : TermForms) : Type 0 where
  pub sorts : (a b : ℕ) → matched a b → reading.sorts a ≡ other.sorts b
  pub bit : (a b : ℕ) → matched a b → reading.bit a ≡ other.bit b
  pub linear : (a b : ℕ) → matched a b → reading.linear a ≡ other.linear b

pub same_truths : (matched : ℕ → ℕ → Type 0) (sorts other : Sorting) → ((c d : ℕ) → matched c d → sorts c ≡ other d) → (ids others : List TermId) → AreMatched matched ids others
    → are_truths sorts ids ≡ are_truths other others
same_truths matched sorts other same [] [] h = refl
same_truths matched sorts other same [] (o ∷ others) h = absurd h
same_truths matched sorts other same (id ∷ ids) [] h = absurd h
same_truths matched sorts other same (id ∷ ids) (o ∷ others) h = ap (has_sort Truth) (same id.0 o.0 h.0)

module _ (matched : ℕ → ℕ → Type 0) (reading other_reading : TermForms) (read : AreReadAlike matched reading other_reading) (f g : ℕ → Bool → Form) where
  abbrev Told : ℕ → ℕ → Type 0
  Told c d = (sign : Bool) → f c sign ≡ g d sign

  abbrev Both : ℕ → ℕ → Type 0
  Both = With matched Told

  signed : (sign : Bool) (ids others : List TermId) → AreMatched Both ids others → map (λ (id : TermId). f id.0 sign) ids ≡ map (λ (id : TermId). g id.0 sign) others
  signed sign ids others h = same_map_by (λ c. f c sign) (λ d. g d sign) Both (λ c d both. both.1 sign) ids others h

  same_implied : (sign : Bool) (ids others : List TermId) → AreMatched Both ids others → implication_forms f sign ids ≡ implication_forms g sign others
  same_implied sign [] [] h = refl
  same_implied sign [] (o ∷ others) h = absurd h
  same_implied sign (id ∷ ids) [] h = absurd h
  same_implied sign (id ∷ []) (o ∷ []) h = ap (λ (x : Form). x ∷ []) (h.0.1 sign)
  same_implied sign (id ∷ []) (o ∷ p ∷ others) h = absurd h.1
  same_implied sign (id ∷ next ∷ ids) (o ∷ []) h = absurd h.1
  same_implied sign (id ∷ next ∷ ids) (o ∷ p ∷ others) h =
      ap (λ (x : Form). x ∷ implication_forms f sign (next ∷ ids)) (h.0.1 (not sign)) ∙ ap (λ (xs : List Form). g o.0 (not sign) ∷ xs) (same_implied sign (next ∷ ids) (p ∷ others) h.1)

  same_denied : (sign : Bool) (ids others : List TermId) → AreMatched Both ids others → denied f sign ids ≡ denied g sign others
  same_denied sign [] [] h = refl
  same_denied sign [] (o ∷ others) h = absurd h
  same_denied sign (id ∷ ids) [] h = absurd h
  same_denied sign (id ∷ ids) (o ∷ others) h = h.0.1 (not sign)

  same_choice : (sign : Bool) (ids others : List TermId) → AreMatched Both ids others → choice f reading.bit sign ids ≡ choice g other_reading.bit sign others
  same_choice sign [] [] h = refl
  same_choice sign [] (o ∷ others) h = absurd h
  same_choice sign (c ∷ ids) [] h = absurd h
  same_choice sign (c ∷ []) (o ∷ []) h = refl
  same_choice sign (c ∷ []) (o ∷ p ∷ others) h = absurd h.1
  same_choice sign (c ∷ s ∷ ids) (o ∷ []) h = absurd h.1
  same_choice sign (c ∷ s ∷ []) (o ∷ p ∷ []) h = refl
  same_choice sign (c ∷ s ∷ []) (o ∷ p ∷ q ∷ others) h = absurd h.1.1
  same_choice sign (c ∷ s ∷ r ∷ ids) (o ∷ p ∷ []) h = absurd h.1.1
  same_choice sign (c ∷ s ∷ r ∷ []) (o ∷ p ∷ q ∷ []) h =
      let bits = read.bit c.0 o.0 h.0.0 in
      let seconds = h.1.0.1 sign in
      let thirds = h.1.1.0.1 sign in
      cc
  same_choice sign (c ∷ s ∷ r ∷ []) (o ∷ p ∷ q ∷ x ∷ others) h = absurd h.1.1.1
  same_choice sign (c ∷ s ∷ r ∷ x ∷ ids) (o ∷ p ∷ q ∷ []) h = absurd h.1.1.1
  same_choice sign (c ∷ s ∷ r ∷ x ∷ ids) (o ∷ p ∷ q ∷ y ∷ others) h = refl

  same_bits : (ids others : List TermId) → AreMatched Both ids others → map (λ (id : TermId). reading.bit id.0) ids ≡ map (λ (id : TermId). other_reading.bit id.0) others
  same_bits ids others h = same_map_by reading.bit other_reading.bit Both (λ c d both. read.bit c d both.0) ids others h

  only : (ids others : List TermId) → AreMatched Both ids others → AreMatched matched ids others
  only [] [] h = tt
  only [] (o ∷ others) h = absurd h
  only (id ∷ ids) [] h = absurd h
  only (id ∷ ids) (o ∷ others) h = (h.0.0, only ids others h.1)

  same_compared : (sign : Bool) (op : OpKind) (ids others : List TermId) → AreMatched Both ids others
      → comparison op (are_truths reading.sorts ids) sign (map (λ (id : TermId). reading.bit id.0) ids) (map (λ (id : TermId). reading.linear id.0) ids)
      ≡ comparison op (are_truths other_reading.sorts others) sign (map (λ (id : TermId). other_reading.bit id.0) others) (map (λ (id : TermId). other_reading.linear id.0) others)
  same_compared sign op ids others h =
      ap (λ (b : Bool). comparison op b sign (map (λ (id : TermId). reading.bit id.0) ids) (map (λ (id : TermId). reading.linear id.0) ids))
      (same_truths matched reading.sorts other_reading.sorts read.sorts ids others (only ids others h))
      ∙ ap (λ (bits : List Linear). comparison op (are_truths other_reading.sorts others) sign bits (map (λ (id : TermId). reading.linear id.0) ids)) (same_bits ids others h)
      ∙ ap (comparison op (are_truths other_reading.sorts others) sign (map (λ (id : TermId). other_reading.bit id.0) others))
      (same_map_by reading.linear other_reading.linear Both (λ c d both. read.linear c d both.0) ids others h)

  same_operation : (sign : Bool) (ids others : List TermId) → AreMatched Both ids others → (op : OpKind) → operation reading f op ids sign ≡ operation other_reading g op others sign
  same_operation sign ids others h Not = same_denied sign ids others h
  same_operation sign ids others h AndOp = ap (joined sign) (signed sign ids others h)
  same_operation sign ids others h OrOp = ap (joined (not sign)) (signed sign ids others h)
  same_operation sign ids others h Implies = ap (joined (not sign)) (same_implied sign ids others h)
  same_operation sign ids others h Xor = ap (λ (bits : List Linear). odd sign (sum_form bits)) (same_bits ids others h)
  same_operation sign ids others h Ite = same_choice sign ids others h
  same_operation sign ids others h op = same_compared sign op ids others h

  module _ (naming other_naming : Naming) (named : AreNamedAlike matched naming other_naming) where
    abbrev told : Bool → Node → Form
    told sign node = node_formula other_reading other_naming g node sign

    formula_step : (sign : Bool) (node other : Node) → IsNodeLike Both node other → node_formula reading naming f node sign ≡ node_formula other_reading other_naming g other sign
    formula_step sign (Num k) other h = ap (told sign) (sym h)
    formula_step sign True other h = ap (told sign) (sym h)
    formula_step sign False other h = ap (told sign) (sym h)
    formula_step sign (Var binder sort) other h = ap (λ (v : ℕ). is_one sign (variable_form v)) (named.own binder) ∙ ap (told sign) (sym h)
    formula_step sign (LetVar bound) other h = ap (is_one sign) (read.bit bound.0 h.0.0 h.2.0) ∙ ap (told sign) (sym h.1)
    formula_step sign (Pred pred args) other h = ap (told sign) (sym h.1)
    formula_step sign (Op op args) other h = same_operation sign args h.0 h.2 op ∙ ap (told sign) (sym h.1)
    formula_step sign (Divisible by arg) other h =
        ap (λ (form : Linear). if sign then Lit (Div (nat_abs by) form) else Lit (NDiv (nat_abs by) form)) (read.linear arg.0 h.0.0 h.2.0) ∙ ap (told sign) (sym h.1)
    formula_step sign (Let bound body) other h = h.4.1 sign ∙ ap (told sign) (sym h.2)
    formula_step sign (Forall first sorts body) other h = ap (told sign) (sym h.1)
    formula_step sign (Exists first sorts body) other h = ap (told sign) (sym h.1)

module _ (matched : ℕ → ℕ → Type 0) (naming other_naming : Naming) (named : AreNamedAlike matched naming other_naming) (nodes others : List Node)
    (arena : IsArena nodes) (other_arena : IsArena others) (like : AreNodesLike nodes others matched) (reading other_reading : TermForms) (read : AreReadAlike matched reading other_reading) where
  pub same_formula : (a b : ℕ) → matched a b → (sign : Bool) → told_formula reading naming nodes a sign ≡ told_formula other_reading other_naming others b sign
  same_formula = by_two nodes others matched (λ a b. (sign : Bool) → told_formula reading naming nodes a sign ≡ told_formula other_reading other_naming others b sign) arena other_arena like
      (λ a b node other is there there_too below below_too parts sign.
      formula_at reading naming nodes a sign node there below
      ∙ formula_step matched reading other_reading read (told_formula reading naming nodes) (told_formula other_reading other_naming others) naming other_naming named sign node other parts
      ∙ sym (formula_at other_reading other_naming others b sign other there_too below_too))
