-- Terms that match have the same linear forms and the same bits.
use Rattle.std.proofs.Common.{◌≡◌, ℕ, List, map, ap, sym, ◌∙◌}
use Rattle.std.specs.Prelude.{Option, ℤ}
use Rattle.term_tree.specs.declared.node.TermId.{TermId}
use Rattle.term_tree.specs.declared.node.Node.{Node}
use Rattle.term_tree.specs.declared.node.Node.TheVariants.{Num, True, False, Var, LetVar, Pred, Op, Divisible, Let, Forall, Exists}
use Rattle.term_tree.specs.Arena.{IsArena}
use Rattle.term_tree.specs.Constants.{constant_of}
use Rattle.lin_atoms.specs.Linear.{Linear}
use Rattle.linear_terms.specs.Linear.{Naming, auxiliary_form, operation_form, node_linear, told_linear, linear_of, variable_form, bare_bit, bit_form, node_bit, told_bit, bit_of}
use Rattle.linear_terms.proofs.Public.{linear_at, bit_at}
use Rattle.clause_readings.specs.Matching.{IsNodeLike, AreNodesLike}
use Rattle.clause_readings.proofs.FoldLemmas.{same_constant}
use Rattle.clause_readings.proofs.InductionLemmas.{With, by_two, same_map_by}

-- terms that match have auxiliary variables of the same numbers, and so have their variables
pub record AreNamedAlike (matched : ℕ → ℕ → Type 0) (naming other : Naming) : Type 0 where
  pub own : (v : ℕ) → naming.own v ≡ other.own v
  pub auxiliary : (a b : ℕ) → matched a b → naming.auxiliary a ≡ other.auxiliary b

module _ (matched : ℕ → ℕ → Type 0) (naming other_naming : Naming) (named : AreNamedAlike matched naming other_naming) where
  module _ (constant other_constant : ℕ → Option ℤ) (same : (c d : ℕ) → matched c d → constant c ≡ other_constant d) (f g : ℕ → ℕ → Linear) where
    abbrev Told : ℕ → ℕ → Type 0
    Told c d = f c c ≡ g d d

    linear_step : (a b : ℕ) (node other : Node) → matched a b → IsNodeLike (With matched Told) node other → node_linear constant naming f node a ≡ node_linear other_constant other_naming g other b
    linear_step a b (Num k) other is h = ap (λ (m : Node). node_linear other_constant other_naming g m b) (sym h)
    linear_step a b True other is h = ap (λ (m : Node). node_linear other_constant other_naming g m b) (sym h)
    linear_step a b False other is h = ap (λ (m : Node). node_linear other_constant other_naming g m b) (sym h)
    linear_step a b (Var binder sort) other is h = ap variable_form (named.own binder) ∙ ap (λ (m : Node). node_linear other_constant other_naming g m b) (sym h)
    linear_step a b (LetVar bound) other is h = h.2.1 ∙ ap (λ (m : Node). node_linear other_constant other_naming g m b) (sym h.1)
    linear_step a b (Pred pred args) other is h = ap (λ (m : Node). node_linear other_constant other_naming g m b) (sym h.1)
    linear_step a b (Op op args) other is h =
        ap (λ (v : Option ℕ). operation_form op (auxiliary_form v) (map (λ (arg : TermId). constant arg.0) args) (map (λ (arg : TermId). f arg.0 arg.0) args)) (named.auxiliary a b is)
        ∙ ap (λ (ks : List (Option ℤ)). operation_form op (auxiliary_form (other_naming.auxiliary b)) ks (map (λ (arg : TermId). f arg.0 arg.0) args))
        (same_map_by constant other_constant (With matched Told) (λ c d both. same c d both.0) args h.0 h.2)
        ∙ ap (operation_form op (auxiliary_form (other_naming.auxiliary b)) (map (λ (arg : TermId). other_constant arg.0) h.0))
        (same_map_by (λ c. f c c) (λ d. g d d) (With matched Told) (λ c d both. both.1) args h.0 h.2)
        ∙ ap (λ (m : Node). node_linear other_constant other_naming g m b) (sym h.1)
    linear_step a b (Divisible by arg) other is h = ap (λ (m : Node). node_linear other_constant other_naming g m b) (sym h.1)
    linear_step a b (Let bound body) other is h = h.4.1 ∙ ap (λ (m : Node). node_linear other_constant other_naming g m b) (sym h.2)
    linear_step a b (Forall first sorts body) other is h = ap (λ (m : Node). node_linear other_constant other_naming g m b) (sym h.1)
    linear_step a b (Exists first sorts body) other is h = ap (λ (m : Node). node_linear other_constant other_naming g m b) (sym h.1)

    bare_step : (b : ℕ) (node other : Node) → IsNodeLike (With matched Told) node other → bare_bit naming f node ≡ bare_bit other_naming g other
    bare_step b (Num k) other h = ap (bare_bit other_naming g) (sym h)
    bare_step b True other h = ap (bare_bit other_naming g) (sym h)
    bare_step b False other h = ap (bare_bit other_naming g) (sym h)
    bare_step b (Var binder sort) other h = ap variable_form (named.own binder) ∙ ap (bare_bit other_naming g) (sym h)
    bare_step b (LetVar bound) other h = h.2.1 ∙ ap (bare_bit other_naming g) (sym h.1)
    bare_step b (Pred pred args) other h = ap (bare_bit other_naming g) (sym h.1)
    bare_step b (Op op args) other h = ap (bare_bit other_naming g) (sym h.1)
    bare_step b (Divisible by arg) other h = ap (bare_bit other_naming g) (sym h.1)
    bare_step b (Let bound body) other h = ap (bare_bit other_naming g) (sym h.2)
    bare_step b (Forall first sorts body) other h = ap (bare_bit other_naming g) (sym h.1)
    bare_step b (Exists first sorts body) other h = ap (bare_bit other_naming g) (sym h.1)

    bit_step : (a b : ℕ) (node other : Node) → matched a b → IsNodeLike (With matched Told) node other → node_bit naming f node a ≡ node_bit other_naming g other b
    bit_step a b node other is h =
        ap (λ (v : Option ℕ). bit_form v (bare_bit naming f node)) (named.auxiliary a b is) ∙ ap (bit_form (other_naming.auxiliary b)) (bare_step b node other h)

  module _ (nodes others : List Node) (arena : IsArena nodes) (other_arena : IsArena others) (like : AreNodesLike nodes others matched) where
    pub same_linear : (a b : ℕ) → matched a b → linear_of naming nodes a ≡ linear_of other_naming others b
    same_linear = by_two nodes others matched (λ a b. linear_of naming nodes a ≡ linear_of other_naming others b) arena other_arena like (λ a b node other is there there_too below below_too parts.
        linear_at (constant_of nodes) naming nodes a a node there below
        ∙ linear_step (constant_of nodes) (constant_of others) (same_constant nodes others matched arena other_arena like) (told_linear (constant_of nodes) naming nodes)
        (told_linear (constant_of others) other_naming others) a b node other is parts
        ∙ sym (linear_at (constant_of others) other_naming others b b other there_too below_too))

    pub same_bit : (a b : ℕ) → matched a b → bit_of naming nodes a ≡ bit_of other_naming others b
    same_bit = by_two nodes others matched (λ a b. bit_of naming nodes a ≡ bit_of other_naming others b) arena other_arena like (λ a b node other is there there_too below below_too parts.
        bit_at naming nodes a a node there below
        ∙ bit_step (constant_of nodes) (constant_of others) (same_constant nodes others matched arena other_arena like) (told_bit naming nodes) (told_bit other_naming others) a b node other is parts
        ∙ sym (bit_at other_naming others b b other there_too below_too))
