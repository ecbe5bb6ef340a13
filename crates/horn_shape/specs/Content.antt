-- What the content of a clause says in an environment, as tests.
use Rattle.std.specs.Prelude.{◌≡◌, ℕ, suc, List, [], ◌∷◌, Option, Some, None, Bool, true, ◌&&◌}
use Rattle.std.specs.List.{list_all}
use Rattle.term_tree.specs.declared.node.Node.{Node}
use Rattle.term_tree.specs.declared.scalar.Value.{Value}
use Rattle.term_tree.specs.declared.scalar.Value.TheVariants.{Bool as Truth}
use Rattle.term_tree.specs.Operators.{truth}
use Rattle.term_tree.specs.Truth.{Interpretation}
use Rattle.term_tree.specs.Value.{Environment}
use Rattle.horn_shape.specs.declared.clause.AtomUse.{AtomUse}
use Rattle.horn_shape.specs.Instance.{is_met, tuple_of}
use Rattle.horn_shape.specs.Shape.{Content}

abbrev pub is_true_atom : Interpretation → List Node → Environment → AtomUse → Bool
is_true_atom I nodes E atom = truth (I atom.pred (tuple_of nodes E atom))

-- guards and body atoms are true
abbrev pub met : Interpretation → List Node → Environment → Content → Bool
met I nodes E c = list_all (is_met nodes E) c.guards && list_all (is_true_atom I nodes E) c.atoms

abbrev pub HeadHolds : Interpretation → List Node → Environment → Option AtomUse → Type 0
HeadHolds I nodes E None = ⊥
HeadHolds I nodes E (Some atom) = I atom.pred (tuple_of nodes E atom) ≡ Truth true

abbrev pub Holds : Interpretation → List Node → Environment → Content → Type 0
Holds I nodes E c = met I nodes E c ≡ true → HeadHolds I nodes E c.head

-- the environment has these values from a number on
abbrev pub StandAt : Environment → ℕ → List Value → Type 0
StandAt E n [] = Unit {0}
StandAt E n (v ∷ vs) = (E n ≡ v) × StandAt E (suc n) vs
