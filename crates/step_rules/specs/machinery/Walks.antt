-- Tests of obligations and facts by their numbers, as the code tries them.
use Rattle.std.specs.Prelude.{ℕ, ℤ, List, Bool, true, false, not, ◌&&◌, ◌==◌, nat_le, Some, slice_get}
use Rattle.lin_atoms.specs.Truth.{lit_truth}
use Rattle.lin_atoms.specs.declared.lit.Lit.{Lit}
use Rattle.lin_atoms.specs.declared.lit.Lit.TheVariants.{Le, Eq, Div, NDiv}
use Rattle.cube_forms.specs.Cubes.{cube_holds}
use Rattle.derivations.specs.declared.fact.Fact.{Fact as KeptFact}
use Rattle.obligation_tree.specs.Nodes.{node_at}
use Rattle.obligation_tree.specs.declared.node.Node.{Node}
use Rattle.clause_form.specs.declared.atom.Atom.{Atom}
use Rattle.model_project.specs.Kept.{Kept}
use Rattle.book_rules.specs.Areas.{knows}
use Rattle.book_rules.specs.Frames.{Framed}
use Rattle.book_rules.specs.OpenRules.{is_rival}
use Rattle.book_rules.specs.StallRules.{is_live_child}
use Rattle.book_rules.specs.State.{Fact, Obligation, holds_of}
use Rattle.book_rules.specs.Steps.{OpenStep}
use Rattle.book_rules.specs.Walks.{has}
use Rattle.step_rules.specs.Views.{facts_of, obligation_of}

abbrev pub rival_at : List Node → OpenStep → ℕ → Bool
rival_at nodes o n = is_rival o (obligation_of (node_at nodes n))

-- a live child of the same clause and atom that holds the tuple
abbrev pub is_twin : OpenStep → List ℤ → Obligation → Bool
is_twin o tuple child = is_rival o child && (child.atom == o.atom) && cube_holds tuple child.cube

abbrev pub twin_at : List Node → OpenStep → List ℤ → ℕ → Bool
twin_at nodes o tuple n = is_twin o tuple (obligation_of (node_at nodes n))

abbrev pub child_at : List Node → ℕ → ℕ → Bool
child_at nodes parent n = is_live_child parent (obligation_of (node_at nodes n))

-- a literal without a divisor
abbrev pub is_plain : Lit → Bool
is_plain (Le lin) = true
is_plain (Eq lin) = true
is_plain (Div d lin) = false
is_plain (NDiv d lin) = false

abbrev pub fails_plainly_at : List ℤ → Lit → Bool
fails_plainly_at tuple lit = is_plain lit && not (lit_truth tuple lit)

-- a fact of the predicate in the cube
abbrev pub lies_in : ℕ → List Lit → Fact → Bool
lies_in pred cube f = holds_of (Some pred) cube f.conclusion

abbrev pub lies_in_at : List KeptFact → ℕ → List Lit → ℕ → Bool
lies_in_at facts pred cube n = has (slice_get (facts_of facts) n) (lies_in pred cube)

-- a lemma of this level or more that the area doesn't know on the atom
abbrev pub is_unknown : ℕ → Kept → Atom → Framed → Bool
is_unknown k area atom e = nat_le k e.level && (e.lemma.pred == atom.pred) && not (knows area atom e.lemma.cube)
