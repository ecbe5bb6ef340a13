-- Lemmas, facts and obligations of which the rules speak, as they stand in a book's parts.
use Rattle.std.specs.Prelude.{ℕ, ℤ, suc, List, [], ◌∷◌, ◌++◌, map, Bool, false, Option, None, option_map}
use Rattle.std.specs.List.{fold}
use Rattle.derivations.specs.declared.fact.Fact.{Fact as KeptFact}
use Rattle.obligation_tree.specs.Nodes.{closed_in, is_stalled_in, obligation_in}
use Rattle.obligation_tree.specs.declared.node.Node.{Node}
use Rattle.obligation_tree.specs.declared.obligation.Obligation.{Obligation as Asked}
use Rattle.book_rules.specs.Effects.{greatest_height}
pub use Rattle.cube_rules.specs.Views.{framed_at, framed_of, lemmas_of}
use Rattle.book_rules.specs.Instances.{Ground}
use Rattle.book_rules.specs.State.{Fact, Obligation}

-- a predicate with its tuple, or false
abbrev pub ground_conclusion : Option ℕ → List ℤ → Option Ground
ground_conclusion pred tuple = option_map (λ p. (p, tuple)) pred

-- with the height that the facts before it give it
abbrev pub new_fact : List Fact → KeptFact → Fact
new_fact before f = record { conclusion = ground_conclusion f.pred f.tuple; clause = f.clause; point = f.point; premises = f.premises; height = suc (greatest_height before f.premises) }

-- the facts before, and one more behind them as the rules know it
abbrev pub with_fact : List Fact → KeptFact → List Fact
with_fact before f = before ++ new_fact before f ∷ []

-- the kept facts as the rules know them, in order of number, each with its height
abbrev pub facts_of : List KeptFact → List Fact
facts_of facts = fold with_fact [] facts

-- an obligation with the entry that closed it, if there is one, and whether it is stalled
abbrev pub asked_of : Asked → Option ℕ → Bool → Obligation
asked_of o closed stalled = record { pred = o.pred; level = o.level; cube = o.cube; point = o.point; parent = o.parent; clause = o.clause; atom = o.atom; closed = closed; stalled = stalled }

-- as it comes
abbrev pub fresh_of : Asked → Obligation
fresh_of o = asked_of o None false

-- an obligation of the tree as the rules know it
abbrev pub obligation_of : Node → Obligation
obligation_of n = asked_of (obligation_in n) (closed_in n) (is_stalled_in n)

-- the obligations of the tree as the rules know them, in order of number
abbrev pub obligations_of : List Node → List Obligation
obligations_of nodes = map obligation_of nodes
