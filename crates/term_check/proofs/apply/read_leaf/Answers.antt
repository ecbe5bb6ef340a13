use Rattle.std.proofs.Common.{◌≡◌, refl, sym, ap, ◌∙◌}
use Rattle.std.specs.Prelude.{Ok, Result}
use Rattle.term_check.specs.declared.atom.Atom.{Atom}
use Rattle.term_check.specs.declared.part.Fault.{Fault}
use Rattle.term_check.specs.Spelling.{Spelled, leaf_atom, leaf_term, spelled_atom, ◌>>=◌}
use Rattle.term_check.proofs.LeafLemmas.{atom_of_leaf}
use Rattle.term_check.proofs.ReadingLemmas.{atom_there, atom_below, tells_added}
use Rattle.term_check.proofs.apply.read_leaf.Goals as goal

pub atom_node-node-requires : goal.atom_node-node-requires
atom_node-node-requires c =
    let is : leaf_atom c.args.context.now.text c.args.context.now.scope.preds c.args.context.now.scope.names c.args.kind c.args.start c.args.end ≡ Ok c.in-Ok.atom = sym c.leaf_atom.ensures ∙ c.in-Ok.is in
    atom_of_leaf _ c.args.context.now.text c.args.context.now.scope.preds c.args.context.now.scope.names c.args.kind c.args.start c.args.end c.in-Ok.atom c.requires.ready.bound is

pub add_found-requires-clause-below : goal.add_found-requires-clause-below
add_found-requires-clause-below c = atom_below _ c.args.context.now.lets c.in-Ok.atom c.atom_node-node.result c.requires.ready.below c.atom_node-node.ensures

pub returns-in-Ok-clause-told : goal.returns-in-Ok-clause-told
returns-in-Ok-clause-told c =
    let is : leaf_atom c.args.context.now.text c.args.context.now.scope.preds c.args.context.now.scope.names c.args.kind c.args.start c.args.end ≡ Ok c.in-Ok.atom = sym c.leaf_atom.ensures ∙ c.in-Ok.is in
    let as_spelled : Result Atom Fault → Result Spelled Fault = λ r. r >>= λ a. Ok (spelled_atom c.args.next c.args.start a) in
    tells_added c.args.context.now.lets (leaf_term c.args.context.now.text c.args.context.now.scope c.args.next c.args.kind c.args.start c.args.end) c.add_found.new.terms c.add_found.result c.atom_node-node.result c.args.start c.atom_part.result c.args.next
    (spelled_atom c.args.next c.args.start c.in-Ok.atom) (ap as_spelled is) (sym c.atom_part.ensures) refl
    (λ id at. atom_there c.add_found.new.terms c.args.context.now.lets c.args.start id c.in-Ok.atom c.atom_node-node.result c.atom_node-node.ensures at)
    c.add_found.ensures.added
