-- Terms of an arena as it grows.
use Rattle.std.proofs.Common.{ℕ, List, [], ◌∷◌, true, false}
use Rattle.term_tree.specs.declared.node.TermId.{TermId}
use Rattle.term_tree.specs.declared.node.Node.{Node}
use Rattle.term_tree.specs.Arena.{Arena}
use Rattle.term_check.specs.Found.{Keeps}
use Rattle.term_check.specs.Term.{Term, numeral, truth, variable, let_name, predicate, operation, divisible, binding, universal, existential, Terms, none, more, IsNodeAt, IsTermAt, AreTermsAt}

module _ (old new : Arena) (keeps : Keeps old new) where
  node_stays : (id : ℕ) (node : Node) (at : ℕ) → IsNodeAt old id node at → IsNodeAt new id node at
  node_stays id node at h = (keeps.nodes id node h.0, keeps.offsets id at h.1)

  mutual
    pub term_stays : (lets : List TermId) (term : Term) (id : ℕ) → IsTermAt old lets term id → IsTermAt new lets term id
    term_stays lets (numeral at value) id h = node_stays id _ at h
    term_stays lets (truth at true) id h = node_stays id _ at h
    term_stays lets (truth at false) id h = node_stays id _ at h
    term_stays lets (variable at number sort) id h = node_stays id _ at h
    term_stays lets (let_name at number) id h = (h.0, h.1, node_stays id _ at h.2)
    term_stays lets (predicate at number args) id h = (h.0, node_stays id _ at h.1, terms_stay lets args h.0 h.2)
    term_stays lets (operation at op args) id h = (h.0, node_stays id _ at h.1, terms_stay lets args h.0 h.2)
    term_stays lets (divisible at by arg) id h = (h.0, node_stays id _ at h.1, term_stays lets arg h.0.0 h.2)
    term_stays lets (binding at bound body) id h = (h.0, h.1, node_stays id _ at h.2, terms_stay lets bound h.0 h.3, term_stays _ body h.1.0 h.4)
    term_stays lets (universal at first sorts body) id h = (h.0, node_stays id _ at h.1, term_stays lets body h.0.0 h.2)
    term_stays lets (existential at first sorts body) id h = (h.0, node_stays id _ at h.1, term_stays lets body h.0.0 h.2)

    pub terms_stay : (lets : List TermId) (terms : Terms) (ids : List TermId) → AreTermsAt old lets terms ids → AreTermsAt new lets terms ids
    terms_stay lets none [] h = tt
    terms_stay lets none (id ∷ ids) h = absurd h
    terms_stay lets (more t ts) [] h = absurd h
    terms_stay lets (more t ts) (id ∷ ids) h = (term_stays lets t id.0 h.0, terms_stay lets ts ids h.1)
