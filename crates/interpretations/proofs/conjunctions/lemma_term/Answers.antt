use Rattle.std.proofs.Common.{rules, List, subst}
use Rattle.std.specs.List.{sum_by}
use Rattle.term_tree.specs.declared.node.TermId.{TermId}
use Rattle.term_tree.specs.declared.node.OpKind.TheVariants.{Not}
use Rattle.term_tree.specs.declared.node.Node.TheVariants.{Op}
use Rattle.answer_text.specs.Lemmas.{IsNode}
use Rattle.interpretations.specs.Size.{literal_size}
use Rattle.interpretations.specs.machinery.Added.{IsAdded}
use Rattle.interpretations.proofs.MakingLemmas.{denial-added}
use Rattle.interpretations.proofs.conjunctions.lemma_term.Goals as goal

pub returns-clause-added : goal.returns-clause-added
returns-clause-added c =
    denial-added c.args.sorts.now c.args.denied.now (sum_by literal_size c.args.denied.now) c.args.terms.now.nodes c.cube_term.new.terms.nodes c.put-2.new.terms.nodes c.in_ok-part.part c.in_ok-id-2.id
    (search rules) c.in_ok-part.ensures.added
    (subst (λ (args : List TermId). IsAdded (λ nodes k. IsNode nodes k (Op Not args)) 1 c.cube_term.new.terms.nodes c.put-2.new.terms.nodes c.in_ok-id-2.id) c.in_ok-args.ensures c.in_ok-id-2.ensures.added)
