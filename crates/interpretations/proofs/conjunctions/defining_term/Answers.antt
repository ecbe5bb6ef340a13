use Rattle.std.specs.List.{sum_by}
use Rattle.interpretations.specs.Size.{lemma_size}
use Rattle.interpretations.specs.Terms.{IsLemmaOf}
use Rattle.interpretations.specs.machinery.Cubes.{cubes_of}
use Rattle.interpretations.proofs.MakingLemmas.{conjunction-added}
use Rattle.interpretations.proofs.conjunctions.defining_term.Goals as goal

pub returns-clause-added : goal.returns-clause-added
returns-clause-added c =
    conjunction-added (λ nodes. IsLemmaOf nodes c.args.sorts.now) (cubes_of c.args.kept.now) (sum_by lemma_size (cubes_of c.args.kept.now)) c.args.terms.now.nodes c.lemma_terms.new.terms.nodes
    c.joined.new.terms.nodes c.in_ok-parts.parts.items c.in_ok-id.id c.in_ok-parts.ensures.added c.in_ok-id.ensures.added
