use Rattle.std.specs.List.{sum_by}
use Rattle.interpretations.specs.Size.{literal_size}
use Rattle.interpretations.specs.Terms.{IsLiteralOf}
use Rattle.interpretations.proofs.MakingLemmas.{conjunction-added}
use Rattle.interpretations.proofs.conjunctions.cube_term.Goals as goal

pub returns-clause-added : goal.returns-clause-added
returns-clause-added c =
    conjunction-added (λ nodes. IsLiteralOf nodes c.args.sorts.now) c.args.cube.now (sum_by literal_size c.args.cube.now) c.args.terms.now.nodes c.literal_terms.new.terms.nodes
    c.joined.new.terms.nodes c.in_ok-parts.parts.items c.in_ok-id.id c.in_ok-parts.ensures.added c.in_ok-id.ensures.added
