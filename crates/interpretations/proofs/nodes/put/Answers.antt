use Rattle.interpretations.proofs.FullLemmas.{put-added}
use Rattle.interpretations.proofs.nodes.put.Goals as goal

pub returns-clause-added : goal.returns-clause-added
returns-clause-added c = put-added c.args.terms.now.nodes c.add.new.self.nodes c.args.node c.in_ok-id.id c.in_ok-id.ensures.id c.in_ok-id.ensures.nodes
