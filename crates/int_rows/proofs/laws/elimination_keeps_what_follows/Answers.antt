use Rattle.int_rows.proofs.FollowLemmas.{eliminated-follows, eliminated-follows-back}
use Rattle.int_rows.proofs.laws.elimination_keeps_what_follows.Goals as goal

pub returns-clause-made : goal.returns-clause-made
returns-clause-made c = eliminated-follows

pub returns-clause-back : goal.returns-clause-back
returns-clause-back c = eliminated-follows-back
