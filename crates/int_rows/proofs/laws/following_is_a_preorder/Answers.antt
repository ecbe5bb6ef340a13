use Rattle.int_rows.proofs.FollowLemmas.{follows-own, follows-trans}
use Rattle.int_rows.proofs.laws.following_is_a_preorder.Goals as goal

pub returns-clause-own : goal.returns-clause-own
returns-clause-own c = follows-own

pub returns-clause-transitive : goal.returns-clause-transitive
returns-clause-transitive c = follows-trans
