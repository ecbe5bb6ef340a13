use Rattle.int_rows.proofs.FollowLemmas.{follows-solved}
use Rattle.int_rows.proofs.laws.rows_that_follow_are_solved.Goals as goal

pub returns : goal.returns
returns c = follows-solved
