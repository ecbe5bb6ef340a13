use Rattle.std.proofs.Common.{refl}
use Rattle.int_rows.proofs.Public.{same-reflexive}
use Rattle.simplex_core.proofs.EndLemmas.{run-means}
use Rattle.simplex_core.proofs.FollowingLemmas.{stopped}
use Rattle.simplex_core.proofs.following.feasible.Goals as goal

pub returns-in-Ok : goal.returns-in-Ok
returns-in-Ok c =
    let told = run-means c.args.t.now c.follow-answer.new.t c.follow-answer.result c.table_law.ensures c.in-Ok.ensures.few c.follow-answer.ensures in
    record { run = c.follow-answer.ensures; means = told.0; floors = told.1; space = told.2; bounds = told.3 }

pub returns-in-Err : goal.returns-in-Err
returns-in-Err c = record {
  run = stopped c.args.t.now c.in-Err.stop;
  means = tt;
  floors = tt;
  space = same-reflexive c.args.t.now.rows;
  bounds = record { variables = refl; lower = refl; upper = refl };
}
