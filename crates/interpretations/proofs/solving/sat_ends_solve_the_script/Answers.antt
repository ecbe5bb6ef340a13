use Rattle.interpretations.proofs.EndLemmas.{end-solves}
use Rattle.interpretations.proofs.solving.sat_ends_solve_the_script.Goals as goal

pub returns : goal.returns
returns c = end-solves
