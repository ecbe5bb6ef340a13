use Rattle.interpretations.proofs.SolutionLemmas.{frame-solves}
use Rattle.interpretations.proofs.solving.frames_solve_the_script.Goals as goal

pub returns : goal.returns
returns c = frame-solves
