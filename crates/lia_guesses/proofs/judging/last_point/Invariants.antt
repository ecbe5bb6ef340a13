use Rattle.std.proofs.Common.{length}
use Rattle.lia_guesses.proofs.judging.last_point.Given as goal

abbrev pub decreases-guesses : goal.decreases-guesses
decreases-guesses l = length l.guesses.items
