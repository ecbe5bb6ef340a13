use Rattle.std.proofs.Common.{length}
use Rattle.lia_guesses.proofs.forms.put_forms.Given as goal

abbrev pub decreases-ranges-2 : goal.decreases-ranges-2
decreases-ranges-2 l = length l.ranges.items
