use Rattle.std.proofs.Common.{◌-◌, ◌≤◌, length}
use Rattle.answer_text.specs.machinery.Places.{AreEmpty}
use Rattle.answer_text.proofs.definitions.empty_places.Given as goal

abbrev pub invariant-loop-places : goal.invariant-loop-places
invariant-loop-places l = AreEmpty (length l.places.items) l.places.items × (length l.places.items ≤ l.count)

abbrev pub decreases-loop-places : goal.decreases-loop-places
decreases-loop-places l = l.count - length l.places.items
