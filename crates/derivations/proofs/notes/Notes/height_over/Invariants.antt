use Rattle.std.proofs.Common.{◌≡◌, ◌≤◌, length, map, take}
use Rattle.derivations.specs.Facts.{greatest, height_of}
use Rattle.derivations.proofs.notes.Notes.height_over.Given as goal

abbrev pub invariant-loop-id : goal.invariant-loop-id
invariant-loop-id l = (l.most ≤ length l.self) × (l.most ≡ greatest (map (height_of l.self) (take l.id-index l.premises)))
