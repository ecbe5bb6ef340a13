use Rattle.std.proofs.Common.{◌≡◌, [], replicate}
use Rattle.lemma_frames.proofs.frames.Frames.new.Given as goal

abbrev pub invariant-loop : goal.invariant-loop
invariant-loop l = l.rows.items ≡ replicate l.counter []
