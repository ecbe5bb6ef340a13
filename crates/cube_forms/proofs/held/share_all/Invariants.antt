use Rattle.std.proofs.Common.{◌≡◌, take}
use Rattle.cube_forms.proofs.held.share_all.Given as goal

abbrev pub invariant-loop-one : goal.invariant-loop-one
invariant-loop-one g l = l.shares.items ≡ take l.one-index l.held
