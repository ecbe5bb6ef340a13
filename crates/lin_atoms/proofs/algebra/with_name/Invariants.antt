use Rattle.std.proofs.Common.{◌≡◌, map, take}
use Rattle.lin_atoms.specs.Algebra.{put_for}
use Rattle.lin_atoms.proofs.algebra.with_name.Given as goal

-- the terms so far
abbrev pub invariant-loop-old : goal.invariant-loop-old
invariant-loop-old l = l.made.items ≡ map (λ t. (put_for l.name l.variable t.0, t.1)) (take l.old-index l.terms)
