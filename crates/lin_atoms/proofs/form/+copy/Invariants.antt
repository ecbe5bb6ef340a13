use Rattle.std.proofs.Common.{◌≡◌, take}
use Rattle.lin_atoms.proofs.form.+copy.Given as goal

-- the parts so far
abbrev pub invariant-copy_all-loop-part : goal.invariant-copy_all-loop-part
invariant-copy_all-loop-part l = l.copied ≡ take l.part-index l.parts
