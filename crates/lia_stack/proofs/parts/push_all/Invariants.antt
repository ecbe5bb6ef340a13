use Rattle.std.proofs.Common.{◌≡◌, ◌++◌, take}
use Rattle.lia_stack.proofs.parts.push_all.Given as goal

-- those so far
abbrev pub invariant-loop-parts : goal.invariant-loop-parts
invariant-loop-parts l = l.made.items ≡ l.fn.made.items ++ take l.parts-index l.cases
