use Rattle.std.proofs.Common.{◌≡◌, ◌≤◌, ◌++◌, drop, length, map, reverse}
use Rattle.lia_stack.specs.machinery.Opened.{opened_part}
use Rattle.lia_stack.proofs.parts.push_parts.Given as goal

-- those of the last parts
abbrev pub invariant-parts : goal.invariant-parts
invariant-parts l = record {
  within : l.left ≤ length l.parts;
  stack : reverse l.stack.items ≡ map (opened_part l.which l.waiting) (drop l.left l.parts) ++ reverse l.fn.stack.items;
}

abbrev pub decreases-parts : goal.decreases-parts
decreases-parts l = l.left
