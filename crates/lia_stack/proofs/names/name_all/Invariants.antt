use Rattle.std.proofs.Common.{◌≡◌, ◌≤◌, ◌-◌, ◌++◌, length}
use Rattle.lia_stack.specs.machinery.Opened.{all_named, steps_of_names}
use Rattle.lia_stack.proofs.names.name_all.Given as goal

-- the names so far, and those of the rest
abbrev pub invariant-name : goal.invariant-name
invariant-name l = record {
  at : l.at ≡ length l.waiting.reasons;
  some : length l.waiting.reasons ≤ length l.waiting.lits;
  each : length l.waiting.numbers ≡ length l.waiting.lits;
  waiting : all_named l.waiting ≡ all_named l.fn.waiting;
  steps : l.steps.items ++ steps_of_names l.waiting ≡ l.fn.steps.items ++ steps_of_names l.fn.waiting;
}

abbrev pub decreases-name : goal.decreases-name
decreases-name l = length l.waiting.lits - l.at
