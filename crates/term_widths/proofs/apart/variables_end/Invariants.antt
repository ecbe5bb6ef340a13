use Rattle.std.proofs.Common.{◌≤◌, ◌^◌}
use Rattle.term_widths.specs.machinery.Apart.{EndsBelow}
use Rattle.term_widths.proofs.apart.variables_end.Given as goal

-- of the terms so far
abbrev pub invariant-loop-i : goal.invariant-loop-i
invariant-loop-i l = record {
  each : EndsBelow l.terms.nodes l.i l.end;
  short : l.end ≤ 2 ^ 32;
}
