use Rattle.std.proofs.Common.{◌≡◌, ◌++◌, suc, length, drop}
use Rattle.step_rules.specs.Views.{facts_of}
use Rattle.cert_derivations.specs.Lines.{fact_lines, lines_from}
use Rattle.cert_derivations.specs.machinery.Adding.{steps_left}
use Rattle.cert_derivations.proofs.of_facts.lines.Given as goal

abbrev pub invariant-loop-id : goal.invariant-loop-id
invariant-loop-id l =
    l.lines.items ++ lines_from (suc (length l.lines.items)) (steps_left l.system (facts_of l.facts) l.among (drop l.id-index l.among)) ≡ fact_lines l.system (facts_of l.facts) l.among
