use Rattle.std.proofs.Common.{◌≡◌, drop}
use Rattle.term_tree.specs.Value.{environment_of}
use Rattle.check_derivation.specs.machinery.Tests.{agree, is_given}
use Rattle.check_derivation.proofs.step.are_given.Given as goal

-- those to come decide
abbrev pub invariant-loop-i : goal.invariant-loop-i
invariant-loop-i l = agree (is_given l.terms.nodes (environment_of l.values) l.lines) (drop l.i l.atoms) (drop l.i l.premises) ≡ agree (is_given l.terms.nodes (environment_of l.values) l.lines) l.atoms l.premises
