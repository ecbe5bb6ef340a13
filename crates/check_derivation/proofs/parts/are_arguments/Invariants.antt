use Rattle.std.proofs.Common.{◌≡◌, drop}
use Rattle.term_tree.specs.Value.{environment_of}
use Rattle.check_derivation.specs.machinery.Tests.{agree, is_argument}
use Rattle.check_derivation.proofs.parts.are_arguments.Given as goal

-- those to come decide
abbrev pub invariant-loop-i : goal.invariant-loop-i
invariant-loop-i l = agree (is_argument l.terms.nodes (environment_of l.values)) (drop l.i l.args) (drop l.i l.said) ≡ agree (is_argument l.terms.nodes (environment_of l.values)) l.args l.said
