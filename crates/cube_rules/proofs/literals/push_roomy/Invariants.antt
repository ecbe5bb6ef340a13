use Rattle.std.proofs.Common.{◌≡◌, ◌++◌, drop}
use Rattle.cube_rules.specs.machinery.Literals.{roomy_denials}
use Rattle.cube_rules.proofs.literals.push_roomy.Given as goal

-- the rest is to come
abbrev pub invariant-loop-lit : goal.invariant-loop-lit
invariant-loop-lit l = l.lits.items ++ roomy_denials l.args (drop l.lit-index l.cube) ≡ l.fn.lits.items ++ roomy_denials l.args l.cube
