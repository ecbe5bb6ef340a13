use Rattle.std.proofs.Common.{◌≡◌, map, take}
use Rattle.lin_atoms.specs.declared.form.Form.TheVariants.{Lit as Literal}
use Rattle.lia_divisors.proofs.filled.conjunction.Given as goal

-- the literals so far
abbrev pub invariant-loop-lit : goal.invariant-loop-lit
invariant-loop-lit l = l.parts ≡ map (λ lit. Literal lit) (take l.lit-index l.lits)
