use Rattle.std.proofs.Common.{ap, List, ◌∙◌, map}
use Rattle.std.proofs.lemmas.List.{take_all}
use Rattle.lin_atoms.specs.declared.lit.Lit.{Lit}
use Rattle.lin_atoms.specs.declared.form.Form.TheVariants.{Lit as Literal}
use Rattle.lia_divisors.proofs.ThereLemmas.{conjunction-literals}
use Rattle.lia_divisors.proofs.filled.conjunction.Goals as goal

pub returns : goal.returns
returns c = conjunction-literals c.loop-lit.parts c.args.lits.now (c.loop-lit.invariant ∙ ap (λ (ls : List Lit). map (λ lit. Literal lit) ls) (take_all c.loop-lit.lit-index c.args.lits.now c.loop-lit-test.false))
