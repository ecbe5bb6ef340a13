use Rattle.std.proofs.Common.{rules, FitsSigned}
use Rattle.std.specs.Int.{w64, w128}
use Rattle.std.proofs.lemmas.Int.{to_z-of_z}
use Rattle.term_check.proofs.ValueLemmas.{less_one, less_the_rest}
use Rattle.term_check.proofs.values.difference.Goals as goal

pub returns-in-len1 : goal.returns-in-len1
returns-in-len1 c =
    let whole : FitsSigned w128 c.opposite.result = search rules in
    simp to_z-of_z (less_one c.args.parts.now _ _ c.in-len1.len_at_least c.in-len1.len_below c.opposite.ensures)

pub returns-in-len1-up : goal.returns-in-len1-up
returns-in-len1-up c =
    let first : FitsSigned w64 c.worth.result = search rules in
    let whole : FitsSigned w128 c.without.result = search rules in
    simp to_z-of_z (less_the_rest c.args.parts.now _ _ _ c.in-len1-up.len_at_least c.worth.ensures (simp to_z-of_z at c.without.ensures))
