use Rattle.std.proofs.Common.{◌≡◌, rules, FitsSigned}
use Rattle.std.specs.Int.{w64, w128}
use Rattle.std.proofs.lemmas.Int.{to_z-of_z}
use Rattle.term_check.specs.Rules.{quotient}
use Rattle.term_check.proofs.ValueLemmas.{at_two}
use Rattle.term_check.proofs.values.quotient_of.Goals as goal

pub returns-in-len2-up : goal.returns-in-len2-up
returns-in-len2-up c =
    let first : FitsSigned w64 c.worth.result = search rules in
    let second : FitsSigned w64 c.worth-in-len2-up.result = search rules in
    let whole : FitsSigned w128 c.quotient.result = search rules in
    let is : c.quotient.result ≡ quotient c.worth.result c.worth-in-len2-up.result = simp to_z-of_z at c.quotient.ensures in
    simp to_z-of_z (at_two quotient c.args.parts.now _ _ _ _ _ c.in-len2-up.len_at_least c.worth.ensures c.worth-in-len2-up.ensures is)
