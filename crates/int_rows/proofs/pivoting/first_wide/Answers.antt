use Rattle.std.proofs.Common.{◌<◌, sym, ◌∙◌, subst, map, rules, FitsSigned}
use Rattle.std.specs.Int.{w128}
use Rattle.std.proofs.lemmas.Int.{to_z-of_z}
use Rattle.std.proofs.lemmas.List.{length-map}
use Rattle.int_rows.proofs.PivotedLemmas.{length-pivoted}
use Rattle.int_rows.proofs.pivoting.first_wide.Goals as goal

pub returns-in-Some-clause-some : goal.returns-in-Some-clause-some
returns-in-Some-clause-some c =
    let entry_fits : FitsSigned w128 c.in-Some.entry = search rules in
    let long = length-pivoted c.args.pivot c.args.column (map (λ r. r.items) c.args.rows.now) ∙ length-map c.args.rows.now (λ r. r.items) in
    simp to_z-of_z (record { within = subst (λ n. c.loop-i.i < n) (sym long) c.loop-i-test.true; contains = c.in-Some.ensures.some.0; is_wide = c.in-Some.ensures.some.1 })
