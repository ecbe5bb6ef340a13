use Rattle.std.proofs.Common.{◌≡◌, ◌-◌, ◌<◌, ◌≤◌, ℕ, suc, length, refl, arith, rules}
use Rattle.std.proofs.lemmas.Option.{slice_get_read}
use Rattle.check_derivation.proofs.FoundLemmas.{unnamed_past, unnamed_zero}
use Rattle.check_derivation.proofs.lines.judged.Goals as goal

pub judged_by-requires-clause-clause : goal.judged_by-requires-clause-clause
judged_by-requires-clause-clause c =
    let clauses = c.args.clauses.now in
    let assertion : ℕ = c.args.line.now.assertion in
    let within : assertion ≤ length clauses = search rules in
    let names : assertion ≡ suc (assertion - 1) = omega (arith, c.if-line-eq0.false) in
    let less : assertion - 1 < length clauses = omega (arith, names, within) in
    (assertion - 1, names, c.requires.clauses.each (assertion - 1) c.index-clauses-line.result (slice_get_read clauses (length clauses) (assertion - 1) c.index-clauses-line.result refl less c.index-clauses-line.is))
