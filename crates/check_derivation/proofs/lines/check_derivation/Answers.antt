use Rattle.std.proofs.Common.{◌≡◌, ◌+◌, ◌≤◌, ℕ, suc, length, refl, subst, arith, rules}
use Rattle.std.proofs.lemmas.Option.{slice_get_read}
use Rattle.std.specs.Prelude.{slice_get, Option, Some, None}
use Rattle.check_derivation.specs.declared.finding.Finding.{Finding}
use Rattle.check_derivation.specs.machinery.Tests.{IsJudged}
use Rattle.check_derivation.proofs.FoundLemmas.{right_more}
use Rattle.check_derivation.proofs.lines.check_derivation.Goals as goal

pub loop-place-preserved : goal.loop-place-preserved
loop-place-preserved c = λ i other less at.
    let script = c.args.script.now in
    let lines = c.args.lines.now in
    let place : ℕ = c.loop-place.place in
    let line = c.index-lines-place.result in
    let here : slice_get lines place ≡ Some line = slice_get_read lines (length lines) place line refl c.loop-place-test.true c.index-lines-place.is in
    let none : IsJudged script lines (place + 1) line None = subst (λ (found : Option Finding). IsJudged script lines (place + 1) line found) c.in_default.is c.in_ok-found.ensures in
    right_more script lines place line here c.loop-place.invariant (none place (omega arith)) i other (omega (arith, less)) at

pub returns : goal.returns
returns c = c.ended.ensures c.args.script.now (λ i line less at. c.loop-place.invariant i line (let past = c.loop-place-test.false in omega (arith, past, less)) at)
