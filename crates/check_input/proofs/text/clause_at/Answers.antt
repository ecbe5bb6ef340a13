use Rattle.std.proofs.Common.{◌≡◌, ◌-◌, ◌<◌, ℕ, suc, length, subst, arith, rules}
use Rattle.std.proofs.lemmas.Option.{slice_get_within}
use Rattle.std.specs.Prelude.{IsErrOf}
use Rattle.horn_shape.specs.declared.stop.HornStop.TheVariants.{NotHorn}
use Rattle.horn_shape.specs.Clause.{IsClauseOf}
use Rattle.horn_shape.proofs.ClauseLemmas.{legal_has_assertion}
use Rattle.check_derivation.proofs.FoundLemmas.{not_both}
use Rattle.check_input.proofs.text.clause_at.Goals as goal

pub clause_of-requires : goal.clause_of-requires
clause_of-requires c =
    let there = c.requires.there in
    let numbered = there.2 in
    let is = there.3 in
    let assertion : ℕ = c.args.assertion in
    let script = c.args.script.now in
    let less : there.0 < length script.asserts = slice_get_within script.asserts there.0 is.assertion is.there in
    let before : assertion - 1 < length script.asserts = omega (arith, numbered, less) in
    legal_has_assertion script (assertion - 1) c.requires.legal before

pub unreachable-requires : goal.unreachable-requires
unreachable-requires c =
    let there = c.requires.there in
    let numbered = there.2 in
    let assertion : ℕ = c.args.assertion in
    let script = c.args.script.now in
    let told : IsErrOf c.clause_of.result (NotHorn c.in-Err-NotHorn.field-0-0) = search rules in
    let bad = c.clause_of.ensures.not_horn c.in-Err-NotHorn.field-0-0 told in
    let same : there.0 ≡ assertion - 1 = omega (arith, numbered) in
    not_both script (assertion - 1) c.in-Err-NotHorn.field-0-0 there.1 bad (subst (λ (i : ℕ). IsClauseOf script i there.1) same there.3)
