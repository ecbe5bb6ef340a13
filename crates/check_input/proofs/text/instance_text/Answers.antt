use Rattle.std.proofs.Common.{◌≡◌, ◌-◌, ℕ, suc, arith}
use Rattle.check_input.proofs.text.instance_text.Goals as goal

pub clause_at-requires-clause-from_one : goal.clause_at-requires-clause-from_one
clause_at-requires-clause-from_one c = let numbered = c.requires.there.2 in omega (arith, numbered)

pub returns : goal.returns
returns c = λ told.
    let assertion : ℕ = c.args.assertion in
    let numbered = c.requires.there.2 in
    let same : assertion ≡ suc (assertion - 1) = omega (arith, numbered) in
    (c.as_slice-sorts.result.now, told c.as_slice-sorts.result.now (assertion - 1, c.in_ok-clause.clause, same, c.in_ok-clause.ensures, c.as_slice-sorts.ensures), c.in_ok-text.ensures)
