use Rattle.std.proofs.Common.{◌≡◌, ◌≤◌, ◌*◌, ◌^◌, ◌+ℤ◌, drop}
use Rattle.std.specs.Prelude.{nat_abs}
use Rattle.linear_terms.specs.Linear.{all_constants}
use Rattle.linear_terms.proofs.sum.all_constants.Given as goal

-- the sum so far, and what the forms to come add
abbrev pub invariant-loop-form : goal.invariant-loop-form
invariant-loop-form l = record {
  told : l.sum +ℤ all_constants (drop l.form-index l.forms) ≡ all_constants l.forms;
  small : nat_abs l.sum ≤ l.form-index * 2 ^ 64;
}
