use Rattle.std.proofs.Common.{codes, decimal}
use Rattle.check_input.proofs.AppendLemmas.{three}
use Rattle.check_input.proofs.text.push_hidden.Goals as goal

pub returns-in_ok-extend_from_slice-in-Assertion-2 : goal.returns-in_ok-extend_from_slice-in-Assertion-2
returns-in_ok-extend_from_slice-in-Assertion-2 c =
    rw c.in-Assertion.is (three c.args.out.now.items _ _ _ (codes "; assertion ") (decimal c.in-Assertion.number) (codes "\n")
    c.in_ok-extend_from_slice-in-Assertion.ensures.items c.in_ok-push_short-in-Assertion.ensures c.in_ok-extend_from_slice-in-Assertion-2.ensures.items)
