use Rattle.std.proofs.Common.{codes, decimal}
use Rattle.check_input.proofs.AppendLemmas.{two}
use Rattle.check_input.proofs.text.push_assertion.Goals as goal

pub returns : goal.returns
returns c = two c.args.out.now.items _ _ (codes "; assertion ") (decimal c.args.number) c.in_ok-extend_from_slice.ensures.items c.in_ok-push_short.ensures
