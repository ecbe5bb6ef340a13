use Rattle.std.proofs.Common.{arith, []}
use Rattle.obligation_tree.proofs.ClosingLemmas.{length-closing}
use Rattle.obligation_tree.proofs.LawLemmas.{closed-now, closed-stays, live-stays}
use Rattle.obligation_tree.proofs.laws.closing_only_closes.Goals as goal

pub returns : goal.returns
returns c = record {
  long = λ test entry xs. (let more = length-closing test entry [] xs in omega (arith, more));
  now = closed-now;
  before = closed-stays;
  live = live-stays;
}
