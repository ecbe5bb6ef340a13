use Rattle.std.proofs.Common.{inr, refl}
use Rattle.chc_checker.proofs.whole.wrong_at.Goals as goal

pub returns : goal.returns
returns c = λ nodes script text bad. inr (c.args.offset, bad, refl)
