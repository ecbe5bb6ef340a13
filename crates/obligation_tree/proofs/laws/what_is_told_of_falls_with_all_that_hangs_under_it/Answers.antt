use Rattle.std.proofs.Common.{arith}
use Rattle.obligation_tree.proofs.LawLemmas.{what-falls, why-closed}
use Rattle.obligation_tree.proofs.laws.what_is_told_of_falls_with_all_that_hangs_under_it.Goals as goal

pub returns : goal.returns
returns c test entry xs i tree live = (λ closed. why-closed test entry xs tree i i (omega arith) live closed, λ it. what-falls test entry xs it.0 i tree it.1 it.2 live)
