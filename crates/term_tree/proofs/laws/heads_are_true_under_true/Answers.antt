use Rattle.std.proofs.Common.{refl, suc, arith}
use Rattle.term_tree.specs.Agreement.{all_true}
use Rattle.term_tree.proofs.HeadLemmas.{implication}
use Rattle.term_tree.proofs.laws.heads_are_true_under_true.Goals as goal

pub returns : goal.returns
returns c = λ nodes id pred parts args head env arena is at.
    implication all_true (suc pred) nodes arena (λ p values less. refl) id parts head pred args env is at (omega arith)
