use Rattle.std.proofs.Common.{ℕ, List, ap, ◌∙◌}
use Rattle.std.specs.List.{list_all}
use Rattle.std.specs.BTreeSet.{keys}
use Rattle.term_tree.proofs.PairLemmas.{all_inserted}
use Rattle.term_tree.proofs.pairs.put_pair.Goals as goal

pub returns : goal.returns
returns c = λ test.
    ap (λ (pairs : List (ℕ × ℕ)). list_all test pairs) c.in_ok-insert.ensures.keys ∙ all_inserted test (keys c.args.pairs.now) (c.args.left.0, c.args.right.0)
