use Rattle.std.proofs.Common.{codes, decimal}
use Rattle.gen_text.proofs.AppendLemmas.{five}
use Rattle.gen_text.proofs.text.push_leaves.Goals as goal

pub returns : goal.returns
returns c =
    five c.args.out.now.items _ _ _ _ _ (codes "(assert (forall ((d Int) (i Int)) (=> (and (= d 0) (<= ") (decimal c.args.low) (codes " i) (< i ") (decimal c.args.high) (codes ")) (node d i))))\n")
    c.in_ok-extend_from_slice.ensures.items c.in_ok-push_number.ensures c.in_ok-extend_from_slice-2.ensures.items c.in_ok-push_number-2.ensures c.in_ok-extend_from_slice-3.ensures.items
