use Rattle.std.proofs.Common.{codes, decimal}
use Rattle.gen_text.proofs.AppendLemmas.{five}
use Rattle.gen_text.proofs.text.push_root.Goals as goal

pub returns : goal.returns
returns c =
    five c.args.out.now.items _ _ _ _ _ (codes "(assert (not (node ") (decimal c.args.depth) (codes " ") (decimal c.args.start) (codes ")))\n")
    c.in_ok-extend_from_slice.ensures.items c.in_ok-push_number.ensures c.in_ok-extend_from_slice-2.ensures.items c.in_ok-push_number-2.ensures c.in_ok-extend_from_slice-3.ensures.items
