use Rattle.std.proofs.Common.{codes}
use Rattle.gen_text.specs.Texts.{leaves_text, parents_text, root_text}
use Rattle.gen_text.proofs.AppendLemmas.{five}
use Rattle.gen_text.proofs.text.push_script.Goals as goal

pub returns : goal.returns
returns c =
    five c.args.out.now.items _ _ _ _ _ (codes "(set-logic HORN)\n(declare-fun node (Int Int) Bool)\n") (leaves_text c.args.low c.args.high) parents_text (root_text c.args.depth c.args.start) (codes "(check-sat)\n")
    c.in_ok-extend_from_slice.ensures.items c.in_ok-push_leaves.ensures c.in_ok-push_parents.ensures c.in_ok-push_root.ensures c.in_ok-extend_from_slice-2.ensures.items
