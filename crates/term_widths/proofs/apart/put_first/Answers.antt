use Rattle.term_widths.proofs.FirstLemmas.{puts_here}
use Rattle.term_widths.proofs.apart.put_first.Goals as goal

pub returns-in_ok-keep-in-None : goal.returns-in_ok-keep-in-None
returns-in_ok-keep-in-None c =
    puts_here c.args.own.now c.args.node.now c.in-Var.binder c.in-Var.sort c.class_of-class.result c.args.number c.args.firsts.now c.keep.new.firsts c.in-Var.is c.class_of-class.ensures
    c.in-None.ensures c.in_ok-keep-in-None.ensures.here c.in_ok-keep-in-None.ensures.others
