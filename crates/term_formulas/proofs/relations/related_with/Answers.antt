use Rattle.lin_atoms.specs.Linear.{Linear}
use Rattle.linear_terms.specs.Linear.{less}
use Rattle.linear_terms.specs.Formula.{related}
use Rattle.term_formulas.proofs.PairLemmas.{others_turn, with_room}
use Rattle.term_formulas.proofs.relations.related_with.Goals as goal

pub loop-other-preserved : goal.loop-other-preserved
loop-other-preserved c = record {
  made = others_turn (λ (other : Linear). related c.args.op c.args.sign (less c.args.first.now other)) c.args.others.now c.loop-other.other-index c.other-item.result c.args.out.now c.loop-other.out c.push.new.self c.in_ok-related.field-0
      c.loop-other-test.true c.other-item.is c.loop-other.invariant.made c.in_ok-related.ensures c.in_ok-push.ensures.ok;
  room = λ relation. (with_room c.args.first.now c.args.others.now c.loop-other.other-index c.other-item.result c.loop-other-test.true (c.loop-other.invariant.room relation)).1;
}
