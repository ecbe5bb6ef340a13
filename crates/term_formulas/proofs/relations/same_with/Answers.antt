use Rattle.lin_atoms.specs.Linear.{Linear}
use Rattle.linear_terms.specs.Formula.{same_bits}
use Rattle.term_formulas.proofs.PairLemmas.{bits_more, others_turn}
use Rattle.term_formulas.proofs.relations.same_with.Goals as goal

pub loop-other-preserved : goal.loop-other-preserved
loop-other-preserved c = record {
  made = others_turn (λ (other : Linear). same_bits c.args.sign c.args.first.now other) c.args.others.now c.loop-other.other-index c.other-item.result c.args.out.now c.loop-other.out c.push.new.self c.in_ok-same_bits.field-0
      c.loop-other-test.true c.other-item.is c.loop-other.invariant.made c.in_ok-same_bits.ensures c.in_ok-push.ensures.ok;
  bits = (bits_more c.args.others.now c.loop-other.other-index c.other-item.result c.loop-other-test.true c.loop-other.invariant.bits).1;
}
