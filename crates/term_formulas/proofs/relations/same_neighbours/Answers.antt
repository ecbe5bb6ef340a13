use Rattle.std.proofs.Common.{map, arith}
use Rattle.lin_atoms.specs.Linear.{Linear}
use Rattle.linear_terms.specs.Formula.{neighbours, same_bits}
use Rattle.term_formulas.proofs.PairLemmas.{bits_here, bits_turn, neighbours_end, neighbours_turn}
use Rattle.term_formulas.proofs.relations.same_neighbours.Goals as goal

pub loop-i-preserved : goal.loop-i-preserved
loop-i-preserved c =
    let f = λ (p : Linear × Linear). same_bits c.args.sign p.0 p.1 in
    record {
      from = omega arith;
      made = neighbours_turn f c.args.bits.now c.loop-i.i c.index-bits-i.result c.index-bits-i-in-loop-i.result c.loop-i.parts c.push.new.self (map f (neighbours c.args.bits.now)) c.in_ok-same_bits.field-0
          c.loop-i.invariant.from c.loop-i-test.true c.index-bits-i.is c.index-bits-i-in-loop-i.is c.loop-i.invariant.made c.in_ok-same_bits.ensures c.in_ok-push.ensures.ok;
      bits = bits_turn c.args.bits.now c.loop-i.i c.index-bits-i.result c.loop-i.invariant.from c.loop-i-test.true c.loop-i.invariant.bits;
    }

pub returns : goal.returns
returns c =
    let f = λ (p : Linear × Linear). same_bits c.args.sign p.0 p.1 in
    neighbours_end f c.args.bits.now c.loop-i.i c.loop-i.parts (map f (neighbours c.args.bits.now)) c.loop-i-test.false c.loop-i.invariant.made

pub same_bits-requires : goal.same_bits-requires
same_bits-requires c = bits_here c.args.bits.now c.loop-i.i c.index-bits-i.result c.index-bits-i-in-loop-i.result c.loop-i.invariant.from c.loop-i-test.true c.index-bits-i.is c.index-bits-i-in-loop-i.is c.loop-i.invariant.bits
