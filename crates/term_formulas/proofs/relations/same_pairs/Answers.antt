use Rattle.std.proofs.Common.{◌≡◌, ◌+◌, ◌++◌, drop, map, arith}
use Rattle.std.proofs.lemmas.Grind.{common_steps}
use Rattle.std.proofs.lemmas.List.{take_rest}
use Rattle.lin_atoms.specs.Linear.{Linear}
use Rattle.linear_terms.specs.Formula.{pairs, same_bits}
use Rattle.term_formulas.proofs.PairLemmas.{bits_behind, bits_more, pairs_turn}
use Rattle.term_formulas.proofs.relations.same_pairs.Goals as goal

pub loop-i-preserved : goal.loop-i-preserved
loop-i-preserved c =
    let f = λ (p : Linear × Linear). same_bits c.args.sign p.0 p.1 in
    let pushed : c.same_with.new.out ≡ c.loop-i.parts ++ map (λ (other : Linear). same_bits c.args.sign c.index-bits-i.result other) (drop (c.loop-i.i + 1) c.args.bits.now) = grind (arith, common_steps) in
    record {
      made = pairs_turn f c.args.bits.now c.loop-i.i c.index-bits-i.result c.loop-i.parts c.same_with.new.out (map f (pairs c.args.bits.now)) c.loop-i-test.true c.index-bits-i.is c.loop-i.invariant.made pushed;
      bits = (bits_more c.args.bits.now c.loop-i.i c.index-bits-i.result c.loop-i-test.true c.loop-i.invariant.bits).1;
    }

pub same_with-requires : goal.same_with-requires
same_with-requires c = bits_behind c.args.bits.now _ c.loop-i.i c.index-bits-i.result c.loop-i-test.true c.index-bits-i.is (take_rest c.args.bits.now (c.loop-i.i + 1)) c.loop-i.invariant.bits
