use Rattle.std.proofs.Common.{map, arith}
use Rattle.lin_atoms.specs.Linear.{Linear}
use Rattle.linear_terms.specs.Linear.{less}
use Rattle.linear_terms.specs.Formula.{neighbours, related}
use Rattle.term_formulas.proofs.PairLemmas.{neighbours_end, neighbours_turn, room_turn}
use Rattle.term_formulas.proofs.relations.related_neighbours.Goals as goal

pub loop-i-preserved : goal.loop-i-preserved
loop-i-preserved c =
    let f = λ (p : Linear × Linear). related c.args.op c.args.sign (less p.0 p.1) in
    record {
      from = omega arith;
      made = neighbours_turn f c.args.forms.now c.loop-i.i c.index-forms-i.result c.index-forms-i-in-loop-i.result c.loop-i.parts c.push.new.self (map f (neighbours c.args.forms.now)) c.in_ok-related.field-0
          c.loop-i.invariant.from c.loop-i-test.true c.index-forms-i.is c.index-forms-i-in-loop-i.is c.loop-i.invariant.made c.in_ok-related.ensures c.in_ok-push.ensures.ok;
      room = λ relation. room_turn c.args.forms.now c.loop-i.i c.index-forms-i.result c.loop-i.invariant.from c.loop-i-test.true (c.loop-i.invariant.room relation);
    }

pub returns : goal.returns
returns c =
    let f = λ (p : Linear × Linear). related c.args.op c.args.sign (less p.0 p.1) in
    neighbours_end f c.args.forms.now c.loop-i.i c.loop-i.parts (map f (neighbours c.args.forms.now)) c.loop-i-test.false c.loop-i.invariant.made
