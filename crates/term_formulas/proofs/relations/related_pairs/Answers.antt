use Rattle.std.proofs.Common.{◌≡◌, ◌+◌, ◌++◌, drop, map, arith}
use Rattle.std.proofs.lemmas.Grind.{common_steps}
use Rattle.lin_atoms.specs.Linear.{Linear}
use Rattle.linear_terms.specs.Linear.{less}
use Rattle.linear_terms.specs.Formula.{pairs, related}
use Rattle.term_formulas.proofs.PairLemmas.{pairs_room, pairs_turn}
use Rattle.term_formulas.proofs.relations.related_pairs.Goals as goal

pub loop-i-preserved : goal.loop-i-preserved
loop-i-preserved c =
    let f = λ (p : Linear × Linear). related c.args.op c.args.sign (less p.0 p.1) in
    let pushed : c.related_with.new.out ≡ c.loop-i.parts ++ map (λ (other : Linear). related c.args.op c.args.sign (less c.index-forms-i.result other)) (drop (c.loop-i.i + 1) c.args.forms.now) = grind (arith, common_steps) in
    record {
      made = pairs_turn f c.args.forms.now c.loop-i.i c.index-forms-i.result c.loop-i.parts c.related_with.new.out (map f (pairs c.args.forms.now)) c.loop-i-test.true c.index-forms-i.is c.loop-i.invariant.made pushed;
      room = λ relation. (pairs_room c.args.forms.now c.loop-i.i c.index-forms-i.result c.loop-i-test.true (c.loop-i.invariant.room relation)).1;
    }
