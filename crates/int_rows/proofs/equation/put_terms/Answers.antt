use Rattle.std.proofs.Common.{arith, length}
use Rattle.std.specs.Prelude.{pos}
use Rattle.int_rows.proofs.WritingLemmas.{more-put, none-put}
use Rattle.int_rows.proofs.equation.put_terms.Goals as goal

pub put-init : goal.put-init
put-init c = record { within = omega arith; row = none-put c.args.terms.now (length c.args.row.now) c.args.row.now c.requires.zeros }

pub put-preserved : goal.put-preserved
put-preserved c = record {
  within = omega (arith, c.put.invariant.within);
  row = more-put c.args.terms.now c.put.at (length c.args.row.now) (0, pos 0) c.put.row c.put_term.new.row c.put-test.true c.put.invariant.within c.requires.below c.put.invariant.row c.put_term.ensures;
}
