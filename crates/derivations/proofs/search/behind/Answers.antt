use Rattle.std.proofs.Common.{arith, subst}
use Rattle.std.proofs.lemmas.List.{get_or_default}
use Rattle.derivations.specs.Facts.{tuple_of}
use Rattle.derivations.specs.machinery.Index.{Begins}
use Rattle.derivations.proofs.FrontLemmas.{run_more}
use Rattle.derivations.proofs.search.behind.Goals as goal

pub loop-high-preserved : goal.loop-high-preserved
loop-high-preserved c =
    let inv = c.loop-high.invariant in let test = c.loop-high-test.true in let after = inv.after in
    record {
      after = omega arith;
      within = omega arith;
      begins = run_more (tuple_of c.args.notes.now) c.args.row.now c.args.front.now c.args.low c.loop-high.high inv.begins test (c.begins.ensures.yes c.if-not-begins.false);
    }

pub returns-then-not-begins : goal.returns-then-not-begins
returns-then-not-begins c =
    let inv = c.loop-high.invariant in
    record {
      after = inv.after;
      within = inv.within;
      begins = inv.begins;
      ends = λ d l here. c.begins.ensures.no c.if-not-begins.true (subst (λ n. Begins c.args.front.now (tuple_of c.args.notes.now n)) (get_or_default c.args.row.now c.loop-high.high d 0 l) here);
    }

pub returns : goal.returns
returns c =
    let inv = c.loop-high.invariant in let past = c.loop-high-test.false in
    record { after = inv.after; within = inv.within; begins = inv.begins; ends = λ d l here. absurd (omega arith) }
