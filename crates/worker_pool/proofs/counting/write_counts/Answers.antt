use Rattle.std.proofs.Common.{◌≤◌, ◌∙◌, arith}
use Rattle.std.proofs.lemmas.List.{length-set}
use Rattle.worker_pool.proofs.CountLemmas.{count-more, counts-all}
use Rattle.worker_pool.proofs.counting.write_counts.Goals as goal

pub loop-before-preserved : goal.loop-before-preserved
loop-before-preserved c = record {
  long = length-set c.loop-before.counts c.loop-before.before c.entries_of.result ∙ c.loop-before.invariant.long;
  written = count-more c.args.workers c.args.book.now.journal c.loop-before.counts c.loop-before.before c.entries_of.result c.loop-before-test.true c.loop-before.invariant.long c.loop-before.invariant.written c.entries_of.ensures;
}

pub returns : goal.returns
returns c =
    let past : c.args.workers ≤ c.loop-before.before = let end = c.loop-before-test.false in omega (arith, end) in
    counts-all c.args.workers c.args.book.now.journal c.loop-before.counts c.loop-before.before past c.loop-before.invariant.long c.loop-before.invariant.written
