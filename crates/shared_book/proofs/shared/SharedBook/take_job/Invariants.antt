use Rattle.std.proofs.Common.{◌≡◌}
use Rattle.shared_book.proofs.shared.SharedBook.take_job.Given as goal

-- the share is as it was
abbrev pub invariant-loop : goal.invariant-loop
invariant-loop g l = record {
  count : l.share.count ≡ l.initial.share.count;
  worker : l.share.worker ≡ l.initial.share.worker;
}
