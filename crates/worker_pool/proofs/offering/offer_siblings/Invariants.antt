use Rattle.std.specs.Prelude.{◌≡◌, ◌+◌, ◌≤◌, true}
use Rattle.worker_pool.proofs.offering.offer_siblings.Given as goal

-- no more were taken than were offered, and no more offered than may be
abbrev pub invariant-loop-number : goal.invariant-loop-number
invariant-loop-number g l = record {
  grows : l.fn.share.count ≤ l.share.count;
  few : l.share.count ≤ l.fn.share.count + l.offered;
  most : l.offered ≤ l.most;
  worker : l.share.worker ≡ l.fn.share.worker;
  offered : l.fn.share.has_offered ≡ true → l.share.has_offered ≡ true;
}
