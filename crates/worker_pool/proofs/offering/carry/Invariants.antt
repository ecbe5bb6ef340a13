use Rattle.std.specs.Prelude.{◌≡◌, ◌≤◌, nat_lt, true}
use Rattle.worker_pool.proofs.offering.carry.Given as goal

-- what was taken so far is seen by the count
abbrev pub invariant-loop-from : goal.invariant-loop-from
invariant-loop-from g l = record {
  taken : l.taken ≡ nat_lt l.fn.share.count l.share.count;
  grows : l.fn.share.count ≤ l.share.count;
  worker : l.share.worker ≡ l.fn.share.worker;
  offered : l.taken ≡ true → l.share.has_offered ≡ true;
}
