use Rattle.std.proofs.Common.{◌≡◌, ◌+◌, map, replicate}
use Rattle.std.specs.List.{range_with_len}
use Rattle.shared_book.proofs.shared.shares_of.Given as goal

-- each of the workers so far has a part, and no entries
abbrev pub invariant-loop-worker : goal.invariant-loop-worker
invariant-loop-worker g l = record {
  parts : l.rest.parts + l.worker ≡ l.workers;
  none : l.rest.amount ≡ 0;
  workers : map (λ share. share.worker) l.shares.items ≡ range_with_len 1 l.worker;
  counts : map (λ share. share.count) l.shares.items ≡ replicate l.worker 0;
}
