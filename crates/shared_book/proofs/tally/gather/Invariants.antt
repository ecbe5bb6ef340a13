use Rattle.std.proofs.Common.{◌≡◌, ◌+◌, map, vec_len}
use Rattle.std.specs.Prelude.{sum}
use Rattle.shared_book.proofs.tally.gather.Given as goal

-- what is together, and what is left, is what there was
abbrev pub invariant-loop-share : goal.invariant-loop-share
invariant-loop-share g l = record {
  parts : l.all.parts + vec_len l.shares ≡ vec_len l.fn.shares;
  amount : l.all.amount + sum (map (λ share. share.count) l.shares.items) ≡ sum (map (λ share. share.count) l.fn.shares.items);
}

abbrev pub decreases-loop-share : goal.decreases-loop-share
decreases-loop-share g l = vec_len l.shares
