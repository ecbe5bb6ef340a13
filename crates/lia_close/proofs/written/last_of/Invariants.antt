use Rattle.std.proofs.Common.{◌≡◌, take, drop, reverse}
use Rattle.lia_close.proofs.written.last_of.Given as goal

-- `counter` trees were taken off
abbrev pub invariant-off : goal.invariant-off
invariant-off l = record {
  last : l.last ≡ take l.counter (reverse l.fn.trees.items);
  rest : reverse l.trees.items ≡ drop l.counter (reverse l.fn.trees.items);
}
