use Rattle.std.proofs.Common.{◌≡◌, take, replicate}
use Rattle.clause_gen.proofs.arena.terms_of.Given as goal

abbrev pub invariant-loop-node : goal.invariant-loop-node
invariant-loop-node l = record {
  nodes : l.terms.nodes ≡ take l.node-index l.nodes;
  offsets : l.terms.offsets ≡ replicate l.node-index 0;
}
