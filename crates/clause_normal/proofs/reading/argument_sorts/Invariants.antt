use Rattle.std.proofs.Common.{◌≡◌, map, take}
use Rattle.term_tree.specs.declared.script.Pred.{Pred}
use Rattle.clause_normal.proofs.reading.argument_sorts.Given as goal

-- those so far
abbrev pub invariant-loop-pred : goal.invariant-loop-pred
invariant-loop-pred l = l.sorts ≡ map (λ (p : Pred). p.args) (take l.pred-index l.preds)
