use Rattle.std.proofs.Common.{◌≡◌, drop, map, true}
use Rattle.term_tree.specs.declared.script.Pred.{Pred}
use Rattle.clause_form.specs.System.{are_clauses}
use Rattle.clause_normal.specs.Reading.{all_clauses}
use Rattle.clause_normal.specs.machinery.Making.{after}
use Rattle.clause_normal.proofs.reading.read_all.Given as goal

-- the clauses so far stand before those of the assertions to come, and are as a system needs them
abbrev pub invariant-loop-index : goal.invariant-loop-index
invariant-loop-index l = record {
  read : after l.clauses (all_clauses l.script l.index (drop l.index l.script.asserts)) ≡ all_clauses l.script 0 l.script.asserts;
  kept : are_clauses (map (λ (p : Pred). p.args) l.script.preds) l.clauses ≡ true;
}
