use Rattle.std.proofs.Common.{◌≡◌, ◌+◌, ◌*◌, ◌++◌, take, drop}
use Rattle.std.specs.Prelude.{IsTrue}
use Rattle.std.specs.List.{list_all}
use Rattle.term_tree.specs.Arena.{is_below}
use Rattle.answer_text.specs.Names.{after_spaces}
use Rattle.answer_text.specs.Terms.{term_text}
use Rattle.answer_text.proofs.term.+term.Given as goal

abbrev pub decreases-push_term : goal.decreases-push_term
decreases-push_term l = 3 * l.id.0 + 2

abbrev pub decreases-push_node : goal.decreases-push_node
decreases-push_node l = 3 * l.id.0 + 1

abbrev pub decreases-push_arguments : goal.decreases-push_arguments
decreases-push_arguments l = 3 * l.above.0

abbrev pub invariant-push_arguments-loop-arg : goal.invariant-push_arguments-loop-arg
invariant-push_arguments-loop-arg l = record {
  text : l.out.items ≡ l.fn.out.items ++ after_spaces (λ arg. term_text l.terms.nodes arg.0) (take l.arg-index l.args);
  below : IsTrue (list_all (is_below l.fn.above.0) (drop l.arg-index l.args));
}
