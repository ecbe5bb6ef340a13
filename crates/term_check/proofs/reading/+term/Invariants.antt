use Rattle.std.proofs.Common.{◌≡◌, ◌+◌, ◌*◌, ◌≤◌, drop, length}
use Rattle.term_check.specs.machinery.Reading.{each_spelled, all_bound, IsGathered}
use Rattle.term_check.specs.Spelling.{Gathered, nothing_yet}
use Rattle.term_check.specs.Found.{Keeps}
use Rattle.term_check.specs.Weight.{weight, weights}
use Rattle.term_check.proofs.reading.+term.Given as goal

abbrev pub decreases-read_term : goal.decreases-read_term
decreases-read_term l = 8 * weight l.tree.now

abbrev pub decreases-read_next : goal.decreases-read_next
decreases-read_next l = 8 * weight l.tree.now + 1

abbrev pub decreases-read_arguments : goal.decreases-read_arguments
decreases-read_arguments l = 8 * weights l.args.now + 2

abbrev pub decreases-read_application : goal.decreases-read_application
decreases-read_application l = 8 * weights l.args.now + 3

abbrev pub decreases-read_list : goal.decreases-read_list
decreases-read_list l = 8 * weights l.items.now + 7

abbrev pub decreases-read_let : goal.decreases-read_let
decreases-read_let l = 8 * weights l.rest.now + 5

abbrev pub decreases-read_bound : goal.decreases-read_bound
decreases-read_bound l = 8 * weights l.items.now + 4

abbrev pub decreases-read_item : goal.decreases-read_item
decreases-read_item l = 8 * weights l.item.now + 3

abbrev pub decreases-read_under_lets : goal.decreases-read_under_lets
decreases-read_under_lets l = 8 * weight l.body.now + 1

abbrev pub decreases-read_quantifier : goal.decreases-read_quantifier
decreases-read_quantifier l = 8 * weights l.rest.now + 5

abbrev pub decreases-read_under_variables : goal.decreases-read_under_variables
decreases-read_under_variables l = 8 * weight l.body.now + 1

-- what was gathered and what is left give what is wanted
abbrev pub invariant-read_arguments-loop-arg : goal.invariant-read_arguments-loop-arg
invariant-read_arguments-loop-arg l = record {
  told : (g : Gathered) × IsGathered l.fn.context.lets l.terms g l.all.ids.items l.all.parts.items l.all.next × (each_spelled l.fn.context.text l.fn.context.scope g (drop l.arg-index l.args) ≡ each_spelled l.fn.context.text l.fn.context.scope (nothing_yet l.next) l.args);
  keeps : Keeps l.fn.terms l.terms;
  kept : l.context ≡ l.fn.context;
  room : l.all.next + weights (drop l.arg-index l.args) ≤ l.next + weights l.args;
  count : length l.all.ids.items ≡ l.arg-index;
}

abbrev pub invariant-read_bound-loop-item : goal.invariant-read_bound-loop-item
invariant-read_bound-loop-item l = record {
  told : (g : Gathered) × IsGathered l.fn.context.lets l.terms g l.all.ids.items l.all.parts.items l.all.next × (all_bound l.fn.context.text l.fn.context.scope g (drop l.item-index l.items) ≡ all_bound l.fn.context.text l.fn.context.scope (nothing_yet l.next) l.items);
  keeps : Keeps l.fn.terms l.terms;
  kept : l.context ≡ l.fn.context;
  room : l.all.next + weights (drop l.item-index l.items) ≤ l.next + weights l.items;
  count : length l.all.ids.items ≤ l.item-index;
}
