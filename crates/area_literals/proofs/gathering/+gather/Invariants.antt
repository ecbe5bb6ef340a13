use Rattle.std.proofs.Common.{◌≡◌, ◌+◌, ◌*◌, drop, true}
use Rattle.std.specs.List.{list_any}
use Rattle.lin_atoms.specs.Truth.{truth}
use Rattle.book_rules.specs.Areas.{cover, stands_in}
use Rattle.area_literals.proofs.LoopLemmas.{IsUnderWay}
use Rattle.area_literals.proofs.WeightLemmas.{weight, weights}
use Rattle.area_literals.proofs.gathering.+gather.Given as goal

-- a form, then its parts
abbrev pub decreases-gather : goal.decreases-gather
decreases-gather l = 2 * weight l.form.now

abbrev pub decreases-gather_all : goal.decreases-gather_all
decreases-gather_all l = 2 * weights l.forms.now + 1

abbrev pub decreases-gather_first : goal.decreases-gather_first
decreases-gather_first l = 2 * weights l.forms.now + 1

abbrev pub invariant-gather_all-loop-form : goal.invariant-gather_all-loop-form
invariant-gather_all-loop-form l = IsUnderWay l.point (λ form lit. stands_in lit form) (λ form lits. cover lits form) l.forms l.fn.lits.items (drop l.form-index l.forms) l.lits.items

-- none so far is true, and nothing was added
abbrev pub invariant-gather_first-loop-form : goal.invariant-gather_first-loop-form
invariant-gather_first-loop-form l = record {
  some : list_any (truth l.point) (drop l.form-index l.forms) ≡ true;
  same : l.lits.items ≡ l.fn.lits.items;
}
