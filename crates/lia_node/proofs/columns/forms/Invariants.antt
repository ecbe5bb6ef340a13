use Rattle.std.proofs.Common.{◌≡◌, ◌++◌, length, map, reverse}
use Rattle.int_rows.specs.Node.{in_rows}
use Rattle.lia_node.proofs.columns.forms.Given as goal

-- those that are left, and the forms so far from the last on
abbrev pub invariant-forms : goal.invariant-forms
invariant-forms l = map (λ b. b.form) (in_rows l.left.items) ++ reverse l.made.items ≡ map (λ b. b.form) (in_rows l.fn.bounds.items)

abbrev pub decreases-forms : goal.decreases-forms
decreases-forms l = length l.left.items
