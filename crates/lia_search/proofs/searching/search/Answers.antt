use Rattle.std.proofs.Common.{arith, subst, ℕ}
use Rattle.lin_atoms.specs.declared.form.Form.{Form}
use Rattle.lia_stack.specs.machinery.Searched.{Ends}
use Rattle.lia_stack.proofs.Public.{form-ends}
use Rattle.lia_search.proofs.searching.search.Goals as goal

pub begun-requires-clause-few : goal.begun-requires-clause-few
begun-requires-clause-few c = let ends = form-ends c.args.vars c.args.form c.requires.below in let few = c.requires.few in omega (arith, ends, few)

pub decided-requires-clause-ends : goal.decided-requires-clause-ends
decided-requires-clause-ends c = subst (λ (n : ℕ). Ends c.args.form n c.in_ok-end.end) c.in_ok-search.ensures.nodes (subst (λ (f : Form). Ends f c.in_ok-search.search.nodes c.in_ok-end.end) c.in_ok-search.ensures.form c.in_ok-end.ensures)
