use Rattle.std.proofs.Common.{◌≡◌, ◌<◌, ◌^◌, ℕ, List, length}
use Rattle.std.specs.Prelude.{slice_get, Some}
use Rattle.term_tree.specs.declared.node.TermId.{TermId}
use Rattle.term_tree.specs.declared.node.OpKind.{OpKind}
use Rattle.term_tree.specs.declared.node.Node.TheVariants.{Op}
use Rattle.chc_checker.proofs.counting.count_arguments.Given as goal

-- the same of those so far
abbrev pub invariant-loop-i : goal.invariant-loop-i
invariant-loop-i l = (id : ℕ) (op : OpKind) (args : List TermId) → id < l.i → slice_get l.terms.nodes id ≡ Some (Op op args) → length args < 2 ^ 63
