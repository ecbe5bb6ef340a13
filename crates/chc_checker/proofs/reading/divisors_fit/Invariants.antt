use Rattle.std.proofs.Common.{◌≡◌, ◌<◌, ◌^◌, ℕ, true}
use Rattle.std.specs.Prelude.{slice_get, Some, ℤ, pos, int_lt}
use Rattle.term_tree.specs.declared.node.TermId.{TermId}
use Rattle.term_tree.specs.declared.node.Node.TheVariants.{Divisible}
use Rattle.chc_checker.proofs.reading.divisors_fit.Given as goal

-- the same of those so far
abbrev pub invariant-loop-i : goal.invariant-loop-i
invariant-loop-i l = (id : ℕ) (by : ℤ) (arg : TermId) → id < l.i → slice_get l.terms.nodes id ≡ Some (Divisible by arg) → int_lt by (pos (2 ^ 63)) ≡ true
