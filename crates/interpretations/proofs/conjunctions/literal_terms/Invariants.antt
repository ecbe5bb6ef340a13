use Rattle.std.proofs.Common.{take}
use Rattle.std.specs.List.{sum_by}
use Rattle.interpretations.specs.Size.{literal_size}
use Rattle.interpretations.specs.Terms.{Each, IsLiteralOf}
use Rattle.interpretations.specs.machinery.Added.{AreAdded}
use Rattle.interpretations.proofs.conjunctions.literal_terms.Given as goal

-- the literals so far
abbrev pub invariant-loop-lit : goal.invariant-loop-lit
invariant-loop-lit l =
    AreAdded (λ nodes ids. Each (IsLiteralOf nodes l.sorts) (take l.lit-index l.cube) ids) (sum_by literal_size (take l.lit-index l.cube)) l.fn.terms.nodes l.terms.nodes l.parts.items
