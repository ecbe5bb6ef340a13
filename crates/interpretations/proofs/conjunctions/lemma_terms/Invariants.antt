use Rattle.std.proofs.Common.{take}
use Rattle.std.specs.List.{sum_by}
use Rattle.interpretations.specs.Size.{lemma_size}
use Rattle.interpretations.specs.Terms.{Each, IsLemmaOf}
use Rattle.interpretations.specs.machinery.Added.{AreAdded}
use Rattle.interpretations.specs.machinery.Cubes.{cubes_of}
use Rattle.interpretations.proofs.conjunctions.lemma_terms.Given as goal

-- the lemmas so far
abbrev pub invariant-loop-held : goal.invariant-loop-held
invariant-loop-held l =
    AreAdded (λ nodes ids. Each (IsLemmaOf nodes l.sorts) (take l.held-index (cubes_of l.kept)) ids) (sum_by lemma_size (take l.held-index (cubes_of l.kept))) l.fn.terms.nodes l.terms.nodes l.parts.items
