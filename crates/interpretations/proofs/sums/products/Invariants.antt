use Rattle.std.proofs.Common.{◌*◌, take}
use Rattle.answer_text.specs.Lemmas.{IsProduct}
use Rattle.interpretations.specs.Terms.{Each}
use Rattle.interpretations.specs.machinery.Added.{AreAdded}
use Rattle.interpretations.proofs.sums.products.Given as goal

-- the products so far
abbrev pub invariant-loop-term : goal.invariant-loop-term
invariant-loop-term l = AreAdded (λ nodes ids. Each (IsProduct nodes l.sorts) (take l.term-index l.addends) ids) (7 * l.term-index) l.fn.terms.nodes l.terms.nodes l.items.items
