-- The derivation by hand of `Examples`, as lines: q, then r at true and -2, then false. Assertion 4 and its fact, on
-- which false doesn't rest, have no line.
use Rattle.std.specs.Prelude.{negsuc, List, [], ◌∷◌, true, Some, None}
use Rattle.term_tree.specs.declared.scalar.Value.TheVariants.{Int, Bool as Truth}
use Rattle.answer_text.specs.declared.answer.Line.{Line}

-- (step 1 1 () () q), (step 2 2 () (1) (r true (- 2))) and (step 3 3 (true (- 2)) (2) false)
abbrev pub small_lines : List Line
small_lines =
    (record { number = 1; assertion = 1; values = []; premises = []; head = Some (0, []) })
    ∷ (record { number = 2; assertion = 2; values = []; premises = 1 ∷ []; head = Some (1, Truth true ∷ Int (negsuc 1) ∷ []) })
    ∷ (record { number = 3; assertion = 3; values = Truth true ∷ Int (negsuc 1) ∷ []; premises = 2 ∷ []; head = None })
    ∷ []
