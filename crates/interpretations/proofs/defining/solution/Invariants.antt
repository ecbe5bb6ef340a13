use Rattle.std.proofs.Common.{List, ◌++◌, drop}
use Rattle.term_tree.specs.declared.definition.Definition.{Definition}
use Rattle.interpretations.specs.Definitions.{AreDefinitionsOf}
use Rattle.interpretations.proofs.defining.solution.Given as goal

-- the definitions so far, whatever those to come are
abbrev pub invariant-loop-number : goal.invariant-loop-number
invariant-loop-number l =
    (rest : List Definition) → AreDefinitionsOf l.frames.lemmas l.level l.number (drop l.number l.fn.preds) rest → AreDefinitionsOf l.frames.lemmas l.level 0 l.fn.preds (l.definitions.items ++ rest)
