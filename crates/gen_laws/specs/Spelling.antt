-- A text spells a script, whatever offsets its terms have.
use Rattle.std.specs.Prelude.{◌≡◌, ℕ, List, map}
use Rattle.term_tree.specs.declared.script.Script.{Script}
use Rattle.sort_check.specs.Commands.{Command}
use Rattle.sort_check.specs.Scripts.{IsScript, IsScriptOf}

-- the same predicates, nodes and asserted terms, with the same numbers
pub record IsSameButOffsets (a b : Script) : Type 0 where
  pub preds : a.preds ≡ b.preds
  pub nodes : a.terms.nodes ≡ b.terms.nodes
  pub asserts : map (λ s. s.term) a.asserts ≡ map (λ s. s.term) b.asserts
  pub commands : map (λ s. s.command) a.asserts ≡ map (λ s. s.command) b.asserts

-- the text is commands that spell such a script
pub record SpellsScript (text : List ℕ) (script : Script) : Type 0 where
  pub commands : List Command
  pub read : Script
  pub is_script : IsScript text commands
  pub spelled : IsScriptOf commands read
  pub same : IsSameButOffsets read script
