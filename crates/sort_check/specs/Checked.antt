-- What a checker finds of a text: the script that its legal commands spell, and the refusal behind them.
use Rattle.std.specs.Prelude.{◌≡◌, ℕ, List, [], Option}
use Rattle.sexp_read.specs.declared.tree.Tree.{Tree}
use Rattle.sexp_read.specs.declared.tree.TextStop.{TextStop}
use Rattle.sexp_read.specs.Trees.{IsReading}
use Rattle.term_tree.specs.declared.refusal.Checked.{Checked}
use Rattle.sort_check.specs.Commands.{Command}
use Rattle.sort_check.specs.Scripts.{IsScriptOf, outcome}

-- of a text with these trees and this fault: what its legal commands spell, and the refusal behind them
pub record IsChecked (text : List ℕ) (trees : List Tree) (stop : Option TextStop) (checked : Checked) : Type 0 where
  pub commands : List Command
  pub outcome_is : outcome text stop [] trees ≡ record { commands = commands; refusal = checked.stop }
  pub script : IsScriptOf commands checked.script

-- what is found of a text: that of the trees and the fault that it has
abbrev pub IsCheckedText : List ℕ → Checked → Type 0
IsCheckedText text checked = (trees : List Tree) × (stop : Option TextStop) × IsReading text trees stop × IsChecked text trees stop checked
