-- How far the check of a text's trees has come.
use Rattle.std.specs.Prelude.{◌≡◌, ℕ, List, [], ◌++◌, length, Option, false}
use Rattle.sexp_read.specs.declared.tree.Tree.{Tree}
use Rattle.sexp_read.specs.declared.tree.TextStop.{TextStop}
use Rattle.sexp_read.specs.Trees.{AreTrees}
use Rattle.sort_check.specs.Commands.{Command}
use Rattle.sort_check.specs.Scripts.{outcome}
use Rattle.sort_check.specs.State.{IsState}
use Rattle.sort_check.specs.declared.state.State.{State}

-- the trees so far were commands that the state holds, and the rest decide
pub record IsSoFar (text : List ℕ) (stop : Option TextStop) (trees rest : List Tree) (count : ℕ) (state : State) : Type 0 where
  pub before : List Command
  pub state_is : IsState before state
  pub outcome_is : outcome text stop before rest ≡ outcome text stop [] trees
  pub counted : state.commands ≡ count
  pub running : state.is_over ≡ false

-- The trees that were read up to an offset were commands that the state holds, whatever the text goes on with.
pub record IsReadSoFar (text : List ℕ) (at : ℕ) (state : State) : Type 0 where
  pub trees : List Tree
  pub read : AreTrees text 0 0 trees at
  pub before : List Command
  pub state_is : IsState before state
  pub outcome_is : (stop : Option TextStop) (rest : List Tree) → outcome text stop before rest ≡ outcome text stop [] (trees ++ rest)
  pub counted : state.commands ≡ length trees
  pub running : state.is_over ≡ false
