-- When the parts of a term start in the order of its text, each at a place of its own: from a low offset on, and before a high one.
use Rattle.std.specs.Prelude.{ℕ, ◌+◌, ◌<◌, ◌≤◌, List, [], ◌∷◌}
use Rattle.term_check.specs.Term.{Term, numeral, truth, variable, let_name, predicate, operation, divisible, binding, universal, existential, Terms, none, more}
use Rattle.sort_check.specs.Commands.{Command}
use Rattle.sort_check.specs.Commands.Command.{SetLogic, Inform, Declare, Assert, CheckSat, GetModel, Exit}

abbrev mutual
  pub IsLaid : ℕ → ℕ → Term → Type 0
  IsLaid low high (numeral at value) = (low ≤ at) × (at < high)
  IsLaid low high (truth at value) = (low ≤ at) × (at < high)
  IsLaid low high (variable at number sort) = (low ≤ at) × (at < high)
  IsLaid low high (let_name at number) = (low ≤ at) × (at < high)
  IsLaid low high (predicate at number args) = (low ≤ at) × (at < high) × AreLaid (at + 1) high args
  IsLaid low high (operation at op args) = (low ≤ at) × (at < high) × AreLaid (at + 1) high args
  IsLaid low high (divisible at by arg) = (low ≤ at) × (at < high) × IsLaid (at + 1) high arg
  IsLaid low high (binding at bound body) = (low ≤ at) × (at < high) × ((mid : ℕ) × AreLaid (at + 1) mid bound × IsLaid mid high body)
  IsLaid low high (universal at first sorts body) = (low ≤ at) × (at < high) × IsLaid (at + 1) high body
  IsLaid low high (existential at first sorts body) = (low ≤ at) × (at < high) × IsLaid (at + 1) high body

  -- one after another
  pub AreLaid : ℕ → ℕ → Terms → Type 0
  AreLaid low high none = low ≤ high
  AreLaid low high (more t ts) = (mid : ℕ) × IsLaid low mid t × AreLaid mid high ts

-- so has each term that the commands assert
abbrev pub AreCommandsLaid : List Command → Type 0
AreCommandsLaid [] = Unit {0}
AreCommandsLaid (Assert at term ∷ commands) = ((low : ℕ) × (high : ℕ) × IsLaid low high term) × AreCommandsLaid commands
AreCommandsLaid (SetLogic ∷ commands) = AreCommandsLaid commands
AreCommandsLaid (Inform ∷ commands) = AreCommandsLaid commands
AreCommandsLaid (Declare pred ∷ commands) = AreCommandsLaid commands
AreCommandsLaid (CheckSat ∷ commands) = AreCommandsLaid commands
AreCommandsLaid (GetModel ∷ commands) = AreCommandsLaid commands
AreCommandsLaid (Exit ∷ commands) = AreCommandsLaid commands
