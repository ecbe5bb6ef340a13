-- What the answers of a checker tell.
use Rattle.std.specs.Prelude.{◌≡◌, ℕ, Bool, true, false, List, Result, Ok, Err}
use Rattle.std.specs.List.{list_all}
use Rattle.lin_atoms.specs.Denial.{lit_fits}
use Rattle.lin_atoms.specs.declared.lit.Lit.{Lit}
use Rattle.refutation_trees.specs.Refutation.{Finding, Sound, Illegal, Wide}
use Rattle.farkas_proof.specs.declared.stop.CheckStop.{CheckStop}
use Rattle.farkas_proof.specs.declared.stop.CheckStop.TheVariants.{Memory as OutOfMemory, NoProof, SumWide}

-- the answer is what is found, unless memory runs out
abbrev pub Tells : Finding → Result ℕ CheckStop → Type 0
Tells found (Ok next) = found ≡ Sound next
Tells found (Err OutOfMemory) = Unit {0}
Tells found (Err (NoProof node)) = found ≡ Illegal node
Tells found (Err (SumWide node)) = found ≡ Wide node

-- a node that derives literals
abbrev pub DerivesAll : Bool → List Lit → ℕ → Result (List Lit) CheckStop → Type 0
DerivesAll legal derived at (Ok lits) = (legal ≡ true) × (list_all lit_fits derived ≡ true) × (lits ≡ derived)
DerivesAll legal derived at (Err OutOfMemory) = Unit {0}
DerivesAll legal derived at (Err (NoProof node)) = (legal ≡ false) × (node ≡ at)
DerivesAll legal derived at (Err (SumWide node)) = (legal ≡ true) × (list_all lit_fits derived ≡ false) × (node ≡ at)
