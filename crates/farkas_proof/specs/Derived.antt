-- What it means that a step derives a literal.
use Rattle.std.specs.Prelude.{◌≡◌, ℕ, Bool, true, false, Result, Ok, Err}
use Rattle.lin_atoms.specs.Denial.{lit_fits}
use Rattle.lin_atoms.specs.declared.lit.Lit.{Lit}
use Rattle.farkas_proof.specs.declared.stop.CheckStop.{CheckStop}
use Rattle.farkas_proof.specs.declared.stop.CheckStop.TheVariants.{Memory as OutOfMemory, NoProof, SumWide}

-- the answer of the node of that number: the literal, where the node is legal and the literal has room, or which of both isn't so, unless memory runs out
abbrev pub Derives : Bool → Lit → ℕ → Result Lit CheckStop → Type 0
Derives legal derived at (Ok lit) = (legal ≡ true) × (lit_fits derived ≡ true) × (lit ≡ derived)
Derives legal derived at (Err OutOfMemory) = Unit {0}
Derives legal derived at (Err (NoProof node)) = (legal ≡ false) × (node ≡ at)
Derives legal derived at (Err (SumWide node)) = (legal ≡ true) × (lit_fits derived ≡ false) × (node ≡ at)
