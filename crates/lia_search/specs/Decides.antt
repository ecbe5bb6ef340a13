-- What is decided of a formula over the integers.
use Rattle.std.specs.Prelude.{◌≡◌, ℕ, true, length}
use Rattle.std.specs.List.{list_all}
use Rattle.lin_atoms.specs.Linear.{is_short}
use Rattle.lin_atoms.specs.Truth.{truth}
use Rattle.lin_atoms.specs.declared.form.Form.{Form}
use Rattle.farkas_proof.specs.Kept.{form_of}
use Rattle.refutation_trees.specs.KeptEvidence.{given_evidence, given_form}
use Rattle.lia_search.specs.declared.decision.Decision.{Decision}
use Rattle.lia_search.specs.declared.decision.Decision.TheVariants.{Model, Refuted, GaveUp}
pub use Rattle.lia_stack.specs.Counted.{CountsTo}
pub use Rattle.lia_stack.specs.Short.{has_short_multiples, short_step}

-- a point of `vars` integers at which the formula is true; or the formula is kept as refuted, or as given up with `nodes` inner nodes. What is kept carries its proof
abbrev pub Decides : Form → ℕ → ℕ → Decision → Type 0
Decides form vars nodes (Model point) = (length point.items ≡ vars) × (list_all is_short point.items ≡ true) × (truth point.items form ≡ true)
Decides form vars nodes (Refuted refuted) = form_of refuted ≡ form
Decides form vars nodes (GaveUp gave_up) = (given_form gave_up ≡ form) × CountsTo nodes (given_evidence gave_up)
