-- What a refuted form is, and its proof.
use Rattle.lin_atoms.specs.declared.form.Form.{Form}
use Rattle.farkas_proof.specs.declared.refuted.Refuted.{Refuted}
use Rattle.refutation_trees.specs.declared.tree.Refutation.{Refutation}

abbrev pub form_of : Refuted → Form
form_of refuted = refuted.form

abbrev pub proof_of : Refuted → Refutation
proof_of refuted = refuted.proof
