use Rattle.std.proofs.Common.{ap, ◌∙◌}
use Rattle.lin_atoms.specs.Denial.{lit_fits}
use Rattle.lin_atoms.specs.Truth.{truth}
use Rattle.lin_atoms.specs.declared.form.Form.{Form}
use Rattle.refutation_trees.specs.Refutation.{is_sound, judged}
use Rattle.refutation_trees.specs.declared.tree.Refutation.{Refutation}
use Rattle.farkas_proof.proofs.refuted.Refuted.copy.Goals as goal

-- the copy is the same formula, and the same tree
pub invariant_of-result : goal.invariant_of-result
invariant_of-result c = record {
  narrow = ap (λ (form : Form). is_sound (judged lit_fits form c.in_ok-proof.proof)) c.in_ok-form.ensures
      ∙ ap (λ (tree : Refutation). is_sound (judged lit_fits c.args.self.now.form tree)) c.in_ok-proof.ensures ∙ c.args.self.now.narrow;
  no_point = λ point. ap (truth point) c.in_ok-form.ensures ∙ c.args.self.now.no_point point;
}
