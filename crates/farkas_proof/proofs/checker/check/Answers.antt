use Rattle.std.proofs.Common.{◌≡◌, ap, subst, sym, ◌∙◌, true}
use Rattle.std.specs.Prelude.{IfOk, OnOk}
use Rattle.lin_atoms.specs.Denial.{lit_fits}
use Rattle.lin_atoms.specs.declared.form.Form.{Form}
use Rattle.farkas_proof.specs.Kept.{form_of, proof_of}
use Rattle.refutation_trees.specs.Refutation.{is_refutation, is_sound, judged}
use Rattle.refutation_trees.specs.declared.tree.Refutation.{Refutation}
use Rattle.farkas_proof.proofs.checker.check.Goals as goal

pub returns-clause-form : goal.returns-clause-form
returns-clause-form c = subst (λ (form : Form). IfOk c.check_owned.result (λ refuted. form_of refuted ≡ form)) c.in_ok-form.ensures c.check_owned.ensures.form

pub returns-clause-proof : goal.returns-clause-proof
returns-clause-proof c = subst (λ (tree : Refutation). IfOk c.check_owned.result (λ refuted. proof_of refuted ≡ tree)) c.in_ok-proof.ensures c.check_owned.ensures.proof

pub returns-clause-legal : goal.returns-clause-legal
returns-clause-legal c =
    subst (λ (tree : Refutation). OnOk c.check_owned.result (is_refutation c.args.form.now tree ≡ true)) c.in_ok-proof.ensures
    (subst (λ (form : Form). OnOk c.check_owned.result (is_refutation form c.in_ok-proof.proof ≡ true)) c.in_ok-form.ensures c.check_owned.ensures.legal)

pub returns-clause-narrow : goal.returns-clause-narrow
returns-clause-narrow c =
    subst (λ (tree : Refutation). OnOk c.check_owned.result (is_sound (judged lit_fits c.args.form.now tree) ≡ true)) c.in_ok-proof.ensures
    (subst (λ (form : Form). OnOk c.check_owned.result (is_sound (judged lit_fits form c.in_ok-proof.proof) ≡ true)) c.in_ok-form.ensures c.check_owned.ensures.narrow)

pub returns-clause-no_proof : goal.returns-clause-no_proof
returns-clause-no_proof c n stop =
    ap (λ (form : Form). judged lit_fits form c.args.proof.now) (sym c.in_ok-form.ensures) ∙ ap (λ (tree : Refutation). judged lit_fits c.in_ok-form.form tree) (sym c.in_ok-proof.ensures) ∙ c.check_owned.ensures.no_proof n stop

pub returns-clause-sum_wide : goal.returns-clause-sum_wide
returns-clause-sum_wide c n stop =
    ap (λ (form : Form). judged lit_fits form c.args.proof.now) (sym c.in_ok-form.ensures) ∙ ap (λ (tree : Refutation). judged lit_fits c.in_ok-form.form tree) (sym c.in_ok-proof.ensures) ∙ c.check_owned.ensures.sum_wide n stop
