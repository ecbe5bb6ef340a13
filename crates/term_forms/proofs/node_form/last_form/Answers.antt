use Rattle.std.proofs.Common.{◌≡◌, subst, arith}
use Rattle.std.specs.Prelude.{IfOk}
use Rattle.lin_atoms.specs.Linear.{Linear}
use Rattle.term_forms.proofs.ReadingLemmas.{last_at}
use Rattle.term_forms.proofs.node_form.last_form.Goals as goal

pub returns-in-len1-up : goal.returns-in-len1-up
returns-in-len1-up c =
    let same = last_at c.args.forms.now c.form-item.result (omega (arith, c.in-len1-up.len_at_least)) c.form-item.is in
    subst (λ (last : Linear). IfOk c.copy.result (λ form. form ≡ last)) same c.copy.ensures
