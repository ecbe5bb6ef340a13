use Rattle.std.proofs.Common.{List, [], ◌∷◌, ◌++◌, ap, ◌∙◌, refl}
use Rattle.lin_atoms.specs.declared.form.Form.{Form}
use Rattle.lin_atoms.specs.declared.lit.Lit.{Lit}
use Rattle.refutation_trees.specs.Flatten.{literals}
use Rattle.lia_stack.specs.declared.waiting.Open.{Open}
use Rattle.lia_stack.specs.machinery.Opened.{first_open}
use Rattle.lia_stack.proofs.StateLemmas.{begins}
use Rattle.lia_stack.proofs.beginning.begun.Goals as goal

pub returns-clause-is : goal.returns-clause-is
returns-clause-is c =
    let form = c.args.form.now in
    let cases = c.in_ok-cases.cases in
    let is = c.in_ok-waiting.ensures ∙ ap (λ (lits : List Lit). first_open c.args.taken lits cases) (c.as_slice.ensures.value ∙ c.in_ok-lits.ensures) ∙ ap (λ (cs : List (List Form)). first_open c.args.taken (literals form) cs) c.in_ok-cases.ensures in
    begins _ c.in_ok-waiting.waiting c.args.taken c.requires.short c.small_end-end.ensures c.requires.few is (c.in_ok-push.ensures.items ∙ ap (λ (os : List Open). os ++ c.in_ok-waiting.waiting ∷ []) c.new-stack.ensures.items) c.new-steps.ensures.items refl refl
