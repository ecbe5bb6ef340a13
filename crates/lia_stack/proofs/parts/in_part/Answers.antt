use Rattle.std.proofs.Common.{◌+◌, ◌++◌, List, ap, drop, take, ◌∙◌}
use Rattle.lin_atoms.specs.declared.form.Form.{Form}
use Rattle.refutation_trees.specs.Flatten.{disjunctions, literals}
use Rattle.lia_stack.specs.declared.waiting.Open.{Open}
use Rattle.lia_stack.specs.machinery.Opened.{with_lits}
use Rattle.lia_stack.proofs.PartLemmas.{with-cases}
use Rattle.lia_stack.proofs.parts.in_part.Goals as goal

pub returns : goal.returns
returns c =
    let waiting = c.args.waiting.now in
    let which = c.args.which in
    let part = c.args.part.now in
    let lits = literals part in
    let put : List (List Form) → List (List Form) = λ cases. take which cases ++ (disjunctions part ++ drop (which + 1) cases) in
    c.in_ok-add_literals.ensures
    ∙ ap (λ (w : Open). with_lits w lits) (c.in_ok-below.ensures ∙ ap (λ (cases : List (List Form)). record waiting { cases = cases }) (c.in_ok-cases.ensures ∙ ap put c.as_slice.ensures))
    ∙ with-cases waiting _ lits
