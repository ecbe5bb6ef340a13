use Rattle.std.proofs.Common.{[], ◌∷◌, ◌++◌, ap, ◌∙◌, FitsSigned}
use Rattle.std.specs.Int.{w64}
use Rattle.std.proofs.lemmas.Int.{to_z-of_z}
use Rattle.lin_atoms.specs.declared.lit.Lit.{Lit}
use Rattle.lia_stack.specs.machinery.Opened.{with_lit}
use Rattle.lia_stack.proofs.parts.push_low.Goals as goal

pub returns : goal.returns
returns c =
    let has_room : FitsSigned w64 c.args.floor = c.ranges.floor in
    let is = simp to_z-of_z at c.in_ok-lit.ensures in
    c.in_ok-push_with.ensures ∙ ap (λ (lit : Lit). c.args.stack.now.items ++ with_lit c.args.waiting lit ∷ []) is
