use Rattle.std.proofs.Common.{◌+ℤ◌, List, [], ◌∷◌, ◌++◌, reverse, ap, ◌∙◌, pos, FitsSigned}
use Rattle.std.specs.Int.{w64}
use Rattle.std.proofs.lemmas.Int.{to_z-of_z}
use Rattle.refutation_trees.specs.Split.{at_least, at_most}
use Rattle.lia_close.proofs.Public.{reverse-push}
use Rattle.lia_stack.specs.declared.waiting.Open.{Open}
use Rattle.lia_stack.specs.machinery.Opened.{with_lit}
use Rattle.lia_stack.proofs.parts.push_sides.Goals as goal

pub returns : goal.returns
returns c =
    let has_room : FitsSigned w64 c.args.floor = c.ranges.floor in
    let high = c.push_high.new.stack.items in
    let low : Open → Open = λ o. with_lit o (at_most c.args.variable c.args.floor) in
    let first = simp to_z-of_z at c.in_ok-push_high.ensures in
    let second = simp to_z-of_z at c.in_ok-push_low.ensures in
    ap reverse (second ∙ ap (λ (o : Open). high ++ low o ∷ []) c.in_ok-low.ensures)
    ∙ reverse-push high (low c.args.waiting)
    ∙ ap (λ (os : List Open). low c.args.waiting ∷ os) (ap reverse first ∙ reverse-push c.args.stack.now.items (with_lit c.args.waiting (at_least c.args.variable (c.args.floor +ℤ pos 1))))
