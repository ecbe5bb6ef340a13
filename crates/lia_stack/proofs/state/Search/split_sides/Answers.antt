use Rattle.std.proofs.Common.{arith, ap, ◌∙◌, ◌++◌, ◌∷◌, [], refl, rules, FitsSigned}
use Rattle.std.specs.Int.{w64}
use Rattle.std.proofs.lemmas.Int.{ints, to_z-of_z}
use Rattle.lin_atoms.specs.Linear.{Linear}
use Rattle.lia_close.specs.declared.written.Step.TheVariants.{Split}
use Rattle.lia_stack.proofs.StateLemmas.{sided}
use Rattle.lia_stack.proofs.state.Search.split_sides.Goals as goal

pub returns : goal.returns
returns c =
    let fits = c.ranges.floor.sfits in
    let has_room : FitsSigned w64 c.args.floor = search rules in
    let lin = simp to_z-of_z at c.in_ok-lin.ensures in
    let sides = simp to_z-of_z at c.in_ok-push_sides.ensures in
    sided c.args.self.now _ c.args.waiting c.args.variable c.args.floor c.requires.is c.requires.full c.requires.solution c.requires.vertex (omega (arith, ints, fits)) refl
    (c.in_ok-push.ensures.items ∙ ap (λ (l : Linear). c.args.self.now.steps.items ++ Split l ∷ []) lin) sides
