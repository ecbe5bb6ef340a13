use Rattle.std.proofs.Common.{ℕ, suc, ◌+◌, ◌≡◌, ◌≤◌, ◌∷◌, take, length, ap, ◌∙◌, subst, arith}
use Rattle.std.specs.Prelude.{IfSome, Option, Some}
use Rattle.lin_atoms.specs.declared.form.Form.TheViews.{And}
use Rattle.lia_search.specs.declared.decision.Decision.{Decision}
use Rattle.lia_search.specs.declared.decision.Decision.TheVariants.{Model}
use Rattle.refutation_trees.specs.Refutation.{HasNoPoint}
use Rattle.chc_checker.specs.machinery.Judging.{Settles}
use Rattle.chc_checker.specs.machinery.Parts.{HaveNone}
use Rattle.chc_checker.proofs.PartLemmas.{none_left, none_more, part_model}
use Rattle.chc_checker.proofs.parting.by_parts.Goals as goal

pub returns-in-Some-Model : goal.returns-in-Some-Model
returns-in-Some-Model c =
    let part = c.part-item.result in
    let others = c.args.others.now in
    let found : Settles (And (part ∷ others)) c.args.vars c.args.nodes (Model c.in-Some-Model.point) =
    subst (λ (o : Option Decision). IfSome o (Settles (And (part ∷ others)) c.args.vars c.args.nodes)) (c.in-Some-Model.is ∙ ap (λ (d : Decision). Some d) c.in-Some-Model.field-0-is) c.in_ok-found.ensures in
    part_model c.args.form.now others c.args.parts.now c.args.vars c.args.nodes c.loop-part.part-index part (Model c.in-Some-Model.point) c.requires.parts c.loop-part-test.true c.part-item.is tt found

pub loop-part-preserved : goal.loop-part-preserved
loop-part-preserved c =
    let part = c.part-item.result in
    let others = c.args.others.now in
    let index : ℕ = c.loop-part.part-index in
    let found : HasNoPoint (And (part ∷ others)) =
    subst (λ (o : Option Decision). IfSome o (Settles (And (part ∷ others)) c.args.vars c.args.nodes)) (c.in-Some-Refuted.is ∙ ap (λ (d : Decision). Some d) c.in-Some-Refuted.field-0-is) c.in_ok-found.ensures in
    let next : suc index ≡ index + 1 = omega arith in
    (subst (λ (n : ℕ). HaveNone others (take n c.args.parts.now)) next (none_more others c.args.parts.now index part c.loop-part-test.true c.part-item.is c.loop-part.invariant.0 found), tt)

pub returns : goal.returns
returns c =
    let test = c.loop-part-test.false in
    let past : length c.args.parts.now ≤ c.loop-part.part-index = omega (arith, test) in
    none_left c.args.form.now c.args.others.now c.args.parts.now c.args.vars c.args.nodes c.loop-part.part-index c.loop-part.last c.requires.parts past c.loop-part.invariant.0 c.loop-part.invariant.1
