use Rattle.std.proofs.Common.{ap, sym, ◌∙◌, rules}
use Rattle.std.specs.Prelude.{IsErrOf}
use Rattle.std.proofs.lemmas.List.{drop_all, take_all}
use Rattle.lin_atoms.specs.Denial.{lit_fits}
use Rattle.lin_atoms.specs.declared.lit.Lit.{Lit}
use Rattle.lin_atoms.specs.declared.stop.WideStop.TheVariants.{Wide}
use Rattle.cube_forms.specs.Cubes.{cube_at, has_room, lit_at}
use Rattle.cube_forms.proofs.CubeLemmas.{room-none}
use Rattle.cube_forms.proofs.placed.lits_at.Goals as goal

pub returns-in_err-placed-clause-wide : goal.returns-in_err-placed-clause-wide
returns-in_err-placed-clause-wide c = λ wide.
    let args = c.args.args.now in
    let lit = c.lit-item.result in
    let told : IsErrOf c.lit_at.result Wide = search rules in
    room-none args c.args.lits.now c.loop-lit.lit-index lit c.loop-lit-test.true c.loop-lit.invariant.room (ap (λ (l : Lit). lit_fits (lit_at args l)) (sym c.lit-item.is) ∙ c.lit_at.ensures.wide told)

pub returns-clause-made : goal.returns-clause-made
returns-clause-made c = c.loop-lit.invariant.made ∙ ap (cube_at c.args.args.now) (take_all c.loop-lit.lit-index c.args.lits.now c.loop-lit-test.false)

pub returns-clause-within : goal.returns-clause-within
returns-clause-within c = sym c.loop-lit.invariant.room ∙ ap (has_room c.args.args.now) (drop_all c.loop-lit.lit-index c.args.lits.now c.loop-lit-test.false)
