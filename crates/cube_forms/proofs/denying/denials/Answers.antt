use Rattle.std.proofs.Common.{◌++◌, List, map, ap, sym, ◌∙◌, take, rules}
use Rattle.std.specs.Prelude.{IsErrOf}
use Rattle.std.proofs.lemmas.List.{drop_all, take_all}
use Rattle.base.specs.Widths.{is_short}
use Rattle.lin_atoms.specs.Denial.{denial, linear_of, lit_fits}
use Rattle.lin_atoms.specs.declared.form.Form.{Form}
use Rattle.lin_atoms.specs.declared.form.Form.TheVariants.{Lit as Literal}
use Rattle.lin_atoms.specs.declared.lit.Lit.{Lit}
use Rattle.lin_atoms.specs.declared.stop.WideStop.TheVariants.{Wide}
use Rattle.cube_forms.specs.Cubes.{denials, has_room, lit_at}
use Rattle.cube_forms.proofs.CubeLemmas.{constant_at, denials-more, room-next, room-none, short_at}
use Rattle.cube_forms.proofs.denying.denials.Goals as goal

pub push_denial-requires : goal.push_denial-requires
push_denial-requires c =
    let args = c.args.args.now in
    let lit = c.lit-item.result in
    ap (λ (l : Lit). is_short (linear_of l).constant) c.in_ok-placed.ensures.made ∙ ap is_short (constant_at args lit) ∙ ap (λ (l : Lit). is_short (linear_of l).constant) c.lit-item.is
    ∙ short_at c.args.lits.now c.loop-lit.lit-index lit c.loop-lit-test.true c.requires

pub loop-lit-preserved : goal.loop-lit-preserved
loop-lit-preserved c =
    let args = c.args.args.now in
    let lits = c.args.lits.now in
    let i = c.loop-lit.lit-index in
    let lit = c.lit-item.result in
    let placed = c.in_ok-placed.placed in
    record {
      made = c.in_ok-push_denial.ensures ∙ ap (λ (xs : List Form). xs ++ map Literal (denial placed)) c.loop-lit.invariant.made
          ∙ ap (λ (l : Lit). map Literal (denials args (take i lits)) ++ map Literal (denial l)) (c.in_ok-placed.ensures.made ∙ ap (lit_at args) c.lit-item.is)
          ∙ sym (denials-more args lits i lit c.loop-lit-test.true);
      room = room-next args lits i lit c.loop-lit-test.true c.loop-lit.invariant.room (ap (λ (l : Lit). lit_fits (lit_at args l)) (sym c.lit-item.is) ∙ c.in_ok-placed.ensures.within);
    }

pub returns-in_err-placed-clause-wide : goal.returns-in_err-placed-clause-wide
returns-in_err-placed-clause-wide c = λ wide.
    let args = c.args.args.now in
    let lit = c.lit-item.result in
    let told : IsErrOf c.lit_at.result Wide = search rules in
    room-none args c.args.lits.now c.loop-lit.lit-index lit c.loop-lit-test.true c.loop-lit.invariant.room (ap (λ (l : Lit). lit_fits (lit_at args l)) (sym c.lit-item.is) ∙ c.lit_at.ensures.wide told)

pub returns-clause-made : goal.returns-clause-made
returns-clause-made c = c.loop-lit.invariant.made ∙ ap (λ (xs : List Lit). map Literal (denials c.args.args.now xs)) (take_all c.loop-lit.lit-index c.args.lits.now c.loop-lit-test.false)

pub returns-clause-within : goal.returns-clause-within
returns-clause-within c = sym c.loop-lit.invariant.room ∙ ap (has_room c.args.args.now) (drop_all c.loop-lit.lit-index c.args.lits.now c.loop-lit-test.false)
