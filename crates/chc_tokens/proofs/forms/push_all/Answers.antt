use Rattle.std.proofs.Common.{◌++◌, List, map, ap, sym, ◌∙◌, rules}
use Rattle.std.specs.Prelude.{IsErrOf}
use Rattle.std.proofs.lemmas.List.{drop_all, take_all}
use Rattle.lin_atoms.specs.declared.form.Form.TheVariants.{Lit as Literal}
use Rattle.lin_atoms.specs.declared.lit.Lit.{Lit}
use Rattle.lin_atoms.specs.declared.stop.WideStop.TheVariants.{Wide}
use Rattle.cube_forms.specs.Cubes.{cube_at, has_room}
use Rattle.chc_tokens.proofs.UsedLemmas.{more-literals, room-more, room-none}
use Rattle.chc_tokens.proofs.forms.push_all.Goals as goal

pub loop-lit-preserved : goal.loop-lit-preserved
loop-lit-preserved c =
    let args = c.args.args.now in
    let lits = c.args.lits.now in
    let i = c.loop-lit.lit-index in
    let lit = c.lit-item.result in
    record {
      made = more-literals args lits i lit c.in_ok-placed.placed c.args.parts.now.items c.loop-lit.parts.items c.push.new.parts.items c.loop-lit-test.true c.lit-item.is c.loop-lit.invariant.made c.in_ok-placed.ensures.made c.in_ok-push.ensures;
      room = room-more args lits i lit c.loop-lit-test.true c.lit-item.is c.in_ok-placed.ensures.within ∙ c.loop-lit.invariant.room;
    }

pub returns-in_err-placed-clause-wide : goal.returns-in_err-placed-clause-wide
returns-in_err-placed-clause-wide c = λ wide.
    let told : IsErrOf c.lit_at.result Wide = search rules in
    room-none c.args.args.now c.args.lits.now c.loop-lit.lit-index c.lit-item.result c.loop-lit-test.true c.lit-item.is (c.lit_at.ensures.wide told) c.loop-lit.invariant.room

pub returns-clause-made : goal.returns-clause-made
returns-clause-made c = c.loop-lit.invariant.made ∙ ap (λ (xs : List Lit). c.args.parts.now.items ++ map Literal (cube_at c.args.args.now xs)) (take_all c.loop-lit.lit-index c.args.lits.now c.loop-lit-test.false)

pub returns-clause-within : goal.returns-clause-within
returns-clause-within c = sym c.loop-lit.invariant.room ∙ ap (has_room c.args.args.now) (drop_all c.loop-lit.lit-index c.args.lits.now c.loop-lit-test.false)
