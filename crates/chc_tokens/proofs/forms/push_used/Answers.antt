use Rattle.std.proofs.Common.{◌++◌, List, map, ap, sym, ◌∙◌, rules}
use Rattle.std.specs.Prelude.{IsErrOf}
use Rattle.std.proofs.lemmas.List.{drop_all, take_all}
use Rattle.lin_atoms.specs.declared.stop.WideStop.TheVariants.{Wide}
use Rattle.chc_tokens.specs.Queries.{used_form, used_has_room, used_have_room}
use Rattle.chc_tokens.specs.declared.used.Used.{Used}
use Rattle.chc_tokens.proofs.UsedLemmas.{more-forms, more-room, no-room}
use Rattle.chc_tokens.proofs.forms.push_used.Goals as goal

pub loop-one-preserved : goal.loop-one-preserved
loop-one-preserved c =
    let atoms = c.args.atoms.now in
    let used = c.args.used.now in
    let i = c.loop-one.one-index in
    let one = c.one-item.result in
    record {
      made = more-forms (used_form atoms) used i one c.args.parts.now.items c.loop-one.parts.items c.push.new.parts.items c.in_ok-form.form c.loop-one-test.true c.one-item.is c.loop-one.invariant.made c.in_ok-form.ensures.made c.in_ok-push.ensures;
      room = more-room (used_has_room atoms) used i one c.loop-one-test.true c.one-item.is c.in_ok-form.ensures.within ∙ c.loop-one.invariant.room;
    }

pub returns-in_err-form-clause-wide : goal.returns-in_err-form-clause-wide
returns-in_err-form-clause-wide c = λ wide.
    let told : IsErrOf c.used_form.result Wide = search rules in
    no-room (used_has_room c.args.atoms.now) c.args.used.now c.loop-one.one-index c.one-item.result c.loop-one-test.true c.one-item.is (c.used_form.ensures.wide told) c.loop-one.invariant.room

pub returns-clause-made : goal.returns-clause-made
returns-clause-made c = c.loop-one.invariant.made ∙ ap (λ (xs : List Used). c.args.parts.now.items ++ map (used_form c.args.atoms.now) xs) (take_all c.loop-one.one-index c.args.used.now c.loop-one-test.false)

pub returns-clause-within : goal.returns-clause-within
returns-clause-within c = sym c.loop-one.invariant.room ∙ ap (used_have_room c.args.atoms.now) (drop_all c.loop-one.one-index c.args.used.now c.loop-one-test.false)
