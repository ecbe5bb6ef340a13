use Rattle.std.proofs.Common.{◌++◌, arith}
use Rattle.term_tables.specs.machinery.Table.{constant_in, sort_in}
use Rattle.term_formulas.specs.Written.{naming_by, place_forms_by}
use Rattle.term_formulas.proofs.ArgumentLemmas.{places_more, places_turn}
use Rattle.term_formulas.proofs.place.place_forms.Goals as goal

pub place_form-requires-clause-room : goal.place_form-requires-clause-room
place_form-requires-clause-room c = (places_more (constant_in c.args.constants.now) (naming_by c.args.names.now) c.args.terms.now.nodes c.loop-id.v c.args.placed.now c.loop-id.id-index c.loop-id-test.true c.loop-id.invariant.places).0

pub place_form-requires-clause-fresh : goal.place_form-requires-clause-fresh
place_form-requires-clause-fresh c = (places_more (constant_in c.args.constants.now) (naming_by c.args.names.now) c.args.terms.now.nodes c.loop-id.v c.args.placed.now c.loop-id.id-index c.loop-id-test.true c.loop-id.invariant.places).1

pub place_form-requires-clause-shaped : goal.place_form-requires-clause-shaped
place_form-requires-clause-shaped c = (places_more (constant_in c.args.constants.now) (naming_by c.args.names.now) c.args.terms.now.nodes c.loop-id.v c.args.placed.now c.loop-id.id-index c.loop-id-test.true c.loop-id.invariant.places).2

pub loop-id-preserved : goal.loop-id-preserved
loop-id-preserved c = record {
  number = let same = c.loop-id.invariant.number in omega (arith, same);
  made = places_turn (constant_in c.args.constants.now) (sort_in c.args.sorts.now) (naming_by c.args.names.now) c.args.terms.now.nodes c.loop-id.v c.args.placed.now c.loop-id.id-index c.loop-id.out c.push.new.self
      (c.args.out.now ++ place_forms_by (constant_in c.args.constants.now) (sort_in c.args.sorts.now) (naming_by c.args.names.now) c.args.terms.now.nodes c.args.first c.args.placed.now) c.in_ok-form.form c.loop-id-test.true c.loop-id.invariant.made c.in_ok-form.ensures.is c.in_ok-push.ensures.ok;
  places = (places_more (constant_in c.args.constants.now) (naming_by c.args.names.now) c.args.terms.now.nodes c.loop-id.v c.args.placed.now c.loop-id.id-index c.loop-id-test.true c.loop-id.invariant.places).3;
  known = c.in_ok-form.ensures.known;
}
