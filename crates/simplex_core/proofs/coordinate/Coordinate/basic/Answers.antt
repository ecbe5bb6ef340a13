use Rattle.std.proofs.Common.{◌≡◌, ◌<◌, ℕ, List, ap, arith, get_or, length}
use Rattle.std.proofs.lemmas.Int.{ints}
use Rattle.simplex_core.specs.Coordinate.{held}
use Rattle.simplex_core.proofs.CoordinateLemmas.{held-most, held-within, others-held, others-more, product_at}
use Rattle.simplex_core.proofs.SumLemmas.{sum_over}
use Rattle.simplex_core.proofs.coordinate.Coordinate.basic.Goals as goal

pub loop-place-init : goal.loop-place-init
loop-place-init c =
    let row = c.args.row.now in
    let values = c.args.values.now in
    let own = c.args.own in
    let whole = others-held row values own c.requires.width in
    let listed : sum_over (product_at row values own) c.args.places.now ≡ sum_over (product_at row values own) (held values) = ap (sum_over (product_at row values own)) c.requires.places in
    record { value = omega (arith, ints, c.new-sum.ensures.value, listed, whole); added = omega (arith, c.new-sum.ensures.added) }

pub take_column-requires-clause-within : goal.take_column-requires-clause-within
take_column-requires-clause-within c =
    let values = c.args.values.now in
    let i = c.loop-place.place-index in
    let same : length c.args.places.now ≡ length (held values) = ap length c.requires.places in
    let within : i < length (held values) = omega (arith, c.loop-place-test.true, same) in
    let told : get_or c.args.places.now i 0 ≡ get_or (held values) i 0 = ap (λ (xs : List ℕ). get_or xs i 0) c.requires.places in
    omega (arith, told, held-within values i within, c.requires.width)

pub take_column-requires-clause-room : goal.take_column-requires-clause-room
take_column-requires-clause-room c =
    let same : length c.args.places.now ≡ length (held c.args.values.now) = ap length c.requires.places in
    omega (arith, c.loop-place-test.true, same, held-most c.args.values.now, c.requires.width, c.requires.few, c.loop-place.invariant.added)

pub loop-place-preserved : goal.loop-place-preserved
loop-place-preserved c = record {
  value = others-more c.args.row.now c.args.values.now c.args.places.now c.args.own c.loop-place.place-index c.loop-place.sum.value c.take_column.new.sum.value _ c.loop-place-test.true c.requires.own c.loop-place.invariant.value c.take_column.ensures.value;
  added = omega (arith, c.loop-place.invariant.added, c.take_column.ensures.added);
}
