use Rattle.std.proofs.Common.{◌<◌, ◌^◌, length, rules, arith}
use Rattle.std.proofs.lemmas.Int.{ints}
use Rattle.linear_terms.proofs.sum.all_constants.Goals as goal

pub overflow_add-sum : goal.overflow_add-sum
overflow_add-sum c =
    let short : length c.args.forms.now < 2 ^ 63 = search rules in
    let within : c.loop-form.form-index < length c.args.forms.now = search rules in
    omega (arith, ints, c.loop-form.invariant.small, c.constant-sum.ensures.long, c.constant-sum.ensures.is)
