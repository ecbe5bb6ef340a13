use Rattle.std.proofs.Common.{◌≡◌, ◌<◌, ◌^◌, drop}
use Rattle.base.specs.Numeral.{number_of}
use Rattle.sexp_read.proofs.Numbers.{number_from}
use Rattle.sexp_read.proofs.leaves.short_number.Given as goal

abbrev pub invariant-loop-digit : goal.invariant-loop-digit
invariant-loop-digit l = record {
  rest : number_from l.value (drop l.digit-index l.digits) ≡ number_of l.digits;
  below : l.value < 2 ^ 63;
}
