use Rattle.std.proofs.Common.{◌≡◌, ◌≤◌, drop}
use Rattle.base.specs.Numeral.{number_of}
use Rattle.call_words.proofs.Numbers.{number_from}
use Rattle.call_words.proofs.numerals.number_up_to.Given as goal

abbrev pub invariant-loop-digit : goal.invariant-loop-digit
invariant-loop-digit l = record {
  rest : number_from l.value (drop l.digit-index l.digits) ≡ number_of l.digits;
  within : l.value ≤ l.most;
}
