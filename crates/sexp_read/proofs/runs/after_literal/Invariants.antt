use Rattle.std.proofs.Common.{◌≡◌, ◌≤◌, ◌-◌, length, drop}
use Rattle.sexp_read.specs.Lexicon.{after_literal}
use Rattle.sexp_read.proofs.runs.after_literal.Given as goal

abbrev pub invariant-loop-at : goal.invariant-loop-at
invariant-loop-at l = record {
  rest : after_literal l.at (drop l.at l.text) ≡ after_literal l.fn.at (drop l.fn.at l.text);
  later : l.fn.at ≤ l.at;
  within : l.at ≤ length l.text;
}

abbrev pub decreases-loop-at : goal.decreases-loop-at
decreases-loop-at l = length l.text - l.at
