use Rattle.std.proofs.Common.{◌≡◌, ◌<◌, length}
use Rattle.linear_terms.specs.Linear.{bit_of}
use Rattle.term_formulas.specs.Written.{naming_by}
use Rattle.term_formulas.proofs.bits.found_bit.Given as goal

-- the term so far has the bit
abbrev pub invariant-loop-variable : goal.invariant-loop-variable
invariant-loop-variable l = record {
  there : l.at.0 < length l.terms.nodes;
  same : bit_of (naming_by l.names) l.terms.nodes l.at.0 ≡ bit_of (naming_by l.names) l.terms.nodes l.fn.id.0;
}

abbrev pub decreases-loop-variable : goal.decreases-loop-variable
decreases-loop-variable l = l.at.0
