use Rattle.term_widths.specs.machinery.Apart.{AreFirstsBelow}
use Rattle.term_widths.proofs.apart.first_terms.Given as goal

-- of the terms so far
abbrev pub invariant-loop-i : goal.invariant-loop-i
invariant-loop-i l = AreFirstsBelow l.terms.nodes l.own l.i l.firsts
