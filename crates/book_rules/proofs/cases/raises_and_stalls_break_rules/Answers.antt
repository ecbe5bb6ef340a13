use Rattle.std.proofs.Common.{refl}
use Rattle.book_rules.proofs.CaseLemmas.{stall_again, stall_of_another}
use Rattle.book_rules.proofs.cases.raises_and_stalls_break_rules.Goals as goal

pub returns-clause-lost : goal.returns-clause-lost
returns-clause-lost c = refl

pub returns-clause-left : goal.returns-clause-left
returns-clause-left c = refl

pub returns-clause-another : goal.returns-clause-another
returns-clause-another c = refl

pub returns-clause-not_in_frame : goal.returns-clause-not_in_frame
returns-clause-not_in_frame c = refl

pub returns-clause-not_of_frame : goal.returns-clause-not_of_frame
returns-clause-not_of_frame c = refl

pub returns-clause-closed : goal.returns-clause-closed
returns-clause-closed c = refl

pub returns-clause-has_child : goal.returns-clause-has_child
returns-clause-has_child c = refl

pub returns-clause-no_clause : goal.returns-clause-no_clause
returns-clause-no_clause c = refl

pub returns-clause-other_head : goal.returns-clause-other_head
returns-clause-other_head c = refl

pub returns-clause-above : goal.returns-clause-above
returns-clause-above c = stall_of_another

pub returns-clause-again : goal.returns-clause-again
returns-clause-again c = stall_again
