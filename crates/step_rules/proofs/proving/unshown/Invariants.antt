use Rattle.std.proofs.Common.{◌≡◌, drop}
use Rattle.book_rules.specs.Proofs.{unshown, unshown_from}
use Rattle.step_rules.specs.Tokens.{all_shown}
use Rattle.step_rules.specs.machinery.Claims.{claim_of}
use Rattle.step_rules.proofs.proving.unshown.Given as goal

-- the clauses to come decide; the loop is named for the number of its turn
abbrev pub invariant-loop-number : goal.invariant-loop-number
invariant-loop-number l = unshown_from l.k (claim_of l.claim) (all_shown l.proofs) l.number (drop l.number l.sys.clauses) ≡ unshown l.sys l.k (claim_of l.claim) (all_shown l.proofs)
