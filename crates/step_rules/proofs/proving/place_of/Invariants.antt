use Rattle.std.proofs.Common.{◌≡◌, drop}
use Rattle.std.specs.List.{list_any}
use Rattle.book_rules.specs.Proofs.{is_proof_of}
use Rattle.step_rules.specs.Tokens.{all_shown}
use Rattle.step_rules.specs.machinery.Claims.{claim_of}
use Rattle.step_rules.proofs.proving.place_of.Given as goal

-- the rest decides
abbrev pub invariant-loop-at : goal.invariant-loop-at
invariant-loop-at l = list_any (is_proof_of (claim_of l.claim) l.number) (all_shown (drop l.at l.proofs)) ≡ list_any (is_proof_of (claim_of l.claim) l.number) (all_shown l.proofs)
