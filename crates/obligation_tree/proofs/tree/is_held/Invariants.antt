use Rattle.std.proofs.Common.{◌≡◌, drop}
use Rattle.std.specs.List.{list_any}
use Rattle.obligation_tree.specs.Claims.{is_claim_of}
use Rattle.obligation_tree.proofs.tree.is_held.Given as goal

abbrev pub invariant-loop-claim : goal.invariant-loop-claim
invariant-loop-claim l = list_any (is_claim_of l.number) (drop l.claim-index l.claims) ≡ list_any (is_claim_of l.number) l.claims
