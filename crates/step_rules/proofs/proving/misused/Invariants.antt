use Rattle.std.proofs.Common.{◌≡◌, drop}
use Rattle.book_rules.specs.Proofs.{misused}
use Rattle.step_rules.specs.Tokens.{all_shown}
use Rattle.cube_rules.specs.Views.{lemmas_of}
use Rattle.step_rules.specs.machinery.Claims.{claim_of}
use Rattle.step_rules.proofs.proving.misused.Given as goal

-- the rest decides
abbrev pub invariant-loop-proof : goal.invariant-loop-proof
invariant-loop-proof l = misused l.sys (lemmas_of l.frames.lemmas) l.k (claim_of l.own) (all_shown (drop l.proof-index l.proofs)) ≡ misused l.sys (lemmas_of l.frames.lemmas) l.k (claim_of l.own) (all_shown l.proofs)
