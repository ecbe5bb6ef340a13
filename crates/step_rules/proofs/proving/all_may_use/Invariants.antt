use Rattle.std.proofs.Common.{◌≡◌, drop}
use Rattle.book_rules.specs.Proofs.{all_may_use}
use Rattle.step_rules.specs.Tokens.{all_used}
use Rattle.cube_rules.specs.Views.{lemmas_of}
use Rattle.step_rules.specs.machinery.Claims.{claim_of}
use Rattle.step_rules.proofs.proving.all_may_use.Given as goal

-- the rest decides
abbrev pub invariant-loop-one : goal.invariant-loop-one
invariant-loop-one l = all_may_use l.sys (lemmas_of l.frames.lemmas) l.k (claim_of l.own) l.number (all_used (drop l.one-index l.used)) ≡ all_may_use l.sys (lemmas_of l.frames.lemmas) l.k (claim_of l.own) l.number (all_used l.used)
