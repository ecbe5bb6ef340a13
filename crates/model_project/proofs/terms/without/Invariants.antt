use Rattle.std.proofs.Common.{◌≡◌, ◌++◌, drop, ◌==◌, not}
use Rattle.std.specs.List.{filter}
use Rattle.model_project.proofs.terms.without.Given as goal

-- what is made, and what is to come
abbrev pub invariant-loop-v : goal.invariant-loop-v
invariant-loop-v l = l.made.items ++ filter (λ t. not (t.0 == l.variable)) (drop l.v-index l.terms) ≡ filter (λ t. not (t.0 == l.variable)) l.terms
