-- The claim that proofs are asked for, as the code has it.
use Rattle.std.specs.Prelude.{ℕ, List, Option, Some, None}
use Rattle.lin_atoms.specs.declared.lit.Lit.{Lit}
use Rattle.chc_tokens.specs.declared.goal.Goal.{Goal}
use Rattle.chc_tokens.specs.declared.goal.Goal.TheVariants.{Query, Holds as HoldsOf}
use Rattle.book_rules.specs.Frames.{Lemma}
use Rattle.step_rules.specs.declared.claim.Claim.{Claim}
use Rattle.step_rules.specs.declared.claim.Claim.TheVariants.{False, Holds}

abbrev pub claim_of : Claim → Option Lemma
claim_of False = None
claim_of (Holds pred lemma) = Some (record { pred = pred; cube = lemma })

-- what is asked of a clause for an obligation: that its head lies in the cube; for the root nothing
abbrev pub goal_for : Option ℕ → List Lit → Goal
goal_for None cube = Query
goal_for (Some pred) cube = HoldsOf cube
