-- What a book gives that is lent.
use Rattle.std.proofs.Common.{◌≡◌, refl, sym, subst}
use Rattle.std.specs.Prelude.{None}
use Rattle.clause_form.specs.System.{Clauses}
use Rattle.lemma_frames.specs.Frames.{Lemmas}
use Rattle.chc_tokens.specs.declared.goal.Goal.TheVariants.{Query}
use Rattle.book_rules.specs.Places.{AreOver}
use Rattle.step_rules.specs.Standing.{IsNumbered}
use Rattle.chc_core.specs.Contents.{Contents}
use Rattle.chc_core.specs.Views.{standing_of, state_of}
use Rattle.clause_queries.specs.Answers.{MayAskAll}
use Rattle.obligation_turn.specs.Turns.{IsThin}
use Rattle.search_strategy.specs.Runs.{CanRun}

asks : (b : Contents) → CanRun b.system → IsNumbered b.system → AreOver b.system (state_of b) → IsThin (standing_of b) → MayAskAll b.system b.frames.lemmas None Query
asks b can numbered over thin = record { numbered = numbered.0; few = can.few; over = over.lemmas; thin = thin.lemmas; fits = refl }

pub asks-lent : (b : Contents) (sys : Clauses) (frames : Lemmas) → sys ≡ b.system → frames ≡ b.frames → CanRun b.system → IsNumbered b.system → AreOver b.system (state_of b) → IsThin (standing_of b)
    → MayAskAll sys frames.lemmas None Query
asks-lent b sys frames of_system of_frames can numbered over thin =
    subst (λ (s : Clauses). MayAskAll s frames.lemmas None Query) (sym of_system) (subst (λ (f : Lemmas). MayAskAll b.system f.lemmas None Query) (sym of_frames) (asks b can numbered over thin))
