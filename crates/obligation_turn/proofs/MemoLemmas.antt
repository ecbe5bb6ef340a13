-- What is kept for a lemma, over what is lent.
use Rattle.std.proofs.Common.{◌≡◌, ℕ, List, Bool, true, Some, sym, subst}
use Rattle.std.specs.Prelude.{◌↔◌, Option}
use Rattle.std.specs.List.{slice_set}
use Rattle.lin_atoms.specs.declared.lit.Lit.{Lit}
use Rattle.clause_form.specs.System.{Clauses}
use Rattle.lemma_frames.specs.Frames.{lemma_of, level_of, pred_of as pred_at}
use Rattle.chc_tokens.specs.Tokens.{is_seen}
use Rattle.chc_tokens.specs.declared.goal.Goal.TheVariants.{Holds}
use Rattle.chc_tokens.specs.declared.seeing.Seen.{Seen}
use Rattle.book_rules.specs.Walks.{AllOf}
use Rattle.book_rules.proofs.ListLemmas.{all_of-set}
use Rattle.clause_queries.specs.Answers.{IsHit}
use Rattle.clause_queries.specs.declared.finding.Found.{Found}
use Rattle.clause_queries.specs.declared.finding.Found.TheVariants.{Instance}
use Rattle.step_rules.specs.Standing.{Standing}
use Rattle.obligation_turn.specs.Workspaces.{IsFoundOf, IsHitOf, IsSeenOf}

pub seen-lent : (a b : Standing) (seen : Seen) → a ≡ b → is_seen b.system seen ≡ true → is_seen a.system seen ≡ true
seen-lent a b seen same is = subst (λ (x : Standing). is_seen x.system seen ≡ true) (sym same) is

pub hit-lent : (a b : Standing) (id pred k : ℕ) (lemma : List Lit) (seen : Seen) (hit : Bool) → a ≡ b → pred ≡ pred_at a.frames.lemmas id → lemma ≡ lemma_of a.frames.lemmas id → k ≡ level_of a.frames.lemmas id
    → (hit ≡ true) ↔ IsHit a.system a.frames.lemmas (Some pred) (Holds lemma) k seen → (hit ≡ true) ↔ IsHitOf b id seen
hit-lent a b id pred k lemma seen hit same of_pred of_lemma level h =
    subst (λ (x : Standing). (hit ≡ true) ↔ IsHitOf x id seen) same
    (subst (λ (p : ℕ). (hit ≡ true) ↔ IsHit a.system a.frames.lemmas (Some p) (Holds (lemma_of a.frames.lemmas id)) (level_of a.frames.lemmas id) seen) of_pred
    (subst (λ (l : List Lit). (hit ≡ true) ↔ IsHit a.system a.frames.lemmas (Some pred) (Holds l) (level_of a.frames.lemmas id) seen) of_lemma
    (subst (λ (m : ℕ). (hit ≡ true) ↔ IsHit a.system a.frames.lemmas (Some pred) (Holds lemma) m seen) level h)))

-- an instance that is found is the system's
pub found-seen : (b : Standing) (nodes id : ℕ) (found : Found) (seen : Seen) → found ≡ Instance seen → IsFoundOf b nodes id found → is_seen b.system seen ≡ true
found-seen b nodes id found seen is h = ((subst (IsFoundOf b nodes id) is h).instance).seen_is

-- it is kept
pub kept-set : (new after : List (Option Seen)) (id : ℕ) (seen : Seen) (sys : Clauses) → AllOf (IsSeenOf sys) new → is_seen sys seen ≡ true → after ≡ slice_set new id (Some seen) → AllOf (IsSeenOf sys) after
kept-set new after id seen sys all is put = subst (AllOf (IsSeenOf sys)) (sym put) (all_of-set (IsSeenOf sys) new id (Some seen) all is)
