-- What is asked of all clauses with a head, and what is answered.
use Rattle.std.specs.Prelude.{◌≡◌, ◌==◌, ◌<◌, ◌^◌, ◌⊎◌, ℕ, List, Bool, true, false, Option, Some, None, length, slice_get}
use Rattle.std.specs.List.{list_all, list_any}
use Rattle.refutation_trees.specs.KeptEvidence.{given_evidence, given_form}
use Rattle.clause_form.specs.System.{Clauses}
use Rattle.clause_form.specs.declared.clause.Clause.{Clause}
use Rattle.term_tree.specs.declared.sort.Sort.{Sort}
use Rattle.lia_search.specs.Decides.{CountsTo}
use Rattle.lemma_frames.specs.declared.framed.Framed.{Framed}
use Rattle.chc_tokens.specs.Instances.{token_head_at}
use Rattle.chc_tokens.specs.Kept.{seen_clause, seen_point, shown_clause, shown_goal, shown_used}
use Rattle.chc_tokens.specs.Queries.{has_goal, query_at}
use Rattle.chc_tokens.specs.Tokens.{IsShownToken, is_passed, is_seen, token_meets}
use Rattle.chc_tokens.specs.declared.goal.Goal.{Goal}
use Rattle.chc_tokens.specs.declared.goal.Goal.TheVariants.{Query, Holds}
use Rattle.chc_tokens.specs.declared.refuting.Shown.{Shown}
use Rattle.chc_tokens.specs.declared.seeing.Seen.{Seen}
use Rattle.chc_tokens.specs.declared.used.Used.{Used}
use Rattle.book_rules.specs.Areas.{is_wide}
use Rattle.book_rules.specs.Frames.{Framed as FramedLemma}
use Rattle.book_rules.specs.Places.{is_over}
use Rattle.book_rules.specs.Walks.{AllOf}
use Rattle.cube_rules.specs.Views.{lemmas_of}
use Rattle.clause_queries.specs.Uses.{AreUses, IsAskedAt, is_asked, uses}
use Rattle.clause_queries.specs.declared.finding.Found.{Found}
use Rattle.clause_queries.specs.declared.finding.Found.TheVariants.{Instance, Refuted, GivenUp}
use Rattle.clause_queries.specs.declared.lost.Lost.{Lost}

-- the body atoms of each clause have numbers of 32 bits
abbrev pub AreFew : Clauses → Type 0
AreFew sys = AllOf (λ (clause : Clause). length clause.atoms < 2 ^ 32) sys.clauses

-- the goal is about the predicate, and has coefficients below 2 ^ 54 in magnitude
abbrev pub GoalFits : List (List Sort) → Option ℕ → Goal → Type 0
GoalFits preds pred Query = pred ≡ None
GoalFits preds pred (Holds cube) = (p : ℕ) × (pred ≡ Some p) × (is_over preds p cube ≡ true) × (is_wide cube ≡ false)

-- a goal and lemmas that are over their predicates, with such coefficients
pub record MayAskAll (sys : Clauses) (fs : List Framed) (pred : Option ℕ) (goal : Goal) : Type 0 where
  pub numbered : length sys.clauses < 2 ^ 32
  pub few : AreFew sys
  pub over : AllOf (λ (e : FramedLemma). is_over sys.preds e.lemma.pred e.lemma.cube ≡ true) (lemmas_of fs)
  pub thin : AllOf (λ (f : Framed). is_wide f.lemma ≡ false) fs
  pub fits : GoalFits sys.preds pred goal

-- an instance of the clause of a number whose head doesn't meet the goal's lemma, and whose body the used lemmas accept
pub record IsInstanceFor (sys : Clauses) (n : ℕ) (goal : Goal) (used : List Used) (seen : Seen) : Type 0 where
  pub clause : Clause
  pub there : slice_get sys.clauses n ≡ Some clause
  pub number : seen_clause seen ≡ n
  pub seen_is : is_seen sys seen ≡ true
  pub placed : has_goal clause goal ≡ true
  pub head : token_meets goal (token_head_at (seen_point seen) clause) ≡ false
  pub body : list_all (is_passed (seen_point seen) clause) used ≡ true

-- the query is refuted
pub record IsRefutedFor (sys : Clauses) (n : ℕ) (goal : Goal) (used : List Used) (shown : Shown) : Type 0 where
  pub number : shown_clause shown ≡ n
  pub goal_is : shown_goal shown ≡ goal
  pub used_is : shown_used shown ≡ used
  pub shown_is : IsShownToken sys shown

-- the query is given up
pub record IsGivenUpFor (sys : Clauses) (n : ℕ) (goal : Goal) (used : List Used) (nodes : ℕ) (lost : Lost) : Type 0 where
  pub number : lost.clause ≡ n
  pub used_is : lost.used ≡ used
  pub form : query_at sys n goal used ≡ Some (given_form lost.evidence)
  pub counts : CountsTo nodes (given_evidence lost.evidence)

-- an instance of a clause that is asked, under F(k)
pub record IsHit (sys : Clauses) (fs : List Framed) (pred : Option ℕ) (goal : Goal) (k : ℕ) (seen : Seen) : Type 0 where
  pub at : IsAskedAt sys pred k (seen_clause seen)
  pub instance : IsInstanceFor sys (seen_clause seen) goal (uses k fs at.clause) seen

-- a refutation through a clause that is asked, under F(k)
pub record IsProof (sys : Clauses) (fs : List Framed) (pred : Option ℕ) (goal : Goal) (k : ℕ) (shown : Shown) : Type 0 where
  pub at : IsAskedAt sys pred k (shown_clause shown)
  pub under : AreUses k fs at.clause (shown_used shown)
  pub refuted : IsRefutedFor sys (shown_clause shown) goal (shown_used shown) shown

abbrev pub is_through : ℕ → Shown → Bool
is_through n shown = shown_clause shown == n

-- a refutation through each clause that is asked
pub record AreProofs (sys : Clauses) (fs : List Framed) (pred : Option ℕ) (goal : Goal) (k : ℕ) (proofs : List Shown) : Type 0 where
  pub each : AllOf (IsProof sys fs pred goal k) proofs
  pub complete : (n : ℕ) (clause : Clause) → slice_get sys.clauses n ≡ Some clause → is_asked pred k clause ≡ true → list_any (is_through n) proofs ≡ true

-- a query of a clause that is asked, under F(k), was given up
pub record IsUnknown (sys : Clauses) (fs : List Framed) (pred : Option ℕ) (goal : Goal) (k : ℕ) (nodes : ℕ) (lost : Lost) : Type 0 where
  pub at : IsAskedAt sys pred k lost.clause
  pub under : AreUses k fs at.clause lost.used
  pub given_up : IsGivenUpFor sys lost.clause goal lost.used nodes lost

-- no instance was found of a clause: it has a refutation, or its query was given up
abbrev pub NoneFound : Clauses → List Framed → Option ℕ → Goal → ℕ → ℕ → ℕ → Type 0
NoneFound sys fs pred goal k nodes n =
    ((shown : Shown) × (shown_clause shown ≡ n) × IsProof sys fs pred goal k shown) ⊎ ((lost : Lost) × (lost.clause ≡ n) × IsUnknown sys fs pred goal k nodes lost)

-- a query of a clause that is asked, under F(k), was given up, and no instance was found of any
pub record IsLost (sys : Clauses) (fs : List Framed) (pred : Option ℕ) (goal : Goal) (k : ℕ) (nodes : ℕ) (lost : Lost) : Type 0 where
  pub at : IsAskedAt sys pred k lost.clause
  pub under : AreUses k fs at.clause lost.used
  pub given_up : IsGivenUpFor sys lost.clause goal lost.used nodes lost
  pub none : (n : ℕ) (clause : Clause) → slice_get sys.clauses n ≡ Some clause → is_asked pred k clause ≡ true → NoneFound sys fs pred goal k nodes n

abbrev pub IsFound : Clauses → List Framed → Option ℕ → Goal → ℕ → ℕ → Found → Type 0
IsFound sys fs pred goal k nodes (Instance seen) = IsHit sys fs pred goal k seen
IsFound sys fs pred goal k nodes (Refuted proofs) = AreProofs sys fs pred goal k proofs
IsFound sys fs pred goal k nodes (GivenUp lost) = IsLost sys fs pred goal k nodes lost
