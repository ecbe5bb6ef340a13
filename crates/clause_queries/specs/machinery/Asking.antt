-- One query, and what was gathered of the queries so far.
use Rattle.std.specs.Prelude.{◌≡◌, ◌++◌, ℕ, List, [], ◌∷◌, true, Option, Some, None, is_some}
use Rattle.std.specs.List.{list_all, list_any}
use Rattle.clause_form.specs.System.{Clauses}
use Rattle.cube_forms.specs.Cubes.{cube_is_short}
use Rattle.lemma_frames.specs.declared.framed.Framed.{Framed}
use Rattle.chc_tokens.specs.Queries.{base_at, forms_at, goal_cube}
use Rattle.chc_tokens.specs.declared.goal.Goal.{Goal}
use Rattle.chc_tokens.specs.declared.refuting.Shown.{Shown}
use Rattle.chc_tokens.specs.declared.seeing.Seen.{Seen}
use Rattle.chc_tokens.specs.declared.used.Used.{Used}
use Rattle.book_rules.specs.Walks.{AllOf}
use Rattle.clause_queries.specs.Answers.{IsGivenUpFor, IsInstanceFor, IsProof, IsRefutedFor, IsUnknown, NoneFound, is_through}
use Rattle.clause_queries.specs.Uses.{AreUses, IsAskedAt}
use Rattle.clause_queries.specs.declared.asking.Asked.{Asked}
use Rattle.clause_queries.specs.declared.asking.Asked.TheVariants.{Instance, Refuted, GivenUp}
use Rattle.clause_queries.specs.declared.finding.Found.{Found}
use Rattle.clause_queries.specs.declared.finding.Found.TheVariants.{Refuted as AllRefuted, GivenUp as SomeGivenUp}
use Rattle.clause_queries.specs.declared.finding.Gathered.{Gathered}
use Rattle.clause_queries.specs.declared.lost.Lost.{Lost}

-- there is such a query, and the numbers in its cubes are short
pub record MayAsk (sys : Clauses) (n : ℕ) (goal : Goal) (used : List Used) : Type 0 where
  pub base : is_some (base_at sys n goal) ≡ true
  pub forms : is_some (forms_at sys n used) ≡ true
  pub goal_short : cube_is_short (goal_cube goal) ≡ true
  pub used_short : list_all (λ (u : Used). cube_is_short u.lemma) used ≡ true

abbrev pub IsAnswer : Clauses → ℕ → Goal → List Used → ℕ → Asked → Type 0
IsAnswer sys n goal used nodes (Instance seen) = IsInstanceFor sys n goal used seen
IsAnswer sys n goal used nodes (Refuted shown) = IsRefutedFor sys n goal used shown
IsAnswer sys n goal used nodes (GivenUp lost) = IsGivenUpFor sys n goal used nodes lost

-- what is answered of a clause that is asked, under F(k)
pub record IsAnswerAt (sys : Clauses) (fs : List Framed) (pred : Option ℕ) (goal : Goal) (k nodes n : ℕ) (asked : Asked) : Type 0 where
  pub at : IsAskedAt sys pred k n
  pub used : List Used
  pub under : AreUses k fs at.clause used
  pub answer : IsAnswer sys n goal used nodes asked

abbrev pub first_lost : Option Lost → Lost → Option Lost
first_lost None lost = Some lost
first_lost (Some first) lost = Some first

-- an instance ends the search; else a refutation is added, or the first query that was given up is kept
abbrev pub IsNoted : Asked → Gathered → Gathered → Option Seen → Type 0
IsNoted (Instance seen) old new result = result ≡ Some seen
IsNoted (Refuted shown) old new result = (result ≡ None) × (new.proofs ≡ old.proofs ++ shown ∷ []) × (new.lost ≡ old.lost)
IsNoted (GivenUp lost) old new result = (result ≡ None) × (new.proofs ≡ old.proofs) × (new.lost ≡ first_lost old.lost lost)

-- what is left of some clauses, unless a query was given up: each has a refutation
abbrev pub IsComplete : Clauses → List Framed → Option ℕ → Goal → ℕ → ℕ → List ℕ → List Shown → Option Lost → Type 0
IsComplete sys fs pred goal k nodes done proofs None = list_all (λ n. list_any (is_through n) proofs) done ≡ true
IsComplete sys fs pred goal k nodes done proofs (Some lost) = IsUnknown sys fs pred goal k nodes lost

-- what was found of the clauses of these numbers, of which none has an instance
pub record HaveAsked (sys : Clauses) (fs : List Framed) (pred : Option ℕ) (goal : Goal) (k nodes : ℕ) (done : List ℕ) (gathered : Gathered) : Type 0 where
  pub each : AllOf (IsProof sys fs pred goal k) gathered.proofs
  pub none : AllOf (NoneFound sys fs pred goal k nodes) done
  pub complete : IsComplete sys fs pred goal k nodes done gathered.proofs gathered.lost

abbrev pub found_by : List Shown → Option Lost → Found
found_by proofs None = AllRefuted proofs
found_by proofs (Some lost) = SomeGivenUp lost

abbrev pub found_of : Gathered → Found
found_of gathered = found_by gathered.proofs gathered.lost
