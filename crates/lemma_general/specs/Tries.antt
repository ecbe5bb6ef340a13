-- Cubes that are tried in a lemma's place (Bradley, "SAT-based model checking without unrolling", section 4: a cube that the frame below
-- excludes takes the lemma's place, and a counterexample keeps it out).
use Rattle.std.specs.Prelude.{◌≡◌, ◌-◌, ◌⊎◌, ℕ, ℤ, List, Bool, true, false, not, ◌&&◌, Some}
use Rattle.std.specs.List.{list_all}
use Rattle.lin_atoms.specs.declared.lit.Lit.{Lit}
use Rattle.clause_form.specs.System.{is_clause}
use Rattle.cube_forms.specs.Cubes.{cube_holds}
use Rattle.obligation_tree.specs.Nodes.{node_at, obligation_in}
use Rattle.chc_tokens.specs.Instances.{token_head_at}
use Rattle.chc_tokens.specs.Kept.{seen_clause, seen_point}
use Rattle.chc_tokens.specs.Tokens.{is_passed, is_seen}
use Rattle.book_rules.specs.Areas.{is_wide}
use Rattle.book_rules.specs.Places.{is_over}
use Rattle.book_rules.specs.Walks.{AllOf}
use Rattle.clause_queries.specs.Uses.{IsAskedAt, uses}
use Rattle.step_rules.specs.Standing.{Standing}
use Rattle.step_rules.specs.declared.lemma_step.part.LemmaPart.{LemmaPart}
use Rattle.lemma_general.specs.Generals.{IsAgainst, IsForSame, IsLearnt}
use Rattle.lemma_general.specs.declared.breaking.Breaking.{Breaking}
use Rattle.lemma_general.specs.declared.trying.Tries.{Tries}

-- the point of the obligation of a number
abbrev pub point_of : Standing → ℕ → List ℤ
point_of b target = (obligation_in (node_at b.tree.nodes target)).point

-- whether a cube may stand in a lemma's place: it is over its predicate, with coefficients below 2 ^ 54 in magnitude, and holds the point
-- of its obligation
abbrev pub may_replace : Standing → LemmaPart → List Lit → Bool
may_replace b part cube = is_over b.system.preds part.pred cube && not (is_wide cube) && cube_holds (point_of b part.target) cube

-- whether a cube was taken in a lemma's place. It isn't where it may not be, or where something stands against it
abbrev pub IsTried : Standing → ℕ → List Lit → LemmaPart → LemmaPart → Bool → Type 0
IsTried b nodes cube old new true = IsLearnt b new × IsForSame old new × (new.lemma ≡ cube)
IsTried b nodes cube old new false = (new ≡ old) × ((may_replace b old cube ≡ false) ⊎ IsAgainst b old.pred (old.level - 1) nodes cube)

-- an instance with its body in F(k) and its head, of the predicate, at this tuple
pub record IsMet (b : Standing) (pred k : ℕ) (met : Breaking) : Type 0 where
  pub at : IsAskedAt b.system (Some pred) k (seen_clause met.seen)
  pub seen_is : is_seen b.system met.seen ≡ true
  pub legal : is_clause b.system.preds at.clause ≡ true
  pub head : token_head_at (seen_point met.seen) at.clause ≡ Some (pred, met.tuple)
  pub body : list_all (is_passed (seen_point met.seen) at.clause) (uses k b.frames.lemmas at.clause) ≡ true

-- the lemma as it stands after the tries so far
abbrev pub part_of : Tries → LemmaPart
part_of tries = tries.part

-- it breaks no rule, and what was met are instances with their bodies in the frame below its level
pub record IsTrying (b : Standing) (tries : Tries) : Type 0 where
  pub learnt : IsLearnt b tries.part
  pub met : AllOf (IsMet b (tries.part).pred ((tries.part).level - 1)) tries.met

-- a cube that holds each tuple of another one
abbrev pub IsWiderCube : List Lit → List Lit → Type 0
IsWiderCube cube wider = (tuple : List ℤ) → cube_holds tuple cube ≡ true → cube_holds tuple wider ≡ true
