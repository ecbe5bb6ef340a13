-- The steps of a book, with the data that their rules read, and what the tokens among it stand for. A token is made only
-- where its fact holds; here it is the plain data, and `Carries` the facts of all tokens of a step.
use Rattle.std.specs.Prelude.{◌≡◌, ℕ, ℤ, List, Bool, true, false, not, Option, Some, None, slice_get}
use Rattle.std.specs.List.{list_all}
use Rattle.base.specs.Widths.{is_short}
use Rattle.lin_atoms.specs.declared.lit.Lit.{Lit}
use Rattle.lin_atoms.specs.declared.form.Form.{Form}
use Rattle.clause_form.specs.System.{Clauses}
use Rattle.clause_form.specs.declared.atom.Atom.{Atom}
use Rattle.clause_form.specs.declared.clause.Clause.{Clause}
use Rattle.cube_forms.specs.Cubes.{cube_holds, tuple_at}
use Rattle.model_project.specs.Kept.{Kept}
use Rattle.model_project.specs.Projection.{IsProjection, projection}
use Rattle.refutation_trees.specs.GivenUp.{IsGivenUp}
use Rattle.refutation_trees.specs.declared.evidence.Evidence.{Evidence}
use Rattle.book_rules.specs.Walks.{AllOf, has}
use Rattle.book_rules.specs.Instances.{IsInstance}
use Rattle.book_rules.specs.Frames.{Lemma}
use Rattle.book_rules.specs.Queries.{Used, query}

-- an instance: a clause and a point
pub record Seen : Type 0 where
  pub clause : ℕ
  pub point : List ℤ

-- that the used lemmas imply the goal through the clause: that its head is outside a cube, or, without a cube, false
pub record Shown : Type 0 where
  pub clause : ℕ
  pub goal : Option (List Lit)
  pub used : List Used

-- a form whose search was given up, with the evidence
pub record Left : Type 0 where
  pub form : Form
  pub evidence : Evidence

-- why a lemma can't be lifted: an instance breaks it, or the query was given up
pub data Why : Type 0 where
  Broken : Seen → Why
  Unknown : (clause : ℕ) → List Used → Left → Why

pub record NoLift : Type 0 where
  pub cube : List Lit
  pub why : Why

pub record OpenStep : Type 0 where
  pub parent : ℕ
  pub atom : ℕ
  pub seen : Seen
  pub cube : List Lit
  pub area : Kept

pub record LemmaStep : Type 0 where
  pub target : ℕ
  pub lemma : Lemma
  pub level : ℕ
  pub proofs : List Shown

pub record FactStep : Type 0 where
  pub target : Option ℕ
  pub seen : Seen
  pub premises : List ℕ

pub record LiftStep : Type 0 where
  pub lemma : ℕ
  pub from : ℕ
  pub proofs : List Shown

pub record RaiseStep : Type 0 where
  pub closed : List Shown
  pub kept : List NoLift

pub record StallStep : Type 0 where
  pub target : ℕ
  pub clause : ℕ
  pub used : List Used
  pub evidence : Left

-- a tuple that no obligation asks for
pub record DeriveStep : Type 0 where
  pub seen : Seen
  pub premises : List ℕ

-- a lemma that no obligation asks for
pub record StrengthenStep : Type 0 where
  pub lemma : Lemma
  pub level : ℕ
  pub proofs : List Shown

pub data Step : Type 0 where
  Opens : OpenStep → Step
  Learns : LemmaStep → Step
  Records : FactStep → Step
  Lifts : LiftStep → Step
  Raises : RaiseStep → Step
  Stalls : StallStep → Step
  Derives : DeriveStep → Step
  Strengthens : StrengthenStep → Step

-- what the tokens stand for

-- an instance of a clause that is there, with short values
pub record IsSeen (sys : Clauses) (seen : Seen) : Type 0 where
  pub clause : Clause
  pub there : slice_get sys.clauses seen.clause ≡ Some clause
  pub instance : IsInstance clause seen.point
  pub short : list_all is_short seen.point ≡ true

-- the area's cube is exactly that of the elimination, and so has what a projection has
pub record IsProjected (area : Kept) : Type 0 where
  pub exact : area.cube ≡ projection area.model area.keep area.lits
  pub projects : IsProjection area.lits area.model area.keep area.cube

-- whether a used lemma accepts the tuple of its atom
abbrev pub accepts_used : List ℤ → List Atom → Used → Bool
accepts_used point atoms u = not (has (slice_get atoms u.atom) (λ atom. cube_holds (tuple_at point atom.args) u.cube))

-- whether the goal is met: the head is outside the cube
abbrev pub meets : List ℤ → Option Atom → Option (List Lit) → Bool
meets point head None = false
meets point None (Some cube) = false
meets point (Some atom) (Some cube) = not (cube_holds (tuple_at point atom.args) cube)

-- at each instance of the clause whose body the used lemmas accept, the goal is met
abbrev pub Shows : Clauses → Shown → Type 0
Shows sys p = (clause : Clause) (point : List ℤ) → slice_get sys.clauses p.clause ≡ Some clause → IsInstance clause point → list_all (accepts_used point clause.atoms) p.used ≡ true → meets point clause.head p.goal ≡ true

abbrev pub IsLeft : Left → Type 0
IsLeft l = IsGivenUp l.form l.evidence

-- the head of the instance lies in the cube that the lemma denies
pub record Breaks (sys : Clauses) (cube : List Lit) (seen : Seen) : Type 0 where
  pub is_seen : IsSeen sys seen
  pub broken : has (is_seen.clause).head (λ atom. cube_holds (tuple_at seen.point atom.args) cube) ≡ true

-- the query of the lemma through the clause was given up
pub record IsUnknown (sys : Clauses) (cube : List Lit) (number : ℕ) (used : List Used) (left : Left) : Type 0 where
  pub clause : Clause
  pub there : slice_get sys.clauses number ≡ Some clause
  pub of_query : left.form ≡ query clause cube used
  pub is_left : IsLeft left

abbrev pub IsWhy : Clauses → List Lit → Why → Type 0
IsWhy sys cube (Broken seen) = Breaks sys cube seen
IsWhy sys cube (Unknown clause used left) = IsUnknown sys cube clause used left

abbrev pub Carries : Clauses → Step → Type 0
Carries sys (Opens o) = IsSeen sys o.seen × IsProjected o.area
Carries sys (Learns l) = AllOf (Shows sys) l.proofs
Carries sys (Records f) = IsSeen sys f.seen
Carries sys (Lifts l) = AllOf (Shows sys) l.proofs
Carries sys (Raises r) = AllOf (Shows sys) r.closed × AllOf (λ k. IsWhy sys k.cube k.why) r.kept
Carries sys (Stalls s) = IsLeft s.evidence
Carries sys (Derives f) = IsSeen sys f.seen
Carries sys (Strengthens l) = AllOf (Shows sys) l.proofs
