-- Places: wherever a cube or a lemma stands, its predicate is there, and the cube names only places that it has.
use Rattle.std.specs.Prelude.{◌≡◌, ℕ, List, Bool, true, ◌&&◌, ◌==◌, Option, Some, None, option_map, length, slice_get}
use Rattle.std.specs.List.{list_all}
use Rattle.term_tree.specs.declared.sort.Sort.{Sort}
use Rattle.lin_atoms.specs.declared.lit.Lit.{Lit}
use Rattle.clause_form.specs.System.{Clauses}
use Rattle.clause_form.specs.declared.atom.Atom.{Atom}
use Rattle.clause_form.specs.declared.clause.Clause.{Clause}
use Rattle.cube_forms.specs.Cubes.{cube_is_below}
use Rattle.book_rules.specs.Walks.{AllOf, has, on}
use Rattle.book_rules.specs.Frames.{Framed}
use Rattle.book_rules.specs.Queries.{Used}
use Rattle.book_rules.specs.OpenRules.{atom_of}
use Rattle.book_rules.specs.RaiseRules.{why_clause}
use Rattle.book_rules.specs.State.{Obligation, State}
use Rattle.book_rules.specs.Steps.{Shown, NoLift, Why, Step}

-- how many places a predicate has that is there; false has none
abbrev pub places_of : List (List Sort) → Option ℕ → Option ℕ
places_of preds None = Some 0
places_of preds (Some pred) = option_map (λ (sorts : List Sort). length sorts) (slice_get preds pred)

-- the predicate is there, and has each place of the cube
abbrev pub is_over : List (List Sort) → ℕ → List Lit → Bool
is_over preds pred cube = has (places_of preds (Some pred)) (λ n. cube_is_below n cube)

-- of so many places the cube names no other; of a predicate that isn't there nothing is asked
abbrev pub is_within : Option ℕ → List Lit → Bool
is_within None cube = true
is_within (Some n) cube = cube_is_below n cube

-- where an atom is there, the cube is over its predicate; a cube on an atom that isn't there is over none
abbrev pub is_over_atom : List (List Sort) → Option Atom → List Lit → Bool
is_over_atom preds None cube = true
is_over_atom preds (Some atom) cube = is_over preds atom.pred cube

abbrev pub head_of : Clauses → ℕ → Option Atom
head_of sys number = on (slice_get sys.clauses number) (λ (clause : Clause). clause.head)

abbrev pub used_has_places : Clauses → ℕ → Used → Bool
used_has_places sys number u = is_over_atom sys.preds (on (slice_get sys.clauses number) (λ (clause : Clause). slice_get clause.atoms u.atom)) u.cube

abbrev pub goal_has_places : Clauses → ℕ → Option (List Lit) → Bool
goal_has_places sys number None = true
goal_has_places sys number (Some cube) = is_over_atom sys.preds (head_of sys number) cube

abbrev pub shown_has_places : Clauses → Shown → Bool
shown_has_places sys p = goal_has_places sys p.clause p.goal && list_all (used_has_places sys p.clause) p.used

abbrev pub why_has_places : Clauses → Why → Bool
why_has_places sys (Why.Broken seen) = true
why_has_places sys (Why.Unknown clause used left) = list_all (used_has_places sys clause) used

abbrev pub no_lift_has_places : Clauses → NoLift → Bool
no_lift_has_places sys k = is_over_atom sys.preds (head_of sys (why_clause k.why)) k.cube && why_has_places sys k.why

-- each cube and lemma of a step is over its predicate: what a step has to bring before its rules are tried. That the predicate of
-- a Lemma is there, and that the lemma of a Strengthen is over its own, a rule asks
abbrev pub has_places : Clauses → Step → Bool
has_places sys (Step.Opens o) = is_over_atom sys.preds (atom_of sys o) o.cube
has_places sys (Step.Learns l) = is_within (places_of sys.preds (Some l.lemma.pred)) l.lemma.cube && list_all (shown_has_places sys) l.proofs
has_places sys (Step.Records f) = true
has_places sys (Step.Lifts l) = list_all (shown_has_places sys) l.proofs
has_places sys (Step.Raises r) = list_all (shown_has_places sys) r.closed && list_all (no_lift_has_places sys) r.kept
has_places sys (Step.Stalls t) = list_all (used_has_places sys t.clause) t.used
has_places sys (Step.Derives f) = true
has_places sys (Step.Strengthens l) = list_all (shown_has_places sys) l.proofs

-- an obligation's predicate is there, with each place of its cube, and its point has a value for each place; false has none
abbrev pub obligation_fits : List (List Sort) → Obligation → Bool
obligation_fits preds o = has (places_of preds o.pred) (λ n. cube_is_below n o.cube && (length o.point == n))

-- so it is in a book
pub record AreOver (sys : Clauses) (s : State) : Type 0 where
  pub lemmas : AllOf (λ (e : Framed). is_over sys.preds e.lemma.pred e.lemma.cube ≡ true) s.lemmas
  pub obligations : AllOf (λ (o : Obligation). obligation_fits sys.preds o ≡ true) s.obligations
