-- Places in a formula: the numbers of the parts that lead through conjunctions to a literal or a disjunction.
use Rattle.std.specs.Prelude.{◌≡◌, ℕ, List, [], ◌∷◌, ◌++◌, Some, length, map, pos, slice_get, slice_index_or}
use Rattle.std.specs.List.{flat_map}
use Rattle.lin_atoms.specs.Linear.{of_constant}
use Rattle.lin_atoms.specs.declared.lit.Lit.{Lit}
use Rattle.lin_atoms.specs.declared.lit.Lit.TheVariants.{Le}
use Rattle.lin_atoms.specs.declared.form.Form.{Form, And', Or', items-the_row-Form}
use Rattle.lin_atoms.specs.declared.form.Form.TheOpen.{Form-F}
use Rattle.lin_atoms.specs.declared.form.Form.TheFolds.{fold-Form}
use Rattle.clause_form.specs.declared.clause.Clause.{Clause}
use Rattle.refutation_trees.specs.Flatten.{disjunctions, literals}
use Rattle.clause_index.specs.declared.places.Place.{Place}
use Rattle.clause_index.specs.declared.places.Places.{Places}

-- the parts of a conjunction, and those of a disjunction
abbrev pub conjuncts : Form → List Form
conjuncts (And' shape parts) = items-the_row-Form _ parts
conjuncts _ = []

abbrev pub disjuncts : Form → List Form
disjuncts (Or' shape parts) = items-the_row-Form _ parts
disjuncts _ = []

-- where a path of numbers leads; a number that leads nowhere leads to the formula itself
abbrev pub at : Form → List ℕ → Form
at form [] = form
at form (i ∷ path) = at (slice_index_or (conjuncts form) i form) path

-- `False` is the literal 1 <= 0
abbrev pub lit_step : Form-F Lit → Lit
lit_step (Form-F.Lit lit) = lit
lit_step _ = Le (of_constant (pos 1))

abbrev pub own_lit : Form → Lit
own_lit = fold-Form Lit lit_step

abbrev pub lit_at : Form → Place → Lit
lit_at form place = own_lit (at form (place.first ∷ place.second ∷ place.below))

abbrev pub parts_at : Form → Place → List Form
parts_at form place = disjuncts (at form (place.first ∷ place.second ∷ place.below))

-- the places of a formula's literals and disjunctions, in order
pub record ArePlaces (form : Form) (places : Places) : Type 0 where
  pub lits : map (lit_at form) places.lits ≡ literals form
  pub cases : map (parts_at form) places.cases ≡ disjunctions form

-- those of literals and disjunctions are put behind others
pub record Adds (root : Form) (old new : Places) (ls : List Lit) (cs : List (List Form)) : Type 0 where
  pub lits : map (lit_at root) new.lits ≡ map (lit_at root) old.lits ++ ls
  pub cases : map (parts_at root) new.cases ≡ map (parts_at root) old.cases ++ cs

-- those of a formula that the path leads to
abbrev pub AddsAt : List ℕ → Places → Form → Places → Type 0
AddsAt path old form new = (root : Form) → at root path ≡ form → Adds root old new (literals form) (disjunctions form)

-- those of some of the parts of a conjunction that the path leads to
abbrev pub AddsSome : List ℕ → Places → List Form → List Form → Places → Type 0
AddsSome path old parts some new = (root : Form) → conjuncts (at root path) ≡ parts → Adds root old new (flat_map literals some) (flat_map disjunctions some)

abbrev pub AddsParts : List ℕ → Places → List Form → Places → Type 0
AddsParts path old parts new = AddsSome path old parts parts new

-- the guards of as many clauses have their places
pub record HaveSoFar (clauses : List Clause) (n : ℕ) (guards : List Places) : Type 0 where
  pub many : length guards ≡ n
  pub each : (i : ℕ) (clause : Clause) (places : Places) → slice_get clauses i ≡ Some clause → slice_get guards i ≡ Some places → ArePlaces clause.guard places

-- those of all of them
abbrev pub HavePlaces : List Clause → List Places → Type 0
HavePlaces clauses guards = HaveSoFar clauses (length clauses) guards
