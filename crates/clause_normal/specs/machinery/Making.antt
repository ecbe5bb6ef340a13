-- The parts of a guard as the code makes them: with sorts and constants that are kept in tables, and under given names.
use Rattle.std.specs.Prelude.{◌≡◌, ◌<◌, ◌≤◌, ◌^◌, ℕ, ◌+◌, List, ◌++◌, map, length, slice_get, Option, Some, None, option_map, unwrap_or, not, Result, Ok, Err, ℤ}
use Rattle.std.specs.List.{AllByRecursion}
use Rattle.term_tree.specs.declared.node.TermId.{TermId}
use Rattle.term_tree.specs.declared.node.OpKind.{OpKind}
use Rattle.term_tree.specs.declared.node.Node.{Node}
use Rattle.term_tree.specs.declared.node.Node.TheVariants.{Op}
use Rattle.term_tree.specs.declared.script.Script.{Script}
use Rattle.term_tree.specs.declared.sort.Sort.TheVariants.{Int}
use Rattle.horn_shape.specs.declared.clause.Part.{Part}
use Rattle.horn_shape.specs.declared.clause.AtomUse.{AtomUse}
use Rattle.horn_shape.specs.declared.clause.HornClause.{HornClause}
use Rattle.lin_atoms.specs.declared.form.Form.{Form}
use Rattle.linear_terms.specs.Text.{Sorting}
use Rattle.linear_terms.specs.Linear.{Naming}
use Rattle.term_tables.specs.machinery.Table.{AreConstants, AreSorts, constant_in}
use Rattle.term_widths.specs.machinery.Room.{AreBounds}
use Rattle.term_formulas.specs.Written.{HasRoom, formula_by, place_forms_by}
use Rattle.term_formulas.specs.machinery.Parts.{ArePlaces}
use Rattle.clause_form.specs.declared.clause.Clause.{Clause}
use Rattle.clause_normal.specs.declared.tables.Tables.{Tables}
use Rattle.term_tree.specs.declared.refusal.Kind.TheVariants.{TooWide, NotHorn, Count}
use Rattle.term_tree.specs.declared.refusal.Refusal.{Refusal}
use Rattle.term_tree.specs.declared.script.Assertion.{Assertion}
use Rattle.horn_shape.specs.Clause.{IsClauseOf, IsLegalScript}
use Rattle.horn_shape.specs.declared.stop.HornStop.{HornStop}
use Rattle.horn_shape.specs.declared.stop.HornStop.TheVariants.{Memory as OutOfShapeMemory, NotHorn as NotHornAt}
use Rattle.clause_normal.specs.declared.stop.NormalStop.{NormalStop}
use Rattle.clause_normal.specs.declared.stop.NormalStop.TheVariants.{Memory as NormalMemory, TooWide as TooWideAt, Count as CountAt}
use Rattle.clause_normal.specs.declared.stop.ClauseStop.{ClauseStop}
use Rattle.clause_normal.specs.declared.stop.ClauseStop.TheVariants.{Memory as ClauseMemory, Refused}
use Rattle.clause_normal.specs.Reading.{refusal_at}
use Rattle.clause_normal.specs.Normal.{bits_from, conjunction, normal_atom}
use Rattle.clause_form.specs.System.{most_variables}

abbrev pub guard_by : (ℕ → Option ℤ) → Sorting → Naming → List Node → Part → Form
guard_by constant sorts naming nodes part = formula_by constant sorts naming nodes part.term.0 (not part.negated)

abbrev pub parts_by : (ℕ → Option ℤ) → Sorting → Naming → List Node → HornClause → List ℕ → List Form
parts_by constant sorts naming nodes clause placed =
    bits_from 0 clause.vars ++ place_forms_by constant sorts naming nodes (length clause.vars) placed ++ map (guard_by constant sorts naming nodes) clause.guards

-- each guard has room
abbrev pub GuardsHaveRoom : (ℕ → Option ℤ) → Naming → List Node → List Part → Type 0
GuardsHaveRoom constant naming nodes guards = AllByRecursion (λ part. HasRoom constant naming nodes part.term.0) guards

-- the arguments of an atom, of each of these, and of a head
abbrev pub IsThere : List Node → AtomUse → Type 0
IsThere nodes atom = AllByRecursion (λ part. part.term.0 < length nodes) atom.args

abbrev pub AreThere : List Node → List AtomUse → Type 0
AreThere nodes atoms = AllByRecursion (IsThere nodes) atoms

abbrev pub IsHeadThere : List Node → Option AtomUse → Type 0
IsHeadThere nodes None = Unit {0}
IsHeadThere nodes (Some atom) = IsThere nodes atom

-- the clause, where its guard is made so
abbrev pub clause_by : (ℕ → Option ℤ) → Sorting → Naming → List Node → HornClause → List ℕ → Clause
clause_by constant sorts naming nodes clause placed =
    record {
      assertion = clause.assertion;
      user = length clause.vars;
      sorts = clause.vars ++ map (λ id. unwrap_or (sorts id) Int) placed;
      atoms = map (normal_atom naming nodes) clause.atoms;
      guard = conjunction (parts_by constant sorts naming nodes clause placed);
      head = option_map (normal_atom naming nodes) clause.head;
    }

-- all that the clause is made of has room, and the auxiliary variables follow its own
pub record HasRoomFor (constant : ℕ → Option ℤ) (naming : Naming) (nodes : List Node) (clause : HornClause) (placed : List ℕ) : Type 0 where
  pub few : length clause.vars + length placed ≤ most_variables
  pub guards : GuardsHaveRoom constant naming nodes clause.guards
  pub places : ArePlaces constant naming nodes (length clause.vars) placed
  pub atoms : AreThere nodes clause.atoms
  pub head : IsHeadThere nodes clause.head

-- what is kept of the script's terms is told of them
pub record AreTablesOf (script : Script) (tables : Tables) : Type 0 where
  pub sorts : AreSorts script.preds script.terms.nodes tables.sorts
  pub constants : AreConstants script.terms.nodes tables.constants
  pub rooms : AreBounds (constant_in tables.constants) script.terms.nodes tables.rooms

-- a clause of the script, with what is kept of its terms
pub record IsGiven (script : Script) (tables : Tables) (clause : HornClause) : Type 0 where
  pub legal : IsLegalScript script
  pub own : IsClauseOf script clause.assertion clause
  pub kept : AreTablesOf script tables

-- no operation among the terms that have a number of 32 bits has more arguments than a list can hold
abbrev pub HasFewArguments : List Node → Type 0
HasFewArguments nodes = (id : ℕ) (op : OpKind) (args : List TermId) → id < 2 ^ 32 → slice_get nodes id ≡ Some (Op op args) → length args < 2 ^ 63

-- the term that is found starts there
pub record HasFirst (found : Option ℕ) (offsets : List ℕ) (offset : ℕ) : Type 0 where
  pub term : ℕ
  pub is : found ≡ Some term
  pub start : slice_get offsets term ≡ Some offset

-- what the stop of an assertion says of a script
abbrev pub MeansHorn : HornStop → Assertion → ClauseStop → Type 0
MeansHorn OutOfShapeMemory assertion stop = stop ≡ ClauseMemory
MeansHorn (NotHornAt offset) assertion stop = stop ≡ Refused (refusal_at NotHorn offset assertion)

abbrev pub MeansNormal : NormalStop → Assertion → ClauseStop → Type 0
MeansNormal NormalMemory assertion stop = stop ≡ ClauseMemory
MeansNormal (TooWideAt offset) assertion stop = stop ≡ Refused (refusal_at TooWide offset assertion)
MeansNormal (CountAt offset) assertion stop = stop ≡ Refused (refusal_at Count offset assertion)

-- clauses before those of the assertions to come
abbrev pub after : List Clause → Result (List Clause) Refusal → Result (List Clause) Refusal
after clauses (Err refusal) = Err refusal
after clauses (Ok others) = Ok (clauses ++ others)
