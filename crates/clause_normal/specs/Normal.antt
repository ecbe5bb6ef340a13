-- The normal clause of an assertion: its guard as a linear formula over integer variables, and variables in place of
-- arguments (Komuravelli, Gurfinkel and Chaki, "SMT-based model checking for recursive programs", section 2).
use Rattle.std.specs.Prelude.{ℕ, ◌+◌, List, [], ◌∷◌, ◌++◌, map, length, slice_get, Option, Some, None, option_map, unwrap_or, Bool, not, ◌||◌, nat_lt, negsuc}
use Rattle.term_tree.specs.declared.sort.Sort.{Sort}
use Rattle.term_tree.specs.declared.sort.Sort.TheVariants.{Int, Bool as Truth}
use Rattle.term_tree.specs.declared.node.Node.{Node}
use Rattle.term_tree.specs.declared.node.Node.TheVariants.{Var}
use Rattle.term_tree.specs.declared.script.Assertion.{Assertion}
use Rattle.term_tree.specs.declared.script.Script.{Script}
use Rattle.term_tree.specs.Sorts.{sort_of}
use Rattle.horn_shape.specs.declared.clause.Part.{Part}
use Rattle.horn_shape.specs.declared.clause.AtomUse.{AtomUse}
use Rattle.horn_shape.specs.declared.clause.HornClause.{HornClause}
use Rattle.lin_atoms.specs.Algebra.{negated, plus}
use Rattle.lin_atoms.specs.declared.form.Form.{Form}
use Rattle.lin_atoms.specs.declared.form.Form.TheVariants.{True}
use Rattle.lin_atoms.specs.declared.form.Form.TheViews.{And}
use Rattle.linear_terms.specs.Text.{Sorting, places}
use Rattle.linear_terms.specs.Linear.{Naming, naming_of, variable_form}
use Rattle.linear_terms.specs.Formula.{le, formula}
use Rattle.linear_terms.specs.Place.{place_form}
use Rattle.linear_terms.specs.Width.{first_wide}
use Rattle.clause_form.specs.declared.atom.Atom.{Atom}
use Rattle.clause_form.specs.declared.clause.Clause.{Clause}
use Rattle.clause_form.specs.System.{most_variables}

-- how many variables of its own an assertion may have, and how many body atoms
abbrev pub most_own : ℕ
most_own = 1024

-- how many atoms the body of an assertion may have at most
abbrev pub most_atoms : ℕ
most_atoms = 64

-- a conjunction of the parts; one part is itself, and none is true
abbrev pub conjunction : List Form → Form
conjunction [] = True
conjunction (form ∷ []) = form
conjunction (form ∷ next ∷ forms) = And (form ∷ next ∷ forms)

-- the Bool variables are 0 or 1, from this variable on
abbrev pub bits_from : ℕ → List Sort → List Form
bits_from v [] = []
bits_from v (Int ∷ sorts) = bits_from (v + 1) sorts
bits_from v (Truth ∷ sorts) = le (negated (variable_form v)) ∷ le (plus (variable_form v) (negsuc 0)) ∷ bits_from (v + 1) sorts

-- the forms of the auxiliary variables of these places, the first of which has this number
abbrev pub place_forms : Sorting → Naming → List Node → ℕ → List ℕ → List Form
place_forms sorts naming nodes v [] = []
place_forms sorts naming nodes v (id ∷ ids) = place_form sorts naming nodes v id ∷ place_forms sorts naming nodes (v + 1) ids

-- a guard is true, a negated one false
abbrev pub guard_form : Sorting → Naming → List Node → Part → Form
guard_form sorts naming nodes part = formula sorts naming nodes part.term.0 (not part.negated)

-- the sort of the term of a number in the script, by the predicates declared; none where it isn't well-sorted
abbrev pub sorting : Script → Sorting
sorting script = sort_of script.preds script.terms.nodes

-- the number of an assertion's whole term; 0 where there is no assertion
abbrev pub term_number : Option Assertion → ℕ
term_number None = 0
term_number (Some assertion) = assertion.term.0

-- the term of the assertion that the clause was made of
abbrev pub top_of : Script → HornClause → ℕ
top_of script clause = term_number (slice_get script.asserts clause.assertion)

-- the terms of the assertion that have auxiliary variables, in the order of the text
abbrev pub auxiliaries : Script → HornClause → List ℕ
auxiliaries script clause = places (sorting script) script.terms.nodes (top_of script clause)

-- the assertion's own variables come first, then the auxiliary ones
abbrev pub names_of : Script → HornClause → Naming
names_of script clause = naming_of (length clause.vars) (auxiliaries script clause)

-- the conjuncts of the guard: 0 or 1 for each Bool variable, then the auxiliary variables' forms, then the guards
abbrev pub guard_parts : Script → HornClause → List Form
guard_parts script clause =
    bits_from 0 clause.vars
    ++ place_forms (sorting script) (names_of script clause) script.terms.nodes (length clause.vars) (auxiliaries script clause)
    ++ map (guard_form (sorting script) (names_of script clause) script.terms.nodes) clause.guards

-- what the clause asks of its variables: the bits, what determines the auxiliary variables, and the guards
abbrev pub clause_guard : Script → HornClause → Form
clause_guard script clause = conjunction (guard_parts script clause)

-- a variable stands for itself, and another argument has an auxiliary one
abbrev pub argument_variable : (ℕ → Option ℕ) → ℕ → Option Node → ℕ
argument_variable auxiliary id (Some (Var binder sort)) = binder
argument_variable auxiliary id _ = unwrap_or (auxiliary id) 0

-- an atom with a variable for each of its arguments
abbrev pub normal_atom : Naming → List Node → AtomUse → Atom
normal_atom naming nodes atom =
    record { pred = atom.pred; args = map (λ part. argument_variable naming.auxiliary part.term.0 (slice_get nodes part.term.0)) atom.args }

-- an auxiliary variable has the sort of its term
abbrev pub variable_sorts : Script → HornClause → List Sort
variable_sorts script clause = clause.vars ++ map (λ id. unwrap_or (sorting script id) Int) (auxiliaries script clause)

-- the clause of an assertion over integer variables, its own first, with a linear guard and atoms over variables
abbrev pub normal_clause : Script → HornClause → Clause
normal_clause script clause =
    record {
      assertion = clause.assertion;
      user = length clause.vars;
      sorts = variable_sorts script clause;
      atoms = map (normal_atom (names_of script clause) script.terms.nodes) clause.atoms;
      guard = clause_guard script clause;
      head = option_map (normal_atom (names_of script clause) script.terms.nodes) clause.head;
    }

-- the first term of the assertion whose linear form has no room, or of which a difference of sides has none
abbrev pub first_without_room : Script → HornClause → Option ℕ
first_without_room script clause = first_wide (names_of script clause) script.terms.nodes (top_of script clause)

-- more variables or body atoms than a clause may have
abbrev pub is_too_large : Script → HornClause → Bool
is_too_large script clause =
    nat_lt most_own (length clause.vars) || nat_lt most_atoms (length clause.atoms) || nat_lt most_variables (length clause.vars + length (auxiliaries script clause))
