-- The clauses of a script in the order of its assertions, or the first refusal.
use Rattle.std.specs.Prelude.{ℕ, ◌+◌, List, [], ◌∷◌, map, slice_index_or, Option, Some, None, Result, Ok, Err, if◌then◌else◌}
use Rattle.term_tree.specs.declared.refusal.Kind.{Kind}
use Rattle.term_tree.specs.declared.refusal.Kind.TheVariants.{TooWide, NotHorn, Count}
use Rattle.term_tree.specs.declared.refusal.Refusal.{Refusal}
use Rattle.term_tree.specs.declared.refusal.Checked.{Checked}
use Rattle.term_tree.specs.declared.script.Assertion.{Assertion}
use Rattle.term_tree.specs.declared.script.Script.{Script}
use Rattle.horn_shape.specs.declared.clause.HornClause.{HornClause}
use Rattle.horn_shape.specs.Clause.{assertion_reading}
use Rattle.horn_shape.specs.Shape.{Content, Reading}
use Rattle.clause_form.specs.declared.clause.Clause.{Clause}
use Rattle.clause_normal.specs.Normal.{first_without_room, is_too_large, normal_clause}
use Rattle.clause_form.specs.System.{Clauses}

-- the refusal of a script by this kind at this byte, in the command of the assertion
abbrev pub refusal_at : Kind → ℕ → Assertion → Refusal
refusal_at kind offset a = record { kind = kind; offset = offset; command = a.command }

-- where a term of the script starts
abbrev pub term_start : Script → ℕ → ℕ
term_start script id = slice_index_or script.terms.offsets id 0

-- numbers without room come before numbers past a limit
abbrev pub by_room : Script → Assertion → HornClause → Option ℕ → Result Clause Refusal
by_room script a clause (Some id) = Err (refusal_at TooWide (term_start script id) a)
by_room script a clause None = if is_too_large script clause then Err (refusal_at Count a.offset a) else Ok (normal_clause script clause)

-- what was read of the assertion of that number, from 0, as its Horn clause
abbrev pub clause_with : ℕ → Content → HornClause
clause_with index content =
    record { assertion = index; vars = content.vars; atoms = content.atoms; guards = content.guards; head = content.head }

-- the normal clause of an assertion of that shape, or a refusal: where no Horn clause fits it starts at the misfit
abbrev pub by_shape : Script → ℕ → Assertion → Reading → Result Clause Refusal
by_shape script index a (Err misfit) = Err (refusal_at NotHorn (term_start script misfit.0) a)
by_shape script index a (Ok content) = by_room script a (clause_with index content) (first_without_room script (clause_with index content))

-- the normal clause of the assertion of that number, or why it has none
abbrev pub normal_reading : Script → ℕ → Assertion → Result Clause Refusal
normal_reading script index a = by_shape script index a (assertion_reading script a)

-- a clause before the others; the first refusal where there is one
abbrev pub clause_and_others : Result Clause Refusal → Result (List Clause) Refusal → Result (List Clause) Refusal
clause_and_others (Err refusal) others = Err refusal
clause_and_others (Ok clause) (Err refusal) = Err refusal
clause_and_others (Ok clause) (Ok clauses) = Ok (clause ∷ clauses)

-- the normal clauses of assertions that are numbered on from `index`, or the first refusal of one
abbrev pub all_clauses : Script → ℕ → List Assertion → Result (List Clause) Refusal
all_clauses script index [] = Ok []
all_clauses script index (a ∷ asserts) = clause_and_others (normal_reading script index a) (all_clauses script (index + 1) asserts)

-- the refusal of an assertion comes before the stop that the script has
abbrev pub unless_stopped : Option Refusal → Script → Result (List Clause) Refusal → Result Clauses Refusal
unless_stopped stop script (Err refusal) = Err refusal
unless_stopped (Some refusal) script (Ok clauses) = Err refusal
unless_stopped None script (Ok clauses) = Ok (record { clauses = clauses; preds = map (λ p. p.args) script.preds })

-- the normal clauses of a script with the sorts of its predicates' arguments, or why it is refused
abbrev pub system_reading : Checked → Result Clauses Refusal
system_reading checked = unless_stopped checked.stop checked.script (all_clauses checked.script 0 checked.script.asserts)
