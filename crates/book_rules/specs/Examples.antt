-- A short run, step by step: 0 is reached, each number reaches the next, and 3 must not be reached.
use Rattle.std.specs.Prelude.{ℕ, ℤ, pos, negsuc, List, [], ◌∷◌, Option, Some, None}
use Rattle.term_tree.specs.declared.sort.Sort.TheVariants.{Int}
use Rattle.lin_atoms.specs.declared.lit.Lit.{Lit}
use Rattle.lin_atoms.specs.declared.lit.Lit.TheVariants.{Eq}
use Rattle.lin_atoms.specs.declared.form.Form.TheVariants.{True, Lit as Literal}
use Rattle.clause_form.specs.System.{Clauses}
use Rattle.clause_form.specs.declared.atom.Atom.{Atom}
use Rattle.clause_form.specs.declared.clause.Clause.{Clause}
use Rattle.book_rules.specs.Frames.{Lemma}
use Rattle.book_rules.specs.State.{State, opening}
use Rattle.book_rules.specs.Steps.{Shown, Step}
use Rattle.book_rules.specs.Effects.{after}

-- variable v is the number
abbrev pub is_number : ℕ → ℤ → Lit
is_number v minus = Eq (record { terms = (v, pos 1) ∷ []; constant = minus })

abbrev pub is_3 : Lit
is_3 = is_number 0 (negsuc 2)

abbrev pub at_variable : ℕ → Atom
at_variable v = record { pred = 0; args = v ∷ [] }

-- x = 0 implies p(x)
abbrev pub first_clause : Clause
first_clause = record { assertion = 0; user = 1; sorts = Int ∷ []; atoms = []; guard = Literal (is_number 0 (pos 0)); head = Some (at_variable 0) }

-- p(x) and x - y + 1 = 0 imply p(y)
abbrev pub next_clause : Clause
next_clause = record { assertion = 1; user = 2; sorts = Int ∷ Int ∷ []; atoms = at_variable 0 ∷ []; guard = Literal (Eq (record { terms = (0, pos 1) ∷ (1, negsuc 0) ∷ []; constant = pos 1 })); head = Some (at_variable 1) }

-- p(x) and x = 3 imply false
abbrev pub bad_clause : Clause
bad_clause = record { assertion = 2; user = 1; sorts = Int ∷ []; atoms = at_variable 0 ∷ []; guard = Literal is_3; head = None }

abbrev pub counting : Clauses
counting = record { clauses = first_clause ∷ next_clause ∷ bad_clause ∷ []; preds = (Int ∷ []) ∷ [] }

-- false by itself
abbrev pub contradiction : Clauses
contradiction = record { clauses = (record { assertion = 0; user = 0; sorts = []; atoms = []; guard = True; head = None }) ∷ []; preds = [] }

-- the steps

abbrev pub open_3 : Step
open_3 = Step.Opens (record { parent = 0; atom = 0; seen = record { clause = 2; point = pos 3 ∷ [] }; cube = is_3 ∷ []; area = record { lits = is_3 ∷ []; model = pos 3 ∷ []; keep = 0 ∷ []; cube = is_3 ∷ [] } })

abbrev pub fact_0 : Option ℕ → Step
fact_0 target = Step.Records (record { target = target; seen = record { clause = 0; point = pos 0 ∷ [] }; premises = [] })

abbrev pub fact_false : Step
fact_false = Step.Records (record { target = None; seen = record { clause = 0; point = [] }; premises = [] })

abbrev pub not_3 : Lemma
not_3 = record { pred = 0; cube = is_3 ∷ [] }

abbrev pub lemma_not_3 : ℕ → List Shown → Step
lemma_not_3 level proofs = Step.Learns (record { target = 1; lemma = not_3; level = level; proofs = proofs })

abbrev pub lift_0 : Step
lift_0 = Step.Lifts (record { lemma = 0; from = 1; proofs = [] })

abbrev pub raise_by : List Shown → Step
raise_by closed = Step.Raises (record { closed = closed; kept = [] })

abbrev pub through_first : Shown
through_first = record { clause = 0; goal = Some (is_3 ∷ []); used = [] }

abbrev pub through_bad : Shown
through_bad = record { clause = 2; goal = None; used = (record { atom = 0; cube = is_3 ∷ [] }) ∷ [] }

-- the states between them

abbrev pub at_start : State
at_start = opening 50000

abbrev pub after_raise : State
after_raise = after counting at_start (raise_by [])

abbrev pub after_open : State
after_open = after counting after_raise open_3

abbrev pub after_lemma : State
after_lemma = after counting after_open (lemma_not_3 1 (through_first ∷ []))

abbrev pub after_second : State
after_second = after counting after_lemma (raise_by (through_bad ∷ []))
