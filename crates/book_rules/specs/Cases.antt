-- States and steps by hand, one for each case that the short run doesn't come to, over the same clauses.
use Rattle.std.specs.Prelude.{ℕ, ℤ, pos, negsuc, List, [], ◌∷◌, Option, Some, None, true, false}
use Rattle.lin_atoms.specs.declared.lit.Lit.{Lit}
use Rattle.lin_atoms.specs.declared.lit.Lit.TheVariants.{Le, Eq}
use Rattle.lin_atoms.specs.declared.form.Form.{Form}
use Rattle.lin_atoms.specs.declared.form.Form.TheVariants.{Lit as Literal}
use Rattle.refutation_trees.specs.declared.evidence.Evidence.{Evidence}
use Rattle.refutation_trees.specs.declared.evidence.Evidence.TheVariants.{Nodes}
use Rattle.term_tree.specs.declared.sort.Sort.TheVariants.{Int}
use Rattle.clause_form.specs.System.{Clauses}
use Rattle.model_project.specs.Projection.{projection}
use Rattle.book_rules.specs.Frames.{Lemma, Framed}
use Rattle.book_rules.specs.Queries.{Used, query}
use Rattle.book_rules.specs.State.{Fact, Obligation, State, opening, root_at}
use Rattle.book_rules.specs.Steps.{Shown, NoLift, Why, OpenStep, Step}
use Rattle.book_rules.specs.Effects.{after}
use Rattle.book_rules.specs.Examples.{is_number, is_3, at_variable, next_clause, counting, not_3, through_first, through_bad}

abbrev pub is_value : ℤ → List Lit
is_value minus = is_number 0 minus ∷ []

-- the number isn't 2, 8, 9
abbrev pub not_2 : Lemma
not_2 = record { pred = 0; cube = is_value (negsuc 1) }

abbrev pub not_8 : Lemma
not_8 = record { pred = 0; cube = is_value (negsuc 7) }

abbrev pub not_9 : Lemma
not_9 = record { pred = 0; cube = is_value (negsuc 8) }

abbrev pub at_level : ℕ → Lemma → Framed
at_level level lemma = record { lemma = lemma; level = level }

-- an obligation for one number, under the parent, by the clause
abbrev pub asks : ℕ → ℕ → ℕ → ℤ → ℤ → Obligation
asks level parent clause n minus = record { pred = Some 0; level = level; cube = is_value minus; point = n ∷ []; parent = parent; clause = clause; atom = 0; closed = None; stalled = false }

-- 0 is reached
abbrev pub zero_is_reached : Fact
zero_is_reached = record { conclusion = Some (0, pos 0 ∷ []); clause = 0; point = pos 0 ∷ []; premises = []; height = 1 }

-- N = 2: obligation 1 asks for 1, with 3 under it, which asks for 5; 2 asks for 2
abbrev pub asked : State
asked = record {
  level = 2;
  lemmas = at_level 1 not_3 ∷ [];
  facts = zero_is_reached ∷ [];
  obligations = root_at 3 ∷ asks 2 0 2 (pos 1) (negsuc 0) ∷ asks 2 0 2 (pos 2) (negsuc 1) ∷ asks 1 1 1 (pos 5) (negsuc 4) ∷ [];
  given = 50000;
  spent = 9;
  entries = 9;
}

-- Fact: 1 is reached from 0
abbrev pub fact_1 : List ℕ → Option ℕ → Step
fact_1 premises target = Step.Records (record { target = target; seen = record { clause = 1; point = pos 0 ∷ pos 1 ∷ [] }; premises = premises })

abbrev pub fact_2 : Step
fact_2 = Step.Records (record { target = Some 1; seen = record { clause = 1; point = pos 1 ∷ pos 2 ∷ [] }; premises = 1 ∷ [] })

abbrev pub fact_0_again : Step
fact_0_again = Step.Records (record { target = Some 1; seen = record { clause = 0; point = pos 0 ∷ [] }; premises = [] })

abbrev pub after_fact : State
after_fact = after counting asked (fact_1 (0 ∷ []) (Some 1))

-- Lemma
abbrev pub through_next : Lemma → List Lit → Shown
through_next lemma used = record { clause = 1; goal = Some lemma.cube; used = (record { atom = 0; cube = used }) ∷ [] }

abbrev pub learn_9 : List Lit → Step
learn_9 used = Step.Learns (record { target = 1; lemma = not_9; level = 1; proofs = (record { clause = 0; goal = Some not_9.cube; used = [] }) ∷ through_next not_9 used ∷ [] })

-- Lift: neither 2 nor 3 within 1, so not 3 within 2
abbrev pub learnt_2 : State
learnt_2 = record { level = 2; lemmas = at_level 1 not_3 ∷ at_level 1 not_2 ∷ []; facts = []; obligations = root_at 3 ∷ asks 2 0 2 (pos 3) (negsuc 2) ∷ []; given = 50000; spent = 9; entries = 9 }

abbrev pub lift_3 : ℕ → List Shown → Step
lift_3 from proofs = Step.Lifts (record { lemma = 0; from = from; proofs = proofs })

abbrev pub both_proofs : List Shown
both_proofs = through_first ∷ through_next not_3 not_2.cube ∷ []

abbrev pub after_lift : State
after_lift = after counting learnt_2 (lift_3 1 both_proofs)

-- Derive: 0 and 1 are reached, whether an obligation asks for them or not
abbrev pub derive_0 : Step
derive_0 = Step.Derives (record { seen = record { clause = 0; point = pos 0 ∷ [] }; premises = [] })

abbrev pub derive_1 : List ℕ → Step
derive_1 premises = Step.Derives (record { seen = record { clause = 1; point = pos 0 ∷ pos 1 ∷ [] }; premises = premises })

abbrev pub after_derive : State
after_derive = after counting asked (derive_1 (0 ∷ []))

-- Strengthen: not 3 within 2, beside the same lemma within 1
abbrev pub strengthen_by : Lemma → ℕ → List Shown → Step
strengthen_by lemma level proofs = Step.Strengthens (record { lemma = lemma; level = level; proofs = proofs })

abbrev pub after_strengthen : State
after_strengthen = after counting learnt_2 (strengthen_by not_3 2 both_proofs)

-- a lemma about a predicate that isn't there, and about a place that isn't
abbrev pub of_another : Lemma
of_another = record { pred = 1; cube = [] }

abbrev pub too_wide : Lemma
too_wide = record { pred = 0; cube = is_number 1 (negsuc 2) ∷ [] }

-- Raise: not 9 stays at level 1, since 8 reaches 9
abbrev pub kept_9 : List Framed → State
kept_9 more = record { level = 2; lemmas = at_level 1 not_9 ∷ at_level 2 not_3 ∷ more; facts = []; obligations = root_at 3 ∷ asks 2 0 2 (pos 3) (negsuc 2) ∷ []; given = 50000; spent = 9; entries = 9 }

abbrev pub reaches : Lemma → ℤ → ℤ → NoLift
reaches lemma x y = record { cube = lemma.cube; why = Why.Broken (record { clause = 1; point = x ∷ y ∷ [] }) }

abbrev pub eight_reaches_nine : NoLift
eight_reaches_nine = reaches not_9 (pos 8) (pos 9)

-- the search was given up, with a lemma used that may be in no frame
abbrev pub left_over : NoLift
left_over = record { cube = not_9.cube; why = Why.Unknown 1 ((record { atom = 0; cube = is_value (negsuc 6) }) ∷ []) (record { form = Literal is_3; evidence = Nodes 1 }) }

abbrev pub raise_past : List NoLift → Step
raise_past kept = Step.Raises (record { closed = through_bad ∷ []; kept = kept })

-- Stall: the query of obligation 2 through the second clause is given up
abbrev pub not_3_used : List Used
not_3_used = (record { atom = 0; cube = not_3.cube }) ∷ []

abbrev pub query_2 : List Used → Form
query_2 used = query next_clause (is_value (negsuc 1)) used

abbrev pub stall_2 : List Used → Evidence → Step
stall_2 used evidence = Step.Stalls (record { target = 2; clause = 1; used = used; evidence = record { form = query_2 used; evidence = evidence } })

abbrev pub stall_at : ℕ → ℕ → Step
stall_at target clause = Step.Stalls (record { target = target; clause = clause; used = []; evidence = record { form = Literal is_3; evidence = Nodes 1 } })

abbrev pub after_stall : State
after_stall = after counting asked (stall_2 not_3_used (Nodes 1))

-- Open: one more state that leads on, and what shuts it out
abbrev pub raised_with : List Framed → List Fact → List Obligation → State
raised_with lemmas facts obligations = record { level = 1; lemmas = lemmas; facts = facts; obligations = root_at 2 ∷ obligations; given = 50000; spent = 9; entries = 9 }

abbrev pub open_of : ℕ → ℤ → Step
open_of parent n = Step.Opens (record { parent = parent; atom = 0; seen = record { clause = 2; point = n ∷ [] }; cube = is_3 ∷ []; area = record { lits = is_3 ∷ []; model = n ∷ []; keep = 0 ∷ []; cube = is_3 ∷ [] } })

abbrev pub three_is_reached : Fact
three_is_reached = record { conclusion = Some (0, pos 3 ∷ []); clause = 0; point = pos 3 ∷ []; premises = []; height = 1 }

abbrev pub four_others : List Obligation
four_others = asks 1 0 2 (pos 11) (negsuc 10) ∷ asks 1 0 2 (pos 12) (negsuc 11) ∷ asks 1 0 2 (pos 13) (negsuc 12) ∷ asks 1 0 2 (pos 14) (negsuc 13) ∷ []

-- at most 9
abbrev pub at_most_9 : Lemma
at_most_9 = record { pred = 0; cube = Le (record { terms = (0, negsuc 0) ∷ []; constant = pos 10 }) ∷ [] }

-- a child of a child: 2 reaches 3
abbrev pub above_3 : State
above_3 = record { level = 2; lemmas = at_level 1 at_most_9 ∷ []; facts = []; obligations = root_at 3 ∷ asks 2 0 2 (pos 3) (negsuc 2) ∷ []; given = 50000; spent = 9; entries = 9 }

abbrev pub below_lits : List Lit
below_lits = Eq (record { terms = (0, pos 1) ∷ (1, negsuc 0) ∷ []; constant = pos 1 }) ∷ is_number 1 (negsuc 2) ∷ Le (record { terms = (0, pos 1) ∷ []; constant = negsuc 8 }) ∷ []

abbrev pub below_model : List ℤ
below_model = pos 2 ∷ pos 3 ∷ []

abbrev pub below_cube : List Lit
below_cube = projection below_model (0 ∷ []) below_lits

abbrev pub open_below : OpenStep
open_below = record { parent = 1; atom = 0; seen = record { clause = 1; point = below_model }; cube = below_cube; area = record { lits = below_lits; model = below_model; keep = 0 ∷ []; cube = below_cube } }

-- 3 or more must not be reached: an area has its own cube, which a single point can't stand for
abbrev pub at_least_3 : Lit
at_least_3 = Le (record { terms = (0, negsuc 0) ∷ []; constant = pos 3 })

abbrev pub bounded : Clauses
bounded = record { clauses = (record { assertion = 0; user = 1; sorts = Int ∷ []; atoms = at_variable 0 ∷ []; guard = Literal at_least_3; head = None }) ∷ []; preds = (Int ∷ []) ∷ [] }

abbrev pub open_7 : List Lit → List Lit → OpenStep
open_7 cube area = record { parent = 0; atom = 0; seen = record { clause = 0; point = pos 7 ∷ [] }; cube = cube; area = record { lits = at_least_3 ∷ []; model = pos 7 ∷ []; keep = 0 ∷ []; cube = area } }

-- ends
abbrev pub bare_below : State
bare_below = record (opening 50000) { level = 2; lemmas = at_level 2 not_3 ∷ []; obligations = root_at 3 ∷ [] }

abbrev pub all_stalled : State
all_stalled = record (opening 50000) { obligations = (record (root_at 1) { stalled = true }) ∷ [] }
