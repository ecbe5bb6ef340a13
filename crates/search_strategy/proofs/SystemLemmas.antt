-- The system of a legal script: its clauses are as many as its assertions, and each has at most 64 body atoms.
use Rattle.std.proofs.Common.{◌≡◌, ℕ, ◌+◌, ◌<◌, ◌≤◌, ◌^◌, List, [], ◌∷◌, map, length, Bool, true, false, ◌||◌, refl, subst, arith}
use Rattle.std.specs.Prelude.{nat_lt, Option, Some, None, Result, Ok, Err, if◌then◌else◌}
use Rattle.std.proofs.lemmas.Bool.Decides.{nat_tests}
use Rattle.std.proofs.lemmas.List.{length-map}
use Rattle.term_tree.specs.declared.refusal.Checked.{Checked}
use Rattle.term_tree.specs.declared.refusal.Kind.TheVariants.{Count}
use Rattle.term_tree.specs.declared.refusal.Refusal.{Refusal}
use Rattle.term_tree.specs.declared.script.Assertion.{Assertion}
use Rattle.term_tree.specs.declared.script.Pred.{Pred as Declared}
use Rattle.term_tree.specs.declared.script.Script.{Script}
use Rattle.horn_shape.specs.declared.clause.HornClause.{HornClause}
use Rattle.horn_shape.specs.Clause.{IsLegalScript, assertion_reading}
use Rattle.horn_shape.specs.Shape.{Reading}
use Rattle.clause_form.specs.System.{Clauses, most_variables}
use Rattle.clause_form.specs.declared.clause.Clause.{Clause}
use Rattle.clause_normal.specs.Normal.{auxiliaries, first_without_room, is_too_large, most_atoms, most_own, names_of, normal_atom, normal_clause}
use Rattle.clause_normal.specs.Reading.{all_clauses, by_room, by_shape, normal_reading, clause_with, clause_and_others, refusal_at, system_reading, unless_stopped}
use Rattle.book_rules.specs.Walks.{AllOf}
use Rattle.book_rules.proofs.ListLemmas.{both_false}
use Rattle.search_strategy.specs.Runs.{CanRun}

abbrev IsShort : Clause → Type 0
IsShort clause = length clause.atoms < 2 ^ 32

le_of : (most n : ℕ) → nat_lt most n ≡ false → n ≤ most
le_of most n h = grind (arith, nat_tests, h)

short_normal : (script : Script) (horn : HornClause) → is_too_large script horn ≡ false → IsShort (normal_clause script horn)
short_normal script horn h =
    let last = nat_lt most_variables (length horn.vars + length (auxiliaries script horn)) in
    let first = (both_false (nat_lt most_own (length horn.vars) || nat_lt most_atoms (length horn.atoms)) last h).0 in
    let few = (both_false (nat_lt most_own (length horn.vars)) (nat_lt most_atoms (length horn.atoms)) first).1 in
    let most : length horn.atoms ≤ most_atoms = le_of most_atoms (length horn.atoms) few in
    let long = length-map horn.atoms (normal_atom (names_of script horn) script.terms.nodes) in
    omega (arith, most, long)

short_room : (script : Script) (a : Assertion) (horn : HornClause) (clause : Clause) (found : Option ℕ) → by_room script a horn found ≡ Ok clause → IsShort clause
short_room script a horn clause (Some id) h = absurd (cc)
short_room script a horn clause None h = by_size (is_too_large script horn) refl h
  where
    by_size : (large : Bool) → is_too_large script horn ≡ large
        → (let r : Result Clause Refusal = if large then Err (refusal_at Count a.offset a) else Ok (normal_clause script horn) in r) ≡ Ok clause → IsShort clause
    by_size true is e = absurd (cc)
    by_size false is e = let same : normal_clause script horn ≡ clause = cc in subst IsShort same (short_normal script horn is)

short_one : (script : Script) (index : ℕ) (a : Assertion) (clause : Clause) → normal_reading script index a ≡ Ok clause → IsShort clause
short_one script index a clause h = by_reading (assertion_reading script a) h
  where
    by_reading : (read : Reading) → by_shape script index a read ≡ Ok clause → IsShort clause
    by_reading (Err misfit) made = absurd (cc)
    by_reading (Ok content) made = short_room script a (clause_with index content) clause (first_without_room script (clause_with index content)) made

record AreShortOf (asserts : List Assertion) (clauses : List Clause) : Type 0 where
  few : AllOf IsShort clauses
  long : length clauses ≡ length asserts

none_made : (refusal : Refusal) (clauses : List Clause) → (let r : Result (List Clause) Refusal = Err refusal in r) ≡ Ok clauses → ⊥
none_made refusal clauses made = absurd (cc)

these_made : (own clauses : List Clause) → (let r : Result (List Clause) Refusal = Ok own in r) ≡ Ok clauses → own ≡ clauses
these_made own clauses made = cc

short_all : (script : Script) (index : ℕ) (asserts : List Assertion) (clauses : List Clause) → all_clauses script index asserts ≡ Ok clauses → AreShortOf asserts clauses
short_all script index [] clauses h = let same : [] ≡ clauses = these_made [] clauses h in subst (AreShortOf []) same (record { few = tt; long = refl })
short_all script index (a ∷ asserts) clauses h = by (normal_reading script index a) (all_clauses script (index + 1) asserts) refl (λ more is. short_all script (index + 1) asserts more is) refl h
  where
    by : (one : Result Clause Refusal) (rest : Result (List Clause) Refusal) → normal_reading script index a ≡ one
        → ((more : List Clause) → all_clauses script (index + 1) asserts ≡ Ok more → AreShortOf asserts more)
        → all_clauses script (index + 1) asserts ≡ rest → clause_and_others one rest ≡ Ok clauses → AreShortOf (a ∷ asserts) clauses
    by (Err refusal) rest is others are made = absurd (none_made refusal clauses made)
    by (Ok clause) (Err refusal) is others are made = absurd (none_made refusal clauses made)
    by (Ok clause) (Ok more) is others are made =
        let same : clause ∷ more ≡ clauses = these_made (clause ∷ more) clauses made in
        let tail = others more are in
        let long = tail.long in
        subst (AreShortOf (a ∷ asserts)) same (record { few = (short_one script index a clause is, tail.few); long = omega (arith, long) })

can_run : (checked : Checked) (sys : Clauses) (clauses : List Clause) → IsLegalScript checked.script → AreShortOf checked.script.asserts clauses
    → (let s : Clauses = record { clauses = clauses; preds = map (λ (p : Declared). p.args) checked.script.preds } in s) ≡ sys → CanRun sys
can_run checked sys clauses legal short same =
    let few_asserts = legal.few_asserts in
    let few_preds = legal.few_preds in
    let long = short.long in
    let preds = length-map checked.script.preds (λ (p : Declared). p.args) in
    subst CanRun same (record { numbered = (omega (arith, few_asserts, long), omega (arith, few_preds, preds)); few = short.few })

pub systems_can_run : (checked : Checked) (sys : Clauses) → IsLegalScript checked.script → system_reading checked ≡ Ok sys → CanRun sys
systems_can_run checked sys legal h = by_cases checked.stop (all_clauses checked.script 0 checked.script.asserts) refl h
  where
    by_cases : (stop : Option Refusal) (read : Result (List Clause) Refusal) → all_clauses checked.script 0 checked.script.asserts ≡ read
        → unless_stopped stop checked.script read ≡ Ok sys → CanRun sys
    by_cases None (Err refusal) is made = absurd (cc)
    by_cases (Some stop) (Err refusal) is made = absurd (cc)
    by_cases (Some stop) (Ok clauses) is made = absurd (cc)
    by_cases None (Ok clauses) is made = can_run checked sys clauses legal (short_all checked.script 0 checked.script.asserts clauses is) (cc)
