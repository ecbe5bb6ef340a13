-- The system of a script: the clause of each number is the normal clause of the assertion of that number.
use Rattle.std.proofs.Common.{◌≡◌, ℕ, zero, suc, ◌+◌, List, [], ◌∷◌, map, Bool, true, false, refl, ap, sym, ◌∙◌, arith}
use Rattle.std.specs.Prelude.{slice_get, slice_index_or, Option, Some, None, option_map, Result, Ok, Err, if◌then◌else◌}
use Rattle.std.proofs.lemmas.Option.{get_or_from_slice_get, slice_get-map}
use Rattle.term_tree.specs.declared.sort.Sort.{Sort}
use Rattle.term_tree.specs.declared.refusal.Checked.{Checked}
use Rattle.term_tree.specs.declared.refusal.Kind.TheVariants.{Count}
use Rattle.term_tree.specs.declared.refusal.Refusal.{Refusal}
use Rattle.term_tree.specs.declared.script.Assertion.{Assertion}
use Rattle.term_tree.specs.declared.script.Pred.{Pred as Declared}
use Rattle.term_tree.specs.declared.script.Script.{Script}
use Rattle.horn_shape.specs.declared.clause.HornClause.{HornClause}
use Rattle.horn_shape.specs.Clause.{IsClauseOf, assertion_reading}
use Rattle.horn_shape.specs.Shape.{Reading}
use Rattle.clause_form.specs.System.{Clauses}
use Rattle.clause_form.specs.declared.clause.Clause.{Clause}
use Rattle.clause_normal.specs.Normal.{first_without_room, is_too_large, normal_clause}
use Rattle.clause_normal.specs.Reading.{all_clauses, by_room, by_shape, normal_reading, clause_with, clause_and_others, refusal_at, system_reading, unless_stopped}
use Rattle.clause_normal.proofs.ReadingLemmas.{reading_is}
use Rattle.cert_derivations.proofs.LookUpLemmas.{some_is}

pub record IsMadeOf (script : Script) (sys : Clauses) : Type 0 where
  pub clauses : all_clauses script 0 script.asserts ≡ Ok sys.clauses
  pub preds : map (λ (p : Declared). p.args) script.preds ≡ sys.preds

system_is : (a b : Clauses) → (let r : Result Clauses Refusal = Ok a in r) ≡ Ok b → a ≡ b
system_is a b e = cc

pub system_made : (checked : Checked) (sys : Clauses) → system_reading checked ≡ Ok sys → IsMadeOf checked.script sys
system_made checked sys h = by_cases checked.stop (all_clauses checked.script 0 checked.script.asserts) refl h
  where
    by_cases : (stop : Option Refusal) (read : Result (List Clause) Refusal) → all_clauses checked.script 0 checked.script.asserts ≡ read
        → unless_stopped stop checked.script read ≡ Ok sys → IsMadeOf checked.script sys
    by_cases None (Err refusal) is made = absurd (cc)
    by_cases (Some stop) (Err refusal) is made = absurd (cc)
    by_cases (Some stop) (Ok clauses) is made = absurd (cc)
    by_cases None (Ok clauses) is made =
        let same = system_is (record { clauses = clauses; preds = map (λ (p : Declared). p.args) checked.script.preds }) sys made in
        record { clauses = is ∙ ap (λ (s : Clauses). Ok s.clauses) same; preds = ap (λ (s : Clauses). s.preds) same }

-- one clause

room_ok : (script : Script) (a : Assertion) (horn : HornClause) (clause : Clause) (found : Option ℕ) → by_room script a horn found ≡ Ok clause → normal_clause script horn ≡ clause
room_ok script a horn clause (Some id) h = absurd (cc)
room_ok script a horn clause None h = by_size (is_too_large script horn) h
  where
    by_size : (large : Bool) → (let r : Result Clause Refusal = if large then Err (refusal_at Count a.offset a) else Ok (normal_clause script horn) in r) ≡ Ok clause → normal_clause script horn ≡ clause
    by_size true e = absurd (cc)
    by_size false e = cc

pub record IsNormalAt (script : Script) (index : ℕ) (clause : Clause) : Type 0 where
  pub horn : HornClause
  pub is : IsClauseOf script index horn
  pub same : normal_clause script horn ≡ clause

read_from : (script : Script) (index : ℕ) (a : Assertion) (clause : Clause) → slice_get script.asserts index ≡ Some a → normal_reading script index a ≡ Ok clause → IsNormalAt script index clause
read_from script index a clause there h = by_reading (assertion_reading script a) refl h
  where
    by_reading : (read : Reading) → assertion_reading script a ≡ read → by_shape script index a read ≡ Ok clause → IsNormalAt script index clause
    by_reading (Err misfit) is made = absurd (cc)
    by_reading (Ok content) is made = record {
      horn = clause_with index content;
      is = record { assertion = a; there = there; reading = is; number = refl };
      same = room_ok script a (clause_with index content) clause (first_without_room script (clause_with index content)) made;
    }

-- all clauses

record IsOneMore (one : Result Clause Refusal) (others : Result (List Clause) Refusal) (clauses : List Clause) : Type 0 where
  first : Clause
  is_first : one ≡ Ok first
  rest : List Clause
  are_rest : others ≡ Ok rest
  whole : first ∷ rest ≡ clauses

more_ok : (one : Result Clause Refusal) (others : Result (List Clause) Refusal) (clauses : List Clause) → clause_and_others one others ≡ Ok clauses → IsOneMore one others clauses
more_ok (Err refusal) others clauses h = absurd (cc)
more_ok (Ok clause) (Err refusal) clauses h = absurd (cc)
more_ok (Ok clause) (Ok rest) clauses h = record { first = clause; is_first = refl; rest = rest; are_rest = refl; whole = cc }

no_clauses : (clauses : List Clause) → (let r : Result (List Clause) Refusal = Ok [] in r) ≡ Ok clauses → (i : ℕ) (clause : Clause) → slice_get clauses i ≡ Some clause → ⊥
no_clauses [] h i clause at = absurd (cc)
no_clauses (c ∷ clauses) h i clause at = absurd (cc)

from_start : (base i : ℕ) → base + 0 ≡ base
from_start base i = omega arith

one_on : (base i : ℕ) → (base + 1) + i ≡ base + suc i
one_on base i = omega arith

-- the clause of a number is read of the assertion of that number
record IsReadAt (script : Script) (base : ℕ) (asserts : List Assertion) (i : ℕ) (clause : Clause) : Type 0 where
  assertion : Assertion
  there : slice_get asserts i ≡ Some assertion
  reading : normal_reading script (base + i) assertion ≡ Ok clause

read_at : (script : Script) (base : ℕ) (asserts : List Assertion) (clauses : List Clause) → all_clauses script base asserts ≡ Ok clauses → (i : ℕ) (clause : Clause) → slice_get clauses i ≡ Some clause
    → IsReadAt script base asserts i clause
read_at script base [] clauses h i clause at = absurd (no_clauses clauses h i clause at)
read_at script base (a ∷ asserts) clauses h zero clause at =
    let parts = more_ok (normal_reading script base a) (all_clauses script (base + 1) asserts) clauses h in
    let same = some_is parts.first clause (ap (λ (cs : List Clause). slice_get cs 0) parts.whole ∙ at) in
    record { assertion = a; there = refl; reading = ap (λ (n : ℕ). normal_reading script n a) (from_start base 0) ∙ parts.is_first ∙ ap (λ (c : Clause). Ok c) same }
read_at script base (a ∷ asserts) clauses h (suc i) clause at =
    let parts = more_ok (normal_reading script base a) (all_clauses script (base + 1) asserts) clauses h in
    let later = read_at script (base + 1) asserts parts.rest parts.are_rest i clause (ap (λ (cs : List Clause). slice_get cs (suc i)) parts.whole ∙ at) in
    record { assertion = later.assertion; there = later.there; reading = ap (λ (n : ℕ). normal_reading script n later.assertion) (sym (one_on base i)) ∙ later.reading }

-- and each assertion has its clause
record HasClauseAt (script : Script) (base : ℕ) (clauses : List Clause) (i : ℕ) (a : Assertion) : Type 0 where
  clause : Clause
  there : slice_get clauses i ≡ Some clause
  reading : normal_reading script (base + i) a ≡ Ok clause

clause_at : (script : Script) (base : ℕ) (asserts : List Assertion) (clauses : List Clause) → all_clauses script base asserts ≡ Ok clauses → (i : ℕ) (a : Assertion) → slice_get asserts i ≡ Some a
    → HasClauseAt script base clauses i a
clause_at script base [] clauses h i a at = absurd (cc)
clause_at script base (b ∷ asserts) clauses h zero a at =
    let parts = more_ok (normal_reading script base b) (all_clauses script (base + 1) asserts) clauses h in
    let same = some_is b a at in
    record {
      clause = parts.first;
      there = ap (λ (cs : List Clause). slice_get cs 0) (sym parts.whole);
      reading = ap (λ (n : ℕ). normal_reading script n a) (from_start base 0) ∙ ap (normal_reading script base) (sym same) ∙ parts.is_first;
    }
clause_at script base (b ∷ asserts) clauses h (suc i) a at =
    let parts = more_ok (normal_reading script base b) (all_clauses script (base + 1) asserts) clauses h in
    let later = clause_at script (base + 1) asserts parts.rest parts.are_rest i a at in
    record {
      clause = later.clause;
      there = ap (λ (cs : List Clause). slice_get cs (suc i)) (sym parts.whole) ∙ later.there;
      reading = ap (λ (n : ℕ). normal_reading script n a) (sym (one_on base i)) ∙ later.reading;
    }

from_none : (i : ℕ) → 0 + i ≡ i
from_none i = omega arith

module _ (script : Script) (sys : Clauses) (made : IsMadeOf script sys) where
  pub normal_at : (i : ℕ) (clause : Clause) → slice_get sys.clauses i ≡ Some clause → IsNormalAt script i clause
  normal_at i clause at =
      let read = read_at script 0 script.asserts sys.clauses made.clauses i clause at in
      read_from script i read.assertion clause read.there (ap (λ (n : ℕ). normal_reading script n read.assertion) (sym (from_none i)) ∙ read.reading)

  pub normal_there : (i : ℕ) (horn : HornClause) → IsClauseOf script i horn → slice_get sys.clauses i ≡ Some (normal_clause script horn)
  normal_there i horn is =
      let has = clause_at script 0 script.asserts sys.clauses made.clauses i is.assertion is.there in
      let read : normal_reading script i is.assertion ≡ Ok has.clause = ap (λ (n : ℕ). normal_reading script n is.assertion) (sym (from_none i)) ∙ has.reading in
      let same = room_ok script is.assertion horn has.clause (first_without_room script horn) (sym (reading_is script i horn is is.assertion is.there) ∙ read) in
      has.there ∙ ap (λ (c : Clause). Some c) (sym same)

  -- the sorts of a predicate
  pub sorts_there : (pred : ℕ) (declared : Declared) → slice_get script.preds pred ≡ Some declared → slice_index_or sys.preds pred [] ≡ declared.args
  sorts_there pred declared there =
      get_or_from_slice_get sys.preds pred declared.args []
      (ap (λ (ps : List (List Sort)). slice_get ps pred) (sym made.preds) ∙ slice_get-map (λ (p : Declared). p.args) script.preds pred ∙ ap (option_map (λ (p : Declared). p.args)) there)
