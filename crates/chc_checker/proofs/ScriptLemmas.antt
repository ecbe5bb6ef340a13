-- A script whose clauses are a system has a clause with room for each assertion.
use Rattle.std.proofs.Common.{◌≡◌, ℕ, zero, suc, ◌+◌, List, [], ◌∷◌, Bool, refl, ap, sym, ◌∙◌, arith}
use Rattle.std.specs.Prelude.{slice_get, Option, Some, None, Result, Ok, Err}
use Rattle.term_tree.specs.declared.refusal.Checked.{Checked}
use Rattle.term_tree.specs.declared.refusal.Refusal.{Refusal}
use Rattle.term_tree.specs.declared.script.Assertion.{Assertion}
use Rattle.term_tree.specs.declared.script.Script.{Script}
use Rattle.horn_shape.specs.declared.clause.HornClause.{HornClause}
use Rattle.horn_shape.specs.Clause.{IsClauseOf, assertion_reading}
use Rattle.horn_shape.specs.Shape.{Reading}
use Rattle.clause_form.specs.System.{Clauses}
use Rattle.clause_form.specs.declared.clause.Clause.{Clause}
use Rattle.clause_normal.specs.Normal.{first_without_room}
use Rattle.clause_normal.specs.Reading.{all_clauses, by_room, by_shape, normal_reading, clause_with, clause_and_others, system_reading}
use Rattle.cert_derivations.proofs.Public.{IsMadeOf, system_made}
use Rattle.chc_checker.specs.Verdicts.{IsNormalScript}

-- what a clause that is read has
narrow_by : (script : Script) (a : Assertion) (horn : HornClause) (clause : Clause) (found : Option ℕ) → by_room script a horn found ≡ Ok clause → found ≡ None
narrow_by script a horn clause None h = refl
narrow_by script a horn clause (Some id) h = absurd (cc)

read_has : (script : Script) (index : ℕ) (a : Assertion) (clause : Clause) → slice_get script.asserts index ≡ Some a → normal_reading script index a ≡ Ok clause
    → (horn : HornClause) × IsClauseOf script index horn × (first_without_room script horn ≡ None)
read_has script index a clause there h = by_reading (assertion_reading script a) refl h
  where
    by_reading : (read : Reading) → assertion_reading script a ≡ read → by_shape script index a read ≡ Ok clause
        → (horn : HornClause) × IsClauseOf script index horn × (first_without_room script horn ≡ None)
    by_reading (Err misfit) is made = absurd (cc)
    by_reading (Ok content) is made = (
      clause_with index content,
      record { assertion = a; there = there; reading = is; number = refl },
      narrow_by script a (clause_with index content) clause (first_without_room script (clause_with index content)) made,
    )

record IsOneMore (one : Result Clause Refusal) (others : Result (List Clause) Refusal) : Type 0 where
  first : Clause
  is_first : one ≡ Ok first
  rest : List Clause
  are_rest : others ≡ Ok rest

more_ok : (one : Result Clause Refusal) (others : Result (List Clause) Refusal) (clauses : List Clause) → clause_and_others one others ≡ Ok clauses → IsOneMore one others
more_ok (Err refusal) others clauses h = absurd (cc)
more_ok (Ok clause) (Err refusal) clauses h = absurd (cc)
more_ok (Ok clause) (Ok rest) clauses h = record { first = clause; is_first = refl; rest = rest; are_rest = refl }

same_assertion : (a b : Assertion) → Some a ≡ Some b → a ≡ b
same_assertion a b e = cc

from_start : (base : ℕ) → base + 0 ≡ base
from_start base = omega arith

one_on : (base i : ℕ) → (base + 1) + i ≡ base + suc i
one_on base i = omega arith

from_none : (i : ℕ) → 0 + i ≡ i
from_none i = omega arith

each_read : (script : Script) (base : ℕ) (asserts : List Assertion) (clauses : List Clause) → all_clauses script base asserts ≡ Ok clauses → (i : ℕ) (a : Assertion) → slice_get asserts i ≡ Some a
    → (clause : Clause) × (normal_reading script (base + i) a ≡ Ok clause)
each_read script base [] clauses h i a at = absurd (cc)
each_read script base (b ∷ asserts) clauses h zero a at =
    let parts = more_ok (normal_reading script base b) (all_clauses script (base + 1) asserts) clauses h in (
      parts.first,
      ap (λ (n : ℕ). normal_reading script n a) (from_start base) ∙ ap (normal_reading script base) (sym (same_assertion b a at)) ∙ parts.is_first,
    )
each_read script base (b ∷ asserts) clauses h (suc i) a at =
    let parts = more_ok (normal_reading script base b) (all_clauses script (base + 1) asserts) clauses h in
    let later = each_read script (base + 1) asserts parts.rest parts.are_rest i a at in
    (later.0, ap (λ (n : ℕ). normal_reading script n a) (sym (one_on base i)) ∙ later.1)

pub normal_script : (checked : Checked) (sys : Clauses) → system_reading checked ≡ Ok sys → IsNormalScript checked.script
normal_script checked sys h index assertion there =
    let script = checked.script in
    let read = each_read script 0 script.asserts sys.clauses (system_made checked sys h).clauses index assertion there in
    read_has script index assertion read.0 there (ap (λ (n : ℕ). normal_reading script n assertion) (sym (from_none index)) ∙ read.1)
