-- Why an assertion that is a Horn clause has no normal clause here: a number without room, and then a number of variables
-- or atoms past a limit.
use Rattle.std.specs.Prelude.{◌≡◌, ℕ, slice_get, Some, None, true}
use Rattle.term_tree.specs.declared.script.Assertion.{Assertion}
use Rattle.term_tree.specs.declared.script.Script.{Script}
use Rattle.horn_shape.specs.declared.clause.HornClause.{HornClause}
use Rattle.clause_normal.specs.Normal.{first_without_room, is_too_large}

-- the first term without room starts there
pub record IsWideAt (script : Script) (clause : HornClause) (offset : ℕ) : Type 0 where
  pub term : ℕ
  pub wide : first_without_room script clause ≡ Some term
  pub start : slice_get script.terms.offsets term ≡ Some offset

-- every number has room, the clause is too large, and its command starts there
pub record IsTooLargeAt (script : Script) (clause : HornClause) (offset : ℕ) : Type 0 where
  pub narrow : first_without_room script clause ≡ None
  pub large : is_too_large script clause ≡ true
  pub assertion : Assertion
  pub there : slice_get script.asserts clause.assertion ≡ Some assertion
  pub start : assertion.offset ≡ offset
