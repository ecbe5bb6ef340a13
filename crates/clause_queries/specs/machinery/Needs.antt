-- Uses without those that are needless.
use Rattle.std.specs.Prelude.{◌≡◌, ◌==◌, ◌&&◌, ℤ, List, Bool, true}
use Rattle.std.specs.List.{All, Contains, list_all}
use Rattle.clause_form.specs.declared.clause.Clause.{Clause}
use Rattle.chc_tokens.specs.Tokens.{is_passed}
use Rattle.chc_tokens.specs.declared.used.Used.{Used}
use Rattle.book_rules.specs.Areas.{is_among}

-- on the same atom, and each literal of the first lemma's cube is one of the second's: what the first accepts, the second accepts, too
abbrev pub is_stronger : Used → Used → Bool
is_stronger one other = (one.atom == other.atom) && list_all (is_among other.lemma) one.lemma

-- some of these uses, and where they accept the tuples of their atoms all of these do
pub record AreEnough (whole part : List Used) : Type 0 where
  pub each : All (Contains whole) part
  pub enough : (clause : Clause) (point : List ℤ) → list_all (is_passed point clause) part ≡ true → list_all (is_passed point clause) whole ≡ true
