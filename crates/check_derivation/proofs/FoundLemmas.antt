-- What is found at one step.
use Rattle.std.proofs.Common.{◌≡◌, ℕ, zero, suc, ◌<◌, ◌≤◌, List, [], ◌∷◌, ◌++◌, length, Bool, true, false, inl, inr, refl, ap, sym, ◌∙◌, subst, arith}
use Rattle.std.proofs.lemmas.Bool.{cases_lt}
use Rattle.std.proofs.lemmas.Option.{slice_get_within}
use Rattle.std.specs.Prelude.{Some, None, Ok, Err, slice_get}
use Rattle.term_tree.specs.declared.node.TermId.{TermId}
use Rattle.term_tree.specs.declared.script.Assertion.{Assertion}
use Rattle.term_tree.specs.declared.script.Script.{Script}
use Rattle.term_tree.specs.Value.{environment_of}
use Rattle.horn_shape.specs.declared.clause.HornClause.{HornClause}
use Rattle.horn_shape.specs.declared.clause.Part.{Part}
use Rattle.horn_shape.specs.Clause.{IsClauseOf, IsNotHornAt, assertion_reading, content_of}
use Rattle.horn_shape.specs.Shape.{Content, Reading}
use Rattle.answer_text.specs.declared.answer.Line.{Line}
use Rattle.cert_derivations.specs.Claims.{IsLine}
use Rattle.check_derivation.specs.Findings.{AreRightBefore, HasWide, IsPartOf, IsLineReached, IsWideAt, IsWrongAt}
use Rattle.check_derivation.specs.machinery.Tests.{AreClausesOf, IsJudged, is_right, is_shaped, unless_right}
use Rattle.check_derivation.proofs.RightLemmas.{is_right_by, right_is, shape_is}

-- what holds of each item at its place, where one more is put behind them
pub each-more : {X : Type 0} (P : ℕ → X → Type 0) (items : List X) (x : X) (n : ℕ) → length items ≡ n → P n x → ((i : ℕ) (y : X) → slice_get items i ≡ Some y → P i y)
    → (i : ℕ) (y : X) → slice_get (items ++ x ∷ []) i ≡ Some y → P i y
each-more P [] x n long last each zero y at = let is : x ≡ y = cc in subst (λ (k : ℕ). P k y) (sym long) (subst (P n) is last)
each-more P [] x n long last each (suc i) y at = absurd (cc)
each-more P (z ∷ items) x n long last each zero y at = each zero y at
each-more P (z ∷ items) x zero long last each (suc i) y at = absurd (omega (arith, long))
each-more P (z ∷ items) x (suc n) long last each (suc i) y at = each-more (λ k. P (suc k)) items x n (omega (arith, long)) last (λ j w there. each (suc j) w there) i y at

differs : true ≡ false → ⊥
differs e = absurd (cc)

-- the clause is that of the assertion that the line names
abbrev pub IsNamed : Script → Line → HornClause → Type 0
IsNamed script line clause = (index : ℕ) × (line.assertion ≡ suc index) × IsClauseOf script index clause

module _ (script : Script) (lines : List Line) (number : ℕ) (line : Line) (clause : HornClause) (named : IsNamed script line clause) where
  pub right_found : is_right script.terms.nodes lines number line clause ≡ true → IsJudged script lines number line None
  right_found h = λ place numbered. right_is script lines number place line numbered named.0 clause named.1 named.2 h

  pub wrong_found : IsLineReached script lines number line → is_right script.terms.nodes lines number line clause ≡ false → IsWrongAt script lines number
  wrong_found reached h =
      inl (record {
        line = line;
        reached = reached;
        wrong = λ right. differs (sym (is_right_by script lines number reached.place line reached.numbered named.0 clause named.1 named.2 right) ∙ h);
      })

  -- both at once
  pub told_found : IsLineReached script lines number line → (right : Bool) → is_right script.terms.nodes lines number line clause ≡ right → IsJudged script lines number line (unless_right right number)
  told_found reached true h = right_found h
  told_found reached false h = wrong_found reached h

  pub wide_found : (term : ℕ) → IsLineReached script lines number line → is_shaped number line clause ≡ true
      → (part : Part) × IsPartOf clause part × HasWide script.terms.nodes (environment_of line.values) part term → IsWideAt script lines number term
  wide_found term reached shaped found = let shape = shape_is number reached.place line clause reached.numbered shaped in record {
    line = line;
    reached = reached;
    assertion = named.0;
    names = named.1;
    clause = clause;
    clause_is = named.2;
    place_is = shape.place_is;
    counted = shape.counted;
    earlier = shape.earlier;
    sorts = shape.sorts;
    part = found.0;
    of_clause = found.1;
    wide = found.2;
  }

-- it has the number of a line
pub reached_within : (script : Script) (lines : List Line) (number : ℕ) (line : Line) → IsLineReached script lines number line → number ≤ length lines
reached_within script lines number line reached =
    let less : reached.place < length lines = slice_get_within lines reached.place line reached.there in
    let numbered = reached.numbered in
    omega (arith, less, numbered)

-- no assertion has the number 0, or one past theirs
pub unnamed_zero : (script : Script) (lines : List Line) (number : ℕ) (line : Line) → IsLineReached script lines number line → line.assertion ≡ 0 → IsWrongAt script lines number
unnamed_zero script lines number line reached none =
    inl (record { line = line; reached = reached; wrong = λ right. (let e : 0 ≡ suc right.assertion = sym none ∙ right.names in absurd (omega (arith, e))) })

pub unnamed_past : (script : Script) (clauses : List HornClause) (lines : List Line) (number : ℕ) (line : Line) → AreClausesOf script clauses → IsLineReached script lines number line
    → length clauses < line.assertion → IsWrongAt script lines number
unnamed_past script clauses lines number line are reached past =
    inl (record {
      line = line;
      reached = reached;
      wrong = λ right.
          let is = right.clause_is in
          let less : right.assertion < length script.asserts = slice_get_within script.asserts right.assertion is.assertion is.there in
          let names = right.names in
          let long = are.long in
          absurd (omega (arith, less, names, long, past));
    })

-- one more line is right
pub right_more : (script : Script) (lines : List Line) (place : ℕ) (line : Line) → slice_get lines place ≡ Some line → AreRightBefore script lines place → IsLine script lines place line
    → (i : ℕ) (other : Line) → i < suc place → slice_get lines i ≡ Some other → IsLine script lines i other
right_more script lines place line there before right i other less at = elim (cases_lt i place) [
  | inl earlier ↦ before i other earlier at
  | inr late ↦
      let same : place ≡ i = omega (arith, less, late) in
      let here : line ≡ other = same_line line other (sym there ∙ ap (slice_get lines) same ∙ at) in
      subst (λ (l : Line). IsLine script lines i l) here (subst (λ (k : ℕ). IsLine script lines k line) same right)
]
  where
    same_line : (a b : Line) → Some a ≡ Some b → a ≡ b
    same_line a b e = cc

-- an assertion that has a clause fits its forms
pub not_both : (script : Script) (index offset : ℕ) (clause : HornClause) (bad : IsNotHornAt script index offset) → IsClauseOf script index clause → ⊥
not_both script index offset clause bad is =
    let same : bad.assertion ≡ is.assertion = same_assertion bad.assertion is.assertion (sym bad.there ∙ is.there) in
    misread bad.misfit (content_of clause) (sym bad.reading ∙ ap (assertion_reading script) same ∙ is.reading)
  where
    same_assertion : (a b : Assertion) → Some a ≡ Some b → a ≡ b
    same_assertion a b e = cc

    misread : (misfit : TermId) (content : Content) → (let r : Reading = Err misfit in r) ≡ Ok content → ⊥
    misread misfit content e = absurd (cc)
