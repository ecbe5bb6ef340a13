-- A step passes the tests by the clause of its assertion exactly where its line is right.
use Rattle.std.proofs.Common.{◌≡◌, ℕ, suc, ◌≤◌, ◌==◌, List, length, Bool, true, false, ◌&&◌, refl, ap, sym, ◌∙◌, subst, arith}
use Rattle.std.proofs.lemmas.Bool.{and_from}
use Rattle.std.proofs.lemmas.Bool.Decides.{nat_tests}
use Rattle.std.specs.Prelude.{Some, Ok}
use Rattle.std.specs.List.{All, list_all}
use Rattle.term_tree.specs.declared.node.Node.{Node}
use Rattle.term_tree.specs.declared.script.Assertion.{Assertion}
use Rattle.term_tree.specs.declared.script.Script.{Script}
use Rattle.term_tree.specs.Truth.{HaveSorts}
use Rattle.term_tree.specs.Value.{Environment, environment_of}
use Rattle.term_tree.proofs.Public.{both_true}
use Rattle.horn_shape.specs.declared.clause.HornClause.{HornClause}
use Rattle.horn_shape.specs.Clause.{IsClauseOf, assertion_reading, content_of}
use Rattle.horn_shape.specs.Instance.{is_met}
use Rattle.horn_shape.specs.Shape.{Content, Reading}
use Rattle.answer_text.specs.declared.answer.Line.{Line}
use Rattle.cert_derivations.specs.Claims.{IsLine}
use Rattle.check_derivation.specs.machinery.Tests.{agree, fits, is_earlier, is_given, is_head, is_right, is_shaped}
use Rattle.check_derivation.proofs.AgreeLemmas.{agree_long}
use Rattle.check_derivation.proofs.TestLemmas.{are_earlier, are_given, earlier_are, eq_of, fits_are, given_are, have_fits, head_is, is_head_by}

same_some : (a b : Assertion) → Some a ≡ Some b → a ≡ b
same_some a b e = cc

same_content : (a b : Content) → (let r : Reading = Ok a in r) ≡ Ok b → a ≡ b
same_content a b e = cc

same_suc : (m n : ℕ) → suc m ≡ suc n → m ≡ n
same_suc m n e = omega (arith, e)

same_of : (m n : ℕ) → m ≡ n → (m == n) ≡ true
same_of m n h = grind (arith, nat_tests)

abbrev clause_by : ℕ → Content → HornClause
clause_by index c = record { assertion = index; vars = c.vars; atoms = c.atoms; guards = c.guards; head = c.head }

-- an assertion has one clause
pub clause_once : (script : Script) (index : ℕ) (a b : HornClause) → IsClauseOf script index a → IsClauseOf script index b → a ≡ b
clause_once script index a b x y =
    let same : x.assertion ≡ y.assertion = same_some x.assertion y.assertion (sym x.there ∙ y.there) in
    let contents : content_of a ≡ content_of b = same_content (content_of a) (content_of b) (sym x.reading ∙ ap (assertion_reading script) same ∙ y.reading) in
    ap (λ (n : ℕ). clause_by n (content_of a)) x.number ∙ ap (λ (c : Content). clause_by index c) contents ∙ ap (λ (n : ℕ). clause_by n (content_of b)) (sym y.number)

-- what can be told without a term's value
pub record IsShaped (number place : ℕ) (line : Line) (clause : HornClause) : Type 0 where
  pub place_is : line.number ≡ number
  pub counted : length line.premises ≡ length clause.atoms
  pub earlier : All (λ p. (1 ≤ p) × (p ≤ place)) line.premises
  pub sorts : HaveSorts clause.vars line.values

pub shape_is : (number place : ℕ) (line : Line) (clause : HornClause) → number ≡ suc place → is_shaped number line clause ≡ true → IsShaped number place line clause
shape_is number place line clause numbered h =
    let counted : Bool = (length line.premises == length clause.atoms) in
    let earlier : Bool = list_all (is_earlier number) line.premises in
    let t = both_true ((line.number == number) && counted && earlier) (agree fits clause.vars line.values) h in
    let s = both_true ((line.number == number) && counted) earlier t.0 in
    let r = both_true (line.number == number) counted s.0 in
    record {
      place_is = eq_of line.number number r.0;
      counted = eq_of (length line.premises) (length clause.atoms) r.1;
      earlier = earlier_are number place line.premises numbered s.1;
      sorts = fits_are clause.vars line.values t.1;
    }

module _ (script : Script) (lines : List Line) (number place : ℕ) (line : Line) (numbered : number ≡ suc place) where
  abbrev nodes : List Node
  nodes = script.terms.nodes

  abbrev env : Environment
  env = environment_of line.values

  pub right_is : (index : ℕ) (clause : HornClause) → line.assertion ≡ suc index → IsClauseOf script index clause → is_right nodes lines number line clause ≡ true → IsLine script lines place line
  right_is index clause names is h =
      let met : Bool = list_all (is_met nodes env) clause.guards in
      let given : Bool = agree (is_given nodes env lines) clause.atoms line.premises in
      let shaped : Bool = is_shaped number line clause in
      let d = both_true (shaped && met && given) (is_head nodes env clause.head line.head) h in
      let c = both_true (shaped && met) given d.0 in
      let b = both_true shaped met c.0 in
      let shape = shape_is number place line clause numbered b.0 in
      record {
        number = shape.place_is ∙ numbered;
        assertion = index;
        names = names;
        clause = clause;
        clause_is = is;
        instance = record { sorts = shape.sorts; guards = b.1 };
        earlier = shape.earlier;
        premises = given_are nodes env lines clause.atoms line.premises c.1;
        conclusion = head_is nodes env clause.head line.head d.1;
      }

  passes : (right : IsLine script lines place line) → is_right nodes lines number line right.clause ≡ true
  passes right =
      let given = are_given nodes env lines right.clause.atoms line.premises right.premises in
      let long = agree_long (is_given nodes env lines) right.clause.atoms line.premises given in
      let numbers = same_of line.number number (right.number ∙ sym numbered) in
      let counted = same_of (length line.premises) (length right.clause.atoms) (sym long) in
      let shaped = and_from _ _ (and_from _ _ (and_from _ _ numbers counted) (are_earlier number place line.premises numbered right.earlier)) (have_fits right.clause.vars line.values right.instance.sorts) in
      and_from _ _ (and_from _ _ (and_from _ _ shaped right.instance.guards) given) (is_head_by nodes env right.clause.head line.head right.conclusion)

  pub is_right_by : (index : ℕ) (clause : HornClause) → line.assertion ≡ suc index → IsClauseOf script index clause → IsLine script lines place line → is_right nodes lines number line clause ≡ true
  is_right_by index clause names is right =
      let same_index : right.assertion ≡ index = same_suc right.assertion index (sym right.names ∙ names) in
      let own : IsClauseOf script index right.clause = subst (λ (i : ℕ). IsClauseOf script i right.clause) same_index right.clause_is in
      subst (λ (c : HornClause). is_right nodes lines number line c ≡ true) (clause_once script index right.clause clause own is) (passes right)
