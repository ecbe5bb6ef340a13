-- Clauses that are as a system needs them, one after the other.
use Rattle.std.proofs.Common.{◌≡◌, ℕ, ◌<◌, ◌≤◌, ◌^◌, List, [], ◌∷◌, ◌++◌, map, Bool, true, false, ◌&&◌, refl, ap, sym, ◌∙◌, arith}
use Rattle.std.proofs.lemmas.List.Folds.{list_all-append}
use Rattle.std.specs.Prelude.{slice_get, Some, None}
use Rattle.term_tree.specs.declared.sort.Sort.{Sort}
use Rattle.term_tree.specs.declared.script.Assertion.{Assertion}
use Rattle.term_tree.specs.declared.script.Pred.{Pred as Declared}
use Rattle.term_tree.specs.declared.script.Script.{Script}
use Rattle.term_tree.specs.Arena.{IsArena}
use Rattle.horn_shape.specs.declared.clause.HornClause.{HornClause}
use Rattle.horn_shape.specs.Clause.{IsClauseOf, IsLegalScript}
use Rattle.clause_form.specs.declared.clause.Clause.{Clause}
use Rattle.clause_form.specs.System.{are_clauses, is_clause}
use Rattle.clause_normal.specs.Normal.{first_without_room, is_too_large, normal_clause, top_of}
use Rattle.clause_normal.specs.machinery.Making.{HasFewArguments}
use Rattle.clause_normal.proofs.KeptLemmas.{clause_kept}
use Rattle.clause_normal.proofs.MadeLemmas.{subterm_most, top_is}
use Rattle.clause_normal.proofs.ReadingLemmas.{same_assertion}

-- the normal clause of an assertion whose term has a number of 32 bits
pub kept_here : (script : Script) (index : ℕ) (clause : HornClause) → IsArena script.terms.nodes → IsLegalScript script → IsClauseOf script index clause → (a : Assertion) → slice_get script.asserts index ≡ Some a
    → a.term.0 < 2 ^ 32 → HasFewArguments script.terms.nodes → first_without_room script clause ≡ None → is_too_large script clause ≡ false
    → is_clause (map (λ (p : Declared). p.args) script.preds) (normal_clause script clause) ≡ true
kept_here script index clause arena legal is a there small few_args narrow few =
    let own : IsClauseOf script clause.assertion clause = record { assertion = is.assertion; there = ap (slice_get script.asserts) is.number ∙ is.there; reading = is.reading; number = refl } in
    let same : is.assertion ≡ a = same_assertion is.assertion a (sym is.there ∙ there) in
    let top : top_of script clause ≡ a.term.0 = top_is script clause arena legal own ∙ ap (λ (x : Assertion). x.term.0) same in
    clause_kept script clause arena legal own narrow (λ id op args sub at.
    let most : id ≤ top_of script clause = subterm_most script.terms.nodes arena (top_of script clause) id sub in
    few_args id op args (omega (arith, most, top, small)) at) few

-- one more
pub kept_more : (preds : List (List Sort)) (clauses new : List Clause) (one : Clause) → are_clauses preds clauses ≡ true → is_clause preds one ≡ true → new ≡ clauses ++ one ∷ [] → are_clauses preds new ≡ true
kept_more preds clauses new one so_far is pushed =
    ap (are_clauses preds) pushed ∙ list_all-append (is_clause preds) clauses (one ∷ []) ∙ ap (λ (b : Bool). b && (is_clause preds one && true)) so_far ∙ ap (λ (b : Bool). b && true) is
