use Rattle.std.proofs.Common.{◌≡◌, ◌+◌, ℕ, suc, List, length, take, refl, subst, arith, rules}
use Rattle.std.proofs.lemmas.Option.{slice_get_read}
use Rattle.std.specs.Prelude.{slice_get, Option, Some, None}
use Rattle.std.specs.List.{AllByRecursion}
use Rattle.term_tree.specs.Solution.{IsTrueUnder}
use Rattle.horn_shape.specs.declared.clause.HornClause.{HornClause}
use Rattle.chc_checker.specs.declared.verdict.Verdict.{Verdict}
use Rattle.chc_checker.specs.machinery.Judging.{IsDecided}
use Rattle.chc_checker.proofs.JudgeLemmas.{all_more}
use Rattle.chc_checker.proofs.model.check_model.Goals as goal

pub judged-requires-clause-reached : goal.judged-requires-clause-reached
judged-requires-clause-reached c =
    let index : ℕ = c.loop-index.index in
    let clause = c.clause-item.result in
    let list = c.deref-clause-items.result.now in
    let items : list ≡ c.in_ok-clauses.clauses.items = search rules in
    let here : slice_get list index ≡ Some clause = slice_get_read list (length list) index clause refl c.loop-index-test.true c.clause-item.is in
    let there : slice_get c.in_ok-clauses.clauses.items index ≡ Some clause = subst (λ (l : List HornClause). slice_get l index ≡ Some clause) items here in
    let numbered : index + 1 ≡ suc index = omega arith in
    record { index = index; numbered = numbered; is = c.in_ok-clauses.ensures.each index clause there; before = c.loop-index.invariant }

pub loop-index-preserved : goal.loop-index-preserved
loop-index-preserved c =
    let script = c.args.script.now in
    let defs = c.args.definitions.now in
    let index : ℕ = c.loop-index.index in
    let clause = c.clause-item.result in
    let list = c.deref-clause-items.result.now in
    let items : list ≡ c.in_ok-clauses.clauses.items = search rules in
    let here : slice_get list index ≡ Some clause = slice_get_read list (length list) index clause refl c.loop-index-test.true c.clause-item.is in
    let there : slice_get c.in_ok-clauses.clauses.items index ≡ Some clause = subst (λ (l : List HornClause). slice_get l index ≡ Some clause) items here in
    let is = c.in_ok-clauses.ensures.each index clause there in
    let none : IsDecided c.args.nodes script defs (index + 1) None = subst (λ (f : Option Verdict). IsDecided c.args.nodes script defs (index + 1) f) c.in_default.is c.in_ok-found.ensures in
    let numbered : index + 1 ≡ suc index = omega arith in
    let next : suc index ≡ index + 1 = omega arith in
    subst (λ (n : ℕ). AllByRecursion (IsTrueUnder defs script) (take n script.asserts)) next
    (all_more (IsTrueUnder defs script) script.asserts index is.assertion is.there c.loop-index.invariant (none index is.assertion numbered is.there))
