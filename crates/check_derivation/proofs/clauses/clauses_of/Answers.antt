use Rattle.std.proofs.Common.{rules, ◌≡◌, ℕ, List, ◌∷◌, [], ◌++◌, sym, subst}
use Rattle.std.specs.Prelude.{slice_get, Some}
use Rattle.horn_shape.specs.declared.clause.HornClause.{HornClause}
use Rattle.horn_shape.specs.Clause.{IsClauseOf}
use Rattle.check_derivation.proofs.FoundLemmas.{each-more}
use Rattle.check_derivation.proofs.clauses.clauses_of.Goals as goal

pub loop-index-preserved : goal.loop-index-preserved
loop-index-preserved c =
    let script = c.args.script.now in
    let so_far = c.loop-index.invariant in
    let clause = c.in_ok-clause.clause in
    record {
      long = search rules;
      each = subst (λ (clauses : List HornClause). (i : ℕ) (one : HornClause) → slice_get clauses i ≡ Some one → IsClauseOf script i one) (sym c.in_ok-push.ensures.items)
          (each-more (IsClauseOf script) c.loop-index.clauses.items clause c.loop-index.index so_far.long c.in_ok-clause.ensures so_far.each);
    }
