use Rattle.std.proofs.Common.{◌≡◌, List, Some, ap, sym, ◌∙◌, rules}
use Rattle.chc_tokens.specs.Queries.{query_at}
use Rattle.chc_tokens.specs.declared.used.Used.{Used}
use Rattle.chc_tokens.proofs.making.shown.Goals as goal

pub returns-clause-shown : goal.returns-clause-shown
returns-clause-shown c =
    let same : c.in_ok-query.query ≡ c.form.result.now = search rules in
    ap (λ (used : List Used). query_at c.args.sys.now c.args.clause c.args.goal used) (c.from_vec.ensures ∙ sym c.as_slice.ensures.value) ∙ c.in_ok-query.ensures ∙ ap Some (same ∙ c.form.ensures)
