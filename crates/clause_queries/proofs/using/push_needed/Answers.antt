use Rattle.std.proofs.Common.{◌++◌, List, ap, ◌∙◌}
use Rattle.chc_tokens.specs.declared.used.Used.{Used}
use Rattle.clause_queries.specs.Uses.{uses_on}
use Rattle.clause_queries.proofs.NeedLemmas.{both-taken}
use Rattle.clause_queries.proofs.using.push_needed.Goals as goal

pub returns : goal.returns
returns c =
    let here = uses_on c.args.k c.args.number c.args.pred c.args.frames.now.lemmas in
    both-taken c.args.needed.now.used.items here _ _ _ _ c.new-newest.ensures (c.of.ensures ∙ c.in_ok-push_on.ensures ∙ ap (λ (us : List Used). us ++ here) c.new-all.ensures.items) c.in_ok-take_all.ensures c.in_ok-take_all-2.ensures
