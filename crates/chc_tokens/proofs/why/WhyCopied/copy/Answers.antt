use Rattle.std.proofs.Common.{List, ap, sym, ◌∙◌}
use Rattle.refutation_trees.specs.declared.gave_up.GaveUp.{GaveUp}
use Rattle.chc_tokens.specs.declared.used.Used.{Used}
use Rattle.chc_tokens.specs.declared.why.Why.TheVariants.{Unknown}
use Rattle.chc_tokens.proofs.why.WhyCopied.copy.Goals as goal

pub returns-in_ok-evidence-in-Unknown : goal.returns-in_ok-evidence-in-Unknown
returns-in_ok-evidence-in-Unknown c =
    let it = c.in-Unknown in
    ap (λ (used : List Used). Unknown it.clause used c.in_ok-evidence-in-Unknown.evidence) c.in_ok-used-in-Unknown.ensures ∙ ap (λ (evidence : GaveUp). Unknown it.clause it.used evidence) c.in_ok-evidence-in-Unknown.ensures ∙ sym it.is
