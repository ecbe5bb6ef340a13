use Rattle.chc_checker.proofs.ReplaceLemmas.{within_lent}
use Rattle.chc_checker.proofs.linking.without_links.Goals as goal

pub rewritten-requires : goal.rewritten-requires
rewritten-requires c =
    within_lent c.in_ok-low.low.items c.in_ok-low.high.items c.as_slice.result.now c.as_slice-2.result.now c.args.form.now c.as_slice.ensures.value c.as_slice-2.ensures.value c.in_ok-low.ensures
