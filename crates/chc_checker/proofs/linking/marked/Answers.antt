use Rattle.chc_checker.proofs.ReplaceLemmas.{marked_by}
use Rattle.chc_checker.proofs.linking.marked.Goals as goal

pub returns : goal.returns
returns c =
    marked_by c.in_ok-low.low.len c.in_ok-high.high.len c.in_ok-low.low.items c.in_ok-high.high.items c.as_mut_slice.result.now c.as_mut_slice-2.result.now c.mark.new.low c.mark.new.high
    c.args.form.now c.in_ok-low.ensures c.in_ok-high.ensures c.as_mut_slice.ensures.value c.as_mut_slice-2.ensures.value c.mark.ensures
