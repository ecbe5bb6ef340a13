use Rattle.std.proofs.Common.{◌≤◌, sym, arith, length}
use Rattle.std.proofs.lemmas.List.{length-take-le}
use Rattle.guess_table.proofs.met.Walk.first.Goals as goal

pub slice_bounds-result-end : goal.slice_bounds-result-end
slice_bounds-result-end c =
    let many : 160 ≤ length c.as_slice-all.result.now = omega arith in
    sym (length-take-le 160 c.as_slice-all.result.now many)
